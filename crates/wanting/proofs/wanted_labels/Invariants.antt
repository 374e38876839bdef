-- `wanted_labels` meets its contract. The loop's invariant: the wanted labels of the nodes before v are stored.
use Rattle.wanting.proofs.Wanting.{Wanting}
use Rattle.wanting.proofs.wanted_labels.Given as goal

abbrev pub invariant-loop-v : goal.invariant-loop-v
invariant-loop-v l = Wanting l.n l.table l.down l.s l.g l.map l.met l.v l.labels
