-- `filling::fill` meets its contract. The loop's invariant: the rows of the first v nodes are built.
use Rattle.rows.proofs.FilledRows.{Filling}
use Rattle.rows.proofs.filling.fill.Given as goal

abbrev pub invariant-loop-v : goal.invariant-loop-v
invariant-loop-v l = Filling l.nodes l.targets l.graph l.at l.v
