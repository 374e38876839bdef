-- `meet_over` meets its contract. The loop's invariant: the array holds the meets of the labels of g's nodes from y on.
use Rattle.wanting.proofs.Wanting.{Meeting}
use Rattle.wanting.proofs.meet_over.Given as goal

abbrev pub invariant-loop-y : goal.invariant-loop-y
invariant-loop-y l = Meeting l.n l.down l.nodes l.g l.map l.y l.met
