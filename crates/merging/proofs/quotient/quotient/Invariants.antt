-- `quotient` meets its contract. The loop's invariant: the rows of the nodes before x are built.
use Rattle.std.proofs.Common.{◌≡◌, length}
use Rattle.merging.proofs.Filling.{Filling}
use Rattle.merging.proofs.quotient.quotient.Given as goal

abbrev pub invariant-loop-x : goal.invariant-loop-x
invariant-loop-x l =
    Filling l.nodes l.class l.labels l.spans.start l.spans.end l.pool l.graph l.at l.x × (length l.graph ≡ length l.initial.graph)
