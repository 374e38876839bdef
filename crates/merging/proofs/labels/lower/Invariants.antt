-- `lower` meets its contract. The loop's invariant: the nodes from v on have lowered the labels of their classes.
use Rattle.bounds.specs.Sets.{meet_in}
use Rattle.merging.proofs.Lowering.{Lowering}
use Rattle.merging.proofs.labels.lower.Given as goal

abbrev pub invariant-loop-v : goal.invariant-loop-v
invariant-loop-v l =
    Lowering (meet_in l.n l.sets l.cells) l.graph l.class l.shift l.initial.labels l.labels l.v
