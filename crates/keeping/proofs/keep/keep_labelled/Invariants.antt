-- `keep_labelled` meets its contract. The loop's invariant: the nodes before v whose wanted label is not top are kept.
use Prim.Native.Nat.{◌≤◌}
use Rattle.keeping.specs.Keeping.{Grown, Untop}
use Rattle.keeping.proofs.keep.keep_labelled.Given as goal

abbrev pub invariant-loop-v : goal.invariant-loop-v
invariant-loop-v l = (l.v ≤ l.nodes) × Grown (Untop l.n l.table l.labels l.v) l.initial.keep l.keep
