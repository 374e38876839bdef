-- `keep_entered` meets its contract. The loops' invariants: the nodes that the links before row v, and before place k, give a cause to keep are
-- kept.
use Prim.Native.Nat.{◌≤◌}
use Rattle.layout.specs.Layout.{row_from}
use Rattle.keeping.specs.Keeping.{Markable, Entering}
use Rattle.keeping.proofs.Keeping.{InRow}
use Rattle.keeping.proofs.keep.keep_entered.Given as goal

abbrev pub invariant-loop-k : goal.invariant-loop-k
invariant-loop-k l = InRow l.s l.marks l.v l.k l.initial.keep l.initial.entered l.keep l.entered

abbrev pub invariant-loop-v : goal.invariant-loop-v
invariant-loop-v l = (l.v ≤ l.nodes) × Markable l.s l.marks l.keep × Entering l.s l.marks (row_from l.s l.v) l.initial.keep l.keep l.entered
