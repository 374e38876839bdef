-- `mark` meets its contract. The loops' invariants: the links before row v, and before place k, are marked.
use Prim.Native.Nat.{◌≤◌}
use Rattle.layout.specs.Layout.{row_from}
use Rattle.groups.specs.Marks.{Owned, Marking}
use Rattle.groups.proofs.Marking.{InRow}
use Rattle.groups.proofs.mark.Given as goal

abbrev pub invariant-loop-k : goal.invariant-loop-k
invariant-loop-k l = InRow l.s l.owner l.parent l.rank l.v l.k l.lead l.marks

abbrev pub invariant-loop-v : goal.invariant-loop-v
invariant-loop-v l = (l.v ≤ l.nodes) × Owned l.s l.owner l.parent × Marking l.s l.owner l.parent l.rank (row_from l.s l.v) l.lead l.marks
