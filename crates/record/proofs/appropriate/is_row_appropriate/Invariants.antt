-- `appropriate::is_row_appropriate` meets its contract. The loop's invariant: the links of v so far are allowed.
use Prim.Native.Nat.{◌+◌}
use Rattle.layout.specs.Layout.{links_from}
use Rattle.record.proofs.Allowed.{RowAllowed}
use Rattle.record.proofs.appropriate.is_row_appropriate.Given as goal

abbrev pub invariant-loop-link : goal.invariant-loop-link
invariant-loop-link l = RowAllowed l.table l.list l.graph l.v l.kind (links_from l.graph l.v + l.link-index)
