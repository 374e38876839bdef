-- `appropriate::is_appropriate` meets its contract. The loop's invariant: the rows before v are allowed.
use Rattle.record.proofs.Allowed.{RowsAllowed}
use Rattle.record.proofs.appropriate.is_appropriate.Given as goal

abbrev pub invariant-loop-v : goal.invariant-loop-v
invariant-loop-v l = RowsAllowed l.table l.list l.graph l.v
