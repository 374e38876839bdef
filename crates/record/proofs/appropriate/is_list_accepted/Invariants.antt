-- `appropriate::is_list_accepted` meets its contract. The loop's invariant: the entries that it has passed are types.
use Rattle.record.proofs.Allowed.{Entries}
use Rattle.record.proofs.appropriate.is_list_accepted.Given as goal

abbrev pub invariant-loop-entry : goal.invariant-loop-entry
invariant-loop-entry l = Entries l.n l.list l.entry-index
