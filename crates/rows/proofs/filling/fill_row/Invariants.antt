-- `filling::fill_row` meets its contract. The loop's invariant: the links by features below f are stored.
use Rattle.rows.proofs.FilledRows.{Turn}
use Rattle.rows.proofs.filling.fill_row.Given as goal

abbrev pub invariant-loop-f : goal.invariant-loop-f
invariant-loop-f l = Turn l.nodes l.targets l.v l.at l.initial.graph l.graph l.next l.f
