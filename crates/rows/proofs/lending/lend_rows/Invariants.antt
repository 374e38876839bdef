-- `lending::lend_rows` meets its contract. The loops' invariants: the rows of the nodes before v are made, and those of the links of v before
-- this word.
use Prim.Native.Nat.{◌+◌}
use Rattle.layout.specs.Layout.{links_from}
use Rattle.rows.proofs.LentRows.{Making}
use Rattle.rows.proofs.lending.lend_rows.Given as goal

abbrev pub invariant-loop-v : goal.invariant-loop-v
invariant-loop-v l = Making l.graph l.initial.rows l.rows l.next l.v (links_from l.graph l.v)

abbrev pub invariant-loop-word : goal.invariant-loop-word
invariant-loop-word l = Making l.graph l.fn.rows l.rows l.next l.v (links_from l.graph l.v + l.word-index)
