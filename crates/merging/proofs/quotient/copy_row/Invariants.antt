-- `copy_row` meets its contract. The loop's invariant: the links before this word are copied.
use Rattle.std.proofs.Common.{◌+◌}
use Rattle.merging.specs.Rows.{RowCopied}
use Rattle.merging.proofs.quotient.copy_row.Given as goal

abbrev pub invariant-loop-word : goal.invariant-loop-word
invariant-loop-word l = RowCopied l.class l.pool l.start (l.start + l.word-index) l.at l.initial.graph l.graph l.next
