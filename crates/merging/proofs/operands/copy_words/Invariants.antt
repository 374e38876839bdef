-- `copy_words` meets its contract. The loop's invariant: the words before this one are copied.
use Rattle.std.proofs.Common.{◌+◌}
use Rattle.layout.specs.Layout.{row_from}
use Rattle.merging.specs.Rows.{WordsCopied}
use Rattle.merging.proofs.operands.copy_words.Given as goal

abbrev pub invariant-loop-word : goal.invariant-loop-word
invariant-loop-word l = WordsCopied l.graph (row_from l.graph 0 + l.word-index) l.at l.shift l.initial.pool l.pool l.next
