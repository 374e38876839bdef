-- `copy_rows` meets its contract. The loop's invariant: the rows of the first i nodes visited are built.
use lib.ListN.{length}
use Rattle.numbering.proofs.CopiedRows.{Copying}
use Rattle.numbering.proofs.copy_rows.Given as goal

abbrev pub invariant-loop-i : goal.invariant-loop-i
invariant-loop-i l = Copying l.graph l.numbers l.visited l.count (length l.initial.new) l.new l.at l.i
