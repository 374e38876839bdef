-- `keep_row` meets its contract. The loop's invariant: the kept links of the row before place k are copied.
use Rattle.keeping.proofs.Thinning.{Thinning}
use Rattle.keeping.proofs.rows.keep_row.Given as goal

abbrev pub invariant-loop-k : goal.invariant-loop-k
invariant-loop-k l = Thinning l.s l.marks l.keep l.v l.k l.initial.words l.at l.words l.next
