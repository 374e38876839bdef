-- `explain_row` meets its contract. The loop's invariant: the links of the row before place k have their reasons.
use Rattle.reasons.proofs.Explaining.{Turning}
use Rattle.reasons.proofs.explain_row.Given as goal

abbrev pub invariant-loop-k : goal.invariant-loop-k
invariant-loop-k l = Turning l.s l.marks l.meeting l.words l.v l.initial.reasons l.reasons l.j l.k
