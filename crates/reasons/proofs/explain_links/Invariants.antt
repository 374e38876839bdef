-- `explain_links` meets its contract. The loop's invariant: the rows before v have their reasons.
use Rattle.reasons.proofs.Explaining.{Explaining}
use Rattle.reasons.proofs.explain_links.Given as goal

abbrev pub invariant-loop-v : goal.invariant-loop-v
invariant-loop-v l = Explaining l.s l.marks l.meeting l.words l.v l.reasons
