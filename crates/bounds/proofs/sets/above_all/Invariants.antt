-- `above_all` meets its contract. The loop's invariant: `part` has the types above all members that are not left.
use Rattle.bounds.proofs.Held.{Gathering}
use Rattle.bounds.proofs.sets.above_all.Given as goal

abbrev pub invariant-loop-left : goal.invariant-loop-left
invariant-loop-left l = Gathering l.sets l.set l.part l.left

abbrev pub decreases-loop-left : goal.decreases-loop-left
decreases-loop-left l = l.left
