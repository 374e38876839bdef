-- `covers_of` meets its contract: every type strictly below i is left, or below one that was taken.
use Rattle.acceptance.proofs.Spanning.{Spanning}
use Rattle.acceptance.proofs.order.covers_of.Given as goal

abbrev pub invariant-loop-left : goal.invariant-loop-left
invariant-loop-left l = Spanning l.n l.down l.i l.left l.word

abbrev pub decreases-loop-left : goal.decreases-loop-left
decreases-loop-left l = l.left
