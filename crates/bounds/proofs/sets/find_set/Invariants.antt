-- `find_set` meets its contract. The loop's invariant: the type with the set, if there is one, is among those left.
use Prim.Native.Nat.{ℕ, ◌≤◌}
use Rattle.bounds.specs.Sets.{Among}
use Rattle.bounds.proofs.sets.find_set.Given as goal

abbrev pub invariant-loop-left : goal.invariant-loop-left
invariant-loop-left l = (n : ℕ) → n ≤ 64 → Among n l.sets l.set l.part → Among n l.sets l.set l.left

abbrev pub decreases-loop-left : goal.decreases-loop-left
decreases-loop-left l = l.left
