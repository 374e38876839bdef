-- `is_bounded_with` meets its contract: the bounds of a with the types whose bits are cleared were found.
use Prim.Native.Nat.{ℕ, ◌<◌, ◌≤◌}
use Rattle.lattice.specs.Words.{Sided, Inside}
use Rattle.acceptance.proofs.Covering.{Tested}
use Rattle.acceptance.proofs.covers.is_bounded_with.Given as goal

abbrev pub invariant-loop-left : goal.invariant-loop-left
invariant-loop-left l = (n : ℕ) → l.a < n → n ≤ 64 → Sided n l.down → Inside n l.word → Tested n l.down l.a l.word l.left

abbrev pub decreases-loop-left : goal.decreases-loop-left
decreases-loop-left l = l.left
