-- `are_bounded_within` meets its contract: the bounds of the types whose bits are cleared with all types of the word were found.
use Prim.Native.Nat.{ℕ, ◌≤◌}
use Rattle.lattice.specs.Words.{Sided, Inside}
use Rattle.acceptance.proofs.Covering.{Paired}
use Rattle.acceptance.proofs.covers.are_bounded_within.Given as goal

abbrev pub invariant-loop-left : goal.invariant-loop-left
invariant-loop-left l = (n : ℕ) → n ≤ 64 → Sided n l.down → Inside n l.word → Paired n l.down l.word l.left

abbrev pub decreases-loop-left : goal.decreases-loop-left
decreases-loop-left l = l.left
