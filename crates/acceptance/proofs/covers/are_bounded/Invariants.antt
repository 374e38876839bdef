-- `are_bounded` meets its contract. The loop's invariant: every two types that one of the first i types covers have a bound.
use Prim.Native.Nat.{◌≤◌}
use Rattle.acceptance.proofs.Covering.{CoversBounded}
use Rattle.acceptance.proofs.covers.are_bounded.Given as goal

abbrev pub invariant-loop-i : goal.invariant-loop-i
invariant-loop-i l = (l.i ≤ l.n) × CoversBounded l.n l.down l.i
