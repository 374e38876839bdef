-- The room that a call has for the state.
use mathlib.Core.Path.{◌≡◌}
use Prim.Native.Nat.{ℕ, ◌≤◌}
use native.Mathlib.Omega.{arith}
use lib.ListN.{length, take, replicate, length-replicate}
use lib.Seq.{length-take-le}

-- it is as long as the buffer, where that is not too long
pub blank-room : (room : ℕ) → room ≤ 16384 → length {A = ℕ} (take room (replicate 16384 0)) ≡ room
blank-room room h = length-take-le room (replicate 16384 0) (omega (arith, h, length-replicate {A = ℕ} 16384 0))
