-- When a table has the right size: the number of types is 2 to 64, and the table has 8 bytes for each type.
use Prim.Native.Nat.{ℕ, ◌*◌, ◌<◌, ◌≤◌}
use mathlib.Core.Path.{◌≡◌}
use mathlib.Core.Bool.{true, false, ◌&&◌}
use mathlib.Core.List.{List}
use native.Mathlib.Omega.{arith}
use lib.ListN.{length}
use lib.Dec.{leb, eqb}
use borrow.Author.Tests.{le-leb, lt-leb, leb-true, eqb-true}
use Rattle.lattice.specs.Table.{sized}
use Rattle.lattice.proofs.Every.{and_left, and_right}

pub size_low : (n : ℕ) (t : List ℕ) → n < 2 → sized n t ≡ false
unfolding sized
size_low n t h = rw (lt-leb 2 n h)

pub size-high : (n : ℕ) (t : List ℕ) → 64 < n → sized n t ≡ false
unfolding sized
size-high n t h = rw (le-leb 2 n (omega arith), lt-leb n 64 h)

-- if the number of types is right, the length decides whether the size is
pub size-length : (n : ℕ) (t : List ℕ) → 2 ≤ n → n ≤ 64 → eqb (length t) (8 * n) ≡ sized n t
unfolding sized
size-length n t a b = rw (le-leb 2 n a, le-leb n 64 b)

-- the facts that a right size states
pub size-facts : (n : ℕ) (t : List ℕ) → sized n t ≡ true → (2 ≤ n) × (n ≤ 64) × (length t ≡ 8 * n)
unfolding sized
size-facts n t h =
    let b : leb 2 n && leb n 64 ≡ true = and_left _ (eqb (length t) (8 * n)) h in (
      leb-true 2 n (and_left (leb 2 n) (leb n 64) b),
      leb-true n 64 (and_right (leb 2 n) (leb n 64) b),
      eqb-true (length t) (8 * n) (and_right (leb 2 n && leb n 64) (eqb (length t) (8 * n)) h),
    )
