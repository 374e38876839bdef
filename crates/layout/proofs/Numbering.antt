-- This file is about numbers that are given in turn: `numbers` has the number of each node or pair that has one, and `order` has the node or
-- pair of each number.
use mathlib.Core.Path.{◌≡◌, sym, ◌∙◌, ap}
use mathlib.Core.List.{List}
use Prim.Native.Nat.{ℕ, ◌+◌, ◌<◌}
use native.Mathlib.Decide.{ℕ_discrete}
use native.Mathlib.Omega.{arith}
use lib.ListN.{length, get_or, set}
use lib.Seq.{get_or-set_same, get_or-set_other}

-- x, which has none, is given the next number
pub number-next : (numbers order : List ℕ) (x n : ℕ) → x < length numbers → n < length order → (get_or numbers x 0 < n → ⊥) →
    ((i : ℕ) → i < n → get_or numbers (get_or order i 0) 0 ≡ i) → (i : ℕ) → i < n + 1 →
    get_or (set numbers x n) (get_or (set order n x) i 0) 0 ≡ i
number-next numbers order x n inside room free placed i h = go (ℕ_discrete i n)
  where
    go : Dec (i ≡ n) → get_or (set numbers x n) (get_or (set order n x) i 0) 0 ≡ i
    go (yes e) =
        ap (λ (j : ℕ). get_or (set numbers x n) (get_or (set order n x) j 0) 0) e ∙
        ap (λ (y : ℕ). get_or (set numbers x n) y 0) (get_or-set_same order n x 0 room) ∙ get_or-set_same numbers x n 0 inside ∙ sym e
    go (no d) =
        ap (λ (y : ℕ). get_or (set numbers x n) y 0) (get_or-set_other order n i x 0 d) ∙
        get_or-set_other numbers x (get_or order i 0) n 0 other ∙ placed i (omega arith)
      where
        other : get_or order i 0 ≡ x → ⊥
        other e = free (omega (arith, placed i (omega arith), ap (λ (y : ℕ). get_or numbers y 0) e))
