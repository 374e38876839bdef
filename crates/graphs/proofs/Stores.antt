-- This file has the laws of runs of stores (`sets`): a run followed by the next is one run, and two runs that do not overlap may be made
-- in either order.
use mathlib.Core.Path.{◌≡◌, refl, sym, ◌∙◌, ap}
use mathlib.Core.List.{List, [], ◌∷◌, ◌++◌}
use Prim.Native.Nat.{ℕ, suc, ◌+◌, ◌≤◌, ◌<◌}
use native.Mathlib.Nat.{add-zero}
use native.Mathlib.Omega.{arith}
use lib.ListN.{length, set}
use lib.Seq.{sets, set_comm}

module _ {A : Type 0} where
  pub sets-append : (xs l : List A) (i : ℕ) (ys : List A) → sets l i (xs ++ ys) ≡ sets (sets l i xs) (i + length xs) ys
  sets-append [] l i ys = ap (λ (n : ℕ). sets l n ys) (sym (add-zero i))
  sets-append (x ∷ xs) l i ys =
      let e : suc i + length xs ≡ i + suc (length xs) = omega arith in
      sets-append xs (set l i x) (suc i) ys ∙ ap (λ (n : ℕ). sets (sets (set l i x) (suc i) xs) n ys) e

  set-sets : (ys l : List A) (i j : ℕ) (x : A) → i < j → sets (set l i x) j ys ≡ set (sets l j ys) i x
  set-sets [] l i j x h = refl
  set-sets (y ∷ ys) l i j x h =
      ap (λ (m : List A). sets m (suc j) ys) (set_comm l i j x y (λ (e : i ≡ j). omega arith))
      ∙ set-sets ys (set l j y) i (suc j) x (omega arith)

  pub sets-comm : (xs ys l : List A) (i j : ℕ) → i + length xs ≤ j → sets (sets l j ys) i xs ≡ sets (sets l i xs) j ys
  sets-comm [] ys l i j h = refl
  sets-comm (x ∷ xs) ys l i j h =
      ap (λ (m : List A). sets m (suc i) xs) (sym (set-sets ys l i j x (omega arith)))
      ∙ sets-comm xs ys (set l i x) (suc i) j (omega arith)

  -- a run of stores that grows by one
  pub sets_more : (xs l : List A) (i j : ℕ) (x : A) → j ≡ i + length xs → sets l i (xs ++ (x ∷ [])) ≡ set (sets l i xs) j x
  sets_more xs l i j x e = sets-append xs l i (x ∷ []) ∙ ap (λ (n : ℕ). set (sets l i xs) n x) (sym e)
