-- The rows that export lends are "sorted by parent and then feature" (document 02, Paper 2).
use mathlib.Core.Path.{◌≡◌, refl, sym, ap}
use mathlib.Core.List.Memᴰ
use mathlib.Core.List.{List, [], ◌∷◌, ◌++◌, map, Memᴰ}
use mathlib.Core.Logic.{inl, inr, ⊎_elim}
use Prim.Native.Nat.{ℕ, zero, suc, ◌≤◌, ◌<◌}
use native.Mathlib.Omega.{arith}
use lib.ListN.{length, get_or}
use Rattle.graphs.specs.Rows.{Row}
use Rattle.graphs.specs.Large.{Ascending}
use Rattle.lattice.specs.Label.{Label}
use Rattle.rows.specs.declared.Row as lent
use Rattle.rows.specs.Rows.{no_row, lent_link, lent_from, lent_rows}
use Rattle.rows.specs.Faults.{Earlier}
use Rattle.rows.proofs.Tests.{placed}

-- each row comes before those after it
abbrev Sorted : List lent.Row → Type 0
Sorted [] = Unit {0}
Sorted (r ∷ rs) = ((s : lent.Row) → Memᴰ s rs → Earlier r s) × Sorted rs

sorted-append : (xs ys : List lent.Row) → Sorted xs → Sorted ys → ((r s : lent.Row) → Memᴰ r xs → Memᴰ s ys → Earlier r s) → Sorted (xs ++ ys)
sorted-append [] ys a b across = b
sorted-append (x ∷ xs) ys a b across = (
  λ s m. ⊎_elim (λ i. a.0 s i) (λ j. across x s (Memᴰ.head refl) j) (Memᴰ.append_cases xs m),
  sorted-append xs ys a.1 b (λ r s i j. across r s (Memᴰ.tail i) j),
)

-- the rows of one node are sorted
links-sorted : (v : ℕ) (ls : List (ℕ × ℕ)) → Ascending ls → Sorted (map (lent_link v) ls)
links-sorted v [] a = tt
links-sorted v (l ∷ ls) a = (
  λ s m.
      let (k, i, e) = Memᴰ.of_map (lent_link v) ls m in
      inr (ap (λ (r : lent.Row). r.parent) e, omega (arith, a.0 k i, ap (λ (r : lent.Row). r.feature) e)),
  links-sorted v ls a.1,
)

link-parent : (v : ℕ) (ls : List (ℕ × ℕ)) (r : lent.Row) → Memᴰ r (map (lent_link v) ls) → r.parent ≡ v
link-parent v ls r m = let (k, i, e) = Memᴰ.of_map (lent_link v) ls m in sym (ap (λ (x : lent.Row). x.parent) e)

-- the rows of the nodes from v on have parents from v on
later-parent : (rs : List (Row Label)) (v : ℕ) (r : lent.Row) → Memᴰ r (lent_from v rs) → v ≤ r.parent
unfolding lent_from
later-parent [] v r m = absurd (Memᴰ.not-nil m)
later-parent (x ∷ rs) v r m =
    ⊎_elim (λ i. omega (arith, link-parent v x.1 r i)) (λ j. omega (arith, later-parent rs (suc v) r j)) (Memᴰ.append_cases (map (lent_link v) x.1) m)

lent-sorted-from : (rs : List (Row Label)) (v : ℕ) → ((r : Row Label) → Memᴰ r rs → Ascending r.1) → Sorted (lent_from v rs)
unfolding lent_from
lent-sorted-from [] v up = tt
lent-sorted-from (x ∷ rs) v up =
    sorted-append (map (lent_link v) x.1) (lent_from (suc v) rs) (links-sorted v x.1 (up x (Memᴰ.head refl)))
    (lent-sorted-from rs (suc v) (λ r m. up r (Memᴰ.tail m)))
    (λ r s i j. inl (omega (arith, link-parent v x.1 r i, later-parent rs (suc v) s j)))

sorted-places : (rs : List lent.Row) → Sorted rs → (i j : ℕ) → i < j → j < length rs → Earlier (get_or rs i no_row) (get_or rs j no_row)
sorted-places [] a i j h l = absurd (omega arith)
sorted-places (r ∷ rs) a i zero h l = absurd (omega arith)
sorted-places (r ∷ rs) a zero (suc j) h l = a.0 (get_or rs j no_row) (placed rs j (omega arith))
sorted-places (r ∷ rs) a (suc i) (suc j) h l = sorted-places rs a.1 i j (omega arith) (omega arith)

-- Of two rows of a graph whose nodes list their links lowest feature first, the one at the lower place comes earlier.
pub lent-sorted : (form : List (Row Label)) → ((r : Row Label) → Memᴰ r form → Ascending r.1) → (i j : ℕ) → i < j → j < length (lent_rows form) →
    Earlier (get_or (lent_rows form) i no_row) (get_or (lent_rows form) j no_row)
lent-sorted form up = sorted-places (lent_rows form) (lent-sorted-from form 0 up)
