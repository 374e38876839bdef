-- This file is about the test for 14, which goes through the rows one after another.
use mathlib.Core.Bool.{Bool, true, false, cond}
use mathlib.Core.Path.{◌≡◌, refl, sym, ◌∙◌, ap}
use mathlib.Core.List.{List, [], ◌∷◌}
use Prim.Native.Nat.{ℕ, zero, suc, ◌+◌, ◌<◌, ◌≤◌}
use native.Mathlib.Numerals.{add-one}
use native.Mathlib.Omega.{arith}
use lib.Dec.{ltb}
use lib.ListN.{length, get_or, drop, drop_of_length-le}
use lib.Seq.{drop-cons}
use borrow.Author.Tests.{lt-ltb, le-ltb, ltb-true, ltb-false}
use Rattle.rows.specs.declared.Row.{Row}
use Rattle.rows.specs.Rows.{no_row, is_known, all_known}
use Rattle.rows.specs.Placing.{AllNear}

module _ (n : ℕ) (r : Row) where
  pub far-feature : 63 < r.feature → false ≡ is_known n r
  unfolding is_known
  far-feature h = simp (lt-ltb 63 r.feature h)

  pub far-parent : r.feature ≤ 63 → n ≤ r.parent → false ≡ is_known n r
  unfolding is_known
  far-parent h k = simp (le-ltb 63 r.feature h, le-ltb r.parent n k)

  pub near : r.feature ≤ 63 → r.parent < n → ltb r.target n ≡ is_known n r
  unfolding is_known
  near h k = simp (le-ltb 63 r.feature h, lt-ltb r.parent n k)

-- all rows are known exactly where those from i on are
abbrev pub Left : ℕ → List Row → ℕ → Type 0
Left n rows i = all_known n rows ≡ all_known n (drop i rows)

module _ (n : ℕ) (rows : List Row) where
  head : (r : Row) (rs : List Row) (b : Bool) → is_known n r ≡ b → all_known n (r ∷ rs) ≡ cond b (all_known n rs) false
  unfolding all_known
  head r rs b e = ap (λ (t : Bool). cond t (all_known n rs) false) e

  pub stop : (i : ℕ) → Left n rows i → i < length rows → is_known n (get_or rows i no_row) ≡ false → false ≡ all_known n rows
  stop i l k e = sym (l ∙ ap (all_known n) (drop-cons rows i no_row k) ∙ head (get_or rows i no_row) (drop (suc i) rows) false e)

  pub next : (i : ℕ) → Left n rows i → i < length rows → is_known n (get_or rows i no_row) ≡ true → Left n rows (i + 1)
  next i l k e =
      l ∙ ap (all_known n) (drop-cons rows i no_row k) ∙ head (get_or rows i no_row) (drop (suc i) rows) true e
      ∙ ap (λ (m : ℕ). all_known n (drop m rows)) (sym (add-one i))

  pub end : (i : ℕ) → Left n rows i → length rows ≤ i → true ≡ all_known n rows
  unfolding all_known
  end i l k = sym (l ∙ ap (all_known n) (drop_of_length-le rows k))

-- rows that are all known are known one by one
pub known-each : (n : ℕ) (rs : List Row) (i : ℕ) → all_known n rs ≡ true → i < length rs → is_known n (get_or rs i no_row) ≡ true
unfolding all_known
known-each n [] i e h = absurd (omega arith)
known-each n (r ∷ rs) i e h = go (is_known n r) refl e i h (λ j. known-each n rs j)
  where
    go : (b : Bool) → is_known n r ≡ b → cond b (all_known n rs) false ≡ true → (j : ℕ) → j < suc (length rs) →
        ((k : ℕ) → all_known n rs ≡ true → k < length rs → is_known n (get_or rs k no_row) ≡ true) → is_known n (get_or (r ∷ rs) j no_row) ≡ true
    go false q h j l later = let z : ◌≡◌ {A = ℕ} 0 1 = cc in absurd (omega arith)
    go true q h zero l later = q
    go true q h (suc j) l later = later j h (omega arith)

-- a known row has a feature below 64, and a parent and a target below n
pub known-parts : (n : ℕ) (r : Row) → is_known n r ≡ true → (r.feature < 64) × (r.parent < n) × (r.target < n)
unfolding is_known
known-parts n r = go (ltb 63 r.feature) refl (ltb r.parent n) refl
  where
    go : (b : Bool) → ltb 63 r.feature ≡ b → (d : Bool) → ltb r.parent n ≡ d → cond b false (cond d (ltb r.target n) false) ≡ true →
        (r.feature < 64) × (r.parent < n) × (r.target < n)
    go true p d q h = let z : ◌≡◌ {A = ℕ} 0 1 = cc in absurd (omega arith)
    go false p false q h = let z : ◌≡◌ {A = ℕ} 0 1 = cc in absurd (omega arith)
    go false p true q h = (omega (arith, ltb-false 63 r.feature p), ltb-true r.parent n q, ltb-true r.target n h)

-- known rows have places in the table of targets
pub known-near : (n : ℕ) (rows : List Row) → n ≤ 255 → all_known n rows ≡ true → AllNear rows
known-near n rows few e i h =
    let (f, p, t) = known-parts n (get_or rows i no_row) (known-each n rows i e h) in
    (omega arith, f)
