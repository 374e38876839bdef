-- This file shows what the tests of 4, 14 and 15 decide.
use mathlib.Core.Path.{◌≡◌, refl, sym, ◌∙◌, ap, ap₂}
use mathlib.Core.Bool.{Bool, true, false, cond, ◌&&◌}
use mathlib.Core.List.Memᴰ
use mathlib.Core.List.{List, [], ◌∷◌, Memᴰ}
use mathlib.Core.Logic.{◌↔◌, ◌⊎◌, inl, inr, ⊎_elim}
use Prim.Native.Nat.{ℕ, zero, suc, ◌%◌, ◌≤◌, ◌<◌}
use native.Mathlib.Decide.{ℕ_discrete, dec_le, dec_lt}
use native.Mathlib.Omega.{arith}
use borrow.Author.Tests.{eq-eqb, eqb-true, le-leb, leb-true, lt-ltb}
use lib.Dec.{eqb, leb}
use lib.ListN.{length, get_or}
use Rattle.graphs.proofs.Search.{both_true, true-both, not-true-false, true-false}
use Rattle.rows.specs.declared.Row.{Row}
use Rattle.rows.specs.Rows.{no_row, is_of, nodes_in, is_sized, is_known, all_known, some_of, has_twice}
use Rattle.rows.specs.Faults.{Sized, Unsized, KnownRow, UnknownRow, Twice}
use Rattle.rows.proofs.Known.{near, known-parts}
use Rattle.rows.proofs.Placed.{is-own}
use Rattle.rows.proofs.Tables.{is-of}

-- 4

module _ (nodes : List ℕ) (count : ℕ) where
  pub sized-exact : (is_sized nodes count ≡ true) ↔ Sized nodes count
  unfolding is_sized
  sized-exact = (
    λ e.
        let (most, rows) = both_true (whole && one && few) (leb count 2048) e in
        let (more, high) = both_true (whole && one) few most in
        let (odd, low) = both_true whole one more in (
          eqb-true (length nodes % 3) 0 odd,
          leb-true 1 (nodes_in nodes) low,
          leb-true (nodes_in nodes) 255 high,
          leb-true count 2048 rows,
        ),
    λ (odd, low, high, rows).
        true-both (whole && one && few) (leb count 2048)
        (true-both (whole && one) few
        (true-both whole one (eq-eqb (length nodes % 3) 0 odd) (le-leb 1 (nodes_in nodes) low))
        (le-leb (nodes_in nodes) 255 high))
        (le-leb count 2048 rows),
  )
    where
      whole : Bool
      whole = eqb (length nodes % 3) 0

      one : Bool
      one = leb 1 (nodes_in nodes)

      few : Bool
      few = leb (nodes_in nodes) 255

  pub unsized-exact : (is_sized nodes count ≡ false) ↔ Unsized nodes count
  unsized-exact = (
    λ e. go e (ℕ_discrete (length nodes % 3) 0) (dec_le 1 (nodes_in nodes)) (dec_le (nodes_in nodes) 255) (dec_le count 2048),
    λ fault. not-true-false (is_sized nodes count) (λ e. clash (sized-exact.0 e) fault),
  )
    where
      go : is_sized nodes count ≡ false → Dec (length nodes % 3 ≡ 0) → Dec (1 ≤ nodes_in nodes) → Dec (nodes_in nodes ≤ 255) → Dec (count ≤ 2048) → Unsized nodes count
      go e (no a) b c d = inl a
      go e (yes a) (no b) c d = inr (inl (omega arith))
      go e (yes a) (yes b) (no c) d = inr (inr (inl (omega arith)))
      go e (yes a) (yes b) (yes c) (no d) = inr (inr (inr (omega arith)))
      go e (yes a) (yes b) (yes c) (yes d) = true-false (sized-exact.1 (a, b, c, d)) e

      clash : Sized nodes count → Unsized nodes count → ⊥
      clash (a, b, c, d) (inl f) = f a
      clash (a, b, c, d) (inr (inl f)) = omega arith
      clash (a, b, c, d) (inr (inr (inl f))) = omega arith
      clash (a, b, c, d) (inr (inr (inr f))) = omega arith

-- 14

module _ (n : ℕ) (r : Row) where
  known-exact : (is_known n r ≡ true) ↔ KnownRow n r
  known-exact = (known-parts n r, λ (f, p, t). sym (near n r (omega arith) p) ∙ lt-ltb r.target n t)

  unknown-exact : (is_known n r ≡ false) ↔ UnknownRow n r
  unknown-exact = (
    λ e. go e (dec_lt r.feature 64) (dec_lt r.parent n) (dec_lt r.target n),
    λ fault. not-true-false (is_known n r) (λ e. clash (known-exact.0 e) fault),
  )
    where
      go : is_known n r ≡ false → Dec (r.feature < 64) → Dec (r.parent < n) → Dec (r.target < n) → UnknownRow n r
      go e (no f) p t = inl (omega arith)
      go e (yes f) (no p) t = inr (inl (omega arith))
      go e (yes f) (yes p) (no t) = inr (inr (omega arith))
      go e (yes f) (yes p) (yes t) = true-false (known-exact.1 (f, p, t)) e

      clash : KnownRow n r → UnknownRow n r → ⊥
      clash (f, p, t) (inl h) = omega arith
      clash (f, p, t) (inr (inl h)) = omega arith
      clash (f, p, t) (inr (inr h)) = omega arith

module _ (n : ℕ) where
  all_known_lem : (rs : List Row) → all_known n rs ≡ true → (r : Row) → Memᴰ r rs → KnownRow n r
  unfolding all_known
  all_known_lem [] e r m = absurd (Memᴰ.not-nil m)
  all_known_lem (x ∷ rs) e r m = go (is_known n x) refl e (Memᴰ.cases_cons m) (λ q. all_known_lem rs q r)
    where
      go : (b : Bool) → is_known n x ≡ b → cond b (all_known n rs) false ≡ true → (r ≡ x) ⊎ Memᴰ r rs →
          (all_known n rs ≡ true → Memᴰ r rs → KnownRow n r) → KnownRow n r
      go false q h c later = true-false h refl
      go true q h c later = ⊎_elim (λ (p : r ≡ x). (known-exact n r).0 (ap (is_known n) p ∙ q)) (λ i. later h i) c

  known-all : (rs : List Row) → ((r : Row) → Memᴰ r rs → KnownRow n r) → all_known n rs ≡ true
  unfolding all_known
  known-all [] h = refl
  known-all (r ∷ rs) h =
      ap₂ (λ (b c : Bool). cond b c false) ((known-exact n r).1 (h r (Memᴰ.head refl))) (known-all rs (λ x m. h x (Memᴰ.tail m)))

  pub all-known-exact : (rs : List Row) → (all_known n rs ≡ true) ↔ ((r : Row) → Memᴰ r rs → KnownRow n r)
  all-known-exact rs = (all_known_lem rs, known-all rs)

  some-unknown : (rs : List Row) → all_known n rs ≡ false → (r : Row) × Memᴰ r rs × UnknownRow n r
  unfolding all_known
  some-unknown [] e = true-false refl e
  some-unknown (x ∷ rs) e = go (is_known n x) refl e (some-unknown rs)
    where
      go : (b : Bool) → is_known n x ≡ b → cond b (all_known n rs) false ≡ false → (all_known n rs ≡ false → (r : Row) × Memᴰ r rs × UnknownRow n r) →
          (r : Row) × Memᴰ r (x ∷ rs) × UnknownRow n r
      go false q h later = (x, Memᴰ.head refl, (unknown-exact n x).0 q)
      go true q h later = let (r, m, u) = later h in (r, Memᴰ.tail m, u)

  pub some-unknown-exact : (rs : List Row) → (all_known n rs ≡ false) ↔ ((r : Row) × Memᴰ r rs × UnknownRow n r)
  some-unknown-exact rs = (
    some-unknown rs,
    λ (r, m, u). not-true-false (all_known n rs) (λ e. true-false ((known-exact n r).1 (all_known_lem rs e r m)) ((unknown-exact n r).1 u)),
  )

-- 15

-- whether some row is of a parent and a feature
pub some-source : (p f : ℕ) (rs : List Row) → some_of p f rs ≡ true → (r : Row) × Memᴰ r rs × (r.parent ≡ p) × (r.feature ≡ f)
unfolding some_of
some-source p f [] e = true-false e refl
some-source p f (r ∷ rs) e = go (is_of p f r) refl e (some-source p f rs)
  where
    go : (b : Bool) → is_of p f r ≡ b → cond b true (some_of p f rs) ≡ true →
        (some_of p f rs ≡ true → (x : Row) × Memᴰ x rs × (x.parent ≡ p) × (x.feature ≡ f)) →
        (x : Row) × Memᴰ x (r ∷ rs) × (x.parent ≡ p) × (x.feature ≡ f)
    go true is h later = let own = is-of p f r is in (r, Memᴰ.head refl, own.0, own.1)
    go false is h later = let (x, m, a, b) = later h in (x, Memᴰ.tail m, a, b)

pub some-member : (r : Row) (rs : List Row) → Memᴰ r rs → some_of r.parent r.feature rs ≡ true
unfolding some_of
some-member r [] m = absurd (Memᴰ.not-nil m)
some-member r (x ∷ rs) m = go (is_of r.parent r.feature x) refl (Memᴰ.cases_cons m) (some-member r rs)
  where
    go : (b : Bool) → is_of r.parent r.feature x ≡ b → (r ≡ x) ⊎ Memᴰ r rs → (Memᴰ r rs → some_of r.parent r.feature rs ≡ true) →
        cond b true (some_of r.parent r.feature rs) ≡ true
    go true e c later = refl
    go false e c later = ⊎_elim (λ (q : r ≡ x). true-false (sym (ap (is_of r.parent r.feature) q) ∙ is-own r) e) (λ i. later i) c

place : {r : Row} {rs : List Row} → Memᴰ r rs → (i : ℕ) × (i < length rs) × (get_or rs i no_row ≡ r)
place (Memᴰ.head e) = (0, omega arith, sym e)
place (Memᴰ.tail m) = let (i, h, e) = place m in (suc i, omega arith, e)

pub placed : (rs : List Row) (i : ℕ) → i < length rs → Memᴰ (get_or rs i no_row) rs
placed [] i h = absurd (omega arith)
placed (r ∷ rs) zero h = Memᴰ.head refl
placed (r ∷ rs) (suc i) h = Memᴰ.tail (placed rs i (omega arith))

two-places : (rs : List Row) → has_twice rs ≡ true → Twice rs
unfolding has_twice
two-places [] e = true-false e refl
two-places (r ∷ rs) e = go (some_of r.parent r.feature rs) refl e (two-places rs)
  where
    go : (b : Bool) → some_of r.parent r.feature rs ≡ b → cond b true (has_twice rs) ≡ true → (has_twice rs ≡ true → Twice rs) → Twice (r ∷ rs)
    go true is h later =
        let (x, m, p, f) = some-source r.parent r.feature rs is in
        let (j, l, q) = place m in
        (0, suc j, omega arith, omega arith, sym (ap (λ (y : Row). y.parent) q ∙ p), sym (ap (λ (y : Row). y.feature) q ∙ f))
    go false is h later = let (i, j, l, k, p, f) = later h in (suc i, suc j, omega arith, omega arith, p, f)

places-two : (rs : List Row) (i j : ℕ) → i < j → j < length rs → (get_or rs i no_row).parent ≡ (get_or rs j no_row).parent →
    (get_or rs i no_row).feature ≡ (get_or rs j no_row).feature → has_twice rs ≡ true
unfolding has_twice
places-two [] i j l k p f = absurd (omega arith)
places-two (r ∷ rs) i zero l k p f = absurd (omega arith)
places-two (r ∷ rs) zero (suc j) l k p f =
    ap (λ (b : Bool). cond b true (has_twice rs)) (ap₂ (λ (a b : ℕ). some_of a b rs) p f ∙ some-member (get_or rs j no_row) rs (placed rs j (omega arith)))
places-two (r ∷ rs) (suc i) (suc j) l k p f = later (some_of r.parent r.feature rs) (places-two rs i j (omega arith) (omega arith) p f)
  where
    later : (b : Bool) → has_twice rs ≡ true → cond b true (has_twice rs) ≡ true
    later true e = refl
    later false e = e

pub twice-exact : (rs : List Row) → (has_twice rs ≡ true) ↔ Twice rs
twice-exact rs = (two-places rs, λ (i, j, l, k, p, f). places-two rs i j l k p f)

pub once-exact : (rs : List Row) → (has_twice rs ≡ false) ↔ (Twice rs → ⊥)
once-exact rs = (λ e two. true-false ((twice-exact rs).1 two) e, λ none. not-true-false (has_twice rs) (λ e. none ((twice-exact rs).0 e)))
