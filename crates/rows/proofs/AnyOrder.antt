-- Rows in any order state one graph: the tests of 14 and 15 and the targets depend only on which rows there are, and on how many.
use mathlib.Core.Path.{◌≡◌, refl, sym, ◌∙◌, ap, ap₂}
use mathlib.Core.Bool.{Bool, true, false, cond}
use mathlib.Core.List.Memᴰ
use mathlib.Core.List.{List, [], ◌∷◌, Memᴰ}
use mathlib.Core.Logic.{⊎_elim, ◌⊎◌, ◌↔◌}
use mathlib.Core.Option.{Option, none, some}
use Prim.Native.Nat.{ℕ, suc}
use native.Mathlib.Omega.{arith}
use lib.ListN.{length}
use Rattle.graphs.specs.Rows.{features, from}
use Rattle.graphs.specs.Large.{Distinct}
use Rattle.graphs.proofs.Lists.{distinct-bound, map-listed}
use Rattle.graphs.proofs.Search.{not-true-false, true-false, same_test}
use Rattle.rows.specs.declared.Row.{Row}
use Rattle.rows.specs.Rows.{is_of, target_in, some_of, all_known, has_twice, label_in, nodes_in, table_rows}
use Rattle.rows.specs.Reordered.{Reordered, same, kept, swapped, again, SameMembers}
use Rattle.rows.proofs.Placed.{is-own, cond-false}
use Rattle.rows.proofs.Tables.{is-of, row_is, target_row, links_of-same}
use Rattle.rows.proofs.Tests.{all-known-exact, some-source, some-member}

-- a row gives the target of its parent and feature, where no two rows have one parent and feature
pub row_target : (rs : List Row) (r : Row) → has_twice rs ≡ false → Memᴰ r rs → target_in rs r.parent r.feature ≡ some r.target
unfolding target_in has_twice
row_target [] r once m = absurd (Memᴰ.not-nil m)
row_target (x ∷ rs) r once m = go (is_of r.parent r.feature x) refl (Memᴰ.cases_cons m) (row_target rs r parts.1)
  where
    parts : (some_of x.parent x.feature rs ≡ false) × (has_twice rs ≡ false)
    parts = cond-false (some_of x.parent x.feature rs) (has_twice rs) once

    clash : is_of r.parent r.feature x ≡ true → Memᴰ r rs → ⊥
    clash e i =
        let own = is-of r.parent r.feature x e in
        let z : true ≡ false = sym (some-member r rs i) ∙ ap₂ (λ (p f : ℕ). some_of p f rs) (sym own.0) (sym own.1) ∙ parts.0 in
        let w : ◌≡◌ {A = ℕ} 0 1 = cc in omega arith

    off : is_of r.parent r.feature x ≡ false → r ≡ x → ⊥
    off e q = let z : true ≡ false = sym (is-own r) ∙ ap (is_of r.parent r.feature) q ∙ e in let w : ◌≡◌ {A = ℕ} 0 1 = cc in omega arith

    go : (b : Bool) → is_of r.parent r.feature x ≡ b → (r ≡ x) ⊎ Memᴰ r rs → (Memᴰ r rs → target_in rs r.parent r.feature ≡ some r.target) →
        cond b (some x.target) (target_in rs r.parent r.feature) ≡ some r.target
    go true e c later = ⊎_elim (λ (q : r ≡ x). ap (λ (y : Row). some y.target) (sym q)) (λ i. absurd (clash e i)) c
    go false e c later = ⊎_elim (λ (q : r ≡ x). absurd (off e q)) (λ i. later i) c

pub target-exact : (rs : List Row) → has_twice rs ≡ false → (p f w : ℕ) → (target_in rs p f ≡ some w) ↔ Memᴰ (record { parent = p; feature = f; target = w }) rs
target-exact rs once p f w = (target_row rs p f w, λ m. row_target rs (record { parent = p; feature = f; target = w }) once m)

-- no row stands twice where no two rows have one parent and feature
once-distinct : (rs : List Row) → has_twice rs ≡ false → Distinct rs
unfolding has_twice
once-distinct [] e = tt
once-distinct (r ∷ rs) e =
    let (free, later) = cond-false (some_of r.parent r.feature rs) (has_twice rs) e in
    (λ m. true-false (some-member r rs m) free, once-distinct rs later)

-- Where rows with one parent and feature are equal, a table with two such rows can leave one out and still has all its rows.
shorter : (rs : List Row) → ((r s : Row) → Memᴰ r rs → Memᴰ s rs → r.parent ≡ s.parent → r.feature ≡ s.feature → r ≡ s) →
    has_twice rs ≡ true → (xs : List Row) × (length rs ≡ suc (length xs)) × ((r : Row) → Memᴰ r rs → Memᴰ r xs)
unfolding has_twice
shorter [] one e = true-false e refl
shorter (r ∷ rs) one e = go (some_of r.parent r.feature rs) refl e (shorter rs (λ x y m i. one x y (Memᴰ.tail m) (Memᴰ.tail i)))
  where
    go : (b : Bool) → some_of r.parent r.feature rs ≡ b → cond b true (has_twice rs) ≡ true →
        (has_twice rs ≡ true → (xs : List Row) × (length rs ≡ suc (length xs)) × ((x : Row) → Memᴰ x rs → Memᴰ x xs)) →
        (xs : List Row) × (suc (length rs) ≡ suc (length xs)) × ((x : Row) → Memᴰ x (r ∷ rs) → Memᴰ x xs)
    go true is h later =
        let (s, m, p, f) = some-source r.parent r.feature rs is in
        let again : r ≡ s = one r s (Memᴰ.head refl) (Memᴰ.tail m) (sym p) (sym f) in (
          rs,
          refl,
          λ x i. ⊎_elim (λ (q : x ≡ r). Memᴰ.cast (q ∙ again) m) (λ j. j) (Memᴰ.cases_cons i),
        )
    go false is h later =
        let (xs, l, all) = later h in (
          r ∷ xs,
          ap suc l,
          λ x i. ⊎_elim (λ (q : x ≡ r). Memᴰ.head q) (λ j. Memᴰ.tail (all x j)) (Memᴰ.cases_cons i),
        )

-- Two tables with the same rows.
module _ {xs ys : List Row} (members : SameMembers xs ys) where
  pub members-known : (n : ℕ) → all_known n xs ≡ all_known n ys
  members-known n =
      same_test (all_known n xs) (all_known n ys) (λ e. (all-known-exact n ys).1 (λ r m. (all-known-exact n xs).0 e r (members.1 r m)))
      (λ e. (all-known-exact n xs).1 (λ r m. (all-known-exact n ys).0 e r (members.0 r m)))

  -- Both tables have as many rows, and in one of them no two rows have one parent and feature.
  module _ (long : length xs ≡ length ys) (once : has_twice xs ≡ false) where
    one-target : (r s : Row) → Memᴰ r ys → Memᴰ s ys → r.parent ≡ s.parent → r.feature ≡ s.feature → r ≡ s
    one-target r s m i p f =
        let t : some r.target ≡ some s.target =
        sym (row_target xs r once (members.1 r m)) ∙ ap₂ (target_in xs) p f ∙ row_target xs s once (members.1 s i) in
        row_is p f cc

    members-once : has_twice ys ≡ false
    members-once =
        not-true-false (has_twice ys) (λ e.
        let (zs, l, all) = shorter ys one-target e in
        omega (arith, distinct-bound xs zs (once-distinct xs once) (λ r m. all r (members.0 r m))))

  -- In neither table do two rows have one parent and feature.
  module _ (once : has_twice xs ≡ false) (once' : has_twice ys ≡ false) where
    -- both tables have as many rows
    pub members-length : length xs ≡ length ys
    members-length =
        omega (arith, distinct-bound xs ys (once-distinct xs once) members.0, distinct-bound ys xs (once-distinct ys once') members.1)

    target-same : (p f : ℕ) → target_in xs p f ≡ target_in ys p f
    target-same p f = go (target_in xs p f) (target_in ys p f) refl refl
      where
        go : (a b : Option ℕ) → target_in xs p f ≡ a → target_in ys p f ≡ b → target_in xs p f ≡ target_in ys p f
        go (some w) b e q =
            e ∙ sym (row_target ys (record { parent = p; feature = f; target = w }) once' (members.0 (record { parent = p; feature = f; target = w }) (target_row xs p f w e)))
        go none none e q = e ∙ sym q
        go none (some w) e q =
            row_target xs (record { parent = p; feature = f; target = w }) once (members.1 (record { parent = p; feature = f; target = w }) (target_row ys p f w q)) ∙ sym q

    -- both tables state one graph
    pub members-table : (nodes : List ℕ) → table_rows nodes xs ≡ table_rows nodes ys
    unfolding table_rows
    members-table nodes =
        map-listed (from 0 (nodes_in nodes)) (λ v m.
        ap (λ (ls : List (ℕ × ℕ)). (label_in nodes v, ls)) (links_of-same (target_in xs v) (target_in ys v) features (λ f i. target-same v f)))

-- of two tables with as many of the same rows, 15 applies to both or to neither
pub members-twice : {xs ys : List Row} → SameMembers xs ys → length xs ≡ length ys → has_twice xs ≡ has_twice ys
members-twice {xs} {ys} members long = go (has_twice xs) (has_twice ys) refl refl
  where
    go : (a b : Bool) → has_twice xs ≡ a → has_twice ys ≡ b → has_twice xs ≡ has_twice ys
    go true true e q = e ∙ sym q
    go true false e q = true-false e (members-once (members.1, members.0) (sym long) q)
    go false true e q = true-false q (members-once members long e)
    go false false e q = e ∙ sym q

-- A table in another order has as many of the same rows.

pub length-any : {xs ys : List Row} → Reordered xs ys → length xs ≡ length ys
length-any (same xs) = refl
length-any (kept x r) = ap suc (length-any r)
length-any (swapped x y xs) = refl
length-any (again r s) = length-any r ∙ length-any s

member-any : {xs ys : List Row} → Reordered xs ys → (r : Row) → Memᴰ r xs → Memᴰ r ys
member-any (same xs) r m = m
member-any (kept x s) r m = ⊎_elim (λ (e : r ≡ x). Memᴰ.head e) (λ i. Memᴰ.tail (member-any s r i)) (Memᴰ.cases_cons m)
member-any (swapped x y xs) r m =
    ⊎_elim (λ (e : r ≡ x). Memᴰ.tail (Memᴰ.head e))
    (λ i. ⊎_elim (λ (e : r ≡ y). Memᴰ.head e) (λ j. Memᴰ.tail (Memᴰ.tail j)) (Memᴰ.cases_cons i)) (Memᴰ.cases_cons m)
member-any (again s t) r m = member-any t r (member-any s r m)

back : {xs ys : List Row} → Reordered xs ys → Reordered ys xs
back (same xs) = same xs
back (kept x r) = kept x (back r)
back (swapped x y xs) = swapped y x xs
back (again r s) = again (back s) (back r)

pub members-any : {xs ys : List Row} → Reordered xs ys → SameMembers xs ys
members-any r = (member-any r, member-any (back r))
