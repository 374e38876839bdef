-- The rows that export lends pass the tests of 14 and 15, and state the graph of which they are made.
use mathlib.Core.Path.{◌≡◌, refl, sym, ◌∙◌, ap, ap₂, subst}
use mathlib.Core.Bool.{Bool, true, false, cond}
use mathlib.Core.List.{List, [], ◌∷◌, map, Memᴰ}
use mathlib.Core.Option.{Option, none, some}
use Prim.Native.Nat.{ℕ, zero, suc, ◌+◌, ◌/◌, ◌≤◌, ◌<◌}
use native.Mathlib.Decide.{ℕ_discrete}
use native.Mathlib.Nat.{mul-div_cancel}
use native.Mathlib.Omega.{arith}
use borrow.Author.Tests.{eq-eqb, ne_eqb}
use lib.ListN.{length, get_or}
use Rattle.graphs.specs.Rows.{Row, from, target, links_of, add_link}
use Rattle.graphs.specs.Large.{Ascending, Distinct}
use Rattle.graphs.proofs.Lists.{from_member, from-range, mem-features, get_or-member}
use Rattle.graphs.proofs.Rows.{links_of-member}
use Rattle.lattice.specs.Label.{Label, no_label}
use Rattle.rows.specs.declared.Row as lent
use Rattle.rows.specs.Rows.{target_in, some_of, all_known, has_twice, nodes_in, table_rows, lent_rows, lent_nodes}
use Rattle.rows.proofs.LentRows.{nodes-length}
use Rattle.rows.proofs.Tests.{all-known-exact, some-source}
use Rattle.rows.proofs.Tables.{row_is, lent-said, lent-distinct, links_of-same, stated}
use Rattle.rows.proofs.RoundTrip.{table-of-lent}

-- Links that ascend are those by feature.

target-low : (k : ℕ) (ls : List (ℕ × ℕ)) → ((l : ℕ × ℕ) → Memᴰ l ls → k < l.0) → target ls k ≡ none
unfolding target
target-low k [] h = refl
target-low k (l ∷ ls) h =
    ap (λ (b : Bool). cond b (some l.1) (target ls k)) (ne_eqb l.0 k (λ e. omega (arith, h l (mathlib.Core.List.Memᴰ.head refl), e)))
    ∙ target-low k ls (λ m i. h m (mathlib.Core.List.Memᴰ.tail i))

target_past : (l : ℕ × ℕ) (ls : List (ℕ × ℕ)) (f : ℕ) → l.0 < f → target (l ∷ ls) f ≡ target ls f
unfolding target
target_past l ls f h = ap (λ (b : Bool). cond b (some l.1) (target ls f)) (ne_eqb l.0 f (λ e. omega (arith, h, e)))

target_first : (l : ℕ × ℕ) (ls : List (ℕ × ℕ)) (k : ℕ) → l.0 ≡ k → target (l ∷ ls) k ≡ some l.1
unfolding target
target_first l ls k e = ap (λ (b : Bool). cond b (some l.1) (target ls k)) (eq-eqb l.0 k e)

tidy : (n k : ℕ) (ls : List (ℕ × ℕ)) → Ascending ls → ((l : ℕ × ℕ) → Memᴰ l ls → (k ≤ l.0) × (l.0 < k + n)) → links_of (target ls) (from k n) ≡ ls
unfolding from links_of
tidy zero k [] a h = refl
tidy zero k (l ∷ ls) a h = let (low, high) = h l (mathlib.Core.List.Memᴰ.head refl) in absurd (omega arith)
tidy (suc n) k [] a h =
    ap (λ (o : Option ℕ). add_link k o (links_of (target []) (from (suc k) n))) (target-low k [] (λ l m. absurd (mathlib.Core.List.Memᴰ.not-nil m)))
    ∙ tidy n (suc k) [] tt (λ l m. absurd (mathlib.Core.List.Memᴰ.not-nil m))
tidy (suc n) k (l ∷ ls) a h = go (ℕ_discrete l.0 k) (tidy n (suc k))
  where
    go : Dec (l.0 ≡ k) → ((ms : List (ℕ × ℕ)) → Ascending ms → ((m : ℕ × ℕ) → Memᴰ m ms → (suc k ≤ m.0) × (m.0 < suc k + n)) → links_of (target ms) (from (suc k) n) ≡ ms) →
        add_link k (target (l ∷ ls) k) (links_of (target (l ∷ ls)) (from (suc k) n)) ≡ l ∷ ls
    go (yes e) later =
        ap₂ (λ (o : Option ℕ) (ms : List (ℕ × ℕ)). add_link k o ms) (target_first l ls k e)
        (links_of-same (target (l ∷ ls)) (target ls) (from (suc k) n) (λ f m. target_past l ls f (omega (arith, (from-range (suc k) n f m).0)))
        ∙ later ls a.1 (λ m i. (omega (arith, a.0 m i), omega (arith, (h m (mathlib.Core.List.Memᴰ.tail i)).1))))
        ∙ ap (λ (x : ℕ × ℕ). x ∷ ls) (ap (λ (f : ℕ). (f, l.1)) (sym e))
    go (no d) later =
        let low : k < l.0 = omega (arith, (h l (mathlib.Core.List.Memᴰ.head refl)).0) in
        ap (λ (o : Option ℕ). add_link k o (links_of (target (l ∷ ls)) (from (suc k) n)))
        (target-low k (l ∷ ls) (λ m i. omega (arith, first l ls a m i, low)))
        ∙ later (l ∷ ls) a (λ m i. (omega (arith, first l ls a m i, low), omega (arith, (h m i).1)))
      where
        first : (x : ℕ × ℕ) (xs : List (ℕ × ℕ)) → Ascending (x ∷ xs) → (m : ℕ × ℕ) → Memᴰ m (x ∷ xs) → x.0 ≤ m.0
        first x xs b m (mathlib.Core.List.Memᴰ.head e) = omega (arith, ap (λ (y : ℕ × ℕ). y.0) e)
        first x xs b m (mathlib.Core.List.Memᴰ.tail i) = omega (arith, b.0 m i)

-- Rows that are different and agree on targets have no parent and feature twice.

once-from : (next : ℕ → ℕ → Option ℕ) (rs : List lent.Row) → Distinct rs → ((r : lent.Row) → Memᴰ r rs → next r.parent r.feature ≡ some r.target) → has_twice rs ≡ false
unfolding has_twice
once-from next [] d h = refl
once-from next (r ∷ rs) d h = go (some_of r.parent r.feature rs) refl (once-from next rs d.1 (λ x m. h x (mathlib.Core.List.Memᴰ.tail m)))
  where
    clash : some_of r.parent r.feature rs ≡ true → ⊥
    clash e =
        let (x, m, p, f) = some-source r.parent r.feature rs e in
        let t : some r.target ≡ some x.target = sym (h r (mathlib.Core.List.Memᴰ.head refl)) ∙ ap₂ next (sym p) (sym f) ∙ h x (mathlib.Core.List.Memᴰ.tail m) in
        let same : r.target ≡ x.target = cc in
        d.0 (subst (λ (y : lent.Row). Memᴰ y rs) (row_is p f (sym same)) m)

    go : (b : Bool) → some_of r.parent r.feature rs ≡ b → has_twice rs ≡ false → cond (some_of r.parent r.feature rs) true (has_twice rs) ≡ false
    go true e later = absurd (clash e)
    go false e later = ap (λ (b : Bool). cond b true (has_twice rs)) e ∙ later

-- The rows of a graph.
module _ (form : List (Row Label)) (proper : (r : Row Label) → Memᴰ r form → Ascending r.1 × ((l : ℕ × ℕ) → Memᴰ l r.1 → l.0 < 64)) where
  pub lent-table : table_rows (lent_nodes form) (lent_rows form) ≡ form
  lent-table =
      table-of-lent form (λ i h.
      let (up, small) = proper (get_or form i (no_label, [])) (get_or-member form i (no_label, []) h) in
      tidy 64 0 (get_or form i (no_label, [])).1 up (λ l m. (omega arith, omega (arith, small l m))))

  nodes-are : nodes_in (lent_nodes form) ≡ length form
  nodes-are = ap (λ (n : ℕ). n / 3) (nodes-length form) ∙ mul-div_cancel (length form) {n = 3} (omega arith)

  -- the graph that the lent table states has the lent rows
  lent_rows_lem : lent_rows (map (stated (lent_nodes form) (lent_rows form)) (from 0 (nodes_in (lent_nodes form)))) ≡ lent_rows form
  unfolding table_rows
  lent_rows_lem = ap lent_rows lent-table

  said : (r : lent.Row) → Memᴰ r (lent_rows form) → (0 ≤ r.parent) × (r.parent < 0 + nodes_in (lent_nodes form)) × (r.feature < 64) × (target_in (lent_rows form) r.parent r.feature ≡ some r.target)
  said r m = lent-said (lent_nodes form) (lent_rows form) (nodes_in (lent_nodes form)) 0 r (subst (λ (x : List lent.Row). Memᴰ r x) (sym lent_rows_lem) m)

  -- 15 does not apply to the lent rows
  pub lent-once : has_twice (lent_rows form) ≡ false
  lent-once =
      once-from (target_in (lent_rows form)) (lent_rows form)
      (subst Distinct lent_rows_lem (lent-distinct (lent_nodes form) (lent_rows form) (nodes_in (lent_nodes form)) 0)) (λ r m. (said r m).3)

  -- 14 does not apply to the lent rows
  pub lent-known : ((r : Row Label) → Memᴰ r form → (l : ℕ × ℕ) → Memᴰ l r.1 → l.1 < length form) → all_known (nodes_in (lent_nodes form)) (lent_rows form) ≡ true
  unfolding table_rows
  lent-known targets =
      (all-known-exact (nodes_in (lent_nodes form)) (lent_rows form)).1 (λ r m.
      let (low, high, f, e) = said r m in
      let row : Memᴰ (stated (lent_nodes form) (lent_rows form) r.parent) (map (stated (lent_nodes form) (lent_rows form)) (from 0 (nodes_in (lent_nodes form)))) =
      mathlib.Core.List.Memᴰ.map (stated (lent_nodes form) (lent_rows form)) (from_member 0 (nodes_in (lent_nodes form)) r.parent low high) in
      let t = targets (stated (lent_nodes form) (lent_rows form) r.parent) (subst (λ (x : List (Row Label)). Memᴰ (stated (lent_nodes form) (lent_rows form) r.parent) x) lent-table row) (r.feature, r.target)
      (links_of-member (target_in (lent_rows form) r.parent) (mem-features r.feature f) e) in
      (f, omega arith, omega (arith, t, nodes-are)))
