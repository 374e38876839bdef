-- This file shows what a planning table states: it states a link exactly where a row says so, and no table states more links than it has
-- rows. The graph that words are filled with is the one that the table states.
use mathlib.Core.Path.{◌≡◌, refl, sym, ◌∙◌, ap, ap₂, subst}
use mathlib.Core.Bool.{Bool, true, false, cond}
use mathlib.Core.List.{List, [], ◌∷◌, map, Memᴰ}
use mathlib.Core.Logic.{⊎_elim}
use mathlib.Core.Option.{Option, none, some}
use Prim.Native.Nat.{ℕ, zero, suc, ◌+◌, ◌≤◌, ◌<◌}
use native.Mathlib.Numerals.{add-one}
use native.Mathlib.Omega.{arith}
use borrow.Author.Tests.{eqb-true}
use lib.Dec.{eqb}
use lib.ListN.{length, length-map, length-append}
use Rattle.graphs.specs.Rows.{Row, features, from, links_of, add_link}
use Rattle.graphs.specs.Large.{Ascending, Distinct, links_in}
use Rattle.graphs.proofs.Lists.{distinct_append, distinct-bound, features-small, from-range, map-listed}
use Rattle.graphs.proofs.Rows.{links_of-source, links_of-ascending}
use Rattle.lattice.specs.Label.{Label}
use Rattle.rows.specs.declared.Row as lent
use Rattle.rows.specs.Rows.{is_of, target_in, label_in, nodes_in, table_rows, lent_link, lent_from}
use Rattle.rows.specs.Placing.{place_of, Placed}
use Rattle.rows.specs.Filling.{cell, cell_at, placed_links, placed_rows}

-- Rows.

-- a row of a parent and a feature has them
pub is-of : (p f : ℕ) (r : lent.Row) → is_of p f r ≡ true → (r.parent ≡ p) × (r.feature ≡ f)
unfolding is_of
is-of p f r = go (eqb r.parent p) refl
  where
    go : (b : Bool) → eqb r.parent p ≡ b → cond b (eqb r.feature f) false ≡ true → (r.parent ≡ p) × (r.feature ≡ f)
    go true e h = (eqb-true r.parent p e, eqb-true r.feature f h)
    go false e h = let z : ◌≡◌ {A = ℕ} 0 1 = cc in absurd (omega arith)

pub row_is : {p q f g v w : ℕ} → p ≡ q → f ≡ g → v ≡ w → ◌≡◌ {A = lent.Row} (record { parent = p; feature = f; target = v }) (record { parent = q; feature = g; target = w })
row_is a b c = λ j. record { parent = a j; feature = b j; target = c j }

-- a target that rows give is a row's
pub target_row : (rows : List lent.Row) (p f w : ℕ) → target_in rows p f ≡ some w → Memᴰ (record { parent = p; feature = f; target = w }) rows
unfolding target_in
target_row [] p f w e = let z : ◌≡◌ {A = ℕ} 0 1 = cc in absurd (omega arith)
target_row (r ∷ rows) p f w e = go (is_of p f r) refl e (target_row rows p f w)
  where
    go : (b : Bool) → is_of p f r ≡ b → cond b (some r.target) (target_in rows p f) ≡ some w →
        (target_in rows p f ≡ some w → Memᴰ (record { parent = p; feature = f; target = w }) rows) →
        Memᴰ (record { parent = p; feature = f; target = w }) (r ∷ rows)
    go true is q later =
        let same : r.target ≡ w = cc in
        let own = is-of p f r is in
        mathlib.Core.List.Memᴰ.head (row_is (sym own.0) (sym own.1) (sym same))
    go false is q later = mathlib.Core.List.Memᴰ.tail (later q)

-- Links.

pub lent_length : (rs : List (Row Label)) (v : ℕ) → length (lent_from v rs) ≡ links_in rs
unfolding lent_from links_in
lent_length [] v = refl
lent_length (r ∷ rs) v =
    omega (arith, length-append (map (lent_link v) r.1) (lent_from (suc v) rs), length-map r.1 (lent_link v), lent_length rs (suc v))

links-distinct : (v : ℕ) (ls : List (ℕ × ℕ)) → Ascending ls → Distinct (map (lent_link v) ls)
links-distinct v [] a = tt
links-distinct v (l ∷ ls) a =
    (λ m. let (k, i, e) = mathlib.Core.List.Memᴰ.of_map (lent_link v) ls m in omega (arith, a.0 k i, ap (λ (r : lent.Row). r.feature) e), links-distinct v ls a.1)

module _ (nodes : List ℕ) (rows : List lent.Row) where
  abbrev pub stated : ℕ → Row Label
  stated v = (label_in nodes v, links_of (target_in rows v) features)

  abbrev pub Said : ℕ → ℕ → lent.Row → Type 0
  Said n k r = (k ≤ r.parent) × (r.parent < k + n) × (r.feature < 64) × (target_in rows r.parent r.feature ≡ some r.target)

  -- a row that export lends of the table's graph is one that the table says
  pub lent-said : (n k : ℕ) (r : lent.Row) → Memᴰ r (lent_from k (map stated (from k n))) → Said n k r
  unfolding lent_from from
  lent-said zero k r m = absurd (mathlib.Core.List.Memᴰ.not-nil m)
  lent-said (suc n) k r m =
      ⊎_elim
      (λ (i : Memᴰ r (map (lent_link k) (links_of (target_in rows k) features))).
      let (l, j, e) = mathlib.Core.List.Memᴰ.of_map (lent_link k) (links_of (target_in rows k) features) i in
      let source = links_of-source (target_in rows k) features l j in
      subst (Said (suc n) k) e (omega arith, omega arith, features-small l.0 source.0, source.1))
      (λ (i : Memᴰ r (lent_from (suc k) (map stated (from (suc k) n)))). let (low, high, f, e) = lent-said n (suc k) r i in (omega arith, omega arith, f, e))
      (mathlib.Core.List.Memᴰ.append_cases (map (lent_link k) (links_of (target_in rows k) features)) m)

  pub lent-distinct : (n k : ℕ) → Distinct (lent_from k (map stated (from k n)))
  unfolding lent_from from
  lent-distinct zero k = tt
  lent-distinct (suc n) k =
      distinct_append (map (lent_link k) (links_of (target_in rows k) features)) (lent_from (suc k) (map stated (from (suc k) n)))
      (links-distinct k (links_of (target_in rows k) features) (links_of-ascending (target_in rows k) 0 64)) (lent-distinct n (suc k))
      (λ r i j.
      let (l, q, e) = mathlib.Core.List.Memᴰ.of_map (lent_link k) (links_of (target_in rows k) features) i in
      omega (arith, (lent-said n (suc k) r j).0, ap (λ (x : lent.Row). x.parent) e))

  -- a table states no more links than it has rows
  pub table-links : links_in (table_rows nodes rows) ≤ length rows
  unfolding table_rows
  table-links =
      omega (
        arith,
        lent_length (map stated (from 0 (nodes_in nodes))) 0,
        distinct-bound (lent_from 0 (map stated (from 0 (nodes_in nodes)))) rows (lent-distinct (nodes_in nodes) 0)
            (λ r m. target_row rows r.parent r.feature r.target (lent-said (nodes_in nodes) 0 r m).3),
      )

-- The table of targets states what its rows state.

pub links_of-same : (next onto : ℕ → Option ℕ) (fs : List ℕ) → ((f : ℕ) → Memᴰ f fs → next f ≡ onto f) → links_of next fs ≡ links_of onto fs
unfolding links_of
links_of-same next onto [] h = refl
links_of-same next onto (f ∷ fs) h =
    ap₂ (add_link f) (h f (mathlib.Core.List.Memᴰ.head refl)) (links_of-same next onto fs (λ g m. h g (mathlib.Core.List.Memᴰ.tail m)))

cell-place : (o : Option ℕ) → cell (place_of o) ≡ o
cell-place none = refl
cell-place (some w) = ap cell (add-one w)

pub placed-table : (nodes targets : List ℕ) (rows : List lent.Row) → nodes_in nodes ≤ 255 → Placed rows targets →
    placed_rows nodes targets (nodes_in nodes) ≡ table_rows nodes rows
unfolding table_rows placed_links
placed-table nodes targets rows few placed =
    map-listed (from 0 (nodes_in nodes)) (λ v m.
    ap (λ (ls : List (ℕ × ℕ)). (label_in nodes v, ls))
    (links_of-same (cell_at targets v) (target_in rows v) features (λ f i.
    ap cell (placed.told v f (omega (arith, (from-range 0 (nodes_in nodes) v m).1)) (features-small f i)) ∙ cell-place (target_in rows v f))))
