-- A graph with at most three nodes has a written form of at most three rows. Three nodes with features below 64 have at most 192 links, so
-- neither count is exceeded, and the form has one row for each reached node.
use mathlib.Core.Path.{◌≡◌, refl, ap}
use mathlib.Core.Bool.{Bool}
use mathlib.Core.List.Memᴰ
use mathlib.Core.List.{List, [], ◌∷◌, map, flat_map, reverse, Memᴰ}
use mathlib.Core.Option.{some}
use Prim.Native.Nat.{ℕ, ◌*◌, ◌≤◌, ◌<◌}
use native.Mathlib.Omega.{arith}
use lib.ListN.{length, length-append, length-map, length-reverse}
use Rattle.graphs.specs.Graph.{Graph, TellsApart, Reached}
use Rattle.graphs.specs.Rows.{Row, features}
use Rattle.graphs.specs.Number.{canonical, row_of, written}
use Rattle.graphs.specs.Large.{ManyNodes, ManyLinks}
use Rattle.graphs.proofs.Lists.{mem-features, length_from, flat_map-member, distinct-bound}
use Rattle.graphs.proofs.Form.Canonical.{canonical-written, seen-reached, seen-distinct}
use Rattle.graphs.proofs.Form.Large.{canonical-fits}

-- a node with each of the 64 features
with_features : {A : Type 0} → A → List (A × ℕ)
with_features v = map (λ f. (v, f)) features

features-member : {A : Type 0} (v : A) (f : ℕ) → f < 64 → Memᴰ (v, f) (with_features v)
unfolding with_features
features-member {A} v f h = Memᴰ.map {B = A × ℕ} (λ f. (v, f)) (mem-features f h)

features-length : {A : Type 0} (vs : List A) → length (flat_map with_features vs) ≡ 64 * length vs
unfolding flat_map with_features
features-length [] = refl
features-length {A} (v ∷ vs) =
    omega (
      arith,
      length-append (with_features v) (flat_map with_features vs),
      length-map {B = A × ℕ} features (λ f. (v, f)),
      length_from 0 64,
      features-length vs,
    )

-- The list has every reached node and at most three members.
module _ {L A : Type 0} (g : Graph L A) (narrow : (v w : A) (f : ℕ) → Reached g v → g.link v f ≡ some w → f < 64) (nodes : List A)
    (all : (v : A) → Reached g v → Memᴰ v nodes) (few : length nodes ≤ 3) where
  few-nodes : ManyNodes g → ⊥
  few-nodes (xs, d, reached, h) =
      let short = distinct-bound xs nodes d (λ x m. all x (reached x m)) in
      omega arith

  few-links : ManyLinks g → ⊥
  few-links (ls, d, leaves, h) =
      let short = distinct-bound ls (flat_map with_features nodes) d
      (λ l m. let (r, (w, e)) = leaves l m in
      flat_map-member with_features (all l.0 r) (features-member l.0 l.1 (narrow l.0 w l.1 r e))) in
      omega (arith, features-length nodes)

  -- the written form, with at most three rows
  pub few-written : (same : A → A → Bool) → TellsApart same → (form : List (Row L)) × (canonical same g ≡ written form) × (length form ≤ 3)
  few-written same tells =
      let (form, e) = (canonical-fits same tells g narrow).0 (few-nodes, few-links) in
      let (now, h, _, q) = canonical-written same g form e in
      let short = distinct-bound now nodes (seen-distinct same tells g narrow now h) (λ v m. all v (seen-reached same tells g narrow now h v m)) in
      (form, e, omega (arith, ap length q, length-map (reverse now) (row_of same g (reverse now)), length-reverse now))
