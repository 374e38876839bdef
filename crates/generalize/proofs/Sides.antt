-- The common part of the two graphs: a pair's links are those by features of both nodes.
use mathlib.Core.Path.{◌≡◌, refl, ap, ap₂}
use mathlib.Core.Bool.{true, ◌&&◌}
use mathlib.Core.List.{List}
use mathlib.Core.Option.{some}
use Prim.Native.Nat.{ℕ, ◌/◌, ◌%◌, ◌<◌}
use borrow.Author.Tests.{eq-eqb, eqb-true}
use lib.Dec.{eqb}
use Rattle.graphs.specs.Graph.{TellsApart}
use Rattle.graphs.specs.Generalize.{generalization_by}
use Rattle.graphs.specs.OfRows.{same_pair}
use Rattle.graphs.proofs.Product.{both_some}
use Rattle.graphs.proofs.Search.{both_true}
use Rattle.lattice.specs.Labels.{join_ranged}
use Rattle.layout.specs.Layout.{Recorded, size, label_at, graph_in}
use Rattle.layout.proofs.Places.{label-at, link-inside}
use Rattle.product.specs.Queue.{common}
use Rattle.generalize.specs.Product.{product}

-- the pair with a number
abbrev pub pair_of : ℕ → ℕ × ℕ
pair_of p = (p / 255, p % 255)

module _ (joins : ℕ → ℕ → ℕ) (a b : List ℕ) where
  pub product-root : (product joins a b).root ≡ (0, 0)
  unfolding generalization_by
  product-root = refl

  pub product-link : (x : ℕ × ℕ) (f : ℕ) → (product joins a b).link x f ≡ common a b x f
  unfolding generalization_by
  product-link x f = refl

  pub product-label : (u v : ℕ) → u < size a → v < size b → (product joins a b).label (u, v) ≡ join_ranged joins (label_at a u) (label_at b v)
  unfolding generalization_by
  product-label u v i j = ap₂ (join_ranged joins) (label-at a u i) (label-at b v j)

pub common-known : {a b : List ℕ} → Recorded a → Recorded b → (x y : ℕ × ℕ) (f : ℕ) → common a b x f ≡ some y →
    (f < 64) × (y.0 < size a) × (y.1 < size b)
common-known {a} {b} left right x y f e =
    let (p, q) = both_some ((graph_in a).link x.0 f) ((graph_in b).link x.1 f) e in
    let (s, t) = link-inside left.sound x.0 f y.0 p in
    (s, t, (link-inside right.sound x.1 f y.1 q).1)

pub tells-pair : TellsApart same_pair
unfolding same_pair
tells-pair v w = (there, back)
  where
    there : (eqb v.0 w.0 && eqb v.1 w.1) ≡ true → v ≡ w
    there e =
        let (p, q) = both_true (eqb v.0 w.0) (eqb v.1 w.1) e in
        ap₂ {C = ℕ × ℕ} (λ s t. (s, t)) (eqb-true v.0 w.0 p) (eqb-true v.1 w.1 q)

    back : v ≡ w → (eqb v.0 w.0 && eqb v.1 w.1) ≡ true
    back e = ap₂ ◌&&◌ (eq-eqb v.0 w.0 (ap (λ (x : ℕ × ℕ). x.0) e)) (eq-eqb v.1 w.1 (ap (λ (x : ℕ × ℕ). x.1) e))
