-- The two graphs in their words, and their nodes side by side by number: those of the second come after those of the first. The links of a node
-- stand in the span of its number.
use mathlib.Core.Path.{◌≡◌, refl, ◌∙◌, ap, subst}
use mathlib.Core.List.{List}
use mathlib.Core.Logic.{◌⊎◌, inl, inr}
use mathlib.Core.Option.{some, map, map-eq-some_iff}
use Prim.Native.Nat.{ℕ, ◌+◌, ◌-◌, ◌≤◌, ◌<◌}
use native.Mathlib.Decide.{dec_lt}
use native.Mathlib.Omega.{arith}
use lib.Dec.{eqb}
use lib.ListN.{get_or}
use Rattle.graphs.specs.Rows.{from}
use Rattle.graphs.proofs.Lists.{tells-eqb}
use Rattle.graphs.proofs.Unification.Beside.{link_beside, ReachedBeside, Operands}
use Rattle.layout.specs.Layout.{size, links_from, feature_at, target_at, graph_in}
use Rattle.layout.proofs.Places.{link-at, link-place, link-known}
use Rattle.layout.proofs.Reaching.{nodes-listed, reached-inside}
use Rattle.classes.specs.Classes.{At}
use Rattle.merging.specs.Rows.{Operand, Placed}
use Rattle.unify.proofs.Laying.{origin-in, origin-feature, origin-target, placed-link}

module _ {n : ℕ} {g : List ℕ} (h : Operand n g) where
  -- a link of the graph stands at a place of the pool, and a place of the pool is a link of the graph
  module _ {shift : ℕ} (few : shift ≤ 255) {start end pool : List ℕ} (p : Placed g shift start end pool) where
    side-in : (v w f : ℕ) → v < size g → (graph_in g).link v f ≡ some w →
        (j : ℕ) × At start end (shift + v) j × (feature_at pool j ≡ f) × (target_at pool j ≡ shift + w)
    side-in v w f i e =
        let (k, low, high, feature, target) = link-place h.recorded.sound v f w i e in
        let (j, place, a, b) = placed-link h.recorded few p v k i low high in
        (j, place, a ∙ feature, omega (arith, b, target))

    side-of : (v j : ℕ) → v < size g → At start end (shift + v) j →
        (w : ℕ) × (w < size g) × ((graph_in g).link v (feature_at pool j) ≡ some w) × (shift + w ≡ target_at pool j)
    side-of v j i place =
        let (low, high) = origin-in h.recorded few p v j i place in (
          target_at g (links_from g v + (j - get_or start (shift + v) 0)),
          h.recorded.sound.targets v (links_from g v + (j - get_or start (shift + v) 0)) i low high,
          ap ((graph_in g).link v) (origin-feature h.recorded few p v j i place) ∙
              link-at h.recorded.sound v (links_from g v + (j - get_or start (shift + v) 0)) i low high,
          omega (arith, origin-target h.recorded few p v j i place),
        )

pub operands : {n : ℕ} {a b : List ℕ} → Operand n a → Operand n b →
    Operands eqb eqb (graph_in a) (from 0 (size a)) (graph_in b) (from 0 (size b))
operands left right =
    record {
      tells-left = tells-eqb;
      tells-right = tells-eqb;
      lists-left = nodes-listed left.recorded.sound left.reached;
      lists-right = nodes-listed right.recorded.sound right.reached;
    }

-- the number of a node
abbrev pub number : ℕ → ℕ ⊎ ℕ → ℕ
number k (inl v) = v
number k (inr v) = k + v

module _ {n : ℕ} {a b : List ℕ} (left : Operand n a) (right : Operand n b) where
  -- x is a node of its graph
  abbrev pub Inside : ℕ ⊎ ℕ → Type 0
  Inside (inl v) = v < size a
  Inside (inr v) = v < size b

  pub inside-reached : (x : ℕ ⊎ ℕ) → Inside x → ReachedBeside (graph_in a) (graph_in b) x
  inside-reached (inl v) i = left.reached v i
  inside-reached (inr v) i = right.reached v i

  pub reached-in : (x : ℕ ⊎ ℕ) → ReachedBeside (graph_in a) (graph_in b) x → Inside x
  reached-in (inl v) r = reached-inside left.recorded.sound v r
  reached-in (inr v) r = reached-inside right.recorded.sound v r

  pub number_in : (x : ℕ ⊎ ℕ) → Inside x → number (size a) x < size a + size b
  number_in (inl v) i = omega arith
  number_in (inr v) i = omega arith

  pub number-one : (x y : ℕ ⊎ ℕ) → Inside x → Inside y → number (size a) x ≡ number (size a) y → x ≡ y
  number-one (inl v) (inl w) i j e = ap inl e
  number-one (inl v) (inr w) i j e = absurd (omega arith)
  number-one (inr v) (inl w) i j e = absurd (omega arith)
  number-one (inr v) (inr w) i j e = let q : v ≡ w = omega arith in ap inr q

  -- the node with a number
  pub node_of : (i : ℕ) → i < size a + size b → (x : ℕ ⊎ ℕ) × Inside x × (number (size a) x ≡ i)
  node_of i h = go (dec_lt i (size a))
    where
      go : Dec (i < size a) → (x : ℕ ⊎ ℕ) × Inside x × (number (size a) x ≡ i)
      go (yes l) = (inl i, l, refl)
      go (no d) = (inr (i - size a), omega arith, omega arith)

  module _ {start end pool : List ℕ} (first : Placed a 0 start end pool) (second : Placed b (size a) start end pool) where
    none : 0 ≤ 255
    none = omega arith

    -- A link of a node stands at a place of the pool.
    pub link-in : (x y : ℕ ⊎ ℕ) (f : ℕ) → Inside x → link_beside (graph_in a) (graph_in b) x f ≡ some y →
        Inside y × ((j : ℕ) × At start end (number (size a) x) j × (feature_at pool j ≡ f) × (target_at pool j ≡ number (size a) y))
    link-in (inl v) y f i e =
        let (w, d, q) = (map-eq-some_iff inl ((graph_in a).link v f)).0 e in
        let (j, place, feature, target) = side-in left none first v w f i d in
        let z : 0 + v ≡ v = omega arith in
        subst
        (λ (y : ℕ ⊎ ℕ).
        Inside y × ((j : ℕ) × At start end v j × (feature_at pool j ≡ f) × (target_at pool j ≡ number (size a) y))) q (
          (link-known left.recorded.sound v f w i d).1,
          (j, subst (λ (x : ℕ). At start end x j) z place, feature, omega (arith, target)),
        )
    link-in (inr v) y f i e =
        let (w, d, q) = (map-eq-some_iff inr ((graph_in b).link v f)).0 e in
        let (j, place, feature, target) = side-in right left.recorded.small second v w f i d in
        subst
        (λ (y : ℕ ⊎ ℕ).
        Inside y × ((j : ℕ) × At start end (size a + v) j × (feature_at pool j ≡ f) × (target_at pool j ≡ number (size a) y))) q
        ((link-known right.recorded.sound v f w i d).1, (j, place, feature, target))

    -- A place of the pool is a link of its node.
    pub link-of : (x : ℕ ⊎ ℕ) (j : ℕ) → Inside x → At start end (number (size a) x) j →
        (y : ℕ ⊎ ℕ) × Inside y × (link_beside (graph_in a) (graph_in b) x (feature_at pool j) ≡ some y) × (number (size a) y ≡ target_at pool j)
    link-of (inl v) j i place =
        let z : v ≡ 0 + v = omega arith in
        let (w, w-in, l, e) = side-of left none first v j i (subst (λ (x : ℕ). At start end x j) z place) in
        (inl w, w-in, ap (map {A = ℕ} {B = ℕ ⊎ ℕ} inl) l, omega (arith, e))
    link-of (inr v) j i place =
        let (w, w-in, l, e) = side-of right left.recorded.small second v j i place in
        (inr w, w-in, ap (map {A = ℕ} {B = ℕ ⊎ ℕ} inr) l, e)
