-- This file is about finite graphs. A walk in a graph without cycles is shorter than any list of the graph's nodes. Where all walks are
-- shorter than some number, the walks by the features 0 to 63 list the nodes that are reached. So every graph above a graph of any size
-- is a graph of any size: its paths are among those of the graph below. No test of equality is asked for.
use mathlib.Core.Path.{◌≡◌, refl, sym, ◌∙◌, ap}
use mathlib.Core.Bool.{Bool, true, false, true≢false}
use mathlib.Core.List.Memᴰ
use mathlib.Core.List.{
  List,
  [],
  ◌∷◌,
  ◌++◌,
  flat_map,
  Memᴰ,
}
use mathlib.Core.Logic.{◌↔◌, ◌⊎◌, inl, inr, ⊎_elim}
use mathlib.Core.Option.{Option, none, some}
use Prim.Native.Nat.{ℕ, zero, suc, ◌<◌}
use native.Mathlib.Omega.{arith}
use lib.ListN.{length}
use Rattle.graphs.specs.Label.{Labels, Lattice}
use Rattle.graphs.specs.Order.{within}
use Rattle.graphs.specs.Graph.{Graph, Below, SameMeaning, AnySize, walk, follow, Reached}
use Rattle.graphs.specs.Rows.{features}
use Rattle.graphs.proofs.Walk.{some-injective, none-some, follow-none, follow-start, follow-last, walk-append, walk-snoc}
use Rattle.graphs.proofs.Lists.{mem-features, flat_map-member, flat_map-source, remove}
use Rattle.graphs.proofs.Below.{same-below}

-- Short paths.

-- A walk is shorter than a list of all nodes that its start reaches, if none of these reaches itself. Without the start, the list still
-- holds all nodes that come after.
short-follow : {A : Type 0} (link : A → ℕ → Option A) (p : List ℕ) (o : Option A) (x : A) (l : List A) →
    ((q : List ℕ) (y : A) → follow link o q ≡ some y → Memᴰ y l) →
    ((q : List ℕ) (y : A) (f : ℕ) (r : List ℕ) → follow link o q ≡ some y → follow link (some y) (f ∷ r) ≡ some y → ⊥) →
    follow link o p ≡ some x → length p < length l
unfolding follow
short-follow link [] o x l all acyclic e =
    let (r, n, _) = remove (all [] x e) in
    omega arith
short-follow link (f ∷ p) none x l all acyclic e = none-some (sym (follow-none link p) ∙ e)
short-follow {A} link (f ∷ p) (some v) x l all acyclic e =
    let (r, n, other) = remove (all [] v refl) in
    let shorter = short-follow link p (link v f) x r (after other) (λ q. acyclic (f ∷ q)) e in
    omega arith
  where
    after : {r : List A} → ((y : A) → Memᴰ y l → (y ≡ v) ⊎ Memᴰ y r) →
        (q : List ℕ) (y : A) → follow link (link v f) q ≡ some y → Memᴰ y r
    after other q y d =
        ⊎_elim (λ z. absurd (acyclic [] v f q refl (d ∙ ap some z))) (λ m. m) (other y (all (f ∷ q) y d))

-- In a graph without cycles a walk is shorter than a list of the nodes.
pub short-paths : {L A : Type 0} (g : Graph L A) (nodes : List A) → ((v : A) → Reached g v → Memᴰ v nodes) →
    ((v : A) (f : ℕ) (p : List ℕ) → Reached g v → follow g.link (some v) (f ∷ p) ≡ some v → ⊥) →
    (p : List ℕ) (v : A) → walk g p ≡ some v → length p < length nodes
short-paths g nodes all acyclic p v e =
    short-follow g.link p (some g.root) v nodes (λ q y d. all y (q, d)) (λ q y f r d. acyclic y f r (q, d)) e

-- Finitely many nodes.

module _ {A : Type 0} (link : A → ℕ → Option A) where
  pub within-reached : (k : ℕ) (o : Option A) (x : A) → Memᴰ x (within link k o) → (p : List ℕ) × (follow link o p ≡ some x)
  unfolding within follow
  within-reached zero o x m = absurd (Memᴰ.not-nil m)
  within-reached (suc k) none x m = absurd (Memᴰ.not-nil m)
  within-reached (suc k) (some v) x m = go (λ f. within-reached k (link v f) x) (Memᴰ.cases_cons m)
    where
      go : ((f : ℕ) → Memᴰ x (within link k (link v f)) → (p : List ℕ) × (follow link (link v f) p ≡ some x)) →
          (x ≡ v) ⊎ Memᴰ x (flat_map (λ f. within link k (link v f)) features) → (p : List ℕ) × (follow link (some v) p ≡ some x)
      go rest (inl e) = ([], ap some (sym e))
      go rest (inr n) =
          let (f, _, i) = flat_map-source (λ f. within link k (link v f)) features n in
          let (p, e) = rest f i in
          (f ∷ p, e)

  pub reached-within : (k : ℕ) (o : Option A) (p : List ℕ) (x : A) →
      ((q : List ℕ) (v w : A) (f : ℕ) → follow link o q ≡ some v → link v f ≡ some w → f < 64) → length p < k →
      follow link o p ≡ some x → Memᴰ x (within link k o)
  unfolding within follow
  reached-within zero o p x small short e = absurd (omega arith)
  reached-within (suc k) none p x small short e = none-some (sym (follow-none link p) ∙ e)
  reached-within (suc k) (some v) [] x small short e = Memᴰ.head (sym (some-injective e))
  reached-within (suc k) (some v) (f ∷ p) x small short e =
      let (w, to) = follow-start link (link v f) p x e in
      Memᴰ.tail
      (flat_map-member (λ f. within link k (link v f)) (mem-features f (small [] v w f refl to))
      (reached-within k (link v f) p x (λ q. small (f ∷ q)) (omega arith) e))

-- Where all walks are short and all features small, a list holds just the nodes that are reached.
pub finite-reached : {L A : Type 0} (g : Graph L A) (n : ℕ) →
    ((v w : A) (f : ℕ) → Reached g v → g.link v f ≡ some w → f < 64) →
    ((p : List ℕ) (v : A) → walk g p ≡ some v → length p < n) →
    (nodes : List A) × ((v : A) → Reached g v ↔ Memᴰ v nodes)
finite-reached g n small short = (
  within g.link n (some g.root),
  λ v. (
    λ r. reached-within g.link n (some g.root) r.0 v (λ q x w f e. small x w f (q, e)) (short r.0 v r.1) r.1,
    within-reached g.link n (some g.root) v,
  ),
)

-- Above a graph of any size.

module _ {𝓛 : Labels} {A B : Type 0} {s : Graph 𝓛.L A} {g : Graph 𝓛.L B} (below : Below 𝓛 s g) (sound : AnySize 𝓛 s) where
  pub features-up : (v w : B) (f : ℕ) → Reached g v → g.link v f ≡ some w → f < 64
  features-up v w f r l =
      let (y, d, _) = below.paths (r.0 ++ (f ∷ [])) w (walk-snoc g r.0 f r.1 ∙ l) in
      let (x, e, m) = follow-last s.link (some s.root) r.0 f y d in
      sound.features x y f (r.0, e) m

  pub acyclic-up : (v : B) (f : ℕ) (p : List ℕ) → Reached g v → follow g.link (some v) (f ∷ p) ≡ some v → ⊥
  acyclic-up v f p r e =
      let (w, d, c) = below.corefers r.0 (r.0 ++ (f ∷ p)) (v, r.1, walk-append g r.0 (f ∷ p) r.1 ∙ e) in
      sound.acyclic w f p (r.0, d) (sym (walk-append s r.0 (f ∷ p) d) ∙ c)

  -- The paths of g are paths of s, so they are as short as the paths of s.
  pub short-up : (p : List ℕ) (v : B) → walk g p ≡ some v → length p < length sound.nodes
  short-up p v e =
      let (w, d, _) = below.paths p v e in
      short-paths s sound.nodes (λ v. (sound.listed v).0) sound.acyclic p w d

module _ {𝓛 : Labels} (lattice : Lattice 𝓛) {A B : Type 0} {s : Graph 𝓛.L A} {g : Graph 𝓛.L B} (below : Below 𝓛 s g)
    (sound : AnySize 𝓛 s) where
  pub consistent-up : (v : B) → Reached g v → 𝓛.contradiction (g.label v) ≡ false
  consistent-up v r = go (𝓛.contradiction (g.label v)) refl
    where
      go : (b : Bool) → 𝓛.contradiction (g.label v) ≡ b → 𝓛.contradiction (g.label v) ≡ false
      go false e = e
      go true e =
          let (w, d, l) = below.paths r.0 v r.1 in
          absurd (true≢false (sym (lattice.contradiction-down _ _ l e) ∙ sound.consistent w (r.0, d)))

  -- What lies above a graph of any size is a graph of any size.
  pub above-any-size : AnySize 𝓛 g
  above-any-size =
      let (nodes, listed) = finite-reached g (length sound.nodes) (features-up below sound) (short-up below sound) in
      record {
        nodes = nodes;
        listed = listed;
        features = features-up below sound;
        consistent = consistent-up;
        acyclic = acyclic-up below sound;
      }

-- A graph that means the same as a graph of any size is a graph of any size.
pub same-any-size : {𝓛 : Labels} → Lattice 𝓛 → {A B : Type 0} {g : Graph 𝓛.L A} {h : Graph 𝓛.L B} →
    SameMeaning 𝓛 g h → AnySize 𝓛 g → AnySize 𝓛 h
same-any-size lattice m = above-any-size lattice (same-below lattice m)
