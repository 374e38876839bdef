-- This file goes between graphs with any labels, which records state, and graphs whose labels are those of an accepted table, which the
-- theory of graphs speaks of. `lift` and `lower` only change labels, so the two graphs have one root, the same links and the same paths.
-- Where every label is one of the table, order, equal meaning, generalization, unification and difference of the one are those of the
-- other.
use Prim.Native.Nat.{ℕ, ◌<◌}
use mathlib.Core.Path.{◌≡◌, refl, sym, ap, ap₂, subst, ◌∙◌}
use mathlib.Core.Bool.{Bool, true}
use mathlib.Core.List.{List, Memᴰ}
use mathlib.Core.Logic.{◌↔◌}
use mathlib.Core.Option.{some}
use Rattle.graphs.specs.Label.{Labels}
use Rattle.graphs.specs.Graph.{Graph, Below, SameMeaning, AnySize, Reached, walk}
use Rattle.graphs.specs.Map.{NodeMap, Exact}
use Rattle.graphs.specs.Generalize.{both, generalization_by, generalization}
use Rattle.graphs.specs.Unify.{unification_by, unification}
use Rattle.graphs.specs.Difference.{Link, difference, meet_over}
use Rattle.graphs.proofs.Walk.{option-same}
use Rattle.graphs.proofs.Below.{exact_same, same-sym, same-trans, walk-map}
use Rattle.graphs.proofs.Finite.{same-any-size}
use Rattle.graphs.proofs.Product as Product
use Rattle.lattice.specs.Label.{Label}
use Rattle.lattice.specs.Table.{accepted, meet, cell}
use Rattle.lattice.specs.Labels.{meet_ranged, table_labels, Known, Typed, OfAnySize}
use Rattle.lattice.proofs.Relabel.{relabel, relabel_unified, same-below-left, same-below-right}
use Rattle.lattice.proofs.Embedding.{
  MeetEmbedding,
  Embedding,
  below-embedded,
  meaning-embedded,
  any-size-embedded,
  unification-embedded,
  meet_over-embedded,
  difference-embedded,
}
use Rattle.lattice.proofs.Lawful.{KnownLabel, known, known-label, label-path, label-parts, lawful, lawful-lattice, meet-label, join-label}

-- a graph with labels of a table as one with any labels
abbrev pub lower : {n : ℕ} {A : Type 0} → Graph (KnownLabel n) A → Graph Label A
lower g = relabel (λ x. x.0) g

module _ (n : ℕ) (t : List ℕ) (ok : accepted n t ≡ true) where
  abbrev raw : Labels
  raw = table_labels n t

  abbrev law : Labels
  law = lawful n t ok

  -- a graph with the labels of the table that its labels are
  abbrev pub lift : {A : Type 0} → Graph Label A → Graph (KnownLabel n) A
  lift g = relabel (known n t ok) g

  pub lower-typed : {A : Type 0} (g : Graph (KnownLabel n) A) → Typed n (lower g)
  lower-typed g v r = (g.label v).1

  module _ {A : Type 0} (g : Graph Label A) (types : Typed n g) where
    -- a node's label, lifted and lowered
    pub lifted-label : (v : A) → Reached g v → (known n t ok (g.label v)).0 ≡ g.label v
    lifted-label v r = known-label n t ok (g.label v) (types v r)

    -- lowering undoes lifting
    lower-lift : Exact (λ (v : A). v) g (lower (lift g))
    lower-lift =
        record {
          root = refl;
          links = λ v f r. option-same (g.link v f);
          labels = lifted-label;
          injective = λ v w r q e. e;
        }

    pub lower-lift-same : SameMeaning raw g (lower (lift g))
    lower-lift-same = exact_same lower-lift

  -- Lowering: from labels of the table to labels and back.

  pub known-embedding : Embedding law raw (λ x. x.0)
  known-embedding =
      record {
        meets = record { meet = λ x y. sym (meet-label n t ok x y); top = refl; contradiction = λ x. refl };
        le = λ x y. refl;
        join = λ x y. sym (join-label n t ok x y);
        injective = λ x y. label-path;
      }

  module _ {A B : Type 0} {s : Graph (KnownLabel n) A} {g : Graph (KnownLabel n) B} where
    pub below-lower : Below law s g ↔ Below raw (lower s) (lower g)
    below-lower = below-embedded known-embedding

    pub meaning-lower : SameMeaning law s g ↔ SameMeaning raw (lower s) (lower g)
    meaning-lower = meaning-embedded known-embedding

  -- with the same list of nodes
  unfoldable pub any-size-lower : {A : Type 0} {g : Graph (KnownLabel n) A} → AnySize law g ↔ AnySize raw (lower g)
  any-size-lower = any-size-embedded known-embedding

  -- what is of any size over labels of the table is so over labels
  unfoldable pub lower-of-any-size : {A : Type 0} {g : Graph (KnownLabel n) A} → AnySize law g → OfAnySize n t (lower g)
  lower-of-any-size {g = g} a = record { any-size = any-size-lower.0 a; typed = lower-typed g }

  -- Lifting: from labels, each of which is one of the table, to labels of the table and back.

  module _ {A B : Type 0} (s : Graph Label A) (g : Graph Label B) (left : Typed n s) (right : Typed n g) where
    pub below-lift : Below raw s g ↔ Below law (lift s) (lift g)
    below-lift = (
      λ b. below-lower.1 (same-below-left (lower-lift-same s left) (same-below-right (lower-lift-same g right) b)),
      λ b.
          same-below-left (same-sym (lower-lift-same s left))
          (same-below-right (same-sym (lower-lift-same g right)) (below-lower.0 b)),
    )

    pub meaning-lift : SameMeaning raw s g ↔ SameMeaning law (lift s) (lift g)
    meaning-lift = (
      λ m. meaning-lower.1 (same-trans (same-sym (lower-lift-same s left)) (same-trans m (lower-lift-same g right))),
      λ m. same-trans (lower-lift-same s left) (same-trans (meaning-lower.0 m) (same-sym (lower-lift-same g right))),
    )

    pub map-lift : (to : B → A) → NodeMap raw s g to ↔ NodeMap law (lift s) (lift g) to
    map-lift to = (
      λ m.
          record {
            root = m.root;
            links = m.links;
            labels = λ v r. labels v r (walk-map m r.0 v r.1) ∙ m.labels v r;
          },
      λ m.
          record {
            root = m.root;
            links = m.links;
            labels = λ v r. sym (labels v r (walk-map m r.0 v r.1)) ∙ m.labels v r;
          },
    )
      where
        labels : (v : B) (r : Reached g v) → walk s r.0 ≡ some (to v) →
            law.le ((lift s).label (to v)) ((lift g).label v) ≡ raw.le (s.label (to v)) (g.label v)
        labels v r w = ap₂ raw.le (lifted-label s left (to v) (r.0, w)) (lifted-label g right v r)

  module _ {A : Type 0} (g : Graph Label A) where
    -- with the same list of nodes
    unfoldable pub any-size-lift : Typed n g → AnySize raw g ↔ AnySize law (lift g)
    any-size-lift types = (
      λ a.
          record {
            nodes = a.nodes;
            listed = a.listed;
            features = a.features;
            consistent = λ v r. ap raw.contradiction (lifted-label g types v r) ∙ a.consistent v r;
            acyclic = a.acyclic;
          },
      λ a.
          record {
            nodes = a.nodes;
            listed = a.listed;
            features = a.features;
            consistent = λ v r. ap raw.contradiction (sym (lifted-label g types v r)) ∙ a.consistent v r;
            acyclic = a.acyclic;
          },
    )

    unfoldable pub lift-any-size : OfAnySize n t g → AnySize law (lift g)
    lift-any-size size = (any-size-lift size.typed).0 size.any-size

  -- a graph that means the same as a graph of any size is a graph of any size
  pub same-of-any-size : {A B : Type 0} (g : Graph Label A) (h : Graph Label B) → SameMeaning raw g h → OfAnySize n t g → OfAnySize n t h
  same-of-any-size {B = B} g h m size =
      record {
        any-size = (any-size-lift h types).1
            (same-any-size (lawful-lattice n t ok) ((meaning-lift g h size.typed types).0 m) (lift-any-size g size));
        typed = types;
      }
    where
      types : Typed n h
      types w r =
          let (v, d, q) = m.back r.0 w r.1 in
          subst (Known n) q (size.typed v (r.0, d))

  -- Generalization.

  module _ {A B : Type 0} (g : Graph Label A) (h : Graph Label B) (left : Typed n g) (right : Typed n h) where
    -- the generalization over labels is that over labels of the table, lowered
    pub generalization-exact : Exact (λ (x : A × B). x) (generalization raw g h) (lower (generalization law (lift g) (lift h)))
    unfolding generalization_by
    generalization-exact =
        record {
          root = refl;
          links = λ x f r. option-same (both (g.link x.0 f) (h.link x.1 f));
          labels = λ x r.
              let d = (Product.product-walks raw g h r.0 x.0 x.1).0 r.1 in
              join-label n t ok (known n t ok (g.label x.0)) (known n t ok (h.label x.1)) ∙
              ap₂ raw.join (lifted-label g left x.0 (r.0, d.0)) (lifted-label h right x.1 (r.0, d.1));
          injective = λ x y r q e. e;
        }

    pub generalization-lower : SameMeaning raw (generalization raw g h) (lower (generalization law (lift g) (lift h)))
    generalization-lower = exact_same generalization-exact

  -- Unification and difference over labels are those over labels of the table, lowered.

  pub unification-lower : {A B : Type 0} (sameA : A → A → Bool) (sameB : B → B → Bool) (g : Graph Label A) (gs : List A)
      (h : Graph Label B) (hs : List B) → ((v : A) → Memᴰ v gs → Known n (g.label v)) →
      ((w : B) → Memᴰ w hs → Known n (h.label w)) →
      unification raw sameA sameB g gs h hs ≡ relabel_unified (λ x. x.0) (unification law sameA sameB (lift g) gs (lift h) hs)
  unification-lower sameA sameB g gs h hs left right =
      unification-embedded known-embedding.meets sameA sameB g gs h hs (lift g).label (lift h).label
      (λ v m. known-label n t ok (g.label v) (left v m)) (λ w m. known-label n t ok (h.label w) (right w m))

  -- unification by other meets of types, which are those of the table for its types, is the same
  module _ (meets : ℕ → ℕ → ℕ) (are : (i j : ℕ) → i < n → j < n → meets i j ≡ cell (meet n t i j)) where
    -- the labels of the table with these meets
    abbrev agreeing : Labels
    agreeing =
        record {
          L = Label;
          le = raw.le;
          meet = meet_ranged meets;
          join = raw.join;
          top = raw.top;
          contradiction = raw.contradiction;
        }

    agrees : MeetEmbedding law agreeing (λ x. x.0)
    agrees =
        record {
          meet = λ x y.
              label-parts (are x.0.type y.0.type x.1.type y.1.type) refl refl ∙ sym (meet-label n t ok x y);
          top = refl;
          contradiction = λ x. refl;
        }

    pub same-unification : {A B : Type 0} (sameA : A → A → Bool) (sameB : B → B → Bool) (g : Graph Label A) (gs : List A)
        (h : Graph Label B) (hs : List B) → ((v : A) → Memᴰ v gs → Known n (g.label v)) →
        ((w : B) → Memᴰ w hs → Known n (h.label w)) →
        unification_by (meet_ranged meets) raw.top raw.contradiction sameA sameB g gs h hs ≡ unification raw sameA sameB g gs h hs
    same-unification sameA sameB g gs h hs left right =
        unification-embedded agrees sameA sameB g gs h hs (lift g).label (lift h).label
        (λ v m. known-label n t ok (g.label v) (left v m)) (λ w m. known-label n t ok (h.label w) (right w m)) ∙
        sym (unification-lower sameA sameB g gs h hs left right)

  -- the meet of all labels over a node
  pub meet_over-label : {A B : Type 0} (sameA : A → A → Bool) (g : Graph Label B) (gs : List B) (over : B → A) →
      ((w : B) → Memᴰ w gs → Known n (g.label w)) → (v : A) →
      meet_over raw sameA g gs over v ≡ (meet_over law sameA (lift g) gs over v).0
  meet_over-label sameA g gs over right v =
      meet_over-embedded known-embedding.meets sameA g gs over (lift g).label (λ w m. known-label n t ok (g.label w) (right w m)) v

  pub difference-lower : {A B : Type 0} (sameA : A → A → Bool) (sameB : B → B → Bool) (earlier : Link A → Link A → Bool)
      (s : Graph Label A) (ss : List A) (g : Graph Label B) (gs : List B) (over : B → A) (wanted : A → KnownLabel n) →
      difference raw sameA sameB earlier s ss g gs over (λ v. (wanted v).0) ≡
      lower (difference law sameA sameB earlier (lift s) ss (lift g) gs over wanted)
  difference-lower sameA sameB earlier s ss g gs over wanted =
      difference-embedded known-embedding sameA sameB earlier s ss g gs over (lift s).label wanted (lift g).label
