-- This file is about generalization. The product graph is a generalization: its walks are the pairs of walks. A generalization is the
-- least graph above both, among graphs of any size and on nodes of any type, and least upper bounds mean the same. So the three
-- conditions, the bound and the computed product say one thing.
use mathlib.Core.Path.{◌≡◌, refl, sym, ◌∙◌, ap, ap₂}
use mathlib.Core.Bool.{true}
use mathlib.Core.List.{List, [], ◌∷◌}
use mathlib.Core.Logic.{◌↔◌}
use mathlib.Core.Option.{Option, none, some}
use Prim.Native.Nat.{ℕ}
use Rattle.graphs.specs.Label.{Labels, Lattice}
use Rattle.graphs.specs.Graph.{Graph, Below, SameMeaning, AnySize, walk, follow, step, Corefer}
use Rattle.graphs.specs.Bounds.{LeastAbove, GreatestBelow}
use Rattle.graphs.specs.Generalize.{both, IsGeneralization, generalization_by, generalization}
use Rattle.graphs.proofs.Walk.{some-injective, none-some}
use Rattle.graphs.proofs.Finite.{above-any-size}
use Rattle.graphs.proofs.Below.{below-trans, below-labels, below-antisym}

module _ {A B : Type 0} where
  both-none : (o : Option A) → both {B = B} o none ≡ none
  both-none none = refl
  both-none (some v) = refl

  -- where both have a target, each has its part of the pair
  pub both_some : (o : Option A) (i : Option B) {x : A × B} → both o i ≡ some x → (o ≡ some x.0) × (i ≡ some x.1)
  both_some none i e = none-some e
  both_some (some v) none e = none-some e
  both_some (some v) (some w) e =
      (ap (λ x. some x.0) (some-injective e), ap (λ x. some x.1) (some-injective e))

  module _ (l : A → ℕ → Option A) (m : B → ℕ → Option B) where
    abbrev pair_link : A × B → ℕ → Option (A × B)
    pair_link x f = both (l x.0 f) (m x.1 f)

    pair_step : (o : Option A) (i : Option B) (f : ℕ) → step pair_link (both o i) f ≡ both (step l o f) (step m i f)
    pair_step none i f = refl
    pair_step (some v) none f = sym (both-none (l v f))
    pair_step (some v) (some w) f = refl

    pair-follow : (o : Option A) (i : Option B) (p : List ℕ) → follow pair_link (both o i) p ≡ both (follow l o p) (follow m i p)
    unfolding follow
    pair-follow o i [] = refl
    pair-follow o i (f ∷ p) = ap (λ z. follow pair_link z p) (pair_step o i f) ∙ pair-follow (step l o f) (step m i f) p

module _ (𝓛 : Labels) {A B : Type 0} (g : Graph 𝓛.L A) (h : Graph 𝓛.L B) where
  pub product-walk : (p : List ℕ) → walk (generalization 𝓛 g h) p ≡ both (walk g p) (walk h p)
  unfolding generalization_by
  product-walk p = pair-follow g.link h.link (some g.root) (some h.root) p

  -- The product walks where both graphs do.
  pub product-walks : (p : List ℕ) (v : A) (w : B) →
      (walk (generalization 𝓛 g h) p ≡ some (v, w)) ↔ ((walk g p ≡ some v) × (walk h p ≡ some w))
  product-walks p v w =
      (λ e. both_some (walk g p) (walk h p) (sym (product-walk p) ∙ e), λ d. product-walk p ∙ ap₂ both d.0 d.1)

  pub product-is-generalization : IsGeneralization 𝓛 g h (generalization 𝓛 g h)
  unfolding generalization_by
  product-is-generalization =
      record {
        there = λ p x e.
            let d = (product-walks p x.0 x.1).0 e in
            (x.0, x.1, d.0, d.1, refl);
        back = λ p v w d e. ((v, w), (product-walks p v w).1 (d, e));
        corefers = λ p q. (split p q, λ c. pair p q c.0 c.1);
      }
    where
      split : (p q : List ℕ) → Corefer (generalization 𝓛 g h) p q → Corefer g p q × Corefer h p q
      split p q (x, d, e) =
          let s = (product-walks p x.0 x.1).0 d in
          let t = (product-walks q x.0 x.1).0 e in
          ((x.0, s.0, t.0), (x.1, s.1, t.1))

      pair : (p q : List ℕ) → Corefer g p q → Corefer h p q → Corefer (generalization 𝓛 g h) p q
      pair p q c d =
          ((c.0, d.0), (product-walks p c.0 d.0).1 (c.1, d.1), (product-walks q c.0 d.0).1 (c.2, d.2))

-- A graph that means the same as a generalization is a generalization.
pub same-generalization : {𝓛 : Labels} {A B C D : Type 0} {g : Graph 𝓛.L A} {h : Graph 𝓛.L B} {k : Graph 𝓛.L C}
    {m : Graph 𝓛.L D} → IsGeneralization 𝓛 g h k → SameMeaning 𝓛 k m → IsGeneralization 𝓛 g h m
same-generalization i e =
    record {
      there = λ p y d.
          let (x, c, t) = e.back p y d in
          let (v, w, a, b, j) = i.there p x c in
          (v, w, a, b, sym t ∙ j);
      back = λ p v w a b.
          let (x, c) = i.back p v w a b in
          let (y, d, t) = e.there p x c in
          (y, d);
      corefers = λ p q.
          (λ c. (i.corefers p q).0 ((e.corefers p q).1 c), λ c. (e.corefers p q).0 ((i.corefers p q).1 c));
    }

-- Bounds.

module _ {𝓛 : Labels} (lattice : Lattice 𝓛) {A B : Type 0} {g : Graph 𝓛.L A} {h : Graph 𝓛.L B} where
  -- A generalization is the least graph above both.
  pub generalization-least : {C : Type 0} {k : Graph 𝓛.L C} → IsGeneralization 𝓛 g h k → LeastAbove 𝓛 g h k
  generalization-least {C} {k} i =
      record {
        left = record {
          paths = λ p x e.
              let (v, w, d, c, j) = i.there p x e in
              (v, d, ap (𝓛.le (g.label v)) j ∙ lattice.join-left _ _);
          corefers = λ p q c. ((i.corefers p q).0 c).0;
        };
        right = record {
          paths = λ p x e.
              let (v, w, d, c, j) = i.there p x e in
              (w, c, ap (𝓛.le (h.label w)) j ∙ lattice.join-right _ _);
          corefers = λ p q c. ((i.corefers p q).0 c).1;
        };
        least = least;
      }
    where
      least : {D : Type 0} (m : Graph 𝓛.L D) → Below 𝓛 g m → Below 𝓛 h m → Below 𝓛 k m
      least {D} m b c =
          record { paths = paths; corefers = λ p q r. (i.corefers p q).1 (b.corefers p q r, c.corefers p q r) }
        where
          paths : (p : List ℕ) (u : D) → walk m p ≡ some u → (x : C) × (walk k p ≡ some x) × (𝓛.le (k.label x) (m.label u) ≡ true)
          paths p u e =
              let (v, d, _) = b.paths p u e in
              let (w, f, _) = c.paths p u e in
              let (x, y) = i.back p v w d f in
              let (a, n, j, l, t) = i.there p x y in (
                x,
                y,
                ap (λ z. 𝓛.le z (m.label u)) t ∙
                    lattice.join-least _ _ _ (below-labels b p a u j e) (below-labels c p n u l e),
              )

  pub least-unique : {C D : Type 0} {k : Graph 𝓛.L C} {m : Graph 𝓛.L D} → LeastAbove 𝓛 g h k → LeastAbove 𝓛 g h m →
      SameMeaning 𝓛 k m
  least-unique {k = k} {m} a b =
      below-antisym lattice (a.least m b.left b.right) (b.least k a.left a.right)

  pub greatest-unique : {C D : Type 0} {k : Graph 𝓛.L C} {m : Graph 𝓛.L D} → GreatestBelow 𝓛 g h k →
      GreatestBelow 𝓛 g h m → SameMeaning 𝓛 k m
  greatest-unique {k = k} {m} a b =
      below-antisym lattice (b.greatest k a.left a.right) (a.greatest m b.left b.right)

  -- A generalization is of any size where one of the two graphs is.
  pub generalization-any-size : {C : Type 0} {k : Graph 𝓛.L C} → IsGeneralization 𝓛 g h k → AnySize 𝓛 g → AnySize 𝓛 k
  generalization-any-size i = above-any-size lattice (generalization-least i).left

-- Generalization is monotone.
pub generalization-monotone : {𝓛 : Labels} → Lattice 𝓛 → {A B C D E F : Type 0} {g : Graph 𝓛.L A} {h : Graph 𝓛.L B}
    {k : Graph 𝓛.L C} {l : Graph 𝓛.L D} {m : Graph 𝓛.L E} {n : Graph 𝓛.L F} →
    IsGeneralization 𝓛 g h k → IsGeneralization 𝓛 l m n → Below 𝓛 g l → Below 𝓛 h m → Below 𝓛 k n
generalization-monotone lattice {n = n} i j b c =
    let over = generalization-least lattice j in
    (generalization-least lattice i).least n (below-trans lattice b over.left) (below-trans lattice c over.right)

pub product-monotone : {𝓛 : Labels} → Lattice 𝓛 → {A B C D : Type 0} {g : Graph 𝓛.L A} {h : Graph 𝓛.L B}
    {l : Graph 𝓛.L C} {m : Graph 𝓛.L D} →
    Below 𝓛 g l → Below 𝓛 h m → Below 𝓛 (generalization 𝓛 g h) (generalization 𝓛 l m)
product-monotone {𝓛} lattice {g = g} {h} {l} {m} =
    generalization-monotone lattice (product-is-generalization 𝓛 g h) (product-is-generalization 𝓛 l m)
