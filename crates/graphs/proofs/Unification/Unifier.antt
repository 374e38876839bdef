-- This file shows what follows from `IsUnification` alone, for graphs on any nodes: the unification lies below both graphs and above every
-- graph that does (`unification-left`, `unification-right`, `unification-greatest`). There is no cycle and no clash where any graph of
-- any size lies below both.
use mathlib.Core.Path.{◌≡◌, sym, ◌∙◌, ap, subst}
use mathlib.Core.Bool.{true}
use mathlib.Core.List.{List, [], ◌∷◌, ◌++◌}
use mathlib.Core.Logic.{◌↔◌}
use mathlib.Core.Option.{some}
use Prim.Native.Nat.{ℕ}
use Rattle.graphs.specs.Label.{Labels, Lattice}
use Rattle.graphs.specs.Graph.{Graph, walk, Reached, Corefer, Below, AnySize}
use Rattle.graphs.specs.Unify.{Joined, left, right, flip, chain, down, UnderClass, ClassMeet, Cycle, Clash, IsUnification}
use Rattle.graphs.proofs.Walk.{some-unique, walk-append, walk-snoc}
use Rattle.graphs.proofs.Search.{true-false}
use Rattle.graphs.proofs.Unification.Deep.{Loop}

-- coreference passes down a feature
pub corefer-down : {L C : Type 0} (k : Graph L C) (p q : List ℕ) (f : ℕ) → Corefer k p q →
    Corefer k (p ++ (f ∷ [])) (p ++ (f ∷ [])) → Corefer k (p ++ (f ∷ [])) (q ++ (f ∷ []))
corefer-down k p q f (c, a, b) (d, e, _) = (d, e, walk-snoc k q f b ∙ sym (walk-snoc k p f a) ∙ e)

-- The closure is the smallest: it holds in every graph that has both graphs' coreference.
pub joined-least : {L A B C : Type 0} (g : Graph L A) (h : Graph L B) (k : Graph L C) →
    ((p q : List ℕ) → Corefer g p q → Corefer k p q) →
    ((p q : List ℕ) → Corefer h p q → Corefer k p q) → {p q : List ℕ} → Joined g h p q → Corefer k p q
joined-least g h k a b (left {p} {q} c) = a p q c
joined-least g h k a b (right {p} {q} c) = b p q c
joined-least g h k a b (flip j) = let (c, d, e) = joined-least g h k a b j in (c, e, d)
joined-least g h k a b (chain j j') =
    let (c, d, e) = joined-least g h k a b j in
    let (c', d', e') = joined-least g h k a b j' in
    (c, d, e' ∙ sym d' ∙ e)
joined-least g h k a b (down {p} {q} f j j') =
    corefer-down k p q f (joined-least g h k a b j) (joined-least g h k a b j')

-- a class has one meet
pub class-meet-unique : {𝓛 : Labels} → Lattice 𝓛 → {A B : Type 0} {g : Graph 𝓛.L A} {h : Graph 𝓛.L B} {p : List ℕ}
    {a b : 𝓛.L} → ClassMeet 𝓛 g h p a → ClassMeet 𝓛 g h p b → a ≡ b
class-meet-unique lattice {a = a} {b} m n = lattice.le_antisym a b (n.greatest a m.under) (m.greatest b n.under)

-- The graph k lies below both graphs.
module _ {𝓛 : Labels} {A B C : Type 0} {g : Graph 𝓛.L A} {h : Graph 𝓛.L B} {k : Graph 𝓛.L C}
    (below-g : Below 𝓛 k g) (below-h : Below 𝓛 k h) where
  -- joined paths corefer in k
  pub below-joined : {p q : List ℕ} → Joined g h p q → Corefer k p q
  below-joined = joined-least g h k below-g.corefers below-h.corefers

  -- the labels of k lie below those of the classes
  pub below-under : (p : List ℕ) (x : C) → walk k p ≡ some x → UnderClass 𝓛 g h p (k.label x)
  below-under p x e =
      record {
        first = λ q v j d. let (y, a, b) = below-g.paths q v d in at q y a j b;
        second = λ q v j d. let (y, a, b) = below-h.paths q v d in at q y a j b;
      }
    where
      at : (q : List ℕ) (y : C) → walk k q ≡ some y → Joined g h p q → {a : 𝓛.L} → 𝓛.le (k.label y) a ≡ true →
          𝓛.le (k.label x) a ≡ true
      at q y d j {a} l =
          let (z, m, n) = below-joined j in
          subst (λ w. 𝓛.le (k.label w) a ≡ true) (some-unique d (n ∙ sym m ∙ e)) l

  -- The unification lies above k.
  pub unification-greatest : {D : Type 0} {u : Graph 𝓛.L D} → IsUnification 𝓛 g h u → Below 𝓛 k u
  unification-greatest {u = u} is =
      record {
        paths =
            λ p x e.
            let (y, a, b) = below-joined ((is.corefers p p).0 (x, e, e)) in
            (y, a, (is.labels p x e).greatest (k.label y) (below-under p y a));
        corefers = λ p q c. below-joined ((is.corefers p q).0 c);
      }

  -- If k is a graph of any size, there is no cycle and no clash.
  pub below-no-cycle : AnySize 𝓛 k → Cycle 𝓛 g h → ⊥
  below-no-cycle size (p, f, r, j) =
      let (x, a, b) = below-joined j in
      size.acyclic x f r (p, a) (sym (walk-append k p (f ∷ r) a) ∙ b)

  pub below-no-clash : Lattice 𝓛 → AnySize 𝓛 k → Clash 𝓛 g h → ⊥
  below-no-clash lattice size (p, a, j, m, c) =
      let (x, d, e) = below-joined j in
      let l = m.greatest (k.label x) (below-under p x d) in
      true-false (lattice.contradiction-down (k.label x) a l c) (size.consistent x (p, d))

-- The unification itself.
module _ {𝓛 : Labels} {A B C : Type 0} {g : Graph 𝓛.L A} {h : Graph 𝓛.L B} {u : Graph 𝓛.L C}
    (is : IsUnification 𝓛 g h u) where
  pub unification-left : Below 𝓛 u g
  unification-left =
      record {
        paths =
            λ p v e.
            let j : Joined g h p p = left (v, e, e) in
            let (x, a, b) = (is.corefers p p).1 j in
            (x, a, (is.labels p x a).under.first p v j e);
        corefers = λ p q c. (is.corefers p q).1 (left c);
      }

  pub unification-right : Below 𝓛 u h
  unification-right =
      record {
        paths =
            λ p v e.
            let j : Joined g h p p = right (v, e, e) in
            let (x, a, b) = (is.corefers p p).1 j in
            (x, a, (is.labels p x a).under.second p v j e);
        corefers = λ p q c. (is.corefers p q).1 (right c);
      }

  -- There is a cycle exactly where a node of the unification reaches itself.
  pub unification-cycle : Cycle 𝓛 g h ↔ Loop u.link (some u.root)
  unification-cycle = (there, back)
    where
      there : Cycle 𝓛 g h → Loop u.link (some u.root)
      there (q, f, p, j) =
          let (x, a, b) = (is.corefers q (q ++ (f ∷ p))).1 j in
          (x, f, p, (q, a), sym (walk-append u q (f ∷ p) a) ∙ b)

      back : Loop u.link (some u.root) → Cycle 𝓛 g h
      back (x, f, p, (q, a), e) = (q, f, p, (is.corefers q (q ++ (f ∷ p))).0 (x, a, walk-append u q (f ∷ p) a ∙ e))

  -- There is a clash exactly where a label of the unification is the contradiction.
  pub unification-clash : Lattice 𝓛 → Clash 𝓛 g h ↔ ((x : C) × Reached u x × (𝓛.contradiction (u.label x) ≡ true))
  unification-clash lattice = (there, back)
    where
      there : Clash 𝓛 g h → (x : C) × Reached u x × (𝓛.contradiction (u.label x) ≡ true)
      there (p, a, j, m, c) =
          let (x, d, _) = (is.corefers p p).1 j in
          (x, (p, d), ap 𝓛.contradiction (class-meet-unique lattice (is.labels p x d) m) ∙ c)

      back : (x : C) × Reached u x × (𝓛.contradiction (u.label x) ≡ true) → Clash 𝓛 g h
      back (x, (q, e), c) = (q, u.label x, (is.corefers q q).0 (x, e, e), is.labels q x e, c)
