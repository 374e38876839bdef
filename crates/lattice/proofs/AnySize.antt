-- This file is about bounds among the graphs of any size over an accepted table. The generalization is the least of those above both
-- graphs. The unification is the greatest of those below both; where it answers a cycle or a clash, none lies below both. The difference
-- restores, and nothing more general does. Each theorem is carried over from the table's lattice of labels.
use Prim.Native.Nat.{ℕ}
use mathlib.Core.Path.{◌≡◌, refl, sym, ap, subst, ◌∙◌}
use mathlib.Core.Bool.{Bool, true}
use mathlib.Core.List.{List}
use mathlib.Core.Logic.Iff
use mathlib.Core.Logic.{◌↔◌, ◌⊎◌, inl, inr, ⊎_elim}
use mathlib.Core.Option.{some}
use native.Mathlib.Omega.{arith}
use lib.Dec.{eqb}
use Rattle.graphs.specs.Label.{Labels}
use Rattle.graphs.specs.Graph.{Graph, TellsApart, Reached, Below, SameMeaning}
use Rattle.graphs.specs.Generalize.{generalization}
use Rattle.graphs.specs.Unify.{UnderClass, ClassMeet, IsUnification, Cycle, Clash, Unified, cycle, clash, unified, class_graph, unification}
use Rattle.graphs.specs.Difference.{Link, difference}
use Rattle.graphs.proofs.Lists.{tells-eqb}
use Rattle.graphs.proofs.Below.{below-trans, map_below, same_refl, same-sym, same-meaning}
use Rattle.graphs.proofs.Decided.{refute-on-numbers}
use Rattle.graphs.proofs.Product as Product
use Rattle.graphs.proofs.Unification.Beside.{any-size-operands}
use Rattle.graphs.proofs.Unification.Unifier.{unification-left, unification-right}
use Rattle.graphs.proofs.Unification.Unifier as Unifier
use Rattle.graphs.proofs.Unification.Outcome as Outcome
use Rattle.graphs.proofs.Difference.Computed.{Setting}
use Rattle.graphs.proofs.Difference.Computed as Computed
use Rattle.graphs.proofs.Theorems as Theorems
use Rattle.lattice.specs.Label.{Label}
use Rattle.lattice.specs.Table.{accepted}
use Rattle.lattice.specs.Labels.{table_labels, OfAnySize, LeastOfAnySize, GreatestOfAnySize, LabelsMeet, LabelClash, IsCombination}
use Rattle.lattice.proofs.Relabel.{
  relabel_unified,
  relabel-cycle,
  relabel-clash,
  joined-carried,
  same-below-left,
  same-below-right,
}
use Rattle.lattice.proofs.Lawful.{KnownLabel, known, lawful, lawful-lattice}
use Rattle.lattice.proofs.Transfer.{
  lower,
  lift,
  lifted-label,
  lower-lift-same,
  below-lower,
  below-lift,
  meaning-lift,
  any-size-lift,
  lift-any-size,
  lower-of-any-size,
  same-of-any-size,
  generalization-lower,
  unification-lower,
  difference-lower,
}

module _ (n : ℕ) (t : List ℕ) (ok : accepted n t ≡ true) where
  abbrev raw : Labels
  raw = table_labels n t

  abbrev law : Labels
  law = lawful n t ok

  -- The order among graphs of any size.

  pub below-transitive : {A B C : Type 0} (s : Graph Label A) (g : Graph Label B) (h : Graph Label C) → OfAnySize n t s → OfAnySize n t g →
      OfAnySize n t h → Below raw s g → Below raw g h → Below raw s h
  below-transitive s g h a b c x y =
      (below-lift n t ok s h a.typed c.typed).1
      (below-trans (lawful-lattice n t ok) ((below-lift n t ok s g a.typed b.typed).0 x)
      ((below-lift n t ok g h b.typed c.typed).0 y))

  -- "Graphs of equal meaning, and no others, are below each other."
  pub below_both : {A B : Type 0} (g : Graph Label A) (h : Graph Label B) → OfAnySize n t g → OfAnySize n t h →
      SameMeaning raw g h ↔ (Below raw g h × Below raw h g)
  below_both g h a b =
      let (there, back) = same-meaning (lawful-lattice n t ok) (lift n t ok g) (lift n t ok h) in (
        λ m.
            let (x, y) = there ((meaning-lift n t ok g h a.typed b.typed).0 m) in
            ((below-lift n t ok g h a.typed b.typed).1 x, (below-lift n t ok h g b.typed a.typed).1 y),
        λ (x, y).
            (meaning-lift n t ok g h a.typed b.typed).1
            (back ((below-lift n t ok g h a.typed b.typed).0 x, (below-lift n t ok h g b.typed a.typed).0 y)),
      )

  -- "Common part": it is a graph of any size, and the least of those above both
  pub generalization-least : {A B : Type 0} (g : Graph Label A) (h : Graph Label B) → OfAnySize n t g → OfAnySize n t h →
      LeastOfAnySize n t g h (generalization raw g h)
  generalization-least g h size other =
      let best = Product.generalization-least (lawful-lattice n t ok) (Product.product-is-generalization law (lift n t ok g) (lift n t ok h)) in
      let same = generalization-lower n t ok g h size.typed other.typed in
      record {
        of-any-size = same-of-any-size n t ok (lower (generalization law (lift n t ok g) (lift n t ok h))) (generalization raw g h) (same-sym same)
            (lower-of-any-size n t ok
            (Product.generalization-any-size (lawful-lattice n t ok) (Product.product-is-generalization law (lift n t ok g) (lift n t ok h))
            (lift-any-size n t ok g size)));
        left = same-below-left (same-sym (lower-lift-same n t ok g size.typed))
            (same-below-right (same-sym same) ((below-lower n t ok).0 best.left));
        right = same-below-left (same-sym (lower-lift-same n t ok h other.typed))
            (same-below-right (same-sym same) ((below-lower n t ok).0 best.right));
        least = λ m above b c.
            same-below-left (same-sym same)
            (same-below-right (same-sym (lower-lift-same n t ok m above.typed))
            ((below-lower n t ok).0
            (best.least (lift n t ok m) ((below-lift n t ok g m size.typed above.typed).0 b) ((below-lift n t ok h m other.typed above.typed).0 c))));
      }

  -- a graph that means the same as the least graph is the least
  pub same-least : {A B C D : Type 0} (g : Graph Label A) (h : Graph Label B) (k : Graph Label C) (m : Graph Label D) → SameMeaning raw k m →
      LeastOfAnySize n t g h k → LeastOfAnySize n t g h m
  same-least g h k m same best =
      record {
        of-any-size = same-of-any-size n t ok k m same best.of-any-size;
        left = same-below-right same best.left;
        right = same-below-right same best.right;
        least = λ u above b c. same-below-left same (best.least u above b c);
      }

  -- a graph that means the same as the greatest graph is the greatest, also below a graph that means the same as one of the two
  pub same-greatest : {A B C D E : Type 0} (g : Graph Label A) (h : Graph Label B) (k : Graph Label C) (i : Graph Label D) (m : Graph Label E) →
      SameMeaning raw g i → SameMeaning raw k m → GreatestOfAnySize n t g h k → GreatestOfAnySize n t i h m
  same-greatest g h k i m same means best =
      record {
        of-any-size = same-of-any-size n t ok k m means best.of-any-size;
        left = same-below-left means (same-below-right same best.left);
        right = same-below-left means best.right;
        greatest = λ u under b c. same-below-right means (best.greatest u under (same-below-right (same-sym same) b) c);
      }

  -- the sides do not matter
  pub greatest-sides : {A B C : Type 0} (g : Graph Label A) (h : Graph Label B) (k : Graph Label C) → GreatestOfAnySize n t g h k →
      GreatestOfAnySize n t h g k
  greatest-sides g h k best =
      record {
        of-any-size = best.of-any-size;
        left = best.right;
        right = best.left;
        greatest = λ u under b c. best.greatest u under c b;
      }

  -- greatest graphs below one pair have equal meaning
  pub greatest-unique : {A B C D : Type 0} (g : Graph Label A) (h : Graph Label B) (k : Graph Label C) (m : Graph Label D) →
      GreatestOfAnySize n t g h k → GreatestOfAnySize n t g h m → SameMeaning raw k m
  greatest-unique g h k m best other =
      (below_both k m best.of-any-size other.of-any-size).1 (
        other.greatest k best.of-any-size best.left best.right,
        best.greatest m other.of-any-size other.left other.right,
      )

  -- Classes of paths, over labels and over labels of the table.
  module _ {A B : Type 0} (g : Graph Label A) (h : Graph Label B) (a : OfAnySize n t g) (b : OfAnySize n t h) where
    under-lift : (p : List ℕ) (x : KnownLabel n) → UnderClass raw g h p x.0 ↔ UnderClass law (lift n t ok g) (lift n t ok h) p x
    under-lift p x = (
      λ u.
          record {
            first = λ q v j e.
                ap (raw.le x.0) (lifted-label n t ok g a.typed v (q, e)) ∙
                u.first q v (joined-carried (lift n t ok g) (lift n t ok h) g h (λ p q c. c) (λ p q c. c) j) e;
            second = λ q w j e.
                ap (raw.le x.0) (lifted-label n t ok h b.typed w (q, e)) ∙
                u.second q w (joined-carried (lift n t ok g) (lift n t ok h) g h (λ p q c. c) (λ p q c. c) j) e;
          },
      λ u.
          record {
            first = λ q v j e.
                sym (ap (raw.le x.0) (lifted-label n t ok g a.typed v (q, e))) ∙
                u.first q v (joined-carried g h (lift n t ok g) (lift n t ok h) (λ p q c. c) (λ p q c. c) j) e;
            second = λ q w j e.
                sym (ap (raw.le x.0) (lifted-label n t ok h b.typed w (q, e))) ∙
                u.second q w (joined-carried g h (lift n t ok g) (lift n t ok h) (λ p q c. c) (λ p q c. c) j) e;
          },
    )

    meet-lift : (p : List ℕ) (x : KnownLabel n) → LabelsMeet n t g h p x.0 ↔ ClassMeet law (lift n t ok g) (lift n t ok h) p x
    meet-lift p x = (
      λ m. record { under = (under-lift p x).0 m.under; greatest = λ c u. m.greatest c.0 c.1 ((under-lift p c).1 u) },
      λ m. record { known = x.1; under = (under-lift p x).1 m.under; greatest = λ c l u. m.greatest (c, l) ((under-lift p (c, l)).0 u) },
    )

    -- What the classes give is the greatest graph of any size below both.
    pub combination-greatest : {C : Type 0} (u : Graph Label C) → OfAnySize n t u → IsCombination n t g h u → GreatestOfAnySize n t g h u
    combination-greatest {C} u size is =
        record {
          of-any-size = size;
          left = (below-lift n t ok u g size.typed a.typed).1 (unification-left lifted);
          right = (below-lift n t ok u h size.typed b.typed).1 (unification-right lifted);
          greatest = λ m under x y.
              (below-lift n t ok m u under.typed size.typed).1
              (Unifier.unification-greatest ((below-lift n t ok m g under.typed a.typed).0 x)
              ((below-lift n t ok m h under.typed b.typed).0 y) lifted);
        }
      where
        lifted : IsUnification law (lift n t ok g) (lift n t ok h) (lift n t ok u)
        lifted =
            record {
              corefers = λ p q. (
                λ c. joined-carried g h (lift n t ok g) (lift n t ok h) (λ p q c. c) (λ p q c. c) ((is.corefers p q).0 c),
                λ j. (is.corefers p q).1 (joined-carried (lift n t ok g) (lift n t ok h) g h (λ p q c. c) (λ p q c. c) j),
              );
              labels = λ p x e.
                  (meet-lift p (known n t ok (u.label x))).0
                  (subst (LabelsMeet n t g h p) (sym (lifted-label n t ok u size.typed x (p, e))) (is.labels p x e));
            }

    -- a graph that means the same as a combination is a combination
    pub same-combination : {C D : Type 0} (u : Graph Label C) (w : Graph Label D) → SameMeaning raw u w → IsCombination n t g h u → IsCombination n t g h w
    same-combination u w same is =
        record {
          corefers = λ p q. Iff.trans ((same.corefers p q).1, (same.corefers p q).0) (is.corefers p q);
          labels = λ p x e. let (v, d, l) = same.back p x e in subst (LabelsMeet n t g h p) l (is.labels p v d);
        }

  -- "Combination", of two graphs of any size.
  module _ {A B : Type 0} (sameA : A → A → Bool) (sameB : B → B → Bool) (tells_a : TellsApart sameA) (tells_b : TellsApart sameB) (g : Graph Label A)
      (h : Graph Label B) (a : OfAnySize n t g) (b : OfAnySize n t h) where
    -- what unification answers, over labels and over labels of the table
    abbrev pub answer : Unified Label (A ⊎ B)
    answer = unification raw sameA sameB g a.any-size.nodes h b.any-size.nodes

    abbrev answers : Unified (KnownLabel n) (A ⊎ B)
    answers = unification law sameA sameB (lift n t ok g) a.any-size.nodes (lift n t ok h) b.any-size.nodes

    answer-lower : answer ≡ relabel_unified (λ x. x.0) answers
    answer-lower =
        unification-lower n t ok sameA sameB g a.any-size.nodes h b.any-size.nodes
        (λ v m. a.typed v ((a.any-size.listed v).1 m)) (λ w m. b.typed w ((b.any-size.listed w).1 m))

    -- no graph of any size lies below both
    abbrev pub NoneBelow : Type 1
    NoneBelow = (C : Type 0) (k : Graph Label C) → OfAnySize n t k → Below raw k g → Below raw k h → ⊥

    unified-combination : (w : Graph (KnownLabel n) (A ⊎ B)) → answers ≡ unified w → OfAnySize n t (lower w) × IsCombination n t g h (lower w)
    unfolding any-size-lift lift-any-size
    unified-combination w e =
        let (is, size, _) =
        Theorems.unification-is law (lawful-lattice n t ok) sameA sameB tells_a tells_b (lift n t ok g) (lift n t ok h)
        (lift-any-size n t ok g a) (lift-any-size n t ok h b) w e in (
          lower-of-any-size n t ok size,
          record {
            corefers = λ p q. (
              λ c. joined-carried (lift n t ok g) (lift n t ok h) g h (λ p q c. c) (λ p q c. c) ((is.corefers p q).0 c),
              λ j. (is.corefers p q).1 (joined-carried g h (lift n t ok g) (lift n t ok h) (λ p q c. c) (λ p q c. c) j),
            );
            labels = λ p x d. (meet-lift g h a b p (w.label x)).1 (is.labels p x d);
          },
        )

    -- A graph that is answered is the combination.
    pub unification-combination : (u : Graph Label (A ⊎ B)) → answer ≡ unified u → OfAnySize n t u × IsCombination n t g h u
    unification-combination u e = go answers refl (sym answer-lower ∙ e)
      where
        go : (o : Unified (KnownLabel n) (A ⊎ B)) → answers ≡ o → relabel_unified (λ x. x.0) o ≡ unified u → OfAnySize n t u × IsCombination n t g h u
        go cycle q r = let z : ◌≡◌ {A = ℕ} 0 1 = cc in absurd (omega arith)
        go clash q r = let z : ◌≡◌ {A = ℕ} 0 1 = cc in absurd (omega arith)
        go (unified w) q r =
            let same : lower w ≡ u = cc in
            subst (λ (k : Graph Label (A ⊎ B)). OfAnySize n t k × IsCombination n t g h k) same (unified-combination w q)

    -- A graph that is answered is the greatest graph of any size below both.
    pub unification-greatest : (u : Graph Label (A ⊎ B)) → answer ≡ unified u → GreatestOfAnySize n t g h u
    unification-greatest u e = let (size, is) = unification-combination u e in combination-greatest g h a b u size is

    answer-cycle : (answer ≡ cycle) ↔ (answers ≡ cycle)
    answer-cycle =
        let (there, back) = relabel-cycle (λ (x : KnownLabel n). x.0) answers in
        (λ e. there (sym answer-lower ∙ e), λ e. answer-lower ∙ back e)

    answer-clash : (answer ≡ clash) ↔ (answers ≡ clash)
    answer-clash =
        let (there, back) = relabel-clash (λ (x : KnownLabel n). x.0) answers in
        (λ e. there (sym answer-lower ∙ e), λ e. answer-lower ∙ back e)

    same-cycle : Cycle raw g h ↔ Cycle law (lift n t ok g) (lift n t ok h)
    same-cycle = (
      λ (p, f, r, j). (p, f, r, joined-carried g h (lift n t ok g) (lift n t ok h) (λ p q c. c) (λ p q c. c) j),
      λ (p, f, r, j). (p, f, r, joined-carried (lift n t ok g) (lift n t ok h) g h (λ p q c. c) (λ p q c. c) j),
    )

    -- A cycle is answered exactly where a class reaches itself.
    pub unification-cycle : (answer ≡ cycle) ↔ Cycle raw g h
    unfolding any-size-lift lift-any-size
    unification-cycle =
        Iff.trans answer-cycle
        (Iff.trans
        (Theorems.unification-cycle law (lawful-lattice n t ok) sameA sameB tells_a tells_b (lift n t ok g) (lift n t ok h)
        (lift-any-size n t ok g a) (lift-any-size n t ok h b))
        (same-cycle.1, same-cycle.0))

    same-clash : LabelClash n t g h ↔ Clash law (lift n t ok g) (lift n t ok h)
    same-clash = (
      λ (p, x, j, m, e). (
        p,
        (x, m.known),
        joined-carried g h (lift n t ok g) (lift n t ok h) (λ p q c. c) (λ p q c. c) j,
        (meet-lift g h a b p (x, m.known)).0 m,
        e,
      ),
      λ (p, x, j, m, e). (
        p,
        x.0,
        joined-carried (lift n t ok g) (lift n t ok h) g h (λ p q c. c) (λ p q c. c) j,
        (meet-lift g h a b p x).1 m,
        e,
      ),
    )

    -- A clash is answered exactly where there is no cycle, and the meet of the labels of a class is a contradiction.
    pub unification-clash : (answer ≡ clash) ↔ ((Cycle raw g h → ⊥) × LabelClash n t g h)
    unfolding any-size-lift lift-any-size
    unification-clash =
        let (there, back) =
        Theorems.unification-clash law (lawful-lattice n t ok) sameA sameB tells_a tells_b (lift n t ok g) (lift n t ok h)
        (lift-any-size n t ok g a) (lift-any-size n t ok h b) in (
          λ e.
              let (none, meets) = there (answer-clash.0 e) in
              (λ c. none (same-cycle.0 c), same-clash.1 meets),
          λ (none, meets). answer-clash.1 (back (λ c. none (same-cycle.1 c), same-clash.0 meets)),
        )

    -- A cycle or a clash is answered exactly where no graph of any size lies below both.
    pub unification-none : ((answer ≡ cycle) ⊎ (answer ≡ clash)) ↔ NoneBelow
    unification-none = (
      ⊎_elim (λ e. none (inl (same-cycle.0 (unification-cycle.0 e)))) (λ e. none (inr (same-clash.0 (unification-clash.0 e).1))),
      found answers refl,
    )
      where
        none : Cycle law (lift n t ok g) (lift n t ok h) ⊎ Clash law (lift n t ok g) (lift n t ok h) → NoneBelow
        none bad C k size x y =
            (Theorems.unification-none law (lawful-lattice n t ok) sameA sameB tells_a tells_b (lift n t ok g) (lift n t ok h)
            (lift-any-size n t ok g a) (lift-any-size n t ok h b)).0 bad C (lift n t ok k) (lift-any-size n t ok k size)
            ((below-lift n t ok k g size.typed a.typed).0 x) ((below-lift n t ok k h size.typed b.typed).0 y)

        found : (o : Unified (KnownLabel n) (A ⊎ B)) → answers ≡ o → NoneBelow → (answer ≡ cycle) ⊎ (answer ≡ clash)
        found cycle q no-graph = inl (answer-cycle.1 q)
        found clash q no-graph = inr (answer-clash.1 q)
        found (unified w) q no-graph =
            let (size, is) = unified-combination w q in
            let best = combination-greatest g h a b (lower w) size is in
            absurd (no-graph (A ⊎ B) (lower w) size best.left best.right)

    -- Where some graph of any size lies below both, a graph is answered.
    pub unification-exists : {C : Type 0} (k : Graph Label C) → OfAnySize n t k → Below raw k g → Below raw k h →
        (u : Graph Label (A ⊎ B)) × (answer ≡ unified u)
    unification-exists {C} k size x y = go answer refl
      where
        go : (o : Unified Label (A ⊎ B)) → answer ≡ o → (u : Graph Label (A ⊎ B)) × (answer ≡ unified u)
        go cycle q = absurd (unification-none.0 (inl q) C k size x y)
        go clash q = absurd (unification-none.0 (inr q) C k size x y)
        go (unified u) q = (u, q)

  -- Bounds keep the order: g lies below k, and h below m.
  module _ {A B C D : Type 0} (g : Graph Label A) (k : Graph Label B) (h : Graph Label C) (m : Graph Label D) (a : OfAnySize n t g) (b : OfAnySize n t k)
      (c : OfAnySize n t h) (d : OfAnySize n t m) (x : Below raw g k) (y : Below raw h m) where
    pub least-monotone : {U W : Type 0} (u : Graph Label U) (w : Graph Label W) → LeastOfAnySize n t g h u → LeastOfAnySize n t k m w → Below raw u w
    least-monotone u w best other =
        best.least w other.of-any-size (below-transitive g k w a b other.of-any-size x other.left)
        (below-transitive h m w c d other.of-any-size y other.right)

    -- what lies below g and h lies below k and m
    pub below-broader : {U : Type 0} (u : Graph Label U) → OfAnySize n t u → Below raw u g → Below raw u h → Below raw u k × Below raw u m
    below-broader u size left right = (below-transitive u g k size a b left x, below-transitive u h m size c d right y)

    pub greatest-monotone : {U W : Type 0} (u : Graph Label U) (w : Graph Label W) → GreatestOfAnySize n t g h u → GreatestOfAnySize n t k m w →
        Below raw u w
    greatest-monotone u w best other =
        let (left, right) = below-broader u best.of-any-size best.left best.right in
        other.greatest u best.of-any-size left right

    -- where g and h combine, so do k and m, if the nodes of k and m are told apart
    pub combines-broader : (sameB : B → B → Bool) (sameD : D → D → Bool) → TellsApart sameB → TellsApart sameD → {U : Type 0} (u : Graph Label U) →
        GreatestOfAnySize n t g h u → (w : Graph Label (B ⊎ D)) × IsCombination n t k m w × GreatestOfAnySize n t k m w × Below raw u w
    combines-broader sameB sameD tells_b tellsD u best =
        let (left, right) = below-broader u best.of-any-size best.left best.right in
        let (w, e) = unification-exists sameB sameD tells_b tellsD k m b d u best.of-any-size left right in
        let (size, is) = unification-combination sameB sameD tells_b tellsD k m b d w e in
        let other = combination-greatest k m b d w size is in
        (w, is, other, greatest-monotone u w best other)

    -- for any node type, it is refuted that k and m do not combine
    pub combines-not-refuted : {U : Type 0} (u : Graph Label U) → GreatestOfAnySize n t g h u →
        ((W : Type 0) (w : Graph Label W) → GreatestOfAnySize n t k m w → ⊥) → ⊥
    combines-not-refuted u best refuted =
        let (left, right) = below-broader u best.of-any-size best.left best.right in
        refute-on-numbers k b.any-size λ i same.
        refute-on-numbers m d.any-size λ j means.
        let one = same-of-any-size n t ok k i same b in
        let two = same-of-any-size n t ok m j means d in
        let (w, e) =
        unification-exists eqb eqb tells-eqb tells-eqb i j one two u best.of-any-size (same-below-right same left)
        (same-below-right means right) in
        let found = unification-greatest eqb eqb tells-eqb tells-eqb i j one two w e in
        let first = same-greatest i j w k w (same-sym same) (same_refl w) found in
        let second = same-greatest j k w m w (same-sym means) (same_refl w) (greatest-sides k j w first) in
        refuted (ℕ ⊎ ℕ) w (greatest-sides m k w second)

  -- "Difference", of graphs of any size: `set` is what the theory of graphs asks for, over labels of the table.
  module _ {A B : Type 0} (sameA : A → A → Bool) (sameB : B → B → Bool) (earlier : Link A → Link A → Bool) (s : Graph Label A) (ss : List A)
      (g : Graph Label B) (gs : List B) (over : B → A) (wanted : A → KnownLabel n) (a : OfAnySize n t s) (b : OfAnySize n t g)
      (set : Setting law sameA sameB earlier (lift n t ok s) ss (lift n t ok g) gs over wanted) where
    -- the difference over labels and over labels of the table
    abbrev pub d : Graph Label A
    d = difference raw sameA sameB earlier s ss g gs over (λ v. (wanted v).0)

    abbrev dᴸ : Graph (KnownLabel n) A
    dᴸ = difference law sameA sameB earlier (lift n t ok s) ss (lift n t ok g) gs over wanted

    d-lower : d ≡ lower dᴸ
    d-lower = difference-lower n t ok sameA sameB earlier s ss g gs over wanted

    -- The difference is a graph of any size.
    pub difference-of-any-size : OfAnySize n t d
    difference-of-any-size =
        subst (OfAnySize n t) (sym d-lower)
        (lower-of-any-size n t ok (Computed.difference-any-size law sameA sameB earlier (lift n t ok s) ss (lift n t ok g) gs over wanted set))

    -- The links of the difference are links of s.
    pub difference-links : (u v : A) (f : ℕ) → Reached d u → d.link u f ≡ some v → Reached s u × (s.link u f ≡ some v)
    difference-links =
        subst (λ (k : Graph Label A). (u v : A) (f : ℕ) → Reached k u → k.link u f ≡ some v → Reached s u × (s.link u f ≡ some v)) (sym d-lower)
        (Computed.difference-links law sameA sameB earlier (lift n t ok s) ss (lift n t ok g) gs over wanted set)

    -- s is the greatest graph of any size below the difference and g.
    pub difference-restores : GreatestOfAnySize n t d g s
    difference-restores =
        subst (λ (k : Graph Label A). GreatestOfAnySize n t k g s) (sym d-lower)
        (record {
          of-any-size = a;
          left = same-below-left (same-sym (lower-lift-same n t ok s a.typed))
              ((below-lower n t ok).0 (Computed.difference-above law sameA sameB earlier (lift n t ok s) ss (lift n t ok g) gs over wanted set));
          right = (below-lift n t ok s g a.typed b.typed).1 (map_below set.map);
          greatest = λ m under x y.
              (below-lift n t ok m s under.typed a.typed).1
              (Computed.difference-greatest law sameA sameB earlier (lift n t ok s) ss (lift n t ok g) gs over wanted set (lift n t ok m)
              ((below-lower n t ok).1 (same-below-left (lower-lift-same n t ok m under.typed) x))
              ((below-lift n t ok m g under.typed b.typed).0 y));
        })

    -- Let e, a graph on numbers, lie strictly above the difference. No greatest graph below e and g lies below s.
    numbers-most-general : (e : Graph Label ℕ) (c : OfAnySize n t e) → Below raw d e → (Below raw e d → ⊥) → {C : Type 0} (u : Graph Label C) →
        GreatestOfAnySize n t e g u → Below raw u s → ⊥
    numbers-most-general e c above strict u best below =
        let lattice = lawful-lattice n t ok in
        let operands = any-size-operands tells-eqb set.operands.tells-right (lift-any-size n t ok e c) (lift-any-size n t ok g b) in
        let higher : Below law dᴸ (lift n t ok e) =
        (below-lower n t ok).1 (subst (λ (k : Graph Label A). Below raw k (lower (lift n t ok e))) d-lower
        (same-below-right (lower-lift-same n t ok e c.typed) above)) in
        let w = class_graph law.meet law.top eqb sameB (lift n t ok e) (lift-any-size n t ok e c).nodes
        (lift n t ok g) (lift-any-size n t ok g b).nodes in
        let (size, is) =
        Outcome.graph-right lattice operands w
        (Outcome.bounded-graph lattice operands set.sound
        (below-trans lattice (Computed.difference-above law sameA sameB earlier (lift n t ok s) ss (lift n t ok g) gs over wanted set) higher)
        (map_below set.map)) in
        let lower-size : OfAnySize n t (lower w) = lower-of-any-size n t ok size in
        let under : Below raw (lower w) u =
        best.greatest (lower w) lower-size
        (same-below-right (same-sym (lower-lift-same n t ok e c.typed)) ((below-lower n t ok).0 (unification-left is)))
        (same-below-right (same-sym (lower-lift-same n t ok g b.typed)) ((below-lower n t ok).0 (unification-right is))) in
        (Computed.difference-nothing-more-general law sameA sameB earlier (lift n t ok s) ss (lift n t ok g) gs over wanted set (lift n t ok e) w
        higher
        (λ lies. strict (subst (λ (k : Graph Label A). Below raw e k) (sym d-lower)
        (same-below-left (same-sym (lower-lift-same n t ok e c.typed)) ((below-lower n t ok).0 lies))))
        is).1
        ((below-lower n t ok).1
        (same-below-right (lower-lift-same n t ok s a.typed)
        (below-transitive (lower w) u s lower-size best.of-any-size a under below)))

    -- The difference is most general: a graph strictly above it, on any nodes, gives with g a graph strictly above s.
    pub difference-most-general : {E C : Type 0} (e : Graph Label E) → OfAnySize n t e → Below raw d e → (Below raw e d → ⊥) →
        (u : Graph Label C) → GreatestOfAnySize n t e g u → Below raw s u × (Below raw u s → ⊥)
    difference-most-general e c above strict u best = (
      best.greatest s a (below-transitive s d e a difference-of-any-size c difference-restores.left above) difference-restores.right,
      λ below.
          refute-on-numbers e c.any-size
          (λ k same.
          numbers-most-general k (same-of-any-size n t ok e k same c) (same-below-right same above)
          (λ lies. strict (same-below-left (same-sym same) lies)) u
          (same-greatest e g u k u same (same_refl u) best) below),
    )
