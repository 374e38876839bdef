-- This file is about wanted labels. The wanted label of a node is above the label in s, restores it, and is the greatest that does. Where
-- for all labels p and q there is a greatest c whose meet with q is below p, every node has a wanted label.
use mathlib.Core.Path.{◌≡◌, refl, sym, ◌∙◌, ap}
use mathlib.Core.Bool.{Bool, true, false, cond}
use mathlib.Core.List.Memᴰ
use mathlib.Core.List.{List, [], ◌∷◌, Memᴰ}
use mathlib.Core.Logic.{◌↔◌, ⊎_elim}
use Rattle.graphs.specs.Label.{Labels, Lattice}
use Rattle.graphs.specs.Graph.{Graph}
use Rattle.graphs.specs.Map.{NodeMap}
use Rattle.graphs.specs.Difference.{IsResidual, IsWanted, meet_where, meet_over}
use Rattle.graphs.proofs.Search.{true-false}
use Rattle.graphs.proofs.Unification.Beside.{Operands}
use Rattle.graphs.proofs.Difference.Laws.{UnderOver}

module _ {𝓛 : Labels} (lattice : Lattice 𝓛) where
  -- The meet of the labels that a test picks is the greatest label below them.

  pub meet_where-below : {B : Type 0} (test : B → Bool) (label : B → 𝓛.L) (ys : List B) (y : B) → Memᴰ y ys → test y ≡ true →
      𝓛.le (meet_where 𝓛 test label ys) (label y) ≡ true
  unfolding meet_where
  meet_where-below test label [] y i e = absurd (Memᴰ.not-nil i)
  meet_where-below {B} test label (z ∷ ys) y i e = go (test z) refl (λ j. meet_where-below test label ys y j e)
    where
      rest : 𝓛.L
      rest = meet_where 𝓛 test label ys

      go : (b : Bool) → test z ≡ b → (Memᴰ y ys → 𝓛.le rest (label y) ≡ true) →
          𝓛.le (cond b (𝓛.meet (label z) rest) rest) (label y) ≡ true
      go true d later =
          ⊎_elim (λ (q : y ≡ z). ap (λ x. 𝓛.le (𝓛.meet (label z) rest) (label x)) q ∙ lattice.meet_left (label z) rest)
          (λ (j : Memᴰ y ys). lattice.le_trans _ _ _ (lattice.meet_right (label z) rest) (later j))
          (Memᴰ.cases_cons i)
      go false d later = ⊎_elim (λ (q : y ≡ z). true-false e (ap test q ∙ d)) later (Memᴰ.cases_cons i)

  pub meet_where-greatest : {B : Type 0} (test : B → Bool) (label : B → 𝓛.L) (ys : List B) (a : 𝓛.L) →
      ((y : B) → Memᴰ y ys → test y ≡ true → 𝓛.le a (label y) ≡ true) → 𝓛.le a (meet_where 𝓛 test label ys) ≡ true
  unfolding meet_where
  meet_where-greatest test label [] a all = lattice.top-greatest a
  meet_where-greatest test label (z ∷ ys) a all =
      go (test z) refl (meet_where-greatest test label ys a λ y i. all y (Memᴰ.tail i))
    where
      rest : 𝓛.L
      rest = meet_where 𝓛 test label ys

      go : (b : Bool) → test z ≡ b → 𝓛.le a rest ≡ true → 𝓛.le a (cond b (𝓛.meet (label z) rest) rest) ≡ true
      go true d later = lattice.meet-greatest (label z) rest a (all z (Memᴰ.head refl) d) later
      go false d later = later

  -- For p below q the residual is the wanted label.
  pub residual-wanted : (q p c : 𝓛.L) → 𝓛.le p q ≡ true → IsResidual 𝓛 q p c → IsWanted 𝓛 q p c
  residual-wanted q p c below is =
      record {
        restores =
            lattice.le_antisym (𝓛.meet c q) p is.under
            (lattice.meet-greatest c q p (is.greatest p (lattice.meet_left p q)) below);
        greatest = λ d e. is.greatest d (ap (λ x. 𝓛.le x p) e ∙ lattice.le_refl p);
      }

module _ {𝓛 : Labels} (lattice : Lattice 𝓛) {A B : Type 0} {sameA : A → A → Bool} {sameB : B → B → Bool}
    {s : Graph 𝓛.L A} {ss : List A} {g : Graph 𝓛.L B} {gs : List B}
    (operands : Operands sameA sameB s ss g gs) (over : B → A) where
  -- the meet of all labels of g over v is the greatest label below them
  pub meet_over-under : (v : A) (a : 𝓛.L) → (𝓛.le a (meet_over 𝓛 sameA g gs over v) ≡ true) ↔ UnderOver 𝓛 g over v a
  unfolding meet_over
  meet_over-under v a = (
    λ e y r o.
        lattice.le_trans _ _ _ e
        (meet_where-below lattice (λ y. sameA (over y) v) g.label gs y ((operands.lists-right.listed y).0 r)
        ((operands.tells-left (over y) v).1 o)),
    λ under.
        meet_where-greatest lattice (λ y. sameA (over y) v) g.label gs a
        λ y i e. under y ((operands.lists-right.listed y).1 i) ((operands.tells-left (over y) v).0 e),
  )

  pub label-under : NodeMap 𝓛 s g over → (v : A) → 𝓛.le (s.label v) (meet_over 𝓛 sameA g gs over v) ≡ true
  label-under map v =
      (meet_over-under v (s.label v)).1 λ y r o. ap (λ x. 𝓛.le (s.label x) (g.label y)) (sym o) ∙ map.labels y r

  -- Where residuals exist, so does the wanted label of every node.
  pub wanted-exists : ((q p : 𝓛.L) → (c : 𝓛.L) × IsResidual 𝓛 q p c) → NodeMap 𝓛 s g over → (v : A) →
      (c : 𝓛.L) × IsWanted 𝓛 (meet_over 𝓛 sameA g gs over v) (s.label v) c
  wanted-exists residual map v =
      let q = meet_over 𝓛 sameA g gs over v in
      let (c, is) = residual q (s.label v) in
      (c, residual-wanted lattice q (s.label v) c (label-under map v) is)

  -- The laws of the wanted label.
  module _ (v : A) (c : 𝓛.L) (is : IsWanted 𝓛 (meet_over 𝓛 sameA g gs over v) (s.label v) c) where
    pub wanted-above : 𝓛.le (s.label v) c ≡ true
    wanted-above = ap (λ x. 𝓛.le x c) (sym is.restores) ∙ lattice.meet_left c (meet_over 𝓛 sameA g gs over v)

    pub wanted-restores : (a : 𝓛.L) → 𝓛.le a c ≡ true → UnderOver 𝓛 g over v a → 𝓛.le a (s.label v) ≡ true
    wanted-restores a e under =
        ap (λ x. 𝓛.le a x) (sym is.restores) ∙
        lattice.meet-greatest c (meet_over 𝓛 sameA g gs over v) a e ((meet_over-under v a).1 under)

    pub wanted-greatest : NodeMap 𝓛 s g over → (b : 𝓛.L) → 𝓛.le (s.label v) b ≡ true →
        ((a : 𝓛.L) → 𝓛.le a b ≡ true → UnderOver 𝓛 g over v a → 𝓛.le a (s.label v) ≡ true) → 𝓛.le b c ≡ true
    wanted-greatest map b above restores =
        let q = meet_over 𝓛 sameA g gs over v in
        is.greatest b (lattice.le_antisym (𝓛.meet b q) (s.label v)
        (restores (𝓛.meet b q) (lattice.meet_left b q) ((meet_over-under v (𝓛.meet b q)).0 (lattice.meet_right b q)))
        (lattice.meet-greatest b q (s.label v) above (label-under map v)))
