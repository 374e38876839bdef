-- This file shows that the answer of `unification` is right. A cycle is answered exactly where a class reaches itself, a clash exactly
-- where the meet of a class is the contradiction and there is no cycle. Else the graph of the classes is a graph of any size, the greatest
-- below both. So there is a graph below both exactly where a graph is answered.
use mathlib.Core.Path.{◌≡◌, refl, ◌∙◌, ap, subst}
use mathlib.Core.Bool.{Bool, true, false, cond}
use mathlib.Core.List.{List, map}
use mathlib.Core.Logic.Iff
use mathlib.Core.Logic.{◌↔◌, ◌⊎◌, inl, inr}
use mathlib.Core.Option.{some}
use Prim.Native.Nat.{ℕ, ◌+◌}
use native.Mathlib.Omega.{arith}
use lib.ListN.{length, length-append, length-map}
use Rattle.graphs.specs.Label.{Labels, Lattice}
use Rattle.graphs.specs.Graph.{Graph, TellsApart, Below, AnySize}
use Rattle.graphs.specs.Unify.{
  Cycle,
  Clash,
  IsUnification,
  same_beside,
  nodes_beside,
  any_of,
  deep,
  class_name,
  class_graph,
  has_cycle,
  has_clash,
  Unified,
  cycle,
  clash,
  unified,
  unification_by,
  unification,
}
use Rattle.graphs.specs.Difference.{select}
use Rattle.graphs.proofs.Below.{below-trans}
use Rattle.graphs.proofs.Search.{true-false, not-true-false, any_of-true, any_of-finds, select-listed}
use Rattle.graphs.proofs.Unification.Unifier.{
  below-no-cycle,
  below-no-clash,
  unification-left,
  unification-right,
  unification-greatest,
  unification-cycle,
  unification-clash,
}
use Rattle.graphs.proofs.Unification.Quotient.{quotient-reached}
use Rattle.graphs.proofs.Unification.Beside.{Operands, tells-beside, listed-reached}
use Rattle.graphs.proofs.Unification.Deep.{deep-walk, walk-deep, long-loop, loop-walk}
use Rattle.graphs.proofs.Unification.ClassGraph.{class-quotient, class-unification, class-reached, class-features}

-- the answer of unification, from the tests for a cycle and for a clash
abbrev answer : {L N : Type 0} → Bool → Bool → Graph L N → Unified L N
answer b c w = cond b cycle (cond c clash (unified w))

module _ {L N : Type 0} where
  answer-cycle : (b c : Bool) (w : Graph L N) → (answer b c w ≡ cycle) ↔ (b ≡ true)
  answer-cycle true c w = (λ e. refl, λ e. refl)
  answer-cycle false true w = (λ e. let z : ◌≡◌ {A = ℕ} 0 1 = cc in absurd (omega arith), λ e. true-false e refl)
  answer-cycle false false w = (λ e. let z : ◌≡◌ {A = ℕ} 0 1 = cc in absurd (omega arith), λ e. true-false e refl)

  answer-clash : (b c : Bool) (w : Graph L N) → (answer b c w ≡ clash) ↔ ((b ≡ false) × (c ≡ true))
  answer-clash true c w = (λ e. let z : ◌≡◌ {A = ℕ} 0 1 = cc in absurd (omega arith), λ e. true-false refl e.0)
  answer-clash false true w = (λ e. (refl, refl), λ e. refl)
  answer-clash false false w = (λ e. let z : ◌≡◌ {A = ℕ} 0 1 = cc in absurd (omega arith), λ e. true-false e.1 refl)

  answer-graph : (b c : Bool) (w v : Graph L N) → (answer b c w ≡ unified v) ↔ ((b ≡ false) × (c ≡ false) × (w ≡ v))
  answer-graph true c w v = (λ e. let z : ◌≡◌ {A = ℕ} 0 1 = cc in absurd (omega arith), λ e. true-false refl e.0)
  answer-graph false true w v = (λ e. let z : ◌≡◌ {A = ℕ} 0 1 = cc in absurd (omega arith), λ e. true-false refl e.1)
  answer-graph false false w v = (λ e. (refl, refl, cc), λ e. ap unified e.2)

false-not : {b : Bool} {P : Type 0} → (b ≡ true) ↔ P → (b ≡ false) ↔ (P → ⊥)
false-not {b} (there, back) = (λ e p. true-false (back p) e, λ h. not-true-false b (λ e. h (there e)))

module _ {𝓛 : Labels} (lattice : Lattice 𝓛) {A B : Type 0} {sameA : A → A → Bool} {sameB : B → B → Bool}
    {g : Graph 𝓛.L A} {gs : List A} {h : Graph 𝓛.L B} {hs : List B} (given : Operands sameA sameB g gs h hs) where
  abbrev name : A ⊎ B → A ⊎ B
  name = class_name sameA sameB g gs h hs

  abbrev u : Graph 𝓛.L (A ⊎ B)
  u = class_graph 𝓛.meet 𝓛.top sameA sameB g gs h hs

  abbrev nodes : List (A ⊎ B)
  nodes = nodes_beside gs hs

  abbrev clashes : Bool
  clashes = has_clash 𝓛.meet 𝓛.top 𝓛.contradiction sameA sameB g gs h hs

  tells : TellsApart (same_beside sameA sameB)
  tells = tells-beside given

  nodes-length : length nodes ≡ length gs + length hs
  nodes-length = length-append (map inl gs) (map inr hs) ∙ simp length-map

  is : IsUnification 𝓛 g h u
  is = class-unification lattice given

  pub has-cycle : (has_cycle sameA sameB g gs h hs ≡ true) ↔ Cycle 𝓛 g h
  unfolding has_cycle class_graph
  has-cycle = (found, finds)
    where
      n : ℕ
      n = length gs + length hs

      found : deep u.link n u.root ≡ true → Cycle 𝓛 g h
      found e =
          let (p, x, k, a) = deep-walk u.link n u.root e in
          (unification-cycle is).1
          (long-loop u.link (same_beside sameA sameB) tells p u.root x nodes
          (λ q y d. ((class-reached lattice given y).0 (q, d)).0) a (omega (arith, nodes-length)))

      finds : Cycle 𝓛 g h → deep u.link n u.root ≡ true
      finds c =
          let (p, x, e, k) = loop-walk u.link (some u.root) ((unification-cycle is).0 c) n in
          walk-deep u.link n u.root p x (λ q y z f d e. class-features lattice given y z f (q, d) e) e k

  pub has-clash : (clashes ≡ true) ↔ Clash 𝓛 g h
  unfolding has_clash
  has-clash = (found, finds)
    where
      test : A ⊎ B → Bool
      test x = 𝓛.contradiction (u.label (name x))

      found : any_of nodes test ≡ true → Clash 𝓛 g h
      found e =
          let (x, m, c) = any_of-true test nodes e in
          (unification-clash is lattice).1
          (name x, (quotient-reached (class-quotient lattice given) (name x)).1 (x, listed-reached given x m, refl), c)

      finds : Clash 𝓛 g h → any_of nodes test ≡ true
      finds k =
          let (x, r, c) = (unification-clash is lattice).0 k in
          let (m, e) = (class-reached lattice given x).0 r in
          any_of-finds test nodes x m (ap (λ z. 𝓛.contradiction (u.label z)) e ∙ c)

  -- Without cycle and clash the classes are a graph of any size; its nodes are those that name a class.
  pub class-any-size : (Cycle 𝓛 g h → ⊥) → (Clash 𝓛 g h → ⊥) → AnySize 𝓛 u
  class-any-size no-cycle no-clash =
      record {
        nodes = select named nodes;
        listed =
            λ c. (
              λ r.
                  let (m, e) = (class-reached lattice given c).0 r in
                  (select-listed named nodes c).1 (m, (tells (name c) c).1 e),
              λ m.
                  let (k, e) = (select-listed named nodes c).0 m in
                  (class-reached lattice given c).1 (k, (tells (name c) c).0 e),
            );
        features = class-features lattice given;
        consistent = λ c r. not-true-false (𝓛.contradiction (u.label c)) (λ e. no-clash ((unification-clash is lattice).1 (c, r, e)));
        acyclic = λ c f p r e. no-cycle ((unification-cycle is).1 (c, f, p, r, e));
      }
    where
      named : A ⊎ B → Bool
      named x = same_beside sameA sameB (name x) x

  -- The three answers.

  no-cycle : (has_cycle sameA sameB g gs h hs ≡ false) ↔ (Cycle 𝓛 g h → ⊥)
  no-cycle = false-not has-cycle

  no-clash : (clashes ≡ false) ↔ (Clash 𝓛 g h → ⊥)
  no-clash = false-not has-clash

  pub answers-cycle : (unification 𝓛 sameA sameB g gs h hs ≡ cycle) ↔ Cycle 𝓛 g h
  unfolding unification_by
  answers-cycle = Iff.trans (answer-cycle (has_cycle sameA sameB g gs h hs) clashes u) has-cycle

  pub answers-clash : (unification 𝓛 sameA sameB g gs h hs ≡ clash) ↔ ((Cycle 𝓛 g h → ⊥) × Clash 𝓛 g h)
  unfolding unification_by
  answers-clash =
      Iff.trans (answer-clash (has_cycle sameA sameB g gs h hs) clashes u) (Iff.and no-cycle has-clash)

  pub answers-graph : (v : Graph 𝓛.L (A ⊎ B)) →
      (unification 𝓛 sameA sameB g gs h hs ≡ unified v) ↔ ((Cycle 𝓛 g h → ⊥) × (Clash 𝓛 g h → ⊥) × (u ≡ v))
  unfolding unification_by
  answers-graph v =
      let (there, back) = answer-graph (has_cycle sameA sameB g gs h hs) clashes u v in
      (λ e. let (a, b, c) = there e in (no-cycle.0 a, no-clash.0 b, c), λ (a, b, c). back (no-cycle.1 a, no-clash.1 b, c))

  -- An answered graph is of any size, and the unification; so it is the greatest below both (`unification-greatest`).
  pub graph-right : (v : Graph 𝓛.L (A ⊎ B)) → unification 𝓛 sameA sameB g gs h hs ≡ unified v →
      AnySize 𝓛 v × IsUnification 𝓛 g h v
  graph-right v e =
      let (a, b, c) = (answers-graph v).0 e in
      subst (λ w. AnySize 𝓛 w × IsUnification 𝓛 g h w) c (class-any-size a b, is)

  -- Where any graph of any size lies below both, a graph is answered.
  pub bounded-graph : {C : Type 0} {k : Graph 𝓛.L C} → AnySize 𝓛 k → Below 𝓛 k g → Below 𝓛 k h →
      unification 𝓛 sameA sameB g gs h hs ≡ unified u
  bounded-graph size b c = (answers-graph u).1 (below-no-cycle b c size, below-no-clash b c lattice size, refl)

-- Unification is monotone: if two graphs have a unification, two graphs above them have one too, and it lies above the first.
pub unification-monotone : {𝓛 : Labels} → Lattice 𝓛 → {A B A' B' : Type 0} {sameA : A → A → Bool} {sameB : B → B → Bool}
    {g : Graph 𝓛.L A} {gs : List A} {h : Graph 𝓛.L B} {hs : List B} {sameA' : A' → A' → Bool} {sameB' : B' → B' → Bool}
    {g' : Graph 𝓛.L A'} {gs' : List A'} {h' : Graph 𝓛.L B'} {hs' : List B'} → Operands sameA sameB g gs h hs →
    Operands sameA' sameB' g' gs' h' hs' → Below 𝓛 g g' → Below 𝓛 h h' → (v : Graph 𝓛.L (A ⊎ B)) →
    unification 𝓛 sameA sameB g gs h hs ≡ unified v →
    (v' : Graph 𝓛.L (A' ⊎ B')) × (unification 𝓛 sameA' sameB' g' gs' h' hs' ≡ unified v') × Below 𝓛 v v'
unification-monotone {𝓛} lattice {sameA' = sameA'} {sameB'} {g'} {gs'} {h'} {hs'} given given' b c v e =
    let (size, is) = graph-right lattice given v e in
    let left = below-trans lattice (unification-left is) b in
    let right = below-trans lattice (unification-right is) c in (
      class_graph 𝓛.meet 𝓛.top sameA' sameB' g' gs' h' hs',
      bounded-graph lattice given' size left right,
      unification-greatest left right (class-unification lattice given'),
    )
