-- The quotient of two graphs by the relation of their nodes is their unification. `Quotient` says what a graph of classes has to
-- be, for classes numbered, named or stored in any way: a map from the nodes of both graphs to the classes, with the links
-- and the meets of the classes. From that alone follow coreference and labels of a unification (`quotient-unification`), also
-- where there is a cycle or a clash.
use mathlib.Core.Path.{◌≡◌, refl, sym, ◌∙◌, ap, subst}
use mathlib.Core.Bool.{true}
use mathlib.Core.List.{List, [], ◌∷◌, ◌++◌}
use mathlib.Core.Logic.{◌↔◌, ◌⊎◌, inl, inr}
use mathlib.Core.Option.{some}
use Prim.Native.Nat.{ℕ}
use Rattle.graphs.specs.Label.{Labels}
use Rattle.graphs.specs.Graph.{Graph, follow, walk, Reached, Corefer}
use Rattle.graphs.specs.Unify.{Joined, left, flip, chain, down, UnderClass, ClassMeet, IsUnification, label_beside}
use Rattle.graphs.proofs.Walk.{some-injective, some-unique, snoc-induction, follow-last, walk-snoc}
use Rattle.graphs.proofs.Unification.Related.{roots}
use Rattle.graphs.proofs.Unification.Unifier.{joined-least}
use Rattle.graphs.proofs.Unification.Beside.{
  Leads,
  ReachedBeside,
  RelatedBeside,
  link_beside,
  leads-nil,
  leads-step,
  leads-last,
  leads-joined,
  related-joined,
}

module _ (𝓛 : Labels) {A B C : Type 0} (g : Graph 𝓛.L A) (h : Graph 𝓛.L B) (to : A ⊎ B → C) (u : Graph 𝓛.L C) where
  -- The graph u has the classes of related nodes for nodes; `to x` is the class of x.
  pub record Quotient : Type 0 where
    -- the roots are in the root's class
    pub root : to (inl g.root) ≡ u.root
    -- reached nodes are in one class exactly when they are related
    pub one : {x y : A ⊎ B} → RelatedBeside g h x y → to x ≡ to y
    pub related : (x y : A ⊎ B) → ReachedBeside g h x → ReachedBeside g h y → to x ≡ to y → RelatedBeside g h x y
    -- the links of a class are those of its nodes
    pub links : (x y : A ⊎ B) (f : ℕ) → ReachedBeside g h x → link_beside g h x f ≡ some y → u.link (to x) f ≡ some (to y)
    pub sources : (x : A ⊎ B) (d : C) (f : ℕ) → ReachedBeside g h x → u.link (to x) f ≡ some d →
        (y : A ⊎ B) × (z : A ⊎ B) × ReachedBeside g h y × (to y ≡ to x) × (link_beside g h y f ≡ some z) × (to z ≡ d)
    -- the label of a class is the meet of its nodes' labels
    pub below : (x : A ⊎ B) → ReachedBeside g h x → 𝓛.le (u.label (to x)) (label_beside g.label h.label x) ≡ true
    pub greatest : (x : A ⊎ B) (b : 𝓛.L) → ReachedBeside g h x →
        ((y : A ⊎ B) → ReachedBeside g h y → to y ≡ to x → 𝓛.le b (label_beside g.label h.label y) ≡ true) →
        𝓛.le b (u.label (to x)) ≡ true

module _ {𝓛 : Labels} {A B C : Type 0} {g : Graph 𝓛.L A} {h : Graph 𝓛.L B} {to : A ⊎ B → C} {u : Graph 𝓛.L C}
    (is : Quotient 𝓛 g h to u) where
  -- a path of either graph leads to the class of its node
  pub leads-walk : (p : List ℕ) (x : A ⊎ B) → Leads g h p x → walk u p ≡ some (to x)
  unfolding follow
  leads-walk =
      snoc-induction (λ p. (x : A ⊎ B) → Leads g h p x → walk u p ≡ some (to x)) (λ x e. start x (leads-nil g h x e))
      (λ p f later y e.
      let (x, a, b) = leads-last g h p f y e in
      walk-snoc u p f (later x a) ∙ is.links x y f (p, a) b)
    where
      start : (x : A ⊎ B) → (x ≡ inl g.root) ⊎ (x ≡ inr h.root) → walk u [] ≡ some (to x)
      start x (inl e) = ap some (sym is.root ∙ ap to (sym e))
      start x (inr e) = ap some (sym is.root ∙ is.one roots ∙ ap to (sym e))

  -- a node x in the class c, with a path of x's graph that is joined to p
  record InClass (p : List ℕ) (c : C) : Type 0 where
    q : List ℕ
    x : A ⊎ B
    joined : Joined g h p q
    leads : Leads g h q x
    in_c : to x ≡ c

  -- then p is joined to every path that leads to a node of the class
  class-joins : (p : List ℕ) (c : C) → InClass p c → (q : List ℕ) (x : A ⊎ B) → Leads g h q x → to x ≡ c → Joined g h p q
  class-joins p c i q x a e =
      chain i.joined
      (related-joined g h (is.related i.x x (i.q, i.leads) (q, a) (i.in_c ∙ sym e)) i.q q i.leads a)

  -- a walk ends at the class of some node, and is joined to the node's paths
  walk-class : (p : List ℕ) (c : C) → walk u p ≡ some c → InClass p c
  unfolding follow
  walk-class =
      snoc-induction (λ p. (c : C) → walk u p ≡ some c → InClass p c)
      (λ c e.
      record {
        q = [];
        x = inl g.root;
        joined = left (g.root, refl, refl);
        leads = refl;
        in_c = is.root ∙ some-injective e;
      })
      (λ p f later d e.
      let (c, a, b) = follow-last u.link (some u.root) p f d e in
      further p f c d (later c a) b)
    where
      further : (p : List ℕ) (f : ℕ) (c d : C) → InClass p c → u.link c f ≡ some d → InClass (p ++ (f ∷ [])) d
      further p f c d i e =
          let (y, z, (q, a), m, l, n) = is.sources i.x d f (i.q, i.leads) (ap (λ c. u.link c f) i.in_c ∙ e) in
          let b = leads-step g h q f y z a l in
          record {
            q = q ++ (f ∷ []);
            x = z;
            joined = flip
                (down f (flip (class-joins p c i q y a (m ∙ i.in_c))) (leads-joined g h (q ++ (f ∷ [])) (q ++ (f ∷ [])) z b b));
            leads = b;
            in_c = n;
          }

  -- The nodes of the quotient are the classes of reached nodes.
  pub quotient-reached : (c : C) → Reached u c ↔ ((x : A ⊎ B) × ReachedBeside g h x × (to x ≡ c))
  quotient-reached c = (there, λ (x, (p, a), e). (p, leads-walk p x a ∙ ap some e))
    where
      there : Reached u c → (x : A ⊎ B) × ReachedBeside g h x × (to x ≡ c)
      there (p, e) =
          let i = walk-class p c e in
          (i.x, (i.q, i.leads), i.in_c)

  -- Two paths lead to one class exactly when they are joined.
  pub quotient-corefers : (p q : List ℕ) → Corefer u p q ↔ Joined g h p q
  quotient-corefers p q = (
    λ (c, a, b).
        let i = walk-class q c b in
        chain (class-joins p c (walk-class p c a) i.q i.x i.leads i.in_c) (flip i.joined),
    joined-least g h u (λ p q (v, a, b). (to (inl v), leads-walk p (inl v) a, leads-walk q (inl v) b))
        (λ p q (v, a, b). (to (inr v), leads-walk p (inr v) a, leads-walk q (inr v) b)),
  )

  pub quotient-labels : (p : List ℕ) (c : C) → walk u p ≡ some c → ClassMeet 𝓛 g h p (u.label c)
  quotient-labels p c e =
      record {
        under = record { first = λ q v j d. under q (inl v) d j; second = λ q v j d. under q (inr v) d j };
        greatest = λ b low. greatest b low (walk-class p c e);
      }
    where
      label : A ⊎ B → 𝓛.L
      label = label_beside g.label h.label

      under : (q : List ℕ) (x : A ⊎ B) → Leads g h q x → Joined g h p q → 𝓛.le (u.label c) (label x) ≡ true
      under q x a j =
          let (d, m, n) = (quotient-corefers p q).1 j in
          ap (λ c. 𝓛.le (u.label c) (label x)) (some-unique e m ∙ some-unique n (leads-walk q x a)) ∙ is.below x (q, a)

      each : (b : 𝓛.L) → UnderClass 𝓛 g h p b → (q : List ℕ) (x : A ⊎ B) → Leads g h q x → Joined g h p q →
          𝓛.le b (label x) ≡ true
      each b low q (inl v) a j = low.first q v j a
      each b low q (inr v) a j = low.second q v j a

      greatest : (b : 𝓛.L) → UnderClass 𝓛 g h p b → InClass p c → 𝓛.le b (u.label c) ≡ true
      greatest b low i =
          subst (λ c. 𝓛.le b (u.label c) ≡ true) i.in_c
          (is.greatest i.x b (i.q, i.leads)
          (λ y (q, a) d. each b low q y a (class-joins p c i q y a (d ∙ i.in_c))))

  -- The quotient is the unification.
  pub quotient-unification : IsUnification 𝓛 g h u
  quotient-unification = record { corefers = quotient-corefers; labels = quotient-labels }
