-- This file puts two graphs side by side, with their nodes in one type. The file says where a path leads in either graph, and how the
-- relation of nodes (`RelatedBeside`) answers to the relation of paths (`Joined`). Paths that lead to related nodes are joined
-- (`related-joined`); the way back goes through the graph of the classes, since a joined path may be a path of neither graph.
use mathlib.Core.Path.{◌≡◌, refl, sym, ◌∙◌, ap, subst}
use mathlib.Core.Bool.{Bool}
use mathlib.Core.List.Memᴰ
use mathlib.Core.List.{
  List,
  [],
  ◌∷◌,
  ◌++◌,
  map,
  Memᴰ,
}
use mathlib.Core.Logic.{◌↔◌, ◌⊎◌, inl, inr}
use mathlib.Core.Sum.{inl-injective, inr-injective, inl-ne-inr, inr-ne-inl}
use mathlib.Core.Option
use mathlib.Core.Option.{Option, some, map-eq-some_iff}
use Prim.Native.Nat.{ℕ, ◌<◌}
use Rattle.graphs.specs.Label.{Labels}
use Rattle.graphs.specs.Graph.{Graph, TellsApart, follow, walk, Reached, AnySize}
use Rattle.graphs.specs.Unify.{Joined, left, right, flip, chain, down, beside, same_beside, nodes_beside}
use Rattle.graphs.proofs.Walk.{some-injective, snoc-induction, follow-last, walk-snoc}
use Rattle.graphs.proofs.Search.{true-false}
use Rattle.graphs.proofs.Unification.Related.{Related, roots, back, next, feat, Listing}

pub same_beside_lem : {A B : Type 0} (s : A → A → Bool) (t : B → B → Bool) → TellsApart s → TellsApart t → TellsApart (same_beside s t)
same_beside_lem s t hs ht (inl v) (inl w) = (λ e. ap inl ((hs v w).0 e), λ e. (hs v w).1 (inl-injective v w e))
same_beside_lem s t hs ht (inl v) (inr w) = (λ e. true-false e refl, λ e. absurd (inl-ne-inr e))
same_beside_lem s t hs ht (inr v) (inl w) = (λ e. true-false e refl, λ e. absurd (inr-ne-inl e))
same_beside_lem s t hs ht (inr v) (inr w) = (λ e. ap inr ((ht v w).0 e), λ e. (ht v w).1 (inr-injective v w e))

module _ {L A B : Type 0} (g : Graph L A) (h : Graph L B) where
  -- the links of both graphs
  abbrev pub link_beside : A ⊎ B → ℕ → Option (A ⊎ B)
  link_beside = beside g.link h.link

  -- the path leads to the node in the node's own graph
  abbrev pub Leads : List ℕ → A ⊎ B → Type 0
  Leads p (inl v) = walk g p ≡ some v
  Leads p (inr w) = walk h p ≡ some w

  -- the node is reached in its own graph
  abbrev pub ReachedBeside : A ⊎ B → Type 0
  ReachedBeside x = (p : List ℕ) × Leads p x

  -- the smallest equivalence on the nodes of both graphs that relates the roots and passes down equal features
  abbrev pub RelatedBeside : A ⊎ B → A ⊎ B → Type 0
  RelatedBeside = Related link_beside (inl g.root) (inr h.root)

  pub leads-nil : (x : A ⊎ B) → Leads [] x → (x ≡ inl g.root) ⊎ (x ≡ inr h.root)
  unfolding follow
  leads-nil (inl v) e = inl (ap inl (sym (some-injective e)))
  leads-nil (inr w) e = inr (ap inr (sym (some-injective e)))

  pub leads-step : (p : List ℕ) (f : ℕ) (x y : A ⊎ B) → Leads p x → link_beside x f ≡ some y → Leads (p ++ (f ∷ [])) y
  leads-step p f (inl v) y e d =
      let (w, a, b) = (map-eq-some_iff inl (g.link v f)).0 d in
      subst (Leads (p ++ (f ∷ []))) b (walk-snoc g p f e ∙ a)
  leads-step p f (inr v) y e d =
      let (w, a, b) = (map-eq-some_iff inr (h.link v f)).0 d in
      subst (Leads (p ++ (f ∷ []))) b (walk-snoc h p f e ∙ a)

  pub leads-last : (p : List ℕ) (f : ℕ) (y : A ⊎ B) → Leads (p ++ (f ∷ [])) y →
      (x : A ⊎ B) × Leads p x × (link_beside x f ≡ some y)
  leads-last p f (inl w) e =
      let (v, a, b) = follow-last g.link (some g.root) p f w e in
      (inl v, a, ap (Option.map inl) b)
  leads-last p f (inr w) e =
      let (v, a, b) = follow-last h.link (some h.root) p f w e in
      (inr v, a, ap (Option.map inr) b)

  -- paths that lead to one node are joined
  pub leads-joined : (p q : List ℕ) (x : A ⊎ B) → Leads p x → Leads q x → Joined g h p q
  leads-joined p q (inl v) e d = left (v, e, d)
  leads-joined p q (inr v) e d = right (v, e, d)

  -- a node that a path leads to is related to itself
  pub leads-related : (p : List ℕ) (x : A ⊎ B) → Leads p x → RelatedBeside x x
  leads-related =
      snoc-induction (λ p. (x : A ⊎ B) → Leads p x → RelatedBeside x x) (λ x e. start x (leads-nil x e))
      (λ p f later y e. let (x, a, b) = leads-last p f y e in feat f (later x a) b b)
    where
      start : (x : A ⊎ B) → (x ≡ inl g.root) ⊎ (x ≡ inr h.root) → RelatedBeside x x
      start x (inl e) = subst (λ z. RelatedBeside z z) (sym e) (next roots (back roots))
      start x (inr e) = subst (λ z. RelatedBeside z z) (sym e) (next (back roots) roots)

  -- related nodes are reached
  pub related-reached : {x y : A ⊎ B} → RelatedBeside x y → ReachedBeside x × ReachedBeside y
  unfolding follow
  related-reached roots = (([], refl), ([], refl))
  related-reached (back c) = let m = related-reached c in (m.1, m.0)
  related-reached (next c d) = ((related-reached c).0, (related-reached d).1)
  related-reached (feat {x} {y} {v} {w} f c a b) =
      let ((p, d), (q, e)) = related-reached c in
      ((p ++ (f ∷ []), leads-step p f x v d a), (q ++ (f ∷ []), leads-step q f y w e b))

  -- paths that lead to related nodes are joined
  pub related-joined : {x y : A ⊎ B} → RelatedBeside x y → (p q : List ℕ) → Leads p x → Leads q y → Joined g h p q
  unfolding follow
  related-joined roots p q a b = chain {q = []} (left (g.root, a, refl)) (right (h.root, refl, b))
  related-joined (back c) p q a b = flip (related-joined c q p b a)
  related-joined (next c d) p q a b =
      let (m, e) = (related-reached c).1 in
      chain (related-joined c p m a e) (related-joined d m q e b)
  related-joined (feat {x} {y} {v} {w} f c d e) p q a b =
      let ((m, i), (n, j)) = related-reached c in
      let i' = leads-step m f x v i d in
      let j' = leads-step n f y w j e in
      chain (leads-joined p (m ++ (f ∷ [])) v a i')
      (chain (down f (related-joined c m n i j) (leads-joined (m ++ (f ∷ [])) (m ++ (f ∷ [])) v i' i'))
      (leads-joined (n ++ (f ∷ [])) q w j' b))

-- The list holds the nodes that the root reaches and no other, and their features are below 64.
pub record Lists {L A : Type 0} (g : Graph L A) (gs : List A) : Type 0 where
  pub listed : (v : A) → Reached g v ↔ Memᴰ v gs
  pub features : (v w : A) (f : ℕ) → Reached g v → g.link v f ≡ some w → f < 64

-- What unification is given: two graphs with their nodes listed, and tests that tell their nodes apart.
pub record Operands {L A B : Type 0} (sameA : A → A → Bool) (sameB : B → B → Bool) (g : Graph L A) (gs : List A)
    (h : Graph L B) (hs : List B) : Type 0 where
  pub tells-left : TellsApart sameA
  pub tells-right : TellsApart sameB
  pub lists-left : Lists g gs
  pub lists-right : Lists h hs

pub any-size-operands : {𝓛 : Labels} {A B : Type 0} {sameA : A → A → Bool} {sameB : B → B → Bool} {g : Graph 𝓛.L A}
    {h : Graph 𝓛.L B} → TellsApart sameA → TellsApart sameB → (a : AnySize 𝓛 g) (b : AnySize 𝓛 h) →
    Operands sameA sameB g a.nodes h b.nodes
any-size-operands s t a b =
    record {
      tells-left = s;
      tells-right = t;
      lists-left = record { listed = a.listed; features = a.features };
      lists-right = record { listed = b.listed; features = b.features };
    }

module _ {L A B : Type 0} {sameA : A → A → Bool} {sameB : B → B → Bool} {g : Graph L A} {gs : List A} {h : Graph L B} {hs : List B}
    (given : Operands sameA sameB g gs h hs) where
  pub tells-beside : TellsApart (same_beside sameA sameB)
  tells-beside = same_beside_lem sameA sameB given.tells-left given.tells-right

  pub reached-listed : (x : A ⊎ B) → ReachedBeside g h x → Memᴰ x (nodes_beside gs hs)
  reached-listed (inl v) r = Memᴰ.append_left (map inr hs) (Memᴰ.map inl ((given.lists-left.listed v).0 r))
  reached-listed (inr v) r = Memᴰ.append_right (map inl gs) (Memᴰ.map inr ((given.lists-right.listed v).0 r))

  pub listed-reached : (x : A ⊎ B) → Memᴰ x (nodes_beside gs hs) → ReachedBeside g h x
  listed-reached x m = go (Memᴰ.append_cases (map inl gs) m)
    where
      go : Memᴰ x (map inl gs) ⊎ Memᴰ x (map inr hs) → ReachedBeside g h x
      go (inl n) =
          let (v, k, e) = Memᴰ.of_map inl gs n in
          subst (ReachedBeside g h) e ((given.lists-left.listed v).1 k)
      go (inr n) =
          let (v, k, e) = Memᴰ.of_map inr hs n in
          subst (ReachedBeside g h) e ((given.lists-right.listed v).1 k)

  pub feature-beside : (x y : A ⊎ B) (f : ℕ) → ReachedBeside g h x → link_beside g h x f ≡ some y → f < 64
  feature-beside (inl v) y f r d =
      let (w, a, b) = (map-eq-some_iff inl (g.link v f)).0 d in
      given.lists-left.features v w f r a
  feature-beside (inr v) y f r d =
      let (w, a, b) = (map-eq-some_iff inr (h.link v f)).0 d in
      given.lists-right.features v w f r a

  pub beside-listing : Listing (link_beside g h) (inl g.root) (inr h.root) (nodes_beside gs hs)
  unfolding follow
  beside-listing =
      record {
        reached = λ x m. let (p, e) = listed-reached x m in leads-related g h p x e;
        first = reached-listed (inl g.root) ([], refl);
        second = reached-listed (inr h.root) ([], refl);
        onwards = λ x y f m d.
            let r = listed-reached x m in
            (reached-listed y (r.0 ++ (f ∷ []), leads-step g h r.0 f x y r.1 d), feature-beside x y f r d);
      }
