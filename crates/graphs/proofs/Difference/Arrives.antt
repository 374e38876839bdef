-- Joined paths lead to related nodes. A path of the unification need not be a path of either graph, so it is followed through
-- the classes: from a node to a related one, and on along a link of that. No class has to be named, so this asks nothing of
-- the graphs. Then the nodes of both graphs over a third that lies below them: related nodes lie over one node, and what
-- holds along the links over each link holds between all related nodes (`related-within`).
use mathlib.Core.Path.{◌≡◌, refl, sym, ◌∙◌, ap, subst, subst₂}
use mathlib.Core.List.{List, [], ◌∷◌, ◌++◌}
use mathlib.Core.Logic.{◌↔◌, ◌⊎◌, inl, inr, Equivalence}
use mathlib.Core.Option.{Option, some, map-eq-some_iff}
use Prim.Native.Nat.{ℕ}
use Rattle.graphs.specs.Label.{Labels}
use Rattle.graphs.specs.Graph.{Graph, Below, follow, walk, Reached, Corefer}
use Rattle.graphs.specs.Unify.{Joined, left, right, flip, chain, down}
use Rattle.graphs.proofs.Walk.{some-injective, some-unique, snoc-induction, follow-last, walk-snoc}
use Rattle.graphs.proofs.Unification.Related.{Related, roots, back, next, feat}
use Rattle.graphs.proofs.Unification.Beside.{Leads, link_beside, RelatedBeside, leads-nil, leads-step, leads-last, related-reached}

module _ {N : Type 0} (link : N → ℕ → Option N) (r s : N) where
  -- the path leads from the class of x to that of z
  abbrev pub Arrives : N → List ℕ → N → Type 0
  Arrives x [] z = Related link r s x z
  Arrives x (f ∷ p) z = (y : N) × (w : N) × Related link r s x y × (link y f ≡ some w) × Arrives w p z

  pub arrives-related : (x : N) (p : List ℕ) (y z : N) → Arrives x p y → Related link r s y z → Arrives x p z
  arrives-related x [] y z a c = next a c
  arrives-related x (f ∷ p) y z (v, w, a, l, b) c = (v, w, a, l, arrives-related w p y z b c)

  pub arrives-step : (x : N) (p : List ℕ) (f : ℕ) (y z : N) → Arrives x p y → link y f ≡ some z → Arrives x (p ++ (f ∷ [])) z
  arrives-step x [] f y z a l = (y, z, a, l, feat f (next (back a) a) l l)
  arrives-step x (h ∷ p) f y z (v, w, a, k, b) l = (v, w, a, k, arrives-step w p f y z b l)

  pub arrives-last : (x : N) (p : List ℕ) (f : ℕ) (z : N) → Arrives x (p ++ (f ∷ [])) z →
      (y : N) × (w : N) × Arrives x p y × (link y f ≡ some w) × Related link r s w z
  arrives-last x [] f z (y, w, a, l, b) = (y, w, a, l, b)
  arrives-last x (h ∷ p) f z (u, v, a, k, b) =
      let (y, w, c, l, d) = arrives-last v p f z b in
      (y, w, (u, v, a, k, c), l, d)

  -- a path leads to one class
  pub arrives-one : (x u : N) (p : List ℕ) (y z : N) → Related link r s x u → Arrives x p y → Arrives u p z → Related link r s y z
  arrives-one x u [] y z c a b = next (back a) (next c b)
  arrives-one x u (f ∷ p) y z c (v, w, a, k, i) (v', w', b, l, j) =
      arrives-one w w' p y z (feat f (next (back a) (next c b)) k l) i j

module _ {L A B : Type 0} (g : Graph L A) (h : Graph L B) where
  -- the path leads to the class of the node
  abbrev pub To : List ℕ → A ⊎ B → Type 0
  To = Arrives (link_beside g h) (inl g.root) (inr h.root) (inl g.root)

  root-related : RelatedBeside g h (inl g.root) (inl g.root)
  root-related = next roots (back roots)

  to-related : (p : List ℕ) (x y : A ⊎ B) → To p x → RelatedBeside g h x y → To p y
  to-related = arrives-related (link_beside g h) (inl g.root) (inr h.root) (inl g.root)

  to_step : (p : List ℕ) (f : ℕ) (x y : A ⊎ B) → To p x → link_beside g h x f ≡ some y → To (p ++ (f ∷ [])) y
  to_step = arrives-step (link_beside g h) (inl g.root) (inr h.root) (inl g.root)

  to_last : (p : List ℕ) (f : ℕ) (z : A ⊎ B) → To (p ++ (f ∷ [])) z →
      (y : A ⊎ B) × (w : A ⊎ B) × To p y × (link_beside g h y f ≡ some w) × RelatedBeside g h w z
  to_last = arrives-last (link_beside g h) (inl g.root) (inr h.root) (inl g.root)

  pub leads-to : (p : List ℕ) (x : A ⊎ B) → Leads g h p x → To p x
  leads-to = snoc-induction (λ p. (x : A ⊎ B) → Leads g h p x → To p x) (λ x e. start x (leads-nil g h x e)) more
    where
      start : (x : A ⊎ B) → (x ≡ inl g.root) ⊎ (x ≡ inr h.root) → To [] x
      start x (inl e) = subst (RelatedBeside g h (inl g.root)) (sym e) root-related
      start x (inr e) = subst (RelatedBeside g h (inl g.root)) (sym e) roots

      more : (p : List ℕ) (f : ℕ) → ((x : A ⊎ B) → Leads g h p x → To p x) → (y : A ⊎ B) → Leads g h (p ++ (f ∷ [])) y →
          To (p ++ (f ∷ [])) y
      more p f ih y e =
          let (x, a, l) = leads-last g h p f y e in
          to_step p f x y (ih x a) l

  to_one : (p : List ℕ) (x y : A ⊎ B) → To p x → To p y → RelatedBeside g h x y
  to_one p x y = arrives-one (link_beside g h) (inl g.root) (inr h.root) (inl g.root) (inl g.root) p x y root-related

  pub joined_to : {p q : List ℕ} → Joined g h p q → (x : A ⊎ B) × To p x × To q x
  joined_to {p} {q} (left (v, a, b)) = (inl v, leads-to p (inl v) a, leads-to q (inl v) b)
  joined_to {p} {q} (right (v, a, b)) = (inr v, leads-to p (inr v) a, leads-to q (inr v) b)
  joined_to (flip j) = let (x, a, b) = joined_to j in (x, b, a)
  joined_to (chain {p} {q} {r} i j) =
      let (x, a, b) = joined_to i in
      let (y, c, d) = joined_to j in
      (y, to-related p x y a (to_one q x y b c), d)
  joined_to (down {p} {q} f i j) =
      let (x, a, b) = joined_to i in
      let (z, c, _) = joined_to j in
      let (y, w, e, l, k) = to_last p f z c in
      let t : To q y = to-related q x y b (to_one p x y a e) in
      let t' : To (q ++ (f ∷ [])) w = to_step q f y w t l in
      (z, c, to-related (q ++ (f ∷ [])) w z t' k)

  -- Joined paths lead to related nodes.
  pub joined-related : {p q : List ℕ} → Joined g h p q → (x y : A ⊎ B) → Leads g h p x → Leads g h q y → RelatedBeside g h x y
  joined-related {p} {q} j x y a b =
      let (z, c, d) = joined_to j in
      next (to_one p x z (leads-to p x a) c) (to_one q z y d (leads-to q y b))

  -- The last feature of a path of the unification is a feature of some node that the path before leads to.
  pub joined-last : (p : List ℕ) (f : ℕ) → Joined g h (p ++ (f ∷ [])) (p ++ (f ∷ [])) →
      (x : A ⊎ B) × (y : A ⊎ B) × To p x × (link_beside g h x f ≡ some y)
  joined-last p f j =
      let (z, c, _) = joined_to j in
      let (x, y, a, l, _) = to_last p f z c in
      (x, y, a, l)

-- a node of one of the two graphs lies over v: some path leads to both nodes
abbrev pub Lies : {L A B C : Type 0} → Graph L A → Graph L B → Graph L C → A ⊎ B → C → Type 0
Lies g h s x v = (p : List ℕ) × Leads g h p x × (walk s p ≡ some v)

module _ {𝓛 : Labels} {A B C : Type 0} {g : Graph 𝓛.L A} {h : Graph 𝓛.L B} {s : Graph 𝓛.L C} (belowG : Below 𝓛 s g)
    (belowH : Below 𝓛 s h) where
  -- all paths to a node lead to the node that it lies over
  pub lies-path : (x : A ⊎ B) (v : C) → Lies g h s x v → (q : List ℕ) → Leads g h q x → walk s q ≡ some v
  lies-path (inl x) v (p, a, e) q b = let c = belowG.corefers p q (x, a, b) in c.2 ∙ sym c.1 ∙ e
  lies-path (inr x) v (p, a, e) q b = let c = belowH.corefers p q (x, a, b) in c.2 ∙ sym c.1 ∙ e

  pub leads-lies : (p : List ℕ) (x : A ⊎ B) → Leads g h p x → (v : C) × (walk s p ≡ some v)
  leads-lies p (inl x) a = let c = belowG.paths p x a in (c.0, c.1)
  leads-lies p (inr x) a = let c = belowH.paths p x a in (c.0, c.1)

  pub lies-link : (x y : A ⊎ B) (f : ℕ) (u : C) → Lies g h s x u → link_beside g h x f ≡ some y →
      (v : C) × (s.link u f ≡ some v) × Lies g h s y v
  lies-link x y f u (p, a, e) l =
      let b = leads-step g h p f x y a l in
      let (v, d) = leads-lies (p ++ (f ∷ [])) y b in
      (v, sym (walk-snoc s p f e) ∙ d, (p ++ (f ∷ []), b, d))

  lies-source : (x y : A ⊎ B) (f : ℕ) (v : C) (p : List ℕ) → Leads g h p x → link_beside g h x f ≡ some y → Lies g h s y v →
      (u : C) × Lies g h s x u × (s.link u f ≡ some v)
  lies-source x y f v p a l b =
      let e = lies-path y v b (p ++ (f ∷ [])) (leads-step g h p f x y a l) in
      let (u, d, k) = follow-last s.link (some s.root) p f v e in
      (u, (p, a, d), k)

  -- related nodes lie over one node
  pub related-lies : {x y : A ⊎ B} → RelatedBeside g h x y → (v : C) → Lies g h s x v ↔ Lies g h s y v
  unfolding follow
  related-lies roots v = (
    λ a. ([], refl, lies-path (inl g.root) v a [] refl),
    λ a. ([], refl, lies-path (inr h.root) v a [] refl),
  )
  related-lies (back c) v = let e = related-lies c v in (e.1, e.0)
  related-lies (next c d) v =
      let i = related-lies c v in
      let j = related-lies d v in
      (λ a. j.0 (i.0 a), λ a. i.1 (j.1 a))
  related-lies (feat {x} {y} {v = x'} {w = y'} f c k l) v =
      let ((p, a), (q, b)) = related-reached g h c in
      (λ i. across x x' y y' k l p a (λ u. (related-lies c u).0) i, λ i. across y y' x x' l k q b (λ u. (related-lies c u).1) i)
    where
      across : (x x' y y' : A ⊎ B) → link_beside g h x f ≡ some x' → link_beside g h y f ≡ some y' → (p : List ℕ) → Leads g h p x →
          ((u : C) → Lies g h s x u → Lies g h s y u) → Lies g h s x' v → Lies g h s y' v
      across x x' y y' k l p a ih i =
          let (u, j, e) = lies-source x x' f v p a k i in
          let (w, d, t) = lies-link y y' f u (ih u j) l in
          subst (Lies g h s y') (some-unique d e) t

  -- the class that a path leads to lies over where it leads in s
  arrives-lies : (p : List ℕ) (x z : A ⊎ B) (u v : C) →
      Arrives (link_beside g h) (inl g.root) (inr h.root) x p z → Lies g h s x u →
      follow s.link (some u) p ≡ some v → Lies g h s z v
  unfolding follow
  arrives-lies [] x z u v a i e = (related-lies a v).0 (subst (Lies g h s x) (some-injective e) i)
  arrives-lies (f ∷ p) x z u v (y, w, a, l, b) i e =
      let (t, d, j) = lies-link y w f u ((related-lies a u).0 i) l in
      arrives-lies p w z t v b j (sym (ap (λ o. follow s.link o p) d) ∙ e)

  pub to-lies : (p : List ℕ) (x : A ⊎ B) (v : C) → To g h p x → walk s p ≡ some v → Lies g h s x v
  unfolding follow
  to-lies p x v a e = arrives-lies p (inl g.root) x s.root v a ([], refl, refl) e

  -- Related nodes over v, which is not the root, are in every equivalence that holds of any two nodes which links over one
  -- link of s enter.
  pub related-within : (v : C) → (v ≡ s.root → ⊥) → (T : A ⊎ B → A ⊎ B → Type 0) → Equivalence T →
      ((u : C) (f : ℕ) (x x' y y' : A ⊎ B) → Lies g h s x u → Lies g h s y u → s.link u f ≡ some v →
      link_beside g h x f ≡ some x' → link_beside g h y f ≡ some y' → T x' y') →
      {x y : A ⊎ B} → RelatedBeside g h x y → Lies g h s x v → T x y
  unfolding follow
  related-within v inner T equal within roots i = absurd (inner (sym (some-injective (lies-path (inl g.root) v i [] refl))))
  related-within v inner T equal within (back c) i =
      equal.symm _ _ (related-within v inner T equal within c ((related-lies c v).1 i))
  related-within v inner T equal within (next c d) i =
      equal.trans _ _ _ (related-within v inner T equal within c i)
      (related-within v inner T equal within d ((related-lies c v).0 i))
  related-within v inner T equal within (feat {x} {y} {v = x'} {w = y'} f c k l) i =
      let (p, a) = (related-reached g h c).0 in
      let (u, j, e) = lies-source x x' f v p a k i in
      within u f x x' y y' j ((related-lies c u).0 j) e k l

  -- The same by cases, where paths that share in s are joined.
  pub related-cases : ((p q : List ℕ) → Corefer s p q → Joined g h p q) →
      (v : C) → (v ≡ s.root → ⊥) → (T : A ⊎ B → A ⊎ B → Type 0) → Equivalence T →
      ((u : C) (f : ℕ) (x z : A) (y w : A) → Lies g h s (inl x) u → Lies g h s (inl y) u → s.link u f ≡ some v →
      g.link x f ≡ some z → g.link y f ≡ some w → T (inl z) (inl w)) →
      ((u : C) (f : ℕ) (x z : A) (y w : B) → Lies g h s (inl x) u → Lies g h s (inr y) u → s.link u f ≡ some v →
      g.link x f ≡ some z → h.link y f ≡ some w → T (inl z) (inr w)) →
      ((u : C) (f : ℕ) (x z : B) (y w : B) → Lies g h s (inr x) u → Lies g h s (inr y) u → s.link u f ≡ some v →
      h.link x f ≡ some z → h.link y f ≡ some w → T (inr z) (inr w)) →
      (x y : A ⊎ B) → Lies g h s x v → Lies g h s y v → T x y
  related-cases cover v inner T equal gg gh hh x y i j =
      related-within v inner T equal within (joined-related g h (cover i.0 j.0 (v, i.2, j.2)) x y i.1 j.1) i
    where
      within : (u : C) (f : ℕ) (x x' y y' : A ⊎ B) → Lies g h s x u → Lies g h s y u → s.link u f ≡ some v →
          link_beside g h x f ≡ some x' → link_beside g h y f ≡ some y' → T x' y'
      within u f (inl x) x' (inl y) y' i j e k l =
          let (z, a, p) = (map-eq-some_iff inl (g.link x f)).0 k in
          let (w, b, q) = (map-eq-some_iff inl (g.link y f)).0 l in
          subst₂ T p q (gg u f x z y w i j e a b)
      within u f (inl x) x' (inr y) y' i j e k l =
          let (z, a, p) = (map-eq-some_iff inl (g.link x f)).0 k in
          let (w, b, q) = (map-eq-some_iff inr (h.link y f)).0 l in
          subst₂ T p q (gh u f x z y w i j e a b)
      within u f (inr x) x' (inl y) y' i j e k l =
          let (z, a, p) = (map-eq-some_iff inr (h.link x f)).0 k in
          let (w, b, q) = (map-eq-some_iff inl (g.link y f)).0 l in
          subst₂ T p q (equal.symm _ _ (gh u f y w x z j i e b a))
      within u f (inr x) x' (inr y) y' i j e k l =
          let (z, a, p) = (map-eq-some_iff inr (h.link x f)).0 k in
          let (w, b, q) = (map-eq-some_iff inr (h.link y f)).0 l in
          subst₂ T p q (hh u f x z y w i j e a b)

  -- every link of s has a link of one of both graphs over it
  pub link-covered : ((p q : List ℕ) → Corefer s p q → Joined g h p q) → (u v : C) (f : ℕ) → Reached s u → s.link u f ≡ some v →
      (x : A ⊎ B) × (y : A ⊎ B) × Lies g h s x u × (link_beside g h x f ≡ some y)
  link-covered cover u v f (p, e) l =
      let d = walk-snoc s p f e ∙ l in
      let (x, y, a, k) = joined-last g h p f (cover (p ++ (f ∷ [])) (p ++ (f ∷ [])) (v, d, d)) in
      (x, y, to-lies p x u a e, k)
