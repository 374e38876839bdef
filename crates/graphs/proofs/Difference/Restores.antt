-- A difference restores: s is a greatest lower bound of d and g. Let h lie below both. Every node v of s has an image in h,
-- where the paths of d to v lead if v is kept, and the paths of g to every node over v. Images are found parents first: links
-- of one group lead to one node of h, leaders of different groups are links of d, and a node that is not kept has one group,
-- with g over it.
use mathlib.Core.Path.{◌≡◌, refl, sym, ◌∙◌, ap, subst}
use mathlib.Core.Bool.{Bool, true, false, true≢false}
use mathlib.Core.List.{List, [], ◌∷◌, ◌++◌}
use mathlib.Core.Logic.{◌↔◌, ◌⊎◌, inl, inr, ⊎_elim}
use mathlib.Core.Option.{Option, some}
use Prim.Native.Nat.{ℕ}
use Rattle.graphs.specs.Label.{Labels, Lattice}
use Rattle.graphs.specs.Graph.{Graph, AnySize, Below, follow, walk, Reached, Corefer}
use Rattle.graphs.specs.Map.{NodeMap}
use Rattle.graphs.specs.Difference.{Link}
use Rattle.graphs.specs.Relations.{Into, LinkOver, Grouped, itself, touching, chain}
use Rattle.graphs.proofs.Walk.{some-injective, some-unique, snoc-induction, follow-last, reached-link, walk-snoc}
use Rattle.graphs.proofs.Below.{walk-map}
use Rattle.graphs.proofs.Difference.Induct.{parents-first}
use Rattle.graphs.proofs.Difference.Laws.{
  Leader,
  Enters,
  DifferenceLaws,
  UnderOver,
  with_links,
}
use Rattle.graphs.proofs.Difference.Kept.{
  last-link,
  entered,
  root-path,
  no-link-to-root,
  enters-into,
  link-over,
  source-kept,
  kept-walk,
  reached-kept,
}

module _ {L A C : Type 0} (k : Graph L A) (h : Graph L C) where
  -- the paths of k to v lead to w in h
  abbrev pub Stands : A → C → Type 0
  Stands v w = (p : List ℕ) → walk k p ≡ some v → walk h p ≡ some w

-- if h lies below k, one path tells where the others lead
stands : {𝓛 : Labels} {A C : Type 0} {k : Graph 𝓛.L A} {h : Graph 𝓛.L C} → Below 𝓛 h k → (v : A) (w : C) (p : List ℕ) →
    walk k p ≡ some v → walk h p ≡ some w → Stands k h v w
stands below v w p e a q d =
    let c = below.corefers p q (v, e, d) in
    c.2 ∙ sym c.1 ∙ a

module _ {𝓛 : Labels} {A B C : Type 0} {s : Graph 𝓛.L A} {g : Graph 𝓛.L B} {over : B → A}
    {lead : A → Link A → Link A} {keep : A → Bool} {wanted : A → 𝓛.L} {kept : A → ℕ → Option A}
    (laws : DifferenceLaws 𝓛 s g over lead keep wanted kept)
    (lattice : Lattice 𝓛) (sound : AnySize 𝓛 s) (map : NodeMap 𝓛 s g over)
    (h : Graph 𝓛.L C) (belowD : Below 𝓛 h (with_links s wanted kept)) (belowG : Below 𝓛 h g) where
  -- w is the image of v
  record Image (v : A) (w : C) : Type 0 where
    pub of_kept : keep v ≡ true → Stands (with_links s wanted kept) h v w
    pub of_over : (y : B) → Reached g y → over y ≡ v → Stands g h y w

  -- from images of its source, the link leads to w in h
  abbrev Goes : Link A → C → Type 0
  Goes l w = (x : C) → Image l.0 x → h.link x l.1 ≡ some w

  -- links of g over l that enter z, and l itself, lead to one node
  enters-stands : (z : B) (l : Link A) (x w : C) → Enters g over z l → Image l.0 x → h.link x l.1 ≡ some w → Stands g h z w
  enters-stands z l x w (y, r, o, e) i a =
      stands belowG z w (r.0 ++ (l.1 ∷ [])) (walk-snoc g r.0 l.1 r.1 ∙ e)
      (walk-snoc h r.0 l.1 (i.of_over y r o r.0 r.1) ∙ a)

  enters-goes : (z : B) (l : Link A) (w : C) → Enters g over z l → Stands g h z w → Goes l w
  enters-goes z l w (y, r, o, e) a x i =
      sym (walk-snoc h r.0 l.1 (i.of_over y r o r.0 r.1)) ∙
      a (r.0 ++ (l.1 ∷ [])) (walk-snoc g r.0 l.1 r.1 ∙ e)

  -- a link of the difference and its target
  kept_goes : (v : A) (l : Link A) (w : C) → Leader s lead v l → keep v ≡ true → Stands (with_links s wanted kept) h v w → Goes l w
  kept_goes v l w m k a x i =
      let r = reached-kept laws sound l.0 m.0.0 (source-kept laws v l m k) in
      let e = (laws.links l.0 l.1 v m.0.0).1 (m, k) in
      sym (walk-snoc h r.0 l.1 (i.of_kept (source-kept laws v l m k) r.0 r.1)) ∙
      a (r.0 ++ (l.1 ∷ [])) (walk-snoc (with_links s wanted kept) r.0 l.1 r.1 ∙ e)

  -- where the links into v, from images of their sources, lead
  record Place (v : A) : Type 0 where
    pub node : C
    pub image : Image v node
    pub goes : (l : Link A) → Into s v l → Goes l node

  -- One node, parents first.
  module _ (v : A) (sources : (l : Link A) → Into s v l → (x : C) × Image l.0 x) where
    -- links of one group lead to one node
    grouped-goes : (w : C) {l m : Link A} → Grouped s g v l m → Goes l w ↔ Goes m w
    grouped-goes w (itself _) = (λ t. t, λ t. t)
    grouped-goes w (touching {l} {m} i j (z, a, b)) = (across l m i a b, across m l j b a)
      where
        across : (l m : Link A) → Into s v l → LinkOver s g z l → LinkOver s g z m → Goes l w → Goes m w
        across l m i a b t =
            let x = sources l i in
            enters-goes z m w ((link-over map z m).0 b) (enters-stands z l x.0 w ((link-over map z l).0 a) x.1 (t x.0 x.1))
    grouped-goes w (chain j i) =
        let e = grouped-goes w j in
        let d = grouped-goes w i in
        (λ t. d.0 (e.0 t), λ t. e.1 (d.1 t))

    -- where all leaders into v lead to w, all links do, and so do the nodes of g over v
    place : (v ≡ s.root → ⊥) → (w : C) → ((l : Link A) → Leader s lead v l → Goes l w) →
        (keep v ≡ true → Stands (with_links s wanted kept) h v w) → Place v
    place inner w leader byKept = record { node = w; image = record { of_kept = byKept; of_over = by_over }; goes = goes }
      where
        goes : (l : Link A) → Into s v l → Goes l w
        goes l i = (grouped-goes w (laws.grouped v l i)).1 (leader (lead v l) (laws.leads v l i))

        by_over : (y : B) → Reached g y → over y ≡ v → Stands g h y w
        by_over y r o = go (last-link g r.0 y r.1)
          where
            go : ((r.0 ≡ []) × (y ≡ g.root)) ⊎
                ((q : List ℕ) × (x : B) × (f : ℕ) × (r.0 ≡ q ++ (f ∷ [])) × (walk g q ≡ some x) × (g.link x f ≡ some y)) →
                Stands g h y w
            go (inl e) = absurd (inner (sym o ∙ ap over e.1 ∙ map.root))
            go (inr (q, x, f, _, a, b)) =
                let t : Enters g over y (over x, f) = (x, (q, a), refl, b) in
                let i : Into s v (over x, f) = subst (λ u. Into s u (over x, f)) o (enters-into map y (over x, f) t) in
                let c = sources (over x, f) i in
                enters-stands y (over x, f) c.0 w t c.1 (goes (over x, f) i c.0 c.1)

  -- the root's image is the root
  place-root : Place s.root
  unfolding follow
  place-root =
      record {
        node = h.root;
        image = record {
          of_kept = λ k p e. at_root p (kept-walk laws p s.root e).0;
          of_over = λ y r o p e. at_root p (walk-map map p y e ∙ ap some o);
        };
        goes = λ l i. absurd (no-link-to-root sound l i);
      }
    where
      at_root : (p : List ℕ) → walk s p ≡ some s.root → walk h p ≡ some h.root
      at_root p e = ap (λ q. walk h q) (root-path sound p e)

  -- a node that a link enters
  place-inner : (v : A) → (v ≡ s.root → ⊥) → Reached s v → (l : Link A) → Into s v l →
      ((l : Link A) → Into s v l → (x : C) × Image l.0 x) → Place v
  place-inner v inner r l i sources = go (keep v) refl
    where
      go : (b : Bool) → keep v ≡ b → Place v
      go true k =
          let q = reached-kept laws sound v r k in
          let w = belowD.paths q.0 v q.1 in
          let a = stands belowD v w.0 q.0 q.1 w.1 in
          place v sources inner w.0 (λ m t. kept_goes v m w.0 t k a) (λ _. a)
      go false k =
          let idle = laws.idle v r k in
          let c = idle.covered (lead v l) (laws.leads v l i) in
          let (y, ry, o, e) = c.1 in
          let q = reached-link g (lead v l).1 ry e in
          let w = belowG.paths q.0 c.0 q.1 in
          let a = stands belowG c.0 w.0 q.0 q.1 w.1 in
          place v sources inner w.0
          (λ m t.
          enters-goes c.0 m w.0
          (subst (λ x. Enters g over c.0 x) (idle.one_group (lead v l) m (laws.leads v l i) t) c.1) a)
          (λ d. absurd (true≢false (sym d ∙ k)))

  placed : (v : A) → Reached s v → Place v
  placed = parents-first sound Place next
    where
      next : (v : A) → Reached s v → ((u : A) (f : ℕ) → Reached s u → s.link u f ≡ some v → Place u) → Place v
      next v r ih = ⊎_elim (λ (e : v ≡ s.root). subst Place (sym e) place-root) inner (entered s v r)
        where
          inner : (l : Link A) × Into s v l → Place v
          inner (l, i) =
              place-inner v (λ e. no-link-to-root sound l (subst (λ u. Into s u l) e i)) r l i
              (λ m j. let x = ih m.0 m.1 j.0 j.1 in (x.node, x.image))

  -- the paths of s to v lead to its place
  lands : (p : List ℕ) (v : A) (x : Place v) → walk s p ≡ some v → walk h p ≡ some x.node
  unfolding follow
  lands = snoc-induction (λ p. (v : A) (x : Place v) → walk s p ≡ some v → walk h p ≡ some x.node) base more
    where
      base : (v : A) (x : Place v) → walk s [] ≡ some v → walk h [] ≡ some x.node
      base v x e = x.image.of_kept (ap keep (sym (some-injective e)) ∙ laws.root_kept) [] e

      more : (p : List ℕ) (f : ℕ) → ((v : A) (x : Place v) → walk s p ≡ some v → walk h p ≡ some x.node) →
          (v : A) (x : Place v) → walk s (p ++ (f ∷ [])) ≡ some v → walk h (p ++ (f ∷ [])) ≡ some x.node
      more p f ih v x e =
          let l = follow-last s.link (some s.root) p f v e in
          let y = placed l.0 (p, l.1) in
          walk-snoc h p f (ih l.0 y l.1) ∙ x.goes (l.0, f) ((p, l.1), l.2) y.node y.image

  image-label : (v : A) (w : C) → Reached s v → Image v w → 𝓛.le (h.label w) (s.label v) ≡ true
  image-label v w r i = laws.restores v r (h.label w) (go (keep v) refl) under
    where
      labelled : {D : Type 0} (k : Graph 𝓛.L D) (x : D) → Below 𝓛 h k → Reached k x → Stands k h x w →
          𝓛.le (h.label w) (k.label x) ≡ true
      labelled k x below q a =
          let t = below.paths q.0 x q.1 in
          ap (λ z. 𝓛.le (h.label z) (k.label x)) (some-unique (a q.0 q.1) t.1) ∙ t.2

      go : (b : Bool) → keep v ≡ b → 𝓛.le (h.label w) (wanted v) ≡ true
      go true k = labelled (with_links s wanted kept) v belowD (reached-kept laws sound v r k) (i.of_kept k)
      go false k = lattice.le_trans _ _ _ (lattice.top-greatest (h.label w)) (laws.idle v r k).no_label

      under : UnderOver 𝓛 g over v (h.label w)
      under y q o = labelled g y belowG q (i.of_over y q o)

  -- Whatever lies below the difference and g lies below s.
  pub restores-greatest : Below 𝓛 h s
  restores-greatest = record { paths = paths; corefers = corefers }
    where
      paths : (p : List ℕ) (v : A) → walk s p ≡ some v → (w : C) × (walk h p ≡ some w) × (𝓛.le (h.label w) (s.label v) ≡ true)
      paths p v e =
          let x = placed v (p, e) in
          (x.node, lands p v x e, image-label v x.node (p, e) x.image)

      corefers : (p q : List ℕ) → Corefer s p q → Corefer h p q
      corefers p q (v, d, e) =
          let x = placed v (p, d) in
          (x.node, lands p v x d, lands q v x e)
