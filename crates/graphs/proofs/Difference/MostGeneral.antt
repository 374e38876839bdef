-- Nothing more general restores: a graph e above the difference whose unification with g lies below s lies below the
-- difference. The nodes of e and of g lie over nodes of s. Since the unification lies below s, all that lie over one node
-- are related, and each link of s has a link of e or g over it. Shown in this order: at most one node of e lies over each
-- node of s; if one lies over v, every leader into v has a link of e over it; one lies over every kept node; its label is
-- below the wanted one.
use mathlib.Core.Path.{◌≡◌, refl, sym, ◌∙◌, ap, subst}
use mathlib.Core.Bool.{Bool, true, false, true≢false}
use mathlib.Core.List.{List, [], ◌∷◌, ◌++◌, Memᴰ}
use mathlib.Core.Logic.{◌↔◌, ◌⊎◌, inl, inr, ⊎_elim, Equivalence}
use mathlib.Core.Option
use mathlib.Core.Option.{Option, some, map-eq-some_iff}
use Prim.Native.Nat.{ℕ}
use Rattle.graphs.specs.Label.{Labels, Lattice}
use Rattle.graphs.specs.Graph.{Graph, AnySize, Below, TellsApart, follow, walk, Reached, Corefer}
use Rattle.graphs.specs.Map.{NodeMap}
use Rattle.graphs.specs.Unify.{Joined, UnderClass}
use Rattle.graphs.specs.Difference.{Link}
use Rattle.graphs.specs.Relations.{Into}
use Rattle.graphs.proofs.Walk.{
  some-injective,
  some-unique,
  snoc-induction,
  follow-last,
  reached-link,
  walk-snoc,
}
use Rattle.graphs.proofs.Below.{walk-map, map_below, below-trans}
use Rattle.graphs.proofs.Finite.{above-any-size}
use Rattle.graphs.proofs.Unification.Beside.{link_beside}
use Rattle.graphs.proofs.Difference.Arrives.{Lies, lies-path, lies-link, related-cases, link-covered}
use Rattle.graphs.proofs.Unification.Unifier.{joined-least}
use Rattle.graphs.proofs.Search.{search-list}
use Rattle.graphs.proofs.Difference.Induct.{parents-first, children-first}
use Rattle.graphs.proofs.Difference.Laws.{
  Leader,
  Enters,
  DifferenceLaws,
  Reason,
  at_root,
  two_groups,
  bare_group,
  own_label,
  kept_below,
  UnderOver,
  with_links,
}
use Rattle.graphs.proofs.Difference.Kept.{entered, root-path, no-link-to-root, enters-into, kept-walk, below-difference}

module _ {𝓛 : Labels} {A B E : Type 0} {s : Graph 𝓛.L A} {g : Graph 𝓛.L B} {over : B → A}
    {lead : A → Link A → Link A} {keep : A → Bool} {wanted : A → 𝓛.L} {kept : A → ℕ → Option A}
    (laws : DifferenceLaws 𝓛 s g over lead keep wanted kept)
    (lattice : Lattice 𝓛) (sound : AnySize 𝓛 s) (map : NodeMap 𝓛 s g over)
    (e : Graph 𝓛.L E) (above : Below 𝓛 (with_links s wanted kept) e)
    (cover : (p q : List ℕ) → Corefer s p q → Joined e g p q) where
  below_e : Below 𝓛 s e
  below_e = below-trans lattice (below-difference laws) above

  -- x, a node of e, lies over v
  abbrev Over : E → A → Type 0
  Over x v = Lies e g s (inl x) v

  over-lies : (y : B) (v : A) → Lies e g s (inr y) v → Reached g y × (over y ≡ v)
  over-lies y v (p, a, w) = ((p, a), some-unique (walk-map map p y a) w)

  lies_over : (y : B) (v : A) → Reached g y → over y ≡ v → Lies e g s (inr y) v
  lies_over y v (p, a) o = (p, a, walk-map map p y a ∙ ap some o)

  over-reached : (x : E) (v : A) → Over x v → Reached s v
  over-reached x v (p, _, w) = (p, w)

  -- a link of e over l enters z
  abbrev Past : Link A → E → Type 0
  Past l z = (x : E) × Over x l.0 × (e.link x l.1 ≡ some z)

  abbrev Covered : Link A → Type 0
  Covered l = (z : E) × Past l z

  -- a link with a link of e over it is a leader
  past-leader : (v : A) (l : Link A) (z : E) → s.link l.0 l.1 ≡ some v → Past l z → Leader s lead v l
  past-leader v (u, f) z k (x, (p, a, w), b) =
      let (y, c, _) = above.paths (p ++ (f ∷ [])) z (walk-snoc e p f a ∙ b) in
      let (t, d, m) = follow-last kept (some s.root) p f y c in
      let same : t ≡ u = some-unique (kept-walk laws p t d).0 w in
      let lk : kept u f ≡ some y = subst (λ i. kept i f ≡ some y) same m in
      let ld = ((laws.links u f y (p, w)).0 lk).0 in
      subst (λ i. Leader s lead i (u, f)) (some-unique ld.0.1 k) ld

  -- where a link of e enters
  past-over : (v : A) (l : Link A) (z : E) → s.link l.0 l.1 ≡ some v → Past l z → Over z v
  past-over v (u, f) z k (x, i, b) =
      let (y, c, j) = lies-link below_e (map_below map) (inl x) (inl z) f u i (ap (Option.map inl) b) in
      subst (Over z) (some-unique c k) j

  one-lead : (v : A) (z : B) (l m : Link A) → over z ≡ v → Enters g over z l → Enters g over z m → lead v l ≡ lead v m
  one-lead v z l m o a b = subst (λ u. lead u l ≡ lead u m) o (laws.one-lead z l m a b)

  -- a link of g over one into v enters a node over v
  enters-over : (u v : A) (f : ℕ) (y w : B) → Lies e g s (inr y) u → s.link u f ≡ some v → g.link y f ≡ some w →
      Enters g over w (u, f) × (over w ≡ v)
  enters-over u v f y w i k b =
      let (r, o) = over-lies y u i in
      let t : Enters g over w (u, f) = (y, r, o, b) in
      (t, some-unique (enters-into map w (u, f) t).1 k)

  -- Every link of s has a link of e or of g over it.
  covered : (v : A) (l : Link A) → Into s v l → Covered l ⊎ ((z : B) × Enters g over z l)
  covered v (u, f) (r, k) =
      let (x, y, i, a) = link-covered below_e (map_below map) cover u v f r k in
      go x y i a
    where
      go : (x y : E ⊎ B) → Lies e g s x u → link_beside e g x f ≡ some y → Covered (u, f) ⊎ ((z : B) × Enters g over z (u, f))
      go (inl x) y i a = let (z, b, _) = (map-eq-some_iff inl (e.link x f)).0 a in inl (z, (x, i, b))
      go (inr x) y i a =
          let (z, b, _) = (map-eq-some_iff inr (g.link x f)).0 a in
          let (t, o) = over-lies x u i in
          inr (z, (x, t, o, b))

  -- At most one node of e lies over each node of s. A node of e or g over v has a tip, a node of e over v: of e, itself; of g,
  -- where the link of e over its group's leader enters. All nodes over v have the same tips.
  abbrev Tip : A → E ⊎ B → E → Type 0
  Tip v (inl x) z = x ≡ z
  Tip v (inr y) z = (l : Link A) × Enters g over y l × Past (lead v l) z

  abbrev One : A → Type 0
  One v = (x y : E) → Over x v → Over y v → x ≡ y

  module _ (v : A) (inner : v ≡ s.root → ⊥) (sources : (u : A) (f : ℕ) → Reached s u → s.link u f ≡ some v → One u) where
    abbrev SameTips : E ⊎ B → E ⊎ B → Type 0
    SameTips x y = (z : E) → Tip v x z ↔ Tip v y z

    same-tips : Equivalence SameTips
    same-tips =
        record {
          refl = λ x z. (λ t. t, λ t. t);
          symm = λ x y q z. ((q z).1, (q z).0);
          trans = λ x y w q r z. (λ t. (r z).0 ((q z).0 t), λ t. (q z).1 ((r z).1 t));
        }

    tips-ee : (u : A) (f : ℕ) (x z y w : E) → Over x u → Over y u → s.link u f ≡ some v → e.link x f ≡ some z →
        e.link y f ≡ some w → SameTips (inl z) (inl w)
    tips-ee u f x z y w i j k a b =
        let q : z ≡ w = some-unique a (ap (λ t. e.link t f) (sources u f (over-reached x u i) k x y i j) ∙ b) in
        λ t. (λ c. sym q ∙ c, λ c. q ∙ c)

    tips-eg : (u : A) (f : ℕ) (x z : E) (y w : B) → Over x u → Lies e g s (inr y) u → s.link u f ≡ some v →
        e.link x f ≡ some z → g.link y f ≡ some w → SameTips (inl z) (inr w)
    tips-eg u f x z y w i j k a b = λ t. (there t, back t)
      where
        first : lead v (u, f) ≡ (u, f)
        first = (past-leader v (u, f) z k (x, i, a)).1

        enters : Enters g over w (u, f) × (over w ≡ v)
        enters = enters-over u v f y w j k b

        there : (t : E) → z ≡ t → Tip v (inr w) t
        there t q = ((u, f), enters.0, subst (λ m. Past m t) (sym first) (x, i, a ∙ ap some q))

        back : (t : E) → Tip v (inr w) t → z ≡ t
        back t (l, c, p) =
            let (x', i', a') = subst (λ m. Past m t) (one-lead v w l (u, f) enters.1 c enters.0 ∙ first) p in
            some-unique a (ap (λ m. e.link m f) (sources u f (over-reached x u i) k x x' i i') ∙ a')

    tips-gg : (u : A) (f : ℕ) (x z y w : B) → Lies e g s (inr x) u → Lies e g s (inr y) u → s.link u f ≡ some v →
        g.link x f ≡ some z → g.link y f ≡ some w → SameTips (inr z) (inr w)
    tips-gg u f x z y w i j k a b =
        let c = enters-over u v f x z i k a in
        let d = enters-over u v f y w j k b in
        λ t. (across z w c d t, across w z d c t)
      where
        across : (z w : B) → Enters g over z (u, f) × (over z ≡ v) → Enters g over w (u, f) × (over w ≡ v) → (t : E) →
            Tip v (inr z) t → Tip v (inr w) t
        across z w c d t (l, m, p) = ((u, f), d.0, subst (λ m. Past m t) (one-lead v z l (u, f) c.1 m c.0) p)

    one-inner : One v
    one-inner x y i j =
        let t = related-cases below_e (map_below map) cover v inner SameTips same-tips tips-ee tips-eg tips-gg (inl x) (inl y) i j in
        sym ((t x).0 refl)

  -- only the root lies over the root
  one-root : One s.root
  unfolding follow
  one-root x y i j = sym (start x i) ∙ start y j
    where
      start : (x : E) → Over x s.root → e.root ≡ x
      start x (p, a, w) = some-injective (ap (λ q. walk e q) (sym (root-path sound p w)) ∙ a)

  one : (v : A) → Reached s v → One v
  one = parents-first sound One next
    where
      next : (v : A) → Reached s v → ((u : A) (f : ℕ) → Reached s u → s.link u f ≡ some v → One u) → One v
      next v r ih = ⊎_elim (λ (q : v ≡ s.root). subst One (sym q) one-root) inner (entered s v r)
        where
          inner : (l : Link A) × Into s v l → One v
          inner (l, i) = one-inner v (λ q. no-link-to-root sound l (subst (λ u. Into s u l) q i)) ih

  -- If a node of e lies over v, every leader into v has a link of e over it: else the nodes of g in its group would be apart.
  abbrev InGroup : A → Link A → E ⊎ B → Type 0
  InGroup v l (inl x) = ⊥
  InGroup v l (inr y) = (m : Link A) × Enters g over y m × (lead v m ≡ l)

  module _ (v : A) (l : Link A) (leader : Leader s lead v l) where
    abbrev SameGroup : E ⊎ B → E ⊎ B → Type 0
    SameGroup x y = (InGroup v l x → Covered l ⊎ InGroup v l y) × (InGroup v l y → Covered l ⊎ InGroup v l x)

    same-group : Equivalence SameGroup
    same-group =
        record {
          refl = λ x. (λ t. inr t, λ t. inr t);
          symm = λ x y q. (q.1, q.0);
          trans = λ x y z q r. (both x y z q.0 r.0, both z y x r.1 q.1);
        }
      where
        both : (x y z : E ⊎ B) → (InGroup v l x → Covered l ⊎ InGroup v l y) → (InGroup v l y → Covered l ⊎ InGroup v l z) →
            InGroup v l x → Covered l ⊎ InGroup v l z
        both x y z q r t = ⊎_elim (λ (c : Covered l). inl c) r (q t)

    group-eg : (u : A) (f : ℕ) (x z : E) (y w : B) → Over x u → Lies e g s (inr y) u → s.link u f ≡ some v →
        e.link x f ≡ some z → g.link y f ≡ some w → SameGroup (inl z) (inr w)
    group-eg u f x z y w i j k a b = (absurd, λ t. inl (from_group t))
      where
        from_group : InGroup v l (inr w) → Covered l
        from_group (m, c, q) =
            let d = enters-over u v f y w j k b in
            let p = (past-leader v (u, f) z k (x, i, a)).1 in
            let r : (u, f) ≡ l = sym p ∙ sym (one-lead v w m (u, f) d.1 c d.0) ∙ q in
            (z, subst (λ m. Past m z) r (x, i, a))

    group-gg : (u : A) (f : ℕ) (x z y w : B) → Lies e g s (inr x) u → Lies e g s (inr y) u → s.link u f ≡ some v →
        g.link x f ≡ some z → g.link y f ≡ some w → SameGroup (inr z) (inr w)
    group-gg u f x z y w i j k a b =
        let c = enters-over u v f x z i k a in
        let d = enters-over u v f y w j k b in
        (across z w c d, across w z d c)
      where
        across : (z w : B) → Enters g over z (u, f) × (over z ≡ v) → Enters g over w (u, f) × (over w ≡ v) →
            InGroup v l (inr z) → Covered l ⊎ InGroup v l (inr w)
        across z w c d (m, t, q) = inr ((u, f), d.0, one-lead v z (u, f) m c.1 c.0 t ∙ q)

    -- what lies over v is in the group, if anything is, or a link of e lies over the leader
    group-all : (x y : E ⊎ B) → Lies e g s x v → Lies e g s y v → InGroup v l x → Covered l ⊎ InGroup v l y
    group-all x y i j =
        (related-cases below_e (map_below map) cover v (λ q. no-link-to-root sound l (subst (λ u. Into s u l) q leader.0))
        SameGroup same-group (λ u f x z y w i j k a b. (absurd, absurd)) group-eg group-gg x y i j).0

    -- a node of g that a link over the leader enters
    group-node : (z : B) → Enters g over z l → Lies e g s (inr z) v × InGroup v l (inr z)
    group-node z (y, r, o, k) =
        let t : Enters g over z l = (y, r, o, k) in
        (lies_over z v (reached-link g l.1 r k) (some-unique (enters-into map z l t).1 leader.0.1), (l, t, leader.1))

    leader-covered : (x : E) → Over x v → Covered l
    leader-covered x i = ⊎_elim (λ (c : Covered l). c) by_group (covered v l leader.0)
      where
        by_group : (z : B) × Enters g over z l → Covered l
        by_group (z, t) =
            let (j, c) = group-node z t in
            ⊎_elim (λ (c : Covered l). c) absurd (group-all (inr z) (inl x) j i c)

  root_over : (v : A) → v ≡ s.root → (x : E) × Over x v
  unfolding follow
  root_over v q = (e.root, ([], refl, ap some (sym q)))

  -- whether a node of e lies over v
  over-decided : (same : A → A → Bool) → TellsApart same → (v : A) → ((x : E) × Over x v) ⊎ ((x : E) → Over x v → ⊥)
  over-decided same tells v =
      let size = above-any-size lattice below_e sound in
      ⊎_elim (λ (t : (x : E) × Over x v). inl t)
      (λ (nowhere : (x : E) → Memᴰ x size.nodes → Over x v → ⊥).
      inr λ x i. nowhere x ((size.listed x).0 (i.0, i.1)) i)
      (search-list (λ x. Over x v) size.nodes λ x m. at x ((size.listed x).1 m))
    where
      at : (x : E) → Reached e x → Over x v ⊎ (Over x v → ⊥)
      at x (p, a) = let (w, b, _) = below_e.paths p x a in go w b (same w v) refl
        where
          go : (w : A) → walk s p ≡ some w → (b : Bool) → same w v ≡ b → Over x v ⊎ (Over x v → ⊥)
          go w b true q = inl (p, a, b ∙ ap some ((tells w v).0 q))
          go w b false q =
              inr λ i. true≢false (sym ((tells w v).1 (some-unique b (lies-path below_e (map_below map) (inl x) v i p a))) ∙ q)

  module _ (labels : (p : List ℕ) (v : A) (a : 𝓛.L) → walk s p ≡ some v → UnderClass 𝓛 e g p a →
      𝓛.le a (s.label v) ≡ true) where
    -- a label below those of g over v, and of the nodes of e over v, is below that of s
    class-label : (v : A) → Reached s v → (a : 𝓛.L) → UnderOver 𝓛 g over v a →
        ((x : E) → Over x v → 𝓛.le a (e.label x) ≡ true) → 𝓛.le a (s.label v) ≡ true
    class-label v (p, w) a under own =
        labels p v a w
        (record {
          first = λ q x j b. own x (q, b, together q j);
          second = λ q y j b. let (r, o) = over-lies y v (q, b, together q j) in under y r o;
        })
      where
        together : (q : List ℕ) → Joined e g p q → walk s q ≡ some v
        together q j =
            let (x, a, b) = joined-least e g s below_e.corefers (map_below map).corefers j in
            b ∙ sym a ∙ w

    -- the label of a node of e over v is below the wanted one
    over-label : (v : A) (x : E) → Over x v → 𝓛.le (e.label x) (wanted v) ≡ true
    over-label v x i =
        let r = over-reached x v i in
        laws.greatest v r (e.label x) (smaller i)
        (λ a b under. class-label v r a under λ y j. ap (λ z. 𝓛.le a (e.label z)) (one v r y x j i) ∙ b)
      where
        smaller : Over x v → 𝓛.le (s.label v) (e.label x) ≡ true
        smaller (p, a, w) =
            let (t, b, c) = below_e.paths p x a in
            ap (λ z. 𝓛.le (s.label z) (e.label x)) (some-unique w b) ∙ c

    module _ (same : A → A → Bool) (tells : TellsApart same) where
      -- a node of e lies over every kept node
      kept-over : (v : A) → Reached s v → keep v ≡ true → (x : E) × Over x v
      kept-over = children-first sound (λ v. keep v ≡ true → (x : E) × Over x v) next
        where
          next : (v : A) → Reached s v → ((f : ℕ) (w : A) → s.link v f ≡ some w → keep w ≡ true → (x : E) × Over x w) →
              keep v ≡ true → (x : E) × Over x v
          next v r ih k = because (laws.reason v r k)
            where
              enough : (l : Link A) → Into s v l → Covered l → (x : E) × Over x v
              enough l i (z, p) = (z, past-over v l z i.1 p)

              because : Reason 𝓛 s g over lead keep wanted v → (x : E) × Over x v
              because (at_root q) = root_over v q
              because (two_groups l m a b apart) = ⊎_elim (enough l a.0) first (covered v l a.0)
                where
                  second : (z : B) → Lies e g s (inr z) v → InGroup v l (inr z) → (y : B) × Enters g over y m → (x : E) × Over x v
                  second z i c (y, t) =
                      let (j, _) = group-node v m b y t in
                      ⊎_elim (enough l a.0) (λ (d : InGroup v l (inr y)).
                      absurd (apart (sym d.2 ∙ one-lead v y d.0 m (over-lies y v j).1 d.1 t ∙ b.1)))
                      (group-all v l a (inr z) (inr y) i j c)

                  first : (z : B) × Enters g over z l → (x : E) × Over x v
                  first (z, t) = let (i, c) = group-node v l a z t in ⊎_elim (enough m b.0) (second z i c) (covered v m b.0)
              because (bare_group l a bare) =
                  ⊎_elim (enough l a.0) (λ (t : (z : B) × Enters g over z l). absurd (bare t.0 t.1)) (covered v l a.0)
              because (own_label q) = ⊎_elim (λ (t : (x : E) × Over x v). t) labelled (over-decided same tells v)
                where
                  labelled : ((x : E) → Over x v → ⊥) → (x : E) × Over x v
                  labelled bare =
                      let t = laws.greatest v r 𝓛.top (lattice.top-greatest (s.label v))
                      (λ a _ under. class-label v r a under λ x i. absurd (bare x i)) in
                      absurd (true≢false (sym t ∙ q))
              because (kept_below f w a q) =
                  let (x, i) = ih f w a.0.1 q in
                  let (z, (y, j, _)) = leader-covered w (v, f) a x i in
                  (y, j)

      -- e has a link over every link of the difference
      over-step : (u v : A) (f : ℕ) (x : E) → Over x u → Leader s lead v (u, f) → keep v ≡ true → (z : E) × (e.link x f ≡ some z)
      over-step u v f x i ld k =
          let (y, j) = kept-over v (reached-link s f (over-reached x u i) ld.0.1) k in
          let (z, (x', i', c)) = leader-covered v (u, f) ld y j in
          (z, ap (λ t. e.link t f) (one u (over-reached x u i) x x' i i') ∙ c)

      -- the paths of the difference are paths of e
      kept-path : (p : List ℕ) (v : A) → walk (with_links s wanted kept) p ≡ some v → (x : E) × (walk e p ≡ some x)
      unfolding follow
      kept-path =
          snoc-induction (λ p. (v : A) → walk (with_links s wanted kept) p ≡ some v → (x : E) × (walk e p ≡ some x))
          (λ v _. (e.root, refl)) more
        where
          further : (p : List ℕ) (f : ℕ) (x : E) → walk e p ≡ some x → (z : E) × (e.link x f ≡ some z) →
              (z : E) × (walk e (p ++ (f ∷ [])) ≡ some z)
          further p f x d (z, c) = (z, walk-snoc e p f d ∙ c)

          more : (p : List ℕ) (f : ℕ) → ((v : A) → walk (with_links s wanted kept) p ≡ some v → (x : E) × (walk e p ≡ some x)) →
              (v : A) → walk (with_links s wanted kept) (p ++ (f ∷ [])) ≡ some v → (x : E) × (walk e (p ++ (f ∷ [])) ≡ some x)
          more p f ih v a =
              let (u, b, k) = follow-last kept (some s.root) p f v a in
              let w = (kept-walk laws p u b).0 in
              let (ld, kv) = (laws.links u f v (p, w)).0 k in
              let (x, d) = ih u b in
              further p f x d (over-step u v f x (p, d, w) ld kv)

      -- A graph above the difference that restores s with g lies below the difference.
      pub most-general : Below 𝓛 e (with_links s wanted kept)
      most-general = record { paths = paths; corefers = corefers }
        where
          paths : (p : List ℕ) (v : A) → walk (with_links s wanted kept) p ≡ some v →
              (x : E) × (walk e p ≡ some x) × (𝓛.le (e.label x) (wanted v) ≡ true)
          paths p v a =
              let (x, b) = kept-path p v a in
              (x, b, over-label v x (p, b, (kept-walk laws p v a).0))

          corefers : (p q : List ℕ) → Corefer (with_links s wanted kept) p q → Corefer e p q
          corefers p q (v, a, b) =
              let (x, c) = kept-path p v a in
              let (y, d) = kept-path q v b in
              let i = (kept-walk laws p v a).0 in
              let j = (kept-walk laws q v b).0 in
              (x, c, d ∙ ap some (one v (q, j) y x (q, d, j) (p, c, i)))
