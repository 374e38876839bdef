-- These lemmas are about the order of graphs and equal meaning, over any lattice of labels. Below is an order up to equal meaning. A
-- graph is below another exactly where a node map says so, and two graphs mean the same exactly where an exact map renames one to the
-- other. To make a map, it must be decided which nodes are reached; a list of the nodes decides it.
use mathlib.Core.Path.{◌≡◌, refl, sym, ◌∙◌, ap}
use mathlib.Core.Bool.{Bool, true, false, true≢false}
use mathlib.Core.List.Memᴰ
use mathlib.Core.List.{List, [], ◌∷◌, ◌++◌, Memᴰ}
use mathlib.Core.Logic.{◌↔◌, ⊎_elim}
use mathlib.Core.Option.{Option, none, some, map, map-eq-some_iff}
use Prim.Native.Nat.{ℕ}
use Rattle.graphs.specs.Label.{Labels, Lattice}
use Rattle.graphs.specs.Graph.{Graph, Below, SameMeaning, TellsApart, walk, follow, step, Reached, Corefer}
use Rattle.graphs.specs.Map.{NodeMap, Exact}
use Rattle.graphs.proofs.Walk.{some-injective, some-unique, none-some, snoc-induction, follow-snoc, follow-last, walk-snoc}

module _ {𝓛 : Labels} (lattice : Lattice 𝓛) where
  pub below-refl : {A : Type 0} (g : Graph 𝓛.L A) → Below 𝓛 g g
  below-refl g = record { paths = λ p v e. (v, e, lattice.le_refl (g.label v)); corefers = λ p q c. c }

  pub below-trans : {A B C : Type 0} {s : Graph 𝓛.L A} {g : Graph 𝓛.L B} {h : Graph 𝓛.L C} →
      Below 𝓛 s g → Below 𝓛 g h → Below 𝓛 s h
  below-trans {A} {C = C} {s} {h = h} b c = record { paths = paths; corefers = λ p q r. b.corefers p q (c.corefers p q r) }
    where
      paths : (p : List ℕ) (v : C) → walk h p ≡ some v → (w : A) × (walk s p ≡ some w) × (𝓛.le (s.label w) (h.label v) ≡ true)
      paths p v e =
          let (x, d, l) = c.paths p v e in
          let (w, a, k) = b.paths p x d in
          (w, a, lattice.le_trans _ _ _ k l)

-- At one path the labels are in order.
pub below-labels : {𝓛 : Labels} {A B : Type 0} {s : Graph 𝓛.L A} {g : Graph 𝓛.L B} → Below 𝓛 s g →
    (p : List ℕ) (w : A) (v : B) → walk s p ≡ some w → walk g p ≡ some v → 𝓛.le (s.label w) (g.label v) ≡ true
below-labels {𝓛} {s = s} {g} b p w v d e =
    let x = b.paths p v e in
    ap (λ u. 𝓛.le (s.label u) (g.label v)) (some-unique d x.1) ∙ x.2

-- Node maps.

-- Along a node map every walk of g is one of s.
pub walk-map : {𝓛 : Labels} {A B : Type 0} {s : Graph 𝓛.L A} {g : Graph 𝓛.L B} {to : B → A} → NodeMap 𝓛 s g to →
    (p : List ℕ) (v : B) → walk g p ≡ some v → walk s p ≡ some (to v)
unfolding follow
walk-map {B = B} {s} {g} {to} m = snoc-induction (λ p. (v : B) → walk g p ≡ some v → walk s p ≡ some (to v)) base more
  where
    base : (v : B) → walk g [] ≡ some v → walk s [] ≡ some (to v)
    base v e = ap some (sym m.root) ∙ ap (λ x. some (to x)) (some-injective e)

    more : (p : List ℕ) (f : ℕ) → ((v : B) → walk g p ≡ some v → walk s p ≡ some (to v)) →
        (w : B) → walk g (p ++ (f ∷ [])) ≡ some w → walk s (p ++ (f ∷ [])) ≡ some (to w)
    more p f ih w e =
        let l = follow-last g.link (some g.root) p f w e in
        walk-snoc s p f (ih l.0 l.1) ∙ m.links l.0 w f (p, l.1) l.2

pub map_below : {𝓛 : Labels} {A B : Type 0} {s : Graph 𝓛.L A} {g : Graph 𝓛.L B} {to : B → A} → NodeMap 𝓛 s g to →
    Below 𝓛 s g
map_below {to = to} m =
    record {
      paths = λ p v e. (to v, walk-map m p v e, m.labels v (p, e));
      corefers = λ p q c. (to c.0, walk-map m p c.0 c.1, walk-map m q c.0 c.2);
    }

-- The map takes every walk of g to the walk of s by the same path.
abbrev pub Carries : {L A B : Type 0} → (B → A) → Graph L B → Graph L A → Type 0
Carries {B = B} to g s = (p : List ℕ) (v : B) → walk g p ≡ some v → walk s p ≡ some (to v)

module _ {L A B : Type 0} (s : Graph L A) (g : Graph L B) where
  -- Where the paths of g are paths of s, and those that corefer in g corefer in s, some map carries g to s.
  carry : ((p : List ℕ) (v : B) → walk g p ≡ some v → (w : A) × (walk s p ≡ some w)) →
      ((p q : List ℕ) → Corefer g p q → Corefer s p q) → ((v : B) → Dec (Reached g v)) → (to : B → A) × Carries to g s
  carry paths corefers decide = (λ v. image v (decide v), λ p v e. carries p v e (decide v))
    where
      image : (v : B) → Dec (Reached g v) → A
      image v (yes r) = (paths r.0 v r.1).0
      image v (no n) = s.root

      carries : (p : List ℕ) (v : B) → walk g p ≡ some v → (d : Dec (Reached g v)) → walk s p ≡ some (image v d)
      carries p v e (yes r) =
          let c = corefers p r.0 (v, e, r.1) in
          c.1 ∙ sym c.2 ∙ (paths r.0 v r.1).1
      carries p v e (no n) = absurd (n (p, e))

  carry-root : (to : B → A) → Carries to g s → to g.root ≡ s.root
  unfolding follow
  carry-root to c = sym (some-injective (c [] g.root refl))

  carry-links : (to : B → A) → Carries to g s → (v w : B) (f : ℕ) → Reached g v → g.link v f ≡ some w →
      s.link (to v) f ≡ some (to w)
  carry-links to c v w f r l =
      sym (walk-snoc s r.0 f (c r.0 v r.1)) ∙ c (r.0 ++ (f ∷ [])) w (walk-snoc g r.0 f r.1 ∙ l)

-- Where a graph is below g, a map that carries the walks of g to it is a node map.
pub carries-map : {𝓛 : Labels} {A B : Type 0} {s : Graph 𝓛.L A} {g : Graph 𝓛.L B} → Below 𝓛 s g → (to : B → A) →
    Carries to g s → NodeMap 𝓛 s g to
carries-map {s = s} {g} b to c =
    record {
      root = carry-root s g to c;
      links = carry-links s g to c;
      labels = λ v r. below-labels b r.0 (to v) v (c r.0 v r.1) r.1;
    }

-- Where it is decided which nodes of g are reached, a graph below g has a node map.
pub below-map : {𝓛 : Labels} {A B : Type 0} {s : Graph 𝓛.L A} {g : Graph 𝓛.L B} → Below 𝓛 s g →
    ((v : B) → Dec (Reached g v)) → (to : B → A) × NodeMap 𝓛 s g to
below-map {s = s} {g} b decide =
    let (to, c) = carry s g (λ p v e. ((b.paths p v e).0, (b.paths p v e).1)) b.corefers decide in
    (to, carries-map b to c)

-- Membership in a list is decided by a test that tells elements apart.
pub member-decided : {A : Type 0} (same : A → A → Bool) → TellsApart same → (v : A) (l : List A) → Dec (Memᴰ v l)
member-decided same tells v [] = no Memᴰ.not-nil
member-decided same tells v (w ∷ l) = go (same v w) refl (member-decided same tells v l)
  where
    go : (b : Bool) → same v w ≡ b → Dec (Memᴰ v l) → Dec (Memᴰ v (w ∷ l))
    go true e d = yes (Memᴰ.head ((tells v w).0 e))
    go false e (yes m) = yes (Memᴰ.tail m)
    go false e (no n) =
        no λ m. ⊎_elim (λ (p : v ≡ w). absurd (true≢false (sym ((tells v w).1 p) ∙ e))) n (Memᴰ.cases_cons m)

-- Equal meaning.

pub same_refl : {𝓛 : Labels} {A : Type 0} (g : Graph 𝓛.L A) → SameMeaning 𝓛 g g
same_refl g = record { there = λ p v e. (v, e, refl); back = λ p v e. (v, e, refl); corefers = λ p q. (λ c. c, λ c. c) }

module _ {𝓛 : Labels} {A B : Type 0} {g : Graph 𝓛.L A} {h : Graph 𝓛.L B} where
  pub same-sym : SameMeaning 𝓛 g h → SameMeaning 𝓛 h g
  same-sym m =
      record {
        there = λ p v e. ((m.back p v e).0, (m.back p v e).1, sym (m.back p v e).2);
        back = λ p v e. ((m.there p v e).0, (m.there p v e).1, sym (m.there p v e).2);
        corefers = λ p q. ((m.corefers p q).1, (m.corefers p q).0);
      }

  pub same-trans : {C : Type 0} {k : Graph 𝓛.L C} → SameMeaning 𝓛 g h → SameMeaning 𝓛 h k → SameMeaning 𝓛 g k
  same-trans m n =
      record {
        there = λ p v e.
            let x = m.there p v e in
            let y = n.there p x.0 x.1 in
            (y.0, y.1, x.2 ∙ y.2);
        back = λ p v e.
            let x = n.back p v e in
            let y = m.back p x.0 x.1 in
            (y.0, y.1, y.2 ∙ x.2);
        corefers = λ p q.
            (λ c. (n.corefers p q).0 ((m.corefers p q).0 c), λ c. (m.corefers p q).1 ((n.corefers p q).1 c));
      }

  pub same-below : Lattice 𝓛 → SameMeaning 𝓛 g h → Below 𝓛 g h
  same-below lattice m =
      record {
        paths = λ p v e.
            let x = m.back p v e in
            (x.0, x.1, ap (λ a. 𝓛.le a (h.label v)) x.2 ∙ lattice.le_refl (h.label v));
        corefers = λ p q. (m.corefers p q).1;
      }

  -- Two graphs that are each below the other mean the same.
  pub below-antisym : Lattice 𝓛 → Below 𝓛 g h → Below 𝓛 h g → SameMeaning 𝓛 g h
  below-antisym lattice b c = record { there = there; back = back; corefers = λ p q. (c.corefers p q, b.corefers p q) }
    where
      equal : (p : List ℕ) (v : A) (w : B) → walk g p ≡ some v → walk h p ≡ some w → g.label v ≡ h.label w
      equal p v w d e = lattice.le_antisym _ _ (below-labels b p v w d e) (below-labels c p w v e d)

      there : (p : List ℕ) (v : A) → walk g p ≡ some v → (w : B) × (walk h p ≡ some w) × (g.label v ≡ h.label w)
      there p v e =
          let y = c.paths p v e in
          (y.0, y.1, equal p v y.0 e y.1)

      back : (p : List ℕ) (w : B) → walk h p ≡ some w → (v : A) × (walk g p ≡ some v) × (g.label v ≡ h.label w)
      back p w e =
          let x = b.paths p w e in
          (x.0, x.1, equal p x.0 w x.1 e)

pub same-meaning : {𝓛 : Labels} → Lattice 𝓛 → {A B : Type 0} (g : Graph 𝓛.L A) (h : Graph 𝓛.L B) →
    SameMeaning 𝓛 g h ↔ (Below 𝓛 g h × Below 𝓛 h g)
same-meaning lattice g h =
    (λ m. (same-below lattice m, same-below lattice (same-sym m)), λ b. below-antisym lattice b.0 b.1)

-- Exact maps.

-- An exact map takes each walk to the walk by the same path; what is no path of g is no path of h.
pub exact-walk : {L A B : Type 0} {to : A → B} {g : Graph L A} {h : Graph L B} → Exact to g h → (p : List ℕ) →
    walk h p ≡ map to (walk g p)
unfolding follow
exact-walk {A = A} {to = to} {g} {h} x = snoc-induction (λ p. walk h p ≡ map to (walk g p)) (ap some (sym x.root)) more
  where
    more : (p : List ℕ) (f : ℕ) → walk h p ≡ map to (walk g p) → walk h (p ++ (f ∷ [])) ≡ map to (walk g (p ++ (f ∷ [])))
    more p f ih = go (walk g p) refl
      where
        go : (o : Option A) → walk g p ≡ o → walk h (p ++ (f ∷ [])) ≡ map to (walk g (p ++ (f ∷ [])))
        go none e =
            follow-snoc h.link (some h.root) p f ∙ ap (λ o. step h.link o f) (ih ∙ ap (map to) e) ∙
            sym (ap (map to) (follow-snoc g.link (some g.root) p f ∙ ap (λ o. step g.link o f) e))
        go (some v) e =
            walk-snoc h p f (ih ∙ ap (map to) e) ∙ x.links v f (p, e) ∙ sym (ap (map to) (walk-snoc g p f e))

-- An exact map shows that two graphs mean the same.
pub exact_same : {𝓛 : Labels} {A B : Type 0} {to : A → B} {g : Graph 𝓛.L A} {h : Graph 𝓛.L B} → Exact to g h →
    SameMeaning 𝓛 g h
exact_same {A = A} {B} {to} {g} {h} x =
    record {
      there = λ p v e. (to v, there p v e, sym (x.labels v (p, e)));
      back = back;
      corefers = λ p q. (λ c. (to c.0, there p c.0 c.1, there q c.0 c.2), apart p q);
    }
  where
    there : (p : List ℕ) (v : A) → walk g p ≡ some v → walk h p ≡ some (to v)
    there p v e = exact-walk x p ∙ ap (map to) e

    source : (p : List ℕ) (w : B) → walk h p ≡ some w → (v : A) × (walk g p ≡ some v) × (to v ≡ w)
    source p w e = (map-eq-some_iff to (walk g p)).0 (sym (exact-walk x p) ∙ e)

    back : (p : List ℕ) (w : B) → walk h p ≡ some w → (v : A) × (walk g p ≡ some v) × (g.label v ≡ h.label w)
    back p w e =
        let s = source p w e in
        (s.0, s.1, sym (x.labels s.0 (p, s.1)) ∙ ap h.label s.2)

    apart : (p q : List ℕ) → Corefer h p q → Corefer g p q
    apart p q c =
        let s = source p c.0 c.1 in
        let t = source q c.0 c.2 in
        (s.0, s.1, t.1 ∙ ap some (x.injective t.0 s.0 (q, t.1) (p, s.1) (t.2 ∙ sym s.2)))

-- Where it is decided which nodes of g are reached, a graph that means the same is g with its nodes renamed.
pub same-exact : {𝓛 : Labels} {A B : Type 0} {g : Graph 𝓛.L A} {h : Graph 𝓛.L B} → SameMeaning 𝓛 g h →
    ((v : A) → Dec (Reached g v)) → (to : A → B) × Exact to g h
same-exact {A = A} {B} {g} {h} m decide =
    let t = carry h g (λ p v e. ((m.there p v e).0, (m.there p v e).1)) (λ p q. (m.corefers p q).0) decide in (
      t.0,
      record {
        root = carry-root h g t.0 t.1;
        links = links t.0 t.1;
        labels = labels t.0 t.1;
        injective = injective t.0 t.1;
      },
    )
  where
    links : (to : A → B) → Carries to g h → (v : A) (f : ℕ) → Reached g v → h.link (to v) f ≡ map to (g.link v f)
    links to c v f r = go (g.link v f) refl (h.link (to v) f) refl
      where
        go : (o : Option A) → g.link v f ≡ o → (i : Option B) → h.link (to v) f ≡ i → h.link (to v) f ≡ map to (g.link v f)
        go (some w) e i d = carry-links h g to c v w f r e ∙ sym (ap (map to) e)
        go none e none d = d ∙ sym (ap (map to) e)
        go none e (some w) d =
            let x = m.back (r.0 ++ (f ∷ [])) w (walk-snoc h r.0 f (c r.0 v r.1) ∙ d) in
            none-some (sym e ∙ sym (walk-snoc g r.0 f r.1) ∙ x.1)

    labels : (to : A → B) → Carries to g h → (v : A) → Reached g v → h.label (to v) ≡ g.label v
    labels to c v r =
        let x = m.there r.0 v r.1 in
        ap h.label (some-unique (c r.0 v r.1) x.1) ∙ sym x.2

    injective : (to : A → B) → Carries to g h → (v w : A) → Reached g v → Reached g w → to v ≡ to w → v ≡ w
    injective to c v w r s e =
        let x = (m.corefers r.0 s.0).1 (to v, c r.0 v r.1, c s.0 w s.1 ∙ ap some (sym e)) in
        some-unique r.1 x.1 ∙ some-unique x.2 s.1
