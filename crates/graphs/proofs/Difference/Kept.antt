-- This file shows what follows at once from the laws of a difference: its paths are paths of s and lead to kept nodes, every kept node is
-- reached by leaders alone, and s lies below the difference.
use mathlib.Core.Path.{◌≡◌, refl, sym, ◌∙◌, ap, subst}
use mathlib.Core.Bool.{Bool, true, false, true≢false}
use mathlib.Core.List.{List, [], ◌∷◌, ◌++◌}
use mathlib.Core.Logic.{◌↔◌, ◌⊎◌, inl, inr, ⊎_elim}
use mathlib.Core.Option.{Option, some}
use Prim.Native.Nat.{ℕ}
use Rattle.graphs.specs.Label.{Labels}
use Rattle.graphs.specs.Graph.{Graph, AnySize, Below, follow, walk, Reached}
use Rattle.graphs.specs.Map.{NodeMap}
use Rattle.graphs.specs.Difference.{Link}
use Rattle.graphs.specs.Relations.{Into, LiesOver, LinkOver, Grouped, itself, touching, chain}
use Rattle.graphs.proofs.Walk.{some-injective, some-unique, snoc-induction, follow-last, reached-root, reached-link, walk-snoc}
use Rattle.graphs.proofs.Below.{walk-map, map_below}
use Rattle.graphs.proofs.Difference.Induct.{parents-first}
use Rattle.graphs.proofs.Difference.Laws.{Leader, Enters, DifferenceLaws, with_links}

module _ {L A : Type 0} (s : Graph L A) where
  -- a path is empty, or its last link enters where it leads
  pub last-link : (p : List ℕ) (v : A) → walk s p ≡ some v → ((p ≡ []) × (v ≡ s.root)) ⊎
      ((q : List ℕ) × (u : A) × (f : ℕ) × (p ≡ q ++ (f ∷ [])) × (walk s q ≡ some u) × (s.link u f ≡ some v))
  unfolding follow
  last-link =
      snoc-induction (λ p. (v : A) → walk s p ≡ some v → ((p ≡ []) × (v ≡ s.root)) ⊎
      ((q : List ℕ) × (u : A) × (f : ℕ) × (p ≡ q ++ (f ∷ [])) × (walk s q ≡ some u) × (s.link u f ≡ some v)))
      (λ v e. inl (refl, sym (some-injective e)))
      (λ q f ih v e. let l = follow-last s.link (some s.root) q f v e in inr (q, l.0, f, refl, l.1, l.2))

  -- a reached node is the root, or a link enters it
  pub entered : (v : A) → Reached s v → (v ≡ s.root) ⊎ ((l : Link A) × Into s v l)
  entered v r = go (last-link r.0 v r.1)
    where
      go : ((r.0 ≡ []) × (v ≡ s.root)) ⊎
          ((q : List ℕ) × (u : A) × (f : ℕ) × (r.0 ≡ q ++ (f ∷ [])) × (walk s q ≡ some u) × (s.link u f ≡ some v)) →
          (v ≡ s.root) ⊎ ((l : Link A) × Into s v l)
      go (inl e) = inl e.1
      go (inr t) = inr ((t.1, t.2), ((t.0, t.4), t.5))

module _ {𝓛 : Labels} {A : Type 0} {s : Graph 𝓛.L A} (sound : AnySize 𝓛 s) where
  -- only the empty path leads to the root
  pub root-path : (p : List ℕ) → walk s p ≡ some s.root → p ≡ []
  root-path [] e = refl
  root-path (f ∷ p) e = absurd (sound.acyclic s.root f p (reached-root s) e)

  pub no-link-to-root : (l : Link A) → Into s s.root l → ⊥
  no-link-to-root (u, f) (r, e) = go r.0 (walk-snoc s r.0 f r.1 ∙ e)
    where
      go : (p : List ℕ) → walk s (p ++ (f ∷ [])) ≡ some s.root → ⊥
      go [] e = sound.acyclic s.root f [] (reached-root s) e
      go (h ∷ p) e = sound.acyclic s.root h (p ++ (f ∷ [])) (reached-root s) e

-- a link with a link of g over it is a link of s, into the node under the one entered
pub enters-into : {𝓛 : Labels} {A B : Type 0} {s : Graph 𝓛.L A} {g : Graph 𝓛.L B} {over : B → A} → NodeMap 𝓛 s g over →
    (z : B) (l : Link A) → Enters g over z l → Into s (over z) l
enters-into {s = s} {over = over} map z l (y, r, o, e) =
    let p : walk s r.0 ≡ some (over y) = walk-map map r.0 y r.1 in
    ((r.0, p ∙ ap some o), ap (λ u. s.link u l.1) (sym o) ∙ map.links y z l.1 r e)

-- Groups of links.

module _ {L A B : Type 0} {s : Graph L A} {g : Graph L B} where
  pub grouped-into : {v : A} {l m : Link A} → Grouped s g v l m → Into s v l × Into s v m
  grouped-into (itself i) = (i, i)
  grouped-into (touching i j _) = (i, j)
  grouped-into (chain c d) = ((grouped-into c).0, (grouped-into d).1)

  pub grouped-flip : {v : A} {l m : Link A} → Grouped s g v l m → Grouped s g v m l
  grouped-flip (itself i) = itself i
  grouped-flip (touching i j (z, a, b)) = touching j i (z, b, a)
  grouped-flip (chain c d) = chain (grouped-flip d) (grouped-flip c)

module _ {𝓛 : Labels} {A B : Type 0} {s : Graph 𝓛.L A} {g : Graph 𝓛.L B} {over : B → A} (map : NodeMap 𝓛 s g over) where
  -- the nodes of g over v are those that the map takes to v
  pub lies_over : (y : B) (v : A) → LiesOver s g y v ↔ (Reached g y × (over y ≡ v))
  lies_over y v = (
    λ (p, a, b). ((p, a), some-unique (walk-map map p y a) b),
    λ ((p, a), o). (p, a, walk-map map p y a ∙ ap some o),
  )

  pub link-over : (z : B) (l : Link A) → LinkOver s g z l ↔ Enters g over z l
  link-over z l = (
    λ (y, o, e). let (r, q) = (lies_over y l.0).0 o in (y, r, q, e),
    λ (y, r, q, e). (y, (lies_over y l.0).1 (r, q), e),
  )

  pub enters-at : (v : A) (z : B) (l : Link A) → over z ≡ v → Enters g over z l → Into s v l
  enters-at v z l o t = subst (λ u. Into s u l) o (enters-into map z l t)

  -- links of s with links of g over them that enter one node are in one group
  pub enters-grouped : (v : A) (z : B) (l m : Link A) → over z ≡ v → Enters g over z l → Enters g over z m → Grouped s g v l m
  enters-grouped v z l m o a b =
      touching (enters-at v z l o a) (enters-at v z m o b) (z, (link-over z l).1 a, (link-over z m).1 b)

module _ {𝓛 : Labels} {A B : Type 0} {s : Graph 𝓛.L A} {g : Graph 𝓛.L B} {over : B → A}
    {lead : A → Link A → Link A} {keep : A → Bool} {wanted : A → 𝓛.L} {kept : A → ℕ → Option A}
    (laws : DifferenceLaws 𝓛 s g over lead keep wanted kept) where
  -- a leader into a kept node leaves a kept node
  pub source-kept : (v : A) (l : Link A) → Leader s lead v l → keep v ≡ true → keep l.0 ≡ true
  source-kept v l m k = go (keep l.0) refl
    where
      go : (b : Bool) → keep l.0 ≡ b → keep l.0 ≡ true
      go true e = e
      go false e = absurd (true≢false (sym k ∙ (laws.idle l.0 m.0.0 e).none_below l.1 v m))

  -- paths of the difference are paths of s, and lead to kept nodes
  pub kept-walk : (p : List ℕ) (v : A) → walk (with_links s wanted kept) p ≡ some v → (walk s p ≡ some v) × (keep v ≡ true)
  unfolding follow
  kept-walk =
      snoc-induction (λ p. (v : A) → walk (with_links s wanted kept) p ≡ some v → (walk s p ≡ some v) × (keep v ≡ true)) base more
    where
      base : (v : A) → walk (with_links s wanted kept) [] ≡ some v → (walk s [] ≡ some v) × (keep v ≡ true)
      base v e = (e, ap keep (sym (some-injective e)) ∙ laws.root_kept)

      more : (p : List ℕ) (f : ℕ) →
          ((v : A) → walk (with_links s wanted kept) p ≡ some v → (walk s p ≡ some v) × (keep v ≡ true)) →
          (v : A) → walk (with_links s wanted kept) (p ++ (f ∷ [])) ≡ some v → (walk s (p ++ (f ∷ [])) ≡ some v) × (keep v ≡ true)
      more p f ih v e =
          let l = follow-last kept (some s.root) p f v e in
          let w = (ih l.0 l.1).0 in
          let m = (laws.links l.0 f v (p, w)).0 l.2 in
          (walk-snoc s p f w ∙ m.0.0.1, m.1)

  pub kept-reached : (v : A) → Reached (with_links s wanted kept) v → Reached s v
  kept-reached v r = (r.0, (kept-walk r.0 v r.1).0)

  pub below-difference : Below 𝓛 s (with_links s wanted kept)
  below-difference = map_below {to = λ v. v} (record {
    root = refl;
    links = λ v w f r e. ((laws.links v f w (kept-reached v r)).0 e).0.0.1;
    labels = λ v r. laws.above v (kept-reached v r);
  })

  -- every kept node is reached in the difference
  pub reached-kept : AnySize 𝓛 s → (v : A) → Reached s v → keep v ≡ true → Reached (with_links s wanted kept) v
  reached-kept sound = parents-first sound (λ v. keep v ≡ true → Reached (with_links s wanted kept) v) next
    where
      next : (v : A) → Reached s v →
          ((u : A) (f : ℕ) → Reached s u → s.link u f ≡ some v → keep u ≡ true → Reached (with_links s wanted kept) u) →
          keep v ≡ true → Reached (with_links s wanted kept) v
      next v r ih k = ⊎_elim at_root from_link (entered s v r)
        where
          at_root : v ≡ s.root → Reached (with_links s wanted kept) v
          at_root e = subst (λ x. Reached (with_links s wanted kept) x) (sym e) (reached-root (with_links s wanted kept))

          from_link : (l : Link A) × Into s v l → Reached (with_links s wanted kept) v
          from_link (l, i) =
              let m = laws.leads v l i in
              let u = (lead v l).0 in
              let f = (lead v l).1 in
              reached-link (with_links s wanted kept) f
              (ih u f m.0.0 m.0.1 (source-kept v (lead v l) m k))
              ((laws.links u f v m.0.0).1 (m, k))
