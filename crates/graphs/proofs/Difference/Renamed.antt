-- The relations of a difference do not depend on how the nodes of s are named: along an exact map from s to r they say of s what they say
-- of r. The order of the links is taken along too.
use mathlib.Core.Path.{◌≡◌, refl, sym, ◌∙◌, ap, subst, fst_path, snd_path}
use mathlib.Core.Bool.{Bool}
use mathlib.Core.List.{List}
use mathlib.Core.Logic.{◌↔◌, ◌⊎◌, inl, inr, ⊎_elim}
use mathlib.Core.Option.{some, map, map-eq-some_iff}
use Prim.Native.Nat.{ℕ}
use Rattle.graphs.specs.Graph.{Graph, Reached, walk}
use Rattle.graphs.specs.Map.{Exact}
use Rattle.graphs.specs.Difference.{Link}
use Rattle.graphs.specs.Relations.{
  Into,
  LinkOver,
  SomethingOver,
  Grouped,
  itself,
  touching,
  chain,
  TwoGroups,
  LeastOfGroup,
  Kept,
  is_root,
  many_groups,
  nothing_over,
  wants_label,
  keeps_link,
  KeptLink,
}
use Rattle.graphs.specs.Reasons.{IsReason}
use Rattle.graphs.proofs.Walk.{reached-root, reached-link}
use Rattle.graphs.proofs.Below.{exact-walk}
use Rattle.graphs.proofs.Difference.Kept.{grouped-into}

-- a link with the node that it leaves renamed
abbrev pub renamed : {A C : Type 0} → (A → C) → Link A → Link C
renamed to l = (to l.0, l.1)

-- the order of links by the new names
abbrev pub by_names : {A C : Type 0} → (A → C) → (Link C → Link C → Bool) → Link A → Link A → Bool
by_names to earlier l m = earlier (renamed to l) (renamed to m)

module _ {L A B C : Type 0} {to : A → C} {s : Graph L A} {r : Graph L C} (same : Exact to s r) (g : Graph L B) where
  abbrev on : Link A → Link C
  on l = renamed to l

  pub walk-to : (p : List ℕ) (v : A) → walk s p ≡ some v → walk r p ≡ some (to v)
  walk-to p v e = exact-walk same p ∙ ap (map to) e

  pub walk_from : (p : List ℕ) (w : C) → walk r p ≡ some w → (v : A) × (walk s p ≡ some v) × (to v ≡ w)
  walk_from p w e = (map-eq-some_iff to (walk s p)).0 (sym (exact-walk same p) ∙ e)

  link-to : (u v : A) (f : ℕ) → Reached s u → s.link u f ≡ some v → r.link (to u) f ≡ some (to v)
  link-to u v f q e = same.links u f q ∙ ap (map to) e

  link-from : (u : A) (w : C) (f : ℕ) → Reached s u → r.link (to u) f ≡ some w → (v : A) × (s.link u f ≡ some v) × (to v ≡ w)
  link-from u w f q e = (map-eq-some_iff to (s.link u f)).0 (sym (same.links u f q) ∙ e)

  into-to : (v : A) (l : Link A) → Into s v l → Into r (to v) (on l)
  into-to v l (q, e) = ((q.0, walk-to q.0 l.0 q.1), link-to l.0 v l.1 q e)

  -- a link into a renamed node is a renamed link
  into-from : (v : A) (m : Link C) → Reached s v → Into r (to v) m → (l : Link A) × Into s v l × (on l ≡ m)
  into-from v m q ((p, d), e) =
      let (u, su, a) = walk_from p m.0 d in
      let (w, l, b) = link-from u (to v) m.1 (p, su) (ap (λ (x : C). r.link x m.1) a ∙ e) in
      let c : w ≡ v = same.injective w v (reached-link s m.1 (p, su) l) q b in
      ((u, m.1), ((p, su), l ∙ ap some c), λ i. (a i, m.1))

  on-injective : (l m : Link A) → Reached s l.0 → Reached s m.0 → on l ≡ on m → l ≡ m
  on-injective l m p q e =
      let a : l.0 ≡ m.0 = same.injective l.0 m.0 p q (fst_path e) in
      let b : l.1 ≡ m.1 = snd_path e in
      λ i. (a i, b i)

  over-to : (z : B) (l : Link A) → LinkOver s g z l → LinkOver r g z (on l)
  over-to z l (y, (p, a, b), e) = (y, (p, a, walk-to p l.0 b), e)

  over-from : (z : B) (l : Link A) → Reached s l.0 → LinkOver r g z (on l) → LinkOver s g z l
  over-from z l q (y, (p, a, b), e) =
      let (u, su, c) = walk_from p (to l.0) b in
      (y, (p, a, su ∙ ap some (same.injective u l.0 (p, su) q c)), e)

  something-over : (l : Link A) → Reached s l.0 → SomethingOver r g (on l) ↔ SomethingOver s g l
  something-over l q = (λ (z, o). (z, over-from z l q o), λ (z, o). (z, over-to z l o))

  grouped-to : {v : A} {l m : Link A} → Grouped s g v l m → Grouped r g (to v) (on l) (on m)
  grouped-to {v} (itself {l} i) = itself (into-to v l i)
  grouped-to {v} (touching {l} {m} i j (z, a, b)) = touching (into-to v l i) (into-to v m j) (z, over-to z l a, over-to z m b)
  grouped-to (chain c d) = chain (grouped-to c) (grouped-to d)

  grouped-from : (v : A) → Reached s v → {a b : Link C} → Grouped r g (to v) a b → (l : Link A) → Into s v l → on l ≡ a →
      (m : Link A) × (on m ≡ b) × Grouped s g v l m
  grouped-from v q (itself _) l i e = (l, e, itself i)
  grouped-from v q (touching {m = b} _ j (z, o, o')) l i e =
      let (m, k, d) = into-from v b q j in
      (m, d, touching i k (z, over-from z l i.0 (subst (LinkOver r g z) (sym e) o), over-from z m k.0 (subst (LinkOver r g z) (sym d) o')))
  grouped-from v q (chain c d) l i e =
      let (m, a, x) = grouped-from v q c l i e in
      let (n, b, y) = grouped-from v q d m (grouped-into x).1 a in
      (n, b, chain x y)

  two-groups : (v : A) → Reached s v → TwoGroups r g (to v) ↔ TwoGroups s g v
  two-groups v q = (
    λ (a, b, i, j, apart).
        let (l, x, d) = into-from v a q i in
        let (m, y, e) = into-from v b q j in
        (l, m, x, y, λ c. apart (subst (λ h. Grouped r g (to v) h b) d (subst (Grouped r g (to v) (on l)) e (grouped-to c)))),
    λ (l, m, i, j, apart). (
      on l,
      on m,
      into-to v l i,
      into-to v m j,
      λ c.
          let (h, e, x) = grouped-from v q c l i refl in
          apart (subst (Grouped s g v l) (on-injective h m (grouped-into x).1.0 j.0 e) x),
    ),
  )

  module _ (earlier : Link C → Link C → Bool) where
    least-from : (v : A) (l : Link A) → Reached s v → Reached s l.0 → LeastOfGroup r g earlier (to v) (on l) →
        LeastOfGroup s g (by_names to earlier) v l
    least-from v l q u (i, least) =
        let (h, x, e) = into-from v (on l) q i in
        (subst (Into s v) (on-injective h l x.0 u e) x, λ m c. least (on m) (grouped-to c))

    module _ {Wants : A → Type 0} {Wants' : C → Type 0} (wants : (v : A) → Reached s v → Wants' (to v) → Wants v) where
      kept_from : (v : A) → Reached s v → {w : C} → to v ≡ w → Kept r g earlier Wants' w → Kept s g (by_names to earlier) Wants v
      kept_from v q e (is_root d) = is_root (same.injective v s.root q (reached-root s) (e ∙ d ∙ sym same.root))
      kept_from v q e (many_groups t) = many_groups ((two-groups v q).0 (subst (TwoGroups r g) (sym e) t))
      kept_from v q e (nothing_over {l = m} i none) =
          let (l, x, d) = into-from v m q (subst (λ w. Into r w m) (sym e) i) in
          nothing_over x (λ o. none (subst (SomethingOver r g) d ((something-over l x.0).1 o)))
      kept_from v q e (wants_label d) = wants_label (wants v q (subst Wants' (sym e) d))
      kept_from v q e (keeps_link {w = w} {f} least k) =
          let (x, l, d) = link-from v w f q (ap (λ u. r.link u f) e ∙ least.0.1) in
          let h = reached-link s f q l in
          keeps_link
          (least-from x (v, f) h q
          (subst (λ u. LeastOfGroup r g earlier u (to v, f)) (sym d) (subst (λ u. LeastOfGroup r g earlier w (u, f)) (sym e) least)))
          (kept_from x h d k)

      -- a reason that tells what it should of a renamed link tells it of the link
      pub reason-from : (l : Link A) (v : A) → Into s v l → (reason : ℕ) → IsReason r g earlier Wants' (on l) (to v) reason →
          IsReason s g (by_names to earlier) Wants l v reason
      reason-from l v i reason is =
          record {
            first = (
              λ e o. is.first.0 e ((something-over l i.0).1 o),
              λ none. is.first.1 (λ o. none ((something-over l i.0).0 o)),
            );
            second = (
              λ e. let (o, t) = is.second.0 e in ((something-over l i.0).0 o, (two-groups v q).0 t),
              λ (o, t). is.second.1 ((something-over l i.0).1 o, (two-groups v q).1 t),
            );
            third = (
              λ e. let (o, one) = is.third.0 e in ((something-over l i.0).0 o, λ t. one ((two-groups v q).1 t)),
              λ (o, one). is.third.1 ((something-over l i.0).1 o, λ t. one ((two-groups v q).0 t)),
            );
            why-third = λ e. ⊎_elim (λ w. inl (wants v q w)) below (is.why-third e);
          }
        where
          q : Reached s v
          q = reached-link s l.1 i.0 i.1

          below : (f : ℕ) × (w : C) × KeptLink r g earlier Wants' (to v) f w →
              Wants v ⊎ ((f : ℕ) × (w : A) × KeptLink s g (by_names to earlier) Wants v f w)
          below (f, w, (least, k)) =
              let (x, e, d) = link-from v w f q least.0.1 in
              let h = reached-link s f q e in
              inr (
                f,
                x,
                (
                  least-from x (v, f) h q (subst (λ u. LeastOfGroup r g earlier u (to v, f)) (sym d) least),
                  kept_from x h d k,
                ),
              )
