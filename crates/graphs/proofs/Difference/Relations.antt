-- The difference that is computed is the one that the relations state, for s below g by a node map: what lies over what, which links are
-- in one group, and which links are kept.
use mathlib.Core.Path.{◌≡◌, refl, sym, ◌∙◌, ap, subst}
use mathlib.Core.Bool.{Bool, true, false}
use mathlib.Core.List.{List, Memᴰ}
use mathlib.Core.Logic.{◌↔◌}
use mathlib.Core.Option.{some}
use Prim.Native.Nat.{ℕ}
use Rattle.graphs.specs.Label.{Labels}
use Rattle.graphs.specs.Graph.{Graph, AnySize, Reached}
use Rattle.graphs.specs.Map.{NodeMap}
use Rattle.graphs.specs.Difference.{Link, StrictOrder, group_of, lead, difference}
use Rattle.graphs.specs.Relations.{
  Into,
  LiesOver,
  NothingOver,
  Grouped,
  itself,
  touching,
  chain,
  TwoGroups,
  LeastOfGroup,
  Kept,
  is_root,
  many_groups,
  nothing_over,
  wants_label,
  keeps_link,
  KeptLink,
}
use Rattle.graphs.proofs.Walk.{reached-link}
use Rattle.graphs.proofs.Search.{true-false}
use Rattle.graphs.proofs.Unification.Beside.{Operands}
use Rattle.graphs.proofs.Difference.Induct.{children-first}
use Rattle.graphs.proofs.Difference.Laws.{Leader, Reason, at_root, two_groups, bare_group, own_label, kept_below}
use Rattle.graphs.proofs.Difference.Kept.{grouped-flip, lies_over, link-over}
use Rattle.graphs.proofs.Difference.Lead.{
  group-self,
  grouped-closed,
  group-grouped,
  lead-same,
  lead-grouped,
  lead-leads,
  lead-least,
  lead-unique,
}
use Rattle.graphs.proofs.Difference.Keeps.{keep, root_kept, keep-reason, keep-idle, kept-links}

-- "A link with nothing of g over it is a group alone."
pub bare-alone : {L A B : Type 0} {s : Graph L A} {g : Graph L B} {v : A} {l m : Link A} → Grouped s g v l m → NothingOver s g l → l ≡ m
bare-alone (itself _) bare = refl
bare-alone (touching _ _ (z, a, _)) bare = absurd (bare (z, a))
bare-alone {s = s} {g} (chain c d) bare =
    let e = bare-alone c bare in
    e ∙ bare-alone d (subst (NothingOver s g) e bare)

-- What is kept depends on the labels that reached nodes want.
pub kept-wants : {L A B : Type 0} {s : Graph L A} {g : Graph L B} {earlier : Link A → Link A → Bool} {Wants Wants' : A → Type 0} →
    ((v : A) → Reached s v → Wants v → Wants' v) → (v : A) → Reached s v → Kept s g earlier Wants v → Kept s g earlier Wants' v
kept-wants wants v r (is_root e) = is_root e
kept-wants wants v r (many_groups t) = many_groups t
kept-wants wants v r (nothing_over i bare) = nothing_over i bare
kept-wants wants v r (wants_label w) = wants_label (wants v r w)
kept-wants {s = s} wants v r (keeps_link {w = w} {f} least k) =
    keeps_link least (kept-wants wants w (reached-link s f r least.0.1) k)

pub over-exact : {𝓛 : Labels} {A B : Type 0} {s : Graph 𝓛.L A} {g : Graph 𝓛.L B} {over : B → A} → NodeMap 𝓛 s g over →
    (y : B) (v : A) → LiesOver s g y v ↔ (Reached g y × (over y ≡ v))
over-exact lies = lies_over lies

module _ {𝓛 : Labels} {A B : Type 0} {sameA : A → A → Bool} {sameB : B → B → Bool} {s : Graph 𝓛.L A} {ss : List A}
    {g : Graph 𝓛.L B} {gs : List B} {over : B → A} (operands : Operands sameA sameB s ss g gs) (lies : NodeMap 𝓛 s g over) where
  pub group-exact : (v : A) (l m : Link A) → Into s v l → Memᴰ m (group_of sameA sameB s ss g gs over v l) ↔ Grouped s g v l m
  group-exact v l m i =
      (group-grouped operands lies v l m i, λ c. (grouped-closed operands lies v l c).0 (group-self operands lies v l i))

  module _ (earlier : Link A → Link A → Bool) (order : StrictOrder earlier) where
    abbrev first : A → Link A → Link A
    first v l = lead sameA sameB s ss g gs over earlier v l

    pub least-leader : (v : A) (l : Link A) → LeastOfGroup s g earlier v l ↔ Leader s first v l
    least-leader v l = (
      λ (i, least). (i, sym (lead-unique operands lies earlier order v l l i (itself i) least)),
      λ (i, e). (i, λ m c. ap (earlier m) (sym e) ∙ lead-least operands lies earlier order v l m i c),
    )

    -- links with one lead are in one group
    one-lead : (v : A) (l m : Link A) → Into s v l → Into s v m → first v l ≡ first v m → Grouped s g v l m
    one-lead v l m i j e =
        chain (subst (Grouped s g v l) e (lead-grouped operands lies earlier order v l i))
        (grouped-flip (lead-grouped operands lies earlier order v m j))

    -- "two or more groups" have different leaders
    pub two-leaders : (v : A) → TwoGroups s g v ↔ ((l : Link A) × (m : Link A) × Leader s first v l × Leader s first v m × (l ≡ m → ⊥))
    two-leaders v = (
      λ (l, m, i, j, apart). (
        first v l,
        first v m,
        lead-leads operands lies earlier order v l i,
        lead-leads operands lies earlier order v m j,
        λ e. apart (one-lead v l m i j e),
      ),
      λ (l, m, a, b, differ). (
        l,
        m,
        a.0,
        b.0,
        λ c. differ (sym a.1 ∙ lead-same operands lies earlier order v l m a.0 c ∙ b.1),
      ),
    )

    module _ (sound : AnySize 𝓛 s) (wanted : A → 𝓛.L) where
      -- the wanted label of v is not top
      abbrev Wants : A → Type 0
      Wants v = 𝓛.le 𝓛.top (wanted v) ≡ false

      abbrev is_kept : A → Bool
      is_kept v = keep operands over sound earlier wanted v

      keep-kept : (v : A) → Reached s v → is_kept v ≡ true → Kept s g earlier Wants v
      keep-kept = children-first sound (λ v. is_kept v ≡ true → Kept s g earlier Wants v) next
        where
          next : (v : A) → Reached s v → ((f : ℕ) (w : A) → s.link v f ≡ some w → is_kept w ≡ true → Kept s g earlier Wants w) →
              is_kept v ≡ true → Kept s g earlier Wants v
          next v r ih k = go (keep-reason operands over sound earlier wanted v r k)
            where
              go : Reason 𝓛 s g over first is_kept wanted v → Kept s g earlier Wants v
              go (at_root e) = is_root e
              go (two_groups l m a b differ) = many_groups ((two-leaders v).1 (l, m, a, b, differ))
              go (bare_group l a none) = nothing_over a.0 (λ (z, o). none z ((link-over lies z l).0 o))
              go (own_label e) = wants_label e
              go (kept_below f w a e) = keeps_link ((least-leader w (v, f)).1 a) (ih f w a.0.1 e)

      kept-keep : (v : A) → Reached s v → Kept s g earlier Wants v → is_kept v ≡ true
      kept-keep v r (is_root e) = ap is_kept e ∙ root_kept operands over sound earlier wanted
      kept-keep v r (many_groups t) = go (is_kept v) refl
        where
          go : (b : Bool) → is_kept v ≡ b → is_kept v ≡ true
          go true e = e
          go false e =
              let (l, m, a, b, differ) = (two-leaders v).0 t in
              absurd (differ ((keep-idle operands over sound earlier wanted v r e).one_group l m a b))
      kept-keep v r (nothing_over {l = l} i bare) = go (is_kept v) refl
        where
          alone : l ≡ first v l
          alone = bare-alone (lead-grouped operands lies earlier order v l i) bare

          go : (b : Bool) → is_kept v ≡ b → is_kept v ≡ true
          go true e = e
          go false e =
              let (z, enters) = (keep-idle operands over sound earlier wanted v r e).covered l (i, sym alone) in
              absurd (bare (z, (link-over lies z l).1 enters))
      kept-keep v r (wants_label w) = go (is_kept v) refl
        where
          go : (b : Bool) → is_kept v ≡ b → is_kept v ≡ true
          go true e = e
          go false e = true-false (keep-idle operands over sound earlier wanted v r e).no_label w
      kept-keep v r (keeps_link {w = w} {f} least k) =
          go (is_kept v) refl (kept-keep w (reached-link s f r least.0.1) k)
        where
          go : (b : Bool) → is_kept v ≡ b → is_kept w ≡ true → is_kept v ≡ true
          go true e later = e
          go false e later =
              true-false later ((keep-idle operands over sound earlier wanted v r e).none_below f w ((least-leader w (v, f)).0 least))

      pub keep-exact : (u : A) (f : ℕ) (v : A) → Reached s u →
          ((difference 𝓛 sameA sameB earlier s ss g gs over wanted).link u f ≡ some v) ↔ KeptLink s g earlier Wants u f v
      unfolding difference
      keep-exact u f v r = (
        λ e.
            let (a, k) = (kept-links operands over sound earlier wanted u f v r).0 e in
            ((least-leader v (u, f)).1 a, keep-kept v (reached-link s f r a.0.1) k),
        λ (least, k).
            (kept-links operands over sound earlier wanted u f v r).1
            ((least-leader v (u, f)).0 least, kept-keep v (reached-link s f r least.0.1) k),
      )
