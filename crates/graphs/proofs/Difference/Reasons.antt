-- This file shows what the reason for a kept link tells: about the paths of the two graphs, about the groups at the node that the link
-- enters, and about what is wanted there or below.
use mathlib.Core.Path.{◌≡◌, refl, sym, ◌∙◌, ap, subst}
use mathlib.Core.Bool.{Bool, true, false, cond}
use mathlib.Core.List.{List, Memᴰ}
use mathlib.Core.Logic.{◌↔◌, ◌⊎◌, inl, inr}
use Prim.Native.Nat.{ℕ}
use native.Mathlib.Omega.{arith}
use Rattle.graphs.specs.Label.{Labels}
use Rattle.graphs.specs.Graph.{Graph, AnySize}
use Rattle.graphs.specs.Map.{NodeMap}
use Rattle.graphs.specs.Difference.{Link, StrictOrder, bare, differ, lead, leaders}
use Rattle.graphs.specs.Relations.{
  Into,
  SomethingOver,
  NothingOver,
  TwoGroups,
  Kept,
  is_root,
  many_groups,
  nothing_over,
  wants_label,
  keeps_link,
  KeptLink,
}
use Rattle.graphs.specs.Reasons.{reason_at, IsReason}
use Rattle.graphs.proofs.Unification.Beside.{Operands}
use Rattle.graphs.proofs.Difference.Laws.{Leader}
use Rattle.graphs.proofs.Difference.Kept.{no-link-to-root, link-over}
use Rattle.graphs.proofs.Difference.Groups.{bare-enters, not-bare-enters}
use Rattle.graphs.proofs.Difference.Keeps.{leaders-listed, differ-two, differ-one}
use Rattle.graphs.proofs.Difference.Relations.{bare-alone, two-leaders}

module _ {𝓛 : Labels} {A B : Type 0} {sameA : A → A → Bool} {sameB : B → B → Bool} {s : Graph 𝓛.L A} {ss : List A}
    {g : Graph 𝓛.L B} {gs : List B} {over : B → A} (operands : Operands sameA sameB s ss g gs) (lies : NodeMap 𝓛 s g over) where
  abbrev is_bare : Link A → Bool
  is_bare l = bare sameA sameB s ss g gs over l

  pub bare-nothing : (l : Link A) → is_bare l ≡ true → NothingOver s g l
  bare-nothing l e (z, o) = bare-enters operands over l e z ((link-over lies z l).0 o)

  pub covered-something : (l : Link A) → is_bare l ≡ false → SomethingOver s g l
  covered-something l e = let (z, enters) = not-bare-enters operands over l e in (z, (link-over lies z l).1 enters)

  module _ (earlier : Link A → Link A → Bool) (order : StrictOrder earlier) (sound : AnySize 𝓛 s) (wanted : A → 𝓛.L) where
    abbrev first : A → Link A → Link A
    first v l = lead sameA sameB s ss g gs over earlier v l

    abbrev firsts : A → List (Link A)
    firsts v = leaders sameA sameB s ss g gs over earlier v

    abbrev apart : A → Bool
    apart v = differ sameA sameB s ss g gs over (firsts v)

    listed : (v : A) (l : Link A) → Memᴰ l (firsts v) ↔ Leader s first v l
    listed v l = leaders-listed operands over sound earlier wanted v l

    apart-two : (v : A) → apart v ≡ true → TwoGroups s g v
    apart-two v e =
        let (l, m, i, j, other) = differ-two operands over sound earlier wanted (firsts v) e in
        (two-leaders operands lies earlier order v).1 (l, m, (listed v l).0 i, (listed v m).0 j, other)

    together-one : (v : A) → apart v ≡ false → TwoGroups s g v → ⊥
    together-one v e t =
        let (l, m, a, b, other) = (two-leaders operands lies earlier order v).0 t in
        other (differ-one operands over sound earlier wanted (firsts v) e l m ((listed v l).1 a) ((listed v m).1 b))

    -- The reason for a link that is kept, whatever labels are wanted.
    module _ (Wants : A → Type 0) where
      -- a node that is kept for neither of the first two reasons is kept for its label or for a link below
      kept-third : (l : Link A) (v : A) → Into s v l → SomethingOver s g l → (TwoGroups s g v → ⊥) → Kept s g earlier Wants v →
          Wants v ⊎ ((f : ℕ) × (w : A) × KeptLink s g earlier Wants v f w)
      kept-third l v i something one (is_root e) = absurd (no-link-to-root sound l (subst (λ u. Into s u l) e i))
      kept-third l v i something one (many_groups two) = absurd (one two)
      kept-third l v i something one (nothing_over {l = m} j nothing) =
          absurd (one (m, l, j, i, λ c. nothing (subst (SomethingOver s g) (sym (bare-alone c nothing)) something)))
      kept-third l v i something one (wants_label w) = inl w
      kept-third l v i something one (keeps_link {w = w} {f} least k) = inr (f, w, (least, k))

      pub reason-tells : (l : Link A) (v : A) → KeptLink s g earlier Wants l.0 l.1 v →
          IsReason s g earlier Wants l v (reason_at sameA sameB s ss g gs over earlier l v)
      unfolding reason_at
      reason-tells l v (least, k) = go (is_bare l) refl (apart v) refl
        where
          go : (b : Bool) → is_bare l ≡ b → (a : Bool) → apart v ≡ a →
              IsReason s g earlier Wants l v (cond (is_bare l) 1 (cond (apart v) 2 3))
          go true p a q =
              subst (IsReason s g earlier Wants l v)
              (sym (ap (λ (x : Bool). cond x 1 (cond (apart v) 2 3)) p))
              (record {
                first = (λ _. bare-nothing l p, λ _. refl);
                second = (λ z. absurd (omega arith), λ z. absurd (bare-nothing l p z.0));
                third = (λ z. absurd (omega arith), λ z. absurd (bare-nothing l p z.0));
                why-third = λ z. absurd (omega arith);
              })
          go false p true q =
              subst (IsReason s g earlier Wants l v)
              (sym (ap (λ (x : Bool). cond x 1 (cond (apart v) 2 3)) p ∙ ap (λ (x : Bool). cond x 2 3) q))
              (record {
                first = (λ z. absurd (omega arith), λ z. absurd (z (covered-something l p)));
                second = (λ _. (covered-something l p, apart-two v q), λ _. refl);
                third = (λ z. absurd (omega arith), λ z. absurd (z.1 (apart-two v q)));
                why-third = λ z. absurd (omega arith);
              })
          go false p false q =
              subst (IsReason s g earlier Wants l v)
              (sym (ap (λ (x : Bool). cond x 1 (cond (apart v) 2 3)) p ∙ ap (λ (x : Bool). cond x 2 3) q))
              (record {
                first = (λ z. absurd (omega arith), λ z. absurd (z (covered-something l p)));
                second = (λ z. absurd (omega arith), λ z. absurd (together-one v q z.1));
                third = (λ _. (covered-something l p, together-one v q), λ _. refl);
                why-third = λ _. kept-third l v least.0 (covered-something l p) (together-one v q) k;
              })
