-- This file is about the nodes that the computed difference keeps. A node is kept exactly where there is a reason. The leaders into a
-- node tell whether it is kept for itself, and looking as many links deep as there are nodes finds every kept node below.
use mathlib.Core.Path.{◌≡◌, refl, ◌∙◌, ap, subst}
use mathlib.Core.Bool.{Bool, true, false, cond, not, ◌&&◌, ◌||◌}
use mathlib.Core.List.{List, [], ◌∷◌, Memᴰ}
use mathlib.Core.Logic.{◌↔◌, ◌⊎◌, inl, inr, ⊎_elim}
use mathlib.Core.Option.{Option, none, some, bind}
use Prim.Native.Nat.{ℕ, zero, suc, ◌≤◌, ◌<◌}
use native.Mathlib.Omega.{arith}
use lib.ListN.{length}
use borrow.Author.Tests.{not-true, not-false}
use Rattle.graphs.specs.Label.{Labels}
use Rattle.graphs.specs.Graph.{Graph, AnySize, Reached, follow}
use Rattle.graphs.specs.Rows.{features}
use Rattle.graphs.specs.Unify.{any_of, holds}
use Rattle.graphs.specs.Difference.{Link, differ, same_link, incoming, bare, lead, leaders, kept_itself, keeps, kept_link}
use Rattle.graphs.proofs.Walk.{none-some, some-injective, reached-link}
use Rattle.graphs.proofs.Difference.Induct.{short-walks}
use Rattle.graphs.proofs.Lists.{mem-features}
use Rattle.graphs.proofs.Search.{
  true-false,
  both_true,
  true-both,
  either_true,
  true-left,
  true-right,
  neither,
  holds-some,
  some_holds,
  cond-some,
  any_of-true,
  any_of-finds,
  select-listed,
}
use Rattle.graphs.proofs.Unification.Beside.{Operands}
use Rattle.graphs.proofs.Difference.Laws.{Leader, Reason, at_root, two_groups, bare_group, own_label, kept_below, Idle}
use Rattle.graphs.proofs.Difference.Groups.{same-link, incoming-into, bare-enters, not-bare-enters}

module _ {𝓛 : Labels} {A B : Type 0} {sameA : A → A → Bool} {sameB : B → B → Bool} {s : Graph 𝓛.L A} {ss : List A}
    {g : Graph 𝓛.L B} {gs : List B} (operands : Operands sameA sameB s ss g gs) (over : B → A)
    (sound : AnySize 𝓛 s) (earlier : Link A → Link A → Bool) (wanted : A → 𝓛.L) where
  abbrev first : A → Link A → Link A
  first v l = lead sameA sameB s ss g gs over earlier v l

  abbrev is_first : A → Link A → Bool
  is_first v l = same_link sameA sameB s ss g gs over (first v l) l

  abbrev firsts : A → List (Link A)
  firsts v = leaders sameA sameB s ss g gs over earlier v

  abbrev entering : A → List (Link A)
  entering v = incoming sameA sameB s ss g gs over v

  abbrev is_bare : Link A → Bool
  is_bare l = bare sameA sameB s ss g gs over l

  abbrev is_top : A → Bool
  is_top v = 𝓛.le 𝓛.top (wanted v)

  abbrev itself : A → Bool
  itself v = kept_itself sameA sameB s ss g gs over earlier is_top v

  -- kept, looked for k links deep
  abbrev kept_within : ℕ → A → Bool
  kept_within k v = keeps sameA sameB s ss g gs over earlier is_top k v

  -- the link by f leads to a kept node, looked for k links deep, and is a leader
  abbrev onward : ℕ → A → ℕ → Bool
  onward k v f = holds (λ w. is_first w (v, f) && kept_within k w) (s.link v f)

  leads : (v : A) (l : Link A) → (is_first v l ≡ true) ↔ (first v l ≡ l)
  leads v l = same-link operands over (first v l) l

  pub leaders-listed : (v : A) (l : Link A) → Memᴰ l (firsts v) ↔ Leader s first v l
  unfolding leaders
  leaders-listed v l = (
    λ m.
        let (i, e) = (select-listed (is_first v) (entering v) l).0 m in
        ((incoming-into operands over v l).0 i, (leads v l).0 e),
    λ m.
        (select-listed (is_first v) (entering v) l).1
        ((incoming-into operands over v l).1 m.0, (leads v l).1 m.1),
  )

  abbrev apart : List (Link A) → Bool
  apart ls = differ sameA sameB s ss g gs over ls

  pub differ-two : (ls : List (Link A)) → apart ls ≡ true →
      (l : Link A) × (m : Link A) × Memᴰ l ls × Memᴰ m ls × (l ≡ m → ⊥)
  unfolding differ
  differ-two ls e =
      let (l, i, a) = any_of-true (λ l. any_of ls λ m. not (same_link sameA sameB s ss g gs over l m)) ls e in
      let (m, j, b) = any_of-true (λ m. not (same_link sameA sameB s ss g gs over l m)) ls a in
      (l, m, i, j, λ q. true-false ((same-link operands over l m).1 q) (not-true (same_link sameA sameB s ss g gs over l m) b))

  pub differ-one : (ls : List (Link A)) → apart ls ≡ false → (l m : Link A) → Memᴰ l ls → Memᴰ m ls → l ≡ m
  unfolding differ
  differ-one ls e l m i j = go (same_link sameA sameB s ss g gs over l m) refl
    where
      go : (t : Bool) → same_link sameA sameB s ss g gs over l m ≡ t → l ≡ m
      go true h = (same-link operands over l m).0 h
      go false h =
          true-false
          (any_of-finds (λ l. any_of ls λ m. not (same_link sameA sameB s ss g gs over l m)) ls l i
          (any_of-finds (λ m. not (same_link sameA sameB s ss g gs over l m)) ls m j (ap not h))) e

  -- Kept nodes below.

  itself-within : (k : ℕ) (v : A) → itself v ≡ true → kept_within k v ≡ true
  unfolding keeps
  itself-within zero v e = e
  itself-within (suc k) v e =
      true-left (itself v) (any_of features (onward k v)) e

  below-within : (k : ℕ) (v w : A) (f : ℕ) → Leader s first w (v, f) → kept_within k w ≡ true → kept_within (suc k) v ≡ true
  unfolding keeps
  below-within k v w f ((r, l), q) e =
      true-right (itself v) (any_of features (onward k v))
      (any_of-finds (onward k v) features f
      (mem-features f (operands.lists-left.features v w f r l))
      (some_holds (λ w. is_first w (v, f) && kept_within k w) (s.link v f) w l
      (true-both (is_first w (v, f)) (kept_within k w) ((leads w (v, f)).1 q) e)))

  within-cases : (k : ℕ) (v : A) → Reached s v → kept_within (suc k) v ≡ true →
      (itself v ≡ true) ⊎ ((f : ℕ) × (w : A) × Leader s first w (v, f) × (kept_within k w ≡ true))
  unfolding keeps
  within-cases k v r e =
      ⊎_elim (λ (a : itself v ≡ true). inl a) below
      (either_true (itself v) (any_of features (onward k v)) e)
    where
      below : (any_of features (onward k v)) ≡ true →
          (itself v ≡ true) ⊎ ((f : ℕ) × (w : A) × Leader s first w (v, f) × (kept_within k w ≡ true))
      below e =
          let (f, _, a) = any_of-true (onward k v) features e in
          let (w, b, c) = holds-some (λ w. is_first w (v, f) && kept_within k w) (s.link v f) a in
          let (d, h) = both_true (is_first w (v, f)) (kept_within k w) c in
          inr (f, w, ((r, b), (leads w (v, f)).0 d), h)

  -- no walk from v has more than k links
  abbrev Deep : A → ℕ → Type 0
  Deep v k = (p : List ℕ) (w : A) → follow s.link (some v) p ≡ some w → length p ≤ k

  -- looking as deep as walks go is enough
  within-enough : (j k : ℕ) (v : A) → Reached s v → Deep v k → kept_within j v ≡ true → kept_within k v ≡ true
  unfolding keeps follow
  within-enough zero k v r deep e = itself-within k v e
  within-enough (suc j) k v r deep e = go k deep (within-cases j v r e) (within-enough j)
    where
      go : (k : ℕ) → Deep v k → (itself v ≡ true) ⊎ ((f : ℕ) × (w : A) × Leader s first w (v, f) × (kept_within j w ≡ true)) →
          ((k : ℕ) (w : A) → Reached s w → Deep w k → kept_within j w ≡ true → kept_within k w ≡ true) → kept_within k v ≡ true
      go k deep (inl a) later = itself-within k v a
      go zero deep (inr (f, w, a, b)) later = let h = deep (f ∷ []) w a.0.1 in absurd (omega arith)
      go (suc k) deep (inr (f, w, a, b)) later =
          below-within k v w f a (later k w (reached-link s f r a.0.1) after b)
        where
          after : Deep w k
          after p x e = let h = deep (f ∷ p) x (ap (λ o. follow s.link o p) a.0.1 ∙ e) in omega arith

  -- The nodes kept.

  abbrev pub keep : A → Bool
  keep v = kept_within (length ss) v

  reached-deep : (v : A) → Reached s v → (p : List ℕ) (w : A) → follow s.link (some v) p ≡ some w → length p < length ss
  reached-deep v r p w e = short-walks s ss (λ x. (operands.lists-left.listed x).0) sound.acyclic v p w r e

  -- a leader into a kept node leaves a kept node
  keep-below : (v w : A) (f : ℕ) → Leader s first w (v, f) → keep w ≡ true → keep v ≡ true
  unfolding follow
  keep-below v w f a e = go (length ss) (reached-deep v a.0.0) e
    where
      go : (n : ℕ) → ((p : List ℕ) (x : A) → follow s.link (some v) p ≡ some x → length p < n) → kept_within n w ≡ true →
          kept_within n v ≡ true
      go zero deep e = let h = deep [] v refl in absurd (omega arith)
      go (suc k) deep e = below-within k v w f a (within-enough (suc k) k w (reached-link s f a.0.0 a.0.1) after e)
        where
          after : Deep w k
          after p x e = let h = deep (f ∷ p) x (ap (λ o. follow s.link o p) a.0.1 ∙ e) in omega arith

  keep-cases : (v : A) → Reached s v → keep v ≡ true →
      (itself v ≡ true) ⊎ ((f : ℕ) × (w : A) × Leader s first w (v, f) × (keep w ≡ true))
  unfolding keeps follow
  keep-cases v r e = go (length ss) (λ w q. reached-deep w q) e
    where
      go : (n : ℕ) → ((w : A) → Reached s w → (p : List ℕ) (x : A) → follow s.link (some w) p ≡ some x → length p < n) →
          kept_within n v ≡ true → (itself v ≡ true) ⊎ ((f : ℕ) × (w : A) × Leader s first w (v, f) × (kept_within n w ≡ true))
      go zero deep e = inl e
      go (suc k) deep e = ⊎_elim (λ (a : itself v ≡ true). inl a) below (within-cases k v r e)
        where
          below : (f : ℕ) × (w : A) × Leader s first w (v, f) × (kept_within k w ≡ true) →
              (itself v ≡ true) ⊎ ((f : ℕ) × (w : A) × Leader s first w (v, f) × (kept_within (suc k) w ≡ true))
          below (f, w, a, b) =
              let q = reached-link s f r a.0.1 in
              inr (f, w, a, within-enough k (suc k) w q (λ p x d. let h = deep w q p x d in omega arith) b)

  pub root_kept : keep s.root ≡ true
  unfolding kept_itself
  root_kept =
      itself-within (length ss) s.root
      (true-left _ _ (true-left _ _ (true-left _ _ ((operands.tells-left s.root s.root).1 refl))))

  itself-reason : (v : A) → itself v ≡ true → Reason 𝓛 s g over first keep wanted v
  unfolding kept_itself
  itself-reason v e =
      ⊎_elim (λ (a : (sameA v s.root || apart (firsts v) || any_of (firsts v) is_bare) ≡ true).
      ⊎_elim (λ (b : (sameA v s.root || apart (firsts v)) ≡ true).
      ⊎_elim (λ (c : sameA v s.root ≡ true). at_root ((operands.tells-left v s.root).0 c)) two
      (either_true (sameA v s.root) (apart (firsts v)) b))
      alone (either_true (sameA v s.root || apart (firsts v)) (any_of (firsts v) is_bare) a))
      (λ (a : not (is_top v) ≡ true). own_label (not-true (is_top v) a))
      (either_true (sameA v s.root || apart (firsts v) || any_of (firsts v) is_bare) (not (is_top v)) e)
    where
      two : apart (firsts v) ≡ true → Reason 𝓛 s g over first keep wanted v
      two c =
          let (l, m, i, j, other) = differ-two (firsts v) c in
          two_groups l m ((leaders-listed v l).0 i) ((leaders-listed v m).0 j) other

      alone : any_of (firsts v) is_bare ≡ true → Reason 𝓛 s g over first keep wanted v
      alone c =
          let (l, i, a) = any_of-true is_bare (firsts v) c in
          bare_group l ((leaders-listed v l).0 i) (bare-enters operands over l a)

  pub keep-reason : (v : A) → Reached s v → keep v ≡ true → Reason 𝓛 s g over first keep wanted v
  keep-reason v r e =
      ⊎_elim (itself-reason v)
      (λ (a : (f : ℕ) × (w : A) × Leader s first w (v, f) × (keep w ≡ true)). kept_below a.0 a.1 a.2 a.3)
      (keep-cases v r e)

  itself-idle : (v : A) → keep v ≡ false → itself v ≡ false
  itself-idle v e = go (itself v) refl
    where
      go : (b : Bool) → itself v ≡ b → itself v ≡ false
      go true a = true-false (itself-within (length ss) v a) e
      go false a = a

  pub keep-idle : (v : A) → Reached s v → keep v ≡ false → Idle 𝓛 s g over first keep wanted v
  unfolding kept_itself
  keep-idle v r e =
      let (a, top) =
      neither (sameA v s.root || apart (firsts v) || any_of (firsts v) is_bare) (not (is_top v)) (itself-idle v e) in
      let (b, covered) = neither (sameA v s.root || apart (firsts v)) (any_of (firsts v) is_bare) a in
      let (_, one) = neither (sameA v s.root) (apart (firsts v)) b in
      record {
        one_group = λ l m i j. differ-one (firsts v) one l m ((leaders-listed v l).1 i) ((leaders-listed v m).1 j);
        covered = λ l i. not-bare-enters operands over l (nowhere covered l i);
        no_label = not-false (is_top v) top;
        none_below = below;
      }
    where
      nowhere : any_of (firsts v) is_bare ≡ false → (l : Link A) → Leader s first v l → is_bare l ≡ false
      nowhere c l i = go (is_bare l) refl
        where
          go : (b : Bool) → is_bare l ≡ b → is_bare l ≡ false
          go true d = true-false (any_of-finds is_bare (firsts v) l ((leaders-listed v l).1 i) d) c
          go false d = d

      below : (f : ℕ) (w : A) → Leader s first w (v, f) → keep w ≡ false
      below f w a = go (keep w) refl
        where
          go : (b : Bool) → keep w ≡ b → keep w ≡ false
          go true d = true-false (keep-below v w f a d) e
          go false d = d

  -- The links kept.

  abbrev pub kept : A → ℕ → Option A
  kept u f = kept_link sameA sameB s ss g gs over earlier is_top u f

  pub kept-links : (u : A) (f : ℕ) (v : A) → Reached s u → (kept u f ≡ some v) ↔ (Leader s first v (u, f) × (keep v ≡ true))
  unfolding bind kept_link
  kept-links u f v r = (λ e. there (s.link u f) refl e, back)
    where
      test : A → Bool
      test w = is_first w (u, f) && keep w

      there : (o : Option A) → s.link u f ≡ o → bind o (λ w. cond (test w) (some w) none) ≡ some v →
          Leader s first v (u, f) × (keep v ≡ true)
      there none l e = none-some e
      there (some w) l e =
          let (a, b) = cond-some (test w) (some w) v e in
          let q = some-injective b in
          let (c, d) = both_true (is_first w (u, f)) (keep w) a in
          subst (λ x. Leader s first x (u, f) × (keep x ≡ true)) q (((r, l), (leads w (u, f)).0 c), d)

      back : Leader s first v (u, f) × (keep v ≡ true) → bind (s.link u f) (λ w. cond (test w) (some w) none) ≡ some v
      back (a, k) =
          ap (λ o. bind o (λ w. cond (test w) (some w) none)) a.0.1 ∙
          ap (λ b. cond b (some v) none) (true-both (is_first v (u, f)) (keep v) ((leads v (u, f)).1 a.1) k)
