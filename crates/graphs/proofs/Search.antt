-- This file says what a search along a list finds: the first value (`first_of`), whether a test holds somewhere (`any_of`), and where it
-- holds (`select`). The features are such a list. Each search is described by membership, so that no proof about unification has to look
-- at the order of a list. The file begins with the laws of tests, by which a test is known to be true or false.
use mathlib.Core.Path.{◌≡◌, refl, sym, ◌∙◌, ap, subst}
use mathlib.Core.Bool.{Bool, true, false, cond, ◌&&◌, ◌||◌, true≢false}
use mathlib.Core.List.{List, [], ◌∷◌, Memᴰ}
use mathlib.Core.Logic.{◌↔◌, ◌⊎◌, inl, inr, ⊎_elim}
use mathlib.Core.Option.{Option, none, some}
use mathlib.Mathlib.Data.Option.Basic.{or_else-eq-some, or_else-eq-none}
use Prim.Native.Nat.{suc, ◌≤◌, ◌<◌}
use native.Mathlib.Omega.{arith}
use lib.ListN.{length}
use Rattle.graphs.specs.Unify.{first_of, any_of, holds}
use Rattle.graphs.specs.Difference.{select}
use Rattle.graphs.proofs.Walk.{none-some}

pub true-false : {b : Bool} {C : Type 0} → b ≡ true → b ≡ false → C
true-false p q = absurd (true≢false (sym p ∙ q))

pub not-true-false : (b : Bool) → (b ≡ true → ⊥) → b ≡ false
not-true-false true h = absurd (h refl)
not-true-false false h = refl

-- two tests that are true together are equal
pub same_test : (a b : Bool) → (a ≡ true → b ≡ true) → (b ≡ true → a ≡ true) → a ≡ b
same_test true b there back = sym (there refl)
same_test false true there back = back refl
same_test false false there back = refl

pub true-or-false : (b : Bool) → (b ≡ true) ⊎ (b ≡ false)
true-or-false true = inl refl
true-or-false false = inr refl

pub both_true : (a b : Bool) → (a && b) ≡ true → (a ≡ true) × (b ≡ true)
both_true true b e = (refl, e)
both_true false b e = true-false e refl

pub true-both : (a b : Bool) → a ≡ true → b ≡ true → (a && b) ≡ true
true-both true b d e = e
true-both false b d e = d

pub either_true : (a b : Bool) → (a || b) ≡ true → (a ≡ true) ⊎ (b ≡ true)
either_true true b e = inl refl
either_true false b e = inr e

pub true-left : (a b : Bool) → a ≡ true → (a || b) ≡ true
true-left true b e = refl
true-left false b e = true-false e refl

pub true-right : (a b : Bool) → b ≡ true → (a || b) ≡ true
true-right true b e = refl
true-right false b e = e

pub neither : (a b : Bool) → (a || b) ≡ false → (a ≡ false) × (b ≡ false)
neither true b e = true-false refl e
neither false b e = (refl, e)

pub holds-some : {X : Type 0} (test : X → Bool) (o : Option X) → holds test o ≡ true → (x : X) × (o ≡ some x) × (test x ≡ true)
holds-some test none e = true-false e refl
holds-some test (some x) e = (x, refl, e)

pub some_holds : {X : Type 0} (test : X → Bool) (o : Option X) (x : X) → o ≡ some x → test x ≡ true → holds test o ≡ true
some_holds test o x d e = ap (holds test) d ∙ e

pub cond-some : {Y : Type 0} (b : Bool) (o : Option Y) (y : Y) → cond b o none ≡ some y → (b ≡ true) × (o ≡ some y)
cond-some true o y e = (refl, e)
cond-some false o y e = none-some e

pub listed-length : {X : Type 0} {x : X} {xs : List X} → Memᴰ x xs → 0 < length xs
listed-length (mathlib.Core.List.Memᴰ.head e) = omega arith
listed-length (mathlib.Core.List.Memᴰ.tail m) = omega arith

module _ {X Y : Type 0} (find : X → Option Y) where
  pub first_of-some : (xs : List X) (y : Y) → first_of xs find ≡ some y → (x : X) × Memᴰ x xs × (find x ≡ some y)
  unfolding first_of
  first_of-some [] y e = none-some e
  first_of-some (x ∷ xs) y e =
      ⊎_elim (λ h. (x, mathlib.Core.List.Memᴰ.head refl, h)) (λ r. let (z, m, h) = first_of-some xs y r.1 in (z, mathlib.Core.List.Memᴰ.tail m, h))
      ((or_else-eq-some (find x) (first_of xs find) y).0 e)

  pub first_of-none : (xs : List X) → first_of xs find ≡ none → (x : X) → Memᴰ x xs → find x ≡ none
  unfolding first_of
  first_of-none [] e x m = absurd (mathlib.Core.List.Memᴰ.not-nil m)
  first_of-none (z ∷ xs) e x m =
      let (h, later) = (or_else-eq-none (find z) (first_of xs find)).0 e in
      ⊎_elim (λ q. ap find q ∙ h) (first_of-none xs later x) (mathlib.Core.List.Memᴰ.cases_cons m)

  -- if a search finds a value at some element of a list, it finds a value along the list
  pub first_of-finds : (xs : List X) (x : X) (y : Y) → Memᴰ x xs → find x ≡ some y → (z : Y) × (first_of xs find ≡ some z)
  first_of-finds xs x y m e = go (first_of xs find) refl
    where
      go : (o : Option Y) → first_of xs find ≡ o → (z : Y) × (first_of xs find ≡ some z)
      go none h = none-some (sym (first_of-none xs h x m) ∙ e)
      go (some z) h = (z, h)

module _ {X : Type 0} (test : X → Bool) where
  pub any_of-true : (xs : List X) → any_of xs test ≡ true → (x : X) × Memᴰ x xs × (test x ≡ true)
  unfolding any_of
  any_of-true [] e = true-false e refl
  any_of-true (x ∷ xs) e = go (test x) refl e (any_of-true xs)
    where
      go : (b : Bool) → test x ≡ b → (b || any_of xs test) ≡ true →
          (any_of xs test ≡ true → (z : X) × Memᴰ z xs × (test z ≡ true)) → (z : X) × Memᴰ z (x ∷ xs) × (test z ≡ true)
      go true h e later = (x, mathlib.Core.List.Memᴰ.head refl, h)
      go false h e later = let r = later e in (r.0, mathlib.Core.List.Memᴰ.tail r.1, r.2)

  pub any_of-finds : (xs : List X) (x : X) → Memᴰ x xs → test x ≡ true → any_of xs test ≡ true
  unfolding any_of
  any_of-finds [] x m e = absurd (mathlib.Core.List.Memᴰ.not-nil m)
  any_of-finds (z ∷ xs) x m e = go (test z) refl (any_of-finds xs x) (mathlib.Core.List.Memᴰ.cases_cons m)
    where
      go : (b : Bool) → test z ≡ b → (Memᴰ x xs → test x ≡ true → any_of xs test ≡ true) →
          (x ≡ z) ⊎ Memᴰ x xs → (b || any_of xs test) ≡ true
      go true h later q = refl
      go false h later (inl q) = true-false e (ap test q ∙ h)
      go false h later (inr m) = later m e

-- The elements that pass a test.

module _ {X : Type 0} (test : X → Bool) where
  pub select-listed : (xs : List X) (x : X) → Memᴰ x (select test xs) ↔ (Memᴰ x xs × (test x ≡ true))
  unfolding select
  select-listed [] x = (λ m. absurd (mathlib.Core.List.Memᴰ.not-nil m), λ m. m.0)
  select-listed (z ∷ xs) x = go (test z) refl (select-listed xs x)
    where
      go : (b : Bool) → test z ≡ b → Memᴰ x (select test xs) ↔ (Memᴰ x xs × (test x ≡ true)) →
          Memᴰ x (cond b (z ∷ select test xs) (select test xs)) ↔ (Memᴰ x (z ∷ xs) × (test x ≡ true))
      go true e later = (
        λ m.
            ⊎_elim (λ (q : x ≡ z). (mathlib.Core.List.Memᴰ.head q, ap test q ∙ e))
            (λ (n : Memᴰ x (select test xs)). let t = later.0 n in (mathlib.Core.List.Memᴰ.tail t.0, t.1)) (mathlib.Core.List.Memᴰ.cases_cons m),
        λ m.
            ⊎_elim (λ (q : x ≡ z). mathlib.Core.List.Memᴰ.head q) (λ (n : Memᴰ x xs). mathlib.Core.List.Memᴰ.tail (later.1 (n, m.1)))
            (mathlib.Core.List.Memᴰ.cases_cons m.0),
      )
      go false e later = (
        λ m. let t = later.0 m in (mathlib.Core.List.Memᴰ.tail t.0, t.1),
        λ m.
            ⊎_elim (λ (q : x ≡ z). true-false m.1 (ap test q ∙ e)) (λ (n : Memᴰ x xs). later.1 (n, m.1))
            (mathlib.Core.List.Memᴰ.cases_cons m.0),
      )

  pub select-length : (xs : List X) → length (select test xs) ≤ length xs
  unfolding select
  select-length [] = omega arith
  select-length (x ∷ xs) = go (test x) (select-length xs)
    where
      go : (b : Bool) → length (select test xs) ≤ length xs →
          length (cond b (x ∷ select test xs) (select test xs)) ≤ suc (length xs)
      go true h = omega arith
      go false h = omega arith

-- a test that holds less often selects fewer elements
module _ {X : Type 0} (less more : X → Bool) where
  select-fewer : (xs : List X) → ((x : X) → Memᴰ x xs → less x ≡ true → more x ≡ true) →
      length (select less xs) ≤ length (select more xs)
  unfolding select
  select-fewer [] weaker = omega arith
  select-fewer (x ∷ xs) weaker =
      go (less x) (more x) (weaker x (mathlib.Core.List.Memᴰ.head refl)) (select-fewer xs (λ z m. weaker z (mathlib.Core.List.Memᴰ.tail m)))
    where
      go : (b c : Bool) → (b ≡ true → c ≡ true) → length (select less xs) ≤ length (select more xs) →
          length (cond b (x ∷ select less xs) (select less xs)) ≤ length (cond c (x ∷ select more xs) (select more xs))
      go true true w h = omega arith
      go true false w h = true-false (w refl) refl
      go false true w h = omega arith
      go false false w h = omega arith

  pub select-fewer-strict : (xs : List X) → ((x : X) → Memᴰ x xs → less x ≡ true → more x ≡ true) →
      (a : X) → Memᴰ a xs → more a ≡ true → less a ≡ false → length (select less xs) < length (select more xs)
  unfolding select
  select-fewer-strict [] weaker a m yes-more not-less = absurd (mathlib.Core.List.Memᴰ.not-nil m)
  select-fewer-strict (x ∷ xs) weaker a m yes-more not-less =
      go (less x) refl (more x) refl (weaker x (mathlib.Core.List.Memᴰ.head refl)) (select-fewer xs below)
      (λ m. select-fewer-strict xs below a m yes-more not-less) (mathlib.Core.List.Memᴰ.cases_cons m)
    where
      below : (z : X) → Memᴰ z xs → less z ≡ true → more z ≡ true
      below z m = weaker z (mathlib.Core.List.Memᴰ.tail m)

      go : (b : Bool) → less x ≡ b → (c : Bool) → more x ≡ c → (b ≡ true → c ≡ true) →
          length (select less xs) ≤ length (select more xs) →
          (Memᴰ a xs → length (select less xs) < length (select more xs)) → (a ≡ x) ⊎ Memᴰ a xs →
          length (cond b (x ∷ select less xs) (select less xs)) < length (cond c (x ∷ select more xs) (select more xs))
      go true p true q w h s (inl e) = true-false p (ap less (sym e) ∙ not-less)
      go true p true q w h s (inr m) = let r = s m in omega arith
      go true p false q w h s d = true-false (w refl) refl
      go false p true q w h s d = omega arith
      go false p false q w h s (inl e) = true-false yes-more (ap more e ∙ q)
      go false p false q w h s (inr m) = s m

-- if P is decided for each element of a list, P holds of some element or of none
pub search-list : {X : Type 0} (P : X → Type 0) (xs : List X) → ((x : X) → Memᴰ x xs → P x ⊎ (P x → ⊥)) →
    ((x : X) × P x) ⊎ ((x : X) → Memᴰ x xs → P x → ⊥)
search-list P [] decide = inr λ x m. absurd (mathlib.Core.List.Memᴰ.not-nil m)
search-list {X} P (x ∷ xs) decide =
    go (decide x (mathlib.Core.List.Memᴰ.head refl)) (search-list P xs λ y m. decide y (mathlib.Core.List.Memᴰ.tail m))
  where
    go : P x ⊎ (P x → ⊥) → ((x : X) × P x) ⊎ ((y : X) → Memᴰ y xs → P y → ⊥) →
        ((x : X) × P x) ⊎ ((y : X) → Memᴰ y (x ∷ xs) → P y → ⊥)
    go (inl p) rest = inl (x, p)
    go (inr n) (inl t) = inl t
    go (inr n) (inr later) =
        inr λ y m p. ⊎_elim (λ (q : y ≡ x). n (subst P q p)) (λ (m : Memᴰ y xs). later y m p) (mathlib.Core.List.Memᴰ.cases_cons m)
