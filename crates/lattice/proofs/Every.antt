-- This file turns tests into facts: it says what a conjunction, an implication, and `every` and `last` of `Table` state where they are true.
use Prim.Native.Nat.{ℕ, zero, suc, ◌+◌, ◌<◌, ◌≤◌}
use mathlib.Core.Path.{◌≡◌, refl, sym, ap, subst, ◌∙◌}
use mathlib.Core.Bool.{Bool, true, false, cond, not, ◌&&◌, and-true}
use mathlib.Core.Option.{Option, none, some}
use mathlib.Core.Logic.{◌⊎◌, inl, inr, ⊎_elim}
use native.Mathlib.Nat.{not-suc-le-zero, eq-or-lt_of_le, le_of_suc-le-suc}
use native.Mathlib.Numerals.{add-one}
use native.Mathlib.Omega.{arith}
use lib.Dec.{ltb}
use borrow.Author.Tests.{ltb-true, ltb-false, not-true, not-false}
use Rattle.graphs.proofs.Search.{not-true-false, true-both}
use Rattle.lattice.specs.Table.{every, last, implies, found}

pub and_left : (a b : Bool) → a && b ≡ true → a ≡ true
and_left true b h = refl
and_left false b h = h

pub and_right : (a b : Bool) → a && b ≡ true → b ≡ true
and_right true b h = h
and_right false b h = let z : ◌≡◌ {A = ℕ} 0 1 = cc in absurd (omega arith)

-- two tests that passed leave the third to decide
pub third-decides : {a b c : Bool} → a ≡ true → b ≡ true → c ≡ (a && b && c)
third-decides f g = rw (f, g)

pub implies-at : (a b : Bool) → implies a b ≡ true → a ≡ true → b ≡ true
implies-at true b h g = h
implies-at false b h g = let z : ◌≡◌ {A = ℕ} 0 1 = cc in absurd (omega arith)

pub implies-from : (a b : Bool) → (a ≡ true → b ≡ true) → implies a b ≡ true
implies-from true b h = h refl
implies-from false b h = refl

pub not-false-true : (a : Bool) → (a ≡ false → ⊥) → a ≡ true
not-false-true true h = refl
not-false-true false h = absurd (h refl)

pub true-not-false : (a : Bool) → a ≡ true → a ≡ false → ⊥
true-not-false a g h = let z : ◌≡◌ {A = ℕ} 0 1 = cc in omega arith

-- j is below n, or not
pub below_or_not : (j n : ℕ) → (j < n) ⊎ (n ≤ j)
below_or_not j n = go (ltb j n) refl where
  go : (b : Bool) → ltb j n ≡ b → (j < n) ⊎ (n ≤ j)
  go true e = inl (ltb-true j n e)
  go false e = inr (ltb-false j n e)

pub below_suc : {k n : ℕ} {P : Type 0} → k < suc n → (k ≡ n → P) → (k < n → P) → P
below_suc l here before = ⊎_elim here before (eq-or-lt_of_le (le_of_suc-le-suc l))

pub every-at : (p : ℕ → Bool) (n k : ℕ) → every n p ≡ true → k < n → p k ≡ true
unfolding every
every-at p zero k h l = absurd (not-suc-le-zero l)
every-at p (suc n) k h l =
    below_suc l (λ e. subst (λ (m : ℕ). p m ≡ true) (sym e) (and_right (every n p) (p n) h)) (λ s. every-at p n k (and_left (every n p) (p n) h) s)

pub every-all : (p : ℕ → Bool) (n : ℕ) → ((k : ℕ) → k < n → p k ≡ true) → every n p ≡ true
unfolding every
every-all p zero h = refl
every-all p (suc n) h = true-both (every n p) (p n) (every-all p n λ k l. h k (omega arith)) (h n (omega arith))

pub every-none : (p : ℕ → Bool) → every 0 p ≡ true
unfolding every
every-none p = refl

pub every_more : (p : ℕ → Bool) (k : ℕ) → every k p ≡ true → p k ≡ true → every (k + 1) p ≡ true
unfolding every
every_more p k h g = rw add-one (true-both (every k p) (p k) h g)

pub every-fails : (p : ℕ → Bool) (n k : ℕ) → k < n → p k ≡ false → every n p ≡ false
every-fails p n k l h = not-true-false (every n p) λ e. true-not-false (p k) (every-at p n k e l) h

pub every-same : (p q : ℕ → Bool) (n : ℕ) → ((k : ℕ) → k < n → p k ≡ q k) → every n p ≡ every n q
unfolding every
every-same p q zero h = refl
every-same p q (suc n) h =
    let e : every n p ≡ every n q = every-same p q n λ k l. h k (omega arith) in
    let f : p n ≡ q n = h n (omega arith) in
    cc

pub last-same : (p q : ℕ → Bool) (n : ℕ) → ((k : ℕ) → k < n → p k ≡ q k) → last n p ≡ last n q
unfolding last
last-same p q zero h = refl
last-same p q (suc n) h =
    let e : last n p ≡ last n q = last-same p q n λ k l. h k (omega arith) in
    let f : p n ≡ q n = h n (omega arith) in
    cc

-- what `last` finds is below n and passes
pub last-passes : (p : ℕ → Bool) (n c : ℕ) → last n p ≡ some c → (c < n) × (p c ≡ true)
unfolding last
last-passes p zero c h = let z : ◌≡◌ {A = ℕ} 0 1 = cc in absurd (omega arith)
last-passes p (suc n) c h = go (last-passes p n c) (p n) refl where
  go : (last n p ≡ some c → (c < n) × (p c ≡ true)) → (b : Bool) → p n ≡ b → (c < suc n) × (p c ≡ true)
  go before true e =
      let f : some n ≡ some c = rw e at h in
      let g : n ≡ c = cc in
      (omega arith, ap p (sym g) ∙ e)
  go before false e =
      let r : (c < n) × (p c ≡ true) = before (rw e at h) in
      (omega arith, r.1)

pub found_some : {A : Type 0} (o : Option A) → found o ≡ true → (c : A) × (o ≡ some c)
found_some none h = let z : ◌≡◌ {A = ℕ} 0 1 = cc in absurd (omega arith)
found_some (some c) h = (c, refl)

-- at the end of a loop that passed every number
pub every-done : (p : ℕ → Bool) (k n : ℕ) → k ≤ n → n ≤ k → every k p ≡ true → true ≡ every n p
every-done p k n l s h = let e : k ≡ n = omega arith in sym (subst (λ (m : ℕ). every m p ≡ true) e h)

-- a flag that tells of the numbers below k, where k passes, and at the end of a loop
pub all-kept : (p : ℕ → Bool) (k : ℕ) (r : Bool) → r ≡ every k p → p k ≡ true → r ≡ every (k + 1) p
unfolding every
all-kept p k r e f = rw (add-one, f) (e ∙ sym (and-true (every k p)))

pub every-end : (p : ℕ → Bool) (k n : ℕ) (r : Bool) → k ≤ n → n ≤ k → r ≡ every k p → r ≡ every n p
every-end p k n r l s e = let q : k ≡ n = omega arith in e ∙ ap (λ (m : ℕ). every m p) q

-- a search that finds nothing, and one that finds the only number that passes
pub last-nothing : (p : ℕ → Bool) (n : ℕ) → ((k : ℕ) → k < n → p k ≡ false) → last n p ≡ none
unfolding last
last-nothing p zero h = refl
last-nothing p (suc n) h = rw (h n (omega arith)) (last-nothing p n λ k l. h k (omega arith))

pub last-only : (p : ℕ → Bool) (n c : ℕ) → c < n → p c ≡ true → ((k : ℕ) → k < n → p k ≡ true → k ≡ c) → last n p ≡ some c
unfolding last
last-only p zero c l e h = absurd (not-suc-le-zero l)
last-only p (suc n) c l e h = go (last-only p n c) (p n) refl where
  go : (c < n → p c ≡ true → ((k : ℕ) → k < n → p k ≡ true → k ≡ c) → last n p ≡ some c) → (b : Bool) → p n ≡ b
      → cond (p n) (some n) (last n p) ≡ some c
  go before true f = rw f (ap some (h n (omega arith) f))
  go before false f =
      rw f
      (below_suc l (λ q. absurd (true-not-false (p n) (ap p (sym q) ∙ e) f)) (λ s. before s e λ k r g. h k (omega arith) g))

-- a search finds where a number passes
pub last_found : (p : ℕ → Bool) (n c : ℕ) → c < n → p c ≡ true → found (last n p) ≡ true
unfolding last
last_found p zero c l e = absurd (not-suc-le-zero l)
last_found p (suc n) c l e = go (last_found p n c) (p n) refl where
  go : (c < n → p c ≡ true → found (last n p) ≡ true) → (b : Bool) → p n ≡ b → found (cond (p n) (some n) (last n p)) ≡ true
  go before true f = rw f
  go before false f = rw f (below_suc l (λ q. absurd (true-not-false (p n) (ap p (sym q) ∙ e) f)) (λ s. before s e))

-- what a call answered, after a branch on its negation
pub refuted : {b p : Bool} → b ≡ p → not b ≡ true → p ≡ false
refuted {b} e h = sym e ∙ not-true b h

pub held : {b p : Bool} → b ≡ p → not b ≡ false → p ≡ true
held {b} e h = sym e ∙ not-false b h
