-- This file is about placing rows in a table of targets, one after another.
use mathlib.Core.Bool.{Bool, true, false, cond, not}
use mathlib.Core.Path.{◌≡◌, refl, sym, ◌∙◌, ap, ap₂, subst}
use mathlib.Core.Logic.{◌≢◌}
use mathlib.Core.List.{List, [], ◌∷◌, ◌++◌}
use mathlib.Core.Option.{Option, none, some}
use Prim.Native.Nat.{ℕ, suc, ◌+◌, ◌*◌, ◌<◌, ◌≤◌}
use native.Mathlib.Decide.{ℕ_discrete}
use native.Mathlib.Omega.{arith}
use lib.Dec.{eqb}
use lib.ListN.{length, get_or, set, take, drop, length-set, take-append-drop}
use native.Mathlib.Numerals.{add-one}
use lib.Seq.{get_or-set_same, get_or-set_other, take-suc, take_all, drop-cons}
use borrow.Author.Tests.{eqb-true, eq-eqb, ne_eqb}
use Rattle.rows.specs.declared.Row.{Row}
use Rattle.rows.specs.Rows.{is_of, target_in, some_of, has_twice}
use Rattle.rows.specs.Placing.{place_of, slot, Near, Placed}

abbrev or_else : Option ℕ → Option ℕ → Option ℕ
or_else none y = y
or_else (some x) y = some x

-- the target of a parent and a feature where one row more stands at the end
last : (xs : List Row) (r : Row) (p f : ℕ) → target_in (xs ++ r ∷ []) p f ≡ or_else (target_in xs p f) (cond (is_of p f r) (some r.target) none)
unfolding target_in
last [] r p f = refl
last (x ∷ xs) r p f = go (is_of p f x) (last xs r p f)
  where
    go : (t : Bool) → target_in (xs ++ r ∷ []) p f ≡ or_else (target_in xs p f) (cond (is_of p f r) (some r.target) none)
        → cond t (some x.target) (target_in (xs ++ r ∷ []) p f) ≡ or_else (cond t (some x.target) (target_in xs p f)) (cond (is_of p f r) (some r.target) none)
    go true e = refl
    go false e = e

pub is-own : (r : Row) → is_of r.parent r.feature r ≡ true
unfolding is_of
is-own r = ap (λ (t : Bool). cond t (eqb r.feature r.feature) false) (eq-eqb r.parent r.parent refl) ∙ eq-eqb r.feature r.feature refl

-- a row whose slot is not that of a parent and a feature is not their row
is-other : (p f : ℕ) (r : Row) → f < 64 → r.feature < 64 → slot r ≢ p * 64 + f → is_of p f r ≡ false
unfolding is_of
is-other p f r hf hr d = go (ℕ_discrete r.parent p)
  where
    go : Dec (r.parent ≡ p) → cond (eqb r.parent p) (eqb r.feature f) false ≡ false
    go (no n) = ap (λ (t : Bool). cond t (eqb r.feature f) false) (ne_eqb r.parent p n)
    go (yes e) = ap (λ (t : Bool). cond t (eqb r.feature f) false) (eq-eqb r.parent p e) ∙ ne_eqb r.feature f (λ q. d (ap₂ (λ (a b : ℕ). a * 64 + b) e q))

-- where rows give a target, some row is of the parent and the feature
found : (xs : List Row) (p f : ℕ) → (target_in xs p f ≡ none → ⊥) → some_of p f xs ≡ true
unfolding target_in some_of
found [] p f h = absurd (h refl)
found (x ∷ xs) p f h = go (is_of p f x) h (found xs p f)
  where
    go : (t : Bool) → (cond t (some x.target) (target_in xs p f) ≡ none → ⊥) → ((target_in xs p f ≡ none → ⊥) → some_of p f xs ≡ true) → cond t true (some_of p f xs) ≡ true
    go true h e = refl
    go false h e = e h

missing : (xs : List Row) (p f : ℕ) → target_in xs p f ≡ none → some_of p f xs ≡ false
unfolding target_in some_of
missing [] p f h = refl
missing (x ∷ xs) p f h = go (is_of p f x) h (missing xs p f)
  where
    go : (t : Bool) → cond t (some x.target) (target_in xs p f) ≡ none → (target_in xs p f ≡ none → some_of p f xs ≡ false) → cond t true (some_of p f xs) ≡ false
    go true h e = let z : ◌≡◌ {A = ℕ} 0 1 = cc in absurd (omega arith)
    go false h e = e h

-- some row of two lists in turn is of a parent and a feature exactly where some row of either list is
some_of-more : (p f : ℕ) (xs ys : List Row) → some_of p f (xs ++ ys) ≡ cond (some_of p f xs) true (some_of p f ys)
unfolding some_of
some_of-more p f [] ys = refl
some_of-more p f (x ∷ xs) ys = go (is_of p f x) (some_of-more p f xs ys)
  where
    go : (t : Bool) → some_of p f (xs ++ ys) ≡ cond (some_of p f xs) true (some_of p f ys) → cond t true (some_of p f (xs ++ ys)) ≡ cond (cond t true (some_of p f xs)) true (some_of p f ys)
    go true e = refl
    go false e = e

eqb-sym : (a b : ℕ) → eqb a b ≡ eqb b a
eqb-sym a b = go (ℕ_discrete a b)
  where
    go : Dec (a ≡ b) → eqb a b ≡ eqb b a
    go (yes e) = eq-eqb a b e ∙ sym (eq-eqb b a (sym e))
    go (no n) = ne_eqb a b n ∙ sym (ne_eqb b a (λ e. n (sym e)))

is-sym : (x r : Row) → is_of x.parent x.feature r ≡ is_of r.parent r.feature x
unfolding is_of
is-sym x r = ap₂ (λ (t u : Bool). cond t u false) (eqb-sym r.parent x.parent) (eqb-sym r.feature x.feature)

pub cond-false : (t u : Bool) → cond t true u ≡ false → (t ≡ false) × (u ≡ false)
cond-false true u e = let z : ◌≡◌ {A = ℕ} 0 1 = cc in absurd (omega arith)
cond-false false u e = (refl, e)

cond_same : (t : Bool) → cond t true true ≡ true
cond_same true = refl
cond_same false = refl

-- where no two rows have one slot, and a row of a slot that none has comes after them, no two of all have one slot
once-end : (xs : List Row) (r : Row) → has_twice xs ≡ false → some_of r.parent r.feature xs ≡ false → has_twice (xs ++ r ∷ []) ≡ false
unfolding has_twice some_of
once-end [] r o h = refl
once-end (x ∷ xs) r o h =
    let a = cond-false (some_of x.parent x.feature xs) (has_twice xs) o in
    let b = cond-false (is_of r.parent r.feature x) (some_of r.parent r.feature xs) h in
    ap (λ (t : Bool). cond t true (has_twice (xs ++ r ∷ []))) (some_of-more x.parent x.feature xs (r ∷ [])
    ∙ ap (λ (t : Bool). cond t true (cond (is_of x.parent x.feature r) true false)) a.0 ∙ ap (λ (t : Bool). cond t true false) (is-sym x r ∙ b.0))
    ∙ once-end xs r a.1 b.1

first_of : (x r : Row) (ys : List Row) → is_of x.parent x.feature r ≡ true → some_of x.parent x.feature (r ∷ ys) ≡ true
unfolding some_of
first_of x r ys e = ap (λ (t : Bool). cond t true (some_of x.parent x.feature ys)) e

-- where a row comes after another of its slot, two rows have one slot
twice-end : (xs : List Row) (r : Row) (ys : List Row) → some_of r.parent r.feature xs ≡ true → has_twice (xs ++ r ∷ ys) ≡ true
unfolding has_twice some_of
twice-end [] r ys h = let z : ◌≡◌ {A = ℕ} 0 1 = cc in absurd (omega arith)
twice-end (x ∷ xs) r ys h = go (is_of r.parent r.feature x) refl h (twice-end xs r ys)
  where
    unwound : some_of x.parent x.feature (xs ++ r ∷ ys) ≡ cond (some_of x.parent x.feature xs) true (some_of x.parent x.feature (r ∷ ys))
    unwound = some_of-more x.parent x.feature xs (r ∷ ys)

    go : (t : Bool) → is_of r.parent r.feature x ≡ t → cond t true (some_of r.parent r.feature xs) ≡ true → (some_of r.parent r.feature xs ≡ true → has_twice (xs ++ r ∷ ys) ≡ true)
        → cond (some_of x.parent x.feature (xs ++ r ∷ ys)) true (has_twice (xs ++ r ∷ ys)) ≡ true
    go true q h e = ap (λ (t : Bool). cond t true (has_twice (xs ++ r ∷ ys))) (unwound ∙ ap (λ (t : Bool). cond (some_of x.parent x.feature xs) true t) (first_of x r ys (is-sym x r ∙ q)) ∙ cond_same (some_of x.parent x.feature xs))
    go false q h e = ap (λ (t : Bool). cond (some_of x.parent x.feature (xs ++ r ∷ ys)) true t) (e h) ∙ cond_same (some_of x.parent x.feature (xs ++ r ∷ ys))

placed-none : (o : Option ℕ) → place_of o ≡ 0 → o ≡ none
placed-none none e = refl
placed-none (some w) e = absurd (omega (arith, e))

or-none : (o : Option ℕ) → or_else o none ≡ o
or-none none = refl
or-none (some x) = refl

pub placed-start : (targets : List ℕ) → ((k : ℕ) → get_or targets k 0 ≡ 0) → Placed [] targets
unfolding has_twice target_in
placed-start targets h = record { once = refl; told = λ p f hp hf. h (p * 64 + f); low = λ k. omega (arith, h k) }

-- a row is placed in a slot that is free
pub placed-next : (xs : List Row) (targets : List ℕ) (r : Row) → Placed xs targets → Near r → slot r < length targets → get_or targets (slot r) 0 ≡ 0 → r.target ≤ 255 → Placed (xs ++ r ∷ []) (set targets (slot r) (r.target + 1))
placed-next xs targets r s n l e small = record { once = once-end xs r s.once (missing xs r.parent r.feature free); told = λ p f hp hf. go p f hf (ℕ_discrete (slot r) (p * 64 + f)) (s.told p f hp hf); low = λ k. lower k (ℕ_discrete k (slot r)) }
  where
    lower : (k : ℕ) → Dec (k ≡ slot r) → get_or (set targets (slot r) (r.target + 1)) k 0 ≤ 256
    lower k (yes q) = omega (arith, ap (λ (j : ℕ). get_or (set targets (slot r) (r.target + 1)) j 0) q ∙ get_or-set_same targets (slot r) (r.target + 1) 0 l, small)
    lower k (no d) = omega (arith, get_or-set_other targets (slot r) k (r.target + 1) 0 d, s.low k)

    free : target_in xs r.parent r.feature ≡ none
    free = placed-none (target_in xs r.parent r.feature) (sym (s.told r.parent r.feature n.0 n.1) ∙ e)

    go : (p f : ℕ) → f < 64 → Dec (slot r ≡ p * 64 + f) → get_or targets (p * 64 + f) 0 ≡ place_of (target_in xs p f) → get_or (set targets (slot r) (r.target + 1)) (p * 64 + f) 0 ≡ place_of (target_in (xs ++ r ∷ []) p f)
    go p f hf (no d) t = get_or-set_other targets (slot r) (p * 64 + f) (r.target + 1) 0 (λ q. d (sym q)) ∙ t ∙ ap place_of (sym (last xs r p f ∙ ap (λ (b : Bool). or_else (target_in xs p f) (cond b (some r.target) none)) (is-other p f r hf n.1 d) ∙ or-none (target_in xs p f)))
    go p f hf (yes q) t =
        let same-p : r.parent ≡ p = omega (arith, q, hf, n.1) in
        let same-f : r.feature ≡ f = omega (arith, q, hf, n.1) in
        ap (λ (k : ℕ). get_or (set targets (slot r) (r.target + 1)) k 0) (sym q) ∙ get_or-set_same targets (slot r) (r.target + 1) 0 l
        ∙ ap place_of (sym (ap₂ (λ (a b : ℕ). target_in (xs ++ r ∷ []) a b) (sym same-p) (sym same-f) ∙ last xs r r.parent r.feature
        ∙ ap₂ (λ (o : Option ℕ) (b : Bool). or_else o (cond b (some r.target) none)) free (is-own r)))

-- where a row's slot is taken, two rows have one slot
pub placed-twice : (xs : List Row) (targets : List ℕ) (r : Row) (ys : List Row) → Placed xs targets → Near r → (get_or targets (slot r) 0 ≡ 0 → ⊥) → has_twice (xs ++ r ∷ ys) ≡ true
placed-twice xs targets r ys s n d = twice-end xs r ys (found xs r.parent r.feature (λ e. d (s.told r.parent r.feature n.0 n.1 ∙ ap place_of e)))

-- The loop's invariant: the first i rows are placed.
module _ (all : List Row) (d : Row) where
  pub placed-more : (i : ℕ) (targets : List ℕ) → Placed (take i all) targets → i < length all → Near (get_or all i d) → slot (get_or all i d) < length targets → eqb (get_or targets (slot (get_or all i d)) 0) 0 ≡ true → (get_or all i d).target ≤ 255 → Placed (take (i + 1) all) (set targets (slot (get_or all i d)) ((get_or all i d).target + 1))
  placed-more i targets s l n k e small =
      subst (λ (xs : List Row). Placed xs (set targets (slot (get_or all i d)) ((get_or all i d).target + 1))) (sym (take-suc all i d l) ∙ ap (λ (m : ℕ). take m all) (sym (add-one i)))
      (placed-next (take i all) targets (get_or all i d) s n k (eqb-true (get_or targets (slot (get_or all i d)) 0) 0 e) small)

  pub placed-stop : (i : ℕ) (targets : List ℕ) → Placed (take i all) targets → i < length all → Near (get_or all i d) → eqb (get_or targets (slot (get_or all i d)) 0) 0 ≡ false → false ≡ not (has_twice all)
  placed-stop i targets s l n e =
      ap not (sym (ap has_twice whole ∙ placed-twice (take i all) targets (get_or all i d) (drop (suc i) all) s n (λ z. off (eq-eqb (get_or targets (slot (get_or all i d)) 0) 0 z))))
    where
      off : eqb (get_or targets (slot (get_or all i d)) 0) 0 ≡ true → ⊥
      off t = let z : true ≡ false = sym t ∙ e in let w : ◌≡◌ {A = ℕ} 0 1 = cc in omega arith

      whole : all ≡ take i all ++ get_or all i d ∷ drop (suc i) all
      whole = sym (take-append-drop i all) ∙ ap (λ (ys : List Row). take i all ++ ys) (drop-cons all i d l)

  pub placed_end : (i : ℕ) (targets : List ℕ) → Placed (take i all) targets → length all ≤ i → (true ≡ not (has_twice all)) × (true ≡ true → Placed all targets)
  placed_end i targets s e =
      let t : Placed all targets = subst (λ (xs : List Row). Placed xs targets) (take_all i all e) s in
      (ap not (sym t.once), λ _. t)

  -- one turn, from what a call of `place` answers
  pub placed-again : (i : ℕ) (targets after : List ℕ) (b : Bool) → length targets ≡ 16320 → Placed (take i all) targets → i < length all → Near (get_or all i d)
      → (b ≡ eqb (get_or targets (slot (get_or all i d)) 0) 0) × (after ≡ cond b (set targets (slot (get_or all i d)) ((get_or all i d).target + 1)) targets) × ((get_or all i d).target ≤ 255) → b ≡ true → (length after ≡ 16320) × Placed (take (i + 1) all) after
  placed-again i targets after b w s l n e t =
      let made : after ≡ set targets (slot (get_or all i d)) ((get_or all i d).target + 1) = e.1 ∙ ap (λ (c : Bool). cond c (set targets (slot (get_or all i d)) ((get_or all i d).target + 1)) targets) t in (
        ap length made ∙ length-set targets (slot (get_or all i d)) ((get_or all i d).target + 1) ∙ w,
        subst (Placed (take (i + 1) all)) (sym made) (placed-more i targets s l n (omega (arith, w, n.0, n.1)) (sym e.0 ∙ t) e.2),
      )

-- placing keeps the table's length
pub placed-length : (b : Bool) (targets : List ℕ) (k w : ℕ) {after : List ℕ} → after ≡ cond b (set targets k w) targets → length after ≡ length targets
placed-length true targets k w e = ap length e ∙ length-set targets k w
placed-length false targets k w e = ap length e
