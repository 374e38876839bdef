-- Lemmas about reading orders. The test passes exactly the lists of all 64 features, each once, and the code finds a feature's place in such
-- a list. A list of 64 features, none twice, leaves none out.
use mathlib.Core.Path.{◌≡◌, refl, sym, ◌∙◌, ap, subst}
use mathlib.Core.Bool.{Bool, true, false, cond, not, ◌&&◌}
use mathlib.Core.List.{List, [], ◌∷◌, Memᴰ}
use mathlib.Core.Logic.{◌↔◌, ⊎_elim}
use Prim.Native.Nat.{ℕ, zero, suc, ◌+◌, ◌≤◌, ◌<◌}
use native.Mathlib.Decide.{ℕ_discrete, dec_lt}
use native.Mathlib.Omega.{arith}
use lib.Dec.{leb, eqb}
use lib.ListN.{length, get_or, set, length-set}
use lib.Seq.{get_or-set_same, get_or-set_other}
use borrow.Author.Tests.{leb-true, le-leb, eqb-true, eq-eqb, ne_eqb}
use Rattle.graphs.specs.Rows.{from}
use Rattle.graphs.specs.Difference.{place_in}
use Rattle.graphs.proofs.Lists.{from-range, length_from, remove, distinct-bound, distinct_from, full-places, get_or-member}
use Rattle.graphs.proofs.Search.{true-false, not-true-false, true-both}
use Rattle.lattice.specs.Table.{every}
use Rattle.lattice.proofs.Every.{and_left, and_right, every-at, every-all}
use Rattle.link_orders.specs.LinkOrders.{is_reading_order, EachOnce}

-- What the test says of a list.

-- Place i has a feature that stands at no earlier place.
fresh : List ℕ → ℕ → Bool
fresh list i = leb (suc (get_or list i 0)) 64 && every i λ j. not (eqb (get_or list j 0) (get_or list i 0))

pub record Reading (list : List ℕ) : Type 0 where
  pub long : length list ≡ 64
  pub low : (i : ℕ) → i < 64 → get_or list i 0 < 64
  pub apart : (i j : ℕ) → i < j → j < 64 → get_or list i 0 ≡ get_or list j 0 → ⊥

not-not : (a : Bool) → not a ≡ true → a ≡ true → ⊥
not-not true e h = let z : ◌≡◌ {A = ℕ} 0 1 = cc in omega arith
not-not false e h = let z : ◌≡◌ {A = ℕ} 0 1 = cc in omega arith

not_so : (a : Bool) → (a ≡ true → ⊥) → not a ≡ true
not_so true h = absurd (h refl)
not_so false h = refl

pub reading : (list : List ℕ) → is_reading_order list ≡ true → Reading list
unfolding is_reading_order fresh
reading list e =
    record {
      long = eqb-true (length list) 64 (and_left (eqb (length list) 64) (every 64 (fresh list)) e);
      low = λ i h.
          leb-true (suc (get_or list i 0)) 64
          (and_left (leb (suc (get_or list i 0)) 64) (every i λ j. not (eqb (get_or list j 0) (get_or list i 0))) (at i h));
      apart = λ i j h l q.
          not-not (eqb (get_or list i 0) (get_or list j 0))
          (every-at (λ k. not (eqb (get_or list k 0) (get_or list j 0))) j i
          (and_right (leb (suc (get_or list j 0)) 64) (every j λ k. not (eqb (get_or list k 0) (get_or list j 0))) (at j l)) h)
          (eq-eqb (get_or list i 0) (get_or list j 0) q);
    }
  where
    at : (i : ℕ) → i < 64 → fresh list i ≡ true
    at i h = every-at (fresh list) 64 i (and_right (eqb (length list) 64) (every 64 (fresh list)) e) h

pub reading-back : (list : List ℕ) → Reading list → is_reading_order list ≡ true
unfolding is_reading_order fresh
reading-back list r =
    true-both (eqb (length list) 64) (every 64 (fresh list)) (eq-eqb (length list) 64 r.long)
    (every-all (fresh list) 64 λ i h.
    true-both (leb (suc (get_or list i 0)) 64) (every i λ j. not (eqb (get_or list j 0) (get_or list i 0)))
    (le-leb (suc (get_or list i 0)) 64 (r.low i h))
    (every-all (λ j. not (eqb (get_or list j 0) (get_or list i 0))) i λ j l.
    not_so (eqb (get_or list j 0) (get_or list i 0)) (λ q. r.apart j i l h (eqb-true (get_or list j 0) (get_or list i 0) q))))

module _ {list : List ℕ} (r : Reading list) where
  pub reading-one : (i j : ℕ) → i < 64 → j < 64 → get_or list i 0 ≡ get_or list j 0 → i ≡ j
  reading-one i j h l e = go (dec_lt i j) (dec_lt j i)
    where
      go : Dec (i < j) → Dec (j < i) → i ≡ j
      go (yes x) y = absurd (r.apart i j x l e)
      go (no x) (yes y) = absurd (r.apart j i y h (sym e))
      go (no x) (no y) = omega arith

  pub reading-all : (f : ℕ) → f < 64 → (i : ℕ) × (i < 64) × (get_or list i 0 ≡ f)
  reading-all = full-places 64 list r.long r.low r.apart

-- The test passes exactly the lists of all 64 features, each once.

once-reading : {list : List ℕ} → EachOnce list → Reading list
once-reading {list} o = record { long = o.long; low = low; apart = apart }
  where
    -- Every entry is a feature: an entry of 64 or more would leave 63 places for 64 features.
    low : (i : ℕ) → i < 64 → get_or list i 0 < 64
    low i h = go (dec_lt (get_or list i 0) 64)
      where
        go : Dec (get_or list i 0 < 64) → get_or list i 0 < 64
        go (yes l) = l
        go (no d) =
            let (rest, shorter, other) = remove (get_or-member list i 0 (omega (arith, o.long))) in
            let bound : length (from 0 64) ≤ length rest =
            distinct-bound (from 0 64) rest (distinct_from 0 64)
            (λ f m.
            let (at, l, e, _) = o.once f (from-range 0 64 f m).1 in
            ⊎_elim (λ (q : f ≡ get_or list i 0). absurd (omega (arith, from-range 0 64 f m))) (λ k. k)
            (other f (subst (λ (x : ℕ). Memᴰ x list) e (get_or-member list at 0 (omega (arith, o.long)))))) in
            absurd (omega (arith, o.long, length_from 0 64))

    apart : (i j : ℕ) → i < j → j < 64 → get_or list i 0 ≡ get_or list j 0 → ⊥
    apart i j h l e =
        let (at, _, _, one) = o.once (get_or list i 0) (low i (omega arith)) in
        omega (arith, one i (omega arith) refl, one j l (sym e))

-- "a list of all 64 features, each once"
pub reading-order : (list : List ℕ) → (is_reading_order list ≡ true) ↔ EachOnce list
reading-order list = (
  λ e.
      let r = reading list e in
      record {
        long = r.long;
        once = λ f h.
            let (i, l, q) = reading-all r f h in
            (i, l, q, λ j b p. reading-one r j i b l (p ∙ sym q));
      },
  λ o. reading-back list (once-reading o),
)

-- The test has passed the places before i. `seen` has true for exactly the features at these places, and no feature came twice.
pub record Scanned (list : List ℕ) (i : ℕ) (seen : List Bool) : Type 0 where
  pub high : i ≤ 64
  pub long : length list ≡ 64
  pub seen-long : length seen ≡ 64
  pub low : (k : ℕ) → k < i → get_or list k 0 < 64
  pub apart : (j k : ℕ) → j < k → k < i → get_or list j 0 ≡ get_or list k 0 → ⊥
  pub told : (f : ℕ) → f < 64 → get_or seen f false ≡ true → (j : ℕ) × (j < i) × (get_or list j 0 ≡ f)
  pub met : (j : ℕ) → j < i → get_or seen (get_or list j 0) false ≡ true

pub not-long : (list : List ℕ) → (length list ≡ 64 → ⊥) → false ≡ is_reading_order list
not-long list d = sym (not-true-false (is_reading_order list) λ e. d (reading list e).long)

pub scanned-start : {list : List ℕ} {seen : List Bool} → length list ≡ 64 → length seen ≡ 64 → ((f : ℕ) → f < 64 → get_or seen f false ≡ false) → Scanned list 0 seen
scanned-start long room clear =
    record {
      high = omega arith;
      long = long;
      seen-long = room;
      low = λ k h. absurd (omega arith);
      apart = λ j k h l. absurd (omega arith);
      told = λ f h e. true-false e (clear f h);
      met = λ j h. absurd (omega arith);
    }

module _ {list : List ℕ} {i : ℕ} {seen : List Bool} (c : Scanned list i seen) where
  pub scanned-done : 64 ≤ i → true ≡ is_reading_order list
  scanned-done h =
      sym (reading-back list
      (record { long = c.long; low = λ k l. c.low k (omega arith); apart = λ j k l b. c.apart j k l (omega arith) }))

  module _ (more : i < 64) where
    pub scanned-high : 64 ≤ get_or list i 0 → false ≡ is_reading_order list
    scanned-high h = sym (not-true-false (is_reading_order list) λ e. omega (arith, (reading list e).low i more))

    pub scanned-twice : get_or list i 0 < 64 → get_or seen (get_or list i 0) false ≡ true → false ≡ is_reading_order list
    scanned-twice h e =
        let (j, l, q) = c.told (get_or list i 0) h e in
        sym (not-true-false (is_reading_order list) λ p. (reading list p).apart j i l more q)

    pub scanned-next : get_or list i 0 < 64 → (get_or seen (get_or list i 0) false ≡ true → ⊥) → Scanned list (i + 1) (set seen (get_or list i 0) true)
    scanned-next small new =
        record {
          high = omega arith;
          long = c.long;
          seen-long = length-set seen (get_or list i 0) true ∙ c.seen-long;
          low = λ k h. low k h (ℕ_discrete k i);
          apart = λ j k h l. apart j k h l (ℕ_discrete k i);
          told = λ f h e. told f h e (ℕ_discrete f (get_or list i 0));
          met = λ j h. met j h (ℕ_discrete (get_or list j 0) (get_or list i 0)) (ℕ_discrete j i);
        }
      where
        low : (k : ℕ) → k < i + 1 → Dec (k ≡ i) → get_or list k 0 < 64
        low k h (yes e) = subst (λ (x : ℕ). get_or list x 0 < 64) (sym e) small
        low k h (no d) = c.low k (omega arith)

        apart : (j k : ℕ) → j < k → k < i + 1 → Dec (k ≡ i) → get_or list j 0 ≡ get_or list k 0 → ⊥
        apart j k h l (yes e) q =
            new (ap (λ (x : ℕ). get_or seen x false) (sym (q ∙ ap (λ (x : ℕ). get_or list x 0) e)) ∙ c.met j (omega arith))
        apart j k h l (no d) q = c.apart j k h (omega arith) q

        told : (f : ℕ) → f < 64 → get_or (set seen (get_or list i 0) true) f false ≡ true → Dec (f ≡ get_or list i 0) →
            (j : ℕ) × (j < i + 1) × (get_or list j 0 ≡ f)
        told f h e (yes q) = (i, omega arith, sym q)
        told f h e (no d) =
            let (j, l, q) = c.told f h (sym (get_or-set_other seen (get_or list i 0) f true false d) ∙ e) in
            (j, omega arith, q)

        met : (j : ℕ) → j < i + 1 → Dec (get_or list j 0 ≡ get_or list i 0) → Dec (j ≡ i) → get_or (set seen (get_or list i 0) true) (get_or list j 0) false ≡ true
        met j h (yes e) x =
            ap (λ (f : ℕ). get_or (set seen (get_or list i 0) true) f false) e ∙
            get_or-set_same seen (get_or list i 0) true false (omega (arith, c.seen-long))
        met j h (no d) (yes x) = absurd (d (ap (λ (k : ℕ). get_or list k 0) x))
        met j h (no d) (no x) = get_or-set_other seen (get_or list i 0) (get_or list j 0) true false d ∙ c.met j (omega arith)

-- The place of each feature.

-- The place of a feature is the first place where the feature stands.
pub place-in : (list : List ℕ) (i f : ℕ) → i < length list → get_or list i 0 ≡ f → ((j : ℕ) → j < i → get_or list j 0 ≡ f → ⊥) → place_in list f ≡ i
unfolding place_in
place-in [] i f h e first = absurd (omega arith)
place-in (x ∷ xs) zero f h e first = ap (λ (b : Bool). cond b zero (suc (place_in xs f))) (eq-eqb x f e)
place-in (x ∷ xs) (suc i) f h e first =
    ap (λ (b : Bool). cond b zero (suc (place_in xs f))) (ne_eqb x f (first 0 (omega arith))) ∙
    ap suc (place-in xs i f (omega arith) e (λ j l. first (suc j) (omega arith)))

-- `at` has the place of each feature that stands before place i.
pub record Placed (list : List ℕ) (i : ℕ) (at : List ℕ) : Type 0 where
  pub high : i ≤ 64
  pub order : Reading list
  pub long : length at ≡ 64
  pub placed : (j : ℕ) → j < i → get_or at (get_or list j 0) 0 ≡ j

pub placed-start : {list at : List ℕ} → is_reading_order list ≡ true → length at ≡ 64 → Placed list 0 at
placed-start {list} e long =
    record { high = omega arith; order = reading list e; long = long; placed = λ j h. absurd (omega arith) }

module _ {list : List ℕ} {i : ℕ} {at : List ℕ} (p : Placed list i at) where
  pub placed-next : i < 64 → Placed list (i + 1) (set at (get_or list i 0) i)
  placed-next more =
      record {
        high = omega arith;
        order = p.order;
        long = length-set at (get_or list i 0) i ∙ p.long;
        placed = λ j h. go j h (ℕ_discrete j i);
      }
    where
      go : (j : ℕ) → j < i + 1 → Dec (j ≡ i) → get_or (set at (get_or list i 0) i) (get_or list j 0) 0 ≡ j
      go j h (yes e) =
          ap (λ (k : ℕ). get_or (set at (get_or list i 0) i) (get_or list k 0) 0) e ∙
          get_or-set_same at (get_or list i 0) i 0 (omega (arith, p.long, p.order.low i more)) ∙ sym e
      go j h (no d) =
          get_or-set_other at (get_or list i 0) (get_or list j 0) i 0 (p.order.apart j i (omega arith) more) ∙ p.placed j (omega arith)

  pub placed-all : 64 ≤ i → (f : ℕ) → f < 64 → get_or at f 0 ≡ place_in list f
  placed-all done f h =
      let (j, l, e) = reading-all p.order f h in
      ap (λ (x : ℕ). get_or at x 0) (sym e) ∙ p.placed j (omega arith) ∙
      sym (place-in list j f (omega (arith, p.order.long)) e (λ k b q. p.order.apart k j b l (q ∙ sym e)))
