-- This file has the laws of lists: membership as a test, in `from`, `flat_map` and reversals; entries by their place, and the place of an
-- element; lists without repetition; and the pigeonhole principle, by which a list without repetition inside another is no longer than the
-- other.
use mathlib.Core.Path.{◌≡◌, refl, sym, ◌∙◌, ap, subst, ap₂}
use mathlib.Core.Bool.{Bool, true, false, cond, ◌||◌}
use mathlib.Core.List.Memᴰ
use mathlib.Core.List.{
  List,
  [],
  ◌∷◌,
  ◌++◌,
  map,
  flat_map,
  reverse,
  reverse-cons,
  reverse-append,
  reverse-reverse,
  Memᴰ,
}
use mathlib.Core.Logic.{◌⊎◌, inl, inr, ⊎_elim}
use mathlib.Core.Option.{Option, none, some}
use Prim.Native.Nat.{ℕ, zero, suc, ◌+◌, ◌≤◌, ◌<◌, zero-le}
use native.Mathlib.Decide.{ℕ_discrete}
use native.Mathlib.Nat.{add-zero, suc-add, add-suc}
use native.Mathlib.Omega.{arith}
use borrow.Author.Tests.{eqb-true, eq-eqb}
use lib.Dec.{eqb}
use lib.ListN.{length, get_or}
use Rattle.graphs.specs.Graph.{TellsApart}
use Rattle.graphs.specs.Rows.{from, features}
use Rattle.graphs.specs.Number.{member, index_of, count_some}
use Rattle.graphs.specs.Large.{Distinct}

-- Numbers in a row.

pub from_member : (f k n : ℕ) → f ≤ n → n < f + k → Memᴰ n (from f k)
unfolding from
from_member f zero n low high = absurd (omega arith)
from_member f (suc k) n low high = go (ℕ_discrete n f) (from_member (suc f) k n)
  where
    go : Dec (n ≡ f) → (suc f ≤ n → n < suc f + k → Memᴰ n (from (suc f) k)) → Memᴰ n (f ∷ from (suc f) k)
    go (yes e) rest = Memᴰ.head e
    go (no d) rest = Memᴰ.tail (rest (omega arith) (omega arith))

pub from-range : (f k n : ℕ) → Memᴰ n (from f k) → (f ≤ n) × (n < f + k)
unfolding from
from-range f zero n m = absurd (Memᴰ.not-nil m)
from-range f (suc k) n m = ⊎_elim (λ (e : n ≡ f). omega arith) (λ m'. let h = from-range (suc f) k n m' in omega arith) (Memᴰ.cases_cons m)

pub length_from : (f k : ℕ) → length (from f k) ≡ k
unfolding from
length_from f zero = refl
length_from f (suc k) = ap suc (length_from (suc f) k)

-- what a function makes of the numbers in a row, at a place
pub get_or-from : {X : Type 0} (g : ℕ → X) (d : X) (n k i : ℕ) → i < n → get_or (map g (from k n)) i d ≡ g (k + i)
unfolding from
get_or-from g d zero k i h = absurd (omega arith)
get_or-from g d (suc n) k zero h = ap g (sym (add-zero k))
get_or-from g d (suc n) k (suc i) h = get_or-from g d n (suc k) i (omega arith) ∙ ap g (suc-add k i ∙ sym (add-suc k i))

-- functions that agree on a list map it alike
pub map-listed : {X Y : Type 0} {f g : X → Y} (xs : List X) → ((x : X) → Memᴰ x xs → f x ≡ g x) → map f xs ≡ map g xs
map-listed [] e = refl
map-listed {Y = Y} (x ∷ xs) e =
    ap₂ (λ (y : Y) (ys : List Y). y ∷ ys) (e x (Memᴰ.head refl)) (map-listed xs (λ z m. e z (Memᴰ.tail m)))

-- an entry of a list is a member
pub get_or-member : {X : Type 0} (xs : List X) (i : ℕ) (d : X) → i < length xs → Memᴰ (get_or xs i d) xs
get_or-member [] i d h = absurd (omega arith)
get_or-member (x ∷ xs) zero d h = Memᴰ.head refl
get_or-member (x ∷ xs) (suc i) d h = Memᴰ.tail (get_or-member xs i d (omega arith))

-- an option counts as 0 or 1
pub count_small : {X : Type 0} (o : Option X) → count_some o ≤ 1
count_small none = omega arith
count_small (some x) = omega arith

-- every feature is listed
pub mem-features : (f : ℕ) → f < 64 → Memᴰ f features
mem-features f h = from_member 0 64 f (omega arith) (omega arith)

pub features-small : (f : ℕ) → Memᴰ f features → f < 64
features-small f m = omega (arith, from-range 0 64 f m)

-- Lists made of lists.

module _ {X Y : Type 0} (make : X → List Y) where
  pub flat_map-member : {x : X} {y : Y} {l : List X} → Memᴰ x l → Memᴰ y (make x) → Memᴰ y (flat_map make l)
  unfolding flat_map
  flat_map-member (Memᴰ.head {xs = xs} e) n = Memᴰ.append_left (flat_map make xs) (rw e at n)
  flat_map-member (Memᴰ.tail {x = z} m) n = Memᴰ.append_right (make z) (flat_map-member m n)

  pub flat_map-source : {y : Y} (l : List X) → Memᴰ y (flat_map make l) → (x : X) × Memᴰ x l × Memᴰ y (make x)
  unfolding flat_map
  flat_map-source [] m = absurd (Memᴰ.not-nil m)
  flat_map-source {y} (x ∷ l) m = go (flat_map-source l) (Memᴰ.append_cases (make x) m)
    where
      go : (Memᴰ y (flat_map make l) → (z : X) × Memᴰ z l × Memᴰ y (make z)) →
          Memᴰ y (make x) ⊎ Memᴰ y (flat_map make l) → (z : X) × Memᴰ z (x ∷ l) × Memᴰ y (make z)
      go rest (inl n) = (x, Memᴰ.head refl, n)
      go rest (inr n) = let (z, k, i) = rest n in (z, Memᴰ.tail k, i)

-- Reversal.

module _ {A : Type 0} where
  pub mem-reverse : {v : A} {vs : List A} → Memᴰ v vs → Memᴰ v (reverse vs)
  mem-reverse {v} (Memᴰ.head {x = x} {xs = xs} e) =
      subst (λ (l : List A). Memᴰ v l) (sym (reverse-cons x xs)) (Memᴰ.append_right (reverse xs) (Memᴰ.head e))
  mem-reverse {v} (Memᴰ.tail {x = x} {xs = xs} m) =
      subst (λ (l : List A). Memᴰ v l) (sym (reverse-cons x xs)) (Memᴰ.append_left (x ∷ []) (mem-reverse m))

  pub mem-unreverse : {v : A} {vs : List A} → Memᴰ v (reverse vs) → Memᴰ v vs
  mem-unreverse {v} {vs} m = subst (λ (l : List A). Memᴰ v l) (reverse-reverse vs) (mem-reverse m)

  pub reverse_snoc : (vs : List A) (v : A) → reverse (vs ++ (v ∷ [])) ≡ v ∷ reverse vs
  reverse_snoc vs v = reverse-append vs (v ∷ [])

-- Lists without repetition.

-- A list without one place of v still has all other elements.
pub remove : {A : Type 0} {v : A} {l : List A} → Memᴰ v l →
    (r : List A) × (length l ≡ suc (length r)) × ((y : A) → Memᴰ y l → (y ≡ v) ⊎ Memᴰ y r)
remove (Memᴰ.head {xs = xs} e) =
    (xs, refl, λ y m. ⊎_elim (λ d. inl (d ∙ sym e)) (λ n. inr n) (Memᴰ.cases_cons m))
remove (Memᴰ.tail {x = x} m) =
    let (r, n, other) = remove m in (
      x ∷ r,
      ap suc n,
      λ y k.
          ⊎_elim (λ e. inr (Memᴰ.head e)) (λ k. ⊎_elim (λ e. inl e) (λ i. inr (Memᴰ.tail i)) (other y k))
          (Memᴰ.cases_cons k),
    )

pub distinct-bound : {A : Type 0} (xs ys : List A) → Distinct xs → ((v : A) → Memᴰ v xs → Memᴰ v ys) →
    length xs ≤ length ys
distinct-bound [] ys d inside = zero-le
distinct-bound (v ∷ xs) ys d inside =
    let (r, n, other) = remove (inside v (Memᴰ.head refl)) in
    let rest : length xs ≤ length r = distinct-bound xs r d.1
    (λ u m. ⊎_elim (λ e. absurd (d.0 (Memᴰ.cast (sym e) m))) (λ k. k) (other u (inside u (Memᴰ.tail m)))) in
    omega arith

pub distinct_append : {A : Type 0} (xs ys : List A) → Distinct xs → Distinct ys →
    ((v : A) → Memᴰ v xs → Memᴰ v ys → ⊥) → Distinct (xs ++ ys)
distinct_append [] ys d e apart = e
distinct_append (x ∷ xs) ys d e apart = (
  λ m. ⊎_elim d.0 (apart x (Memᴰ.head refl)) (Memᴰ.append_cases xs m),
  distinct_append xs ys d.1 e (λ v m n. apart v (Memᴰ.tail m) n),
)

pub distinct_from : (f k : ℕ) → Distinct (from f k)
unfolding from
distinct_from f zero = tt
distinct_from f (suc k) = (λ m. omega (arith, from-range (suc f) k f m), distinct_from (suc f) k)

pub distinct-flat_map : {X Y : Type 0} (make : X → List Y) (l : List X) → Distinct l → ((x : X) → Distinct (make x)) →
    ((x z : X) (y : Y) → Memᴰ y (make x) → Memᴰ y (make z) → x ≡ z) → Distinct (flat_map make l)
unfolding flat_map
distinct-flat_map make [] d each apart = tt
distinct-flat_map make (x ∷ l) d each apart =
    distinct_append (make x) (flat_map make l) (each x) (distinct-flat_map make l d.1 each apart)
    (λ y m n. let (z, k, i) = flat_map-source make l n in d.0 (Memᴰ.cast (apart x z y m i) k))

-- Membership as a test, and the place of an element.

pub tells-eqb : TellsApart eqb
tells-eqb v w = (eqb-true v w, eq-eqb v w)

module _ {A : Type 0} (same : A → A → Bool) (tells : TellsApart same) where
  pub member-true : (v : A) (vs : List A) → member same v vs ≡ true → Memᴰ v vs
  unfolding member
  member-true v [] e = let z : ◌≡◌ {A = ℕ} 0 1 = cc in absurd (omega arith)
  member-true v (w ∷ ws) e = go (same v w) refl e (member-true v ws)
    where
      go : (t : Bool) → same v w ≡ t → (t || member same v ws) ≡ true → (member same v ws ≡ true → Memᴰ v ws) →
          Memᴰ v (w ∷ ws)
      go true h q later = Memᴰ.head ((tells v w).0 h)
      go false h q later = Memᴰ.tail (later q)

  pub member-complete : (v : A) (vs : List A) → Memᴰ v vs → member same v vs ≡ true
  unfolding member
  member-complete v [] x' = elim x' [ ]
  member-complete v (w ∷ ws) (Memᴰ.head e) = ap (λ (t : Bool). t || member same v ws) ((tells v w).1 e)
  member-complete v (w ∷ ws) (Memᴰ.tail m) = go (same v w) (member-complete v ws m)
    where
      go : (t : Bool) → member same v ws ≡ true → (t || member same v ws) ≡ true
      go true q = refl
      go false q = q

  pub member-false : (v : A) (vs : List A) → member same v vs ≡ false → Memᴰ v vs → ⊥
  member-false v vs e m =
      let h : member same v vs ≡ true = member-complete v vs m in
      let z : ◌≡◌ {A = ℕ} 0 1 = cc in
      omega arith

  pub get_or-index : {C : Type 0} (c : A → C) (d : C) (v : A) (vs : List A) → Memᴰ v vs →
      get_or (map c vs) (index_of same v vs) d ≡ c v
  unfolding index_of
  get_or-index c d v (w ∷ ws) m = go (same v w) refl m (get_or-index c d v ws)
    where
      go : (t : Bool) → same v w ≡ t → Memᴰ v (w ∷ ws) →
          (Memᴰ v ws → get_or (map c ws) (index_of same v ws) d ≡ c v) →
          get_or (c w ∷ map c ws) (cond t 0 (suc (index_of same v ws))) d ≡ c v
      go true e m later = ap c (sym ((tells v w).0 e))
      go false e (Memᴰ.head q) later =
          let h : same v w ≡ true = (tells v w).1 q in
          let z : ◌≡◌ {A = ℕ} 0 1 = cc in
          absurd (omega arith)
      go false e (Memᴰ.tail n) later = later n
  get_or-index c d v [] m = absurd (Memᴰ.not-nil m)

  pub index-injective : (v w : A) (vs : List A) → Memᴰ v vs → Memᴰ w vs → index_of same v vs ≡ index_of same w vs → v ≡ w
  index-injective v w vs m n e =
      sym (get_or-index (λ x. x) v v vs m) ∙ ap (λ (i : ℕ). get_or (map (λ x. x) vs) i v) e ∙ get_or-index (λ x. x) v w vs n

  pub index-first : (v : A) (vs : List A) → index_of same v (v ∷ vs) ≡ 0
  unfolding index_of
  index-first v vs = ap (λ (t : Bool). cond t 0 (suc (index_of same v vs))) ((tells v v).1 refl)

  -- what is listed has a place before the end
  pub index-within : (v : A) (vs : List A) → Memᴰ v vs → index_of same v vs < length vs
  unfolding index_of
  index-within v [] x' = elim x' [ ]
  index-within v (w ∷ ws) (Memᴰ.head e) =
      subst (λ (t : Bool). cond t 0 (suc (index_of same v ws)) < suc (length ws)) (sym ((tells v w).1 e)) (omega arith)
  index-within v (w ∷ ws) (Memᴰ.tail m) = go (same v w) (index-within v ws m)
    where
      go : (t : Bool) → index_of same v ws < length ws → cond t 0 (suc (index_of same v ws)) < suc (length ws)
      go true h = omega arith
      go false h = omega arith

-- Lists of numbers that leave none out.

-- A list of `count` different numbers below `count` holds each of them.
pub full-list : (count : ℕ) (xs : List ℕ) → Distinct xs → ((x : ℕ) → Memᴰ x xs → x < count) → length xs ≡ count →
    (v : ℕ) → v < count → Memᴰ v xs
full-list count xs d inside e v h = go (member eqb v xs) refl
  where
    listed : (x : ℕ) → Memᴰ x (v ∷ xs) → Memᴰ x (from 0 count)
    listed x m =
        from_member 0 count x (omega arith)
        (⊎_elim (λ (q : x ≡ v). omega arith) (λ n. omega (arith, inside x n)) (Memᴰ.cases_cons m))

    go : (b : Bool) → member eqb v xs ≡ b → Memᴰ v xs
    go true q = member-true eqb tells-eqb v xs q
    go false q =
        let over = distinct-bound (v ∷ xs) (from 0 count) (member-false eqb tells-eqb v xs q, d) listed in
        absurd (omega (arith, length_from 0 count))

-- an element of a list stands at some place of it
pub place-listed : {v : ℕ} {xs : List ℕ} → Memᴰ v xs → (i : ℕ) × (i < length xs) × (get_or xs i 0 ≡ v)
place-listed (Memᴰ.head e) = (0, omega arith, sym e)
place-listed (Memᴰ.tail m) = let (i, h, e) = place-listed m in (suc i, omega arith, e)

pub distinct-places : (xs : List ℕ) → ((i j : ℕ) → i < j → j < length xs → get_or xs i 0 ≡ get_or xs j 0 → ⊥) → Distinct xs
distinct-places [] apart = tt
distinct-places (x ∷ xs) apart = (
  λ m. let (i, h, e) = place-listed m in apart 0 (suc i) (omega arith) (omega arith) (sym e),
  distinct-places xs (λ i j h l. apart (suc i) (suc j) (omega arith) (omega arith)),
)

pub full-places : (count : ℕ) (xs : List ℕ) → length xs ≡ count → ((i : ℕ) → i < count → get_or xs i 0 < count) →
    ((i j : ℕ) → i < j → j < count → get_or xs i 0 ≡ get_or xs j 0 → ⊥) →
    (v : ℕ) → v < count → (i : ℕ) × (i < count) × (get_or xs i 0 ≡ v)
full-places count xs long inside apart v h =
    let (i, l, e) = place-listed (full-list count xs (distinct-places xs (λ i j a b. apart i j a (omega arith))) listed long v h) in
    (i, omega arith, e)
  where
    listed : (x : ℕ) → Memᴰ x xs → x < count
    listed x m = let (i, l, e) = place-listed m in omega (arith, inside i (omega arith))
