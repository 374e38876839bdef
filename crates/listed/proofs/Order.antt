-- Laws of byte order, and of lists of records that ascend in it.
use mathlib.Core.Path.{◌≡◌, refl, sym, ◌∙◌, ap, subst}
use mathlib.Core.Bool.{Bool, true, false, cond, ◌&&◌, ◌||◌}
use mathlib.Core.List.Memᴰ
use mathlib.Core.List.{List, [], ◌∷◌, ◌++◌, map, Memᴰ}
use mathlib.Core.Logic.{◌⊎◌, inl, inr, ⊎_elim}
use mathlib.Core.Option.{Option, none, some}
use Prim.Native.Nat.{ℕ, ◌≤◌, ◌<◌}
use native.Mathlib.Omega.{arith}
use native.Mathlib.Decide.{ℕ_discrete, dec_le}
use borrow.Author.Tests.{lt-ltb, ltb-true, eq-eqb, eqb-true}
use lib.Dec.{eqb, ltb}
use Rattle.graphs.proofs.Search.{both_true, true-both, either_true, true-right, true-left}
use Rattle.listed.specs.Listing.{precedes, first_after}

abbrev pub Before : List ℕ → List ℕ → Type 0
Before xs ys = precedes xs ys ≡ true

pub false-true : {X : Type 0} → false ≡ true → X
false-true e = let z : ◌≡◌ {A = ℕ} 0 1 = cc in absurd (omega arith)

pub less-before : (x y : ℕ) (xs ys : List ℕ) → x < y → Before (x ∷ xs) (y ∷ ys)
unfolding precedes
less-before x y xs ys h = true-left (ltb x y) (eqb x y && precedes xs ys) (lt-ltb x y h)

pub same-before : (x : ℕ) (xs ys : List ℕ) → Before xs ys → Before (x ∷ xs) (x ∷ ys)
unfolding precedes
same-before x xs ys h = true-right (ltb x x) (eqb x x && precedes xs ys) (true-both (eqb x x) (precedes xs ys) (eq-eqb x x refl) h)

pub before-parts : (x y : ℕ) (xs ys : List ℕ) → Before (x ∷ xs) (y ∷ ys) → (x < y) ⊎ ((x ≡ y) × Before xs ys)
unfolding precedes
before-parts x y xs ys h =
    ⊎_elim (λ e. inl (ltb-true x y e))
    (λ e. let (p, q) = both_true (eqb x y) (precedes xs ys) e in inr (eqb-true x y p, q))
    (either_true (ltb x y) (eqb x y && precedes xs ys) h)

pub before-irrefl : (xs : List ℕ) → Before xs xs → ⊥
unfolding precedes
before-irrefl [] h = false-true h
before-irrefl (x ∷ xs) h = ⊎_elim (λ (l : x < x). omega arith) (λ p. before-irrefl xs p.1) (before-parts x x xs xs h)

pub before-trans : (xs ys zs : List ℕ) → Before xs ys → Before ys zs → Before xs zs
unfolding precedes
before-trans [] [] zs h k = k
before-trans [] (y ∷ ys) [] h k = false-true k
before-trans [] (y ∷ ys) (z ∷ zs) h k = refl
before-trans (x ∷ xs) [] zs h k = false-true h
before-trans (x ∷ xs) (y ∷ ys) [] h k = false-true k
before-trans (x ∷ xs) (y ∷ ys) (z ∷ zs) h k = go (before-trans xs ys zs) (before-parts x y xs ys h) (before-parts y z ys zs k)
  where
    go : (Before xs ys → Before ys zs → Before xs zs) → (x < y) ⊎ ((x ≡ y) × Before xs ys) → (y < z) ⊎ ((y ≡ z) × Before ys zs) → Before (x ∷ xs) (z ∷ zs)
    go rest (inl a) (inl b) = less-before x z xs zs (omega arith)
    go rest (inl a) (inr (b, c)) = less-before x z xs zs (omega arith)
    go rest (inr (a, c)) (inl b) = less-before x z xs zs (omega arith)
    go rest (inr (a, c)) (inr (b, d)) = subst (λ (m : ℕ). Before (x ∷ xs) (m ∷ zs)) (a ∙ b) (same-before x xs zs (rest c d))

pub before-cases : (xs ys : List ℕ) → Before xs ys ⊎ (xs ≡ ys) ⊎ Before ys xs
unfolding precedes
before-cases [] [] = inr (inl refl)
before-cases [] (y ∷ ys) = inl refl
before-cases (x ∷ xs) [] = inr (inr refl)
before-cases (x ∷ xs) (y ∷ ys) = go (ℕ_discrete x y) (dec_le x y) (before-cases xs ys)
  where
    same : x ≡ y → Before xs ys ⊎ (xs ≡ ys) ⊎ Before ys xs → Before (x ∷ xs) (y ∷ ys) ⊎ (x ∷ xs ≡ y ∷ ys) ⊎ Before (y ∷ ys) (x ∷ xs)
    same e (inl h) = inl (subst (λ (m : ℕ). Before (x ∷ xs) (m ∷ ys)) e (same-before x xs ys h))
    same e (inr (inl q)) = inr (inl cc)
    same e (inr (inr h)) = inr (inr (subst (λ (m : ℕ). Before (m ∷ ys) (x ∷ xs)) e (same-before x ys xs h)))

    go : Dec (x ≡ y) → Dec (x ≤ y) → Before xs ys ⊎ (xs ≡ ys) ⊎ Before ys xs → Before (x ∷ xs) (y ∷ ys) ⊎ (x ∷ xs ≡ y ∷ ys) ⊎ Before (y ∷ ys) (x ∷ xs)
    go (yes e) d rest = same e rest
    go (no n) (yes l) rest = inl (less-before x y xs ys (omega arith))
    go (no n) (no l) rest = inr (inr (less-before y x ys xs (omega arith)))

-- The lists differ at some place, and the first has the lesser byte at the first such place.
unfoldable pub parts : List ℕ → List ℕ → Bool
parts [] ys = false
parts (x ∷ xs) [] = false
parts (x ∷ xs) (y ∷ ys) = ltb x y || (eqb x y && parts xs ys)

pub parts-before : (xs ys us vs : List ℕ) → parts xs ys ≡ true → Before (xs ++ us) (ys ++ vs)
unfolding parts
parts-before [] ys us vs h = false-true h
parts-before (x ∷ xs) [] us vs h = false-true h
parts-before (x ∷ xs) (y ∷ ys) us vs h = go (parts-before xs ys us vs) (either_true (ltb x y) (eqb x y && parts xs ys) h)
  where
    go : (parts xs ys ≡ true → Before (xs ++ us) (ys ++ vs)) → (ltb x y ≡ true) ⊎ ((eqb x y && parts xs ys) ≡ true) → Before (x ∷ xs ++ us) (y ∷ ys ++ vs)
    go rest (inl l) = less-before x y (xs ++ us) (ys ++ vs) (ltb-true x y l)
    go rest (inr e) =
        let (p, q) = both_true (eqb x y) (parts xs ys) e in
        subst (λ (m : ℕ). Before (x ∷ xs ++ us) (m ∷ ys ++ vs)) (eqb-true x y p) (same-before x (xs ++ us) (ys ++ vs) (rest q))

pub prefix-before : (xs us vs : List ℕ) → Before us vs → Before (xs ++ us) (xs ++ vs)
prefix-before [] us vs h = h
prefix-before (x ∷ xs) us vs h = same-before x (xs ++ us) (xs ++ vs) (prefix-before xs us vs h)

-- Lists that ascend.

abbrev pub Ascends : List (List ℕ) → Type 0
Ascends [] = Unit {0}
Ascends (x ∷ xs) = ((y : List ℕ) → Memᴰ y xs → Before x y) × Ascends xs

pub ascends-append : (xs ys : List (List ℕ)) → Ascends xs → Ascends ys →
    ((x y : List ℕ) → Memᴰ x xs → Memᴰ y ys → Before x y) → Ascends (xs ++ ys)
ascends-append [] ys a b h = b
ascends-append (x ∷ xs) ys a b h = (
  λ y m. ⊎_elim (λ n. a.0 y n) (λ n. h x y (Memᴰ.head refl) n) (Memᴰ.append_cases xs m),
  ascends-append xs ys a.1 b (λ z y m n. h z y (Memᴰ.tail m) n),
)

pub map_source : {X Y : Type 0} (f : X → Y) {y : Y} (l : List X) → Memᴰ y (map f l) → (x : X) × Memᴰ x l × (y ≡ f x)
map_source f [] m = absurd (Memᴰ.not-nil m)
map_source {X} {Y} f {y} (x ∷ l) m = go (map_source f l) (Memᴰ.cases_cons m)
  where
    go : (Memᴰ y (map f l) → (z : X) × Memᴰ z l × (y ≡ f z)) → (y ≡ f x) ⊎ Memᴰ y (map f l) → (z : X) × Memᴰ z (x ∷ l) × (y ≡ f z)
    go rest (inl e) = (x, Memᴰ.head refl, e)
    go rest (inr n) = let (z, k, e) = rest n in (z, Memᴰ.tail k, e)

pub map-member : {X Y : Type 0} (f : X → Y) {x : X} {l : List X} → Memᴰ x l → Memᴰ (f x) (map f l)
map-member f (Memᴰ.head e) = Memᴰ.head (ap f e)
map-member f (Memᴰ.tail m) = Memᴰ.tail (map-member f m)

pub ascends-map : (f : List ℕ → List ℕ) (xs : List (List ℕ)) →
    ((x y : List ℕ) → Memᴰ x xs → Memᴰ y xs → Before x y → Before (f x) (f y)) → Ascends xs → Ascends (map f xs)
ascends-map f [] h a = tt
ascends-map f (x ∷ xs) h a = (
  λ y m. let (z, k, e) = map_source f xs m in
      subst (λ (w : List ℕ). Before (f x) w) (sym e) (h x z (Memᴰ.head refl) (Memᴰ.tail k) (a.0 z k)),
  ascends-map f xs (λ y z m n. h y z (Memᴰ.tail m) (Memᴰ.tail n)) a.1,
)

-- In a list of records that ascends, the first record that the bytes precede is the least such record.

-- r is one of the records, above the bytes, and no record above the bytes is less.
pub record Least (L : List (List ℕ)) (bytes r : List ℕ) : Type 0 where
  pub among : Memᴰ r L
  pub above : Before bytes r
  pub least : (s : List ℕ) → Memᴰ s L → Before bytes s → Before s r → ⊥

pub first-least : (L : List (List ℕ)) (bytes r : List ℕ) → Ascends L → first_after bytes L ≡ some r → Least L bytes r
unfolding first_after
first-least [] bytes r a e = absurd (let z : ◌≡◌ {A = ℕ} 0 1 = cc in omega arith)
first-least (x ∷ L) bytes r a e = go (precedes bytes x) refl e (first-least L bytes r a.1)
  where
    go : (b : Bool) → precedes bytes x ≡ b → cond b (some x) (first_after bytes L) ≡ some r → (first_after bytes L ≡ some r → Least L bytes r) → Least (x ∷ L) bytes r
    go true t q rest =
        let same : x ≡ r = cc in
        record {
          among = Memᴰ.head (sym same);
          above = subst (λ (w : List ℕ). Before bytes w) same t;
          least = λ s m h k. ⊎_elim (λ (i : s ≡ x). before-irrefl x (subst (λ (w : List ℕ). Before w x) i (subst (λ (w : List ℕ). Before s w) (sym same) k)))
              (λ n. before-irrefl x (before-trans x s x (a.0 s n) (subst (λ (w : List ℕ). Before s w) (sym same) k))) (Memᴰ.cases_cons m);
        }
    go false t q rest =
        let l = rest q in
        record {
          among = Memᴰ.tail l.among;
          above = l.above;
          least = λ s m h k. ⊎_elim (λ (i : s ≡ x). false-true (sym t ∙ subst (λ (w : List ℕ). Before bytes w) i h)) (λ n. l.least s n h k) (Memᴰ.cases_cons m);
        }

pub none_above : (L : List (List ℕ)) (bytes s : List ℕ) → first_after bytes L ≡ none → Memᴰ s L → Before bytes s → ⊥
unfolding first_after
none_above [] bytes s e m h = Memᴰ.not-nil m
none_above (x ∷ L) bytes s e m h = go (precedes bytes x) refl e (λ q n. none_above L bytes s q n h)
  where
    go : (b : Bool) → precedes bytes x ≡ b → cond b (some x) (first_after bytes L) ≡ none → (first_after bytes L ≡ none → Memᴰ s L → ⊥) → ⊥
    go true t q rest = let z : ◌≡◌ {A = ℕ} 0 1 = cc in omega arith
    go false t q rest = ⊎_elim (λ (i : s ≡ x). false-true (sym t ∙ subst (λ (w : List ℕ). Before bytes w) i h)) (rest q) (Memᴰ.cases_cons m)

-- The least record above the bytes is the first that the bytes precede.
pub least_first : (L : List (List ℕ)) (bytes r : List ℕ) → Ascends L → Least L bytes r → first_after bytes L ≡ some r
least_first L bytes r a l = go (first_after bytes L) refl
  where
    go : (o : Option (List ℕ)) → first_after bytes L ≡ o → o ≡ some r
    go none e = absurd (none_above L bytes r e l.among l.above)
    go (some s) e =
        let k = first-least L bytes s a e in
        ⊎_elim (λ (h : Before s r). absurd (l.least s k.among k.above h))
        (⊎_elim (λ (q : s ≡ r). ap {B = Option (List ℕ)} some q) (λ (h : Before r s). absurd (k.least r l.among l.above h))) (before-cases s r)

pub above-none : (L : List (List ℕ)) (bytes : List ℕ) → Ascends L → ((s : List ℕ) → Memᴰ s L → Before bytes s → ⊥) → first_after bytes L ≡ none
above-none L bytes a h = go (first_after bytes L) refl
  where
    go : (o : Option (List ℕ)) → first_after bytes L ≡ o → o ≡ none
    go none e = refl
    go (some s) e = let k = first-least L bytes s a e in absurd (h s k.among k.above)
