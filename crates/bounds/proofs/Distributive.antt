-- An accepted table is distributive exactly when every irreducible type is prime. The set of a type tells it from others, and the
-- overlap of two sets is the set of the meet; in a distributive table the union is the set of the join.
use Prim.Native.Nat.{ℕ, zero, suc, ◌^◌, ◌<◌, ◌≤◌}
use mathlib.Core.Path.{◌≡◌, refl, sym, ap, ap₂, subst, ◌∙◌}
use mathlib.Core.Bool.{Bool, true, false, not, ◌&&◌, ◌||◌}
use mathlib.Core.List.{List}
use mathlib.Core.Logic.{⊎_elim}
use native.Mathlib.Nat.{not-suc-le-zero}
use native.Mathlib.Omega.{arith}
use lib.ListN.{get_or}
use lib.Dec.{eqb}
use lib.Bits.{bit_and, bit_or, and_lt, or_lt}
use borrow.Author.Tests.{eq-eqb, ne_eqb, eqb-true, not-true}
use Rattle.graphs.proofs.Search.{same_test, not-true-false, true-both, either_true, true-left, true-right}
use Rattle.lattice.specs.Table.{every, implies, below, found_as, accepted, meet, join, cell, admits}
use Rattle.lattice.specs.Words.{Words, bit, without}
use Rattle.bounds.specs.Primes.{word_irreducible, word_prime}
use Rattle.bounds.specs.Sets.{distributive, smaller, irreducible, set_of}
use Rattle.lattice.proofs.Every.{and_left, and_right, implies-at, implies-from, every-at, every-all, not-false-true, true-not-false, below_suc}
use Rattle.lattice.proofs.WordLaws.{word_below, word_same, word_and}
use Rattle.lattice.proofs.Bits.{bit_word, bits-same, and-bit, or-bit}
use Rattle.lattice.proofs.Seeking.{without-inside}
use Rattle.lattice.proofs.Laws.{Meet, Join, zero-type, below-reflexive, below-transitive, below-antisymmetric, zero-least, meet-exists, join-exists}
use Rattle.bounds.proofs.PrimeLaws.{Covers, Splits, Primes, least-outside, prime-facts, facts-prime, primes-admit, laws, holder-at, holder-is, lower-bit, less-small}

-- the overlap with a union is the union of overlaps
and-over-or : (k a b c : ℕ) → a < 2 ^ k → b < 2 ^ k → c < 2 ^ k → bit_and a (bit_or b c) ≡ bit_or (bit_and a b) (bit_and a c)
and-over-or k a b c la lb lc =
    bits-same k (bit_and a (bit_or b c)) (bit_or (bit_and a b) (bit_and a c)) (and_lt k a (bit_or b c) la (or_lt k b c lb lc))
    (or_lt k (bit_and a b) (bit_and a c) (and_lt k a b la lb) (and_lt k a c la lc)) λ j l.
    and-bit a (bit_or b c) j ∙ ap (λ (x : Bool). bit a j && x) (or-bit b c j) ∙ spread (bit a j) (bit b j) (bit c j) ∙
    sym (or-bit (bit_and a b) (bit_and a c) j ∙ ap₂ (λ (x y : Bool). x || y) (and-bit a b j) (and-bit a c j))
  where
    spread : (x y z : Bool) → (x && (y || z)) ≡ ((x && y) || (x && z))
    spread true y z = refl
    spread false y z = refl

module _ (n : ℕ) (t : List ℕ) (ok : accepted n t ≡ true) where
  -- Where the types that pass are closed under joins, there is a greatest among them.
  module _ (p : ℕ → Bool) (least : p 0 ≡ true)
      (joins : (x y z : ℕ) → x < n → y < n → Join n t x y z → p x ≡ true → p y ≡ true → p z ≡ true) where
    greatest-before : (i : ℕ) → i ≤ n → (e : ℕ) × (e < n) × (p e ≡ true) × ((d : ℕ) → d < i → p d ≡ true → below t d e ≡ true)
    greatest-before zero l = (0, zero-type n t ok, least, λ d s. absurd (not-suc-le-zero s))
    greatest-before (suc i) l = go (p i) refl (greatest-before i (omega arith)) where
      go : (b : Bool) → p i ≡ b
          → (e : ℕ) × (e < n) × (p e ≡ true) × ((d : ℕ) → d < i → p d ≡ true → below t d e ≡ true)
          → (e : ℕ) × (e < n) × (p e ≡ true) × ((d : ℕ) → d < suc i → p d ≡ true → below t d e ≡ true)
      go false f (e, le, pe, most) = (
        e,
        le,
        pe,
        λ d s g. below_suc s (λ q. absurd (true-not-false (p d) g (ap p q ∙ f))) (λ a. most d a g),
      )
      go true f (e, le, pe, most) =
          let k : (k : ℕ) × Join n t e i k = join-exists n t ok e i le l in
          let j : Join n t e i k.0 = k.1 in (
            k.0,
            j.type,
            joins e i k.0 le l j pe f,
            λ d s g.
                below_suc s (λ q. subst (λ (x : ℕ). below t x k.0 ≡ true) (sym q) j.right)
                (λ a. below-transitive n t ok d e k.0 (omega arith) le j.type (most d a g) j.left),
          )

    greatest-passing : (e : ℕ) × (e < n) × (p e ≡ true) × ((d : ℕ) → d < n → p d ≡ true → below t d e ≡ true)
    greatest-passing = greatest-before n (omega arith)

  -- what is below a smaller type is smaller
  smaller-below : (a b j : ℕ) → a < n → b < n → j < n → below t a b ≡ true → smaller t b j ≡ true → smaller t a j ≡ true
  smaller-below a b j la lb lj ab less =
      let bj : below t b j ≡ true = and_left (below t b j) (not (eqb b j)) less in
      true-both (below t a j) (not (eqb a j)) (below-transitive n t ok a b j la lb lj ab bj)
      (ap not
      (ne_eqb a j λ q.
      true-not-false (eqb b j)
      (eq-eqb b j (below-antisymmetric n t ok b j lb lj bj (subst (λ (i : ℕ). below t i b ≡ true) q ab)))
      (not-true (eqb b j) (and_right (below t b j) (not (eqb b j)) less))))

  not-smaller : (j : ℕ) → smaller t j j ≡ true → ⊥
  not-smaller j h = true-not-false (eqb j j) (eq-eqb j j refl) (not-true (eqb j j) (and_right (below t j j) (not (eqb j j)) h))

  -- An irreducible type has one greatest smaller type, and no other has.
  irreducible-covers : (j : ℕ) → j < n → irreducible n t j ≡ true → (k : ℕ) × (k < n) × Covers n t j k
  unfolding irreducible
  irreducible-covers j l h =
      let pairs : every n (λ a. every n λ b. implies (smaller t a j && smaller t b j) (not (found_as j (join n t a b)))) ≡ true =
      and_right (not (eqb j 0)) _ h in
      let least : smaller t 0 j ≡ true =
      true-both (below t 0 j) (not (eqb 0 j)) (zero-least n t ok j l)
      (ap not (ne_eqb 0 j λ q. true-not-false (eqb j 0) (eq-eqb j 0 (sym q)) (not-true (eqb j 0) (and_left (not (eqb j 0)) _ h)))) in
      let joins : (x y z : ℕ) → x < n → y < n → Join n t x y z → smaller t x j ≡ true → smaller t y j ≡ true → smaller t z j ≡ true =
      λ x y z lx ly r sx sy.
      let other : not (found_as j (join n t x y)) ≡ true =
      implies-at (smaller t x j && smaller t y j) (not (found_as j (join n t x y)))
      (every-at (λ b. implies (smaller t x j && smaller t b j) (not (found_as j (join n t x b)))) n y (every-at _ n x pairs lx) ly)
      (true-both (smaller t x j) (smaller t y j) sx sy) in
      true-both (below t z j) (not (eqb z j))
      (r.least j l (and_left (below t x j) (not (eqb x j)) sx) (and_left (below t y j) (not (eqb y j)) sy))
      (ap (λ o. not (found_as j o)) (sym r.is) ∙ other) in
      let (k, lk, less, most) = greatest-passing (λ d. smaller t d j) least joins in (
        k,
        lk,
        λ d ld.
            same_test (below t d k) (smaller t d j) (λ e. smaller-below d k j ld lk l e less) (most d ld),
      )

  pub covers-irreducible : (j k : ℕ) → j < n → k < n → Covers n t j k → irreducible n t j ≡ true
  unfolding irreducible
  covers-irreducible j k l lk covers =
      true-both (not (eqb j 0)) _
      (ap not
      (ne_eqb j 0 λ q.
      not-smaller 0
      (sym (subst (λ (i : ℕ). below t 0 k ≡ smaller t 0 i) q (covers 0 (zero-type n t ok))) ∙ zero-least n t ok k lk)))
      (every-all _ n λ a la.
      every-all _ n λ b lb.
      implies-from (smaller t a j && smaller t b j) (not (found_as j (join n t a b))) λ e.
      let r : (m : ℕ) × Join n t a b m = join-exists n t ok a b la lb in
      let under : below t r.0 k ≡ true =
      r.1.least k lk (covers a la ∙ and_left (smaller t a j) (smaller t b j) e) (covers b lb ∙ and_right (smaller t a j) (smaller t b j) e) in
      ap (λ o. not (found_as j o)) r.1.is ∙
      and_right (below t r.0 j) (not (eqb r.0 j)) (sym (covers r.0 r.1.type) ∙ under))

  -- a type is below another where its irreducible types are
  pub below-by-sets : (a b : ℕ) → a < n → b < n → ((j : ℕ) → j < n → irreducible n t j ≡ true → below t j a ≡ true → below t j b ≡ true) →
      below t a b ≡ true
  below-by-sets a b la lb h =
      not-false-true (below t a b) λ f.
      let (j, l, ja, jb, k, lk, covers) = least-outside n t ok a b la lb f in
      true-not-false (below t j b) (h j l (covers-irreducible j k l lk covers) ja) jb

  pub set-bit : (a j : ℕ) → j < n → bit (set_of n t a) j ≡ (irreducible n t j && below t j a)
  unfolding set_of
  set-bit a j l = bit_word n (λ j. irreducible n t j && below t j a) j l

  set-small : (a : ℕ) → set_of n t a < 2 ^ n
  unfolding set_of
  set-small a = word_below n (λ j. irreducible n t j && below t j a)

  -- equal sets are of equal types
  pub sets-apart : (a b : ℕ) → a < n → b < n → set_of n t a ≡ set_of n t b → a ≡ b
  sets-apart a b la lb e = below-antisymmetric n t ok a b la lb (one a b la lb e) (one b a lb la (sym e)) where
    one : (a b : ℕ) → a < n → b < n → set_of n t a ≡ set_of n t b → below t a b ≡ true
    one a b la lb e =
        below-by-sets a b la lb λ j l i f.
        and_right (irreducible n t j) (below t j b)
        (sym (set-bit b j l) ∙ ap (λ (w : ℕ). bit w j) (sym e) ∙ set-bit a j l ∙ true-both (irreducible n t j) (below t j a) i f)

  -- the overlap of two sets is the set of the meet
  overlap : (a b m : ℕ) → a < n → b < n → Meet n t a b m → bit_and (set_of n t a) (set_of n t b) ≡ set_of n t m
  unfolding set_of
  overlap a b m la lb k =
      word_and n (λ j. irreducible n t j && below t j a) (λ j. irreducible n t j && below t j b) ∙
      word_same n _ (λ j. irreducible n t j && below t j m) λ j l.
      spread (irreducible n t j) (below t j a) (below t j b) (below t j m)
      (same_test (below t j a && below t j b) (below t j m)
      (λ e. k.greatest j l (and_left (below t j a) (below t j b) e) (and_right (below t j a) (below t j b) e))
      (λ e.
      true-both (below t j a) (below t j b) (below-transitive n t ok j m a l k.type la e k.left)
      (below-transitive n t ok j m b l k.type lb e k.right)))
    where
      spread : (i x y z : Bool) → (x && y) ≡ z → ((i && x) && (i && y)) ≡ (i && z)
      spread true x y z e = e
      spread false x y z e = refl

  pub sets-meet : (a b : ℕ) → a < n → b < n → bit_and (set_of n t a) (set_of n t b) ≡ set_of n t (cell (meet n t a b))
  sets-meet a b la lb =
      let r : (m : ℕ) × Meet n t a b m = meet-exists n t ok a b la lb in
      overlap a b r.0 la lb r.1 ∙ ap (λ o. set_of n t (cell o)) (sym r.1.is)

  -- every irreducible type is prime
  module _ (prime : (j : ℕ) → j < n → Primes n t j) where
    -- an irreducible type below a join is below one of the two
    prime-below : (a b c j : ℕ) → a < n → b < n → Join n t a b c → j < n → irreducible n t j ≡ true → below t j c ≡ true →
        below t j a || below t j b ≡ true
    prime-below a b c j la lb k l i e =
        let r : (k : ℕ) × (k < n) × Covers n t j k = irreducible-covers j l i in
        let s : (m : ℕ) × (m < n) × Splits n t j m = prime j l r.0 r.1 r.2 in
        not-false-true (below t j a || below t j b) λ f.
        let none : (x : ℕ) → x < n → below t j x ≡ false → below t x s.0 ≡ true = λ x lx g. s.2 x lx ∙ ap not g in
        let ja : below t j a ≡ false = not-true-false (below t j a) λ g. true-not-false _ (true-left (below t j a) (below t j b) g) f in
        let jb : below t j b ≡ false = not-true-false (below t j b) λ g. true-not-false _ (true-right (below t j a) (below t j b) g) f in
        true-not-false (below t j c) e
        (not-true (below t j c) (sym (s.2 c k.type) ∙ k.least s.0 s.1 (none a la ja) (none b lb jb)))

    union : (a b c : ℕ) → a < n → b < n → Join n t a b c → bit_or (set_of n t a) (set_of n t b) ≡ set_of n t c
    union a b c la lb k =
        bits-same n (bit_or (set_of n t a) (set_of n t b)) (set_of n t c) (or_lt n (set_of n t a) (set_of n t b) (set-small a) (set-small b))
        (set-small c) λ j l.
        or-bit (set_of n t a) (set_of n t b) j ∙ ap₂ (λ (x y : Bool). x || y) (set-bit a j l) (set-bit b j l) ∙
        spread (irreducible n t j) (below t j a) (below t j b) (below t j c)
        (λ i.
        same_test (below t j a || below t j b) (below t j c)
        (λ e.
        ⊎_elim (λ f. below-transitive n t ok j a c l la k.type f k.left) (λ f. below-transitive n t ok j b c l lb k.type f k.right)
        (either_true (below t j a) (below t j b) e))
        (prime-below a b c j la lb k l i)) ∙
        sym (set-bit c j l)
      where
        spread : (i x y z : Bool) → (i ≡ true → (x || y) ≡ z) → ((i && x) || (i && y)) ≡ (i && z)
        spread true x y z e = e refl
        spread false x y z e = refl

    primes-spread : distributive n t ≡ true
    unfolding distributive
    primes-spread =
        every-all _ n λ a la.
        every-all _ n λ b lb.
        every-all _ n λ c lc.
        let d : (d : ℕ) × Join n t b c d = join-exists n t ok b c lb lc in
        let l : (l : ℕ) × Meet n t a d.0 l = meet-exists n t ok a d.0 la d.1.type in
        let x : (x : ℕ) × Meet n t a b x = meet-exists n t ok a b la lb in
        let y : (y : ℕ) × Meet n t a c y = meet-exists n t ok a c la lc in
        let r : (r : ℕ) × Join n t x.0 y.0 r = join-exists n t ok x.0 y.0 x.1.type y.1.type in
        let same : l.0 ≡ r.0 =
        sets-apart l.0 r.0 l.1.type r.1.type
        (sym (overlap a d.0 l.0 la d.1.type l.1) ∙
        ap (bit_and (set_of n t a)) (sym (union b c d.0 lb lc d.1)) ∙
        and-over-or n (set_of n t a) (set_of n t b) (set_of n t c) (set-small a) (set-small b) (set-small c) ∙
        ap₂ bit_or (overlap a b x.0 la lb x.1) (overlap a c y.0 la lc y.1) ∙
        union x.0 y.0 r.0 x.1.type y.1.type r.1) in
        rw (d.1.is, x.1.is, y.1.is, l.1.is, r.1.is) (eq-eqb l.0 r.0 same)

  -- the table is distributive
  module _ (spread : distributive n t ≡ true) where
    spread_at : (a b c d l x y r : ℕ) → a < n → b < n → c < n → Join n t b c d → Meet n t a d l → Meet n t a b x → Meet n t a c y →
        Join n t x y r → l ≡ r
    unfolding distributive
    spread_at a b c d l x y r la lb lc jd ml mx my jr =
        let law : eqb (cell (meet n t a (cell (join n t b c)))) (cell (join n t (cell (meet n t a b)) (cell (meet n t a c)))) ≡ true =
        every-at _ n c (every-at _ n b (every-at _ n a spread la) lb) lc in
        let left : cell (meet n t a (cell (join n t b c))) ≡ l =
        ap (λ o. cell (meet n t a (cell o))) jd.is ∙ ap cell ml.is in
        let right : cell (join n t (cell (meet n t a b)) (cell (meet n t a c))) ≡ r =
        ap₂ (λ o p. cell (join n t (cell o) (cell p))) mx.is my.is ∙ ap cell jr.is in
        sym left ∙ eqb-true _ _ law ∙ right

    -- the types not above an irreducible type have a greatest one
    spread-primes : (j : ℕ) → j < n → Primes n t j
    spread-primes j l k lk covers =
        let i : irreducible n t j ≡ true = covers-irreducible j k l lk covers in
        let own : below t j k ≡ false = covers j l ∙ rw (eq-eqb j j refl, below-reflexive n t ok j l) in
        let under : (x m : ℕ) → x < n → Meet n t j x m → not (below t j x) ≡ true → below t m k ≡ true =
        λ x m lx mm f.
        covers m mm.type ∙
        true-both (below t m j) (not (eqb m j)) mm.left
        (ap not
        (ne_eqb m j λ q. true-not-false (below t j x) (subst (λ (w : ℕ). below t w x ≡ true) q mm.right) (not-true (below t j x) f))) in
        let least : not (below t j 0) ≡ true =
        ap not
        (not-true-false (below t j 0) λ e.
        let z : j ≡ 0 = below-antisymmetric n t ok j 0 l (zero-type n t ok) e (zero-least n t ok j l) in
        true-not-false (below t j k) (subst (λ (w : ℕ). below t w k ≡ true) (sym z) (zero-least n t ok k lk)) own) in
        let joins : (x y z : ℕ) → x < n → y < n → Join n t x y z → not (below t j x) ≡ true → not (below t j y) ≡ true →
        not (below t j z) ≡ true =
        λ x y z lx ly jz fx fy.
        ap not
        (not-true-false (below t j z) λ e.
        let u : (u : ℕ) × Meet n t j x u = meet-exists n t ok j x l lx in
        let v : (v : ℕ) × Meet n t j y v = meet-exists n t ok j y l ly in
        let r : (r : ℕ) × Join n t u.0 v.0 r = join-exists n t ok u.0 v.0 u.1.type v.1.type in
        let m : (m : ℕ) × Meet n t j z m = meet-exists n t ok j z l jz.type in
        let same : m.0 ≡ r.0 = spread_at j x y z m.0 u.0 v.0 r.0 l lx ly jz m.1 u.1 v.1 r.1 in
        let jm : below t j m.0 ≡ true = m.1.greatest j l (below-reflexive n t ok j l) e in
        let rk : below t r.0 k ≡ true =
        r.1.least k lk (under x u.0 lx u.1 fx) (under y v.0 ly v.1 fy) in
        true-not-false (below t j k)
        (below-transitive n t ok j r.0 k l r.1.type lk (subst (λ (w : ℕ). below t j w ≡ true) same jm) rk) own) in
        let (m, lm, apart, most) = greatest-passing (λ d. not (below t j d)) least joins in (
          m,
          lm,
          λ d ld.
              same_test (below t d m) (not (below t j d))
              (λ e.
              ap not
              (not-true-false (below t j d) λ f.
              true-not-false (below t j m) (below-transitive n t ok j d m l ld lm f e) (not-true (below t j m) apart)))
              (most d ld),
        )

    pub sets-join : (a b : ℕ) → a < n → b < n → bit_or (set_of n t a) (set_of n t b) ≡ set_of n t (cell (join n t a b))
    sets-join a b la lb =
        let r : (m : ℕ) × Join n t a b m = join-exists n t ok a b la lb in
        union spread-primes a b r.0 la lb r.1 ∙ ap (λ o. set_of n t (cell o)) (sym r.1.is)

  module _ (ws : List ℕ) (words : Words n t false ws) where
    -- the test on words decides whether the table is distributive
    pub primes-distributive : every n (word_prime n ws) ≡ distributive n t
    primes-distributive =
        same_test (every n (word_prime n ws)) (distributive n t)
        (λ h. primes-spread λ j l. prime-facts n t ws ok words j l (every-at _ n j h l))
        (λ h. every-all _ n λ j l. facts-prime n t ws ok words j l (spread-primes h j l))

    -- and a table is distributive exactly where it admits differences
    pub admits-distributive : admits n t ≡ distributive n t
    admits-distributive = sym (primes-admit n t ws ok words) ∙ primes-distributive

    -- the test on words decides whether a type is irreducible
    pub word-irreducible : (j : ℕ) → j < n → word_irreducible n ws j ≡ irreducible n t j
    unfolding word_irreducible
    word-irreducible j l =
        let lower : ℕ = without (get_or ws j 0) (2 ^ j) in
        same_test (word_irreducible n ws j) (irreducible n t j)
        (λ e.
        let (k, lk, are) = holder-is n t ws ok words lower e in
        covers-irreducible j k l lk λ d ld. are d ld ∙ lower-bit n t ws ok words j d l ld)
        (λ e.
        let (k, lk, covers) = irreducible-covers j l e in
        holder-at n t ws ok words lower k (less-small n t ws ok words j (2 ^ j) l)
        (without-inside n (get_or ws j 0) (2 ^ j) (λ d. (laws n t ws ok words).inside j d l)) lk λ d ld.
        covers d ld ∙ sym (lower-bit n t ws ok words j d l ld))
