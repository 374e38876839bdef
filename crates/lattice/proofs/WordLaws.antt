-- This file is about words: two words are equal where their bits are, the overlap of two words has the bits that are set in both, and a
-- word is below 2 ^ n where no bit is set at n or above.
use Prim.Native.Nat.{ℕ, zero, suc, ◌+◌, ◌*◌, ◌-◌, ◌/◌, ◌%◌, ◌^◌, ◌<◌, ◌≤◌}
use mathlib.Core.Path.{◌≡◌, refl, sym, ap, subst, ◌∙◌}
use mathlib.Core.Bool.{Bool, true, false, ◌&&◌}
use mathlib.Core.Logic.{⊎_elim}
use native.Mathlib.Nat.{not-suc-le-zero, eq-or-lt_of_le, le_of_suc-le-suc, two-pow-succ, div-lt_iff_lt-mul, div-le_self, add-mul, mul-add, mul_assoc}
use native.Mathlib.Numerals.{add-one}
use native.Mathlib.Omega.{arith}
use lib.Dec.{leb, lit<}
use lib.Bits.{bit_and, and_block}
use mir.Val.{bool_byte}
use lib.Pow.{high, low, pow_pos, pow_mono, shl_exact}
use borrow.Author.Tests.{eq-eqb, eqb-true, le-leb, leb-true}
use Rattle.graphs.proofs.Search.{same_test, not-true-false, true-both}
use Rattle.lattice.specs.Words.{digit, word, part_of}
use Rattle.lattice.proofs.Every.{and_left, and_right, below_or_not}

digit-below : (b : Bool) (w : ℕ) → digit b * w ≤ w
digit-below true w = omega arith
digit-below false w = omega arith

pub word_below : (k : ℕ) (p : ℕ → Bool) → word k p < 2 ^ k
unfolding word
word_below zero p = omega arith
word_below (suc k) p = rw two-pow-succ (omega (arith, digit-below (p k) (2 ^ k), word_below k p))

pub word_none : (p : ℕ → Bool) → word 0 p ≡ 0
unfolding word
word_none p = refl

pub word_more : (k : ℕ) (p : ℕ → Bool) → word (k + 1) p ≡ digit (p k) * 2 ^ k + word k p
unfolding word
word_more k p = rw add-one

pub word_same : (k : ℕ) (p q : ℕ → Bool) → ((j : ℕ) → j < k → p j ≡ q j) → word k p ≡ word k q
unfolding word
word_same zero p q h = refl
word_same (suc k) p q h =
    let e : word k p ≡ word k q = word_same k p q λ j l. h j (omega arith) in
    let f : p k ≡ q k = h k (omega arith) in
    cc

digit-same : (a b : Bool) → digit a ≡ digit b → a ≡ b
digit-same true true h = refl
digit-same true false h = absurd (omega arith)
digit-same false true h = absurd (omega arith)
digit-same false false h = refl

pub word-bits : (k : ℕ) (p q : ℕ → Bool) → word k p ≡ word k q → (j : ℕ) → j < k → p j ≡ q j
unfolding word
word-bits zero p q h j l = absurd (not-suc-le-zero l)
word-bits (suc k) p q h j l =
    ⊎_elim
    (λ e.
    subst (λ (m : ℕ). p m ≡ q m) (sym e)
    (digit-same (p k) (q k)
    (sym (high (digit (p k)) k (word_below k p)) ∙ ap (λ (w : ℕ). w / 2 ^ k) h ∙ high (digit (q k)) k (word_below k q))))
    (λ s.
    word-bits k p q (sym (low (digit (p k)) k (word_below k p)) ∙ ap (λ (w : ℕ). w % 2 ^ k) h ∙ low (digit (q k)) k (word_below k q)) j
    s)
    (eq-or-lt_of_le (le_of_suc-le-suc l))

digit_and : (a b : Bool) → bit_and (digit a) (digit b) ≡ digit (a && b)
digit_and true true = refl
digit_and true false = refl
digit_and false true = refl
digit_and false false = refl

pub word_and : (k : ℕ) (p q : ℕ → Bool) → bit_and (word k p) (word k q) ≡ word k (λ j. p j && q j)
unfolding word
word_and zero p q = refl
word_and (suc k) p q =
    and_block k (digit (p k)) (digit (q k)) (word k p) (word k q) (word_below k p) (word_below k q) ∙
    rw (digit_and (p k) (q k), word_and k p q)

-- a word is part of another where all its bits are set in the other
pub bits-part-of : (k : ℕ) (p q : ℕ → Bool) → ((j : ℕ) → j < k → p j ≡ true → q j ≡ true) → part_of (word k p) (word k q) ≡ true
bits-part-of k p q h =
    eq-eqb _ _ (word_and k p q ∙ word_same k _ p λ j l. same_test (p j && q j) (p j) (and_left (p j) (q j)) λ e. true-both (p j) (q j) e (h j l e))

pub part-of-bits : (k : ℕ) (p q : ℕ → Bool) → part_of (word k p) (word k q) ≡ true → (j : ℕ) → j < k → p j ≡ true → q j ≡ true
part-of-bits k p q h j l e =
    and_right (p j) (q j) (word-bits k (λ i. p i && q i) p (sym (word_and k p q) ∙ eqb-true _ _ h) j l ∙ e)

-- a word whose bits at n and above do not stand is that of its bits below n
pub word_cut : (n k : ℕ) (p : ℕ → Bool) → n ≤ k → ((j : ℕ) → n ≤ j → j < k → p j ≡ false) → word k p ≡ word n p
unfolding word
word_cut n zero p l h = let e : n ≡ 0 = omega arith in rw e
word_cut n (suc k) p l h =
    ⊎_elim (λ e. rw e)
    (λ s.
    let e : p k ≡ false = h k (le_of_suc-le-suc s) (omega arith) in
    let r : word k p ≡ word n p = word_cut n k p (le_of_suc-le-suc s) (λ j a b. h j a (omega arith)) in
    rw e (omega arith))
    (eq-or-lt_of_le l)

-- a bit that stands makes the word as large as itself
pub word-least : (k j : ℕ) (p : ℕ → Bool) → j < k → p j ≡ true → 2 ^ j ≤ word k p
unfolding word
word-least zero j p l h = absurd (not-suc-le-zero l)
word-least (suc k) j p l h =
    ⊎_elim
    (λ e.
    let f : p k ≡ true = ap p (sym e) ∙ h in
    let g : 2 ^ j ≡ 2 ^ k = ap (λ (m : ℕ). 2 ^ m) e in
    rw f (omega arith))
    (λ s. omega (arith, word-least k j p s h))
    (eq-or-lt_of_le (le_of_suc-le-suc l))

pub pow-twice : (n : ℕ) → 0 < n → 2 ^ n ≡ 2 * 2 ^ (n - 1)
pow-twice zero l = absurd (not-suc-le-zero l)
pow-twice (suc n) l =
    let e : suc n - 1 ≡ n = omega arith in
    rw (e, two-pow-succ) (omega arith)

-- no bit stands at n or above where the word, shifted down by n - 1, is at most 1
pub short-bits : (n k : ℕ) (p : ℕ → Bool) → 0 < n → leb (word k p / 2 ^ (n - 1)) 1 ≡ true → (j : ℕ) → j < k → p j ≡ true → j < n
short-bits n k p l h j s e =
    ⊎_elim (λ r. r)
    (λ r.
    let a : 2 ^ n ≤ 2 ^ j = pow_mono r in
    let b : word k p / 2 ^ (n - 1) ≤ 1 = leb-true _ _ h in
    let c : word k p < 2 * 2 ^ (n - 1) = (div-lt_iff_lt-mul (pow_pos (n - 1))).0 (omega arith) in
    absurd (omega (arith, pow-twice n l, word-least k j p s e)))
    (below_or_not j n)

pub bits-short : (n k : ℕ) (p : ℕ → Bool) → 0 < n → n ≤ k → ((j : ℕ) → j < k → p j ≡ true → j < n) → leb (word k p / 2 ^ (n - 1)) 1 ≡ true
bits-short n k p l s h =
    let cut : word k p ≡ word n p =
    word_cut n k p s λ j a b. not-true-false (p j) λ e. absurd (omega (arith, h j b e)) in
    let c : word k p < 2 * 2 ^ (n - 1) = omega (arith, pow-twice n l, word_below n p) in
    let d : word k p / 2 ^ (n - 1) < 2 = (div-lt_iff_lt-mul (pow_pos (n - 1))).1 c in
    le-leb (word k p / 2 ^ (n - 1)) 1 (omega arith)

-- a bit shifted to its place, and added to a word below it
pub shifted : (j : ℕ) → j < 64 → (1 * 2 ^ j) % 2 ^ 64 ≡ 2 ^ j
shifted j l = shl_exact {a = 1} 1 j 64 (lit< tt) (omega arith) ∙ omega arith

pub bit-placed : (b : Bool) (j w : ℕ) → j < 64 → w + (bool_byte b * 2 ^ j) % 2 ^ 64 ≡ digit b * 2 ^ j + w
bit-placed true j w l = omega (arith, shifted j l)
bit-placed false j w l = omega arith

pub bit-fits : (b : Bool) (j w : ℕ) → j < 64 → w < 2 ^ j → w + (bool_byte b * 2 ^ j) % 2 ^ 64 < 2 ^ 64
bit-fits b j w l s =
    let e : 2 ^ suc j ≤ 2 ^ 64 = pow_mono l in
    omega (arith, bit-placed b j w l, digit-below b (2 ^ j), two-pow-succ j)

-- a word made from its highest bit on: w has the bits from j on
pub turn_more : (p : ℕ → Bool) (n j w d : ℕ) → 0 < j → word n p ≡ w * 2 ^ j + word j p → digit (p (j - 1)) ≡ d
    → word n p ≡ (2 * w + d) * 2 ^ (j - 1) + word (j - 1) p
unfolding word
turn_more p n zero w d l h e = absurd (not-suc-le-zero l)
turn_more p n (suc k) w d l h e =
    let q : suc k - 1 ≡ k = omega arith in
    let f : digit (p k) ≡ d = ap (λ (m : ℕ). digit (p m)) (sym q) ∙ e in
    let g : w * 2 ^ suc k ≡ w * 2 ^ k + w * 2 ^ k = ap (λ (x : ℕ). w * x) (two-pow-succ k) ∙ mul-add w (2 ^ k) (2 ^ k) in
    rw q (h ∙ omega (arith, g, ap (λ (x : ℕ). x * 2 ^ k) f, add-mul (2 * w) d (2 ^ k), mul_assoc 2 w (2 ^ k)))

pub turn-fits : (p : ℕ → Bool) (n j v : ℕ) → n ≤ 64 → word n p ≡ v * 2 ^ j + word j p → v < 2 ^ 64
turn-fits p n j v few h =
    let top : word n p / 2 ^ j ≡ v = ap (λ (x : ℕ). x / 2 ^ j) h ∙ high v j (word_below j p) in
    let most : 2 ^ n ≤ 2 ^ 64 = pow_mono few in
    omega (arith, top, div-le_self (word n p) (2 ^ j), word_below n p)

pub turn-begin : (v n : ℕ) → v ≡ 0 * 2 ^ n + v
turn-begin v n = omega arith

pub turn-done : (p : ℕ → Bool) (n j w : ℕ) → j ≤ 0 → word n p ≡ w * 2 ^ j + word j p → w ≡ word n p
unfolding word
turn-done p n zero w l h = omega (arith, h)
turn-done p n (suc j) w l h = absurd (not-suc-le-zero l)

-- a turn and the end of a loop that makes a word
pub next_word : (p : ℕ → Bool) (k : ℕ) (w v : ℕ) (b : Bool) → w ≡ word k p → b ≡ p k → v ≡ digit b * 2 ^ k + w → v ≡ word (k + 1) p
next_word p k w v b e f g = rw word_more (cc)

pub word-done : (p : ℕ → Bool) (k n w : ℕ) → k ≤ n → n ≤ k → w ≡ word k p → w ≡ word n p
word-done p k n w l s e = let f : k ≡ n = omega arith in rw (← f) e
