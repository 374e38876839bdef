-- This file is about the bits of numbers: a word has the bits that it is made of, and numbers below 2 ^ 64 with the same bits are one. It
-- says what the bit operations and the counts of zeros tell about bits.
use Prim.Native.Nat.{ℕ, zero, suc, ◌+◌, ◌*◌, ◌-◌, ◌/◌, ◌%◌, ◌^◌, ◌<◌, ◌≤◌}
use mathlib.Core.Path.{◌≡◌, refl, sym, ap, ap₂, subst, ◌∙◌}
use mathlib.Core.Bool.{Bool, true, false, not, ◌&&◌, ◌||◌, and-false}
use mathlib.Core.List.{List}
use native.Mathlib.Nat.{mod-lt, zero-div, div-eq_of_lt, mod-eq_of_lt, two-pow-succ, div-lt_iff_lt-mul, le-div_iff_mul-le, lt_of_lt_of_le, add-zero, add-suc, add-mul, mul_assoc, mul_comm}
use native.Mathlib.Decide.{dec_le, ℕ_discrete}
use native.Mathlib.Omega.{arith}
use lib.Bits.{bit_and, bit_or, bit_xor, and_shr, or_shr, xor_shr, and_mod, or_mod, xor_mod, xor_add_and, and_le_l, and_step, and_self}
use lib.Count.{count_trailing_zeros, under, count_leading_zeros, leading_top}
use lib.Dec.{leb, eqb}
use lib.ListN.{length, get_or, get_or-eq_default}
use lib.Pow.{mod-pow-add, shr-shr, shr_lt, pow_mono, pow_pos, pow-add, shl_exact}
use borrow.Author.Tests.{eq-eqb, ne_eqb, eqb-true, leb-true}
use Rattle.graphs.proofs.Search.{true-both}
use Rattle.lattice.specs.Table.{below}
use Rattle.lattice.specs.Words.{digit, word, related, bit, without, part_of}
use Rattle.lattice.proofs.Every.{and_right, true-not-false}
use Rattle.lattice.proofs.WordLaws.{word_below, word_same, word-bits, word_cut, pow-twice, turn_more, turn-fits}

two : 0 < 2
two = omega arith

bit-digit : (w j : ℕ) → digit (bit w j) ≡ w / 2 ^ j % 2
unfolding bit
bit-digit w j = go (w / 2 ^ j % 2) (mod-lt (w / 2 ^ j) two) where
  go : (d : ℕ) → d < 2 → digit (eqb d 1) ≡ d
  go zero l = refl
  go (suc zero) l = refl
  go (suc (suc d)) l = absurd (omega arith)

-- the k low bits of a number make its remainder by 2 ^ k
word-bit : (k w : ℕ) → word k (bit w) ≡ w % 2 ^ k
unfolding word
word-bit zero w = omega arith
word-bit (suc k) w =
    ap₂ (λ (d r : ℕ). d * 2 ^ k + r) (bit-digit w k) (word-bit k w) ∙ sym (mod-pow-add w 1 k) ∙
    ap (λ (x : ℕ). w % 2 ^ x) (omega arith)

bits-word : (k w : ℕ) → w < 2 ^ k → word k (bit w) ≡ w
bits-word k w l = word-bit k w ∙ mod-eq_of_lt l

-- a word has the bits that it is made of
pub bit_word : (k : ℕ) (p : ℕ → Bool) (j : ℕ) → j < k → bit (word k p) j ≡ p j
bit_word k p j l = word-bits k (bit (word k p)) p (bits-word k (word k p) (word_below k p)) j l

pub bits-same : (k v w : ℕ) → v < 2 ^ k → w < 2 ^ k → ((j : ℕ) → j < k → bit v j ≡ bit w j) → v ≡ w
bits-same k v w l s h = sym (bits-word k v l) ∙ word_same k (bit v) (bit w) h ∙ bits-word k w s

-- a word has no bit above those that it is made of
pub word-inside : (k : ℕ) (p : ℕ → Bool) (j : ℕ) → j < 64 → bit (word k p) j ≡ true → j < k
unfolding bit
word-inside k p j s e = go (dec_le k j) where
  go : Dec (k ≤ j) → j < k
  go (yes above) =
      let most : 2 ^ k ≤ 2 ^ j = pow_mono above in
      let none : word k p / 2 ^ j ≡ 0 = div-eq_of_lt (omega (arith, word_below k p)) in
      absurd (true-not-false (eqb (word k p / 2 ^ j % 2) 1) e (rw none))
  go (no inside) = omega arith

-- a number has no bit at n or above where it is at most 1 once it is shifted down by n - 1
pub short-inside : (n w j : ℕ) → 0 < n → leb (w / 2 ^ (n - 1)) 1 ≡ true → bit w j ≡ true → j < n
unfolding bit
short-inside n w j l h e = go (dec_le n j) where
  go : Dec (n ≤ j) → j < n
  go (yes above) =
      let most : 2 ^ n ≤ 2 ^ j = pow_mono above in
      let short : w / 2 ^ (n - 1) ≤ 1 = leb-true _ _ h in
      let under : w < 2 * 2 ^ (n - 1) = (div-lt_iff_lt-mul (pow_pos (n - 1))).0 (omega arith) in
      let none : w / 2 ^ j ≡ 0 = div-eq_of_lt (omega (arith, pow-twice n l)) in
      absurd (true-not-false (eqb (w / 2 ^ j % 2) 1) e (rw none))
  go (no inside) = omega arith

pub no-bit : (j : ℕ) → bit 0 j ≡ false
unfolding bit
no-bit j = rw (zero-div (2 ^ j))

-- a number with a bit is not 0
bit-positive : (w j : ℕ) → bit w j ≡ true → 0 < w
bit-positive zero j h = absurd (true-not-false (bit 0 j) h (no-bit j))
bit-positive (suc w) j h = omega arith

-- 2 ^ j is the word of one bit
one_word : (n j : ℕ) → j < n → word n (λ i. eqb i j) ≡ 2 ^ j
unfolding word
one_word n j l =
    let cut : word n (λ i. eqb i j) ≡ word (suc j) (λ i. eqb i j) =
    word_cut (suc j) n (λ i. eqb i j) l (λ i a b. ne_eqb i j (λ e. absurd (omega arith))) in
    let low : word j (λ i. eqb i j) ≡ word 0 (λ i. eqb i j) =
    word_cut 0 j (λ i. eqb i j) (omega arith) (λ i a b. ne_eqb i j (λ e. absurd (omega arith))) in
    cut ∙ rw (eq-eqb j j refl, low) (omega arith)

pub one_bit : (j k : ℕ) → bit (2 ^ j) k ≡ eqb k j
one_bit j k =
    let n : ℕ = suc (j + k) in
    ap (λ (w : ℕ). bit w k) (sym (one_word n j (omega arith))) ∙ bit_word n (λ i. eqb i j) k (omega arith)

pub and-bit : (a b j : ℕ) → bit (bit_and a b) j ≡ (bit a j && bit b j)
unfolding bit
and-bit a b j = ap (λ (x : ℕ). eqb (x % 2) 1) (and_shr a b j) ∙ odd (a / 2 ^ j) (b / 2 ^ j) where
  go : (c d : ℕ) → c < 2 → d < 2 → eqb (bit_and c d) 1 ≡ (eqb c 1 && eqb d 1)
  go zero d l s = refl
  go (suc zero) zero l s = refl
  go (suc zero) (suc zero) l s = refl
  go (suc zero) (suc (suc d)) l s = absurd (omega arith)
  go (suc (suc c)) d l s = absurd (omega arith)

  odd : (x y : ℕ) → eqb (bit_and x y % 2) 1 ≡ (eqb (x % 2) 1 && eqb (y % 2) 1)
  odd x y = ap (λ (z : ℕ). eqb z 1) (and_mod x y 1) ∙ go (x % 2) (y % 2) (mod-lt x two) (mod-lt y two)

pub or-bit : (a b j : ℕ) → bit (bit_or a b) j ≡ (bit a j || bit b j)
unfolding bit
or-bit a b j = ap (λ (x : ℕ). eqb (x % 2) 1) (or_shr a b j) ∙ odd (a / 2 ^ j) (b / 2 ^ j) where
  go : (c d : ℕ) → c < 2 → d < 2 → eqb (bit_or c d) 1 ≡ (eqb c 1 || eqb d 1)
  go zero zero l s = refl
  go zero (suc zero) l s = refl
  go zero (suc (suc d)) l s = absurd (omega arith)
  go (suc zero) zero l s = refl
  go (suc zero) (suc zero) l s = refl
  go (suc zero) (suc (suc d)) l s = absurd (omega arith)
  go (suc (suc c)) d l s = absurd (omega arith)

  odd : (x y : ℕ) → eqb (bit_or x y % 2) 1 ≡ (eqb (x % 2) 1 || eqb (y % 2) 1)
  odd x y = ap (λ (z : ℕ). eqb z 1) (or_mod x y 1) ∙ go (x % 2) (y % 2) (mod-lt x two) (mod-lt y two)

pub without-bit : (a b j : ℕ) → bit (without a b) j ≡ (bit a j && not (bit b j))
unfolding bit
without-bit a b j =
    ap (λ (x : ℕ). eqb (x % 2) 1) (xor_shr a (bit_and a b) j ∙ ap (bit_xor (a / 2 ^ j)) (and_shr a b j)) ∙ odd (a / 2 ^ j) (b / 2 ^ j)
  where
    go : (c d : ℕ) → c < 2 → d < 2 → eqb (bit_xor c (bit_and c d)) 1 ≡ (eqb c 1 && not (eqb d 1))
    go zero d l s = refl
    go (suc zero) zero l s = refl
    go (suc zero) (suc zero) l s = refl
    go (suc zero) (suc (suc d)) l s = absurd (omega arith)
    go (suc (suc c)) d l s = absurd (omega arith)

    odd : (x y : ℕ) → eqb (bit_xor x (bit_and x y) % 2) 1 ≡ (eqb (x % 2) 1 && not (eqb (y % 2) 1))
    odd x y =
        ap (λ (z : ℕ). eqb z 1) (xor_mod x (bit_and x y) 1 ∙ ap (bit_xor (x % 2)) (and_mod x y 1)) ∙
        go (x % 2) (y % 2) (mod-lt x two) (mod-lt y two)

below_power : (a : ℕ) → a < 2 ^ a
below_power zero = omega arith
below_power (suc a) = omega (arith, below_power a, two-pow-succ a)

-- a word is part of another where its bits stand in it
pub part-bit : (a b : ℕ) → part_of a b ≡ true → (j : ℕ) → bit a j ≡ true → bit b j ≡ true
part-bit a b h j e =
    and_right (bit a j) (bit b j) (sym (and-bit a b j) ∙ ap (λ (w : ℕ). bit w j) (eqb-true (bit_and a b) a h) ∙ e)

pub part-from : (a b : ℕ) → ((j : ℕ) → bit a j ≡ true → bit b j ≡ true) → part_of a b ≡ true
part-from a b h =
    eq-eqb (bit_and a b) a
    (bits-same a (bit_and a b) a (omega (arith, and_le_l a b, below_power a)) (below_power a) λ j l.
    and-bit a b j ∙ go (bit a j) (bit b j) (h j))
  where
    go : (x y : Bool) → (x ≡ true → y ≡ true) → x && y ≡ x
    go true y f = f refl
    go false y f = refl

-- what is taken out and what is left make the word
without-rest : (a b : ℕ) → without a b + bit_and a b ≡ a
without-rest a b =
    let small : a < 2 ^ a = below_power a in
    let same : bit_and a (bit_and a b) ≡ bit_and a b =
    bits-same a _ _ (omega (arith, and_le_l a (bit_and a b))) (omega (arith, and_le_l a b)) λ j s.
    and-bit a (bit_and a b) j ∙ ap (λ (x : Bool). bit a j && x) (and-bit a b j) ∙ twice (bit a j) (bit b j) ∙ sym (and-bit a b j) in
    omega (arith, xor_add_and a (bit_and a b), same)
  where
    twice : (x y : Bool) → x && (x && y) ≡ x && y
    twice true y = refl
    twice false y = refl

pub without-most : (a b : ℕ) → without a b ≤ a
without-most a b = omega (arith, without-rest a b)

pub without-less : (a b j : ℕ) → bit a j ≡ true → bit b j ≡ true → without a b < a
without-less a b j e f =
    omega (arith, without-rest a b, bit-positive (bit_and a b) j (and-bit a b j ∙ true-both (bit a j) (bit b j) e f))

-- a word with a standing bit cleared is less
pub cleared-less : (w j : ℕ) → bit w j ≡ true → without w (2 ^ j) < w
cleared-less w j e = without-less w (2 ^ j) j e (one_bit j j ∙ eq-eqb j j refl)

-- bit k of a word with bit j cleared is set exactly where bit k of the word is set and k is not j
pub cleared-bit : (w j k : ℕ) → bit (without w (2 ^ j)) k ≡ (bit w k && not (eqb k j))
cleared-bit w j k = without-bit w (2 ^ j) k ∙ ap (λ (b : Bool). bit w k && not b) (one_bit j k)

pub half-shift : (w i : ℕ) → w / 2 ^ suc i ≡ w / 2 / 2 ^ i
half-shift w i = ap (λ (k : ℕ). w / 2 ^ k) (omega arith) ∙ sym (shr-shr w 1 i)

-- below the lowest standing bit are the trailing zeros
pub lowest-bit : (k w : ℕ) → w < 2 ^ k → 0 < w → (count_trailing_zeros k w < k) × (bit w (count_trailing_zeros k w) ≡ true)
unfolding count_trailing_zeros bit
lowest-bit zero w l s = absurd (omega arith)
lowest-bit (suc k) w l s = go (w % 2) refl (lowest-bit k (w / 2) (shr_lt k 1 (subst (λ (x : ℕ). w < 2 ^ x) (omega arith) l))) where
  go : (d : ℕ) → w % 2 ≡ d
      → (0 < w / 2 → (count_trailing_zeros k (w / 2) < k) × (eqb (w / 2 / 2 ^ count_trailing_zeros k (w / 2) % 2) 1 ≡ true))
      → (under d (count_trailing_zeros k (w / 2)) < suc k) × (eqb (w / 2 ^ under d (count_trailing_zeros k (w / 2)) % 2) 1 ≡ true)
  go zero e rest =
      let r : (count_trailing_zeros k (w / 2) < k) × (eqb (w / 2 / 2 ^ count_trailing_zeros k (w / 2) % 2) 1 ≡ true) = rest (omega arith) in
      (omega (arith, r.0), ap (λ (x : ℕ). eqb (x % 2) 1) (half-shift w (count_trailing_zeros k (w / 2))) ∙ r.1)
  go (suc d) e rest =
      let f : w / 1 % 2 ≡ 1 = omega (arith, mod-lt w two) in
      (omega arith, eq-eqb _ _ f)

-- the bits that a number shares with the number before it, and its lowest set bit, make the number
lowest-and : (k w : ℕ) → w < 2 ^ k → 0 < w → bit_and w (w - 1) + 2 ^ count_trailing_zeros k w ≡ w
unfolding count_trailing_zeros
lowest-and zero w l s = absurd (omega arith)
lowest-and (suc k) w l s = go (w % 2) refl (lowest-and k (w / 2) (shr_lt k 1 (subst (λ (x : ℕ). w < 2 ^ x) (omega arith) l))) where
  go : (d : ℕ) → w % 2 ≡ d → (0 < w / 2 → bit_and (w / 2) (w / 2 - 1) + 2 ^ count_trailing_zeros k (w / 2) ≡ w / 2)
      → bit_and w (w - 1) + 2 ^ under d (count_trailing_zeros k (w / 2)) ≡ w
  go zero e rest =
      let half : (w - 1) / 2 ≡ w / 2 - 1 = omega arith in
      let odd : (w - 1) % 2 ≡ 1 = omega arith in
      let step : bit_and w (w - 1) ≡ bit_and (w / 2) (w / 2 - 1) * 2 =
      and_step w (w - 1) ∙ rw (half, odd, e) (omega arith) in
      omega (arith, step, rest (omega arith), two-pow-succ (count_trailing_zeros k (w / 2)))
  go (suc d) e rest =
      let half : (w - 1) / 2 ≡ w / 2 = omega (arith, mod-lt w two) in
      let even : (w - 1) % 2 ≡ 0 = omega (arith, mod-lt w two) in
      let own : w % 2 ≡ 1 = omega (arith, mod-lt w two) in
      let step : bit_and w (w - 1) ≡ w / 2 * 2 =
      and_step w (w - 1) ∙ rw (half, even, own, and_self (w / 2)) (omega arith) in
      omega (arith, step, own)

-- the bits that a number shares with the number before it are the number with its lowest bit cleared
pub lowest-cleared : (w : ℕ) → w < 2 ^ 64 → 0 < w → bit_and w (w - 1) ≡ without w (2 ^ count_trailing_zeros 64 w)
lowest-cleared w l s =
    let j : ℕ = count_trailing_zeros 64 w in
    let lowest : (j < 64) × (bit w j ≡ true) = lowest-bit 64 w l s in
    let one : bit_and w (2 ^ j) ≡ 2 ^ j =
    bits-same 64 (bit_and w (2 ^ j)) (2 ^ j) (omega (arith, and_le_l w (2 ^ j))) (pow-lt lowest.0) λ k r.
    and-bit w (2 ^ j) k ∙ ap (λ (b : Bool). bit w k && b) (one_bit j k) ∙ keep j k (eqb k j) refl lowest.1 ∙
    sym (one_bit j k) in
    omega (arith, lowest-and 64 w l s, without-rest w (2 ^ j), one)
  where
    pow-lt : {j : ℕ} → j < 64 → 2 ^ j < 2 ^ 64
    pow-lt {j} r =
        let most : 2 ^ suc j ≤ 2 ^ 64 = pow_mono r in
        omega (arith, two-pow-succ j, pow_pos j)

    keep : (j k : ℕ) (b : Bool) → eqb k j ≡ b → bit w j ≡ true → bit w k && eqb k j ≡ eqb k j
    keep j k true e h = let q : k ≡ j = eqb-true k j e in rw (e, q, h)
    keep j k false e h = rw e (and-false (bit w k))

-- above the highest standing bit are the leading zeros
pub highest-bit : (w : ℕ) → w < 2 ^ 64 → 0 < w → (count_leading_zeros 64 w ≤ 63) × (63 - count_leading_zeros 64 w < 64) × (bit w (63 - count_leading_zeros 64 w) ≡ true)
unfolding bit
highest-bit w l s =
    let r : (j : ℕ) × (count_leading_zeros 64 w + suc j ≡ 64) × (2 ^ j ≤ w) × (w < 2 ^ suc j) = leading_top 64 w s l in
    let j : r.0 ≡ 63 - count_leading_zeros 64 w = omega (arith, r.1) in
    let top : w / 2 ^ r.0 ≡ 1 = one r.0 r.2 r.3 in
    (omega (arith, r.1), omega (arith, r.1), ap (λ (k : ℕ). eqb (w / 2 ^ k % 2) 1) (sym j) ∙ rw top)
  where
    one : (j : ℕ) → 2 ^ j ≤ w → w < 2 ^ suc j → w / 2 ^ j ≡ 1
    one j a b =
        let up : w / 2 ^ j < 2 = (div-lt_iff_lt-mul (pow_pos j)).1 (omega (arith, two-pow-succ j)) in
        let down : 1 ≤ w / 2 ^ j = (le-div_iff_mul-le (pow_pos j)).1 (omega arith) in
        omega arith

-- a word of m + k bits has the m low bits below the k others
word-append : (m k : ℕ) (p : ℕ → Bool) → word (m + k) p ≡ word k (λ j. p (m + j)) * 2 ^ m + word m p
unfolding word
word-append m zero p = ap (λ (x : ℕ). word x p) (add-zero m) ∙ none (2 ^ m) (word m p) where
  none : (b v : ℕ) → v ≡ 0 * b + v
  none b v = omega arith
word-append m (suc k) p =
    ap (λ (x : ℕ). word x p) (add-suc m k) ∙
    ap₂ (λ (x y : ℕ). digit (p (m + k)) * x + y) (pow-add 2 m k) (word-append m k p) ∙
    arrange (digit (p (m + k))) (2 ^ k) (2 ^ m) (word k (λ j. p (m + j))) (word m p)
  where
    arrange : (d a b w v : ℕ) → d * (b * a) + (w * b + v) ≡ (d * a + w) * b + v
    arrange d a b w v =
        let e : d * (b * a) ≡ d * a * b = ap (λ (x : ℕ). d * x) (mul_comm b a) ∙ sym (mul_assoc d a b) in
        omega (arith, e, add-mul (d * a) w b)

-- one byte more of row i
module _ (t : List ℕ) (i k w b : ℕ) (few : k < 8) (e : w ≡ word (8 * k) (related t false i)) (is : b ≡ get_or t (8 * i + k) 0) (small : b < 256) where
  pub next-byte : w + (b * 2 ^ (8 * k)) % 2 ^ 64 ≡ word (8 * (k + 1)) (related t false i)
  unfolding below bit
  next-byte =
      let bits : b ≡ word 8 (λ j. related t false i (8 * k + j)) =
      sym (bits-word 8 b small) ∙
      word_same 8 (bit b) (λ j. related t false i (8 * k + j))
      (λ j l.
      ap (λ (x : ℕ). eqb (x / 2 ^ j % 2) 1) is ∙
      ap₂ (λ (x y : ℕ). eqb (get_or t (8 * i + x) 0 / 2 ^ y % 2) 1) (omega arith) (omega arith)) in
      let placed : (b * 2 ^ (8 * k)) % 2 ^ 64 ≡ b * 2 ^ (8 * k) = shl_exact 8 (8 * k) 64 small (omega arith) in
      let more : word (8 * k + 8) (related t false i) ≡ b * 2 ^ (8 * k) + w =
      word-append (8 * k) 8 (related t false i) ∙ ap₂ (λ (x y : ℕ). x * 2 ^ (8 * k) + y) (sym bits) (sym e) in
      let next : 8 * (k + 1) ≡ 8 * k + 8 = omega arith in
      omega (arith, placed, more, ap (λ (x : ℕ). word x (related t false i)) next)

  pub byte_fits : w + (b * 2 ^ (8 * k)) % 2 ^ 64 < 2 ^ 64
  byte_fits =
      let l : 8 * (k + 1) ≤ 64 = omega arith in
      subst (λ (x : ℕ). x < 2 ^ 64) (sym next-byte) (lt_of_lt_of_le (word_below (8 * (k + 1)) (related t false i)) (pow_mono l))

-- bits that are not set add nothing to a word
word-past : (m k : ℕ) (p : ℕ → Bool) → m ≤ k → ((j : ℕ) → m ≤ j → p j ≡ false) → word m p ≡ word k p
unfolding word
word-past m zero p l h = let e : m ≡ 0 = omega arith in ap (λ (x : ℕ). word x p) e
word-past m (suc k) p l h = go (ℕ_discrete m (suc k)) (λ r. word-past m k p r h)
  where
    go : Dec (m ≡ suc k) → (m ≤ k → word m p ≡ word k p) → word m p ≡ digit (p k) * 2 ^ k + word k p
    go (yes e) next = ap (λ (x : ℕ). word x p) e
    go (no d) next = let r : m ≤ k = omega (arith, d) in next r ∙ rw (h k r) (omega arith)

-- a row's word has the bits of all its bytes
pub row-end : (t : List ℕ) (k w : ℕ) → length t ≤ k → k ≤ 8 → w ≡ word (8 * k) (related t false 0) → w ≡ word 64 (related t false 0)
unfolding below bit
row-end t k w l few e =
    e ∙ word-past (8 * k) 64 (related t false 0) (omega arith) λ j r.
    ap (λ (x : ℕ). eqb (x / 2 ^ (j % 8) % 2) 1) (get_or-eq_default t 0 {n = 8 * 0 + j / 8} (omega arith)) ∙ no-bit (j % 8)

-- the word of row i of a table, by the bytes of the row
pub row-in : (t r : List ℕ) (i : ℕ) → ((k : ℕ) → k < 8 → get_or r k 0 ≡ get_or t (8 * i + k) 0) → word 64 (related r false 0) ≡ word 64 (related t false i)
unfolding below
row-in t r i h =
    word_same 64 (related r false 0) (related t false i) λ j l.
    ap (λ (x : ℕ). eqb (x / 2 ^ (j % 8) % 2) 1) (ap (λ (k : ℕ). get_or r k 0) (omega arith) ∙ h (j / 8) (omega arith))

-- one bit more of a word that is turned from its highest bit on
module _ (ws : List ℕ) (n i j w : ℕ) (few : n ≤ 64) (l : 0 < j)
    (h : word n (λ k. bit (get_or ws k 0) i) ≡ w * 2 ^ j + word j (λ k. bit (get_or ws k 0) i)) where
  pub next-turned : word n (λ k. bit (get_or ws k 0) i)
      ≡ (2 * w + get_or ws (j - 1) 0 / 2 ^ i % 2) * 2 ^ (j - 1) + word (j - 1) (λ k. bit (get_or ws k 0) i)
  next-turned = turn_more (λ k. bit (get_or ws k 0) i) n j w _ l h (bit-digit (get_or ws (j - 1) 0) i)

  pub turned-fits : 2 * w + get_or ws (j - 1) 0 / 2 ^ i % 2 < 2 ^ 64
  turned-fits = turn-fits (λ k. bit (get_or ws k 0) i) n (j - 1) _ few next-turned

  pub twice-fits : 2 * w < 2 ^ 64
  twice-fits = omega (arith, turned-fits)
