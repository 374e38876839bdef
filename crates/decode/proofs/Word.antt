-- This file is about the binary digits of a word: those of a feature map's eight bytes, and the links that they state.
use mathlib.Core.Path.{◌≡◌, refl, sym, ap, ap₂, ◌∙◌, subst}
use mathlib.Core.Bool.{Bool, cond}
use mathlib.Core.List.{List, []}
use mathlib.Core.Option.{some}
use Prim.Native.Nat.{ℕ, zero, suc, ◌+◌, ◌-◌, ◌*◌, ◌/◌, ◌%◌, ◌^◌, ◌<◌}
use native.Mathlib.Decide.{dec_lt}
use native.Mathlib.Nat.{add-zero, mod-lt}
use native.Mathlib.Omega.{arith}
use borrow.Author.Tests.{eq-eqb}
use lib.Arith.{lt-one}
use lib.Bits.{bit_and, and_step, and_self, block_half, block_odd}
use lib.Count.{count_trailing_zeros, under}
use lib.Dec.{eqb}
use lib.ListN.{get_or, drop}
use lib.Pow.{shr-shr, shr_lt, high}
use lib.Seq.{get_or-drop, drop-drop}
use Rattle.std.specs.Int.{w64, from_le_bytes}
use Rattle.graphs.specs.Rows.{from}
use Rattle.lattice.proofs.Bits.{half-shift}
use Rattle.decode.specs.Decode.{take_target, take_links}
use Rattle.decode.specs.Word.{word_of, take_word}

no_shift : (w : ℕ) → w / 1 ≡ w
no_shift w = omega arith

-- a digit among the m low ones
low_digit : (f m a r : ℕ) → f < m → (a * 2 ^ m + r) / 2 ^ f % 2 ≡ r / 2 ^ f % 2
low_digit zero zero a r h = absurd (omega arith)
low_digit zero (suc m) a r h =
    ap (λ (x : ℕ). x % 2) (no_shift (a * 2 ^ suc m + r)) ∙ block_odd a m r ∙ ap (λ (x : ℕ). x % 2) (sym (no_shift r))
low_digit (suc f) zero a r h = absurd (omega arith)
low_digit (suc f) (suc m) a r h =
    ap (λ (x : ℕ). x % 2) (half-shift (a * 2 ^ suc m + r) f ∙ ap (λ (x : ℕ). x / 2 ^ f) (block_half a m r))
    ∙ low_digit f m a (r / 2) (omega arith)
    ∙ ap (λ (x : ℕ). x % 2) (sym (half-shift r f))

-- a digit past the m low ones
high_digit : (g m a r : ℕ) → r < 2 ^ m → (a * 2 ^ m + r) / 2 ^ (m + g) % 2 ≡ a / 2 ^ g % 2
high_digit g m a r h =
    ap (λ (x : ℕ). x % 2) (sym (shr-shr (a * 2 ^ m + r) m g) ∙ ap (λ (x : ℕ). x / 2 ^ g) (high a m h))

-- digit f of a word is bit f mod 8 of byte f div 8
pub word-digit : (k : ℕ) (bytes : List ℕ) → ((i : ℕ) → get_or bytes i 0 < 256) → (f : ℕ) → f < 8 * k →
    word_of k bytes / 2 ^ f % 2 ≡ get_or bytes (f / 8) 0 / 2 ^ (f % 8) % 2
unfolding word_of
word-digit zero bytes small f h = absurd (omega arith)
word-digit (suc k) bytes small f h =
    go (word_of k (drop 1 bytes)) (word-digit k (drop 1 bytes) (λ i. rw get_or-drop (small (1 + i)))) (dec_lt f 8)
  where
    go : (w : ℕ) → ((g : ℕ) → g < 8 * k → w / 2 ^ g % 2 ≡ get_or (drop 1 bytes) (g / 8) 0 / 2 ^ (g % 8) % 2) → Dec (f < 8) →
        (w * 256 + get_or bytes 0 0) / 2 ^ f % 2 ≡ get_or bytes (f / 8) 0 / 2 ^ (f % 8) % 2
    go w rest (yes l) =
        low_digit f 8 w (get_or bytes 0 0) l
        ∙ ap₂ (λ (i j : ℕ). get_or bytes i 0 / 2 ^ j % 2) (omega arith) (omega arith)
    go w rest (no n) =
        ap (λ (i : ℕ). (w * 256 + get_or bytes 0 0) / 2 ^ i % 2) (omega arith)
        ∙ high_digit (f - 8) 8 w (get_or bytes 0 0) (small 0)
        ∙ rest (f - 8) (omega arith)
        ∙ ap (λ (x : ℕ). x / 2 ^ ((f - 8) % 8) % 2) (get_or-drop 1 bytes ((f - 8) / 8) 0)
        ∙ ap₂ (λ (i j : ℕ). get_or bytes i 0 / 2 ^ j % 2) (omega arith) (omega arith)

-- The number of eight bytes, lowest byte first, is their word.
pub le_word : (bytes xs : List ℕ) → ((i : ℕ) → i < 8 → get_or xs i 0 ≡ get_or bytes i 0) → from_le_bytes w64 xs ≡ word_of 8 bytes
unfolding word_of
le_word bytes xs same =
    simp (get_or-drop, drop-drop) (omega (arith, same 0, same 1, same 2, same 3, same 4, same 5, same 6, same 7))

-- ---- links by the digits of a word

-- links by digits are links by features
pub word-links : (stands : ℕ → Bool) (k f w : ℕ) → ((i : ℕ) → i < k → eqb (w / 2 ^ i % 2) 1 ≡ stands (f + i)) →
    (room : ℕ) (rest : List ℕ) → take_word k f w room rest ≡ take_links stands (from f k) room rest
unfolding take_word take_links from
word-links stands zero f w same room rest = refl
word-links stands (suc k) f w same room rest = go (word-links stands k (suc f) (w / 2) onward-same)
  where
    onward-same : (i : ℕ) → i < k → eqb (w / 2 / 2 ^ i % 2) 1 ≡ stands (suc f + i)
    onward-same i h =
        ap (λ (x : ℕ). eqb (x % 2) 1) (sym (half-shift w i)) ∙ same (suc i) (omega arith) ∙ ap stands (omega arith)

    first : eqb (w % 2) 1 ≡ stands f
    first = ap (λ (x : ℕ). eqb (x % 2) 1) (sym (no_shift w)) ∙ same 0 (omega arith) ∙ ap stands (add-zero f)

    go : ((room : ℕ) (rest : List ℕ) → take_word k (suc f) (w / 2) room rest ≡ take_links stands (from (suc f) k) room rest) →
        cond (eqb (w % 2) 1) (take_target f (take_word k (suc f) (w / 2)) room rest) (take_word k (suc f) (w / 2) room rest)
        ≡ cond (stands f) (take_target f (take_links stands (from (suc f) k)) room rest) (take_links stands (from (suc f) k) room rest)
    go ih = λ i. cond (first i) (take_target f (λ r s. ih r s i) room rest) (ih room rest i)

-- a digit that does not stand states no link
even-digit : (k f w v : ℕ) → w % 2 ≡ 0 → w / 2 ≡ v → (room : ℕ) (rest : List ℕ) →
    take_word (suc k) f w room rest ≡ take_word k (suc f) v room rest
unfolding take_word
even-digit k f w v e h room rest =
    ap₂ (λ (d x : ℕ). cond (eqb d 1) (take_target f (take_word k (suc f) x) room rest) (take_word k (suc f) x room rest)) e h

-- the lowest standing digit of a word states the first link, and the word with it cleared the others
pub first-digit : (k f w : ℕ) → w < 2 ^ k → (w ≡ 0 → ⊥) → (room : ℕ) (rest : List ℕ) →
    take_word k f w room rest ≡ take_target (f + count_trailing_zeros k w) (take_word k f (bit_and w (w - 1))) room rest
unfolding count_trailing_zeros take_word
first-digit zero f w l n room rest = absurd (n (lt-one l))
first-digit (suc k) f w l n room rest = go (w % 2) refl (first-digit k (suc f) (w / 2) half)
  where
    half : w / 2 < 2 ^ k
    half = shr_lt k 1 (subst (λ (x : ℕ). w < 2 ^ x) (omega arith) l)

    cleared : (v : ℕ) → bit_and w (w - 1) ≡ v * 2 → (room : ℕ) (rest : List ℕ) →
        take_word k (suc f) v room rest ≡ take_word (suc k) f (bit_and w (w - 1)) room rest
    cleared v e room rest = sym (even-digit k f (bit_and w (w - 1)) v (omega arith) (omega arith) room rest)

    go : (d : ℕ) → w % 2 ≡ d →
        ((w / 2 ≡ 0 → ⊥) → (room : ℕ) (rest : List ℕ) → take_word k (suc f) (w / 2) room rest
        ≡ take_target (suc f + count_trailing_zeros k (w / 2)) (take_word k (suc f) (bit_and (w / 2) (w / 2 - 1))) room rest) →
        take_word (suc k) f w room rest
        ≡ take_target (f + under d (count_trailing_zeros k (w / 2))) (take_word (suc k) f (bit_and w (w - 1))) room rest
    go zero e ih =
        let before : (w - 1) / 2 ≡ w / 2 - 1 = omega arith in
        let odd : (w - 1) % 2 ≡ 1 = omega arith in
        let both : bit_and w (w - 1) ≡ bit_and (w / 2) (w / 2 - 1) * 2 = and_step w (w - 1) ∙ rw (before, odd, e) (omega arith) in
        let place : suc f + count_trailing_zeros k (w / 2) ≡ f + suc (count_trailing_zeros k (w / 2)) = omega arith in
        even-digit k f w (w / 2) e refl room rest
        ∙ ih (λ q. n (omega arith)) room rest
        ∙ (λ i. take_target (place i) (λ r s. cleared (bit_and (w / 2) (w / 2 - 1)) both r s i) room rest)
    go (suc d) e ih =
        let own : w % 2 ≡ 1 = omega (arith, mod-lt w {m = 2} (omega arith)) in
        let before : (w - 1) / 2 ≡ w / 2 = omega arith in
        let even : (w - 1) % 2 ≡ 0 = omega arith in
        let both : bit_and w (w - 1) ≡ w / 2 * 2 = and_step w (w - 1) ∙ rw (before, even, own, and_self (w / 2)) (omega arith) in
        ap (λ (b : Bool). cond b (take_target f (take_word k (suc f) (w / 2)) room rest) (take_word k (suc f) (w / 2) room rest))
        (eq-eqb (w % 2) 1 own)
        ∙ (λ i. take_target (sym (add-zero f) i) (λ r s. cleared (w / 2) both r s i) room rest)

-- no digit stands
pub word_none : (k f room : ℕ) (rest : List ℕ) → take_word k f 0 room rest ≡ some (record { value = []; room = room; rest = rest })
unfolding take_word
word_none zero f room rest = refl
word_none (suc k) f room rest = word_none k (suc f) room rest
