-- Laws of texts: one text behind another, and the turns of the loops that put them.
use mathlib.Core.Path.{◌≡◌, refl, sym, ◌∙◌, ap, ap₂, subst}
use mathlib.Core.Bool.{Bool, true, false, cond}
use mathlib.Core.List.{List, [], ◌∷◌, ◌++◌}
use Prim.Native.Nat.{ℕ, zero, suc, ◌+◌, ◌-◌, ◌*◌, ◌/◌, ◌%◌, ◌≤◌, ◌<◌}
use native.Mathlib.Decide.{dec_lt}
use native.Mathlib.Numerals.{add-one}
use native.Mathlib.Omega.{arith}
use borrow.Author.Tests.{lt-ltb, le-ltb, ltb-false}
use lib.Dec.{ltb}
use lib.ListN.{length, get_or, set, take, drop, length-append, length-set, drop_of_length-le}
use lib.Seq.{sets, sets-eq, drop-cons, take-length}
use borrow.Rule.Slice.PartMut.{put_mid}
use Rattle.std.proofs.lemmas.Slice.{put_mid-paste}
use Rattle.graphs.proofs.Stores.{sets-append}
use Rattle.text.specs.Text.{Puts, decimal, decimal_within, digit_of, hexadecimal}

-- one text behind another
pub puts_then : {a b : List ℕ} {at middle next : ℕ} {old part new : List ℕ} →
    Puts a at old middle part → Puts b middle part next new → Puts (a ++ b) at old next new
puts_then {a} {b} {at} {middle} {old = old} p q = record {
  next-is = q.next-is ∙ ap (λ (n : ℕ). n + length b) p.next-is ∙ sym joined;
  new_is =
      q.new_is ∙ ap (λ (l : List ℕ). sets l middle b) p.new_is ∙ ap (λ (n : ℕ). sets (sets old at a) n b) p.next-is
      ∙ sym (sets-append a old at b);
}
  where
    joined : at + length (a ++ b) ≡ at + length a + length b
    joined = simp length-append (omega arith)

-- one byte
pub puts-byte : (at : ℕ) (old : List ℕ) (x : ℕ) → Puts (x ∷ []) at old (at + 1) (set old at x)
puts-byte at old x = record { next-is = refl; new_is = refl }

-- a word that is copied to its part of the output
pub puts-word : (word old part : List ℕ) (at : ℕ) → part ≡ word → at + length word ≤ length old →
    Puts word at old (at + length word) (put_mid at (at + length word - at) old part)
puts-word word old part at same room = record {
  next-is = refl;
  new_is =
      put_mid-paste at (at + length word - at) old part word (length word) same (omega arith) refl
      ∙ ap (λ (l : List ℕ). take at old ++ l ++ drop (at + length word) old) (take-length word) ∙ sym (sets-eq word old at room);
}

-- A text that is put byte by byte: `left` is what is left of it.
pub record Putting (text : List ℕ) (at : ℕ) (old left : List ℕ) (next : ℕ) (new : List ℕ) : Type 0 where
  pub length-is : length new ≡ length old
  pub next-is : next + length left ≡ at + length text
  pub new_is : sets old at text ≡ sets new next left

pub put-begin : (text : List ℕ) (at : ℕ) (old : List ℕ) → Putting text at old text at old
put-begin text at old = record { length-is = refl; next-is = refl; new_is = refl }

module _ {text : List ℕ} {at : ℕ} {old left : List ℕ} {next : ℕ} {new : List ℕ} (p : Putting text at old left next new) where
  pub put-room : (x : ℕ) (rest : List ℕ) → left ≡ x ∷ rest → at + length text ≤ length old →
      (next < length new) × (next + 1 + length rest ≤ length new)
  put-room x rest e h =
      let count : length left ≡ suc (length rest) = ap length e in
      (omega (arith, p.length-is, p.next-is), omega (arith, p.length-is, p.next-is))

  pub put_step : (x : ℕ) (rest : List ℕ) → left ≡ x ∷ rest → Putting text at old rest (next + 1) (set new next x)
  put_step x rest e =
      let count : length left ≡ suc (length rest) = ap length e in
      record {
        length-is = length-set new next x ∙ p.length-is;
        next-is = omega (arith, p.next-is);
        new_is =
            p.new_is ∙ ap (sets new next) e ∙ ap (λ (n : ℕ). sets (set new next x) n rest) (sym (add-one next));
      }

  pub put-end : left ≡ [] → Puts text at old next new
  put-end e =
      let count : length left ≡ 0 = ap length e in
      record { next-is = omega (arith, p.next-is); new_is = sym (p.new_is ∙ ap (sets new next) e) }

-- Words.

pub word_more : (word : List ℕ) (i : ℕ) → i < length word → drop i word ≡ get_or word i 0 ∷ drop (i + 1) word
word_more word i h = rw (add-one, drop-cons word i 0)

-- Hexadecimal.

pub hexadecimal-more : (bytes : List ℕ) (i high low : ℕ) → i < length bytes →
    high ≡ digit_of (get_or bytes i 0 / 16) → low ≡ digit_of (get_or bytes i 0 % 16) →
    hexadecimal (drop i bytes) ≡ high ∷ low ∷ hexadecimal (drop (i + 1) bytes)
unfolding hexadecimal
hexadecimal-more bytes i high low h e d =
    ap hexadecimal (word_more bytes i h) ∙ ap₂ (λ (x y : ℕ). x ∷ y ∷ hexadecimal (drop (i + 1) bytes)) (sym e) (sym d)

-- a turn of the loop that puts two digits
pub put_two : {text : List ℕ} {at : ℕ} {old left : List ℕ} {next : ℕ} {new : List ℕ} → Putting text at old left next new →
    (x y : ℕ) (rest : List ℕ) → left ≡ x ∷ y ∷ rest → Putting text at old rest (next + 2) (set (set new next x) (next + 1) y)
put_two {text} {at} {old} {next = next} {new} p x y rest e =
    let two : next + 1 + 1 ≡ next + 2 = omega arith in
    subst (λ (n : ℕ). Putting text at old rest n (set (set new next x) (next + 1) y)) two
    (put_step (put_step p x (y ∷ rest) e) y rest refl)

pub hexadecimal-done : (bytes : List ℕ) (i : ℕ) → length bytes ≤ i → hexadecimal (drop i bytes) ≡ []
unfolding hexadecimal
hexadecimal-done bytes i h = ap hexadecimal (drop_of_length-le bytes h)

pub length-hexadecimal : (bytes : List ℕ) → length (hexadecimal bytes) ≡ 2 * length bytes
unfolding hexadecimal
length-hexadecimal [] = refl
length-hexadecimal (b ∷ bytes) = omega (arith, length-hexadecimal bytes)

-- Decimal.

-- where the test fails, only the second choice counts
cond-else : (b : Bool) (x y z : List ℕ) → (b ≡ false → y ≡ z) → cond b x y ≡ cond b x z
cond-else true x y z h = refl
cond-else false x y z h = h refl

-- A limit of digits does not matter where it is above the number itself.
within-any : (j k n : ℕ) → n < j → n < k → decimal_within j n ≡ decimal_within k n
unfolding decimal_within
within-any zero k n hj hk = absurd (omega arith)
within-any (suc j) zero n hj hk = absurd (omega arith)
within-any (suc j) (suc k) n hj hk = cond-else (ltb n 10) (digit_of n ∷ []) _ _ λ e.
    let h : 10 ≤ n = ltb-false n 10 e in
    ap (λ (l : List ℕ). l ++ (digit_of (n % 10) ∷ [])) (within-any j k (n / 10) (omega arith) (omega arith))

pub decimal-one : (n : ℕ) → n < 10 → decimal n ≡ digit_of n ∷ []
unfolding decimal_within
decimal-one n h = ap (λ b. cond b (digit_of n ∷ []) (decimal_within n (n / 10) ++ (digit_of (n % 10) ∷ []))) (lt-ltb n 10 h)

decimal-more : (n : ℕ) → 10 ≤ n → decimal n ≡ decimal (n / 10) ++ (digit_of (n % 10) ∷ [])
unfolding decimal_within
decimal-more n h =
    ap (λ b. cond b (digit_of n ∷ []) (decimal_within n (n / 10) ++ (digit_of (n % 10) ∷ []))) (le-ltb n 10 h)
    ∙ ap (λ (l : List ℕ). l ++ (digit_of (n % 10) ∷ [])) (within-any n (suc (n / 10)) (n / 10) (omega arith) (omega arith))

pub decimal-length : (n : ℕ) → 10 ≤ n → length (decimal n) ≡ length (decimal (n / 10)) + 1
decimal-length n h = ap length (decimal-more n h) ∙ length-append (decimal (n / 10)) (digit_of (n % 10) ∷ [])

-- Numbers below ten times m have at most one digit more than those below m.
shorter : (m k : ℕ) → ((n : ℕ) → n < m → length (decimal n) ≤ k) → (n : ℕ) → n < 10 * m → length (decimal n) ≤ suc k
shorter m k h n small = go (dec_lt n 10)
  where
    go : Dec (n < 10) → length (decimal n) ≤ suc k
    go (yes l) = omega (arith, ap length (decimal-one n l))
    go (no l) = omega (arith, decimal-length n (omega arith), h (n / 10) (omega arith))

-- a number below 10,000 has at most four digits
pub decimal-short : (n : ℕ) → n < 10000 → length (decimal n) ≤ 4
decimal-short = shorter 1000 3 (shorter 100 2 (shorter 10 1 λ n l. omega (arith, ap length (decimal-one n l))))

-- the last digit of a number is put behind the others
pub puts-last : (n : ℕ) {at next d : ℕ} {old part : List ℕ} → 10 ≤ n → Puts (decimal (n / 10)) at old next part → d ≡ digit_of (n % 10) →
    Puts (decimal n) at old (next + 1) (set part next d)
puts-last n {at} {next} {d} {old} {part} h p e =
    subst (λ (text : List ℕ). Puts text at old (next + 1) (set part next d))
    (ap (λ (x : ℕ). decimal (n / 10) ++ (x ∷ [])) e ∙ sym (decimal-more n h)) (puts_then p (puts-byte next part d))

pub puts-digit : (n at d : ℕ) (old : List ℕ) → n < 10 → d ≡ digit_of n → Puts (decimal n) at old (at + 1) (set old at d)
puts-digit n at d old h e =
    subst (λ (text : List ℕ). Puts text at old (at + 1) (set old at d))
    (ap (λ (x : ℕ). x ∷ []) e ∙ sym (decimal-one n h)) (puts-byte at old d)
