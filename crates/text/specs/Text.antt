-- Numbers and bytes as text, in ASCII.
use Rattle.std.specs.Prelude.{◌≡◌, cond, List, [], ◌∷◌, ◌++◌, ℕ, zero, suc, ◌+◌, ◌/◌, ◌%◌, ltb, length}
use Rattle.std.proofs.lemmas.List.Edits.{sets}

-- the digit of a number below 16: `0` to `9`, then `a` to `f`
abbrev pub digit_of : ℕ → ℕ
digit_of d = cond (ltb d 10) (48 + d) (87 + d)

-- "lower-case hexadecimal"
unfoldable pub hexadecimal : List ℕ → List ℕ
hexadecimal [] = []
hexadecimal (b ∷ bytes) = digit_of (b / 16) ∷ digit_of (b % 16) ∷ hexadecimal bytes

-- a number in decimal, of at most so many digits
unfoldable pub decimal_within : ℕ → ℕ → List ℕ
decimal_within zero n = []
decimal_within (suc k) n = cond (ltb n 10) (digit_of n ∷ []) (decimal_within k (n / 10) ++ (digit_of (n % 10) ∷ []))

-- A number in decimal. A number n has at most n + 1 digits.
abbrev pub decimal : ℕ → List ℕ
decimal n = decimal_within (suc n) n

-- The text stands in the output from `at` on, nothing else changed, and `next` is the place behind it.
pub record Puts (text : List ℕ) (at : ℕ) (old : List ℕ) (next : ℕ) (new : List ℕ) : Type 0 where
  pub next-is : next ≡ at + length text
  pub new_is : new ≡ sets old at text
