-- This file says in terms of words what the functions answer that open a table and search for a wanted type. A word has 64 bits, one
-- for each type. The contract of `accept` can be read without these definitions: the proofs show that the tests on words decide what
-- `Table.antt` defines.
use Rattle.std.specs.Prelude.{ℕ, zero, suc, ◌+◌, ◌*◌, ◌-◌, ◌/◌, ◌%◌, ◌^◌, ◌<◌, ◌≤◌, ◌≡◌, Bool, true, false, not, ◌&&◌, List, get_or, length, leb, eqb, Option as Answer, None, Some}
use Rattle.std.proofs.Math.Option.{Option}
use Rattle.std.specs.Int.Bits.{bit_and, bit_xor}
use Rattle.lattice.specs.Table.{every, last, implies, below, found, sized, answer, wanted}

-- a bit as a number
abbrev pub digit : Bool → ℕ
digit true = 1
digit false = 0

-- the word whose bit j, for j below k, tells whether j passes the test p
unfoldable pub word : ℕ → (ℕ → Bool) → ℕ
word zero p = 0
word (suc k) p = digit (p k) * 2 ^ k + word k p

-- j is on one side of i: above it for true, below it for false
abbrev pub related : List ℕ → Bool → ℕ → ℕ → Bool
related t true i j = below t i j
related t false i j = below t j i

-- The words ws hold one side of each type below n: the types above it for true, those below it for false.
abbrev pub Words : ℕ → List ℕ → Bool → List ℕ → Type 0
Words n t up ws = (i : ℕ) → i < n → get_or ws i 0 ≡ word 64 (related t up i)

-- bit j of w is set
unfoldable pub bit : ℕ → ℕ → Bool
bit w j = eqb (w / 2 ^ j % 2) 1

-- the bits of a that are not set in b
abbrev pub without : ℕ → ℕ → ℕ
without a b = bit_xor a (bit_and a b)

-- The word of the types whose words have bit i. If the words hold the types below each type, these are the types above i.
unfoldable pub turned : ℕ → List ℕ → ℕ → ℕ
turned n ws i = word n λ j. bit (get_or ws j 0) i

-- Bit j is set in the words of the types of `word` that are not left any more; the words were `old` before.
pub record Spread (word j : ℕ) (old : List ℕ) (left : ℕ) (new : List ℕ) : Type 0 where
  pub long : length new ≡ 64
  pub part : (i : ℕ) → i < 64 → bit left i ≡ true → bit word i ≡ true
  pub spread : (i : ℕ) → i < 64 → get_or new i 0 ≡ digit (bit word i && not (bit left i)) * 2 ^ j + get_or old i 0

-- all bits of a are set in b
abbrev pub part_of : ℕ → ℕ → Bool
part_of a b = eqb (bit_and a b) a

-- of a type j below i: all that is below j is below i, and i is below j only where they are one type
unfoldable pub pair_ordered : List ℕ → ℕ → ℕ → Bool
pair_ordered ws i j = part_of (get_or ws j 0) (get_or ws i 0) && implies (bit (get_or ws j 0) i) (eqb i j)

-- row i has no bit at n or above, its own bit and that of 0, and bit i of row n - 1 is set
abbrev pub row_set : ℕ → List ℕ → ℕ → Bool
row_set n ws i = leb (get_or ws i 0 / 2 ^ (n - 1)) 1 && bit (get_or ws i 0) i && bit (get_or ws i 0) 0 && bit (get_or ws (n - 1) 0) i

-- a row lies inside `all` and has bit i and bit 0
abbrev pub row_inside : ℕ → ℕ → ℕ → Bool
row_inside all row i = part_of row all && bit row i && bit row 0

-- the pairs of type i with every type below it are ordered
abbrev pub pairs_ordered : List ℕ → ℕ → Bool
pairs_ordered ws i = every 64 λ j. implies (bit (get_or ws i 0) j) (pair_ordered ws i j)

-- row i passes the tests of refusal 2
unfoldable pub row_ordered : ℕ → List ℕ → ℕ → Bool
row_ordered n ws i = row_set n ws i && pairs_ordered ws i

-- The words ws hold the types below each type of a table that passes the tests of refusals 1 and 2.
pub record OrderWords (n : ℕ) (t ws : List ℕ) : Type 0 where
  pub size : sized n t ≡ true
  pub words : Words n t false ws
  pub order : every n (row_ordered n ws) ≡ true

-- The words ws can be one side of an order: the word of each type has the type's own bit and none at n or above, and two types
-- that have each other's bit are one.
pub record Sided (n : ℕ) (ws : List ℕ) : Type 0 where
  pub own : (i : ℕ) → i < n → bit (get_or ws i 0) i ≡ true
  pub inside : (i j : ℕ) → i < n → j < 64 → bit (get_or ws i 0) j ≡ true → j < n
  pub anti : (i j : ℕ) → i < n → j < n → bit (get_or ws i 0) j ≡ true → bit (get_or ws j 0) i ≡ true → i ≡ j

-- no bit of w is set at n or above
abbrev pub Inside : ℕ → ℕ → Type 0
Inside n w = (j : ℕ) → j < 64 → bit w j ≡ true → j < n

-- the bits that the word of c and `over` share are `lower`
abbrev pub word_restores : List ℕ → ℕ → ℕ → ℕ → Bool
word_restores ws lower over c = eqb (bit_and (get_or ws c 0) over) lower

-- u is the union of the words of those of the first k types that restore `lower` over `over`: it is part of a word exactly where each of
-- these words is.
abbrev pub Restoring : ℕ → List ℕ → ℕ → ℕ → ℕ → Type 0
Restoring k ws lower over u = (m : ℕ) → part_of u m ≡ every k λ c. implies (word_restores ws lower over c) (part_of (get_or ws c 0) m)

-- r answers the wanted type for the type p in s and the type over it whose word is `over`.
abbrev pub WantedOver : ℕ → List ℕ → List ℕ → ℕ → ℕ → Answer ℕ → Type 0
WantedOver n t ws p over r = (q : ℕ) → q < n → over ≡ get_or ws q 0 → r ≡ answer (wanted n t p q)

module _ (n : ℕ) (ws : List ℕ) where
  -- the last type whose word is w, if there is one
  unfoldable pub holder : ℕ → Option ℕ
  holder w = last n λ c. eqb (get_or ws c 0) w

  -- the type whose word has the bits that the words of a and b share, if there is one
  abbrev pub word_bound : ℕ → ℕ → Option ℕ
  word_bound a b = holder (bit_and (get_or ws a 0) (get_or ws b 0))

-- whether every two types have a bound
unfoldable pub all_found : ℕ → (ℕ → ℕ → Option ℕ) → Bool
all_found n bound = every n λ a. every n λ b. found (bound a b)

-- What is left in a search for the type with the word `word`: `left` has only bits of `word`, and has the bit of every type whose word
-- is `word`.
pub record Seeking (ws : List ℕ) (word left : ℕ) : Type 0 where
  pub part : (j : ℕ) → j < 64 → bit left j ≡ true → bit word j ≡ true
  pub kept : (n : ℕ) → n ≤ 64 → Sided n ws → Inside n word → (k : ℕ) → k < n → get_or ws k 0 ≡ word → bit left k ≡ true

-- The words ws hold the types below each type of an order with a greatest type.
pub record Lower (n : ℕ) (ws : List ℕ) : Type 0 where
  pub sided : Sided n ws
  pub small : (i : ℕ) → i < n → get_or ws i 0 < 2 ^ 64
  pub chain : (i j k : ℕ) → i < n → j < n → k < n → bit (get_or ws i 0) j ≡ true → bit (get_or ws j 0) k ≡ true → bit (get_or ws i 0) k ≡ true
  pub most : (i : ℕ) → i < n → bit (get_or ws (n - 1) 0) i ≡ true

-- j is strictly below i
pub record Under (ws : List ℕ) (i j : ℕ) : Type 0 where
  pub below : bit (get_or ws i 0) j ≡ true
  pub apart : j ≡ i → ⊥

-- The types of w are strictly below i, and every type strictly below i is below one of them. The types that i covers are such a word.
pub record Covered (n : ℕ) (ws : List ℕ) (i w : ℕ) : Type 0 where
  pub part : (j : ℕ) → j < 64 → bit w j ≡ true → Under ws i j
  pub over : (x : ℕ) → x < n → Under ws i x → (c : ℕ) × (c < n) × (bit w c ≡ true) × (bit (get_or ws c 0) x ≡ true)

-- the word of type i without its own bit
abbrev pub strictly : List ℕ → ℕ → ℕ
strictly ws i = without (get_or ws i 0) (2 ^ i)

-- each type's word has the type's own bit and none at n or above
pub record Owned (n : ℕ) (ws : List ℕ) : Type 0 where
  pub own : (i : ℕ) → i < n → bit (get_or ws i 0) i ≡ true
  pub inside : (i j : ℕ) → i < n → j < 64 → bit (get_or ws i 0) j ≡ true → j < n

-- c is strictly below i, all that is below c is strictly below i, and x is below c
pub record Spans (ws : List ℕ) (i x c : ℕ) : Type 0 where
  pub small : c < 64
  pub under : bit (strictly ws i) c ≡ true
  pub part : part_of (get_or ws c 0) (strictly ws i) ≡ true
  pub over : bit (get_or ws c 0) x ≡ true

-- every type strictly below i is below such a type
abbrev pub Spanned : List ℕ → ℕ → Type 0
Spanned ws i = (x : ℕ) → bit (strictly ws i) x ≡ true → (c : ℕ) × Spans ws i x c

-- an answer for type i: none where a pair of i is not ordered, so never in an order; else i is spanned, and in an order the word has the
-- types that i covers
abbrev pub CoversOf : ℕ → List ℕ → ℕ → Answer ℕ → Type 0
CoversOf n ws i None = (pairs_ordered ws i ≡ false) × (Lower n ws → ⊥)
CoversOf n ws i (Some w) = Spanned ws i × (Lower n ws → Covered n ws i w)

module _ (n : ℕ) (ws : List ℕ) where
  -- An answer to whether type a has a bound with each type of w. A no says only that not every two types of the table have a bound.
  pub record BoundsWith (a w : ℕ) (answer : Bool) : Type 0 where
    pub yes-stands : answer ≡ true → (b : ℕ) → b < 64 → bit w b ≡ true → found (word_bound n ws a b) ≡ true
    pub no-stands : answer ≡ false → all_found n (word_bound n ws) ≡ false

  -- An answer to whether every two types of w have a bound. A no says only that not every two types of the table have a bound.
  pub record BoundsWithin (w : ℕ) (answer : Bool) : Type 0 where
    pub yes-stands : answer ≡ true → (a b : ℕ) → a < 64 → b < 64 → bit w a ≡ true → bit w b ≡ true → found (word_bound n ws a b) ≡ true
    pub no-stands : answer ≡ false → all_found n (word_bound n ws) ≡ false
