-- This file defines types as sets (document 02, Paper 12): when a table is distributive, which types are irreducible, and the set of a
-- type. Then it says how a call holds types, and what the meet and the join of two types are as they are held.
use Rattle.std.specs.Prelude.{ℕ, ◌+◌, ◌-◌, ◌<◌, ◌≡◌, Bool, true, false, cond, not, ◌&&◌, List, [], length, get_or, eqb}
use Rattle.std.proofs.Math.Option.{Option}
use Rattle.std.specs.Int.Bits.{bit_and, bit_or}
use Rattle.lattice.specs.Table.{every, implies, below, found_as, meet, join, cell, filled}
use Rattle.lattice.specs.Words.{word, bit, turned, part_of, Inside, holder}
use Rattle.bounds.specs.Primes.{word_irreducible}

-- a is "smaller" than j
abbrev pub smaller : List ℕ → ℕ → ℕ → Bool
smaller t a j = below t a j && not (eqb a j)

module _ (n : ℕ) (t : List ℕ) where
  -- "Where for every three types the meet spreads over the join"
  unfoldable pub distributive : Bool
  distributive =
      every n λ a.
      every n λ b.
      every n λ c.
      eqb (cell (meet n t a (cell (join n t b c)))) (cell (join n t (cell (meet n t a b)) (cell (meet n t a c))))

  -- "those non-zero types .. that are not the join of two smaller ones"
  unfoldable pub irreducible : ℕ → Bool
  irreducible j =
      not (eqb j 0) && every n λ a. every n λ b. implies (smaller t a j && smaller t b j) (not (found_as j (join n t a b)))

  -- "hold a type as the set of those non-zero types below or equal to it that are not the join of two smaller ones"
  unfoldable pub set_of : ℕ → ℕ
  set_of a = word n λ j. irreducible j && below t j a

-- A call holds 128 words. `sets[a]` is the set of type a; `sets[64 + a]`: candidate types when a set is turned back into a type.
-- If the types are not held as sets, the greatest type has the empty set, and the bounds stand in 64 rows of 64 cells.
abbrev pub set_in : List ℕ → ℕ → ℕ
set_in sets a = get_or sets a 0

-- the candidate types that stand with type a
abbrev pub word_in : List ℕ → ℕ → ℕ
word_in sets a = get_or sets (64 + a) 0

-- whether the types are held as sets
abbrev pub as_sets : ℕ → List ℕ → Bool
as_sets n sets = not (eqb (set_in sets (n - 1)) 0)

-- the cell of types a and b
abbrev pub cell_in : List (List ℕ) → ℕ → ℕ → ℕ
cell_in cells a b = get_or (get_or cells a []) b 0

-- "Meet is then the overlap of sets"; in the other form it is the cell of the table.
unfoldable pub meet_in : ℕ → List ℕ → List (List ℕ) → ℕ → ℕ → ℕ
meet_in n sets cells a b = cond (as_sets n sets) (cell (holder n sets (bit_and (set_in sets a) (set_in sets b)))) (cell_in cells a b)

-- "Meet is then the overlap of sets and join their union"; in the other form the join is the cell of the table.
unfoldable pub join_in : ℕ → List ℕ → List (List ℕ) → ℕ → ℕ → ℕ
join_in n sets cells a b = cond (as_sets n sets) (cell (holder n sets (bit_or (set_in sets a) (set_in sets b)))) (cell_in cells a b)

-- Two of the n types with the same set are one type.
abbrev pub Apart : ℕ → List ℕ → Type 0
Apart n sets = (i j : ℕ) → i < n → j < n → set_in sets i ≡ set_in sets j → i ≡ j

-- `part` has only types below n, and it has every type whose set is `set`.
pub record Among (n : ℕ) (sets : List ℕ) (set part : ℕ) : Type 0 where
  pub apart : Apart n sets
  pub inside : Inside n part
  pub kept : (k : ℕ) → k < n → set_in sets k ≡ set → bit part k ≡ true

-- What a meet of sets asks: the word of a type has every type whose set is part of the type's own.
pub record MeetsHeld (n : ℕ) (sets : List ℕ) : Type 0 where
  pub apart : Apart n sets
  pub inside : (a : ℕ) → a < n → Inside n (word_in sets a)
  pub lower : (k a : ℕ) → k < n → a < n → part_of (set_in sets k) (set_in sets a) ≡ true → bit (word_in sets a) k ≡ true

-- What a join of sets asks: the word of an irreducible type has every type whose set has that irreducible type.
pub record JoinsHeld (n : ℕ) (sets : List ℕ) : Type 0 where
  pub apart : Apart n sets
  pub inside : (a j : ℕ) → a < n → j < 64 → bit (set_in sets a) j ≡ true → Inside n (word_in sets j)
  pub upper : (k j : ℕ) → k < n → j < 64 → bit (set_in sets k) j ≡ true → bit (word_in sets j) k ≡ true

-- what bounds of one side ask of the sets: joins for true, meets for false
abbrev pub Held : Bool → ℕ → List ℕ → Type 0
Held true = JoinsHeld
Held false = MeetsHeld

-- What a meet or a join asks of lent words and cells: if the words hold sets, a set can be turned back into its type; else there are 64
-- rows of cells.
abbrev pub Seekable : Bool → ℕ → List ℕ → List (List ℕ) → Type 0
Seekable up n sets cells = (as_sets n sets ≡ true → Held up n sets) × (as_sets n sets ≡ false → length cells ≡ 64)

-- `part` has every type that is in the words of all types of a set, and is part of the word of one of them
pub record Above (sets : List ℕ) (set part : ℕ) : Type 0 where
  pub one : (j : ℕ) × (j < 64) × (bit set j ≡ true) × ((k : ℕ) → bit part k ≡ true → bit (word_in sets j) k ≡ true)
  pub kept : (k : ℕ) → ((j : ℕ) → j < 64 → bit set j ≡ true → bit (word_in sets j) k ≡ true) → bit part k ≡ true

-- w is the candidate word of type a: for meets the types below a, for joins the types above a if a is irreducible.
abbrev pub SoughtBy : Bool → ℕ → List ℕ → ℕ → ℕ → Type 0
SoughtBy false n ws a w = w ≡ get_or ws a 0
SoughtBy true n ws a w = word_irreducible n ws a ≡ true → w ≡ turned n ws a

-- The sets and candidate words of the first k types are made of the words of the types below each.
pub record Sets (up : Bool) (n : ℕ) (ws sets : List ℕ) (k : ℕ) : Type 0 where
  pub set : (a : ℕ) → a < k → set_in sets a ≡ bit_and (get_or ws a 0) (word n (word_irreducible n ws))
  pub sought : (a : ℕ) → a < k → SoughtBy up n ws a (word_in sets a)

-- What opening leaves in lent words and cells: "Opening such a table then fills neither; other tables use the old form".
pub record Holding (up : Bool) (n : ℕ) (t : List ℕ) (bound : ℕ → ℕ → Option ℕ) (sets : List ℕ) (cells₀ cells : List (List ℕ)) : Type 0 where
  pub set : distributive n t ≡ true → (a : ℕ) → a < n → set_in sets a ≡ set_of n t a
  pub unfilled : distributive n t ≡ true → cells ≡ cells₀
  pub no-set : distributive n t ≡ false → set_in sets (n - 1) ≡ 0
  pub filled-cells : distributive n t ≡ false → cells ≡ filled n t bound cells₀
  pub held : Seekable up n sets cells
