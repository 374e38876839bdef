-- This file defines the house types (document 02, Paper 8): 64 types of three grades, their order, the meets of all pairs, and the bytes
-- of the type table that states the order.
use Rattle.std.specs.Prelude.{ℕ, zero, suc, ◌+◌, ◌*◌, ◌/◌, ◌%◌, Bool, cond, ◌&&◌, List, [], ◌∷◌, ◌++◌, length, drop, leb}
use Rattle.lattice.specs.Words.{word}

-- "three grades of 0 to 3, numbered 16 × first + 4 × second + third"
abbrev pub type_of : ℕ → ℕ → ℕ → ℕ
type_of x y z = 16 * x + 4 * y + z

-- the first grade of a type
abbrev pub first : ℕ → ℕ
first a = a / 16

-- the second grade of a type
abbrev pub second : ℕ → ℕ
second a = a / 4 % 4

-- the third grade of a type
abbrev pub third : ℕ → ℕ
third a = a % 4

-- the lesser of two grades
abbrev pub less : ℕ → ℕ → ℕ
less x y = cond (leb x y) x y

-- "grade by grade the lesser"
unfoldable pub lesser : ℕ → ℕ → ℕ
lesser a b = type_of (less (first a) (first b)) (less (second a) (second b)) (less (third a) (third b))

-- "One type is below another when each grade is at most the other's": a is below b
unfoldable pub under : ℕ → ℕ → Bool
under a b = leb (first a) (first b) && leb (second a) (second b) && leb (third a) (third b)

-- the values of f at k numbers, from i on
unfoldable pub listed : (ℕ → ℕ) → ℕ → ℕ → List ℕ
listed f i zero = []
listed f i (suc k) = f i ∷ listed f (suc i) k

-- entry k of the table of meets stands for the types k div 64 and k mod 64
abbrev pub entry_of : ℕ → ℕ
entry_of k = lesser (k / 64) (k % 64)

-- "the meets of all pairs as one constant table of 4,096 entries"
unfoldable pub meets : List ℕ
meets = listed entry_of 0 4096

-- byte k of the type table (document 01, "Type table"): byte k mod 8 of the row of type k div 8, whose bit j is set when type
-- 8 × (k mod 8) + j is below that type
abbrev pub byte_of : ℕ → ℕ
byte_of k = word 8 λ j. under (8 * (k % 8) + j) (k / 8)

-- the 512 bytes of the type table, for n = 64
unfoldable pub house_table : List ℕ
house_table = listed byte_of 0 512

-- whether an output has room for the type table
abbrev pub roomy : List ℕ → Bool
roomy out = leb 512 (length out)

-- What the output holds at the end: the bytes of the type table and behind them its own, or all its own where the table does not fit.
unfoldable pub tabled : List ℕ → List ℕ
tabled out = cond (roomy out) (house_table ++ drop 512 out) out

-- an answer and the output beside it
abbrev pub answer_with : Bool → List ℕ → Bool × List ℕ
answer_with answer out = (answer, out)

-- what asking for the table answers and leaves in the output
abbrev pub filling : List ℕ → Bool × List ℕ
filling out = answer_with (roomy out) (tabled out)
