-- This file has the theorems about the house types (document 02, Paper 8). The contract of `meets::all` says that the constant is `meets`,
-- and that of `fill_table` that the bytes it writes are `house_table`. The theorems say what these two are.
use Prim.Native.Nat.{ℕ, ◌+◌, ◌*◌, ◌/◌, ◌%◌, ◌<◌}
use mathlib.Core.Path.{◌≡◌, sym, ap, subst, ◌∙◌}
use mathlib.Core.Bool.{true}
use mathlib.Core.List.{List, []}
use mathlib.Core.Option.{some}
use native.Mathlib.Omega.{arith}
use lib.ListN.{length, get_or}
use Rattle.lattice.specs.Table.{below, accepted, meet, admits, filled}
use Rattle.lattice.proofs.Laws.{Meet, meets-cell}
use Rattle.house.specs.House.{lesser, under, entry_of, meets, house_table}
use Rattle.house.proofs.Entries.{get_or-listed}
use Rattle.house.proofs.Grades.{IsLesser, lesser-grades}
use Rattle.house.proofs.Order.{table_below, table-accepted, table-meet, table-admits}

-- Paper 8: the meet of a and b in the table has in each grade the lesser of the two grades.

pub meets-rule : (a b : ℕ) → a < 64 → b < 64 → get_or meets (64 * a + b) 0 ≡ lesser a b
unfolding meets
meets-rule a b la lb =
    let row : (64 * a + b) / 64 ≡ a = omega arith in
    let column : (64 * a + b) % 64 ≡ b = omega arith in
    get_or-listed entry_of 4096 (64 * a + b) (omega arith)
    ∙ ap (λ (x : ℕ). lesser x ((64 * a + b) % 64)) row ∙ ap (lesser a) column

-- the same, each grade by itself
pub meets-grades : (a b : ℕ) → a < 64 → b < 64 → IsLesser a b (get_or meets (64 * a + b) 0)
meets-grades a b la lb = subst (IsLesser a b) (sym (meets-rule a b la lb)) (lesser-grades a b la)

-- every entry is a type
pub meets-types : (k : ℕ) → k < 4096 → get_or meets k 0 < 64
unfolding meets
meets-types k l =
    let e : get_or meets k 0 ≡ lesser (k / 64) (k % 64) = get_or-listed entry_of 4096 k l in
    omega (arith, (lesser-grades (k / 64) (k % 64) (omega arith)).type)

-- Paper 8: the type table of the house types states their order by grades, is accepted, and the engine works out these meets from it.

pub house-order : (j i : ℕ) → j < 64 → i < 64 → below house_table j i ≡ under j i
house-order = table_below

pub house-accepted : accepted 64 house_table ≡ true
house-accepted = table-accepted

-- the meet by the definition
pub meets-worked-out : (a b : ℕ) → a < 64 → b < 64 → meet 64 house_table a b ≡ some (get_or meets (64 * a + b) 0)
meets-worked-out a b la lb = table-meet a b la lb ∙ ap some (sym (meets-rule a b la lb))

-- the cell of a table that is filled with the meets
pub meets-opened : (rows : List (List ℕ)) → length rows ≡ 64 → (a b : ℕ) → a < 64 → b < 64
    → get_or (get_or (filled 64 house_table (meet 64 house_table) rows) a []) b 0 ≡ get_or meets (64 * a + b) 0
meets-opened rows e a b la lb =
    let m : Meet 64 house_table a b (get_or (get_or (filled 64 house_table (meet 64 house_table) rows) a []) b 0) =
    meets-cell 64 house_table house-accepted rows e a b la lb in
    let same : some (get_or (get_or (filled 64 house_table (meet 64 house_table) rows) a []) b 0) ≡ some (get_or meets (64 * a + b) 0) =
    sym m.is ∙ meets-worked-out a b la lb in
    cc

-- Every two of the house types have a residual, so that the table admits differences.
pub house-admits : admits 64 house_table ≡ true
house-admits = table-admits
