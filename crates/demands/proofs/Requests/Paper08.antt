-- Paper 8: the house types as a constant. `meets` is the constant table of 4,096 entries, `house_table` the type table's bytes.
use mathlib.Core.Path.{◌≡◌, ◌∙◌, ap}
use mathlib.Core.Bool.{true, false}
use mathlib.Core.List.{List, []}
use mathlib.Core.Option.{some}
use Prim.Native.Nat.{ℕ, ◌+◌, ◌*◌, ◌<◌}
use lib.ListN.{length, get_or}
use Rattle.bounds.specs.Sets.{distributive, meet_in, Holding}
use Rattle.lattice.specs.Table as types
use Rattle.bounds.proofs.Types.{meets-known}
use Rattle.house.specs.House.{lesser, under, meets, house_table}
use Rattle.house.proofs.Theorems as house

-- Entry 64 a + b of the constant has in each grade the lesser of a's and b's.
pub house-rule : (a b : ℕ) → a < 64 → b < 64 → get_or meets (64 * a + b) 0 ≡ lesser a b
house-rule = house.meets-rule

-- The bytes of the house types' table state the order by grades, and are accepted.
pub house-order : (j i : ℕ) → j < 64 → i < 64 → types.below house_table j i ≡ under j i
house-order = house.house-order

pub house-accepted : types.accepted 64 house_table ≡ true
house-accepted = house.house-accepted

-- The engine works out the constant's entries from these bytes: by the definition of a meet, in the cells of a filled table, and in an opened
-- table, however it holds the types.
pub house-worked-out : (a b : ℕ) → a < 64 → b < 64 → types.meet 64 house_table a b ≡ some (get_or meets (64 * a + b) 0)
house-worked-out = house.meets-worked-out

pub house-opened : (rows : List (List ℕ)) → length rows ≡ 64 → (a b : ℕ) → a < 64 → b < 64 →
    get_or (get_or (types.filled 64 house_table (types.meet 64 house_table) rows) a []) b 0 ≡ get_or meets (64 * a + b) 0
house-opened = house.meets-opened

pub house-held : (sets : List ℕ) (rows cells : List (List ℕ)) → (distributive 64 house_table ≡ false → length rows ≡ 64) →
    Holding false 64 house_table (types.meet 64 house_table) sets rows cells → (a b : ℕ) → a < 64 → b < 64 →
    meet_in 64 sets cells a b ≡ get_or meets (64 * a + b) 0
house-held sets rows cells long held a b la lb =
    (meets-known 64 house_table house.house-accepted sets rows cells long a b la lb held).0 ∙ ap types.cell (house.meets-worked-out a b la lb)

-- The house types' table admits differences.
pub house-admits : types.admits 64 house_table ≡ true
house-admits = house.house-admits
