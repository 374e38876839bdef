-- This file says what refusals 4, 14 and 15 state about a lent planning table (document 02, Papers 2 and 7). The tests in `Rows.antt`
-- decide these facts. The file also defines the order in which rows are sorted.
use Rattle.std.specs.Prelude.{◌≡◌, ◌⊎◌, ℕ, ◌%◌, ◌≤◌, ◌<◌, length, get_or}
use mathlib.Core.List.{List, Memᴰ}
use Rattle.rows.specs.declared.Row.{Row}
use Rattle.rows.specs.Rows.{nodes_in, no_row}

-- 4: "a byte count not divisible by 3 is 4", "Nodes .. are 1 to 255 and rows at most 2,048, else 4"
abbrev pub Unsized : List ℕ → ℕ → Type 0
Unsized nodes count = (length nodes % 3 ≡ 0 → ⊥) ⊎ (nodes_in nodes < 1) ⊎ (255 < nodes_in nodes) ⊎ (2048 < count)

-- 4 does not apply.
abbrev pub Sized : List ℕ → ℕ → Type 0
Sized nodes count = (length nodes % 3 ≡ 0) × (1 ≤ nodes_in nodes) × (nodes_in nodes ≤ 255) × (count ≤ 2048)

-- 14: "a row with a feature above 63 or a node number outside the count", which is n
abbrev pub UnknownRow : ℕ → Row → Type 0
UnknownRow n r = (63 < r.feature) ⊎ (n ≤ r.parent) ⊎ (n ≤ r.target)

-- 14 does not apply to a row.
abbrev pub KnownRow : ℕ → Row → Type 0
KnownRow n r = (r.feature < 64) × (r.parent < n) × (r.target < n)

-- 15: "two rows with one parent and feature", at places i and j
abbrev pub Twice : List Row → Type 0
Twice rows =
    (i : ℕ) × (j : ℕ) × (i < j) × (j < length rows) × ((get_or rows i no_row).parent ≡ (get_or rows j no_row).parent) ×
    ((get_or rows i no_row).feature ≡ (get_or rows j no_row).feature)

-- none of 4, 14 and 15 applies
pub record Formed (nodes : List ℕ) (rows : List Row) : Type 0 where
  pub sized : Sized nodes (length rows)
  pub known : (r : Row) → Memᴰ r rows → KnownRow (nodes_in nodes) r
  pub once : Twice rows → ⊥

-- "sorted by parent and then feature": a row with the smaller parent, or with the same parent and the smaller feature, comes earlier
abbrev pub Earlier : Row → Row → Type 0
Earlier r s = (r.parent < s.parent) ⊎ ((r.parent ≡ s.parent) × (r.feature < s.feature))
