-- This file says what placing rows in a table of targets promises. The table has a place for each parent and feature: 0 where no row has
-- both, else the row's target plus 1.
use Rattle.std.specs.Prelude.{Bool, false, cond, List, ◌≡◌, ℕ, ◌+◌, ◌*◌, ◌<◌, ◌≤◌, eqb, length, get_or, set}
use Rattle.std.proofs.Math.Option.{Option, none, some}
use Rattle.rows.specs.declared.Row.{Row}
use Rattle.rows.specs.Rows.{target_in, has_twice, no_row}

-- the number at a place of the table, for the target that rows give it
abbrev pub place_of : Option ℕ → ℕ
place_of none = 0
place_of (some w) = w + 1

-- the place of a row's parent and feature
abbrev pub slot : Row → ℕ
slot r = r.parent * 64 + r.feature

-- The table has a place for the row.
abbrev pub Near : Row → Type 0
Near r = (r.parent < 255) × (r.feature < 64)

-- The answer tells whether the row's place was free; if so, the table has the row's target there.
abbrev pub Places : Row → List ℕ → Bool → List ℕ → Type 0
Places row targets answer after =
    (answer ≡ eqb (get_or targets (slot row) 0) 0) × (after ≡ cond answer (set targets (slot row) (row.target + 1)) targets) × (row.target ≤ 255)

-- The table has each row's target at the row's place, and no two rows have one place.
pub record Placed (rows : List Row) (targets : List ℕ) : Type 0 where
  pub once : has_twice rows ≡ false
  pub told : (p f : ℕ) → p < 255 → f < 64 → get_or targets (p * 64 + f) 0 ≡ place_of (target_in rows p f)
  pub low : (k : ℕ) → get_or targets k 0 ≤ 256

-- The table has a place for each row.
abbrev pub AllNear : List Row → Type 0
AllNear rows = (i : ℕ) → i < length rows → Near (get_or rows i no_row)

-- Every place of the table is 0.
abbrev pub Empty : List ℕ → Type 0
Empty targets = (k : ℕ) → get_or targets k 0 ≡ 0
