-- The programs of a store in lent bytes: 16 slots of 4,856 bytes, one for each version. A slot has a length and the bytes of a record; the length
-- is 0 where the version is absent.
use Rattle.std.specs.Prelude.{◌≡◌, List, map, ℕ, ◌*◌, ◌≤◌, ◌<◌, length, drop}
use Rattle.std.proofs.Math.Option.{Option}
use Rattle.graphs.specs.Rows.{from}
use Rattle.gathering.specs.Gathering.{length_at, first_of}
use Rattle.versions.specs.State.{Programs}

-- The record behind its length; none where the length is 0.
abbrev pub measured_in : List ℕ → Option (List ℕ)
measured_in bytes = first_of (length_at bytes) (drop 2 bytes)

-- The program in slot v.
abbrev pub slot_at : List ℕ → ℕ → Option (List ℕ)
slot_at slots v = measured_in (drop (v * 4856) slots)

-- The programs in all 16 slots.
unfoldable pub programs_in : List ℕ → Programs
programs_in slots = map (slot_at slots) (from 0 16)

-- There are 16 slots, and each record fits in its slot.
pub record Slotted (slots : List ℕ) : Type 0 where
  pub long : length slots ≡ 77696
  pub short : (v : ℕ) → v < 16 → length_at (drop (v * 4856) slots) ≤ 4854

-- The bytes have the length of a slot, and their record fits.
pub record Parted (part : List ℕ) : Type 0 where
  pub long : length part ≡ 4856
  pub short : length_at part ≤ 4854

-- The slots from version v on are empty.
pub record Absent (slots : List ℕ) (v : ℕ) : Type 0 where
  pub slotted : Slotted slots
  pub empty : (i : ℕ) → v ≤ i → i < 16 → length_at (drop (i * 4856) slots) ≡ 0
