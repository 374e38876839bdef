-- Where the parts of a gathering's state stand in its bytes.
use Rattle.std.specs.Prelude.{◌≡◌, List, ◌⊎◌, ℕ, ◌+◌, ◌*◌, ◌-◌, ◌≤◌, length, take, drop}
use Rattle.gathering.specs.declared.parts.Parts.{Parts}
use Rattle.gathering.specs.Gathering.{types_in, table_in, behind_table, room_in, length_at}

-- `end` is the end of the next `count` bytes from `at` on, or the end of the bytes where there are fewer.
pub record Span (bytes : List ℕ) (at count end : ℕ) : Type 0 where
  pub low : at ≤ end
  pub high : end ≤ length bytes
  pub all : (end ≡ at + count) ⊎ (end ≡ length bytes)
  pub takes : take (end - at) (drop at bytes) ≡ take count (drop at bytes)
  pub drops : drop end bytes ≡ drop count (drop at bytes)

-- The places are those of the parts that the definitions of the calls speak of.
pub record PartsOf (state : List ℕ) (p : Parts) : Type 0 where
  pub types_are : p.types ≡ types_in state
  pub start-low : p.start ≤ p.end
  pub end_low : p.end ≤ length state
  pub table_is : take (p.end - p.start) (drop p.start state) ≡ table_in state
  pub room-low : p.room ≤ length state
  pub room-is : drop p.room state ≡ room_in state
  pub gathered-is : p.gathered ≡ length_at (behind_table state)
  pub last-low : p.room ≤ p.last
  pub last-high : p.last ≤ length state
  pub first-is : take (p.last - p.room) (drop p.room state) ≡ take p.gathered (room_in state)
  -- A state that has any room has its table and its length whole.
  pub whole : 1 ≤ length (room_in state) → (p.end ≡ 1 + 8 * types_in state) × (p.room ≡ p.end + 2)
