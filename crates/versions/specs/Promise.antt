-- What the functions that pack and unpack a store's state promise to each other.
use Rattle.std.specs.Prelude.{◌≡◌, Bool, true, false, cond, List, ◌++◌, ℕ, suc, ◌+◌, ◌≤◌, ◌<◌, leb, length, take, drop, replicate, get_or, set}
use Rattle.std.proofs.Math.Option.{Option, none, some}
use Rattle.replies.specs.Replies.{Reply}
use Rattle.replies.specs.Reply.{length_of}
use Rattle.gathering.specs.Gathering.{length_at}
use Rattle.versions.specs.State.{Made, made, stopped, and_then, record_in, Programs, measured, within, differences, unpacked}
use Rattle.versions.specs.Slots.{programs_in, Slotted, Absent}

-- The bytes are put behind their length, from `at` on, if there is room for both; else nothing changes.
pub record Puts (bytes : List ℕ) (at : ℕ) (old new : List ℕ) : Type 0 where
  pub long : length new ≡ length old
  pub put : at + 2 + length bytes ≤ length old → new ≡ take at old ++ (measured bytes ++ drop (at + 2 + length bytes) old)
  pub kept : length old < at + 2 + length bytes → new ≡ old

-- The first `at` bytes of a state; where the state has fewer, a list of zeros that is longer than the state and so does not fit.
unfoldable pub standing : ℕ → List ℕ → List ℕ
standing at state = cond (leb at (length state)) (take at state) (replicate (suc (length state)) 0)

-- A reply that tells a length goes on with it; any other reply stops.
abbrev pub onward_by : Option ℕ → Reply → (ℕ → Made) → Made
onward_by none r next = stopped r
onward_by (some l) r next = next l

-- `onward_by`, by the length that the reply tells.
abbrev pub onward : Reply → (ℕ → Made) → Made
onward r next = onward_by (length_of r) r next

-- No version from k on and before v exists.
abbrev pub NoneFrom : ℕ → ℕ → Programs → Type 0
NoneFrom k v ps = (i : ℕ) → k ≤ i → i < v → get_or ps i none ≡ none

-- The bytes that stand, with the differences of the programs behind them, in a room of so many bytes.
abbrev pub packed : ℕ → List ℕ → ℕ → List ℕ → List ℕ → Programs → Made
packed n t room bytes part ps = and_then (differences n t part ps) λ ds. within room (bytes ++ ds)

-- One program of a buffer is restored into slot v, or the answer says that there is none.
pub record Restores (m : Made) (v : ℕ) (old : List ℕ) (answer : Bool) (new : List ℕ) : Type 0 where
  pub slotted : Slotted new
  pub restores : answer ≡ true → (p : List ℕ) × (m ≡ made p) × (programs_in new ≡ set (programs_in old) v (some p)) × Absent new (suc v)
  pub fails : answer ≡ false → record_in m ≡ none

-- The length of a record with its two length bytes.
abbrev pub end_of : List ℕ → ℕ
end_of bytes = 2 + length_at bytes

-- The place behind a record that stands at `at` behind its length; 0 where the bytes end early.
pub record EndsAt (bytes : List ℕ) (at end : ℕ) : Type 0 where
  pub early : end ≡ 0 → length bytes < at + end_of (drop at bytes)
  pub whole : (end ≡ 0 → ⊥) → (end ≡ at + end_of (drop at bytes)) × (end ≤ length bytes)

-- All programs of a buffer are restored into slots, or the answer says that there are none.
pub record Unpacks (n : ℕ) (t buffer : List ℕ) (answer : Bool) (slots : List ℕ) : Type 0 where
  pub slotted : Slotted slots
  pub unpacks : answer ≡ true → unpacked n t buffer ≡ some (programs_in slots)
  pub fails : answer ≡ false → unpacked n t buffer ≡ none
