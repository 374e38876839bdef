-- This file says what the inner functions of parsing promise: what is read from the bytes stands in the words.
use Rattle.std.specs.Prelude.{◌≡◌, Option as Answer, Some, None, List, ℕ, ◌+◌, ◌-◌, ◌≤◌, min, length, drop}
use Rattle.std.proofs.Math.Option.{Option, none, some}
use Rattle.graphs.specs.Rows.{Row}
use Rattle.lattice.specs.Label.{Label}
use Rattle.layout.specs.Layout.{header, longest, label_from, links_between}
use Rattle.layout.specs.Builder.{Same}
use Rattle.decode.specs.Decode.{Taken, take_row}
use Rattle.decode.specs.Word.{take_word}

-- The byte `start` is one of the bytes or the end, and links from place `at` on have room below place `limit`. There are words up to
-- `limit`, or one for each byte that is left.
pub record RowsFit (bytes : List ℕ) (start at limit : ℕ) (ws : List ℕ) : Type 0 where
  pub inside : start ≤ length bytes
  pub room : at ≤ limit
  pub few : limit ≤ longest
  pub words : min limit (at + (length bytes - start)) ≤ length ws

-- `value` is what is read up to the byte `next`. The value ends before place `end`, and from there links have room up to place `limit`.
pub record Stored {X : Type 0} (value : X) (read : Option (Taken X)) (bytes : List ℕ) (limit next end : ℕ) : Type 0 where
  pub read_is : read ≡ some (record { value = value; room = limit - end; rest = drop next bytes })
  pub room : end ≤ limit
  pub inside : next ≤ length bytes

-- the row that stands from place `at` up to place `end`
abbrev pub row_between : List ℕ → ℕ → ℕ → Row Label
row_between ws at end = (label_from ws at, links_between ws (at + header) end)

-- Something is read from the byte `start` on and stands in the words from place `at` on, or it cannot be read. The answer is the place
-- behind it, and `next` is the position of the byte behind it. What is read takes at least `least` words, and no more words than bytes.
-- The words before `at` stay as they are.
pub record Took {X : Type 0} (found : List ℕ → ℕ → ℕ → X) (least : ℕ) (read : Option (Taken X)) (bytes : List ℕ) (start at limit : ℕ)
    (ws : List ℕ) (answer : Answer ℕ) (next : ℕ) (ws' : List ℕ) : Type 0 where
  pub short-stands : answer ≡ None → read ≡ none
  pub at-stands : (end : ℕ) → answer ≡ Some end → (at + least ≤ end) × Stored (found ws' at end) read bytes limit next end
  pub spare : (end : ℕ) → answer ≡ Some end → end + start ≤ at + next
  pub before : Same ws ws' 0 at
  pub long : length ws' ≡ length ws

-- The links that a map states are read from the byte `start` on.
abbrev pub TookLinks : ℕ → List ℕ → ℕ → ℕ → ℕ → List ℕ → Answer ℕ → ℕ → List ℕ → Type 0
TookLinks map bytes start at limit ws answer next ws' =
    Took links_between 0 (take_word 64 0 map (limit - at) (drop start bytes)) bytes start at limit ws answer next ws'

-- The row that begins at the byte `start` is read.
abbrev pub TookRow : List ℕ → ℕ → ℕ → ℕ → List ℕ → Answer ℕ → ℕ → List ℕ → Type 0
TookRow bytes start at limit ws answer next ws' =
    Took row_between header (take_row (limit - (at + header)) (drop start bytes)) bytes start at limit ws answer next ws'
