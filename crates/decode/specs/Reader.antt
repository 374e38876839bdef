-- This file says what the reader takes at its position, and at which position it then is (document 01, "Graph record": "The record is
-- walked inside the host's bytes by a reader that keeps the record and its next byte together").
use Rattle.std.specs.Prelude.{◌≡◌, Option as Answer, Some, None, MatchOption, cond, List, ℕ, ◌+◌, ◌-◌, ◌<◌, ◌≤◌, leb, ltb, length, get_or, drop}
use Rattle.lattice.specs.Label.{Label}
use Rattle.layout.specs.declared.Label.{Label as Stated}
use Rattle.layout.specs.Builder.{stated}
use Rattle.decode.specs.Decode.{label_length, label_of}
use Rattle.decode.specs.Word.{word_of}

-- the byte at a position and the position behind it, or the end
abbrev pub byte_step : List ℕ → ℕ → Answer (ℕ × ℕ)
byte_step bytes at = cond (ltb at (length bytes)) (Some (get_or bytes at 0, at + 1)) None

-- "8 bytes of feature map" at a position and the position behind them, or the end
abbrev pub map_step : List ℕ → ℕ → Answer (ℕ × ℕ)
map_step bytes at = cond (leb 8 (length bytes - at)) (Some (word_of 8 (drop at bytes), at + 8)) None

-- The byte b is taken at position `at`.
pub record ByteTaken (bytes : List ℕ) (at b next : ℕ) : Type 0 where
  pub inside : at < length bytes
  pub byte-is : b ≡ get_or bytes at 0
  pub next-is : next ≡ at + 1

-- A feature map, "8 bytes of feature map", is taken at position `at`.
pub record MapTaken (bytes : List ℕ) (at word next : ℕ) : Type 0 where
  pub inside : 8 ≤ length bytes - at
  pub word-is : word ≡ word_of 8 (drop at bytes)
  pub next-is : next ≡ at + 8

-- The label l is taken at position `at`.
pub record LabelTaken (bytes : List ℕ) (at : ℕ) (l : Label) (next : ℕ) : Type 0 where
  pub inside : label_length (drop at bytes) ≤ length bytes - at
  pub label_is : l ≡ label_of (drop at bytes)
  pub next-is : next ≡ at + label_length (drop at bytes)

-- the byte at the position, or the end
abbrev pub ByteStep : List ℕ → ℕ → Answer ℕ → ℕ → Type 0
ByteStep bytes at answer next = MatchOption answer ((length bytes ≤ at) × (next ≡ at)) (λ b. ByteTaken bytes at b next)

-- the feature map at the position, or the end
abbrev pub MapStep : List ℕ → ℕ → Answer ℕ → ℕ → Type 0
MapStep bytes at answer next = MatchOption answer ((length bytes - at < 8) × (next ≡ at)) (λ word. MapTaken bytes at word next)

-- the label at the position, or the end
abbrev pub LabelStep : List ℕ → ℕ → Answer Stated → ℕ → Type 0
LabelStep bytes at answer next =
    MatchOption answer (length bytes - at < label_length (drop at bytes)) (λ l. LabelTaken bytes at (stated l) next)
