-- This file says how many words parsing a record needs, and what it answers and leaves in them.
use Rattle.std.specs.Prelude.{◌≡◌, Bool, true, false, List, ℕ, ◌+◌, ◌≤◌, min, length}
use Rattle.std.proofs.Math.Option.{none, some}
use Rattle.graphs.specs.Rows.{Row}
use Rattle.lattice.specs.Label.{Label}
use Rattle.layout.specs.Layout.{Shaped, longest, size, rows_of}
use Rattle.decode.specs.Decode.{decoded}

-- The words have room for the graph of a record of these bytes: for that of the longest record, or for 258 words more than bytes.
abbrev pub Roomy : List ℕ → List ℕ → Type 0
Roomy bytes ws = min longest (length bytes + 258) ≤ length ws

-- The words hold the given rows, one for each of at most 255 nodes.
pub record Held (rows : List (Row Label)) (ws : List ℕ) : Type 0 where
  pub rows_are : rows_of ws ≡ rows
  pub shaped : Shaped ws
  pub small : size ws ≤ 255

-- Parsing answers whether the bytes are a record; if so, the words hold its rows.
pub record Parses (bytes : List ℕ) (answer : Bool) (ws : List ℕ) : Type 0 where
  pub refuses : decoded bytes ≡ none → answer ≡ false
  pub holds : (rows : List (Row Label)) → decoded bytes ≡ some rows → (answer ≡ true) × Held rows ws
