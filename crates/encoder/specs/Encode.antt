-- This file defines the bytes of the written record of given rows (document 01, "Graph record").
use Rattle.std.specs.Prelude.{cond, List, [], ◌∷◌, ◌++◌, map, ℕ, zero, suc, ◌+◌, ◌*◌, length}
use Rattle.graphs.specs.Rows.{Row, from, target}
use Rattle.graphs.specs.Number.{count_some}
use Rattle.lattice.specs.Label.{Label}
unfoldable pub use Rattle.lattice.specs.Label.{is_full}

-- the number whose k lowest bits say which of the features from f on are among the links
unfoldable pub bits_from : List (ℕ × ℕ) → ℕ → ℕ → ℕ
bits_from links f zero = 0
bits_from links f (suc k) = count_some (target links f) + 2 * bits_from links (suc f) k

-- A label is one type byte where the range is full; else "bit 7 says that two bytes follow it, lowest and highest level". "A written
-- record never writes the full range" (document 02, Paper 7).
unfoldable pub encoded_label : Label → List ℕ
encoded_label l = cond (is_full l) (l.type ∷ []) ((128 + l.type) ∷ l.lowest ∷ l.highest ∷ [])

-- "one type byte, 8 bytes of feature map .., then one target byte for each standing bit, lowest feature first"; the levels stand
-- "before the feature map".
unfoldable pub encoded_row : Row Label → List ℕ
encoded_row r = encoded_label r.0 ++ map (λ k. bits_from r.1 (8 * k) 8) (from 0 8) ++ map (λ l. l.1) r.1

-- the bytes of rows, "for each node in turn"
unfoldable pub encoded_rows : List (Row Label) → List ℕ
encoded_rows [] = []
encoded_rows (r ∷ rs) = encoded_row r ++ encoded_rows rs

-- the bytes of the written record of rows: "Byte 0 is the node count"
unfoldable pub encoded : List (Row Label) → List ℕ
encoded rows = length rows ∷ encoded_rows rows
