-- This file shows how long a written record is (document 01, "Graph record": "The shortest record has 10 bytes"; document 02, Paper 7: "The
-- longest record becomes 4,854 bytes").
use mathlib.Core.Path.{◌≡◌}
use mathlib.Core.List.{List, [], ◌∷◌, ◌++◌, map}
use Prim.Native.Nat.{ℕ, ◌+◌, ◌*◌, ◌≤◌}
use native.Mathlib.Omega.{arith}
use lib.ListN.{length, length-append, length-map}
use Rattle.graphs.specs.Rows.{Row, from}
use Rattle.graphs.specs.Large.{links_in}
use Rattle.lattice.specs.Label.{Label}
use Rattle.encoder.specs.Encode.{bits_from, encoded_label, encoded_row, encoded_rows, encoded}
use Rattle.encoder.proofs.LabelBytes.{label-length}

-- a row has the bytes of its label, eight for the map and one for each link
pub row-length : (r : Row Label) → length (encoded_row r) ≡ length (encoded_label r.0) + 8 + length r.1
unfolding encoded_row from
row-length r =
    let bits : List ℕ = map (λ k. bits_from r.1 (8 * k) 8) (from 0 8) in
    let targets : List ℕ = map (λ l. l.1) r.1 in
    omega (
      arith,
      length-append (encoded_label r.0 ++ bits) targets,
      length-append (encoded_label r.0) bits,
      length-map r.1 (λ (l : ℕ × ℕ). l.1),
    )

-- rows have nine to eleven bytes for each row, and one for each link
rows-length : (rows : List (Row Label)) →
    (9 * length rows + links_in rows ≤ length (encoded_rows rows)) × (length (encoded_rows rows) ≤ 11 * length rows + links_in rows)
unfolding encoded_rows links_in
rows-length [] = (omega arith, omega arith)
rows-length (r ∷ rs) =
    let both = length-append (encoded_row r) (encoded_rows rs) in
    (omega (arith, both, row-length r, label-length r.0, rows-length rs), omega (arith, both, row-length r, label-length r.0, rows-length rs))

-- a record has a byte for the count, nine to eleven for each node, and one for each link
pub encoded-length : (rows : List (Row Label)) →
    (1 + 9 * length rows + links_in rows ≤ length (encoded rows)) × (length (encoded rows) ≤ 1 + 11 * length rows + links_in rows)
unfolding encoded
encoded-length rows = (omega (arith, rows-length rows), omega (arith, rows-length rows))

-- "The longest record becomes 4,854 bytes."
pub longest : (rows : List (Row Label)) → length rows ≤ 255 → links_in rows ≤ 2048 → length (encoded rows) ≤ 4854
longest rows nodes links = omega (arith, encoded-length rows)
