-- This file defines how records without ranges are read over types alone, as document 01 has them. The definitions serve to show that
-- records without ranges are read the same with ranges and without (document 02, Paper 7: "Records without ranges must give the bytes
-- they gave before").
use Rattle.std.specs.Prelude.{Bool, true, cond, not, ◌&&◌, List, [], ◌∷◌, map, ℕ, zero, suc, eqb, leb, length, get_or, drop}
use Rattle.std.proofs.Math.Option
use Rattle.std.proofs.Math.Option.{Option, none, some, bind}
use Rattle.graphs.specs.Rows.{Row, features}
use Rattle.lattice.specs.Label.{Label, plain}
use Rattle.decode.specs.Decode.{Taken, bit_of, changed, is_ranged, take_links, take_row, whole}
use Rattle.record.specs.Read.{Reading, judged}

-- whether a test passes on what is left once a row is read; true where no row is read
abbrev pub onward : {X : Type 0} → (Taken X → Bool) → Option (Taken X) → Bool
onward test none = true
onward test (some r) = test r

-- whether no type byte of the next k rows has bit 7
unfoldable pub rows_unranged : ℕ → ℕ → List ℕ → Bool
rows_unranged zero room rest = true
rows_unranged (suc k) room rest =
    not (is_ranged (get_or rest 0 0)) && onward (λ r. rows_unranged k r.room r.rest) (take_row room rest)

-- whether no type byte of a record has bit 7
unfoldable pub unranged : List ℕ → Bool
unranged [] = true
unranged (n ∷ rest) = rows_unranged n 2048 rest

-- the next row, over types alone: "one type byte, 8 bytes of feature map .., then one target byte for each standing bit"
unfoldable pub take_typed_row : ℕ → List ℕ → Option (Taken (Row ℕ))
take_typed_row room rest =
    cond (leb 9 (length rest))
    (Option.map (changed λ ls. (get_or rest 0 0, ls)) (take_links (bit_of (drop 1 rest)) features room (drop 9 rest)))
    none

-- the next k rows, over types alone: "for each node in turn"
unfoldable pub take_typed_rows : ℕ → ℕ → List ℕ → Option (Taken (List (Row ℕ)))
take_typed_rows zero room rest = some (record { value = []; room = room; rest = rest })
take_typed_rows (suc k) room rest =
    bind (take_typed_row room rest) λ r. Option.map (changed λ rs. r.value ∷ rs) (take_typed_rows k r.room r.rest)

-- rows of types, with the full range at each node
abbrev pub plain_rows : List (Row ℕ) → List (Row Label)
plain_rows rows = map (λ r. (plain r.0, r.1)) rows

-- the rows that a record states over types alone: "The record ends there."
unfoldable pub decoded_types : List ℕ → Option (List (Row Label))
decoded_types [] = none
decoded_types (n ∷ rest) = cond (eqb n 0) none (whole (Option.map (changed plain_rows) (take_typed_rows n 2048 rest)))

-- what reading a record over types alone answers, with the same refusals 5 to 7
unfoldable pub reading_types : ℕ → List ℕ → Reading
reading_types n bytes = judged n (decoded_types bytes)
