-- In this file the record of document 01's case 7, top[0: a], is written and read, without ranges of levels and with them.
use mathlib.Core.Path.{◌≡◌, refl}
use mathlib.Core.List.{List, [], ◌∷◌, ◌++◌}
use mathlib.Core.Option.{bind}
use Prim.Native.Nat.{ℕ}
use lib.ListN.{replicate}
use Rattle.graphs.specs.Rows.{Row, from, target}
use Rattle.graphs.specs.Number.{visit, each, member}
use Rattle.graphs.specs.Unify.{any_of, deep}
use Rattle.peeling.specs.Range.{label_in_range}
use Rattle.record.specs.declared.GraphFault.TheVariants.{Malformed, OutOfRange, Cyclic, Unreached}
use Rattle.decode.specs.Decode.{bit_of, take_links, label_length, label_of, take_row, take_rows, decoded}
use Rattle.encoder.specs.Encode.{bits_from, is_full, encoded_label, encoded_row, encoded_rows, encoded}
use Rattle.graphs.specs.Order.{all_of}
use Rattle.lattice.specs.Label.{Label, plain}
use Rattle.record.specs.Read.{in_range, cyclic, reaches_all, reading, accepted, refused}

rows : List (Row Label)
rows = (plain 3, (0, 1) ∷ []) ∷ (plain 1, []) ∷ []

bytes : List ℕ
bytes = 2 ∷ 3 ∷ 1 ∷ replicate 7 0 ++ 1 ∷ 1 ∷ replicate 8 0

case-7-written : encoded rows ≡ bytes
unfolding rows bytes encoded encoded_rows encoded_row encoded_label is_full bits_from target from
case-7-written = refl

case-7-read : reading 4 bytes ≡ accepted rows
unfolding rows bytes reading decoded bind take_rows take_row take_links label_length label_of bit_of in_range label_in_range all_of cyclic any_of deep reaches_all visit each member target from
case-7-read = refl

-- A lone node whose link leads to itself is cyclic. A target past the end is out of range, a record that is cut short is malformed, and
-- a second node that no link enters is unreached.
self-loop : reading 4 (1 ∷ 3 ∷ 1 ∷ replicate 7 0 ++ 0 ∷ []) ≡ refused Cyclic
unfolding reading decoded bind take_rows take_row take_links label_length label_of bit_of in_range label_in_range all_of cyclic any_of deep reaches_all visit each member target from
self-loop = refl

past_end : reading 4 (1 ∷ 3 ∷ 1 ∷ replicate 7 0 ++ 1 ∷ []) ≡ refused OutOfRange
unfolding reading decoded bind take_rows take_row take_links label_length label_of bit_of in_range label_in_range all_of cyclic any_of deep reaches_all visit each member target from
past_end = refl

short : reading 4 (1 ∷ 3 ∷ 1 ∷ replicate 7 0) ≡ refused Malformed
unfolding reading decoded bind take_rows take_row take_links label_length label_of bit_of in_range label_in_range all_of cyclic any_of deep reaches_all visit each member target from
short = refl

apart : reading 4 (2 ∷ 3 ∷ replicate 8 0 ++ 3 ∷ replicate 8 0) ≡ refused Unreached
unfolding reading decoded bind take_rows take_row take_links label_length label_of bit_of in_range label_in_range all_of cyclic any_of deep reaches_all visit each member target from
apart = refl

-- the same record with the root's levels from 2 to 9
ranged : List (Row Label)
ranged = (record { type = 3; lowest = 2; highest = 9 }, (0, 1) ∷ []) ∷ (plain 1, []) ∷ []

ranged_bytes : List ℕ
ranged_bytes = 2 ∷ 131 ∷ 2 ∷ 9 ∷ 1 ∷ replicate 7 0 ++ 1 ∷ 1 ∷ replicate 8 0

ranged-written : encoded ranged ≡ ranged_bytes
unfolding ranged ranged_bytes encoded encoded_rows encoded_row encoded_label is_full bits_from target from
ranged-written = refl

ranged-read : reading 4 ranged_bytes ≡ accepted ranged
unfolding ranged ranged_bytes reading decoded bind take_rows take_row take_links label_length label_of bit_of in_range label_in_range all_of cyclic any_of deep reaches_all visit each member target from
ranged-read = refl

-- the record with the full range spelled out, and with a lowest level above the highest
spelled_out : reading 4 (2 ∷ 131 ∷ 0 ∷ 255 ∷ 1 ∷ replicate 7 0 ++ 1 ∷ 1 ∷ replicate 8 0) ≡ accepted rows
unfolding rows reading decoded bind take_rows take_row take_links label_length label_of bit_of in_range label_in_range all_of cyclic any_of deep reaches_all visit each member target from
spelled_out = refl

crossed : reading 4 (1 ∷ 131 ∷ 9 ∷ 2 ∷ replicate 8 0) ≡ refused OutOfRange
unfolding reading decoded bind take_rows take_row take_links label_length label_of bit_of in_range label_in_range all_of cyclic any_of deep reaches_all visit each member target from
crossed = refl
