-- This file defines the rows that a record's bytes state (document 01, "Graph record"; ranges of levels by document 02, Paper 7). Bytes
-- that refusal 4 applies to state none.
use Rattle.std.specs.Prelude.{Bool, cond, ℕ, zero, suc, ◌+◌, ◌/◌, ◌%◌, ◌^◌, ◌<◌, eqb, leb, length, get_or, drop}
use mathlib.Core.List.{List, [], ◌∷◌, Memᴰ}
use Rattle.std.proofs.Math.Option.{Option, none, some, map, bind}
use Rattle.graphs.specs.Rows.{Row, features}
use Rattle.lattice.specs.Label.{Label, plain}

-- All numbers of a list are bytes.
abbrev pub AreBytes : List ℕ → Type 0
AreBytes bytes = (b : ℕ) → Memᴰ b bytes → b < 256

-- "feature f, 0 to 63, is bit f mod 8 of byte f div 8"
unfoldable pub bit_of : List ℕ → ℕ → Bool
bit_of bytes f = eqb ((get_or bytes (f / 8) 0 / 2 ^ (f % 8)) % 2) 1

-- What is read, how many links there may still be, and the bytes behind it.
pub record Taken (X : Type 0) : Type 0 where
  pub value : X
  pub room : ℕ
  pub rest : List ℕ

-- the same with another value made of what is read
abbrev pub changed : {X Y : Type 0} → (X → Y) → Taken X → Taken Y
changed make t = record { value = make t.value; room = t.room; rest = t.rest }

-- the link by feature f, whose target is the next byte, before the links that `next` reads
abbrev pub take_target : ℕ → (ℕ → List ℕ → Option (Taken (List (ℕ × ℕ)))) → ℕ → List ℕ → Option (Taken (List (ℕ × ℕ)))
take_target f next zero rest = none
take_target f next (suc room) [] = none
take_target f next (suc room) (t ∷ rest) = map (changed λ ls. (f, t) ∷ ls) (next room rest)

-- "one target byte for each standing bit, lowest feature first"
unfoldable pub take_links : (ℕ → Bool) → List ℕ → ℕ → List ℕ → Option (Taken (List (ℕ × ℕ)))
take_links stands [] room rest = some (record { value = []; room = room; rest = rest })
take_links stands (f ∷ fs) room rest = cond (stands f) (take_target f (take_links stands fs) room rest) (take_links stands fs room rest)

-- "bit 7 says that two bytes follow it, lowest and highest level" (document 02, Paper 7): whether bit 7 of a type byte is set
abbrev pub is_ranged : ℕ → Bool
is_ranged b = leb 128 b

-- the length of the label that bytes begin with
unfoldable pub label_length : List ℕ → ℕ
label_length rest = cond (is_ranged (get_or rest 0 0)) 3 1

-- the label: "Bits 0 to 6 of the type byte are the type .. without the bit the range is 0 to 255"
unfoldable pub label_of : List ℕ → Label
label_of rest =
    cond (is_ranged (get_or rest 0 0))
    (record { type = get_or rest 0 0 % 128; lowest = get_or rest 1 0; highest = get_or rest 2 0 })
    (plain (get_or rest 0 0 % 128))

-- The next row: "one type byte, 8 bytes of feature map .., then one target byte for each standing bit". The two levels stand "before the
-- feature map".
unfoldable pub take_row : ℕ → List ℕ → Option (Taken (Row Label))
take_row room rest =
    cond (leb (label_length rest + 8) (length rest))
    (map (changed λ ls. (label_of rest, ls))
    (take_links (bit_of (drop (label_length rest) rest)) features room (drop (label_length rest + 8) rest)))
    none

-- the next k rows: "for each node in turn"
unfoldable pub take_rows : ℕ → ℕ → List ℕ → Option (Taken (List (Row Label)))
take_rows zero room rest = some (record { value = []; room = room; rest = rest })
take_rows (suc k) room rest = bind (take_row room rest) λ r. map (changed λ rs. r.value ∷ rs) (take_rows k r.room r.rest)

-- "The record ends there": no byte is left behind the rows.
abbrev pub whole : Option (Taken (List (Row Label))) → Option (List (Row Label))
whole none = none
whole (some t) = cond (eqb (length t.rest) 0) (some t.value) none

-- the rows that a record states: "Byte 0 is the node count N, 1 to 255 .. At most 2,048 links in all."
unfoldable pub decoded : List ℕ → Option (List (Row Label))
decoded [] = none
decoded (n ∷ rest) = cond (eqb n 0) none (whole (take_rows n 2048 rest))
