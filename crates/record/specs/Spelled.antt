-- This file defines the bytes of a record in which each node's range is written or left out (document 02, Paper 7: "bit 7 says that two
-- bytes follow it, lowest and highest level .. without the bit the range is 0 to 255. .. A written record never writes the full range, and
-- a read one may"). The definitions serve to say which bytes reading accepts.
use Rattle.std.specs.Prelude.{◌≡◌, Bool, true, false, cond, ℕ, suc, ◌+◌, ◌*◌, ◌≤◌, ◌<◌, length}
use mathlib.Core.List.{List, [], ◌∷◌, ◌++◌, map, Memᴰ}
use Rattle.graphs.specs.Rows.{Row, from}
use Rattle.graphs.specs.Large.{links_in, Ascending}
use Rattle.lattice.specs.Label.{Label, is_full, graph_of_rows}
use Rattle.encoder.specs.Encode.{bits_from}

-- the type byte, with bit 7 and the two levels where the range is written
unfoldable pub spelled_label : Bool → Label → List ℕ
spelled_label writes l = cond writes ((128 + l.type) ∷ l.lowest ∷ l.highest ∷ []) (l.type ∷ [])

-- "one type byte, 8 bytes of feature map .., then one target byte for each standing bit, lowest feature first"
unfoldable pub spelled_row : Bool → Row Label → List ℕ
spelled_row writes r = spelled_label writes r.0 ++ map (λ k. bits_from r.1 (8 * k) 8) (from 0 8) ++ map (λ l. l.1) r.1

-- the rows, where `writes v` says whether the range of the node v is written
unfoldable pub spelled_rows : (ℕ → Bool) → List (Row Label) → List ℕ
spelled_rows writes [] = []
spelled_rows writes (r ∷ rs) = spelled_row (writes 0) r ++ spelled_rows (λ v. writes (suc v)) rs

-- "Byte 0 is the node count"
unfoldable pub spelled : (ℕ → Bool) → List (Row Label) → List ℕ
spelled writes rows = length rows ∷ spelled_rows writes rows

-- A record can state the rows: there is a node, "At most 2,048 links in all", types have seven bits, and features are 0 to 63, lowest
-- first.
pub record Statable (rows : List (Row Label)) : Type 0 where
  pub some-node : 0 < length rows
  pub few-links : links_in rows ≤ 2048
  pub types : (r : Row Label) → Memᴰ r rows → r.0.type < 128
  pub ascending : (r : Row Label) → Memᴰ r rows → Ascending r.1
  pub features : (r : Row Label) → Memᴰ r rows → (l : ℕ × ℕ) → Memᴰ l r.1 → l.0 < 64

-- The bytes are a record of the rows. The record writes the ranges of the nodes for which `writes` says so, among them every range that is
-- not full.
pub record Spells (bytes : List ℕ) (rows : List (Row Label)) (writes : ℕ → Bool) : Type 0 where
  pub statable : Statable rows
  pub bytes-are : bytes ≡ spelled writes rows
  pub ranges : (v : ℕ) → v < length rows → is_full ((graph_of_rows rows).label v) ≡ false → writes v ≡ true
