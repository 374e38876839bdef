-- A node's label is what a record says of the node beside its links: its type and its range of levels (document 02, Paper 7: "Bits 0 to 6
-- of the type byte are the type; bit 7 says that two bytes follow it, lowest and highest level, 0 to 255").
use Rattle.std.specs.Prelude.{Bool, ◌&&◌, List, ℕ, eqb}
use Rattle.graphs.specs.Graph.{Graph}
use Rattle.graphs.specs.Rows.{Row, graph_of}

-- a type with a range of levels
pub record Ranged (T : Type 0) : Type 0 where
  pub type : T
  pub lowest : ℕ
  pub highest : ℕ

-- the label of a node in a record: the type is a number
abbrev pub Label : Type 0
Label = Ranged ℕ

-- a type without a range: "without the bit the range is 0 to 255"
abbrev pub plain : {T : Type 0} → T → Ranged T
plain a = record { type = a; lowest = 0; highest = 255 }

-- whether the range of a label is the full one, "0 to 255"
unfoldable pub is_full : Label → Bool
is_full l = eqb l.lowest 0 && eqb l.highest 255

-- the label past the end of a list of rows
abbrev pub no_label : Label
no_label = plain 0

-- the graph that rows state
abbrev pub graph_of_rows : List (Row Label) → Graph Label ℕ
graph_of_rows rows = graph_of no_label rows
