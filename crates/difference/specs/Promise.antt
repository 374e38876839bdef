-- The difference of g and s along a map of nodes (document 01, "Difference"). s and g are given by their rows, t is the table with n types, and
-- `over` gives the node of s that each node of g lies over: "Each path of g leads to one node of s".
use Rattle.std.specs.Prelude.{Bool, List, ℕ, eqb, length}
use Rattle.std.proofs.Math.Option.{Option, get_or}
use Rattle.graphs.specs.Graph.{Graph}
use Rattle.graphs.specs.Rows.{Row, from}
use Rattle.graphs.specs.Difference.{Link}
use Rattle.graphs.specs.Reasons.{reason_at, along_links, written_order}
use Rattle.graphs.specs.OfRows.{wanted_over, difference_over}
use Rattle.lattice.specs.Table.{every, found}
use Rattle.lattice.specs.Label.{Label, no_label}
use Rattle.lattice.specs.Labels.{table_labels, wanted_label}
use Rattle.layout.specs.Layout.{graph_of_rows}

module _ (n : ℕ) (t : List ℕ) (s g : List (Row Label)) (over : ℕ → ℕ) where
  -- "The wanted type is the greatest type whose meet with the meet of all g types over this node (top if none) equals the type in s." The
  -- wanted label is the wanted type with the wanted range (document 02, Paper 7). A node has no wanted label where, of the types in question,
  -- "none is the greatest" (document 02, Paper 6).
  unfoldable pub wanted_along : ℕ → Option Label
  wanted_along v = wanted_over (table_labels n t) no_label s g over (wanted_label n t) v

  -- every node of s, kept or not, has a wanted label
  unfoldable pub all_wanted_along : Bool
  all_wanted_along = every (length s) λ v. found (wanted_along v)

-- `earlier` is the order of links: "by parent number, then feature", or that of a list (document 02, Paper 10).
module _ (earlier : Link ℕ → Link ℕ → Bool) (n : ℕ) (t : List ℕ) (s g : List (Row Label)) (over : ℕ → ℕ) where
  -- The difference, whose nodes carry their wanted labels.
  unfoldable pub difference_along : Graph Label ℕ
  difference_along =
      difference_over (table_labels n t) no_label s g over earlier λ v. get_or (wanted_along n t s g over v) no_label

  -- the reasons for the links of the difference "in record order" (document 02, Paper 13)
  unfoldable pub reasons_along : List ℕ
  reasons_along =
      along_links difference_along
      (reason_at eqb eqb (graph_of_rows s) (from 0 (length s)) (graph_of_rows g) (from 0 (length g)) over earlier)
      (written_order eqb difference_along)
