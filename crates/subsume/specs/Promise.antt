-- What the order promises: it answers below exactly where s is below g, and then gives the map of g's nodes to those of s (document 01, "Order
-- and results").
use Rattle.std.specs.Prelude.{Bool, List, ℕ, get_or, is_some, Option, None, Some}
use Rattle.graphs.specs.Graph.{Below}
use Rattle.graphs.specs.Map.{NodeMap}
use Rattle.graphs.specs.Rows.{Row}
use Rattle.graphs.specs.OfRows.{lies_below}
use Rattle.lattice.specs.Label.{Label, no_label}
use Rattle.lattice.specs.Labels.{table_labels}
use Rattle.layout.specs.Layout.{graph_of_rows}

-- s and g are given by their rows; n and t are the type table. The answer is none where s is not below g; else it is a map that takes each node
-- of g to the node of s that it lies over.
abbrev pub Orders : (n : ℕ) (t : List ℕ) (s g : List (Row Label)) → Option (List ℕ) → Type 0
Orders n t s g None = Below (table_labels n t) (graph_of_rows s) (graph_of_rows g) → ⊥
Orders n t s g (Some map) = NodeMap (table_labels n t) (graph_of_rows s) (graph_of_rows g) (λ v. get_or map v 0)

-- whether the first of two graphs is below the second
abbrev pub rows_below : ℕ → List ℕ → List (Row Label) → List (Row Label) → Bool
rows_below n t s g = lies_below (table_labels n t) no_label s g

-- The order's answer as a truth value.
abbrev pub is_below : Option (List ℕ) → Bool
is_below answer = is_some answer
