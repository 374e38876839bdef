-- "Export numbers the nodes as the written record does" (document 02, Paper 2): the rows of that record.
use Rattle.std.specs.Prelude.{◌≡◌, List, ℕ, eqb}
use Rattle.graphs.specs.Rows.{Row}
use Rattle.graphs.specs.Number.{canonical, written}
use Rattle.lattice.specs.Label.{Label}
use Rattle.record.specs.Read.{reading, accepted, graph_of_rows}

-- The record is accepted, and its written form has these rows.
pub record WrittenForm (n : ℕ) (bytes : List ℕ) (form : List (Row Label)) : Type 0 where
  pub graph : List (Row Label)
  pub reads : reading n bytes ≡ accepted graph
  pub is : canonical eqb (graph_of_rows graph) ≡ written form
