-- The common part of the two graphs of a call, by given joins of types, and what writing it leaves (document 01, "Order and results").
use Rattle.std.specs.Prelude.{List, ℕ}
use Rattle.graphs.specs.Graph.{Graph}
use Rattle.graphs.specs.Generalize.{generalization_by}
use Rattle.graphs.specs.OfRows.{common_form}
use Rattle.lattice.specs.Label.{Label, no_label}
use Rattle.lattice.specs.Labels.{join_ranged}
use Rattle.layout.specs.Layout.{rows_of, graph_in}
use Rattle.encode.specs.Encode.{Outcome, written_out}

-- The common part of two graphs, by the joins given.
abbrev pub product : (ℕ → ℕ → ℕ) → List ℕ → List ℕ → Graph Label (ℕ × ℕ)
product joins a b = generalization_by (join_ranged joins) (graph_in a) (graph_in b)

-- What writing the common part yields.
abbrev pub product_out : (ℕ → ℕ → ℕ) → List ℕ → List ℕ → List ℕ → Outcome
product_out joins a b old = written_out (common_form (join_ranged joins) no_label (rows_of a) (rows_of b)) old
