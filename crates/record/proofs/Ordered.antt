-- The computed order of two graphs, the second with the rows of an accepted record, is the order over paths.
use mathlib.Core.Path.{◌≡◌}
use mathlib.Core.Bool.{true}
use mathlib.Core.List.{List}
use mathlib.Core.Logic.{◌↔◌}
use mathlib.Core.Option.{some}
use Prim.Native.Nat.{ℕ, ◌<◌}
use native.Mathlib.Omega.{arith}
use lib.Dec.{eqb}
use lib.ListN.{length}
use Rattle.graphs.specs.Graph.{Below, walk}
use Rattle.graphs.specs.Rows.{Row, from}
use Rattle.graphs.specs.Order.{subsumes}
use Rattle.graphs.proofs.Lists.{length_from, tells-eqb}
use Rattle.graphs.proofs.Finite.{short-paths}
use Rattle.graphs.proofs.Order.{subsumes-exact}
use Rattle.lattice.specs.Label.{Label}
use Rattle.lattice.specs.Labels.{table_labels}
use Rattle.layout.specs.Layout.{graph_of_rows}
use Rattle.record.proofs.Nodes.{reached-listed}
use Rattle.record.proofs.Accepted.{Rules, rules-linked, rules-of-any-size}

module _ (n : ℕ) (t : List ℕ) (s g : List (Row Label)) (rules : Rules n g) where
  -- a walk is shorter than the rows
  pub short : (p : List ℕ) (v : ℕ) → walk (graph_of_rows g) p ≡ some v → length p < length g
  short p v e =
      omega (
        arith,
        length_from 0 (length g),
        short-paths (graph_of_rows g) (from 0 (length g)) (reached-listed g (rules-linked rules)) (rules-of-any-size n g rules t).any-size.acyclic p v e,
      )

  -- "is the first below the second": the computed order is the order over paths
  pub order-test : (subsumes (table_labels n t) eqb eqb (graph_of_rows s) (graph_of_rows g) (length g) ≡ true) ↔ Below (table_labels n t) (graph_of_rows s) (graph_of_rows g)
  order-test =
      subsumes-exact (table_labels n t) eqb eqb tells-eqb tells-eqb (graph_of_rows s) (graph_of_rows g)
      (rules-of-any-size n g rules t).any-size.features (length g) short
