-- The graph of a planning table, and when refusals 5, 6 and 7 apply to it: "and then 5 for types and 6, 7 and 8 as for records" (document 02,
-- Paper 2). Crate `rows` defines when 4, 14 and 15 apply.
use Rattle.std.specs.Prelude.{◌≡◌, List, ◌∷◌, ◌⊎◌, ℕ, ◌≤◌, ◌<◌}
use Rattle.std.proofs.Math.Option.{some}
use Rattle.graphs.specs.Graph.{Graph, follow, Reached}
use Rattle.lattice.specs.Label.{Label}
use Rattle.record.specs.Read.{graph_of_rows}
use Rattle.rows.specs.declared.Row as lent
use Rattle.rows.specs.Rows.{label_in, nodes_in, table_rows}
use Rattle.rows.specs.Faults.{Formed}

-- the graph that rows and node bytes state
abbrev pub table_graph : List ℕ → List lent.Row → Graph Label ℕ
table_graph nodes rows = graph_of_rows (table_rows nodes rows)

-- 5: "a type that is 0 or at least n", "A lowest level above the highest". No byte is above 255, so the last case never applies to bytes.
abbrev pub OutsideLabel : ℕ → Label → Type 0
OutsideLabel n l = (l.type ≡ 0) ⊎ (n ≤ l.type) ⊎ (l.highest < l.lowest) ⊎ (255 < l.highest)

-- The label is not refused by 5.
abbrev pub InsideLabel : ℕ → Label → Type 0
InsideLabel n l = (0 < l.type) × (l.type < n) × (l.lowest ≤ l.highest) × (l.highest ≤ 255)

-- 6: "a node reaches itself"
abbrev pub Loops : List ℕ → List lent.Row → Type 0
Loops nodes rows =
    (v : ℕ) × (v < nodes_in nodes) × (f : ℕ) × (p : List ℕ) × (follow (table_graph nodes rows).link (some v) (f ∷ p) ≡ some v)

-- 7: "a node the root does not reach"
abbrev pub Unreachable : List ℕ → List lent.Row → Type 0
Unreachable nodes rows = (v : ℕ) × (v < nodes_in nodes) × (Reached (table_graph nodes rows) v → ⊥)

-- None of 4, 14, 15, 5, 6 and 7 applies, over a table with n types.
pub record Importable (n : ℕ) (nodes : List ℕ) (rows : List lent.Row) : Type 0 where
  pub formed : Formed nodes rows
  pub labels : (v : ℕ) → v < nodes_in nodes → InsideLabel n (label_in nodes v)
  pub loopless : Loops nodes rows → ⊥
  pub reached : (v : ℕ) → v < nodes_in nodes → Reached (table_graph nodes rows) v
