-- What the search for wanted labels requires: two graphs of records over an accepted table, s below g (document 01, "Difference"). `map` has the
-- node of s that each node of g lies over.
use Rattle.std.specs.Prelude.{◌≡◌, true, List, ℕ, ◌≤◌, ◌<◌, length, get_or}
use Rattle.graphs.specs.Graph.{AnySize, Reached}
use Rattle.graphs.specs.Map.{NodeMap}
use Rattle.lattice.specs.Labels.{table_labels, Known}
use Rattle.lattice.specs.Table.{accepted}
use Rattle.layout.specs.Layout.{longest, size, label_at, graph_in, Recorded}

-- The table is accepted, s and g are graphs of records over this table, and s is below g by `map`.
pub record Asked (n : ℕ) (t g s map : List ℕ) : Type 0 where
  pub ok : accepted n t ≡ true
  pub upper : Recorded g
  pub lower : Recorded s
  pub short : length s ≤ longest
  pub upper-typed : (y : ℕ) → y < size g → Known n (label_at g y)
  pub lower-typed : (v : ℕ) → v < size s → Known n (label_at s v)
  pub upper-reached : (y : ℕ) → y < size g → Reached (graph_in g) y
  pub lower-reached : (v : ℕ) → v < size s → Reached (graph_in s) v
  pub any-size : AnySize (table_labels n t) (graph_in s)
  pub lies : NodeMap (table_labels n t) (graph_in s) (graph_in g) (λ y. get_or map y 0)
