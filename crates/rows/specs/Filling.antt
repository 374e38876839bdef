-- This file says what filling words with the graph of a planning table asks and promises. The graph is read from the table of targets
-- (`Placing.antt`) and the node bytes.
use Rattle.std.specs.Prelude.{◌≡◌, Bool, true, false, List, map, ℕ, zero, suc, ◌+◌, ◌*◌, ◌≤◌, ◌<◌, length, get_or}
use Rattle.std.proofs.Math.Option.{Option, none, some}
use Rattle.graphs.specs.Rows.{Row, features, from, links_of}
use Rattle.graphs.specs.Large.{links_in}
use Rattle.lattice.specs.Label.{Label}
use Rattle.lattice.specs.Labels.{Known}
use Rattle.layout.specs.Layout.{Shaped, header, longest, size, label_from, links_between, rows_of}
use Rattle.layout.specs.Builder.{Same}
use Rattle.rows.specs.Rows.{label_in, nodes_in}

-- what the number at a place of the table of targets states: 0 is no target, and w + 1 is the target w
abbrev pub cell : ℕ → Option ℕ
cell zero = none
cell (suc w) = some w

-- the target that the table of targets has for a parent and a feature
abbrev pub cell_at : List ℕ → ℕ → ℕ → Option ℕ
cell_at targets p f = cell (get_or targets (p * 64 + f) 0)

-- the links of node v, lowest feature first
unfoldable pub placed_links : List ℕ → ℕ → List (ℕ × ℕ)
placed_links targets v = links_of (cell_at targets v) features

-- the row of node v
abbrev pub placed_row : List ℕ → List ℕ → ℕ → Row Label
placed_row nodes targets v = (label_in nodes v, placed_links targets v)

-- the rows of the first k nodes
abbrev pub placed_rows : List ℕ → List ℕ → ℕ → List (Row Label)
placed_rows nodes targets k = map (placed_row nodes targets) (from 0 k)

-- The answer tells whether a record can state the labels of all nodes; if not, some type has bit 7.
pub record Labelled (nodes : List ℕ) (answer : Bool) : Type 0 where
  pub known : answer ≡ true → (v : ℕ) → v < nodes_in nodes → Known 128 (label_in nodes v)
  pub unknown : answer ≡ false → (v : ℕ) × (v < nodes_in nodes) × (128 ≤ (label_in nodes v).type)

-- There are 1 to 255 nodes with labels that a record can state, and at most 2,048 links.
pub record Fillable (nodes targets : List ℕ) : Type 0 where
  pub some-nodes : 1 ≤ nodes_in nodes
  pub few : nodes_in nodes ≤ 255
  pub labels : (v : ℕ) → v < nodes_in nodes → Known 128 (label_in nodes v)
  pub low : (k : ℕ) → get_or targets k 0 ≤ 256
  pub long : length targets ≡ 16320
  pub links : links_in (placed_rows nodes targets (nodes_in nodes)) ≤ 2048

-- The row of node v stands from place `at` up to place `next`. The words before it stay.
pub record RowFilled (nodes targets : List ℕ) (v : ℕ) (old : List ℕ) (at : ℕ) (new : List ℕ) (next : ℕ) : Type 0 where
  pub long : length new ≡ longest
  pub next-is : next ≡ at + header + length (placed_links targets v)
  pub kept : Same old new 0 at
  pub row : ◌≡◌ {A = Row Label} (label_from new at, links_between new (at + header) next) (placed_row nodes targets v)

-- The words hold the rows of all nodes.
pub record Filled (nodes targets ws : List ℕ) : Type 0 where
  pub long : length ws ≡ longest
  pub rows_are : rows_of ws ≡ placed_rows nodes targets (nodes_in nodes)
  pub shaped : Shaped ws
  pub small : size ws ≤ 255
