-- This file defines how one list of words holds a decoded graph:
--   word 0               the number of nodes, N
--   word 1 + v, v <= N   where the row of node v begins; word 1 + N is where the last row ends
--   a row                its header, which holds the label, and one word for each link, features ascending
--   a header             the type, and lowest * levels + highest
--   a link's word        feature * scale + target
-- There may be a gap between the offset table and the first row.
use Rattle.std.specs.Prelude.{List, [], ◌∷◌, map, ℕ, zero, suc, ◌+◌, ◌*◌, ◌/◌, ◌%◌, ◌≤◌, ◌<◌, length, get_or}
use Rattle.std.proofs.Math.Seq.{slice}
use Rattle.graphs.specs.Graph.{Graph}
use Rattle.graphs.specs.Rows.{Row}
use Rattle.graphs.specs.Large.{links_in}
use Rattle.lattice.specs.Label.{Label}
use Rattle.lattice.specs.Labels.{Known}
pub use Rattle.lattice.specs.Label.{graph_of_rows}

-- The header's length, the label that a header holds, and the packing of a link stand here and in the crate's code alone.

-- the length of a header
abbrev pub header : ℕ
header = 2

-- 8 bits for each level
abbrev pub levels : ℕ
levels = 256

-- the label that the header at place k holds
abbrev pub label_from : List ℕ → ℕ → Label
label_from ws k = record { type = get_or ws k 0; lowest = get_or ws (k + 1) 0 / levels; highest = get_or ws (k + 1) 0 % levels }

-- 6 bits for the feature, 10 for the target
abbrev pub scale : ℕ
scale = 1024

-- the word of a link
abbrev pub link_word : ℕ × ℕ → ℕ
link_word l = l.0 * scale + l.1

-- the link that a word states: its feature and its target
abbrev pub link_of : ℕ → ℕ × ℕ
link_of w = (w / scale, w % scale)

-- the number of nodes
abbrev pub size : List ℕ → ℕ
size ws = get_or ws 0 0

-- where the row of node v begins
abbrev pub row_from : List ℕ → ℕ → ℕ
row_from ws v = get_or ws (v + 1) 0

-- where the links of node v begin
abbrev pub links_from : List ℕ → ℕ → ℕ
links_from ws v = row_from ws v + header

-- where the row of node v ends
abbrev pub row_end : List ℕ → ℕ → ℕ
row_end ws v = get_or ws (v + 2) 0

-- the label of node v
abbrev pub label_at : List ℕ → ℕ → Label
label_at ws v = label_from ws (row_from ws v)

-- the feature of the link at place k
abbrev pub feature_at : List ℕ → ℕ → ℕ
feature_at ws k = get_or ws k 0 / scale

-- the target of the link at place k
abbrev pub target_at : List ℕ → ℕ → ℕ
target_at ws k = get_or ws k 0 % scale

-- the links that stand from place `start` up to place `end`
unfoldable pub links_between : List ℕ → ℕ → ℕ → List (ℕ × ℕ)
links_between ws start end = map link_of (slice start end ws)

-- the links of node v
abbrev pub links_at : List ℕ → ℕ → List (ℕ × ℕ)
links_at ws v = links_between ws (links_from ws v) (row_end ws v)

-- the rows of the nodes from v on, k of them
unfoldable pub rows_from : List ℕ → ℕ → ℕ → List (Row Label)
rows_from ws v zero = []
rows_from ws v (suc k) = (label_at ws v, links_at ws v) ∷ rows_from ws (suc v) k

-- the rows that words hold
abbrev pub rows_of : List ℕ → List (Row Label)
rows_of ws = rows_from ws 0 (size ws)

-- the graph that words hold
abbrev pub graph_in : List ℕ → Graph Label ℕ
graph_in ws = graph_of_rows (rows_of ws)

-- v is a node, and its row lies inside the words
pub record Node (ws : List ℕ) (v : ℕ) : Type 0 where
  pub inside : v < size ws
  pub listed : v + 2 < length ws
  pub begun : links_from ws v ≤ row_end ws v
  pub ended : row_end ws v ≤ length ws

-- The words hold the rows of 1 to 510 nodes, behind the places that say where rows begin. The labels are such as a record can state, and
-- features are below 64 and ascend along a row.
pub record Shaped (ws : List ℕ) : Type 0 where
  pub nonempty : 0 < size ws
  pub few : size ws ≤ 510
  pub behind : size ws + 2 ≤ row_from ws 0
  pub node : (v : ℕ) → v < size ws → Node ws v
  pub labelled : (v : ℕ) → v < size ws → Known 128 (label_at ws v)
  pub known : (v k : ℕ) → v < size ws → links_from ws v ≤ k → k < row_end ws v → feature_at ws k < 64
  pub ascending : (v k : ℕ) → v < size ws → links_from ws v ≤ k → k + 1 < row_end ws v → feature_at ws k < feature_at ws (k + 1)

-- The words are shaped, and every target is a node.
pub record Sound (ws : List ℕ) : Type 0 where
  pub shaped : Shaped ws
  pub targets : (v k : ℕ) → v < size ws → links_from ws v ≤ k → k < row_end ws v → target_at ws k < size ws

-- The words hold the graph of a record over a table: it has at most 255 nodes and 2,048 links, and types below 64.
pub record Recorded (ws : List ℕ) : Type 0 where
  pub sound : Sound ws
  pub small : size ws ≤ 255
  pub short : links_in (rows_of ws) ≤ 2048
  pub typed : (v : ℕ) → v < size ws → Known 64 (label_at ws v)

-- a link of node v stands at place k
pub record Place (ws : List ℕ) (v k : ℕ) : Type 0 where
  pub inside : v < size ws
  pub low : links_from ws v ≤ k
  pub high : k < row_end ws v

-- the most words of a record's graph: the number of nodes, 256 places, 255 headers and 2,048 links
abbrev pub longest : ℕ
longest = 1 + 256 + 255 * header + 2048

-- where the last row ends
abbrev pub rows_end : List ℕ → ℕ
rows_end ws = row_from ws (size ws)
