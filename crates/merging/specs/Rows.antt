-- Two graphs side by side in a pool of words, and the graph of their classes in words.
use Rattle.std.specs.Prelude.{◌≡◌, ℕ, ◌+◌, ◌-◌, ◌*◌, ◌/◌, ◌%◌, ◌<◌, ◌≤◌, cond, List, length, ◌==◌, slice_index}
use Rattle.graphs.specs.Graph.{Reached}
use Rattle.lattice.specs.Labels.{Known}
use Rattle.layout.specs.Layout.{Recorded, header, scale, link_word, size, row_from, links_from, row_end, rows_end, label_at, target_at, graph_in}
use Rattle.classes.specs.Classes.{At, row_length, sum_to, Roomy, Closed}
use Rattle.merging.specs.Lowered.{Below, ClassLabels, label_of_class}

-- A graph to combine, over n types: it is that of a record, and all its nodes are reached.
pub record Operand (n : ℕ) (ws : List ℕ) : Type 0 where
  pub recorded : Recorded ws
  pub labelled : (v : ℕ) → v < size ws → Known n (label_at ws v)
  pub reached : (v : ℕ) → v < size ws → Reached (graph_in ws) v

-- the number of words of a graph's rows
abbrev pub words_in : List ℕ → ℕ
words_in ws = rows_end ws - row_from ws 0

-- the number of links of two graphs
abbrev pub links_both : List ℕ → List ℕ → ℕ
links_both a b = (words_in a + words_in b) - header * (size a + size b)

-- So many words are enough for the graph of the classes of two graphs, and every place in it is a number that a word can hold.
pub record Holding (a b : List ℕ) (graph : ℕ) : Type 0 where
  pub words : ((size a + size b) + 2) + (words_in a + words_in b) ≤ graph
  pub short : graph ≤ 65535

-- The lent arrays, a pool and a list of waiting pairs, have the places that merging two graphs may take.
pub record Spacious (a b : List ℕ) (pool waiting : ℕ) : Type 0 where
  pub joins : Roomy (size a + size b) (links_both a b) (words_in a + words_in b) pool
  pub pairs : links_both a b < waiting

-- The words of a graph's rows up to `end` stand at the places from `at` to `next`, each moved by `shift`; what stood before is kept. Words of
-- headers may overflow; no span has them.
pub record WordsCopied (ws : List ℕ) (end at shift : ℕ) (pool pool' : List ℕ) (next : ℕ) : Type 0 where
  pub long : length pool' ≡ length pool
  pub kept : (k : ℕ) → k < at → slice_index pool' k ≡ slice_index pool k
  pub counted : next + row_from ws 0 ≡ at + end
  pub words_are : (i : ℕ) → row_from ws 0 + i < end → slice_index pool' (at + i) ≡ (slice_index ws (row_from ws 0 + i) + shift) % 65536

-- The spans of the links of a graph's nodes before `nodes` stand at the nodes' numbers moved by `shift`; what stood before is kept.
pub record SpansCopied (ws : List ℕ) (nodes at shift : ℕ) (start end start' end' : List ℕ) : Type 0 where
  pub start-long : length start' ≡ length start
  pub end-long : length end' ≡ length end
  pub start-kept : (x : ℕ) → x < shift → slice_index start' x ≡ slice_index start x
  pub end_kept : (x : ℕ) → x < shift → slice_index end' x ≡ slice_index end x
  pub start_is : (v : ℕ) → v < nodes → slice_index start' (shift + v) ≡ ((row_from ws v - row_from ws 0) + at) + header
  pub end_is : (v : ℕ) → v < nodes → slice_index end' (shift + v) ≡ (row_end ws v - row_from ws 0) + at

-- The links of each node v of a graph stand in the pool, at the span of the number shift + v, with each target moved by `shift`.
pub record Placed (ws : List ℕ) (shift : ℕ) (start end pool : List ℕ) : Type 0 where
  pub spans : (v : ℕ) → v < size ws → slice_index end (shift + v) + links_from ws v ≡ slice_index start (shift + v) + row_end ws v
  pub words : (v i : ℕ) → v < size ws → links_from ws v + i < row_end ws v →
      slice_index pool (slice_index start (shift + v) + i) ≡ slice_index ws (links_from ws v + i) + shift

-- The word of a link whose target is replaced by its class.
abbrev pub class_word : List ℕ → ℕ → ℕ
class_word class w = link_word (w / scale, slice_index class (w % scale))

-- A row stands at the places from `at` to `next`, with each target replaced by its class; what stood before is kept.
pub record RowCopied (class pool : List ℕ) (start end at : ℕ) (graph graph' : List ℕ) (next : ℕ) : Type 0 where
  pub long : length graph' ≡ length graph
  pub kept : (k : ℕ) → k < at → slice_index graph' k ≡ slice_index graph k
  pub counted : next + start ≡ at + end
  pub words_are : (i : ℕ) → start + i < end → slice_index graph' (at + i) ≡ class_word class (slice_index pool (start + i))

-- The end of a node's row; its start, where the node represents no class.
abbrev pub end_of_row : List ℕ → List ℕ → List ℕ → ℕ → ℕ
end_of_row class start end x = cond (slice_index class x == x) (slice_index end x) (slice_index start x)

-- The first `nodes` rows of the graph of the classes: the representative of a class has the class's row, other nodes have no links, and each node
-- has the label of its class.
pub record ClassRows (nodes : ℕ) (class labels start end pool graph : List ℕ) : Type 0 where
  pub lengths : (x : ℕ) → x < nodes → row_end graph x ≡ links_from graph x + row_length (λ y. slice_index class y) start end x
  pub labels-are : (x : ℕ) → x < nodes → label_at graph x ≡ label_of_class labels (slice_index class x)
  pub words_are : (x i : ℕ) → x < nodes → slice_index class x ≡ x → slice_index start x + i < slice_index end x →
      slice_index graph (links_from graph x + i) ≡ class_word class (slice_index pool (slice_index start x + i))

-- The whole graph of the classes is built.
pub record ClassGraph (nodes : ℕ) (class labels start end pool graph : List ℕ) : Type 0 where
  pub sized : size graph ≡ nodes
  pub begun : (x : ℕ) → x < nodes → nodes + 2 ≤ row_from graph x
  pub ended : (x : ℕ) → x < nodes → row_end graph x ≤ length graph
  pub rows : ClassRows nodes class labels start end pool graph

-- What building the graph of the classes in so many words asks of the classes' rows: the words have room for the number of nodes, `nodes` + 1
-- places, the headers and the links.
pub record Fillable (nodes : ℕ) (class start end pool : List ℕ) (words : ℕ) : Type 0 where
  pub few : nodes ≤ 510
  pub classed : (x : ℕ) → x < nodes → slice_index class x < 510
  pub rising : (x : ℕ) → x < nodes → (slice_index start x ≤ slice_index end x) × (slice_index end x ≤ 37692) × (slice_index end x ≤ length pool)
  pub within : (x k : ℕ) → x < nodes → At start end x k → (target_at pool k < 510) × (slice_index class (target_at pool k) < 510)
  pub short : sum_to nodes (row_length (λ y. slice_index class y) start end) ≤ 4096
  pub fits : ((nodes + 2) + nodes * header) + sum_to nodes (row_length (λ y. slice_index class y) start end) ≤ words

-- The two graphs stand side by side, their nodes are merged into classes with the meets of their labels, and the graph of the classes is built.
pub record Merges (n : ℕ) (meets : ℕ → ℕ → ℕ) (a b graph : List ℕ) : Type 0 where
  pub class : List ℕ
  pub labels : List ℕ
  pub start : List ℕ
  pub end : List ℕ
  pub pool : List ℕ
  pub start' : List ℕ
  pub end' : List ℕ
  pub pool' : List ℕ
  pub used : ℕ
  pub first : Placed a 0 start end pool
  pub second : Placed b (size a) start end pool
  pub closed : Closed (size a + size b) (size a) start end pool class start' end' pool' used
  pub lowers : ClassLabels n meets a b class labels
  pub below : Below 128 labels
  pub built : ClassGraph (size a + size b) class labels start' end' pool' graph
