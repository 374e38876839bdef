-- The labels of classes as they are computed: each is the meet of the labels of the nodes in its class.
use Rattle.std.specs.Prelude.{◌≡◌, ℕ, ◌+◌, ◌-◌, ◌*◌, ◌<◌, ◌≤◌, false, cond, List, ◌==◌, slice_index}
use mathlib.Core.List.{foldr}
use Rattle.graphs.specs.Rows.{from}
use Rattle.lattice.specs.Label.{Label, plain}
use Rattle.lattice.specs.Labels.{Known, meet_ranged}
use Rattle.bounds.specs.Sets.{Seekable, meet_in}
use Rattle.layout.specs.Layout.{size, header, label_at, label_from}

-- The label a of the class c, met with the label of node v where the node is in that class.
abbrev pub lower_by : (ℕ → ℕ → ℕ) → List ℕ → List ℕ → ℕ → ℕ → ℕ → Label → Label
lower_by meets ws class shift c v a = cond (slice_index class (shift + v) == c) (meet_ranged meets (label_at ws v) a) a

-- the label of the class c met with the labels of the nodes in it, the last node first
abbrev pub lowered : (ℕ → ℕ → ℕ) → List ℕ → List ℕ → ℕ → ℕ → Label → Label
lowered meets ws class shift c label = foldr (lower_by meets ws class shift c) label (from 0 (size ws))

-- The label of the class c over the nodes of two graphs, from the greatest of n types on.
abbrev pub lowered_both : ℕ → (ℕ → ℕ → ℕ) → List ℕ → List ℕ → List ℕ → ℕ → Label
lowered_both n meets a b class c = lowered meets a class 0 c (lowered meets b class (size a) c (plain (n - 1)))

-- meets of types below n are types below n
abbrev pub MeetsBelow : ℕ → (ℕ → ℕ → ℕ) → Type 0
MeetsBelow n meets = (i j : ℕ) → i < n → j < n → meets i j < n

-- The meets of n types, as sets and cells have them.
pub record Meeting (n : ℕ) (sets : List ℕ) (cells : List (List ℕ)) : Type 0 where
  pub below : MeetsBelow n (meet_in n sets cells)
  pub ready : Seekable false n sets cells

-- the label of the class c, in words that hold headers alone
abbrev pub label_of_class : List ℕ → ℕ → Label
label_of_class labels c = label_from labels (header * c)

-- The number of words for the labels of 510 classes.
abbrev pub label_words : ℕ
label_words = 510 * header

-- The labels of all classes are met with the labels of a graph's nodes.
abbrev pub Lowers : (ℕ → ℕ → ℕ) → List ℕ → List ℕ → ℕ → List ℕ → List ℕ → Type 0
Lowers meets ws class shift labels labels' =
    (c : ℕ) → c < 510 → label_of_class labels' c ≡ lowered meets ws class shift c (label_of_class labels c)

-- the labels of the classes of two graphs' nodes
abbrev pub ClassLabels : ℕ → (ℕ → ℕ → ℕ) → List ℕ → List ℕ → List ℕ → List ℕ → Type 0
ClassLabels n meets a b class labels = (c : ℕ) → c < size a + size b → label_of_class labels c ≡ lowered_both n meets a b class c

-- The labels of classes are labels over n types.
abbrev pub Below : ℕ → List ℕ → Type 0
Below n labels = (c : ℕ) → c < 510 → Known n (label_of_class labels c)

-- The labels of the classes and of a graph's nodes are labels over n types, whose meets are given.
pub record Lowerable (n : ℕ) (meets : ℕ → ℕ → ℕ) (ws labels : List ℕ) : Type 0 where
  pub few : n ≤ 64
  pub meets-below : MeetsBelow n meets
  pub labelled : (v : ℕ) → v < size ws → Known n (label_at ws v)
  pub below : Below n labels
