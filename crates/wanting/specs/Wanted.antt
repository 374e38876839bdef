-- The wanted labels of the nodes of s (document 01, "Difference"), as the code holds them in arrays. An array of labels has a header for each
-- node, and the header of node v stands at header * v.
use Rattle.std.specs.Prelude.{◌≡◌, Bool, true, false, List, ℕ, ◌*◌, ◌≤◌, ◌<◌, eqb, length, get_or, Option as Answer}
use Rattle.std.proofs.Math.Option.{Option, some}
use Rattle.wanting.specs.declared.Meet.{Meet}
use Rattle.graphs.specs.Rows.{from}
use Rattle.graphs.specs.Difference.{meet_where}
use Rattle.lattice.specs.Label.{Label}
use Rattle.lattice.specs.Table.{every, found, answer, accepted}
use Rattle.lattice.specs.Words.{Words}
use Rattle.lattice.specs.Labels.{table_labels, Known, wanted_label}
use Rattle.layout.specs.Layout.{header, label_from, size, label_at, Sound}

-- The meet of the labels of all nodes that lie over v, among the `count` nodes of g from y on.
unfoldable pub met_from : ℕ → List ℕ → List ℕ → List ℕ → ℕ → ℕ → ℕ → Label
met_from n t g map y count v = meet_where (table_labels n t) (λ y. eqb (get_or map y 0) v) (λ y. label_at g y) (from y count)

-- The nodes of g have labels over n types, and `map` takes each node of g to one of `nodes` nodes.
pub record LabelsOver (n nodes : ℕ) (g map : List ℕ) : Type 0 where
  pub two : 2 ≤ n
  pub few : n ≤ 64
  pub small : nodes ≤ 255
  pub sound : Sound g
  pub upper-small : size g ≤ 255
  pub mapped : (y : ℕ) → y < size g → get_or map y 0 < nodes
  pub known : (y : ℕ) → y < size g → Known n (label_at g y)

-- the meet that stands for a place past the end of an array
abbrev pub no_meet : Meet
no_meet = record { word = 0; lowest = 0; highest = 0 }

-- a label as the code holds a meet: the word of the types below its type, and its levels
abbrev pub meet_of : List ℕ → Label → Meet
meet_of ws l = record { word = get_or ws l.type 0; lowest = l.lowest; highest = l.highest }

-- The array holds the meet over each node of s, taken over the `count` nodes of g from y on.
abbrev pub Met : ℕ → List ℕ → List ℕ → ℕ → List ℕ → List ℕ → ℕ → ℕ → List Meet → Type 0
Met n t ws nodes g map y count met = (v : ℕ) → v < nodes → get_or met v no_meet ≡ meet_of ws (met_from n t g map y count v)

-- The array holds the meet of all g labels over each node of s, for every accepted table with these words.
abbrev pub MetBy : ℕ → List ℕ → ℕ → List ℕ → List ℕ → List Meet → Type 0
MetBy n ws nodes g map met = (t : List ℕ) → accepted n t ≡ true → Words n t false ws → Met n t ws nodes g map 0 (size g) met

-- r answers the wanted label of p over the label q that `met` holds, for every accepted table with these words.
abbrev pub WantedLabelOver : ℕ → List ℕ → Label → Meet → Answer Label → Type 0
WantedLabelOver n ws p met r =
    (t : List ℕ) → accepted n t ≡ true → Words n t false ws → (q : Label) → Known n q → met ≡ meet_of ws q → r ≡ answer (wanted_label n t p q)

-- the wanted label of the node v of s
abbrev pub wanted_at : ℕ → List ℕ → List ℕ → List ℕ → List ℕ → ℕ → Option Label
wanted_at n t s g map v = wanted_label n t (label_at s v) (met_from n t g map 0 (size g) v)

-- `labels` has the wanted labels of the first k nodes of s.
pub record Wants (n : ℕ) (t s g map : List ℕ) (k : ℕ) (labels : List ℕ) : Type 0 where
  pub long : length labels ≡ 510
  pub each : (v : ℕ) → v < k → wanted_at n t s g map v ≡ some (label_from labels (header * v))

-- The answer tells whether every node of s has a wanted label. If so, `labels` has the wanted labels.
pub record WantsAll (n : ℕ) (t s g map : List ℕ) (answer : Bool) (labels : List ℕ) : Type 0 where
  pub answers : answer ≡ every (size s) λ v. found (wanted_at n t s g map v)
  pub wants : answer ≡ true → Wants n t s g map (size s) labels
