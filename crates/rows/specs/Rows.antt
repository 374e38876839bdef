-- This file defines what a planning table states, and which planning table a graph has (document 02, Paper 2): "rows, each a parent, a
-- feature and a target", beside three bytes for each node, "type, lowest and highest" (Paper 7). The root is node 0.
use Rattle.std.specs.Prelude.{Bool, true, false, cond, ◌&&◌, List, [], ◌∷◌, ◌++◌, map, ℕ, suc, ◌+◌, ◌*◌, ◌/◌, ◌%◌, eqb, leb, ltb, length, get_or, drop}
use Rattle.std.proofs.Math.Option.{Option, none, some}
use Rattle.graphs.specs.Rows.{Row, features, from, links_of}
use Rattle.lattice.specs.Label.{Label}
use Rattle.rows.specs.declared.Row as lent

-- the row that stands for a place past the end of rows
abbrev pub no_row : lent.Row
no_row = record { parent = 0; feature = 0; target = 0 }

-- whether a row is the one of a parent and a feature
unfoldable pub is_of : ℕ → ℕ → lent.Row → Bool
is_of p f r = cond (eqb r.parent p) (eqb r.feature f) false

-- the target that rows in any order give a parent and a feature
unfoldable pub target_in : List lent.Row → ℕ → ℕ → Option ℕ
target_in [] p f = none
target_in (r ∷ rs) p f = cond (is_of p f r) (some r.target) (target_in rs p f)

-- the label of node v: three bytes
abbrev pub label_in : List ℕ → ℕ → Label
label_in nodes v = record { type = get_or nodes (v * 3) 0; lowest = get_or nodes (v * 3 + 1) 0; highest = get_or nodes (v * 3 + 2) 0 }

-- the number of nodes, "counted by the type bytes"
abbrev pub nodes_in : List ℕ → ℕ
nodes_in nodes = length nodes / 3

-- What a planning table means: the graph has one row for each node, with the links lowest feature first.
unfoldable pub table_rows : List ℕ → List lent.Row → List (Row Label)
table_rows nodes rows = map (λ v. (label_in nodes v, links_of (target_in rows v) features)) (from 0 (nodes_in nodes))

-- whether 4 does not apply: "a byte count not divisible by 3 is 4", "Nodes .. are 1 to 255 and rows at most 2,048, else 4"
unfoldable pub is_sized : List ℕ → ℕ → Bool
is_sized nodes count = eqb (length nodes % 3) 0 && leb 1 (nodes_in nodes) && leb (nodes_in nodes) 255 && leb count 2048

-- whether 14 does not apply to a row: "a row with a feature above 63 or a node number outside the count is 14"
unfoldable pub is_known : ℕ → lent.Row → Bool
is_known n r = cond (ltb 63 r.feature) false (cond (ltb r.parent n) (ltb r.target n) false)

-- whether 14 applies to no row
unfoldable pub all_known : ℕ → List lent.Row → Bool
all_known n [] = true
all_known n (r ∷ rs) = cond (is_known n r) (all_known n rs) false

-- whether some row is of a parent and a feature
unfoldable pub some_of : ℕ → ℕ → List lent.Row → Bool
some_of p f [] = false
some_of p f (r ∷ rs) = cond (is_of p f r) true (some_of p f rs)

-- whether 15 applies: "two rows with one parent and feature are 15"
unfoldable pub has_twice : List lent.Row → Bool
has_twice [] = false
has_twice (r ∷ rs) = cond (some_of r.parent r.feature rs) true (has_twice rs)

-- What follows is what export gives. A link of node v becomes a row.
abbrev pub lent_link : ℕ → ℕ × ℕ → lent.Row
lent_link v l = record { parent = v; feature = l.0; target = l.1 }

-- the rows of the nodes that are numbered from v up
unfoldable pub lent_from : ℕ → List (Row Label) → List lent.Row
lent_from v [] = []
lent_from v (r ∷ rs) = map (lent_link v) r.1 ++ lent_from (suc v) rs

-- the rows of a graph, "sorted by parent and then feature"
abbrev pub lent_rows : List (Row Label) → List lent.Row
lent_rows rs = lent_from 0 rs

-- the bytes of the nodes of a graph: "three bytes, type, lowest and highest"
unfoldable pub lent_nodes : List (Row Label) → List ℕ
lent_nodes [] = []
lent_nodes (r ∷ rs) = r.0.type ∷ r.0.lowest ∷ r.0.highest ∷ lent_nodes rs

-- what a lent list holds at the end: what is filled in, then the rest, which is not touched
abbrev pub filled : {A : Type 0} → List A → List A → List A
filled xs ys = xs ++ drop (length xs) ys
