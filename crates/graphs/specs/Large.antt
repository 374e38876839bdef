-- This file says when a graph is too large for a record (document 01, "Graph record": "Byte 0 is the node count N, 1 to 255", "At most
-- 2,048 links in all"). The definitions need no numbering: they speak of lists of different nodes and links. The file also counts the
-- links of rows, and says that the links of a row ascend.
use Rattle.std.specs.Prelude.{◌≡◌, ℕ, ◌+◌, ◌<◌, length}
use mathlib.Core.List.{List, [], ◌∷◌, Memᴰ}
use Rattle.std.proofs.Math.Option.{some}
use Rattle.graphs.specs.Graph.{Graph, Reached}
use Rattle.graphs.specs.Rows.{Row}

-- no element stands twice
abbrev pub Distinct : {A : Type 0} → List A → Type 0
Distinct [] = Unit {0}
Distinct (v ∷ vs) = (Memᴰ v vs → ⊥) × Distinct vs

-- "result over 255 nodes": some 256 different nodes are reached
abbrev pub ManyNodes : {L A : Type 0} → Graph L A → Type 0
ManyNodes {A = A} g = (xs : List A) × Distinct xs × ((x : A) → Memᴰ x xs → Reached g x) × (255 < length xs)

-- "or 2,048 links": some 2,049 different links, each a node and a feature, leave nodes that are reached
abbrev pub ManyLinks : {L A : Type 0} → Graph L A → Type 0
ManyLinks {A = A} g =
    (ls : List (A × ℕ)) ×
    Distinct ls ×
    ((l : A × ℕ) → Memᴰ l ls → Reached g l.0 × ((w : A) × (g.link l.0 l.1 ≡ some w))) ×
    (2048 < length ls)

-- the number of links in rows
unfoldable pub links_in : {L : Type 0} → List (Row L) → ℕ
links_in [] = 0
links_in (r ∷ rs) = length r.1 + links_in rs

-- "lowest feature first": each link's feature is less than those of the links after it
abbrev pub Ascending : List (ℕ × ℕ) → Type 0
Ascending [] = Unit {0}
Ascending (l ∷ ls) = ((m : ℕ × ℕ) → Memᴰ m ls → l.0 < m.0) × Ascending ls
