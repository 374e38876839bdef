-- This file gives a graph as rows, one for each node by number (document 01, "Graph record"). A row has the node's label and its links,
-- lowest feature first. Rows are what a record holds; the root is node 0.
use Rattle.std.specs.Prelude.{cond, List, [], ◌∷◌, ℕ, zero, suc, eqb, get_or}
use Rattle.std.proofs.Math.Option.{Option, none, some}
use Rattle.graphs.specs.Graph.{Graph}

-- k numbers, from f up
unfoldable pub from : ℕ → ℕ → List ℕ
from f zero = []
from f (suc k) = f ∷ from (suc f) k

-- "feature f, 0 to 63", lowest first
abbrev pub features : List ℕ
features = from 0 64

-- a row: a label, and features with their targets
abbrev pub Row : Type 0 → Type 0
Row L = L × List (ℕ × ℕ)

-- the target of a feature among a row's links
unfoldable pub target : List (ℕ × ℕ) → ℕ → Option ℕ
target [] f = none
target (l ∷ ls) f = cond (eqb l.0 f) (some l.1) (target ls f)

-- The graph that rows state; `d` is the label past their end.
abbrev pub graph_of : {L : Type 0} → L → List (Row L) → Graph L ℕ
graph_of d rows =
    record { root = 0; label = λ v. (get_or rows v (d, [])).0; link = λ v f. target (get_or rows v (d, [])).1 f }

-- the links, and before them the link by feature f if f has a target
abbrev pub add_link : ℕ → Option ℕ → List (ℕ × ℕ) → List (ℕ × ℕ)
add_link f none ls = ls
add_link f (some w) ls = (f, w) ∷ ls

-- the links by the features of a list, where `next` gives their targets
unfoldable pub links_of : (ℕ → Option ℕ) → List ℕ → List (ℕ × ℕ)
links_of next [] = []
links_of next (f ∷ fs) = add_link f (next f) (links_of next fs)
