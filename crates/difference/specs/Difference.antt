-- The difference of g and s by an order of links (document 01, "Difference"): what a call replies, and what it leaves in the output. The
-- graphs are given by their rows.
use Rattle.std.specs.Prelude.{Bool, cond, List, [], ◌∷◌, ℕ, eqb, length}
use Rattle.std.proofs.Math.Option.{Option}
use Rattle.graphs.specs.Graph.{Graph}
use Rattle.graphs.specs.Rows.{Row}
use Rattle.graphs.specs.Number.{Canonical, many_nodes, many_links, written, canonical}
use Rattle.graphs.specs.Order.{meetings}
use Rattle.graphs.specs.Difference.{Link}
use Rattle.lattice.specs.Label.{Label}
use Rattle.layout.specs.Layout.{graph_of_rows}
use Rattle.encode.specs.Encode.{written_out}
use Rattle.replies.specs.Replies.{NotBelow, NoWantedType}
use Rattle.replies.specs.Reply.{Result, result_of, refusing}
use Rattle.subsume.specs.Promise.{rows_below}
use Rattle.difference.specs.Promise.{wanted_along, all_wanted_along, difference_along}

-- The node on the left of the first pair that has y on the right; 0 if no pair has.
unfoldable pub first_at : ℕ → List (ℕ × ℕ) → ℕ
first_at y [] = 0
first_at y (x ∷ xs) = cond (eqb x.1 y) x.0 (first_at y xs)

-- "Each path of g leads to one node of s": the node of s for the node y of g
unfoldable pub over : List (Row Label) → List (Row Label) → ℕ → ℕ
over s g y = first_at y (meetings (graph_of_rows s) (graph_of_rows g) (length g))

-- the wanted label of the node v of s, where it has one
abbrev pub wanted_at : ℕ → List ℕ → List (Row Label) → List (Row Label) → ℕ → Option Label
wanted_at n t s g v = wanted_along n t s g (over s g) v

-- Every node of s has a wanted label. A node always has a wanted range, so only the wanted type can be missing.
abbrev pub all_wanted : ℕ → List ℕ → List (Row Label) → List (Row Label) → Bool
all_wanted n t s g = all_wanted_along n t s g (over s g)

-- The difference of g and s by an order of links, where s is below g and every node of s has a wanted label.
abbrev pub difference_rows : (Link ℕ → Link ℕ → Bool) → ℕ → List ℕ → List (Row Label) → List (Row Label) → Graph Label ℕ
difference_rows earlier n t g s = difference_along earlier n t s g (over s g)

-- The reply is 12 if s is not below g, else 13 if some node of s has no wanted label (document 02, Paper 6); else the difference is written.
unfoldable pub differed : (Link ℕ → Link ℕ → Bool) → ℕ → List ℕ → List ℕ → List (Row Label) → List (Row Label) → Result
differed earlier n t out g s =
    cond (rows_below n t s g)
    (cond (all_wanted n t s g) (result_of (written_out (canonical eqb (difference_rows earlier n t g s)) out)) (refusing NoWantedType out))
    (refusing NotBelow out)

-- "Number s as written": the rows of a written form. Every accepted graph has a written form.
abbrev pub numbered : {L : Type 0} → Canonical L → List (Row L)
numbered many_nodes = []
numbered many_links = []
numbered (written rows) = rows

-- `differed`, with s numbered as written.
unfoldable pub differed_rows : (Link ℕ → Link ℕ → Bool) → ℕ → List ℕ → List ℕ → List (Row Label) → List (Row Label) → Result
differed_rows earlier n t out g s = differed earlier n t out g (numbered (canonical eqb (graph_of_rows s)))
