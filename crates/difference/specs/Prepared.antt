-- What the making of a difference requires (document 01, "Difference"): graphs for which wanted labels are searched, the marks of the links of s
-- and the wanted labels of its nodes. `map` has the node of s that each node of g lies over.
use Rattle.std.specs.Prelude.{Bool, List, ℕ}
use Rattle.graphs.specs.Difference.{Link, StrictOrder}
use Rattle.layout.specs.Layout.{size}
use Rattle.groups.specs.Marks.{Marked}
use Rattle.wanting.specs.Asked.{Asked}
use Rattle.wanting.specs.Wanted.{Wants}

-- The links of s are marked by an order of links, and the nodes of s have their wanted labels.
pub record Prepared (earlier : Link ℕ → Link ℕ → Bool) (n : ℕ) (t g s map marks labels : List ℕ) : Type 0 where
  pub asked : Asked n t g s map
  pub wants : Wants n t s g map (size s) labels
  pub strict : StrictOrder earlier
  pub marked : Marked earlier s g map marks

-- There exist a link order, a g and a map for which `Prepared` holds.
abbrev pub Preparable : ℕ → List ℕ → List ℕ → List ℕ → List ℕ → Type 0
Preparable n t s marks labels =
    (earlier : Link ℕ → Link ℕ → Bool) × (g : List ℕ) × (map : List ℕ) × Prepared earlier n t g s map marks labels
