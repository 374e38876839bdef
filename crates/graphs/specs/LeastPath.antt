-- This file defines the order of paths that the numbering of written records follows (document 01, "Graph record": "by first visit, from
-- the root, lowest feature first, following links downward .. All that hangs below a link is numbered before the node's next link is
-- followed").
use Rattle.std.specs.Prelude.{◌≡◌, List, [], ◌∷◌, ◌⊎◌, ℕ, ◌<◌}
use Rattle.std.proofs.Math.Option.{some}
use Rattle.graphs.specs.Graph.{Graph, walk}

-- The path p is earlier than the path q: q goes on where p ends, or p has the lower feature where they part.
abbrev pub Earlier : List ℕ → List ℕ → Type 0
Earlier p [] = ⊥
Earlier [] (h ∷ q) = Unit {0}
Earlier (f ∷ p) (h ∷ q) = (f < h) ⊎ ((f ≡ h) × Earlier p q)

-- p leads to v, and no earlier path does
pub record LeastPath {L A : Type 0} (g : Graph L A) (p : List ℕ) (v : A) : Type 0 where
  pub leads : walk g p ≡ some v
  pub least : (q : List ℕ) → walk g q ≡ some v → Earlier q p → ⊥
