-- This file states the operations for two graphs that are given by their rows, over any labels. Nodes are numbers, and `d` is the label
-- past the end of rows. The crates that compute on records state their contracts by these operations.
use Rattle.std.specs.Prelude.{Bool, ◌&&◌, List, ◌⊎◌, ℕ, eqb, length}
use Rattle.std.proofs.Math.Option.{Option}
use Rattle.graphs.specs.Label.{Labels}
use Rattle.graphs.specs.Graph.{Graph}
use Rattle.graphs.specs.Rows.{Row, from, graph_of}
use Rattle.graphs.specs.Number.{Canonical, canonical}
use Rattle.graphs.specs.Order.{subsumes}
use Rattle.graphs.specs.Generalize.{generalization_by}
use Rattle.graphs.specs.Unify.{Unified, same_beside, unification_by}
use Rattle.graphs.specs.Difference.{Link, meet_over, difference}

-- whether two pairs of node numbers are one pair
unfoldable pub same_pair : ℕ × ℕ → ℕ × ℕ → Bool
same_pair x y = eqb x.0 y.0 && eqb x.1 y.1

-- whether two nodes of the graphs side by side are one node
abbrev pub same_either : ℕ ⊎ ℕ → ℕ ⊎ ℕ → Bool
same_either = same_beside eqb eqb

module _ {L : Type 0} where
  -- the written form of the common part, by a join of labels
  abbrev pub common_form : (L → L → L) → L → List (Row L) → List (Row L) → Canonical L
  common_form join d g h = canonical same_pair (generalization_by join (graph_of d g) (graph_of d h))

  -- the combination, by a meet of labels, the label that says nothing and a test for the contradiction
  abbrev pub combination_of : (L → L → L) → L → (L → Bool) → L → List (Row L) → List (Row L) → Unified L (ℕ ⊎ ℕ)
  combination_of meet top contradiction d g h =
      unification_by meet top contradiction eqb eqb (graph_of d g) (from 0 (length g)) (graph_of d h) (from 0 (length h))

module _ (𝓛 : Labels) (d : 𝓛.L) (s g : List (Row 𝓛.L)) where
  -- whether s is below g
  abbrev pub lies_below : Bool
  lies_below = subsumes 𝓛 eqb eqb (graph_of d s) (graph_of d g) (length g)

  -- The difference of g and s, where `over` gives the node of s that each node of g leads to.
  module _ (over : ℕ → ℕ) where
    -- the wanted label of the node v of s: what `want` gives for its label and "the meet of all g types over this node (top if none)"
    abbrev pub wanted_over : (𝓛.L → 𝓛.L → Option 𝓛.L) → ℕ → Option 𝓛.L
    wanted_over want v = want ((graph_of d s).label v) (meet_over 𝓛 eqb (graph_of d g) (from 0 (length g)) over v)

    -- the difference by an order of links and the wanted labels
    abbrev pub difference_over : (Link ℕ → Link ℕ → Bool) → (ℕ → 𝓛.L) → Graph 𝓛.L ℕ
    difference_over earlier wanted =
        difference 𝓛 eqb eqb earlier (graph_of d s) (from 0 (length s)) (graph_of d g) (from 0 (length g)) over wanted
