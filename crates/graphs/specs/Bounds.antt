-- This file defines the least upper bound and the greatest lower bound of two graphs in the order of graphs, among graphs on nodes of
-- any type. The common part is the least upper bound of two graphs, and the combination is their greatest lower bound.
use Rattle.graphs.specs.Label.{Labels}
use Rattle.graphs.specs.Graph.{Graph, Below}

module _ (𝓛 : Labels) {A B C : Type 0} (g : Graph 𝓛.L A) (h : Graph 𝓛.L B) (k : Graph 𝓛.L C) where
  -- k lies above both graphs, and below whatever lies above both.
  pub record LeastAbove : Type 1 where
    pub left : Below 𝓛 g k
    pub right : Below 𝓛 h k
    pub least : {D : Type 0} (m : Graph 𝓛.L D) → Below 𝓛 g m → Below 𝓛 h m → Below 𝓛 k m

  -- k lies below both graphs, and above whatever lies below both.
  pub record GreatestBelow : Type 1 where
    pub left : Below 𝓛 k g
    pub right : Below 𝓛 k h
    pub greatest : {D : Type 0} (m : Graph 𝓛.L D) → Below 𝓛 m g → Below 𝓛 m h → Below 𝓛 m k
