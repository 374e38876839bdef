-- This file states the laws of maps between the nodes of two graphs: a `NodeMap` shows that one graph is below another, and an `Exact`
-- map only renames nodes. The map is a parameter of its laws. The laws speak of reached nodes only, because the others are no part of
-- a graph.
use Rattle.std.specs.Prelude.{◌≡◌, true, ℕ}
use Rattle.std.proofs.Math.Option.{some, map}
use Rattle.graphs.specs.Label.{Labels}
use Rattle.graphs.specs.Graph.{Graph, Reached}

-- The map takes the nodes of g to nodes of s: the root to the root, the target of a link to the target of the link of s by the same
-- feature, and every node to a node whose label is below or equal.
pub record NodeMap (𝓛 : Labels) {A B : Type 0} (s : Graph 𝓛.L A) (g : Graph 𝓛.L B) (to : B → A) : Type 0 where
  pub root : to g.root ≡ s.root
  pub links : (v w : B) (f : ℕ) → Reached g v → g.link v f ≡ some w → s.link (to v) f ≡ some (to w)
  pub labels : (v : B) → Reached g v → 𝓛.le (s.label (to v)) (g.label v) ≡ true

-- The map renames the nodes of g to those of h: root, labels and links stay the same, and no two nodes become one.
pub record Exact {L A B : Type 0} (to : A → B) (g : Graph L A) (h : Graph L B) : Type 0 where
  pub root : to g.root ≡ h.root
  pub links : (v : A) (f : ℕ) → Reached g v → h.link (to v) f ≡ map to (g.link v f)
  pub labels : (v : A) → Reached g v → h.label (to v) ≡ g.label v
  pub injective : (v w : A) → Reached g v → Reached g w → to v ≡ to w → v ≡ w
