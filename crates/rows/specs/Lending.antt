-- This file says what making a planning table of a graph in words asks.
use Rattle.std.specs.Prelude.{List, ℕ, ◌≤◌}
use Rattle.graphs.specs.Large.{links_in}
use Rattle.layout.specs.Layout.{Sound, size, rows_of}

-- The words hold a graph with at most 255 nodes and 2,048 links.
pub record Lendable (ws : List ℕ) : Type 0 where
  pub sound : Sound ws
  pub small : size ws ≤ 255
  pub short : links_in (rows_of ws) ≤ 2048
