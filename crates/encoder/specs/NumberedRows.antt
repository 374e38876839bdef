-- This file says what the encoder asks and promises: which nodes are visited, and which row is written for a node.
use Rattle.std.specs.Prelude.{◌≡◌, cond, List, [], ◌∷◌, map, ℕ, zero, suc, ◌+◌, ◌-◌, ◌%◌, ◌/◌, ◌≤◌, ◌<◌, length, get_or}
use Rattle.graphs.specs.Rows.{Row}
use Rattle.lattice.specs.Label.{Label, is_full}
use Rattle.layout.specs.Layout.{Sound, size, links_from, row_end, label_at, links_at}

-- The first `count` visited are nodes.
pub record Visited (ws visited : List ℕ) (count : ℕ) : Type 0 where
  pub sound : Sound ws
  pub few : count ≤ 255
  pub long : length visited ≡ 255
  pub nodes : (i : ℕ) → i < count → get_or visited i 0 < size ws

-- the number of links of node v
abbrev pub degree : List ℕ → ℕ → ℕ
degree ws v = row_end ws v - links_from ws v

-- 1 where a label's range is written, else 0
unfoldable pub range_count : Label → ℕ
range_count l = cond (is_full l) 0 1

-- a number of each node, summed along a list
unfoldable pub sum_along : (ℕ → ℕ) → List ℕ → ℕ
sum_along number [] = 0
sum_along number (v ∷ vs) = number v + sum_along number vs

-- the number of links of the nodes of a list
abbrev pub degrees : List ℕ → List ℕ → ℕ
degrees ws vs = sum_along (degree ws) vs

-- how many nodes of a list have a range that is written
abbrev pub ranges : List ℕ → List ℕ → ℕ
ranges ws vs = sum_along (λ v. range_count (label_at ws v)) vs

-- the byte that stands for a target
abbrev pub number_byte : List ℕ → ℕ → ℕ
number_byte numbers w = get_or numbers w 0 % 256

-- the row of node v, its targets by number
unfoldable pub numbered_row : List ℕ → List ℕ → ℕ → Row Label
numbered_row ws numbers v = (label_at ws v, map (λ l. (l.0, number_byte numbers l.1)) (links_at ws v))

-- the rows of the nodes of a list, their targets by number
abbrev pub numbered_rows : List ℕ → List ℕ → List ℕ → List (Row Label)
numbered_rows ws numbers vs = map (numbered_row ws numbers) vs

-- the k lowest bytes of a number, lowest first
unfoldable pub low_bytes : ℕ → ℕ → List ℕ
low_bytes zero n = []
low_bytes (suc k) n = n % 256 ∷ low_bytes k (n / 256)
