-- This file says how words come to hold a graph, row after row: a row is opened with its header, gets its links and is closed. The number
-- of nodes is stored last. The loops that build a graph in words keep these facts.
use Rattle.std.specs.Prelude.{◌≡◌, List, ℕ, ◌+◌, ◌*◌, ◌≤◌, ◌<◌, length, get_or, set}
use Rattle.lattice.specs.Label.{Ranged}
use Rattle.layout.specs.declared.Label.{Label}
use Rattle.layout.specs.Layout.{header, levels, row_from, links_from, row_end}

-- the label that a value of the code states
abbrev pub stated : Label → Ranged ℕ
stated l = record { type = l.kind; lowest = l.lowest; highest = l.highest }

-- the value of the code that states a label
abbrev pub unstated : Ranged ℕ → Label
unstated l = record { kind = l.type; lowest = l.lowest; highest = l.highest }

-- words with a label stored as the header at a place
unfoldable pub put_label : List ℕ → ℕ → Ranged ℕ → List ℕ
put_label ws at l = set (set ws at l.type) (at + 1) (l.lowest * levels + l.highest)

-- The first i rows stand between `base` and `at`, where the next one is to begin. The places below `base` say where rows begin.
pub record Built (ws : List ℕ) (base i at : ℕ) : Type 0 where
  pub listed : i + 2 ≤ base
  pub low : base ≤ at
  pub high : at ≤ length ws
  pub next : get_or ws (i + 1) 0 ≡ at
  pub lower : (v : ℕ) → v < i → base ≤ row_from ws v
  pub begun : (v : ℕ) → v < i → links_from ws v ≤ row_end ws v
  pub ended : (v : ℕ) → v < i → row_end ws v ≤ at

-- Row i begins at `at`, behind the rows built, and has its header and its links up to `end`.
pub record Open (ws : List ℕ) (base i at end : ℕ) : Type 0 where
  pub built : Built ws base i at
  pub headed : at + header ≤ end
  pub inside : end ≤ length ws

-- Two lists of words have the same words from place `start` up to place `end`.
abbrev pub Same : List ℕ → List ℕ → ℕ → ℕ → Type 0
Same ws ws' start end = (k : ℕ) → start ≤ k → k < end → get_or ws' k 0 ≡ get_or ws k 0
