-- This file says what the functions ask and promise that renumber a graph in words as its written record does (document 01,
-- "Difference": "Number s as written").
use Rattle.std.specs.Prelude.{◌≡◌, Bool, true, false, List, ℕ, ◌+◌, ◌≤◌, ◌<◌, length, get_or, take}
use Rattle.graphs.specs.Rows.{Row}
use Rattle.graphs.specs.Number.{Canonical, many_nodes, many_links, written}
use Rattle.lattice.specs.Label.{Label}
use Rattle.layout.specs.Layout.{Sound, header, size, links_from, row_end, label_from, target_at, links_between, rows_of}
use Rattle.layout.specs.Builder.{Built, Same}
use Rattle.encoder.specs.NumberedRows.{Visited, degree, degrees, numbered_row, numbered_rows}

-- The answer tells whether the form has rows; if so, the words hold them.
pub record Renumbers (form : Canonical Label) (answer : Bool) (ws : List ℕ) : Type 0 where
  pub answers : (rows : List (Row Label)) → form ≡ written rows → answer ≡ true
  pub rows_are : (rows : List (Row Label)) → form ≡ written rows → rows_of ws ≡ rows
  pub sound : (rows : List (Row Label)) → form ≡ written rows → Sound ws
  pub small : (rows : List (Row Label)) → form ≡ written rows → size ws ≤ 255
  pub many-nodes : form ≡ many_nodes → answer ≡ false
  pub many-links : form ≡ many_links → answer ≡ false

-- Node v has a row, and its targets have numbers below 256.
pub record Numbered (ws numbers : List ℕ) (v : ℕ) : Type 0 where
  pub sound : Sound ws
  pub inside : v < size ws
  pub low : (k : ℕ) → links_from ws v ≤ k → k < row_end ws v → get_or numbers (target_at ws k) 0 < 256

-- The first `count` visited are nodes whose targets have numbers below `count`, and they have at most 2,048 links.
pub record Closed (ws numbers visited : List ℕ) (count : ℕ) : Type 0 where
  pub nodes : Visited ws visited count
  pub low : (i k : ℕ) → i < count → links_from ws (get_or visited i 0) ≤ k → k < row_end ws (get_or visited i 0) →
      get_or numbers (target_at ws k) 0 < count
  pub links : degrees ws (take count visited) ≤ 2048

-- The row of node v is copied: it stands from place `at` up to place `next`, its targets by number. The words before it stay.
pub record RowCopied (ws numbers : List ℕ) (v : ℕ) (old : List ℕ) (at : ℕ) (new : List ℕ) (next : ℕ) : Type 0 where
  pub long : length new ≡ length old
  pub next-is : next ≡ at + header + degree ws v
  pub kept : Same old new 0 at
  pub row : ◌≡◌ {A = Row Label} (label_from new at, links_between new (at + header) next) (numbered_row ws numbers v)

-- The rows of the first `count` nodes visited are copied, one after another.
pub record RowsCopied (ws numbers visited : List ℕ) (count : ℕ) (new : List ℕ) : Type 0 where
  pub end : ℕ
  pub built : Built new (count + 2) count end
  pub sized : size new ≡ count
  pub rows : rows_of new ≡ numbered_rows ws numbers (take count visited)
