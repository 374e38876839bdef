-- This file says what a table of bounds holds while it is being filled.
use Rattle.std.specs.Prelude.{ℕ, ◌<◌, ◌≤◌, ◌≡◌, List, [], length, get_or}
use Rattle.lattice.specs.Table.{cell}
use Rattle.lattice.specs.Words.{word_bound}

-- There are 64 rows of 64 cells. The rows of the types from a on hold the bounds with the types before a, and the row of every type
-- holds 0 from cell n on.
pub record Columns (n : ℕ) (ws : List ℕ) (rows : List (List ℕ)) (a : ℕ) : Type 0 where
  pub tall : length rows ≡ 64
  pub wide : (i : ℕ) → i < 64 → length (get_or rows i []) ≡ 64
  pub before : (i j : ℕ) → a ≤ i → i < n → j < a → get_or (get_or rows i []) j 0 ≡ cell (word_bound n ws i j)
  pub rest : (i j : ℕ) → i < n → n ≤ j → j < 64 → get_or (get_or rows i []) j 0 ≡ 0
