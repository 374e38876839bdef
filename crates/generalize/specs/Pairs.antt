-- What the common part asks of the labels of two graphs: types below n, whose joins are types below n.
use Rattle.std.specs.Prelude.{List, ℕ, ◌≤◌, ◌<◌}
use Rattle.lattice.specs.Labels.{Known}
use Rattle.layout.specs.Layout.{size, label_at}

-- joins of types below n are types below n
abbrev pub JoinsBelow : ℕ → (ℕ → ℕ → ℕ) → Type 0
JoinsBelow n joins = (i j : ℕ) → i < n → j < n → joins i j < n

-- Both graphs have labels over n types, whose joins are given.
pub record Joinable (n : ℕ) (joins : ℕ → ℕ → ℕ) (a b : List ℕ) : Type 0 where
  pub few : n ≤ 64
  pub joins-below : JoinsBelow n joins
  pub left : (v : ℕ) → v < size a → Known n (label_at a v)
  pub right : (v : ℕ) → v < size b → Known n (label_at b v)
