-- A lent planning table that import accepts (document 02, Paper 2).
use Rattle.std.specs.Prelude.{◌≡◌, List, ℕ, Ok}
use Rattle.acceptance.specs.Reply.{opened}
use Rattle.rows.specs.declared.Row.{Row}
use Rattle.planning.specs.Importable.{Importable}

-- An accepted type table, and rows and node bytes to which none of 4, 14, 15, 5, 6 and 7 applies.
pub record Lent (n : ℕ) (t nodes : List ℕ) (rows : List Row) : Type 0 where
  pub opens : opened n t ≡ Ok tt
  pub importable : Importable n nodes rows
