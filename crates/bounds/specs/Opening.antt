-- This file says what opening a table for meets or for joins ensures, and what meets and joins may rely on afterwards. Paper 12: "Opening such
-- a table then fills neither; other tables use the old form."
use Rattle.std.specs.Prelude.{ℕ, ◌-◌, ◌≡◌, Bool, true, false, List, length, Result, Ok, Err}
use Rattle.std.proofs.Math.Option.{Option}
use Rattle.acceptance.specs.declared.TableFault.{TableFault}
use Rattle.lattice.specs.Table.{sized, ordered, accepted, side_bound, filled}
use Rattle.acceptance.specs.Reply.{opened, TableAnswer}
use Rattle.bounds.specs.declared.Form.{Form}
use Rattle.bounds.specs.declared.Form.TheVariants.{Sets, Cells}
use Rattle.bounds.specs.Sets.{distributive, set_in, Holding}

-- The answer is that of acceptance; if the table is accepted, the lent words and cells hold the bounds of one side.
pub record Opening (up : Bool) (n : ℕ) (t : List ℕ) (bound : ℕ → ℕ → Option ℕ) (answer : TableAnswer) (sets : List ℕ) (cells₀ cells : List (List ℕ)) :
    Type 0 where
  pub answers : answer ≡ opened n t
  pub long : length cells ≡ length cells₀
  pub holds : accepted n t ≡ true → Holding up n t bound sets cells₀ cells

-- "Opening such a table": the table is accepted and distributive, and the words hold its types as sets, whatever the cells are.
pub record SetsHeld (up : Bool) (n : ℕ) (t sets : List ℕ) : Type 0 where
  pub ok : accepted n t ≡ true
  pub spread : distributive n t ≡ true
  pub holding : (cells : List (List ℕ)) → Holding up n t (side_bound n t up) sets cells cells

-- "Other tables": the table passes the tests of refusals 1 and 2, and is not distributive if it is accepted. The words say that they hold no
-- sets.
pub record CellsNeeded (n : ℕ) (t sets : List ℕ) : Type 0 where
  pub size : sized n t ≡ true
  pub order : ordered n t ≡ true
  pub other : accepted n t ≡ true → distributive n t ≡ false
  pub no-set : set_in sets (n - 1) ≡ 0

-- The table is refused, or its types are held as sets, or its cells are needed.
pub record Chooses (up : Bool) (n : ℕ) (t : List ℕ) (answer : Result Form TableFault) (sets : List ℕ) : Type 0 where
  pub refused : (fault : TableFault) → answer ≡ Err fault → Err fault ≡ opened n t
  pub as-sets : answer ≡ Ok Sets → SetsHeld up n t sets
  pub as-cells : answer ≡ Ok Cells → CellsNeeded n t sets

-- "The old form": the answer is that of acceptance; if the table is accepted, the lent cells hold the bounds of one side.
pub record Fills (up : Bool) (n : ℕ) (t : List ℕ) (answer : TableAnswer) (cells₀ cells : List (List ℕ)) : Type 0 where
  pub answers : answer ≡ opened n t
  pub long : length cells ≡ length cells₀
  pub filled-cells : accepted n t ≡ true → cells ≡ filled n t (side_bound n t up) cells₀

-- The words and cells are as opening an accepted table for one side leaves them; `lent` are the cells before.
pub record OpenedFor (up : Bool) (n : ℕ) (t sets : List ℕ) (cells : List (List ℕ)) : Type 0 where
  pub ok : accepted n t ≡ true
  pub lent : List (List ℕ)
  pub long : distributive n t ≡ false → length lent ≡ 64
  pub holding : Holding up n t (side_bound n t up) sets lent cells
