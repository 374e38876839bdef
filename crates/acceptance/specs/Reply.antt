-- This file says what opening a table returns, and which number each refusal of a table has (document 01, "Returned by a call").
use Rattle.std.specs.Prelude.{ℕ, cond, List, Result, Ok, Err, ⊤}
use Rattle.acceptance.specs.declared.TableFault.{TableFault}
use Rattle.acceptance.specs.declared.TableFault.TheVariants.{Size, Order, Bounds}
use Rattle.lattice.specs.Table.{sized, ordered, bounded}

-- the number of a refusal
abbrev pub table_number : TableFault → ℕ
table_number Size = 1
table_number Order = 2
table_number Bounds = 3

-- what opening a table answers: it is accepted, or why it is refused
abbrev pub TableAnswer : Type 0
TableAnswer = Result ⊤ TableFault

-- the answer for a table: "Checks run: 1, 2, 3"
unfoldable pub opened : ℕ → List ℕ → Result ⊤ TableFault
opened n t = cond (sized n t) (cond (ordered n t) (cond (bounded n t) (Ok tt) (Err Bounds)) (Err Order)) (Err Size)
