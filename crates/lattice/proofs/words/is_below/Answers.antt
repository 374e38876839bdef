-- `is_below` meets its contract: in the table it reads the bit, and past the end of the table the byte counts as 0.
use mathlib.Core.Path.{refl}
use native.Mathlib.Nat.{zero-div}
use lib.ListN.{get_or-eq_default}
use Rattle.lattice.specs.Table.{below}
use Rattle.lattice.proofs.words.is_below.Goals as goal

pub returns-then-at-table : goal.returns-then-at-table
unfolding below
returns-then-at-table c = refl

pub returns-else-at-table : goal.returns-else-at-table
unfolding below
returns-else-at-table c = simp (get_or-eq_default c.args.table.now 0 c.if-at-table.false, zero-div)
