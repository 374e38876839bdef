-- `fill` meets its contract. The loop's invariant: the rows before a are overwritten, the columns before a are written, and `found` tells
-- whether each type before a has a bound with every type from itself on.
use Prim.Native.Nat.{◌≤◌}
use mathlib.Core.Path.{◌≡◌}
use lib.Dec.{leb}
use Rattle.lattice.specs.Table.{every, implies, found as foundOf, bound_row, overwrite}
use Rattle.lattice.specs.Words.{word_bound}
use Rattle.bounds.specs.Cells.{Columns}
use Rattle.bounds.proofs.cells.fill.Given as goal

abbrev pub invariant-loop-a : goal.invariant-loop-a
invariant-loop-a l =
    (l.a ≤ l.n)
    × (l.found ≡ every l.a (λ k. every l.n (λ b. implies (leb k b) (foundOf (word_bound l.n l.words k b)))))
    × (l.table ≡ overwrite l.a (bound_row l.n (word_bound l.n l.words)) l.initial.table)
    × Columns l.n l.words l.rows l.a
