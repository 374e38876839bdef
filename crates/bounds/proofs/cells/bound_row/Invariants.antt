-- `bound_row` meets its contract. The loop's invariant: row a and column a hold the bounds of a with the types before b, and `found` tells
-- whether a has a bound with each type from a up to b.
use Prim.Native.Nat.{◌≤◌}
use mathlib.Core.Path.{◌≡◌}
use lib.Dec.{leb}
use Rattle.lattice.specs.Table.{every, implies, found as foundOf}
use Rattle.lattice.specs.Words.{word_bound}
use Rattle.bounds.proofs.Columns.{Filling}
use Rattle.bounds.proofs.cells.bound_row.Given as goal

abbrev pub invariant-loop-b : goal.invariant-loop-b
invariant-loop-b l =
    (l.a ≤ l.b)
    × (l.b ≤ l.n)
    × Filling l.n l.words l.rows l.a l.b
    × (l.found ≡ every l.b (λ k. implies (leb l.a k) (foundOf (word_bound l.n l.words l.a k))))
