-- `are_rows_set` meets its contract: the rows before i lie inside row n - 1 and have their own bit and that of 0.
use Prim.Native.Nat.{ℕ, ◌<◌, ◌≤◌, ◌-◌}
use mathlib.Core.Path.{◌≡◌}
use mathlib.Core.Bool.{true}
use lib.ListN.{get_or}
use Rattle.lattice.specs.Words.{row_inside}
use Rattle.acceptance.proofs.order.are_rows_set.Given as goal

abbrev pub invariant-loop-i : goal.invariant-loop-i
invariant-loop-i l = (l.i ≤ l.n) × ((k : ℕ) → k < l.i → row_inside (get_or l.down (l.n - 1) 0) (get_or l.down k 0) k ≡ true)
