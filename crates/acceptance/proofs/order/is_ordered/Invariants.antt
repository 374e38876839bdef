-- `is_ordered` meets its contract: the rows before i are spanned.
use Prim.Native.Nat.{ℕ, ◌<◌, ◌≤◌}
use Rattle.lattice.specs.Words.{Spanned}
use Rattle.acceptance.proofs.order.is_ordered.Given as goal

abbrev pub invariant-loop-i : goal.invariant-loop-i
invariant-loop-i l = (l.i ≤ l.n) × ((k : ℕ) → k < l.i → Spanned l.down k)
