-- `judge` meets its contract: the rows before i are spanned, and `all` tells of the bounds of the types that they cover.
use Prim.Native.Nat.{◌≤◌}
use Rattle.acceptance.proofs.Spanning.{Judging}
use Rattle.acceptance.proofs.judge.Given as goal

abbrev pub invariant-loop-i : goal.invariant-loop-i
invariant-loop-i l = (l.i ≤ l.n) × Judging l.n l.down l.i l.all
