-- `has_kept_link` meets its contract. The loop's invariant: no place before k has a kept link.
use Prim.Native.Nat.{◌≤◌}
use Rattle.keeping.proofs.Keeping.{NoneYet}
use Rattle.keeping.proofs.keep.has_kept_link.Given as goal

abbrev pub invariant-loop-k : goal.invariant-loop-k
invariant-loop-k l =
    (l.start ≤ l.k) × NoneYet l.s l.marks l.keep l.start l.k
