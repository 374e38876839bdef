-- `keep_parents` meets its contract. The loop's invariant: the nodes at the places before i are settled.
use Prim.Native.Nat.{◌≤◌, ◌<◌}
use Rattle.keeping.specs.Keeping.{Markable, Settled, Sorted}
use Rattle.keeping.proofs.keep.keep_parents.Given as goal

abbrev pub invariant-loop-i : goal.invariant-loop-i
invariant-loop-i l = (l.i ≤ l.nodes) × Markable l.s l.marks l.keep × ((sorted : Sorted l.s l.order) × Settled (λ v. sorted.place v < l.i) l.s l.marks l.initial.keep l.keep)
