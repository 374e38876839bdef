-- `merge` meets its contract. The loop's invariant: the links before i and j are merged.
use Prim.Native.Nat.{◌+◌, ◌-◌}
use Rattle.classes.proofs.Merging.{Merging}
use Rattle.classes.proofs.rows.merge.Given as goal

abbrev pub invariant-loop-i : goal.invariant-loop-i
invariant-loop-i l =
    Merging l.a.start l.a.end l.b.start l.b.end l.initial.pool l.initial.waiting l.initial.at l.initial.top l.pool l.waiting l.i l.j l.at l.top

abbrev pub decreases-loop-i : goal.decreases-loop-i
decreases-loop-i l = (l.a.end + l.b.end) - (l.i + l.j)
