-- `close` meets its contract. The loop's invariant: pairs of nodes wait to be joined, and nodes that are joined are the same by the links.
use mathlib.Core.Path.{◌≡◌}
use Prim.Native.Nat.{◌+◌, ◌*◌}
use lib.ListN.{length}
use Rattle.classes.proofs.Joining.{Joining, root_count}
use Rattle.classes.proofs.close.Given as goal

abbrev pub invariant-loop-reach : goal.invariant-loop-reach
invariant-loop-reach l =
    Joining l.nodes l.second l.initial.spans.start l.initial.spans.end l.initial.pool l.class l.spans.start l.spans.end l.pool l.waiting l.reach.used l.reach.count × (length l.waiting ≡ length l.initial.waiting)

abbrev pub decreases-loop-reach : goal.decreases-loop-reach
decreases-loop-reach l =
    4098 * root_count l.nodes l.class + l.reach.count
