-- Each call turns a white node to the way down, so the number of white nodes is the measure of the recursion. The loop's invariant: the
-- targets of the links so far are finished.
use Prim.Native.Nat.{◌+◌}
use Rattle.layout.specs.Layout.{links_from, size}
use Rattle.visits.specs.Colouring.{whites}
use Rattle.visits.proofs.Colouring.{Passing}
use Rattle.visits.proofs.sorting.+finish.Given as goal

abbrev pub decreases-finish : goal.decreases-finish
decreases-finish l = whites (size l.graph.now) l.colour.now

abbrev pub invariant-loop-link : goal.invariant-loop-link
invariant-loop-link l = Passing l.graph l.initial.colour l.v l.done l.colour l.order (links_from l.graph l.v + l.link-index) l.count
