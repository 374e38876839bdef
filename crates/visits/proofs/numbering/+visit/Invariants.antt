-- The measure is the depth left. The loop's invariant: what the visit finds is what following the rest of the targets finds.
use Prim.Native.Nat.{◌+◌}
use Rattle.layout.specs.Layout.{links_from}
use Rattle.visits.specs.Visiting.{seen_of, below}
use Rattle.visits.proofs.Visiting.{Follows}
use Rattle.visits.proofs.numbering.+visit.Given as goal

abbrev pub decreases-visit : goal.decreases-visit
decreases-visit l = l.depth

abbrev pub invariant-loop-link : goal.invariant-loop-link
invariant-loop-link l =
    Follows l.graph l.v l.depth (below l.graph l.depth l.v (seen_of l.initial.visited l.given)) l.numbers l.visited l.count
    (links_from l.graph l.v + l.link-index)
