-- `peeling::take_links` meets its contract. The loop's invariant: the links of v so far are taken away.
use Prim.Native.Nat.{◌+◌}
use Rattle.layout.specs.Layout.{links_from}
use Rattle.peeling.proofs.Counting.{Taking}
use Rattle.peeling.proofs.take_links.Given as goal

abbrev pub invariant-loop-link : goal.invariant-loop-link
invariant-loop-link l =
    Taking l.graph l.v l.initial.incoming l.initial.queue l.queued l.incoming l.queue l.count (links_from l.graph l.v + l.link-index)
