-- `peeling::sources_first` meets its contract. The loop's invariant: the nodes of the queue before `next` are taken away with their links.
use Prim.Native.Nat.{◌-◌}
use Rattle.peeling.proofs.Passes.{Peeling}
use Rattle.peeling.proofs.sources_first.Given as goal

abbrev pub invariant-loop-next : goal.invariant-loop-next
invariant-loop-next l = Peeling l.graph l.sources l.incoming l.queue l.next l.count

abbrev pub decreases-loop-next : goal.decreases-loop-next
decreases-loop-next l = l.nodes - l.next
