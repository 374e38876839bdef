-- `peeling::find_sources` meets its contract. The loop's invariant: the sources before v are queued.
use Prim.Native.Nat.{◌≤◌}
use Rattle.peeling.specs.Counts.{Queued}
use Rattle.peeling.proofs.find_sources.Given as goal

abbrev pub invariant-loop-v : goal.invariant-loop-v
invariant-loop-v l = (l.v ≤ l.nodes) × Queued l.v l.incoming l.queue l.count
