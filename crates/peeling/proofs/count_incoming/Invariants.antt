-- `peeling::count_incoming` meets its contract. The loop's invariant: the rows before v are in range and their links counted.
use Prim.Native.Nat.{◌≤◌}
use Rattle.layout.specs.Layout.{size}
use Rattle.peeling.proofs.Counting.{Passed}
use Rattle.peeling.proofs.count_incoming.Given as goal

abbrev pub invariant-loop-v : goal.invariant-loop-v
invariant-loop-v l = (l.v ≤ size l.graph) × Passed l.n l.graph l.v l.incoming
