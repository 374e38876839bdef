-- `encode` meets its contract. Each turn of the loop stores one row behind those before it.
use Prim.Native.Nat.{◌≤◌}
use Rattle.encoder.specs.NumberedRows.{Visited}
use Rattle.encoder.proofs.WrittenRows.{Progress}
use Rattle.encoder.proofs.encode.Given as goal

abbrev pub invariant-loop-node : goal.invariant-loop-node
invariant-loop-node l =
    Visited l.graph l.visited l.count × (l.node-index ≤ l.count) × Progress l.graph l.numbers l.visited l.initial.out l.out l.at l.node-index
