-- `filling::are_stated` meets its contract. The loop's invariant: the labels before v are such as a record can state.
use mathlib.Core.Path.{◌≡◌}
use Prim.Native.Nat.{◌≤◌}
use Rattle.rows.specs.Rows.{nodes_in}
use Rattle.rows.proofs.FilledRows.{Stated}
use Rattle.rows.proofs.filling.are_stated.Given as goal

abbrev pub invariant-loop-v : goal.invariant-loop-v
invariant-loop-v l = (l.count ≡ nodes_in l.nodes) × (l.v ≤ l.count) × Stated l.nodes l.v
