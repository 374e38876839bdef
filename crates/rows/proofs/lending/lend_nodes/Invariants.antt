-- `lending::lend_nodes` meets its contract. The loop's invariant: the bytes of the nodes before v are written.
use mathlib.Core.Path.{◌≡◌}
use Prim.Native.Nat.{◌≤◌}
use lib.ListN.{length}
use Rattle.rows.proofs.LentRows.{written}
use Rattle.rows.proofs.lending.lend_nodes.Given as goal

abbrev pub invariant-loop-v : goal.invariant-loop-v
invariant-loop-v l = (l.v ≤ l.count) × (length l.nodes ≡ length l.initial.nodes) × (l.nodes ≡ written l.graph l.initial.nodes l.v)
