-- `separate` meets its contract.
use mathlib.Core.Path.{◌≡◌}
use Prim.Native.Nat.{ℕ, ◌-◌, ◌≤◌, ◌<◌}
use lib.ListN.{length, get_or}
use Rattle.classes.proofs.forest.separate.Given as goal

abbrev pub invariant-loop-x : goal.invariant-loop-x
invariant-loop-x l = (length l.parent ≡ 510) × (l.x ≤ l.nodes) × ((y : ℕ) → y < l.x → get_or l.parent y 0 ≡ y)
