-- `numbering::clear` meets its contract. The loop's invariant: the nodes before v have no number.
use Prim.Native.Nat.{ℕ, ◌≤◌, ◌<◌}
use mathlib.Core.Path.{◌≡◌}
use lib.ListN.{length, get_or}
use Rattle.visits.proofs.numbering.clear.Given as goal

abbrev pub invariant-loop-v : goal.invariant-loop-v
invariant-loop-v l =
    (l.v ≤ l.nodes) × (length l.numbers ≡ 510) × ((w : ℕ) → w < l.v → get_or l.numbers w 0 ≡ 65535)
