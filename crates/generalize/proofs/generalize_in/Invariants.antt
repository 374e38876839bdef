-- `generalize_in` meets its contract: the pairs before `head` have their rows.
use mathlib.Core.Path.{◌≡◌}
use Prim.Native.Nat.{◌+◌, ◌-◌, ◌*◌, ◌≤◌}
use lib.ListN.{length}
use Rattle.bounds.specs.Sets.{join_in}
use Rattle.layout.specs.Layout.{header}
use Rattle.generalize.proofs.Building.{Building, base}
use Rattle.generalize.proofs.generalize_in.Given as goal

abbrev pub invariant-loop-head : goal.invariant-loop-head
invariant-loop-head l =
    Building (join_in l.n l.sets l.cells) l.a l.b l.head l.count l.at l.marks l.queue l.words × (l.at ≤ base + l.head * header + 2048) × (length l.words ≡ length l.initial.words)

abbrev pub decreases-loop-head : goal.decreases-loop-head
decreases-loop-head l = 255 - l.head
