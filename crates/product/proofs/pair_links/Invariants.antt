-- `pair_links` meets its contract: the links by features below a bound are added, and the rests of both rows have the other features.
use mathlib.Core.Path.{◌≡◌}
use Prim.Native.Nat.{◌+◌, ◌-◌}
use Rattle.layout.specs.Layout.{row_end}
use Rattle.product.proofs.Merging.{Merging}
use Rattle.product.proofs.pair_links.Given as goal

abbrev pub invariant-loop-i : goal.invariant-loop-i
invariant-loop-i l =
    (l.a_end ≡ row_end l.a l.u) × (l.b_end ≡ row_end l.b l.v) × Merging l.a l.b l.u l.v l.initial.queue l.initial.words (record { at = l.initial.at; count = l.initial.count }) l.i l.j l.marks l.queue l.words (record { at = l.at; count = l.count })

abbrev pub decreases-loop-i : goal.decreases-loop-i
decreases-loop-i l =
    (l.a_end - l.i) + (l.b_end - l.j)
