use mathlib.Core.Path.{sym, ◌∙◌}
use Prim.Native.Nat.{ℕ, ◌+◌}
use native.Mathlib.Omega.{arith}
use lib.ListN.{length-replicate, get_or-replicate}
use Rattle.groups.proofs.Marking.{marking-start, marking-all, row-start, row-place, row_next, row_done}
use Rattle.groups.proofs.mark.Goals as goal

pub bounds-s-0 : goal.bounds-s-0
bounds-s-0 c = omega (arith, (c.requires.0.shaped.node 0 c.requires.0.shaped.nonempty).listed)

pub overflow_cast-nodes : goal.overflow_cast-nodes
overflow_cast-nodes c = omega (arith, c.requires.0.shaped.few)

pub loop-v-init : goal.loop-v-init
loop-v-init c = (omega arith, c.requires.0, marking-start c.requires.0 c.requires.1 (length-replicate {A = ℕ} 255 65535) (λ x h. get_or-replicate {A = ℕ} 255 x 65535 0 h))

pub overflow_add-end : goal.overflow_add-end
overflow_add-end c = omega (arith, c.loop-v-test.true, c.loop-v.invariant.1.shaped.few)

pub offset_bounds-s-v : goal.offset_bounds-s-v
offset_bounds-s-v c = omega (arith, c.loop-v-test.true, c.loop-v.invariant.1.shaped.few)

pub bounds-s-v : goal.bounds-s-v
bounds-s-v c = omega (arith, (c.loop-v.invariant.1.shaped.node c.loop-v.v c.loop-v-test.true).listed)

pub overflow_cast-end : goal.overflow_cast-end
overflow_cast-end c = omega (arith, c.type_inv.s (c.loop-v.v + 2))

pub overflow_add-k : goal.overflow_add-k
overflow_add-k c = omega (arith, c.loop-v-test.true, c.loop-v.invariant.1.shaped.few)

pub offset_bounds-s-v-in-loop-v : goal.offset_bounds-s-v-in-loop-v
offset_bounds-s-v-in-loop-v c = omega (arith, c.loop-v-test.true, c.loop-v.invariant.1.shaped.few)

pub bounds-s-v-in-loop-v : goal.bounds-s-v-in-loop-v
bounds-s-v-in-loop-v c = omega (arith, (c.loop-v.invariant.1.shaped.node c.loop-v.v c.loop-v-test.true).listed)

pub overflow_cast-k : goal.overflow_cast-k
overflow_cast-k c = omega (arith, c.type_inv.s (c.loop-v.v + 1))

pub loop-k-init : goal.loop-k-init
loop-k-init c = row-start c.loop-v.v c.loop-v.invariant.1 c.loop-v.invariant.2 c.loop-v-test.true

pub mark_place-requires : goal.mark_place-requires
mark_place-requires c = let row = c.loop-k.invariant in (record { owned = (row.owned, (_, row-place row c.loop-k-test.true)); marking = row.marking })

pub loop-k-smaller : goal.loop-k-smaller
loop-k-smaller c = omega (arith, c.loop-k-test.true)

pub loop-k-preserved : goal.loop-k-preserved
loop-k-preserved c = row_next c.loop-k.invariant c.loop-k-test.true c.mark_place.ensures

pub loop-v-smaller : goal.loop-v-smaller
loop-v-smaller c = omega (arith, c.loop-v-test.true)

pub loop-v-preserved : goal.loop-v-preserved
loop-v-preserved c = (omega (arith, c.loop-v-test.true), c.loop-k.invariant.owned, row_done c.loop-k.invariant c.loop-k-test.false)

pub shape_of-marks : goal.shape_of-marks
shape_of-marks c = c.loop-v.invariant.2.long ∙ sym c.requires.1

pub returns : goal.returns
returns c = marking-all c.loop-v.invariant.1 c.loop-v.v c.loop-v.invariant.2 c.loop-v.invariant.0 c.loop-v-test.false
