use Prim.Native.Nat.{ℕ, ◌+◌}
use native.Mathlib.Omega.{arith}
use lib.ListN.{length-replicate, get_or-replicate}
use Rattle.keeping.proofs.Keeping.{entering-start, row-start, row-place, row_next, row_done, entering-done}
use Rattle.keeping.proofs.keep.keep_entered.Goals as goal

pub bounds-s-0 : goal.bounds-s-0
bounds-s-0 c = let shaped = c.requires.sound.shaped in omega (arith, (shaped.node 0 shaped.nonempty).listed)

pub overflow_cast-nodes : goal.overflow_cast-nodes
overflow_cast-nodes c = omega (arith, c.requires.small)

pub loop-v-init : goal.loop-v-init
loop-v-init c = (omega arith, c.requires, entering-start c.requires (length-replicate {A = ℕ} 255 0) (λ v h. get_or-replicate {A = ℕ} 255 v 0 0 h))

pub overflow_add-end : goal.overflow_add-end
overflow_add-end c = omega (arith, c.loop-v-test.true, c.loop-v.invariant.1.small)

pub offset_bounds-s-v : goal.offset_bounds-s-v
offset_bounds-s-v c = omega (arith, c.loop-v-test.true, c.loop-v.invariant.1.small)

pub bounds-s-v : goal.bounds-s-v
bounds-s-v c = let node = c.loop-v.invariant.1.sound.shaped.node c.loop-v.v c.loop-v-test.true in omega (arith, node.listed)

pub overflow_cast-end : goal.overflow_cast-end
overflow_cast-end c = omega (arith, c.type_inv.s (c.loop-v.v + 2))

pub overflow_add-k : goal.overflow_add-k
overflow_add-k c = omega (arith, c.loop-v-test.true, c.loop-v.invariant.1.small)

pub offset_bounds-s-v-in-loop-v : goal.offset_bounds-s-v-in-loop-v
offset_bounds-s-v-in-loop-v c = omega (arith, c.loop-v-test.true, c.loop-v.invariant.1.small)

pub bounds-s-v-in-loop-v : goal.bounds-s-v-in-loop-v
bounds-s-v-in-loop-v c = let node = c.loop-v.invariant.1.sound.shaped.node c.loop-v.v c.loop-v-test.true in omega (arith, node.listed)

pub overflow_cast-k : goal.overflow_cast-k
overflow_cast-k c = omega (arith, c.type_inv.s (c.loop-v.v + 1))

pub loop-k-init : goal.loop-k-init
loop-k-init c = row-start c.loop-v.v c.loop-v.invariant.1 c.loop-v-test.true c.loop-v.invariant.2

pub keep_one-requires : goal.keep_one-requires
keep_one-requires c = let row = c.loop-k.invariant in let place = row-place row c.loop-k-test.true in (record { by_index = ((_, place.link), place.within, place.target); marks_len = (row.ready.marks-long, row.entered-long, row.ready.keep-long) })

pub loop-k-smaller : goal.loop-k-smaller
loop-k-smaller c = omega (arith, c.loop-k-test.true)

pub loop-k-preserved : goal.loop-k-preserved
loop-k-preserved c = row_next c.loop-k.invariant c.loop-k-test.true c.keep_one.ensures

pub loop-v-smaller : goal.loop-v-smaller
loop-v-smaller c = omega (arith, c.loop-v-test.true)

pub loop-v-preserved : goal.loop-v-preserved
loop-v-preserved c = (omega (arith, c.loop-v-test.true), c.loop-k.invariant.ready, row_done c.loop-k.invariant c.loop-k-test.false c.loop-v.invariant.2)

pub returns : goal.returns
returns c = entering-done c.loop-v.v c.loop-v.invariant.2 c.loop-v.invariant.0 c.loop-v-test.false
