use Prim.Native.Nat.{◌+◌}
use native.Mathlib.Omega.{arith}
use lib.ListN.{get_or}
use Rattle.keeping.proofs.Keeping.{order-inside, node-known, settled-start, settled-yes, settled-no, left, settled-done}
use Rattle.keeping.proofs.keep.keep_parents.Goals.{then-has_kept_link, else-has_kept_link}
use Rattle.keeping.proofs.keep.keep_parents.Goals as goal

pub bounds-s-0 : goal.bounds-s-0
bounds-s-0 c = let shaped = c.requires.0.sound.shaped in omega (arith, (shaped.node 0 shaped.nonempty).listed)

pub overflow_cast-nodes : goal.overflow_cast-nodes
overflow_cast-nodes c = omega (arith, c.requires.0.small)

pub loop-i-init : goal.loop-i-init
loop-i-init c = (omega arith, c.requires.0, (c.requires.1, settled-start c.requires.1 c.requires.0.keep-long))

pub offset_bounds-order-i : goal.offset_bounds-order-i
offset_bounds-order-i c = omega (arith, c.loop-i-test.true, c.loop-i.invariant.1.small)

pub bounds-order-i : goal.bounds-order-i
bounds-order-i c = omega (arith, c.loop-i-test.true, c.loop-i.invariant.1.small)

pub overflow_cast-v : goal.overflow_cast-v
overflow_cast-v c = let known = node-known c.loop-i.invariant.1 _ (order-inside c.loop-i.invariant.2.0 c.loop-i-test.true) in omega (arith, known.small)

pub overflow_add-start : goal.overflow_add-start
overflow_add-start c = let known = node-known c.loop-i.invariant.1 _ (order-inside c.loop-i.invariant.2.0 c.loop-i-test.true) in omega (arith, known.small)

pub offset_bounds-s-v : goal.offset_bounds-s-v
offset_bounds-s-v c = let known = node-known c.loop-i.invariant.1 _ (order-inside c.loop-i.invariant.2.0 c.loop-i-test.true) in omega (arith, known.small)

pub bounds-s-v : goal.bounds-s-v
bounds-s-v c = let known = node-known c.loop-i.invariant.1 _ (order-inside c.loop-i.invariant.2.0 c.loop-i-test.true) in omega (arith, known.node.listed)

pub overflow_cast-start : goal.overflow_cast-start
overflow_cast-start c = omega (arith, c.type_inv.s (get_or c.args.order.now c.loop-i.i 0 + 1))

pub overflow_add-start-in-loop-i : goal.overflow_add-start-in-loop-i
overflow_add-start-in-loop-i c = omega (arith, c.type_inv.s (get_or c.args.order.now c.loop-i.i 0 + 1))

pub overflow_add-end : goal.overflow_add-end
overflow_add-end c = let known = node-known c.loop-i.invariant.1 _ (order-inside c.loop-i.invariant.2.0 c.loop-i-test.true) in omega (arith, known.small)

pub offset_bounds-s-v-in-loop-i : goal.offset_bounds-s-v-in-loop-i
offset_bounds-s-v-in-loop-i c = let known = node-known c.loop-i.invariant.1 _ (order-inside c.loop-i.invariant.2.0 c.loop-i-test.true) in omega (arith, known.small)

pub bounds-s-v-in-loop-i : goal.bounds-s-v-in-loop-i
bounds-s-v-in-loop-i c = let known = node-known c.loop-i.invariant.1 _ (order-inside c.loop-i.invariant.2.0 c.loop-i-test.true) in omega (arith, known.node.listed)

pub overflow_cast-end : goal.overflow_cast-end
overflow_cast-end c = omega (arith, c.type_inv.s (get_or c.args.order.now c.loop-i.i 0 + 2))

pub has_kept_link-requires : goal.has_kept_link-requires
has_kept_link-requires c = let known = node-known c.loop-i.invariant.1 _ (order-inside c.loop-i.invariant.2.0 c.loop-i-test.true) in let ready = c.loop-i.invariant.1 in (record { marks_len = (ready.marks-long, ready.keep-long, known.node.ended); by_index = λ k low high. known.within k (omega (arith, low, known.node.begun)) high })

pub bounds-keep-v : goal.bounds-keep-v
bounds-keep-v c = let known = node-known c.loop-i.invariant.1 _ (order-inside c.loop-i.invariant.2.0 c.loop-i-test.true) in known.small

pub loop-i-smaller : goal.loop-i-smaller
loop-i-smaller c = omega (arith, c.loop-i-test.true)

pub loop-i-preserved : goal.loop-i-preserved
loop-i-preserved c = let sorted = c.loop-i.invariant.2.0 in let ready = c.loop-i.invariant.1 in let old = c.loop-i.invariant.2.1 in let inside = c.loop-i-test.true in
    elim c.if-has_kept_link.branch [
      | then-has_kept_link w ↦ left c.loop-i.i w.keep-is (omega (arith, inside)) ready sorted (settled-yes sorted inside ready.small old (c.has_kept_link.ensures.yes-stands w.if-has_kept_link.true))
      | else-has_kept_link w ↦ left c.loop-i.i w.keep-is (omega (arith, inside)) ready sorted (settled-no sorted inside ready.small old (c.has_kept_link.ensures.no-stands w.if-has_kept_link.false))
    ]

pub returns : goal.returns
returns c = settled-done c.loop-i.invariant.2.0 c.loop-i.invariant.2.1 c.loop-i-test.false
