use mathlib.Core.Path.{sym, ◌∙◌}
use Prim.Native.Nat.{◌+◌}
use native.Mathlib.Omega.{arith}
use Rattle.keeping.proofs.Keeping.{node-known, place-known}
use Rattle.keeping.proofs.Thinning.{thin-start, thin-room, thin-inside, thin-more, thin-stay, thin-as, thin-done}
use Rattle.keeping.proofs.rows.keep_row.Goals.{then-is_kept, else-is_kept}
use Rattle.keeping.proofs.rows.keep_row.Goals as goal

pub overflow_add-end : goal.overflow_add-end
overflow_add-end c = let known = node-known c.requires.markable.0 _ c.requires.markable.1 in omega (arith, known.small)

pub offset_bounds-s-v : goal.offset_bounds-s-v
offset_bounds-s-v c = let known = node-known c.requires.markable.0 _ c.requires.markable.1 in omega (arith, known.small)

pub bounds-s-v : goal.bounds-s-v
bounds-s-v c = let known = node-known c.requires.markable.0 _ c.requires.markable.1 in omega (arith, known.node.listed)

pub overflow_cast-end : goal.overflow_cast-end
overflow_cast-end c = omega (arith, c.type_inv.s (c.args.v + 2))

pub overflow_add-k : goal.overflow_add-k
overflow_add-k c = let known = node-known c.requires.markable.0 _ c.requires.markable.1 in omega (arith, known.small)

pub offset_bounds-s-v-2 : goal.offset_bounds-s-v-2
offset_bounds-s-v-2 c = let known = node-known c.requires.markable.0 _ c.requires.markable.1 in omega (arith, known.small)

pub bounds-s-v-2 : goal.bounds-s-v-2
bounds-s-v-2 c = let known = node-known c.requires.markable.0 _ c.requires.markable.1 in omega (arith, known.node.listed)

pub overflow_cast-k : goal.overflow_cast-k
overflow_cast-k c = omega (arith, c.type_inv.s (c.args.v + 1))

pub loop-k-init : goal.loop-k-init
loop-k-init c = thin-start c.requires.markable.0 c.requires.markable.1 c.requires.words_len.0 c.requires.words_len.1

pub is_kept-requires : goal.is_kept-requires
is_kept-requires c = let place = place-known c.loop-k.invariant.ready c.loop-k.invariant.inside c.loop-k.invariant.low c.loop-k-test.true in let ready = c.loop-k.invariant.ready in (record { marks_len = (ready.marks-long, ready.keep-long); k_in_bounds = (place.within, place.target) })

pub offset_bounds-s-k : goal.offset_bounds-s-k
offset_bounds-s-k c = let place = place-known c.loop-k.invariant.ready c.loop-k.invariant.inside c.loop-k.invariant.low c.loop-k-test.true in omega (arith, place.few)

pub bounds-s-k : goal.bounds-s-k
bounds-s-k c = let place = place-known c.loop-k.invariant.ready c.loop-k.invariant.inside c.loop-k.invariant.low c.loop-k-test.true in place.within

pub offset_bounds-words-next : goal.offset_bounds-words-next
offset_bounds-words-next c = omega (arith, thin-room c.loop-k.invariant c.loop-k-test.true)

pub bounds-words-next : goal.bounds-words-next
bounds-words-next c = thin-inside c.loop-k.invariant c.loop-k-test.true

pub overflow_add-next : goal.overflow_add-next
overflow_add-next c = omega (arith, thin-room c.loop-k.invariant c.loop-k-test.true)

pub loop-k-smaller : goal.loop-k-smaller
loop-k-smaller c = omega (arith, c.loop-k-test.true)

pub loop-k-preserved : goal.loop-k-preserved
loop-k-preserved c =
    elim c.if-is_kept.branch [
      | then-is_kept w ↦ thin-as w.words-is w.next-is (thin-more c.loop-k.invariant c.loop-k-test.true (c.is_kept.ensures.yes-stands w.if-is_kept.true))
      | else-is_kept w ↦ thin-as w.words-is w.next-is (thin-stay c.loop-k.invariant c.loop-k-test.true (c.is_kept.ensures.no-stands w.if-is_kept.false))
    ]

pub shape_of-words : goal.shape_of-words
shape_of-words c = c.loop-k.invariant.thinned.long ∙ sym c.requires.words_len.0

pub returns : goal.returns
returns c = thin-done c.loop-k.invariant c.loop-k-test.false
