use Prim.Native.Nat.{◌+◌}
use native.Mathlib.Omega.{arith}
use mathlib.Core.Path.{ap}
use lib.ListN.{set}
use Rattle.keeping.proofs.Keeping.{node-known}
use Rattle.reasons.proofs.Explaining.{explain-start, explain-room, explain-inside, explain-known, explain-place, explain-more, explain-done}
use Rattle.reasons.proofs.explain_row.Goals as goal

pub overflow_add-s_end : goal.overflow_add-s_end
overflow_add-s_end c = omega (arith, (node-known c.requires.markable.0 _ c.requires.markable.2).small)

pub offset_bounds-s-v : goal.offset_bounds-s-v
offset_bounds-s-v c = omega (arith, (node-known c.requires.markable.0 _ c.requires.markable.2).small)

pub bounds-s-v : goal.bounds-s-v
bounds-s-v c = omega (arith, (node-known c.requires.markable.0 _ c.requires.markable.2).node.listed)

pub overflow_cast-s_end : goal.overflow_cast-s_end
overflow_cast-s_end c = omega (arith, c.type_inv.s (c.args.v + 2))

pub overflow_add-j : goal.overflow_add-j
overflow_add-j c = omega (arith, (node-known c.requires.markable.0 _ c.requires.markable.2).small)

pub offset_bounds-s-v-2 : goal.offset_bounds-s-v-2
offset_bounds-s-v-2 c = omega (arith, (node-known c.requires.markable.0 _ c.requires.markable.2).small)

pub bounds-s-v-2 : goal.bounds-s-v-2
bounds-s-v-2 c = omega (arith, (node-known c.requires.markable.0 _ c.requires.markable.2).node.listed)

pub overflow_cast-j : goal.overflow_cast-j
overflow_cast-j c = omega (arith, c.type_inv.s (c.args.v + 1))

pub overflow_add-j-2 : goal.overflow_add-j-2
overflow_add-j-2 c = omega (arith, c.type_inv.s (c.args.v + 1))

pub overflow_add-end : goal.overflow_add-end
overflow_add-end c = omega (arith, (node-known c.requires.markable.0 _ c.requires.markable.2).small)

pub offset_bounds-words-v : goal.offset_bounds-words-v
offset_bounds-words-v c = omega (arith, (node-known c.requires.markable.0 _ c.requires.markable.2).small)

pub bounds-words-v : goal.bounds-words-v
bounds-words-v c = omega (arith, (c.requires.markable.1.sound.shaped.node c.args.v (omega (arith, c.requires.markable.1.sized, c.requires.markable.2))).listed)

pub overflow_cast-end : goal.overflow_cast-end
overflow_cast-end c = omega (arith, c.type_inv.words (c.args.v + 2))

pub overflow_add-k : goal.overflow_add-k
overflow_add-k c = omega (arith, (node-known c.requires.markable.0 _ c.requires.markable.2).small)

pub offset_bounds-words-v-2 : goal.offset_bounds-words-v-2
offset_bounds-words-v-2 c = omega (arith, (node-known c.requires.markable.0 _ c.requires.markable.2).small)

pub bounds-words-v-2 : goal.bounds-words-v-2
bounds-words-v-2 c = omega (arith, (c.requires.markable.1.sound.shaped.node c.args.v (omega (arith, c.requires.markable.1.sized, c.requires.markable.2))).listed)

pub overflow_cast-k : goal.overflow_cast-k
overflow_cast-k c = omega (arith, c.type_inv.words (c.args.v + 1))

pub loop-k-init : goal.loop-k-init
loop-k-init c = explain-start c.requires.markable.0 c.requires.markable.1 c.requires.markable.2 c.requires.reasons_len

pub offset_bounds-words-k : goal.offset_bounds-words-k
offset_bounds-words-k c = omega (arith, explain-room c.loop-k.invariant c.loop-k-test.true)

pub bounds-words-k : goal.bounds-words-k
bounds-words-k c = explain-inside c.loop-k.invariant c.loop-k-test.true

pub seek-j-requires : goal.seek-j-requires
seek-j-requires c =
    let turn = c.loop-k.invariant in
    (turn.s-high, (turn.ready.sound.shaped.node _ turn.inside).ended, rw c.feature.ensures (explain-known turn c.loop-k-test.true))

pub offset_bounds-s-j : goal.offset_bounds-s-j
offset_bounds-s-j c = omega (arith, (explain-place c.loop-k.invariant c.loop-k-test.true (rw c.feature.ensures at c.seek-j.ensures)).few)

pub bounds-s-j : goal.bounds-s-j
bounds-s-j c = (explain-place c.loop-k.invariant c.loop-k-test.true (rw c.feature.ensures at c.seek-j.ensures)).within

pub bounds-marks-j : goal.bounds-marks-j
bounds-marks-j c = omega (arith, (explain-place c.loop-k.invariant c.loop-k-test.true (rw c.feature.ensures at c.seek-j.ensures)).within, c.loop-k.invariant.ready.marks-long)

pub bounds-meeting-target : goal.bounds-meeting-target
bounds-meeting-target c = rw c.target-target.ensures (explain-place c.loop-k.invariant c.loop-k-test.true (rw c.feature.ensures at c.seek-j.ensures)).target

pub bounds-reasons-k : goal.bounds-reasons-k
bounds-reasons-k c = explain-room c.loop-k.invariant c.loop-k-test.true

pub loop-k-preserved : goal.loop-k-preserved
loop-k-preserved c =
    let turn = c.loop-k in
    explain-more turn.invariant c.loop-k-test.true (rw c.feature.ensures at c.seek-j.ensures) (rw c.target-target.ensures at (ap (set turn.reasons turn.k) c.reason_of.ensures))

pub returns : goal.returns
returns c = explain-done c.loop-k.invariant c.loop-k-test.false
