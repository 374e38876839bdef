use mathlib.Core.Path.{refl}
use mathlib.Core.Logic.{inl, inr}
use Prim.Native.Nat.{◌+◌}
use native.Mathlib.Omega.{arith}
use Rattle.product.proofs.Merging.{merge-start, merge-ended, merge-left, merge-right, merge-room, merge-nodes, merge-full, merge-both, merge-spreads}
use Rattle.product.proofs.pair_links.Goals as goal

pub bounds-a-u : goal.bounds-a-u
bounds-a-u c = (c.requires.recorded.sound.shaped.node c.args.u c.requires.u_bound.0).listed

pub overflow_cast-a_end : goal.overflow_cast-a_end
overflow_cast-a_end c = omega (arith, c.type_inv.a (c.args.u + 2))

pub bounds-b-v : goal.bounds-b-v
bounds-b-v c = (c.requires.recorded_2.sound.shaped.node c.args.v c.requires.u_bound.1).listed

pub overflow_cast-b_end : goal.overflow_cast-b_end
overflow_cast-b_end c = omega (arith, c.type_inv.b (c.args.v + 2))

pub bounds-a-u-2 : goal.bounds-a-u-2
bounds-a-u-2 c = omega (arith, (c.requires.recorded.sound.shaped.node c.args.u c.requires.u_bound.0).listed)

pub overflow_cast-i : goal.overflow_cast-i
overflow_cast-i c = omega (arith, c.type_inv.a (c.args.u + 1))

pub overflow_add-i-2 : goal.overflow_add-i-2
overflow_add-i-2 c = omega (arith, c.type_inv.a (c.args.u + 1))

pub bounds-b-v-2 : goal.bounds-b-v-2
bounds-b-v-2 c = omega (arith, (c.requires.recorded_2.sound.shaped.node c.args.v c.requires.u_bound.1).listed)

pub overflow_cast-j : goal.overflow_cast-j
overflow_cast-j c = omega (arith, c.type_inv.b (c.args.v + 1))

pub overflow_add-j-2 : goal.overflow_add-j-2
overflow_add-j-2 c = omega (arith, c.type_inv.b (c.args.v + 1))

pub loop-i-init : goal.loop-i-init
loop-i-init c = (refl, refl, merge-start (record { left = c.requires.recorded; right = c.requires.recorded_2; left-node = c.requires.u_bound.0; right-node = c.requires.u_bound.1; long = c.requires.at_in_bounds.1; low = c.requires.at_in_bounds.0; left_end = omega (arith, c.type_inv.a (c.args.u + 2)); right_end = omega (arith, c.type_inv.b (c.args.v + 2)) }) c.requires.marked)

pub shape_of-words-then-b_end-j : goal.shape_of-words-then-b_end-j
shape_of-words-then-b_end-j c = c.loop-i.invariant.2.added.long

pub returns-then-b_end-j : goal.returns-then-b_end-j
returns-then-b_end-j c = merge-spreads c.loop-i.invariant.2 (inr (omega (arith, c.if-b_end-j.true, c.loop-i.invariant.1)))

pub offset_bounds-a-i : goal.offset_bounds-a-i
offset_bounds-a-i c = omega (arith, c.loop-i-test.true, c.loop-i.invariant.0, c.loop-i.invariant.2.begun.left_end)

pub bounds-a-i : goal.bounds-a-i
bounds-a-i c = omega (arith, c.loop-i-test.true, c.loop-i.invariant.0, (merge-ended c.loop-i.invariant.2).0)

pub offset_bounds-b-j : goal.offset_bounds-b-j
offset_bounds-b-j c = omega (arith, c.if-b_end-j.false, c.loop-i.invariant.1, c.loop-i.invariant.2.begun.right_end)

pub bounds-b-j : goal.bounds-b-j
bounds-b-j c = omega (arith, c.if-b_end-j.false, c.loop-i.invariant.1, (merge-ended c.loop-i.invariant.2).1)

pub overflow_add-i-then-f-h : goal.overflow_add-i-then-f-h
overflow_add-i-then-f-h c = omega (arith, c.loop-i-test.true, c.loop-i.invariant.0, c.loop-i.invariant.2.begun.left_end)

pub loop-i-preserved-then-f-h : goal.loop-i-preserved-then-f-h
loop-i-preserved-then-f-h c = (c.loop-i.invariant.0, c.loop-i.invariant.1, merge-left c.loop-i.invariant.2 (omega (arith, c.loop-i-test.true, c.loop-i.invariant.0)) (omega (arith, c.if-b_end-j.false, c.loop-i.invariant.1)) (rw (c.feature-f.ensures, c.feature-h.ensures) at c.if-f-h.true))

pub overflow_add-j-then-h-f : goal.overflow_add-j-then-h-f
overflow_add-j-then-h-f c = omega (arith, c.if-b_end-j.false, c.loop-i.invariant.1, c.loop-i.invariant.2.begun.right_end)

pub loop-i-preserved-then-h-f : goal.loop-i-preserved-then-h-f
loop-i-preserved-then-h-f c = (c.loop-i.invariant.0, c.loop-i.invariant.1, merge-right c.loop-i.invariant.2 (omega (arith, c.loop-i-test.true, c.loop-i.invariant.0)) (omega (arith, c.if-b_end-j.false, c.loop-i.invariant.1)) (rw (c.feature-f.ensures, c.feature-h.ensures) at c.if-h-f.true))

pub enlist-requires : goal.enlist-requires
enlist-requires c =
    record {
      marked = c.loop-i.invariant.2.added.after;
      pair_bound = omega (arith, c.target.ensures, c.target-else-h-f.ensures, merge-nodes c.loop-i.invariant.2 (omega (arith, c.loop-i-test.true, c.loop-i.invariant.0)) (omega (arith, c.if-b_end-j.false, c.loop-i.invariant.1)));
    }

pub returns-in_err-count : goal.returns-in_err-count
returns-in_err-count c =
    let (given, free) = rw (c.target.ensures, c.target-else-h-f.ensures) at c.in_err-count.ensures in
    rw c.from_residual.ensures
    (merge-full c.loop-i.invariant.2 (omega (arith, c.loop-i-test.true, c.loop-i.invariant.0)) (omega (arith, c.if-b_end-j.false, c.loop-i.invariant.1)) (omega (arith, c.feature-f.ensures, c.feature-h.ensures, c.if-f-h.false, c.if-h-f.false)) given free)

pub bounds-marks-pair : goal.bounds-marks-pair
bounds-marks-pair c = omega (arith, c.target.ensures, c.target-else-h-f.ensures, merge-nodes c.loop-i.invariant.2 (omega (arith, c.loop-i-test.true, c.loop-i.invariant.0)) (omega (arith, c.if-b_end-j.false, c.loop-i.invariant.1)))

pub overflow_cast-number : goal.overflow_cast-number
overflow_cast-number c = let listed = c.in_ok-count.ensures in omega (arith, listed.numbered, listed.after.few)

pub link-requires : goal.link-requires
link-requires c = let listed = c.in_ok-count.ensures in (omega (arith, c.feature-f.ensures, c.type_inv.a c.loop-i.i), omega (arith, listed.numbered, listed.after.few))

pub bounds-words-at : goal.bounds-words-at
bounds-words-at c = omega (arith, merge-room c.loop-i.invariant.2 (omega (arith, c.loop-i-test.true, c.loop-i.invariant.0)) (omega (arith, c.if-b_end-j.false, c.loop-i.invariant.1)), c.loop-i.invariant.2.added.long)

pub overflow_add-at : goal.overflow_add-at
overflow_add-at c = omega (arith, merge-room c.loop-i.invariant.2 (omega (arith, c.loop-i-test.true, c.loop-i.invariant.0)) (omega (arith, c.if-b_end-j.false, c.loop-i.invariant.1)))

pub overflow_add-i-else-h-f : goal.overflow_add-i-else-h-f
overflow_add-i-else-h-f c = omega (arith, c.loop-i-test.true, c.loop-i.invariant.0, c.loop-i.invariant.2.begun.left_end)

pub overflow_add-j-else-h-f : goal.overflow_add-j-else-h-f
overflow_add-j-else-h-f c = omega (arith, c.if-b_end-j.false, c.loop-i.invariant.1, c.loop-i.invariant.2.begun.right_end)

pub loop-i-preserved : goal.loop-i-preserved
loop-i-preserved c = (
  c.loop-i.invariant.0,
  c.loop-i.invariant.1,
  merge-both c.loop-i.invariant.2 (omega (arith, c.loop-i-test.true, c.loop-i.invariant.0)) (omega (arith, c.if-b_end-j.false, c.loop-i.invariant.1)) (omega (arith, c.feature-f.ensures, c.feature-h.ensures, c.if-f-h.false, c.if-h-f.false)) _ _ _ (rw (c.target.ensures, c.target-else-h-f.ensures) at c.in_ok-count.ensures) _
      (rw (c.feature-f.ensures, c.target.ensures, c.target-else-h-f.ensures) at c.link.ensures),
)

pub shape_of-words : goal.shape_of-words
shape_of-words c = c.loop-i.invariant.2.added.long

pub returns : goal.returns
returns c = merge-spreads c.loop-i.invariant.2 (inl (omega (arith, c.loop-i-test.false, c.loop-i.invariant.0)))
