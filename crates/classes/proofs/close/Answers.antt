use mathlib.Core.Path.{refl, ◌∙◌}
use Prim.Native.Nat.{ℕ}
use lib.ListN.{length-set}
use native.Mathlib.Omega.{arith}
use Rattle.classes.proofs.Joining.{join-start, join-done, left-small, right-small, later, round-even, round-even-less, round_up, round-down}
use Rattle.classes.proofs.close.Goals as goal

pub bounds-waiting-0 : goal.bounds-waiting-0
bounds-waiting-0 c = omega (arith, c.requires.end_bound.1)

pub loop-reach-init : goal.loop-reach-init
loop-reach-init c = let p = c.requires in (join-start p.rows p.second_lt_nodes.0 p.second_lt_nodes.1 p.end_bound.0 p.roomy _ c.args.waiting.now c.separate.ensures.parent_len c.separate.ensures.by_index p.end_bound.1, refl)

pub bounds-waiting-count : goal.bounds-waiting-count
bounds-waiting-count c = let s = c.loop-reach.invariant.0 in omega (arith, s.short, s.waiting-long, c.loop-reach-test.true)

pub overflow_cast-w : goal.overflow_cast-w
overflow_cast-w c = omega (arith, left-small c.loop-reach.invariant.0 c.loop-reach-test.true, c.loop-reach.invariant.0.rows.few)

pub find-x-requires : goal.find-x-requires
find-x-requires c = (_, c.loop-reach.invariant.0.forest, left-small c.loop-reach.invariant.0 c.loop-reach-test.true)

pub overflow_cast-w-in-loop-reach : goal.overflow_cast-w-in-loop-reach
overflow_cast-w-in-loop-reach c = omega (arith, right-small c.loop-reach.invariant.0 c.loop-reach-test.true, c.loop-reach.invariant.0.rows.few)

pub find-y-requires : goal.find-y-requires
find-y-requires c = let s = c.loop-reach.invariant.0 in (_, (c.find-x.ensures.by_index _ s.forest (left-small s c.loop-reach-test.true)).forest, right-small s c.loop-reach-test.true)

pub join-reach-requires : goal.join-reach-requires
join-reach-requires c = let s = c.loop-reach.invariant.0 in let a = (round_up c.loop-reach.invariant.0 c.loop-reach-test.true c.find-x.ensures.value c.find-x.ensures.by_index c.find-y.ensures.value c.find-y.ensures.by_index c.if-x-y.true).asks in let l = (later c.loop-reach.invariant.0 c.loop-reach-test.true c.find-x.ensures.value c.find-x.ensures.by_index c.find-y.ensures.value c.find-y.ensures.by_index) in record { lo_bound = (a.lo-in, a.hi-in, l.long, s.rows.start-long, s.rows.end-long); used_in_bounds = (a.fits, a.places); span = a.lo-span; span_2 = a.hi-span; used_bound = (a.bounded, a.pairs) }

pub loop-reach-smaller-then-x-y : goal.loop-reach-smaller-then-x-y
loop-reach-smaller-then-x-y c = (round_up c.loop-reach.invariant.0 c.loop-reach-test.true c.find-x.ensures.value c.find-x.ensures.by_index c.find-y.ensures.value c.find-y.ensures.by_index c.if-x-y.true).falls (record { merged = c.join-reach.ensures.merges_rows; parent_is = c.join-reach.ensures.class_after; start_is = c.join-reach.ensures.start_after; end_is = c.join-reach.ensures.end_after })

pub loop-reach-preserved-then-x-y : goal.loop-reach-preserved-then-x-y
loop-reach-preserved-then-x-y c = ((round_up c.loop-reach.invariant.0 c.loop-reach-test.true c.find-x.ensures.value c.find-x.ensures.by_index c.find-y.ensures.value c.find-y.ensures.by_index c.if-x-y.true).goes (record { merged = c.join-reach.ensures.merges_rows; parent_is = c.join-reach.ensures.class_after; start_is = c.join-reach.ensures.start_after; end_is = c.join-reach.ensures.end_after }), c.join-reach.ensures.merges_rows.waiting-long ∙ c.loop-reach.invariant.1)

pub join-reach-requires-then-y-x : goal.join-reach-requires-then-y-x
join-reach-requires-then-y-x c = let s = c.loop-reach.invariant.0 in let a = (round-down c.loop-reach.invariant.0 c.loop-reach-test.true c.find-x.ensures.value c.find-x.ensures.by_index c.find-y.ensures.value c.find-y.ensures.by_index c.if-y-x.true).asks in let l = (later c.loop-reach.invariant.0 c.loop-reach-test.true c.find-x.ensures.value c.find-x.ensures.by_index c.find-y.ensures.value c.find-y.ensures.by_index) in record { lo_bound = (a.lo-in, a.hi-in, l.long, s.rows.start-long, s.rows.end-long); used_in_bounds = (a.fits, a.places); span = a.lo-span; span_2 = a.hi-span; used_bound = (a.bounded, a.pairs) }

pub loop-reach-smaller-then-y-x : goal.loop-reach-smaller-then-y-x
loop-reach-smaller-then-y-x c = (round-down c.loop-reach.invariant.0 c.loop-reach-test.true c.find-x.ensures.value c.find-x.ensures.by_index c.find-y.ensures.value c.find-y.ensures.by_index c.if-y-x.true).falls (record { merged = c.join-reach-then-y-x.ensures.merges_rows; parent_is = c.join-reach-then-y-x.ensures.class_after; start_is = c.join-reach-then-y-x.ensures.start_after; end_is = c.join-reach-then-y-x.ensures.end_after })

pub loop-reach-preserved-then-y-x : goal.loop-reach-preserved-then-y-x
loop-reach-preserved-then-y-x c = ((round-down c.loop-reach.invariant.0 c.loop-reach-test.true c.find-x.ensures.value c.find-x.ensures.by_index c.find-y.ensures.value c.find-y.ensures.by_index c.if-y-x.true).goes (record { merged = c.join-reach-then-y-x.ensures.merges_rows; parent_is = c.join-reach-then-y-x.ensures.class_after; start_is = c.join-reach-then-y-x.ensures.start_after; end_is = c.join-reach-then-y-x.ensures.end_after }), c.join-reach-then-y-x.ensures.merges_rows.waiting-long ∙ c.loop-reach.invariant.1)

pub loop-reach-smaller : goal.loop-reach-smaller
loop-reach-smaller c = round-even-less c.loop-reach.invariant.0 c.loop-reach-test.true c.find-x.ensures.value c.find-x.ensures.by_index c.find-y.ensures.value c.find-y.ensures.by_index

pub loop-reach-preserved : goal.loop-reach-preserved
loop-reach-preserved c = (round-even c.loop-reach.invariant.0 c.loop-reach-test.true c.find-x.ensures.value c.find-x.ensures.by_index c.find-y.ensures.value c.find-y.ensures.by_index c.if-x-y.false c.if-y-x.false, c.loop-reach.invariant.1)

pub flatten-requires : goal.flatten-requires
flatten-requires c = c.loop-reach.invariant.0.forest

pub shape_of-waiting : goal.shape_of-waiting
shape_of-waiting c = c.loop-reach.invariant.1 ∙ length-set {A = ℕ} c.args.waiting.now 0 c.args.second

pub returns : goal.returns
returns c = let p = c.requires in join-done c.loop-reach.invariant.0 p.rows p.second_lt_nodes.0 (omega (arith, c.loop-reach-test.false)) c.flatten.ensures.parent_len c.flatten.ensures.by_index
