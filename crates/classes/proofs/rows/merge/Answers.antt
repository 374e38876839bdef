use native.Mathlib.Omega.{arith}
use Rattle.classes.proofs.Merging.{merge-start, merge-done, left_in, right-in, both-in, in-a, in_b, pair-room, merge-left, merge-right, merge-both}
use Rattle.classes.proofs.rows.merge.Goals as goal

pub loop-i-init : goal.loop-i-init
loop-i-init c = let p = c.requires in merge-start _ _ _ _ _ _ _ _ (record { fits = p.used_in_bounds.0; places = p.used_in_bounds.1; a = p.span; b = p.span_2; room = p.used_bound.1 })

pub feature_at-f-requires : goal.feature_at-f-requires
feature_at-f-requires c = let s = c.loop-i.invariant in omega (arith, s.asked.a.before, s.asked.fits, s.merged.pool-long)

pub feature_at-g-requires : goal.feature_at-g-requires
feature_at-g-requires c = let s = c.loop-i.invariant in omega (arith, s.asked.b.before, s.asked.fits, s.merged.pool-long)

pub bounds-pool-i : goal.bounds-pool-i
bounds-pool-i c = in-a _ _ _ _ _ _ _ _ c.loop-i.invariant c.feature_at-f.ensures c.feature_at-g.ensures (left_in _ _ _ _ _ _ _ _ c.loop-i.invariant c.feature_at-f.ensures c.feature_at-g.ensures c.if-f-g.true).0

pub bounds-pool-at : goal.bounds-pool-at
bounds-pool-at c = (left_in _ _ _ _ _ _ _ _ c.loop-i.invariant c.feature_at-f.ensures c.feature_at-g.ensures c.if-f-g.true).1

pub loop-i-preserved-then-f-g : goal.loop-i-preserved-then-f-g
loop-i-preserved-then-f-g c = merge-left _ _ _ _ _ _ _ _ c.loop-i.invariant c.feature_at-f.ensures c.feature_at-g.ensures c.if-f-g.true

pub bounds-pool-j : goal.bounds-pool-j
bounds-pool-j c = in_b _ _ _ _ _ _ _ _ c.loop-i.invariant c.feature_at-f.ensures c.feature_at-g.ensures (right-in _ _ _ _ _ _ _ _ c.loop-i.invariant c.feature_at-f.ensures c.feature_at-g.ensures c.if-g-f.true).0

pub bounds-pool-at-then-g-f : goal.bounds-pool-at-then-g-f
bounds-pool-at-then-g-f c = (right-in _ _ _ _ _ _ _ _ c.loop-i.invariant c.feature_at-f.ensures c.feature_at-g.ensures c.if-g-f.true).1

pub loop-i-preserved-then-g-f : goal.loop-i-preserved-then-g-f
loop-i-preserved-then-g-f c = merge-right _ _ _ _ _ _ _ _ c.loop-i.invariant c.feature_at-f.ensures c.feature_at-g.ensures c.if-g-f.true

pub bounds-pool-i-else-g-f : goal.bounds-pool-i-else-g-f
bounds-pool-i-else-g-f c = in-a _ _ _ _ _ _ _ _ c.loop-i.invariant c.feature_at-f.ensures c.feature_at-g.ensures (both-in _ _ _ _ _ _ _ _ c.loop-i.invariant c.feature_at-f.ensures c.feature_at-g.ensures c.loop-i-test.true (omega (arith, c.if-g-f.false, c.if-f-g.false))).0

pub bounds-pool-j-else-g-f : goal.bounds-pool-j-else-g-f
bounds-pool-j-else-g-f c = in_b _ _ _ _ _ _ _ _ c.loop-i.invariant c.feature_at-f.ensures c.feature_at-g.ensures (both-in _ _ _ _ _ _ _ _ c.loop-i.invariant c.feature_at-f.ensures c.feature_at-g.ensures c.loop-i-test.true (omega (arith, c.if-g-f.false, c.if-f-g.false))).1

pub bounds-waiting-top : goal.bounds-waiting-top
bounds-waiting-top c = pair-room _ _ _ _ _ _ _ _ c.loop-i.invariant c.feature_at-f.ensures c.feature_at-g.ensures c.loop-i-test.true (omega (arith, c.if-g-f.false, c.if-f-g.false))

pub bounds-pool-i-else-g-f-2 : goal.bounds-pool-i-else-g-f-2
bounds-pool-i-else-g-f-2 c = in-a _ _ _ _ _ _ _ _ c.loop-i.invariant c.feature_at-f.ensures c.feature_at-g.ensures (both-in _ _ _ _ _ _ _ _ c.loop-i.invariant c.feature_at-f.ensures c.feature_at-g.ensures c.loop-i-test.true (omega (arith, c.if-g-f.false, c.if-f-g.false))).0

pub bounds-pool-at-else-g-f : goal.bounds-pool-at-else-g-f
bounds-pool-at-else-g-f c = (both-in _ _ _ _ _ _ _ _ c.loop-i.invariant c.feature_at-f.ensures c.feature_at-g.ensures c.loop-i-test.true (omega (arith, c.if-g-f.false, c.if-f-g.false))).2

pub loop-i-preserved : goal.loop-i-preserved
loop-i-preserved c = merge-both _ _ _ _ _ _ _ _ c.loop-i.invariant c.feature_at-f.ensures c.feature_at-g.ensures c.loop-i-test.true (omega (arith, c.if-g-f.false, c.if-f-g.false)) c.pair.ensures

pub returns : goal.returns
returns c = merge-done _ _ _ _ _ _ _ _ c.loop-i.invariant c.loop-i-test.false
