use mathlib.Core.Bool.{Bool, false}
use native.Mathlib.Omega.{arith}
use lib.ListN.{length-replicate, get_or-replicate}
use Rattle.graphs.proofs.Search.{true-false}
use Rattle.link_orders.proofs.ReadingOrder.{not-long, scanned-start, scanned-high, scanned-twice, scanned-next, scanned-done}
use Rattle.link_orders.proofs.is_reading_order.Goals as goal

pub returns-then-list-ne-FEATURES : goal.returns-then-list-ne-FEATURES
returns-then-list-ne-FEATURES c = not-long _ c.if-list-ne-FEATURES.true

pub loop-feature-init : goal.loop-feature-init
loop-feature-init c = scanned-start (omega (arith, c.if-list-ne-FEATURES.false)) (length-replicate {A = Bool} 64 false) (λ f h. get_or-replicate {A = Bool} 64 f false false h)

pub overflow_cast-f : goal.overflow_cast-f
overflow_cast-f c = omega (arith, c.type_inv.list c.loop-feature.feature-index)

pub returns-then-f-ge-FEATURES : goal.returns-then-f-ge-FEATURES
returns-then-f-ge-FEATURES c = scanned-high c.loop-feature.invariant (omega (arith, c.loop-feature.invariant.long, c.loop-feature-test.true)) c.if-f-ge-FEATURES.true

pub bounds-seen-f : goal.bounds-seen-f
bounds-seen-f c = omega (arith, c.if-f-ge-FEATURES.false)

pub returns-then-seen-f : goal.returns-then-seen-f
returns-then-seen-f c = scanned-twice c.loop-feature.invariant (omega (arith, c.loop-feature.invariant.long, c.loop-feature-test.true)) (omega (arith, c.if-f-ge-FEATURES.false)) c.if-seen-f.true

pub bounds-seen-f-in-loop-feature : goal.bounds-seen-f-in-loop-feature
bounds-seen-f-in-loop-feature c = omega (arith, c.if-f-ge-FEATURES.false)

pub loop-feature-preserved : goal.loop-feature-preserved
loop-feature-preserved c = scanned-next c.loop-feature.invariant (omega (arith, c.loop-feature.invariant.long, c.loop-feature-test.true)) (omega (arith, c.if-f-ge-FEATURES.false)) (λ e. true-false e c.if-seen-f.false)

pub returns : goal.returns
returns c = scanned-done c.loop-feature.invariant (omega (arith, c.loop-feature.invariant.long, c.loop-feature-test.false))
