use Prim.Native.Nat.{ℕ}
use native.Mathlib.Omega.{arith}
use lib.ListN.{length-replicate}
use Rattle.link_orders.proofs.ReadingOrder.{placed-start, placed-next, placed-all}
use Rattle.link_orders.proofs.places.Goals as goal

pub loop-i-init : goal.loop-i-init
loop-i-init c = placed-start c.requires (length-replicate {A = ℕ} 64 0)

pub bounds-list-i : goal.bounds-list-i
bounds-list-i c = c.loop-i-test.true

pub overflow_cast-at : goal.overflow_cast-at
overflow_cast-at c = omega (arith, c.loop-i-test.true)

pub bounds-at-feature : goal.bounds-at-feature
bounds-at-feature c = c.loop-i.invariant.order.low c.loop-i.i c.loop-i-test.true

pub loop-i-preserved : goal.loop-i-preserved
loop-i-preserved c = placed-next c.loop-i.invariant c.loop-i-test.true

pub returns : goal.returns
returns c = (c.loop-i.invariant.long, placed-all c.loop-i.invariant c.loop-i-test.false)
