use mathlib.Core.Path.{refl}
use native.Mathlib.Omega.{arith}
use Rattle.layout.proofs.Places.{sized}
use Rattle.visits.proofs.Colouring.{sweeping-start, sweeping-entered, sweeping-over, sweeping-down, sweeping-sorts, looped-sorts}
use Rattle.visits.proofs.sorting.sort_targets_first.Goals as goal
use Rattle.visits.proofs.sorting.sort_targets_first.Goals.{then-colour-v-eq0+in-Some, else-colour-v-eq0}

pub size-v-end-requires : goal.size-v-end-requires
size-v-end-requires c = sized c.requires.sound

pub loop-v-init : goal.loop-v-init
loop-v-init c = sweeping-start c.requires.sound _ _ refl c.requires.order_len

pub finish-requires : goal.finish-requires
finish-requires c = sweeping-entered c.loop-v.invariant (omega arith) c.if-colour-v-eq0.true

pub returns-in_default : goal.returns-in_default
returns-in_default c = (record { sorts = looped-sorts (c.finish.ensures.looped c.in_default.is); order_len_2 = c.finish.ensures.roomy })

pub loop-v-preserved : goal.loop-v-preserved
loop-v-preserved c =
    elim c.if-colour-v-eq0.branch [
      | then-colour-v-eq0+in-Some w ↦
          rw (w.colour-is, w.order-is, w.count-is)
          (sweeping-down c.loop-v.invariant (omega arith) (w.finish.ensures.counted _ w.in-Some.is) (w.finish.ensures.finished _ w.in-Some.is))
      | else-colour-v-eq0 w ↦
          rw (w.colour-is, w.order-is, w.count-is)
          (sweeping-over c.loop-v.invariant (omega arith) w.if-colour-v-eq0.false)
    ]

pub returns : goal.returns
returns c = (record { sorts = sweeping-sorts c.loop-v.invariant (omega arith); order_len_2 = c.loop-v.invariant.placed.roomy })
