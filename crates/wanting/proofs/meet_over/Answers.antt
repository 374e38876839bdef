use native.Mathlib.Omega.{arith}
use Rattle.wanting.proofs.Wanting.{met-filled, met-down-as, met-done, turn-known}
use Rattle.wanting.proofs.meet_over.Goals as goal

pub overflow_sub-n : goal.overflow_sub-n
overflow_sub-n c = omega (arith, c.requires.0.two)

pub loop-y-init : goal.loop-y-init
loop-y-init c = met-filled c.args.met.now c.requires.0 c.requires.1 (c.fill.ensures.after (λ y e. e))

pub label_at-a-requires : goal.label_at-a-requires
label_at-a-requires c = (c.loop-y.invariant.labelled.sound.shaped, (turn-known c.loop-y.invariant c.loop-y-test.true).inside)

pub loop-y-preserved : goal.loop-y-preserved
loop-y-preserved c =
    met-down-as c.loop-y.invariant c.loop-y-test.true c.label_at-a.ensures c.max.ensures
    c.min.ensures

pub returns : goal.returns
returns c = met-done c.loop-y.invariant c.loop-y-test.false
