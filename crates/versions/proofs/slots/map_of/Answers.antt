use mathlib.Core.Path.{sym, ◌∙◌}
use native.Mathlib.Omega.{arith}
use Rattle.versions.proofs.SlotLaws.{map-start, map-fits, map-present, map-absent, map-all}
use Rattle.versions.proofs.slots.map_of.Goals as goal

pub loop-v-init : goal.loop-v-init
loop-v-init c = map-start c.requires.0 c.requires.1

pub overflow_mul-bits : goal.overflow_mul-bits
overflow_mul-bits c = omega (arith, map-fits c.loop-v.invariant)

pub length_in-requires : goal.length_in-requires
length_in-requires c = (c.loop-v.invariant.slotted, omega (arith, c.loop-v-test.true, c.loop-v.invariant.low, c.loop-v.invariant.short))

pub overflow_add-bits : goal.overflow_add-bits
overflow_add-bits c = omega (arith, map-fits c.loop-v.invariant)

pub loop-v-preserved-then-length_in-ne0 : goal.loop-v-preserved-then-length_in-ne0
loop-v-preserved-then-length_in-ne0 c = map-present c.loop-v.invariant c.loop-v-test.true (λ e. c.if-length_in-ne0.true (c.length_in.ensures.0 ∙ e))

pub loop-v-preserved : goal.loop-v-preserved
loop-v-preserved c = map-absent c.loop-v.invariant c.loop-v-test.true (sym c.length_in.ensures.0 ∙ c.if-length_in-ne0.false)

pub returns : goal.returns
returns c = map-all c.loop-v.invariant (omega (arith, c.loop-v-test.false))
