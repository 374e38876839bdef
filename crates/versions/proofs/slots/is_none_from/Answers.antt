use mathlib.Core.Path.{◌≡◌}
use native.Mathlib.Omega.{arith}
use Prim.Native.Nat.{ℕ}
use Rattle.versions.proofs.SlotLaws.{seeking-start, seeking-next}
use Rattle.versions.proofs.slots.is_none_from.Goals as goal

pub loop-v-init : goal.loop-v-init
loop-v-init c = seeking-start c.args.slots.now c.args.version c.requires.0 c.requires.1

pub length_in-requires : goal.length_in-requires
length_in-requires c = (c.loop-v.invariant.slotted, c.loop-v-test.true)

pub returns-then-length_in-ne0 : goal.returns-then-length_in-ne0
returns-then-length_in-ne0 c = λ e. let z : ◌≡◌ {A = ℕ} 0 1 = cc in absurd (omega arith)

pub loop-v-preserved : goal.loop-v-preserved
loop-v-preserved c = seeking-next c.loop-v.invariant c.loop-v-test.true (omega (arith, c.if-length_in-ne0.false, c.length_in.ensures.0))

pub returns : goal.returns
returns c = λ e i low high. c.loop-v.invariant.nothing i low (omega (arith, high, c.loop-v-test.false))
