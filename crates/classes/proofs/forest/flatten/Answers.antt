use native.Mathlib.Numerals.{add-one}
use native.Mathlib.Omega.{arith}
use Rattle.classes.proofs.Roots.{flat_start, flat_up, flat_step}
use Rattle.classes.proofs.forest.flatten.Goals as goal

pub loop-x-init : goal.loop-x-init
loop-x-init c = (flat_start c.requires, omega arith)

pub offset_bounds-parent-x : goal.offset_bounds-parent-x
offset_bounds-parent-x c = omega (arith, c.loop-x-test.true, c.requires.few)

pub bounds-parent-x : goal.bounds-parent-x
bounds-parent-x c = omega (arith, c.loop-x-test.true, c.requires.few)

pub overflow_cast-up : goal.overflow_cast-up
overflow_cast-up c = omega (arith, flat_up c.requires c.loop-x.x c.loop-x-test.true c.loop-x.invariant.0, c.loop-x-test.true, c.requires.few)

pub offset_bounds-parent-up : goal.offset_bounds-parent-up
offset_bounds-parent-up c = omega (arith, flat_up c.requires c.loop-x.x c.loop-x-test.true c.loop-x.invariant.0, c.loop-x-test.true, c.requires.few)

pub bounds-parent-up : goal.bounds-parent-up
bounds-parent-up c = omega (arith, flat_up c.requires c.loop-x.x c.loop-x-test.true c.loop-x.invariant.0, c.loop-x-test.true, c.requires.few)

pub offset_bounds-parent-x-in-loop-x : goal.offset_bounds-parent-x-in-loop-x
offset_bounds-parent-x-in-loop-x c = omega (arith, c.loop-x-test.true, c.requires.few)

pub bounds-parent-x-in-loop-x : goal.bounds-parent-x-in-loop-x
bounds-parent-x-in-loop-x c = omega (arith, c.loop-x-test.true, c.requires.few)

pub loop-x-preserved : goal.loop-x-preserved
loop-x-preserved c = (rw (add-one c.loop-x.x) (flat_step c.requires c.loop-x.x c.loop-x-test.true c.loop-x.invariant.0), omega (arith, c.loop-x-test.true))

pub returns : goal.returns
returns c = let i = c.loop-x.invariant in (record { parent_len = i.0.long; by_index = λ x h. i.0.done x (omega (arith, c.loop-x-test.false)) })
