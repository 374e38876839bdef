use native.Mathlib.Omega.{arith}
use Rattle.classes.proofs.Roots.{climb-start, climb-done, climb-bound, climb-next, climb-next-bound}
use Rattle.classes.proofs.forest.find.Goals as goal

pub offset_bounds-parent-v : goal.offset_bounds-parent-v
offset_bounds-parent-v c = omega (arith, c.requires.1.few, c.requires.2)

pub bounds-parent-v : goal.bounds-parent-v
bounds-parent-v c = omega (arith, c.requires.1.few, c.requires.2)

pub overflow_cast-up : goal.overflow_cast-up
overflow_cast-up c = omega (arith, c.requires.1.down c.args.x c.requires.2, c.requires.1.few, c.requires.2)

pub loop-up-init : goal.loop-up-init
loop-up-init c = λ nodes forest h. climb-start forest c.args.x h

pub offset_bounds-parent-up : goal.offset_bounds-parent-up
offset_bounds-parent-up c = let s = c.loop-up.invariant c.requires.0 c.requires.1 c.requires.2 in omega (arith, c.loop-up-test.true, s.small, s.roots.forest.few)

pub bounds-parent-up : goal.bounds-parent-up
bounds-parent-up c = let s = c.loop-up.invariant c.requires.0 c.requires.1 c.requires.2 in omega (arith, c.loop-up-test.true, s.small, s.roots.forest.few)

pub offset_bounds-parent-v-in-loop-up : goal.offset_bounds-parent-v-in-loop-up
offset_bounds-parent-v-in-loop-up c = let s = c.loop-up.invariant c.requires.0 c.requires.1 c.requires.2 in omega (arith, s.small, s.roots.forest.few)

pub bounds-parent-v-in-loop-up : goal.bounds-parent-v-in-loop-up
bounds-parent-v-in-loop-up c = let s = c.loop-up.invariant c.requires.0 c.requires.1 c.requires.2 in omega (arith, s.small, s.roots.forest.few)

pub overflow_cast-v : goal.overflow_cast-v
overflow_cast-v c = let s = c.loop-up.invariant c.requires.0 c.requires.1 c.requires.2 in omega (arith, climb-bound s c.loop-up-test.true, s.small, s.roots.forest.few)

pub offset_bounds-parent-v-in-loop-up-2 : goal.offset_bounds-parent-v-in-loop-up-2
offset_bounds-parent-v-in-loop-up-2 c = let s = c.loop-up.invariant c.requires.0 c.requires.1 c.requires.2 in omega (arith, climb-bound s c.loop-up-test.true, s.small, s.roots.forest.few)

pub bounds-parent-v-in-loop-up-2 : goal.bounds-parent-v-in-loop-up-2
bounds-parent-v-in-loop-up-2 c = let s = c.loop-up.invariant c.requires.0 c.requires.1 c.requires.2 in omega (arith, climb-bound s c.loop-up-test.true, s.small, s.roots.forest.few)

pub overflow_cast-up-in-loop-up : goal.overflow_cast-up-in-loop-up
overflow_cast-up-in-loop-up c = let s = c.loop-up.invariant c.requires.0 c.requires.1 c.requires.2 in omega (arith, climb-next-bound s c.loop-up-test.true, s.roots.forest.few)

pub loop-up-smaller : goal.loop-up-smaller
loop-up-smaller c = climb-bound (c.loop-up.invariant c.requires.0 c.requires.1 c.requires.2) c.loop-up-test.true

pub loop-up-preserved : goal.loop-up-preserved
loop-up-preserved c = λ nodes forest h. climb-next (c.loop-up.invariant nodes forest h) c.loop-up-test.true

pub returns : goal.returns
returns c = (record { value = (climb-done (c.loop-up.invariant c.requires.0 c.requires.1 c.requires.2) c.loop-up-test.false).0; by_index = λ nodes forest h. (climb-done (c.loop-up.invariant nodes forest h) c.loop-up-test.false).1 })
