use Rattle.std.proofs.Common.{◌+◌, arith}
use Rattle.layout.proofs.Order.{directory, row_low}
use Rattle.merging.proofs.Words.{row_near, row-near-end}
use Rattle.merging.proofs.Copying.{spans-start, spans_step, spans-done}
use Rattle.merging.proofs.operands.copy_spans.Goals as goal

pub bounds-graph-0 : goal.bounds-graph-0
bounds-graph-0 c = omega (arith, directory c.requires.recorded.sound.shaped)

pub overflow_cast-nodes : goal.overflow_cast-nodes
overflow_cast-nodes c = omega (arith, c.requires.recorded.small)

pub bounds-graph-1 : goal.bounds-graph-1
bounds-graph-1 c = omega (arith, directory c.requires.recorded.sound.shaped)

pub overflow_cast-first : goal.overflow_cast-first
overflow_cast-first c = omega (arith, c.type_inv.graph 1)

pub loop-v-init : goal.loop-v-init
loop-v-init c = (spans-start _ _ _ _ _, omega arith)

pub overflow_add-row : goal.overflow_add-row
overflow_add-row c = omega (arith, c.loop-v-test.true, c.requires.recorded.small)

pub offset_bounds-graph-v : goal.offset_bounds-graph-v
offset_bounds-graph-v c = omega (arith, c.loop-v-test.true, c.requires.recorded.small)

pub bounds-graph-v : goal.bounds-graph-v
bounds-graph-v c = omega (arith, directory c.requires.recorded.sound.shaped, c.loop-v-test.true)

pub overflow_cast-row : goal.overflow_cast-row
overflow_cast-row c = omega (arith, c.type_inv.graph (c.loop-v.v + 1))

pub overflow_sub-row : goal.overflow_sub-row
overflow_sub-row c = row_low c.requires.recorded.sound.shaped c.loop-v.v (omega (arith, c.loop-v-test.true))

pub overflow_add-row-in-loop-v : goal.overflow_add-row-in-loop-v
overflow_add-row-in-loop-v c = omega (arith, row_near c.requires.recorded c.loop-v.v c.loop-v-test.true, c.requires.at_bound.0)

pub overflow_add-next : goal.overflow_add-next
overflow_add-next c = omega (arith, c.loop-v-test.true, c.requires.recorded.small)

pub offset_bounds-graph-v-in-loop-v : goal.offset_bounds-graph-v-in-loop-v
offset_bounds-graph-v-in-loop-v c = omega (arith, c.loop-v-test.true, c.requires.recorded.small)

pub bounds-graph-v-in-loop-v : goal.bounds-graph-v-in-loop-v
bounds-graph-v-in-loop-v c = omega (arith, directory c.requires.recorded.sound.shaped, c.loop-v-test.true)

pub overflow_cast-next : goal.overflow_cast-next
overflow_cast-next c = omega (arith, c.type_inv.graph (c.loop-v.v + 2))

pub overflow_sub-next : goal.overflow_sub-next
overflow_sub-next c = (row-near-end c.requires.recorded c.loop-v.v c.loop-v-test.true).0

pub overflow_add-next-in-loop-v : goal.overflow_add-next-in-loop-v
overflow_add-next-in-loop-v c = omega (arith, (row-near-end c.requires.recorded c.loop-v.v c.loop-v-test.true).1, c.requires.at_bound.0)

pub overflow_cast-spans : goal.overflow_cast-spans
overflow_cast-spans c = omega (arith, row_near c.requires.recorded c.loop-v.v c.loop-v-test.true, c.requires.at_bound.0)

pub overflow_cast-spans-in-loop-v : goal.overflow_cast-spans-in-loop-v
overflow_cast-spans-in-loop-v c = omega (arith, (row-near-end c.requires.recorded c.loop-v.v c.loop-v-test.true).1, c.requires.at_bound.0)

pub loop-v-preserved : goal.loop-v-preserved
loop-v-preserved c = (spans_step c.loop-v.invariant.0 (omega (arith, c.loop-v-test.true, c.requires.recorded.small, c.requires.at_bound.1, c.requires.at_bound.2)) (omega (arith, c.loop-v-test.true, c.requires.recorded.small, c.requires.at_bound.1, c.requires.at_bound.3)), omega (arith, c.loop-v-test.true))

pub returns : goal.returns
returns c = spans-done c.loop-v.invariant.0 c.loop-v.invariant.1 c.loop-v-test.false
