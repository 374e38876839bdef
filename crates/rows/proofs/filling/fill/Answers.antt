use native.Mathlib.Omega.{arith}
use Rattle.rows.proofs.FilledRows.{filling-start, filling-room, next_low, filling_step, filling-done}
use Rattle.rows.proofs.filling.fill.Goals as goal

pub overflow_add-at : goal.overflow_add-at
overflow_add-at c = omega (arith, c.requires.fillable.few)

pub overflow_cast-graph : goal.overflow_cast-graph
overflow_cast-graph c = omega (arith, c.requires.fillable.few)

pub bounds-graph-1 : goal.bounds-graph-1
bounds-graph-1 c = omega (arith, c.requires.graph_len)

pub loop-v-init : goal.loop-v-init
loop-v-init c = filling-start c.args.graph.now c.requires.fillable c.requires.graph_len

pub fill_row-at-requires : goal.fill_row-at-requires
fill_row-at-requires c = record {
  fillable = (c.loop-v.invariant.fillable, c.loop-v-test.true);
  v_bound = filling-room c.loop-v.invariant c.loop-v-test.true;
  graph_len = c.loop-v.invariant.long;
}

pub overflow_cast-graph-in-loop-v : goal.overflow_cast-graph-in-loop-v
overflow_cast-graph-in-loop-v c = omega (arith, next_low c.loop-v.invariant c.loop-v-test.true c.fill_row-at.ensures)

pub overflow_add-graph : goal.overflow_add-graph
overflow_add-graph c = omega (arith, c.loop-v.invariant.fillable.few, c.loop-v-test.true)

pub offset_bounds-graph-v : goal.offset_bounds-graph-v
offset_bounds-graph-v c = omega (arith, c.loop-v.invariant.fillable.few, c.loop-v-test.true)

pub bounds-graph-v : goal.bounds-graph-v
bounds-graph-v c = omega (arith, c.loop-v.invariant.fillable.few, c.loop-v-test.true, c.fill_row-at.ensures.long)

pub loop-v-smaller : goal.loop-v-smaller
loop-v-smaller c = omega (arith, c.loop-v-test.true)

pub loop-v-preserved : goal.loop-v-preserved
loop-v-preserved c = filling_step c.loop-v.invariant c.loop-v-test.true c.fill_row-at.ensures

pub overflow_cast-graph-2 : goal.overflow_cast-graph-2
overflow_cast-graph-2 c = omega (arith, c.loop-v.invariant.fillable.few)

pub bounds-graph-0 : goal.bounds-graph-0
bounds-graph-0 c = omega (arith, c.loop-v.invariant.long)

pub returns : goal.returns
returns c = filling-done c.loop-v.invariant c.loop-v-test.false
