use mathlib.Core.Path.{◌∙◌, ap}
use native.Mathlib.Omega.{arith}
use borrow.Author.Rules.{rules}
use Rattle.layout.specs.Builder.{put_label}
use Rattle.rows.proofs.FilledRows.{turn-start, turn-none, turn-some, turn-done, turn-room, turn-target}
use Rattle.rows.proofs.filling.fill_row.Goals.{then-cell-ne0, else-cell-ne0}
use Rattle.rows.proofs.filling.fill_row.Goals as goal

pub label_in-label-requires : goal.label_in-label-requires
label_in-label-requires c = omega (arith, c.requires.fillable.1)

pub put_label-requires : goal.put_label-requires
put_label-requires c = omega (arith, c.requires.v_bound, c.requires.graph_len)

pub overflow_add-next : goal.overflow_add-next
overflow_add-next c = omega (arith, c.requires.v_bound)

pub loop-f-init : goal.loop-f-init
loop-f-init c = turn-start c.args.graph.now c.requires.fillable.0 c.requires.fillable.1 c.requires.v_bound c.requires.graph_len (c.put_label.ensures ∙ ap (put_label c.args.graph.now c.args.at) c.label_in-label.ensures)

pub overflow_mul-cell : goal.overflow_mul-cell
overflow_mul-cell c = omega (arith, c.loop-f.invariant.inside, c.loop-f.invariant.fillable.few, c.loop-f.invariant.fillable.long, c.loop-f-test.true)

pub overflow_add-cell : goal.overflow_add-cell
overflow_add-cell c = omega (arith, c.loop-f.invariant.inside, c.loop-f.invariant.fillable.few, c.loop-f.invariant.fillable.long, c.loop-f-test.true)

pub offset_bounds-targets-v : goal.offset_bounds-targets-v
offset_bounds-targets-v c = omega (arith, c.loop-f.invariant.inside, c.loop-f.invariant.fillable.few, c.loop-f.invariant.fillable.long, c.loop-f-test.true)

pub bounds-targets-v : goal.bounds-targets-v
bounds-targets-v c = omega (arith, c.loop-f.invariant.inside, c.loop-f.invariant.fillable.few, c.loop-f.invariant.fillable.long, c.loop-f-test.true)

pub link-requires : goal.link-requires
link-requires c = (search rules, turn-target c.loop-f.invariant c.loop-f-test.true)

pub offset_bounds-graph-next : goal.offset_bounds-graph-next
offset_bounds-graph-next c = omega (arith, turn-room c.loop-f.invariant c.loop-f-test.true (search rules))

pub bounds-graph-next : goal.bounds-graph-next
bounds-graph-next c = omega (arith, turn-room c.loop-f.invariant c.loop-f-test.true (search rules), c.loop-f.invariant.long)

pub overflow_add-next-then-cell-ne0 : goal.overflow_add-next-then-cell-ne0
overflow_add-next-then-cell-ne0 c = omega (arith, turn-room c.loop-f.invariant c.loop-f-test.true (search rules))

pub loop-f-preserved : goal.loop-f-preserved
loop-f-preserved c = elim c.if-cell-ne0.branch [
  | then-cell-ne0 w ↦ rw (w.graph-is, w.next-is) (turn-some c.loop-f.invariant c.loop-f-test.true (search rules) w.link.ensures)
  | else-cell-ne0 w ↦ rw (w.graph-is, w.next-is) (turn-none c.loop-f.invariant c.loop-f-test.true (search rules))
]

pub returns : goal.returns
returns c = turn-done c.args.graph.now (c.put_label.ensures ∙ ap (put_label c.args.graph.now c.args.at) c.label_in-label.ensures) c.loop-f.invariant c.loop-f-test.false
