use Rattle.std.proofs.Common.{ℕ, ◌+◌, set, refl, ap, ◌∙◌, arith, length-set}
use Rattle.layout.specs.Builder.{put_label}
use Rattle.merging.proofs.Filling.{fill_start, fill-room, fill-asks, fill-bound, fill-place, fill-long, fill_step, fill_done, label-known}
use Rattle.merging.proofs.quotient.quotient.Goals as goal

pub overflow_add-at : goal.overflow_add-at
overflow_add-at c = omega (arith, c.requires.fillable.few)

pub overflow_cast-graph : goal.overflow_cast-graph
overflow_cast-graph c = omega (arith, c.requires.fillable.few)

pub bounds-graph-0 : goal.bounds-graph-0
bounds-graph-0 c = omega (arith, c.requires.fillable.fits)

pub overflow_cast-graph-2 : goal.overflow_cast-graph-2
overflow_cast-graph-2 c = omega (arith, c.requires.fillable.few)

pub bounds-graph-1 : goal.bounds-graph-1
bounds-graph-1 c = omega (arith, c.requires.fillable.fits, length-set {A = ℕ} c.args.graph.now 0 c.args.nodes)

pub loop-x-init : goal.loop-x-init
loop-x-init c = (fill_start c.args.graph.now c.requires.fillable c.requires.graph_len_bound.2 c.requires.graph_len_bound.0, refl)

pub offset_bounds-class-x : goal.offset_bounds-class-x
offset_bounds-class-x c = omega (arith, c.loop-x-test.true, c.loop-x.invariant.0.given.few)

pub bounds-class-x : goal.bounds-class-x
bounds-class-x c = omega (arith, c.loop-x-test.true, c.loop-x.invariant.0.given.few)

pub overflow_cast-c : goal.overflow_cast-c
overflow_cast-c c = omega (arith, (c.loop-x.invariant.0.given.classed c.loop-x.x c.loop-x-test.true))

pub overflow_mul-c : goal.overflow_mul-c
overflow_mul-c c = omega (arith, (c.loop-x.invariant.0.given.classed c.loop-x.x c.loop-x-test.true))

pub label_from-requires : goal.label_from-requires
label_from-requires c = (omega (arith, (c.loop-x.invariant.0.given.classed c.loop-x.x c.loop-x-test.true), c.requires.graph_len_bound.1), label-known c.loop-x.invariant.0 c.loop-x-test.true)

pub put_label-requires : goal.put_label-requires
put_label-requires c = omega (arith, fill-room c.loop-x.invariant.0 c.loop-x-test.true)

pub overflow_cast-row_start : goal.overflow_cast-row_start
overflow_cast-row_start c = omega (arith, c.loop-x.invariant.0.given.rising c.loop-x.x c.loop-x-test.true)

pub end_of_row-row_end-requires : goal.end_of_row-row_end-requires
end_of_row-row_end-requires c = let r = c.loop-x.invariant.0.given.rising c.loop-x.x c.loop-x-test.true in (record { x_bound = (omega (arith, c.loop-x.invariant.0.given.few, c.loop-x-test.true), (c.loop-x.invariant.0.given.classed c.loop-x.x c.loop-x-test.true)); x_bound_2 = (r.0, r.1) })

pub overflow_add-at-in-loop-x : goal.overflow_add-at-in-loop-x
overflow_add-at-in-loop-x c = omega (arith, fill-room c.loop-x.invariant.0 c.loop-x-test.true, c.loop-x.invariant.0.long)

pub copy_row-at-requires : goal.copy_row-at-requires
copy_row-at-requires c = rw c.end_of_row-row_end.ensures ((let all = fill-asks c.loop-x.invariant.0 c.loop-x-test.true (c.put_label.ensures ∙ ap (put_label c.loop-x.graph c.loop-x.at) c.label_from.ensures) in (record { start_le_end = all.0; by_index = all.1 })))

pub overflow_cast-graph-in-loop-x : goal.overflow_cast-graph-in-loop-x
overflow_cast-graph-in-loop-x c = omega (arith, c.loop-x.invariant.0.long, fill-bound c.loop-x.invariant.0 c.loop-x-test.true (c.put_label.ensures ∙ ap (put_label c.loop-x.graph c.loop-x.at) c.label_from.ensures) (rw c.end_of_row-row_end.ensures at c.copy_row-at.ensures))

pub overflow_add-graph : goal.overflow_add-graph
overflow_add-graph c = omega (arith, c.loop-x-test.true, c.loop-x.invariant.0.given.few)

pub offset_bounds-graph-x : goal.offset_bounds-graph-x
offset_bounds-graph-x c = omega (arith, c.loop-x-test.true, c.loop-x.invariant.0.given.few)

pub bounds-graph-x : goal.bounds-graph-x
bounds-graph-x c = fill-place c.loop-x.invariant.0 c.loop-x-test.true (c.put_label.ensures ∙ ap (put_label c.loop-x.graph c.loop-x.at) c.label_from.ensures) (rw c.end_of_row-row_end.ensures at c.copy_row-at.ensures)

pub loop-x-smaller : goal.loop-x-smaller
loop-x-smaller c = omega (arith, c.loop-x-test.true)

pub loop-x-preserved : goal.loop-x-preserved
loop-x-preserved c = (fill_step c.loop-x.invariant.0 c.loop-x-test.true (c.put_label.ensures ∙ ap (put_label c.loop-x.graph c.loop-x.at) c.label_from.ensures) (rw c.end_of_row-row_end.ensures at c.copy_row-at.ensures), fill-long c.loop-x.invariant.0 c.loop-x-test.true (c.put_label.ensures ∙ ap (put_label c.loop-x.graph c.loop-x.at) c.label_from.ensures) (rw c.end_of_row-row_end.ensures at c.copy_row-at.ensures) ∙ c.loop-x.invariant.1)

pub shape_of-graph : goal.shape_of-graph
shape_of-graph c = c.loop-x.invariant.1 ∙ length-set {A = ℕ} (set c.args.graph.now 0 c.args.nodes) 1 (c.args.nodes + 2) ∙ length-set {A = ℕ} c.args.graph.now 0 c.args.nodes

pub returns : goal.returns
returns c = fill_done c.loop-x.invariant.0 c.loop-x-test.false
