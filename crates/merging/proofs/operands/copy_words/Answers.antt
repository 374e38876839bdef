use Rattle.std.proofs.Common.{ℕ, ◌+◌, ◌%◌, ap, arith}
use Rattle.layout.specs.Layout.{size, row_from, rows_end}
use Rattle.layout.proofs.Order.{directory, rows_inside, row_low}
use Rattle.merging.proofs.Copying.{part-word, part-long, words_step, words-done}
use Rattle.merging.proofs.operands.copy_words.Goals as goal

pub bounds-graph-0 : goal.bounds-graph-0
bounds-graph-0 c = omega (arith, directory c.requires.recorded.sound.shaped)

pub overflow_cast-nodes : goal.overflow_cast-nodes
overflow_cast-nodes c = omega (arith, c.requires.recorded.small)

pub overflow_add-end : goal.overflow_add-end
overflow_add-end c = omega (arith, c.requires.recorded.small)

pub bounds-graph-nodes : goal.bounds-graph-nodes
bounds-graph-nodes c = omega (arith, directory c.requires.recorded.sound.shaped)

pub overflow_cast-end : goal.overflow_cast-end
overflow_cast-end c = omega (arith, c.type_inv.graph (size c.args.graph.now + 1))

pub bounds-graph-1 : goal.bounds-graph-1
bounds-graph-1 c = omega (arith, directory c.requires.recorded.sound.shaped)

pub slice_bounds-word-items-count : goal.slice_bounds-word-items-count
slice_bounds-word-items-count c = row_low c.requires.recorded.sound.shaped _ (omega arith)

pub slice_bounds-word-items-start : goal.slice_bounds-word-items-start
slice_bounds-word-items-start c = row_low c.requires.recorded.sound.shaped _ (omega arith)

pub loop-word-preserved : goal.loop-word-preserved
loop-word-preserved c =
    let ws = c.args.graph.now in
    let long = part-long ws (row_from ws 0) (rows_end ws) (omega (arith, rows_inside c.requires.recorded.sound.shaped)) in
    let i = c.loop-word.word-index in
    words_step i c.loop-word.invariant (omega (arith, long, c.loop-word-test.true, c.loop-word.invariant.counted, c.requires.at_bound.2))
    (ap (λ (w : ℕ). (w + c.args.shift) % 65536) (part-word ws (row_from ws 0) (rows_end ws) i (omega (arith, long, c.loop-word-test.true))))

pub returns : goal.returns
returns c =
    let ws = c.args.graph.now in
    let low = row_low c.requires.recorded.sound.shaped (size ws) (omega arith) in
    let long = part-long ws (row_from ws 0) (rows_end ws) (omega (arith, rows_inside c.requires.recorded.sound.shaped)) in
    words-done c.loop-word.word-index c.loop-word.invariant (omega (arith, low, long, c.loop-word.auto.word-index-end, c.loop-word-test.false))
