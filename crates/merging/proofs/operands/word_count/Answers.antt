-- `operands::word_count` meets its contract.
use Rattle.std.proofs.Common.{◌+◌, arith}
use Rattle.layout.specs.Layout.{size}
use Rattle.layout.proofs.Order.{directory, row_low}
use Rattle.merging.proofs.operands.word_count.Goals as goal

pub bounds-graph-0 : goal.bounds-graph-0
bounds-graph-0 c = omega (arith, directory c.requires.sound.shaped)

pub bounds-graph-nodes : goal.bounds-graph-nodes
bounds-graph-nodes c = omega (arith, directory c.requires.sound.shaped)

pub overflow_cast-result : goal.overflow_cast-result
overflow_cast-result c = omega (arith, c.type_inv.graph (size c.args.graph.now + 1))

pub bounds-graph-1 : goal.bounds-graph-1
bounds-graph-1 c = omega (arith, directory c.requires.sound.shaped)

pub overflow_cast-result-2 : goal.overflow_cast-result-2
overflow_cast-result-2 c = omega (arith, c.type_inv.graph 1)

pub overflow_sub-result : goal.overflow_sub-result
overflow_sub-result c = row_low c.requires.sound.shaped (size c.args.graph.now) (omega arith)
