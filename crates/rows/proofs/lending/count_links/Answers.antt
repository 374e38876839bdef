-- `lending::count_links` meets its contract: from the beginning of the first row on, the words are the headers and the links.
use native.Mathlib.Omega.{arith}
use Prim.Native.Nat.{◌+◌}
use Rattle.layout.specs.Layout.{size}
use Rattle.layout.proofs.Order.{directory}
use Rattle.rows.proofs.LentRows.{all_end}
use Rattle.rows.proofs.lending.count_links.Goals as goal

pub bounds-graph-0 : goal.bounds-graph-0
bounds-graph-0 c = omega (arith, directory c.requires.sound.shaped)

pub bounds-graph-nodes : goal.bounds-graph-nodes
bounds-graph-nodes c = directory c.requires.sound.shaped

pub overflow_cast-rows : goal.overflow_cast-rows
overflow_cast-rows c = omega (arith, c.type_inv.graph (size c.args.graph.now + 1))

pub bounds-graph-1 : goal.bounds-graph-1
bounds-graph-1 c = omega (arith, directory c.requires.sound.shaped)

pub overflow_cast-rows-2 : goal.overflow_cast-rows-2
overflow_cast-rows-2 c = omega (arith, c.type_inv.graph 1)

pub overflow_sub-rows : goal.overflow_sub-rows
overflow_sub-rows c = omega (arith, all_end c.requires)

pub overflow_sub-result : goal.overflow_sub-result
overflow_sub-result c = omega (arith, all_end c.requires)

pub returns : goal.returns
returns c = omega (arith, all_end c.requires)
