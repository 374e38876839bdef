use mathlib.Core.Path.{refl, ◌∙◌, ap}
use mathlib.Core.List.{List}
use Prim.Native.Nat.{ℕ, ◌+◌, ◌*◌}
use native.Mathlib.Omega.{arith}
use borrow.Author.Rules.{rules}
use lib.ListN.{set, length-set}
use Rattle.layout.proofs.Order.{directory}
use Rattle.rows.proofs.LentRows.{written_next, written-done, written_none}
use Rattle.rows.proofs.lending.lend_nodes.Goals as goal

pub bounds-graph-0 : goal.bounds-graph-0
bounds-graph-0 c = omega (arith, directory c.requires.0.sound.shaped)

pub loop-v-init : goal.loop-v-init
loop-v-init c = (search rules, refl, written_none c.args.graph.now c.args.nodes.now)

pub label_at-label-requires : goal.label_at-label-requires
label_at-label-requires c = (c.requires.0.sound.shaped, c.loop-v-test.true)

pub bounds-nodes-v-in-loop-v : goal.bounds-nodes-v-in-loop-v
bounds-nodes-v-in-loop-v c = omega (arith, length-set c.loop-v.nodes (c.loop-v.v * 3) c.label_at-label.result.kind, c.loop-v.invariant.1, c.requires.1, c.loop-v-test.true)

pub bounds-nodes-v-in-loop-v-2 : goal.bounds-nodes-v-in-loop-v-2
bounds-nodes-v-in-loop-v-2 c = omega (arith, length-set (set c.loop-v.nodes (c.loop-v.v * 3) c.label_at-label.result.kind) (c.loop-v.v * 3 + 1) c.label_at-label.result.lowest, length-set c.loop-v.nodes (c.loop-v.v * 3) c.label_at-label.result.kind, c.loop-v.invariant.1, c.requires.1, c.loop-v-test.true)

pub loop-v-preserved : goal.loop-v-preserved
loop-v-preserved c = (search rules, search rules, ap (λ (l : List ℕ). set (set (set l (c.loop-v.v * 3) c.label_at-label.result.kind) (c.loop-v.v * 3 + 1) c.label_at-label.result.lowest) (c.loop-v.v * 3 + 2) c.label_at-label.result.highest) c.loop-v.invariant.2 ∙ written_next c.args.graph.now c.args.nodes.now c.loop-v.v c.label_at-label.ensures)

pub returns : goal.returns
returns c = c.loop-v.invariant.2 ∙ written-done c.args.graph.now c.args.nodes.now c.loop-v.v (search rules) (search rules)
