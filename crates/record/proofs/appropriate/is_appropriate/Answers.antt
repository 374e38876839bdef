use mathlib.Core.Path.{sym, ◌∙◌}
use native.Mathlib.Omega.{arith}
use Rattle.record.proofs.Allowed.{rows_none, rows_more, rows_all, rows_out}
use Rattle.record.proofs.appropriate.is_appropriate.Goals as goal

pub bounds-graph-0 : goal.bounds-graph-0
bounds-graph-0 c = let shaped = c.requires.typed.sound.shaped in omega (arith, (shaped.node 0 shaped.nonempty).listed)

pub overflow_cast-nodes : goal.overflow_cast-nodes
overflow_cast-nodes c = omega (arith, c.type_inv.graph 0)

pub loop-v-init : goal.loop-v-init
loop-v-init c = rows_none

pub is_row_appropriate-requires : goal.is_row_appropriate-requires
is_row_appropriate-requires c = (record { listed = c.requires.listed; typed = (c.requires.typed, c.loop-v-test.true) })

pub returns-then-not-is_row_appropriate : goal.returns-then-not-is_row_appropriate
returns-then-not-is_row_appropriate c = rows_out c.args.table.now c.args.list.now c.args.graph.now c.loop-v.v c.loop-v-test.true (sym c.is_row_appropriate.ensures ∙ c.if-not-is_row_appropriate.true)

pub loop-v-smaller : goal.loop-v-smaller
loop-v-smaller c = omega arith

pub loop-v-preserved : goal.loop-v-preserved
loop-v-preserved c = rows_more c.loop-v.invariant c.loop-v-test.true (sym c.is_row_appropriate.ensures ∙ c.if-not-is_row_appropriate.false)

pub returns : goal.returns
returns c = rows_all c.loop-v.invariant c.loop-v-test.false
