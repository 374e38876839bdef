use Rattle.std.proofs.Common.{sym, ap, ◌∙◌, arith}
use Rattle.layout.specs.Layout.{label_at}
use Rattle.merging.specs.Clash.{contradicts}
use Rattle.merging.proofs.Lowering.{any-start, any_next, any_here, any-end}
use Rattle.merging.proofs.labels.has_clash.Goals as goal

pub bounds-graph-0 : goal.bounds-graph-0
bounds-graph-0 c = let p = c.requires in omega (arith, (p.node 0 p.nonempty).listed)

pub overflow_cast-nodes : goal.overflow_cast-nodes
overflow_cast-nodes c = omega (arith, c.requires.few)

pub loop-x-init : goal.loop-x-init
loop-x-init c = (any-start (λ y. contradicts (label_at c.args.graph.now y)) _, omega arith)

pub label_at-requires : goal.label_at-requires
label_at-requires c = (c.requires, c.loop-x-test.true)

pub returns-then-is_contradiction : goal.returns-then-is_contradiction
returns-then-is_contradiction c = sym (c.loop-x.invariant.0 ∙ any_here (λ y. contradicts (label_at c.args.graph.now y)) c.loop-x.x _ c.loop-x-test.true (ap contradicts (sym c.label_at.ensures) ∙ sym c.is_contradiction.ensures ∙ c.if-is_contradiction.true))

pub loop-x-smaller : goal.loop-x-smaller
loop-x-smaller c = omega (arith, c.loop-x-test.true)

pub loop-x-preserved : goal.loop-x-preserved
loop-x-preserved c = (c.loop-x.invariant.0 ∙ any_next (λ y. contradicts (label_at c.args.graph.now y)) c.loop-x.x _ c.loop-x-test.true (ap contradicts (sym c.label_at.ensures) ∙ sym c.is_contradiction.ensures ∙ c.if-is_contradiction.false), omega (arith, c.loop-x-test.true))

pub returns : goal.returns
returns c = sym (c.loop-x.invariant.0 ∙ any-end (λ y. contradicts (label_at c.args.graph.now y)) c.loop-x.x _ (omega (arith, c.loop-x.invariant.1, c.loop-x-test.false)))
