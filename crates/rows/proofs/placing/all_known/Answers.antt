use mathlib.Core.Path.{refl, sym, ◌∙◌}
use borrow.Author.Rules.{rules}
use Rattle.rows.proofs.Known.{stop, next, end}
use Rattle.rows.proofs.placing.all_known.Goals as goal

pub loop-row-init : goal.loop-row-init
loop-row-init c = refl

pub returns-then-not-is_known : goal.returns-then-not-is_known
returns-then-not-is_known c = stop c.args.nodes c.args.rows.now c.loop-row.row-index c.loop-row.invariant (search rules) (sym c.is_known.ensures ∙ c.if-not-is_known.true)

pub loop-row-preserved : goal.loop-row-preserved
loop-row-preserved c = next c.args.nodes c.args.rows.now c.loop-row.row-index c.loop-row.invariant (search rules) (sym c.is_known.ensures ∙ c.if-not-is_known.false)

pub returns : goal.returns
returns c = end c.args.nodes c.args.rows.now c.loop-row.row-index c.loop-row.invariant (search rules)
