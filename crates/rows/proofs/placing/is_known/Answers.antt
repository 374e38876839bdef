-- `placing::is_known` meets its contract, test by test.
use mathlib.Core.Path.{sym, ◌∙◌}
use native.Mathlib.Omega.{arith}
use borrow.Author.Tests.{le-ltb, ltb-true, ltb-false}
use Rattle.rows.proofs.Known.{far-feature, far-parent, near}
use Rattle.rows.proofs.placing.is_known.Goals.{then-row-lt64, else-row-lt64}
use Rattle.rows.proofs.placing.is_known.Goals as goal

pub returns-then-row-nodes : goal.returns-then-row-nodes
returns-then-row-nodes c = elim c.if-row-lt64.branch [
  | then-row-lt64 w ↦ near c.args.nodes c.args.row (omega (arith, w.if-row-lt64.true)) (ltb-true c.args.row.parent c.args.nodes (sym w.value-is ∙ c.if-row-nodes.true))
  | else-row-lt64 w ↦ absurd (omega (arith, w.if-row-lt64.false, ltb-true c.args.row.feature 64 (sym w.value-is ∙ c.if-row-nodes.true)))
]

pub returns-else-row-nodes : goal.returns-else-row-nodes
returns-else-row-nodes c = elim c.if-row-lt64.branch [
  | then-row-lt64 w ↦
      c.if-row-nodes.false ∙ far-parent c.args.nodes c.args.row (omega (arith, w.if-row-lt64.true)) (ltb-false c.args.row.parent c.args.nodes (sym w.value-is ∙ c.if-row-nodes.false))
  | else-row-lt64 w ↦ w.value-is ∙ le-ltb c.args.row.feature 64 w.if-row-lt64.false ∙ far-feature c.args.nodes c.args.row (omega (arith, w.if-row-lt64.false))
]
