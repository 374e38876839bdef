-- `rows::feature_at` meets its contract.
use mathlib.Core.Path.{sym, ◌∙◌}
use Rattle.classes.proofs.Merging.{feature-in, feature-out}
use Rattle.classes.proofs.rows.feature_at.Goals as goal

pub returns-then-k-end : goal.returns-then-k-end
returns-then-k-end c = c.feature.ensures ∙ sym (feature-in c.args.pool.now c.args.k c.args.end c.if-k-end.true)

pub returns : goal.returns
returns c = sym (feature-out c.args.pool.now c.args.k c.args.end c.if-k-end.false)
