use mathlib.Core.Path.{ap, subst}
use native.Mathlib.Omega.{arith}
use borrow.Author.Rules.{rules}
use Rattle.lattice.specs.Label.{Label}
use Rattle.lattice.specs.Labels.{Known}
use Rattle.rows.proofs.FilledRows.{stated-none, stated-more, stated-stop, stated-end}
use Rattle.rows.proofs.filling.are_stated.Goals as goal

pub loop-v-init : goal.loop-v-init
loop-v-init c = (search rules, search rules, stated-none c.args.nodes.now)

pub returns-then-label-gt127 : goal.returns-then-label-gt127
returns-then-label-gt127 c = stated-stop c.args.nodes.now c.loop-v.v (search rules) (omega (arith, c.if-label-gt127.true, ap (λ (l : Label). l.type) c.label_in-label.ensures))

pub loop-v-preserved : goal.loop-v-preserved
loop-v-preserved c = (search rules, search rules, stated-more c.args.nodes.now c.loop-v.v c.loop-v.invariant.2 (subst (Known 128) c.label_in-label.ensures (record { type = search rules; lowest = search rules; highest = search rules })))

pub returns : goal.returns
returns c = stated-end _ _ c.loop-v.invariant.2 (search rules)
