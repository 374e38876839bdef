-- `placing::place` meets its contract, for a place that is taken and for one that is free.
use mathlib.Core.Path.{refl, sym}
use borrow.Author.Rules.{rules}
use borrow.Author.Tests.{eq-eqb, ne_eqb}
use lib.ListN.{get_or}
use Rattle.rows.specs.Placing.{slot}
use Rattle.rows.proofs.placing.place.Goals as goal

pub returns-then-targets-at-ne0 : goal.returns-then-targets-at-ne0
returns-then-targets-at-ne0 c = (sym (ne_eqb (get_or c.args.targets.now (slot c.args.row) 0) 0 (search rules)), refl, search rules)

pub returns : goal.returns
returns c = (sym (eq-eqb (get_or c.args.targets.now (slot c.args.row) 0) 0 (search rules)), refl, search rules)
