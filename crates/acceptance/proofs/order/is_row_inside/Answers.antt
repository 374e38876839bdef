-- `is_row_inside` meets its contract, return by return.
use mathlib.Core.Path.{ap}
use mathlib.Core.Bool.{not}
use mathlib.Core.Path.{◌∙◌}
use borrow.Author.Tests.{eq-eqb, ne_eqb}
use Rattle.lattice.proofs.Every.{third-decides, refuted, held}
use Rattle.acceptance.proofs.order.is_row_inside.Goals as goal

pub returns-then-row-all : goal.returns-then-row-all
returns-then-row-all c = simp (ne_eqb _ _ c.if-row-all.true)

pub returns-then-not-has_bit : goal.returns-then-not-has_bit
returns-then-not-has_bit c = simp (eq-eqb _ _ c.if-row-all.false, refuted c.has_bit.ensures (ap not c.if-not-has_bit.true))

pub returns : goal.returns
returns c =
    c.has_bit-2.ensures ∙
    third-decides (eq-eqb _ _ c.if-row-all.false) (held c.has_bit.ensures (ap not c.if-not-has_bit.false))
