-- `enlist` meets its contract: a marked pair has a number, and any other pair gets the next one.
use Rattle.product.proofs.Marking.{enlist-old, enlist-new}
use native.Mathlib.Omega.{arith}
use Rattle.product.proofs.enlist.Goals as goal

pub returns-then-mark : goal.returns-then-mark
returns-then-mark c = enlist-old _ _ _ _ c.requires.marked c.requires.pair_bound c.if-mark.true

pub returns-then-count-gt254 : goal.returns-then-count-gt254
returns-then-count-gt254 c = (omega (arith, c.requires.marked.few, c.if-count-gt254.true), c.if-mark.false)

pub returns : goal.returns
returns c = enlist-new _ _ _ _ c.requires.marked c.requires.pair_bound c.if-mark.false (omega (arith, c.if-count-gt254.false))
