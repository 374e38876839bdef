-- `length` meets its contract, by the count of nodes.
use native.Mathlib.Omega.{arith}
use Rattle.listed.proofs.Places.{long-one, long-two, long-three}
use Rattle.listing.proofs.numbers.Numbers.length.Goals as goal

pub returns-then-self-eq1 : goal.returns-then-self-eq1
returns-then-self-eq1 c = long-one _ _ _ _ _ _ _ _ c.width-one.ensures.0 c.if-self-eq1.true

pub returns-then-self-eq2 : goal.returns-then-self-eq2
returns-then-self-eq2 c = long-two _ _ _ _ _ _ _ _ _ c.width-one.ensures.0 c.width.ensures.0 c.if-self-eq2.true

pub returns : goal.returns
returns c =
    long-three _ _ _ _ _ _ _ _ _ _ c.width-one.ensures.0 c.width.ensures.0 c.width-2.ensures.0
    (omega (arith, c.requires, c.if-self-eq1.false, c.if-self-eq2.false))
