-- `is_below` meets its contract: the three tests decide the order by grades.
use borrow.Author.Tests.{lt-leb, le-leb}
use Rattle.lattice.proofs.Every.{third-decides}
use Rattle.house.specs.House.{under}
use Rattle.house.proofs.is_below.Goals as goal

pub returns-then-b-a : goal.returns-then-b-a
unfolding under
returns-then-b-a c = simp (lt-leb _ _ c.if-b-a.true)

pub returns-then-b-a-2 : goal.returns-then-b-a-2
unfolding under
returns-then-b-a-2 c = simp (le-leb _ _ c.if-b-a.false, lt-leb _ _ c.if-b-a-2.true)

pub returns : goal.returns
unfolding under
returns c = third-decides (le-leb _ _ c.if-b-a.false) (le-leb _ _ c.if-b-a-2.false)
