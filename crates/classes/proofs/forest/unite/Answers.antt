-- `unite` meets its contract: the greater root gets the lesser for its parent.
use native.Mathlib.Omega.{arith}
use Rattle.classes.proofs.Roots.{unite-bounds, unite-below, unite-above, unite-none}
use Rattle.classes.proofs.forest.unite.Goals as goal

pub find-x-requires : goal.find-x-requires
find-x-requires c = (c.requires.0, c.requires.1, c.requires.2)

pub find-y-requires : goal.find-y-requires
find-y-requires c = (c.requires.0, (c.find-x.ensures.by_index c.requires.0 c.requires.1 c.requires.2).forest, c.requires.3)

pub overflow_cast-parent : goal.overflow_cast-parent
overflow_cast-parent c = let p = c.requires in omega (arith, unite-bounds p.1 p.2 p.3 c.find-x.ensures.value c.find-x.ensures.by_index c.find-y.ensures.value c.find-y.ensures.by_index)

pub offset_bounds-parent-y : goal.offset_bounds-parent-y
offset_bounds-parent-y c = let p = c.requires in omega (arith, unite-bounds p.1 p.2 p.3 c.find-x.ensures.value c.find-x.ensures.by_index c.find-y.ensures.value c.find-y.ensures.by_index)

pub bounds-parent-y : goal.bounds-parent-y
bounds-parent-y c = let p = c.requires in omega (arith, unite-bounds p.1 p.2 p.3 c.find-x.ensures.value c.find-x.ensures.by_index c.find-y.ensures.value c.find-y.ensures.by_index)

pub overflow_cast-parent-then-y-x : goal.overflow_cast-parent-then-y-x
overflow_cast-parent-then-y-x c = let p = c.requires in omega (arith, unite-bounds p.1 p.2 p.3 c.find-x.ensures.value c.find-x.ensures.by_index c.find-y.ensures.value c.find-y.ensures.by_index)

pub offset_bounds-parent-x : goal.offset_bounds-parent-x
offset_bounds-parent-x c = let p = c.requires in omega (arith, unite-bounds p.1 p.2 p.3 c.find-x.ensures.value c.find-x.ensures.by_index c.find-y.ensures.value c.find-y.ensures.by_index)

pub bounds-parent-x : goal.bounds-parent-x
bounds-parent-x c = let p = c.requires in omega (arith, unite-bounds p.1 p.2 p.3 c.find-x.ensures.value c.find-x.ensures.by_index c.find-y.ensures.value c.find-y.ensures.by_index)

pub returns-then-x-y : goal.returns-then-x-y
returns-then-x-y c = λ nodes forest a_small b-small. unite-below forest a_small b-small c.find-x.ensures.value c.find-x.ensures.by_index c.find-y.ensures.value c.find-y.ensures.by_index c.if-x-y.true

pub returns-then-y-x : goal.returns-then-y-x
returns-then-y-x c = λ nodes forest a_small b-small. unite-above forest a_small b-small c.find-x.ensures.value c.find-x.ensures.by_index c.find-y.ensures.value c.find-y.ensures.by_index c.if-y-x.true

pub returns-else-y-x : goal.returns-else-y-x
returns-else-y-x c = λ nodes forest a_small b-small. unite-none forest a_small b-small c.find-x.ensures.value c.find-x.ensures.by_index c.find-y.ensures.value c.find-y.ensures.by_index c.if-x-y.false c.if-y-x.false
