-- `mark_place` meets its contract.
use mathlib.Core.Path.{sym}
use native.Mathlib.Omega.{arith}
use lib.ListN.{length-set}
use Rattle.groups.proofs.Marking.{here-within, here-low, here-marked, here-inside, here-known, here-class, met-before, met-inside, met-known, met-marked, marking-bare, marking-first, marking-follows, marking-overtakes}
use Rattle.groups.proofs.mark_place.Goals as goal

pub offset_bounds-owner-k : goal.offset_bounds-owner-k
offset_bounds-owner-k c = omega (arith, here-low (c.requires.owned, c.requires.marking))

pub bounds-owner-k : goal.bounds-owner-k
bounds-owner-k c = here-within (c.requires.owned, c.requires.marking)

pub bounds-marks-k : goal.bounds-marks-k
bounds-marks-k c = here-marked (c.requires.owned, c.requires.marking)

pub returns-then-x : goal.returns-then-x
returns-then-x c = marking-bare (c.requires.owned, c.requires.marking) c.if-x.true

pub overflow_cast-c : goal.overflow_cast-c
overflow_cast-c c = omega (arith, c.requires.owned.0.low _ (here-within (c.requires.owned, c.requires.marking)) c.if-x.false)

pub offset_bounds-parent-x : goal.offset_bounds-parent-x
offset_bounds-parent-x c = omega (arith, c.requires.owned.0.low _ (here-within (c.requires.owned, c.requires.marking)) c.if-x.false)

pub bounds-parent-x : goal.bounds-parent-x
bounds-parent-x c = omega (arith, c.requires.owned.0.low _ (here-within (c.requires.owned, c.requires.marking)) c.if-x.false)

pub overflow_cast-c-2 : goal.overflow_cast-c-2
overflow_cast-c-2 c = omega (arith, here-class (c.requires.owned, c.requires.marking) c.if-x.false)

pub offset_bounds-lead-c : goal.offset_bounds-lead-c
offset_bounds-lead-c c = omega (arith, here-class (c.requires.owned, c.requires.marking) c.if-x.false)

pub bounds-lead-c : goal.bounds-lead-c
bounds-lead-c c = here-class (c.requires.owned, c.requires.marking) c.if-x.false

pub overflow_cast-lead : goal.overflow_cast-lead
overflow_cast-lead c = omega (arith, here-low (c.requires.owned, c.requires.marking))

pub offset_bounds-lead-c-then-j : goal.offset_bounds-lead-c-then-j
offset_bounds-lead-c-then-j c = omega (arith, here-class (c.requires.owned, c.requires.marking) c.if-x.false)

pub bounds-lead-c-then-j : goal.bounds-lead-c-then-j
bounds-lead-c-then-j c = here-class (c.requires.owned, c.requires.marking) c.if-x.false

pub bounds-marks-k-then-j : goal.bounds-marks-k-then-j
bounds-marks-k-then-j c = here-marked (c.requires.owned, c.requires.marking)

pub returns-then-j : goal.returns-then-j
returns-then-j c = marking-first (c.requires.owned, c.requires.marking) c.if-x.false c.if-j.true

pub overflow_cast-met : goal.overflow_cast-met
overflow_cast-met c = omega (arith, met-before (c.requires.owned, c.requires.marking) c.if-x.false c.if-j.false, here-low (c.requires.owned, c.requires.marking))

pub offset_bounds-s-j : goal.offset_bounds-s-j
offset_bounds-s-j c = omega (arith, met-before (c.requires.owned, c.requires.marking) c.if-x.false c.if-j.false, here-low (c.requires.owned, c.requires.marking))

pub bounds-s-j : goal.bounds-s-j
bounds-s-j c = met-inside (c.requires.owned, c.requires.marking) c.if-x.false c.if-j.false

pub offset_bounds-s-k : goal.offset_bounds-s-k
offset_bounds-s-k c = omega (arith, here-low (c.requires.owned, c.requires.marking))

pub bounds-s-k : goal.bounds-s-k
bounds-s-k c = here-inside (c.requires.owned, c.requires.marking)

pub bounds-rank-here : goal.bounds-rank-here
bounds-rank-here c = rw c.feature-here.ensures (here-known (c.requires.owned, c.requires.marking))

pub bounds-rank-met : goal.bounds-rank-met
bounds-rank-met c = omega (arith, c.feature-met.ensures, met-known (c.requires.owned, c.requires.marking) c.if-x.false c.if-j.false, here-known (c.requires.owned, c.requires.marking))

pub overflow_cast-lead-then-rank-here : goal.overflow_cast-lead-then-rank-here
overflow_cast-lead-then-rank-here c = omega (arith, here-low (c.requires.owned, c.requires.marking))

pub offset_bounds-lead-c-then-rank-here : goal.offset_bounds-lead-c-then-rank-here
offset_bounds-lead-c-then-rank-here c = omega (arith, here-class (c.requires.owned, c.requires.marking) c.if-x.false)

pub bounds-lead-c-then-rank-here : goal.bounds-lead-c-then-rank-here
bounds-lead-c-then-rank-here c = here-class (c.requires.owned, c.requires.marking) c.if-x.false

pub overflow_cast-marks : goal.overflow_cast-marks
overflow_cast-marks c = omega (arith, met-before (c.requires.owned, c.requires.marking) c.if-x.false c.if-j.false, here-low (c.requires.owned, c.requires.marking))

pub bounds-marks-j : goal.bounds-marks-j
bounds-marks-j c = met-marked (c.requires.owned, c.requires.marking) c.if-x.false c.if-j.false

pub bounds-marks-k-then-rank-here : goal.bounds-marks-k-then-rank-here
bounds-marks-k-then-rank-here c = simp length-set (here-marked (c.requires.owned, c.requires.marking))

pub shape_of-marks-then-rank-here : goal.shape_of-marks-then-rank-here
shape_of-marks-then-rank-here c = simp length-set

pub returns-then-rank-here : goal.returns-then-rank-here
returns-then-rank-here c = marking-overtakes (c.requires.owned, c.requires.marking) c.if-x.false c.if-j.false (rw (sym c.feature-here.ensures, sym c.feature-met.ensures) c.if-rank-here.true)

pub bounds-marks-k-2 : goal.bounds-marks-k-2
bounds-marks-k-2 c = here-marked (c.requires.owned, c.requires.marking)

pub returns : goal.returns
returns c = marking-follows (c.requires.owned, c.requires.marking) c.if-x.false c.if-j.false (rw (sym c.feature-here.ensures, sym c.feature-met.ensures) c.if-rank-here.false)
