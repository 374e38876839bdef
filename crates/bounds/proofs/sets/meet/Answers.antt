-- `meet` meets its contract: the answer is the cell, or the type whose set is the overlap.
use mathlib.Core.Path.{◌∙◌}
use Rattle.bounds.proofs.Held.{meet-in-cells, meet_left, meet_right, meet-sought}
use Rattle.bounds.proofs.sets.meet.Goals as goal

pub returns-then-sets-n-eq0 : goal.returns-then-sets-n-eq0
returns-then-sets-n-eq0 c =
    meet-in-cells c.args.n c.args.sets.now c.args.cells.now c.args.a c.args.b c.if-sets-n-eq0.true

pub returns-then-set-sets : goal.returns-then-set-sets
returns-then-set-sets c =
    meet_left c.args.n c.args.sets.now c.args.cells.now c.args.a c.args.b c.if-sets-n-eq0.false c.requires.a_lt_n.0 c.requires.a_lt_n.1 c.requires.seekable.0 c.if-set-sets.true

pub returns-then-set-sets-2 : goal.returns-then-set-sets-2
returns-then-set-sets-2 c =
    meet_right c.args.n c.args.sets.now c.args.cells.now c.args.a c.args.b c.if-sets-n-eq0.false c.requires.a_lt_n.0 c.requires.a_lt_n.1 c.requires.seekable.0 c.if-set-sets-2.true

pub returns : goal.returns
returns c =
    c.unwrap_or.ensures ∙
    meet-sought c.args.n c.args.sets.now c.args.cells.now c.args.a c.args.b c.if-sets-n-eq0.false c.requires.a_lt_n.0 c.requires.a_lt_n.1 c.requires.seekable.0 _ c.requires.a_lt_n.2 c.find_set.ensures
