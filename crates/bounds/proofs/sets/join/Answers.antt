-- `join` meets its contract: the answer is the cell, or the type whose set is the union.
use mathlib.Core.Path.{◌∙◌}
use Rattle.bounds.proofs.Held.{union-member, join-in-cells, join-left, join-right, join-sought}
use Rattle.bounds.proofs.sets.join.Goals as goal

pub returns-then-sets-n-eq0 : goal.returns-then-sets-n-eq0
returns-then-sets-n-eq0 c =
    join-in-cells c.args.n c.args.sets.now c.args.cells.now c.args.a c.args.b c.if-sets-n-eq0.true

pub returns-then-set-sets : goal.returns-then-set-sets
returns-then-set-sets c =
    join-left c.args.n c.args.sets.now c.args.cells.now c.args.a c.args.b c.if-sets-n-eq0.false c.requires.a_lt_n.0 c.requires.a_lt_n.1 c.requires.seekable.0 c.if-set-sets.true

pub returns-then-set-sets-2 : goal.returns-then-set-sets-2
returns-then-set-sets-2 c =
    join-right c.args.n c.args.sets.now c.args.cells.now c.args.a c.args.b c.if-sets-n-eq0.false c.requires.a_lt_n.0 c.requires.a_lt_n.1 c.requires.seekable.0 c.if-set-sets-2.true

pub above_all-requires : goal.above_all-requires
above_all-requires c = union-member _ _ c.if-set-sets.false

pub returns : goal.returns
returns c =
    c.unwrap_or.ensures ∙
    join-sought c.args.n c.args.sets.now c.args.cells.now c.args.a c.args.b c.if-sets-n-eq0.false c.requires.a_lt_n.0 c.requires.a_lt_n.1 c.requires.seekable.0 _ _ c.requires.a_lt_n.2 c.above_all.ensures c.find_set.ensures
