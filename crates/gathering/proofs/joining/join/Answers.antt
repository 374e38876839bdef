-- `joining::join` meets its contract: the program is read; it is written where nothing is gathered, else joined with what is gathered.
use mathlib.Core.Path.{◌∙◌}
use Rattle.gathering.proofs.Answers.{reads-loaded}
use Rattle.gathering.proofs.Joins.{joined-refused, joined-none, joined-some}
use Rattle.gathering.proofs.joining.join.Goals as goal

pub of_graph-requires : goal.of_graph-requires
of_graph-requires c = (reads-loaded c.args.n c.args.bytes.now c.read.ensures c.in_default.is).sound

pub returns-then-gathered-eq0 : goal.returns-then-gathered-eq0
returns-then-gathered-eq0 c = λ t opens.
    c.of_graph.ensures ∙
    joined-none c.args.n t c.args.bytes.now c.args.gathered c.args.room.now c.read.ensures c.if-gathered-eq0.true c.in_default.is

pub join_graph-requires : goal.join_graph-requires
join_graph-requires c = (c.requires, reads-loaded c.args.n c.args.bytes.now c.read.ensures c.in_default.is)

pub returns-in-Err : goal.returns-in-Err
returns-in-Err c = λ t opens.
    joined-refused c.args.n t c.args.bytes.now c.args.gathered c.args.room.now c.read.ensures _ c.in-Err.is

pub returns : goal.returns
returns c = λ t opens.
    c.join_graph.ensures t opens ∙
    joined-some c.args.n t c.args.bytes.now c.args.gathered c.args.room.now c.read.ensures c.if-gathered-eq0.false c.in_default.is
