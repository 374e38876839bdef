-- `joining::join_graph` meets its contract: what is gathered is read, then joined with the program.
use mathlib.Core.Path.{sym, ◌∙◌}
use lib.Seq.{length-take-le}
use Rattle.gathering.proofs.Answers.{reads-loaded, join-refused, join-accepted}
use Rattle.gathering.proofs.joining.join_graph.Goals as goal

pub slice_bounds-read-end-2 : goal.slice_bounds-read-end-2
slice_bounds-read-end-2 c = sym (length-take-le c.end_of-end.result c.args.room.now c.end_of-end.ensures.high)

pub of_graphs-requires : goal.of_graphs-requires
of_graphs-requires c = (c.requires.0, (c.requires.1, reads-loaded c.args.n _ c.read.ensures c.in_default.is))

pub returns-in-Err : goal.returns-in-Err
returns-in-Err c = λ t opens. join-refused c.end_of-end.ensures c.read.ensures _ _ _ c.in-Err.is

pub returns : goal.returns
returns c = λ t opens. c.of_graphs.ensures t opens ∙ join-accepted c.end_of-end.ensures c.read.ensures _ _ c.in_default.is
