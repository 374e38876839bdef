-- `write` meets its contract: what is gathered is read, then written.
use mathlib.Core.Path.{◌∙◌}
use Rattle.gathering.proofs.Answers.{reads-loaded, write-refused, write-accepted}
use Rattle.gathering.proofs.write.Goals as goal

pub of_graph-requires : goal.of_graph-requires
of_graph-requires c = (reads-loaded c.args.n c.args.part.now c.read.ensures c.in_default.is).sound

pub returns-in-Err : goal.returns-in-Err
returns-in-Err c = write-refused c.read.ensures c.args.out.now _ c.in-Err.is

pub returns : goal.returns
returns c = c.of_graph.ensures ∙ write-accepted c.read.ensures c.args.out.now c.in_default.is
