-- `rewrite_in` meets its contract: a record is read, and its graph is written where the record is accepted.
use mathlib.Core.Path.{◌∙◌}
use Rattle.pairs.proofs.Readings.{told-accepted}
use Rattle.engine.proofs.Written.{rewritten-refused, rewritten-accepted}
use Rattle.engine.proofs.rewriting.rewrite_in.Goals as goal

pub of_graph-requires : goal.of_graph-requires
of_graph-requires c = (told-accepted c.read_one.ensures c.in_default.is).holds.sound

pub returns-in-Err : goal.returns-in-Err
returns-in-Err c = rewritten-refused c.read_one.ensures c.args.out.now _ c.in-Err.is

pub returns : goal.returns
returns c = c.of_graph.ensures ∙ rewritten-accepted c.read_one.ensures c.args.out.now c.in_default.is
