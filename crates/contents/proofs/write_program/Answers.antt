-- A program is read and written.
use Rattle.pairs.proofs.Readings.{told-accepted}
use Rattle.gathering.proofs.Answers.{reads-loaded}
use Rattle.contents.proofs.Programs.{program-refused, program-written}
use Rattle.contents.proofs.write_program.Goals as goal

pub of_graph-requires : goal.of_graph-requires
of_graph-requires c = (reads-loaded c.args.n c.args.bytes.now c.read.ensures c.in_default.is).sound

pub returns-in-Err : goal.returns-in-Err
returns-in-Err c = program-refused c.read.ensures _ c.in-Err.is c.args.output.now c.requires.1

pub returns : goal.returns
returns c =
    let held = told-accepted c.read.ensures c.in_default.is in
    program-written c.args.n c.args.bytes.now _ held.is c.args.output.now c.requires.1 c.of_graph.ensures
