-- `nothing_after` meets its contract: the program is read, and nothing is gathered.
use Rattle.gathering.proofs.Answers.{nothing-refused, nothing-accepted}
use Rattle.gathering.proofs.nothing_after.Goals as goal

pub returns-in-Err : goal.returns-in-Err
returns-in-Err c = nothing-refused c.read.ensures _ c.in-Err.is

pub returns-in-Ok : goal.returns-in-Ok
returns-in-Ok c = nothing-accepted c.read.ensures c.in-Ok.is
