-- `read_both` meets its contract: the first record is read, and the second where the first is accepted.
use Rattle.pairs.proofs.Readings.{reads-first-refused, reads-second-refused, reads-accepted}
use Rattle.pairs.proofs.read_both.Goals as goal

pub returns-in-Err : goal.returns-in-Err
returns-in-Err c = reads-first-refused c.read_one.ensures c.in-Err.is

pub returns-in-Err-read_one : goal.returns-in-Err-read_one
returns-in-Err-read_one c = reads-second-refused c.read_one.ensures c.in_default.is c.read_one-2.ensures c.in-Err-read_one.is

pub returns : goal.returns
returns c = reads-accepted c.read_one.ensures c.in_default.is c.read_one-2.ensures c.in_default-read_one.is
