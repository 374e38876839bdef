-- The exported call answers the code of what the engine replies, and leaves the gathering as the engine leaves it.
use Rattle.record_engine.proofs.Codes.{codes}
use Rattle.record_engine.proofs.record_gathering_begin.Goals as goal

pub returns : goal.returns
returns c = codes c.measured.ensures c.begin.ensures
