-- The exported call answers the code of what the engine replies, and leaves the output as the engine leaves it.
use Rattle.record_engine.proofs.Codes.{codes}
use Rattle.record_engine.proofs.record_store_read.Goals as goal

pub returns : goal.returns
returns c = codes c.measured.ensures c.read.ensures
