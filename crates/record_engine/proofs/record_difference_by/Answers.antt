-- The exported call answers the code of what the engine replies, and leaves the output that the engine leaves.
use Rattle.record_engine.proofs.Codes.{codes}
use Rattle.record_engine.proofs.record_difference_by.Goals as goal

pub returns : goal.returns
returns c = codes c.measured.ensures c.difference_by.ensures
