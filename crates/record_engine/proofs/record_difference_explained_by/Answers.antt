-- The exported call answers the code of what the engine replies, and leaves the two outputs that the engine leaves.
use Rattle.record_engine.proofs.Codes.{codes-both}
use Rattle.record_engine.proofs.record_difference_explained_by.Goals as goal

pub returns : goal.returns
returns c = codes-both c.measured.ensures c.difference_explained_by.ensures
