-- Export answers the code of what the engine replies, and leaves the rows and node bytes that the engine leaves.
use Rattle.record_engine.proofs.Codes.{codes-rows}
use Rattle.record_engine.proofs.record_export.Goals as goal

pub returns : goal.returns
returns c = codes-rows c.code.ensures c.export.ensures
