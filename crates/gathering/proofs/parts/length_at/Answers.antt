-- `length_at` meets its contract.
use Rattle.gathering.proofs.Spans.{length_found}
use Rattle.gathering.proofs.parts.length_at.Goals as goal

pub returns : goal.returns
returns c = length_found c.args.bytes.now c.args.at c.byte_at.ensures.0 c.byte_at-2.ensures.0
