-- `find` meets its contract.
use Rattle.gathering.proofs.Spans.{parts-found}
use Rattle.gathering.proofs.parts.find.Goals as goal

pub returns : goal.returns
returns c =
    parts-found c.args.state.now c.byte_at-types.ensures.0 c.end_of-start.ensures c.end_of-end.ensures c.end_of-room.ensures c.length_at-gathered.ensures c.end_of-last.ensures
