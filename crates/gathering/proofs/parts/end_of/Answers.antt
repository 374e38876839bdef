-- `end_of` meets its contract.
use Rattle.gathering.proofs.Spans.{span-inside, span-cut}
use Rattle.gathering.proofs.parts.end_of.Goals as goal

pub returns-then-count-bytes : goal.returns-then-count-bytes
returns-then-count-bytes c = span-inside c.args.bytes.now c.args.at c.args.count c.requires c.if-count-bytes.true

pub returns : goal.returns
returns c = span-cut c.args.bytes.now c.args.at c.args.count c.requires c.if-count-bytes.false
