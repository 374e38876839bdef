-- `reading::read` meets its contract: the reading follows from what parsing and judging answer.
use Rattle.record.proofs.Parsed as parsed
use Rattle.record.proofs.reading.read.Goals as goal

pub returns-then-not-parse : goal.returns-then-not-parse
returns-then-not-parse c =
    parsed.malformed c.parse.ensures c.args.n c.if-not-parse.true

pub has_ranges-ranged-requires : goal.has_ranges-ranged-requires
has_ranges-ranged-requires c =
    let parse = c.parse in
    parsed.shaped parse.ensures c.if-not-parse.false

pub judge-requires : goal.judge-requires
judge-requires c =
    let told = c.has_ranges-ranged in
    let parse = c.parse in
    let found = c.if-not-parse.false in
    record {
      shaped = (parsed.shaped parse.ensures found, parsed.small parse.ensures found);
      levels_ordered = parsed.levels-ordered parse.ensures found told.ensures;
    }

pub returns : goal.returns
returns c =
    let parse = c.parse in
    parsed.reads-judged parse.ensures c.if-not-parse.false c.judge.ensures
