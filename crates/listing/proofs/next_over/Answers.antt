-- `next_over` meets its contract: the record is read where there is one.
use Rattle.listing.proofs.Checks.{over_none, over-refused, over-accepted}
use Rattle.listing.proofs.next_over.Goals as goal

pub returns-then-bytes-eq0 : goal.returns-then-bytes-eq0
returns-then-bytes-eq0 c =
    over_none c.args.n c.args.features c.args.bytes.now c.args.out.now
    c.if-bytes-eq0.true (c.first.ensures c.args.n c.requires.0 c.requires.1)

pub returns-in-Err : goal.returns-in-Err
returns-in-Err c =
    over-refused c.args.n c.args.features c.args.bytes.now c.args.out.now
    c.read.ensures c.if-bytes-eq0.false _ c.in-Err.is

pub returns : goal.returns
returns c =
    over-accepted c.args.n c.args.features c.args.bytes.now c.args.out.now
    c.read.ensures
    c.if-bytes-eq0.false c.in_default.is
    c.go_on.ensures
