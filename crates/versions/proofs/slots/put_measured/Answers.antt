-- `put_measured` meets its contract.
use Rattle.versions.proofs.SlotLaws.{puts_none, puts-both}
use Rattle.versions.proofs.slots.put_measured.Goals as goal

pub returns-then-state-at : goal.returns-then-state-at
returns-then-state-at c = puts_none c.args.bytes.now c.args.at c.args.state.now c.if-state-at.true

pub returns : goal.returns
returns c =
    puts-both c.args.bytes.now c.args.at c.args.state.now _ _
    c.if-state-at.false c.put_length.ensures c.copy.ensures
