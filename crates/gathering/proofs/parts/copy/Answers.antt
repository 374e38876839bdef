use Rattle.gathering.proofs.Spans.{copied-start, copied-inside, copied_next, copied_all}
use Rattle.gathering.proofs.parts.copy.Goals as goal

pub loop-i-init : goal.loop-i-init
loop-i-init c = copied-start c.args.bytes.now c.args.at c.args.state.now c.requires

pub bounds-state-at : goal.bounds-state-at
bounds-state-at c = copied-inside c.loop-i.invariant c.loop-i-test.true

pub loop-i-preserved : goal.loop-i-preserved
loop-i-preserved c = copied_next c.loop-i.invariant c.loop-i-test.true

pub returns : goal.returns
returns c = copied_all c.loop-i.invariant c.loop-i-test.false
