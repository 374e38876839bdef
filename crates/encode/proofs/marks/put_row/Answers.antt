use Rattle.encode.proofs.MarkedRows.{turn_step}
use Rattle.encode.proofs.marks.put_row.Goals as goal

pub loop-k-preserved : goal.loop-k-preserved
loop-k-preserved c = turn_step c.loop-k.invariant c.loop-k-test.true
