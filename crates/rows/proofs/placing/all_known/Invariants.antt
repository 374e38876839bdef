-- `placing::all_known` meets its contract. The loop's invariant: all rows are known exactly where those from here on are.
use Rattle.rows.proofs.Known.{Left}
use Rattle.rows.proofs.placing.all_known.Given as goal

abbrev pub invariant-loop-row : goal.invariant-loop-row
invariant-loop-row l = Left l.nodes l.rows l.row-index
