-- `put_row` meets its contract. Each turn of the loop stores one mark behind those before it.
use Rattle.layout.specs.Layout.{links_from, row_end}
use Rattle.encode.proofs.MarkedRows.{MarkTurn}
use Rattle.encode.proofs.marks.put_row.Given as goal

abbrev pub invariant-loop-k : goal.invariant-loop-k
invariant-loop-k l = MarkTurn l.marks (links_from l.graph l.v) (row_end l.graph l.v) l.at l.initial.beside l.beside l.next l.k
