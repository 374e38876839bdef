-- `put_marks` meets its contract. Each turn of the loop stores the marks of one row behind those before them.
use Rattle.encode.proofs.MarkedRows.{MarkProgress}
use Rattle.encode.proofs.marks.put_marks.Given as goal

abbrev pub invariant-loop-i : goal.invariant-loop-i
invariant-loop-i l = MarkProgress l.graph l.marks l.visited l.count l.initial.beside l.beside l.at l.i
