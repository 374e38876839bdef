-- `put_meets` meets its contract: each turn puts one entry and the byte behind it.
use Rattle.house_types.proofs.Printing.{Printing}
use Rattle.house_types.proofs.put_meets.Given as goal

abbrev pub invariant-loop-k : goal.invariant-loop-k
invariant-loop-k l = Printing l.initial.out l.entry-items l.out l.at l.k
