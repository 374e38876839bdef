-- `spread` meets its contract. The loop's invariant: the types of the word that are not left have their bit.
use Rattle.lattice.specs.Words.{Spread}
use Rattle.lattice.proofs.words.spread.Given as goal

abbrev pub invariant-loop-left : goal.invariant-loop-left
invariant-loop-left l = Spread l.word l.j l.initial.res l.left l.res

abbrev pub decreases-loop-left : goal.decreases-loop-left
decreases-loop-left l = l.left
