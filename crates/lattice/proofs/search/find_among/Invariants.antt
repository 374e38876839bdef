-- `find_among` meets its contract. The loop's invariant: every type that has the word is among the bits left.
use Rattle.lattice.specs.Words.{Seeking}
use Rattle.lattice.proofs.search.find_among.Given as goal

abbrev pub invariant-loop-left : goal.invariant-loop-left
invariant-loop-left l = Seeking l.words l.word l.left

abbrev pub decreases-loop-left : goal.decreases-loop-left
decreases-loop-left l = l.left
