-- `seek` meets its contract. The loop's invariant: the places passed have features below f.
use Rattle.subsume.proofs.Following.{Seeking}
use Rattle.subsume.proofs.seek.Given as goal

abbrev pub invariant-loop-k : goal.invariant-loop-k
invariant-loop-k l = Seeking l.graph l.at l.end l.f l.k
