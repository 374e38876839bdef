-- `subsume` meets its contract. The loop's invariant: the nodes in the queue before `head` are passed.
use Prim.Native.Nat.{◌-◌}
use Rattle.subsume.proofs.Searching.{Searched}
use Rattle.subsume.proofs.subsume.Given as goal

abbrev pub invariant-loop-head : goal.invariant-loop-head
invariant-loop-head l = Searched l.table l.s l.g l.map l.queue l.count l.head

abbrev pub decreases-loop-head : goal.decreases-loop-head
decreases-loop-head l = 255 - l.head
