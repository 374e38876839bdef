-- `follow` meets its contract. The loop's invariant: the row of g is followed over its links so far.
use Prim.Native.Nat.{◌+◌}
use Rattle.layout.specs.Layout.{links_from}
use Rattle.subsume.proofs.Following.{Following}
use Rattle.subsume.proofs.follow.Given as goal

abbrev pub invariant-loop-link : goal.invariant-loop-link
invariant-loop-link l = Following l.s l.g l.u l.v l.initial.map l.initial.queue l.count l.map l.queue (links_from l.g l.v + l.link-index) l.j l.end
