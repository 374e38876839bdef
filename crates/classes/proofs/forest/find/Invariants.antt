-- `find` meets its contract: on the way up no node's root changes.
use Prim.Native.Nat.{ℕ, ◌<◌}
use Rattle.classes.specs.Forest.{Forest}
use Rattle.classes.proofs.Roots.{Climbing}
use Rattle.classes.proofs.forest.find.Given as goal

abbrev pub invariant-loop-up : goal.invariant-loop-up
invariant-loop-up l = (nodes : ℕ) → Forest nodes l.initial.parent → l.x < nodes → Climbing nodes l.initial.parent l.x l.parent l.v l.up

abbrev pub decreases-loop-up : goal.decreases-loop-up
decreases-loop-up l = l.v
