-- `flatten` meets its contract: nodes before x are right below their roots.
use Prim.Native.Nat.{◌-◌, ◌≤◌}
use Rattle.classes.proofs.Roots.{Flattening}
use Rattle.classes.proofs.forest.flatten.Given as goal

abbrev pub invariant-loop-x : goal.invariant-loop-x
invariant-loop-x l = Flattening l.nodes l.initial.parent l.parent l.x × (l.x ≤ l.nodes)
