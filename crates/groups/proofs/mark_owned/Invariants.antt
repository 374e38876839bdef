-- `mark_owned` meets its contract. The loop's invariant: the rows of the nodes before y are laid over s.
use Prim.Native.Nat.{◌≤◌}
use Rattle.layout.specs.Layout.{row_from}
use Rattle.cover.specs.Cover.{Grouping}
use Rattle.groups.proofs.mark_owned.Given as goal

abbrev pub invariant-loop-y : goal.invariant-loop-y
invariant-loop-y l = (l.y ≤ l.nodes) × Grouping l.s l.g l.map (row_from l.g l.y) l.owner l.parent
