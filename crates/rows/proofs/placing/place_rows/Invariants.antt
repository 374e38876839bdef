-- `placing::place_rows` meets its contract. The loop's invariant: the rows before this one are placed.
use mathlib.Core.Path.{◌≡◌}
use lib.ListN.{length, take}
use Rattle.rows.specs.Placing.{Placed}
use Rattle.rows.proofs.placing.place_rows.Given as goal

abbrev pub invariant-loop-row : goal.invariant-loop-row
invariant-loop-row l = (length l.targets ≡ 16320) × Placed (take l.row-index l.rows) l.targets
