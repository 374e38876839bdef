-- `kept_links` meets its contract. The loop's invariant: the rows before v hold their kept links.
use Prim.Native.Nat.{◌≤◌}
use Rattle.keeping.specs.Keeping.{Markable}
use Rattle.keeping.specs.Thinning.{Rows}
use Rattle.keeping.proofs.rows.kept_links.Given as goal

abbrev pub invariant-loop-v : goal.invariant-loop-v
invariant-loop-v l = (l.v ≤ l.nodes) × Markable l.s l.marks l.keep × Rows l.s l.marks l.keep l.labels l.v l.words l.at
