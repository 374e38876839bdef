-- `unite_restoring` meets its contract. The loop's invariant: `all` is the union of the words of the types before the row's that restore.
use Prim.Native.Nat.{◌≤◌}
use Rattle.lattice.specs.Words.{Restoring}
use Rattle.lattice.proofs.wanted.unite_restoring.Given as goal

abbrev pub invariant-loop-row : goal.invariant-loop-row
invariant-loop-row l = (l.row-index ≤ l.n) × Restoring l.row-index l.down l.lower l.over l.all
