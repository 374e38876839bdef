-- `hold` meets its contract. The loop's invariant: the sets of the types before a are stored.
use Prim.Native.Nat.{◌≤◌}
use mathlib.Core.Path.{◌≡◌}
use lib.ListN.{length}
use Rattle.bounds.specs.Sets.{Sets}
use Rattle.bounds.proofs.sets.hold.Given as goal

abbrev pub invariant-loop-a : goal.invariant-loop-a
invariant-loop-a l = (l.a ≤ l.n) × (length l.sets ≡ 128) × Sets l.up l.n l.down l.sets l.a
