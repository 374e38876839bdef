-- `packing::pack` meets its contract: the map and the common part are put, then each version in turn.
use Prim.Native.Nat.{◌-◌}
use lib.ListN.{length}
use Rattle.versions.proofs.Packs.{Packing}
use Rattle.versions.proofs.packing.pack.Given as goal

abbrev pub invariant-loop-version : goal.invariant-loop-version
invariant-loop-version l = Packing l.n l.table l.slots l.part l.count (length l.initial.state) l.state l.at l.version
