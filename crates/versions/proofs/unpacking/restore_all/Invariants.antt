-- `restore_all` meets its contract.
use Prim.Native.Nat.{◌-◌}
use Rattle.versions.proofs.Unpacked.{Restored}
use Rattle.versions.proofs.unpacking.restore_all.Given as goal

abbrev pub invariant-loop-version : goal.invariant-loop-version
invariant-loop-version l =
    Restored l.n l.table l.part l.bits l.differences l.slots l.left l.at l.version
