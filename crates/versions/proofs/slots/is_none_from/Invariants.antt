-- `is_none_from` meets its contract.
use Prim.Native.Nat.{◌-◌}
use Rattle.versions.proofs.SlotLaws.{Seeking}
use Rattle.versions.proofs.slots.is_none_from.Given as goal

abbrev pub invariant-loop-v : goal.invariant-loop-v
invariant-loop-v l = Seeking l.slots l.version l.v
