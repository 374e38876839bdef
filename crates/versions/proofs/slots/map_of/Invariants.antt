-- `map_of` meets its contract.
use Rattle.versions.proofs.SlotLaws.{MapFrom}
use Rattle.versions.proofs.slots.map_of.Given as goal

abbrev pub invariant-loop-v : goal.invariant-loop-v
invariant-loop-v l = MapFrom l.slots l.count l.bits l.v
