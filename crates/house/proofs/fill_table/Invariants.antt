-- `fill_table` meets its contract. Each turn of the loop stores one byte of the table; the bytes from k on are still to be stored.
use Prim.Native.Nat.{◌≤◌, ◌-◌}
use mathlib.Core.Path.{◌≡◌}
use lib.ListN.{length}
use lib.Seq.{sets}
use Rattle.house.specs.House.{house_table}
use Rattle.house.proofs.Filling.{left}
use Rattle.house.proofs.fill_table.Given as goal

abbrev pub invariant-loop-k : goal.invariant-loop-k
invariant-loop-k l = (l.k ≤ 512) × (512 ≤ length l.initial.out) × (length l.out ≡ length l.initial.out) × (sets l.initial.out 0 house_table ≡ left l.out l.k)
