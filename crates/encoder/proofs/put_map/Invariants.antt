-- `put_map` meets its contract. The loop's invariant: the bytes still to be stored are the bytes of what is left of the map.
use mathlib.Core.Path.{◌≡◌}
use Prim.Native.Nat.{◌+◌, ◌-◌, ◌≤◌}
use lib.ListN.{length}
use lib.Seq.{sets}
use Rattle.encoder.specs.NumberedRows.{low_bytes}
use Rattle.encoder.proofs.put_map.Given as goal

abbrev pub invariant-loop-i : goal.invariant-loop-i
invariant-loop-i l =
    (l.i ≤ 8) × (length l.out ≡ length l.initial.out) × (sets l.initial.out l.at (low_bytes 8 l.map) ≡ sets l.out (l.at + l.i) (low_bytes (8 - l.i) l.left))
