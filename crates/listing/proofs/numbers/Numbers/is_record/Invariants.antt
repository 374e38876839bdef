-- `is_record` meets its contract. The loop's invariant: the lengths are equal, and so are the bytes before place i.
use mathlib.Core.Path.{◌≡◌}
use Prim.Native.Nat.{ℕ, ◌<◌}
use lib.ListN.{length, get_or}
use Rattle.listed.specs.Listing.{record_of}
use Rattle.listing.specs.Numbers.{number_list}
use Rattle.listing.proofs.numbers.Numbers.is_record.Given as goal

abbrev pub invariant-loop-i : goal.invariant-loop-i
invariant-loop-i l = record {
  long : length l.bytes ≡ length (record_of (number_list l.self));
  same : (k : ℕ) → k < l.i → get_or l.bytes k 0 ≡ get_or (record_of (number_list l.self)) k 0;
}
