-- `write` meets its contract. The loop's invariant: the first i bytes of the record stand at the start of the output.
use mathlib.Core.Path.{◌≡◌}
use Prim.Native.Nat.{ℕ, ◌<◌}
use lib.ListN.{length as len, get_or}
use Rattle.listed.specs.Listing.{record_of}
use Rattle.listing.specs.Numbers.{number_list}
use Rattle.listing.proofs.write.Given as goal

abbrev pub invariant-loop-i : goal.invariant-loop-i
invariant-loop-i l = record {
  long : len l.byte-items ≡ len (record_of (number_list l.numbers));
  same : (k : ℕ) → k < l.i → get_or l.byte-items k 0 ≡ get_or (record_of (number_list l.numbers)) k 0;
}
