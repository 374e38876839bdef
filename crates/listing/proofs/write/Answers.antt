use native.Mathlib.Omega.{arith}
use Rattle.listed.specs.Listing.{record_of}
use Rattle.listing.specs.Numbers.{number_list}
use Rattle.listing.proofs.Copying.{stored-whole, no_room}
use Rattle.listing.proofs.write.Goals as goal

pub returns-then-out-length : goal.returns-then-out-length
returns-then-out-length c =
    no_room (record_of (number_list c.args.numbers)) c.args.out.now (omega (arith, c.if-out-length.true, c.length-length.ensures))

pub returns : goal.returns
returns c =
    stored-whole (record_of (number_list c.args.numbers)) c.args.out.now c.loop-i.byte-items _ c.length-length.ensures c.if-out-length.false
    c.loop-i.invariant.long (λ k l. c.loop-i.invariant.same k (omega (arith, c.loop-i-test.false)))
