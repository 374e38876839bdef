-- `is_held` meets its contract: the buffer is unpacked, the way of its programs is gone, and its end is compared with the first bytes of the
-- buffer.
use mathlib.Core.Path.{sym, ◌∙◌}
use native.Mathlib.Omega.{arith}
use lib.Seq.{length-take-le}
use Rattle.replies.specs.Replies.{told}
use Rattle.gathering.proofs.Told.{told-ok, not-told}
use Rattle.way.proofs.Starts.{starts_same}
use Rattle.way.proofs.Holding.{opens-short, opens_not, opens-stops, opens_by}
use Rattle.way.proofs.is_held.Goals as goal

pub returns-then-buffer-lt2 : goal.returns-then-buffer-lt2
returns-then-buffer-lt2 c =
    let a = c.args in
    opens-short a.n a.table.now a.buffer.now c.requires.4 a.state.now c.requires.1.slotted c.requires.2 c.requires.3 c.if-buffer-lt2.true

pub unpack-requires : goal.unpack-requires
unpack-requires c =
    (c.requires.0.ok, c.if-buffer-lt2.false, c.requires.1)

pub returns-then-not-unpack : goal.returns-then-not-unpack
returns-then-not-unpack c =
    let a = c.args in
    let unpacked = c.unpack in
    opens_not a.n a.table.now a.buffer.now c.requires.4 a.state.now unpacked.ensures.slotted c.requires.2 c.requires.3
    unpacked.ensures c.if-not-unpack.true

pub returns-in_default : goal.returns-in_default
returns-in_default c =
    let a = c.args in
    let went = c.go in
    let unpacked = c.unpack in
    opens-stops a.n a.table.now a.buffer.now c.requires.4 _ unpacked.ensures.slotted went.ensures.parted
    (went.ensures.long ∙ c.requires.3) unpacked.ensures c.if-not-unpack.false (told went.result) c.requires.3
    went.ensures.goes (not-told c.in_default.not-Ok)

pub slice_bounds-starts_with-end : goal.slice_bounds-starts_with-end
slice_bounds-starts_with-end c =
    let went = c.go in
    omega (arith, went.ensures.long, went.ensures.inside _ (told-ok c.in-Ok.is))

pub slice_bounds-starts_with-end-2 : goal.slice_bounds-starts_with-end-2
slice_bounds-starts_with-end-2 c =
    let went = c.go in
    sym (length-take-le _ _ (omega (arith, went.ensures.long, went.ensures.inside _ (told-ok c.in-Ok.is))))

pub returns : goal.returns
returns c =
    let a = c.args in
    let went = c.go in
    let unpacked = c.unpack in
    opens_by a.n a.table.now a.buffer.now c.requires.4 _ unpacked.ensures.slotted went.ensures.parted
    (went.ensures.long ∙ c.requires.3) unpacked.ensures c.if-not-unpack.false (told went.result) c.requires.3
    went.ensures.goes _ (told-ok c.in-Ok.is) (went.ensures.led _ (told-ok c.in-Ok.is)) c.starts_with.result
    (c.starts_with.ensures.value ∙ starts_same _ a.buffer.now)
