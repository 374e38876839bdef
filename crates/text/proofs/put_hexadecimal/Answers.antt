use mathlib.Core.Path.{refl}
use native.Mathlib.Omega.{arith}
use lib.ListN.{length-set}
use Rattle.text.proofs.Texts.{put-begin, put-room, put_two, put-end, hexadecimal-more, hexadecimal-done}
use Rattle.text.proofs.put_hexadecimal.Goals as goal

pub loop-b-init : goal.loop-b-init
loop-b-init c = put-begin _ _ _

pub digit-requires : goal.digit-requires
digit-requires c = omega (arith, c.type_inv.bytes c.loop-b.b-index)

pub bounds-out-next : goal.bounds-out-next
bounds-out-next c =
    (put-room c.loop-b.invariant _ _ (hexadecimal-more _ _ _ _ c.loop-b-test.true refl refl) c.requires).0

pub digit-requires-in-loop-b : goal.digit-requires-in-loop-b
digit-requires-in-loop-b c = omega (arith, c.type_inv.bytes c.loop-b.b-index)

pub bounds-out-next-in-loop-b : goal.bounds-out-next-in-loop-b
bounds-out-next-in-loop-b c =
    let room = (put-room c.loop-b.invariant _ _ (hexadecimal-more _ _ _ _ c.loop-b-test.true refl refl) c.requires).1 in
    simp length-set (omega (arith, room))

pub loop-b-preserved : goal.loop-b-preserved
loop-b-preserved c =
    put_two c.loop-b.invariant _ _ _ (hexadecimal-more _ _ _ _ c.loop-b-test.true c.digit.ensures c.digit-in-loop-b.ensures)

pub shape_of-out : goal.shape_of-out
shape_of-out c = c.loop-b.invariant.length-is

pub returns : goal.returns
returns c = put-end c.loop-b.invariant (hexadecimal-done _ _ c.loop-b-test.false)
