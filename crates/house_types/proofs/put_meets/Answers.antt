use native.Mathlib.Omega.{arith}
use Rattle.house_types.proofs.Printing.{print-start, print-room, print-place, print-step, print-end}
use Rattle.house_types.proofs.put_meets.Goals as goal

pub loop-k-init : goal.loop-k-init
loop-k-init c = print-start _ _ c.requires c.all-all.ensures

pub put_decimal-next-requires : goal.put_decimal-next-requires
put_decimal-next-requires c = print-room c.loop-k.invariant c.loop-k-test.true

pub bounds-out-next : goal.bounds-out-next
bounds-out-next c =
    (print-place c.loop-k.invariant c.loop-k-test.true c.put_decimal-next.ensures).0

pub overflow_add-at : goal.overflow_add-at
overflow_add-at c =
    omega (arith, (print-place c.loop-k.invariant c.loop-k-test.true c.put_decimal-next.ensures).1)

pub loop-k-preserved : goal.loop-k-preserved
loop-k-preserved c =
    print-step c.loop-k.invariant c.loop-k-test.true c.put_decimal-next.ensures _ c.after.ensures

pub shape_of-out : goal.shape_of-out
shape_of-out c = c.loop-k.invariant.size

pub returns : goal.returns
returns c =
    let done = print-end c.loop-k.invariant c.loop-k-test.false in
    record { room = done.0; text = done.1 }
