-- `put_decimal` meets its contract: it puts the last digit behind the digits of a tenth of the number.
use mathlib.Core.Path.{ap}
use native.Mathlib.Omega.{arith}
use lib.ListN.{length}
use Rattle.text.proofs.Texts.{decimal-one, decimal-length, puts-digit, puts-last}
use Rattle.text.proofs.+put_decimal.Goals as goal

pub bounds-out-at : goal.bounds-out-at
bounds-out-at t c =
    omega (arith, c.requires, ap length (decimal-one c.args.n c.if-n-lt10.true))

pub returns-then-n-lt10 : goal.returns-then-n-lt10
returns-then-n-lt10 t c = puts-digit c.args.n _ _ _ c.if-n-lt10.true c.digit.ensures

pub put_decimal-next-requires : goal.put_decimal-next-requires
put_decimal-next-requires t c =
    (omega (arith, c.if-n-lt10.false), omega (arith, c.requires, decimal-length c.args.n c.if-n-lt10.false))

pub bounds-out-next : goal.bounds-out-next
bounds-out-next t c =
    omega (arith, c.requires, decimal-length c.args.n c.if-n-lt10.false, c.put_decimal-next.ensures.next-is)

pub overflow_add-result-2 : goal.overflow_add-result-2
overflow_add-result-2 t c =
    omega (arith, c.requires, decimal-length c.args.n c.if-n-lt10.false, c.put_decimal-next.ensures.next-is)

pub returns : goal.returns
returns t c =
    puts-last c.args.n c.if-n-lt10.false c.put_decimal-next.ensures c.digit-2.ensures
