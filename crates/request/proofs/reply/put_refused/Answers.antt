-- `reply::put_refused` meets its contract: two texts, one behind the other.
use native.Mathlib.Omega.{arith}
use Rattle.text.proofs.Texts.{puts_then, decimal-short}
use Rattle.request.proofs.reply.put_refused.Goals as goal

pub put_decimal-requires : goal.put_decimal-requires
put_decimal-requires c =
    omega (arith, c.put_word-refused.ensures.next-is, decimal-short c.args.number (omega (arith, c.requires.number_bound)))

pub returns : goal.returns
returns c = puts_then c.put_word-refused.ensures c.put_decimal.ensures
