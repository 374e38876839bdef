-- `reply::put_counts` meets its contract: four texts, one behind another.
use Prim.Native.Nat.{◌%◌}
use native.Mathlib.Omega.{arith}
use Rattle.text.proofs.Texts.{puts_then, decimal-short}
use Rattle.request.proofs.reply.put_counts.Goals as goal

pub put_decimal-number-requires : goal.put_decimal-number-requires
put_decimal-number-requires c =
    omega (arith, c.put_word-counts.ensures.next-is, decimal-short (c.args.nodes % 10000) (omega arith))

pub put_word-space-requires : goal.put_word-space-requires
put_word-space-requires c =
    omega (
      arith,
      c.put_word-counts.ensures.next-is,
      c.put_decimal-number.ensures.next-is,
      decimal-short (c.args.nodes % 10000) (omega arith),
    )

pub put_decimal-requires : goal.put_decimal-requires
put_decimal-requires c =
    omega (
      arith,
      c.put_word-counts.ensures.next-is,
      c.put_decimal-number.ensures.next-is,
      c.put_word-space.ensures.next-is,
      decimal-short (c.args.nodes % 10000) (omega arith),
      decimal-short (c.args.rows % 10000) (omega arith),
    )

pub returns : goal.returns
returns c =
    puts_then (puts_then (puts_then c.put_word-counts.ensures c.put_decimal-number.ensures) c.put_word-space.ensures)
    c.put_decimal.ensures
