-- `reply::put_record` meets its contract: four texts, one behind another.
use native.Mathlib.Omega.{arith}
use Rattle.text.proofs.Texts.{puts_then, decimal-short, length-hexadecimal}
use Rattle.request.proofs.reply.put_record.Goals as goal

pub put_decimal-number-requires : goal.put_decimal-number-requires
put_decimal-number-requires c =
    omega (arith, c.put_word-ok.ensures.next-is, decimal-short c.args.count (omega (arith, c.requires.count_bound)))

pub put_word-space-requires : goal.put_word-space-requires
put_word-space-requires c =
    omega (
      arith,
      c.put_word-ok.ensures.next-is,
      c.put_decimal-number.ensures.next-is,
      decimal-short c.args.count (omega (arith, c.requires.count_bound)),
    )

pub put_hexadecimal-requires : goal.put_hexadecimal-requires
put_hexadecimal-requires c =
    omega (
      arith,
      c.put_word-ok.ensures.next-is,
      c.put_decimal-number.ensures.next-is,
      c.put_word-space.ensures.next-is,
      decimal-short c.args.count (omega (arith, c.requires.count_bound)),
      length-hexadecimal c.args.bytes.now,
      c.requires.bytes_len_bound,
    )

pub returns : goal.returns
returns c =
    puts_then (puts_then (puts_then c.put_word-ok.ensures c.put_decimal-number.ensures) c.put_word-space.ensures)
    c.put_hexadecimal.ensures
