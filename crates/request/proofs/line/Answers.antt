-- `line` meets its contract: the words and the line end are put.
use native.Mathlib.Omega.{arith}
use Rattle.request.specs.Request.{requested}
use Rattle.request.proofs.Bounds.{words-short}
use Rattle.request.proofs.Replies.{line-printed}
use Rattle.request.proofs.line.Goals as goal

pub bounds-bytes-end : goal.bounds-bytes-end
bounds-bytes-end c =
    omega (arith, c.put_words-end.ensures.next-is, words-short (requested c.args.input.now))

pub overflow_add-count : goal.overflow_add-count
overflow_add-count c =
    omega (arith, c.put_words-end.ensures.next-is, words-short (requested c.args.input.now))

pub returns : goal.returns
returns c =
    line-printed c.args.input.now c.put_words-end.ensures
