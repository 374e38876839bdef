-- `reply::put_refused_graph` meets its contract: two texts, one behind the other.
use native.Mathlib.Omega.{arith}
use Rattle.text.proofs.Texts.{puts_then}
use Rattle.request.proofs.Bounds.{refused-short}
use Rattle.request.proofs.reply.put_refused_graph.Goals as goal

pub put_side-requires : goal.put_side-requires
put_side-requires c =
    omega (arith, c.put_refused-refused.ensures.next-is, refused-short c.args.number (omega (arith, c.requires.number_bound)))

pub returns : goal.returns
returns c = puts_then c.put_refused-refused.ensures c.put_side.ensures
