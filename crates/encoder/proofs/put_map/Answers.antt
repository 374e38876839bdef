use mathlib.Core.Path.{refl, sym, ◌∙◌}
use native.Mathlib.Omega.{arith}
use lib.ListN.{length-set}
use Rattle.encoder.proofs.RowBytes.{bytes-start, bytes-step, bytes-end}
use Rattle.encoder.proofs.put_map.Goals as goal

pub loop-i-init : goal.loop-i-init
loop-i-init c = (omega arith, refl, bytes-start c.args.out.now c.args.at c.args.map)

pub loop-i-preserved : goal.loop-i-preserved
loop-i-preserved c = (
  omega arith,
  simp length-set (omega arith),
  c.loop-i.invariant.2 ∙ bytes-step c.loop-i.out c.args.at c.loop-i.i c.loop-i.left (omega arith),
)

pub returns : goal.returns
returns c = sym (c.loop-i.invariant.2 ∙ bytes-end c.loop-i.out c.args.at c.loop-i.i c.loop-i.left (omega arith))
