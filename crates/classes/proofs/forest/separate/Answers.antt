use native.Mathlib.Numerals.{add-one}
use mathlib.Core.Path.{◌∙◌}
use native.Mathlib.Omega.{arith}
use lib.ListN.{length-set}
use Rattle.classes.proofs.Roots.{separate-step}
use Rattle.classes.proofs.forest.separate.Goals as goal

pub loop-x-preserved : goal.loop-x-preserved
loop-x-preserved c = (length-set c.loop-x.parent c.loop-x.x c.loop-x.x ∙ c.loop-x.invariant.0, omega (arith, c.loop-x-test.true), rw (add-one c.loop-x.x) (separate-step c.loop-x.parent c.loop-x.x (omega (arith, c.loop-x.invariant.0, c.loop-x-test.true)) c.loop-x.invariant.2))

pub returns : goal.returns
returns c = let i = c.loop-x.invariant in (record { parent_len = i.0; by_index = λ x h. i.2 x (omega (arith, c.loop-x-test.false)) })
