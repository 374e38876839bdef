use Rattle.std.proofs.Common.{arith}
use Rattle.merging.proofs.Lowering.{cleared-step}
use Rattle.merging.proofs.labels.clear.Goals as goal

pub loop-c-init : goal.loop-c-init
loop-c-init c = let p = c.requires in (record { long = p.3; below = p.4; tops = λ d h. absurd (omega arith) }, omega arith)

pub overflow_sub-top : goal.overflow_sub-top
overflow_sub-top c = omega (arith, c.requires.0)

pub overflow_cast-top : goal.overflow_cast-top
overflow_cast-top c = omega (arith, c.requires.1)

pub overflow_mul-c : goal.overflow_mul-c
overflow_mul-c c = omega (arith, c.loop-c-test.true, c.requires.2)

pub put_label-requires : goal.put_label-requires
put_label-requires c = omega (arith, c.loop-c-test.true, c.requires.2, c.loop-c.invariant.0.long)

pub loop-c-preserved : goal.loop-c-preserved
loop-c-preserved c = (cleared-step c.loop-c.invariant.0 c.requires.0 (omega (arith, c.loop-c-test.true, c.requires.2)) c.put_label.ensures, omega (arith, c.loop-c-test.true))

pub returns : goal.returns
returns c = let s = c.loop-c.invariant.0 in (record { labels_len = (s.long, s.below); by_index = λ d h. s.tops d (omega (arith, c.loop-c-test.false)) })
