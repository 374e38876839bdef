use borrow.Author.Rules.{rules}
use native.Mathlib.Omega.{arith}
use Rattle.subsume.proofs.Following.{seek-on, feature-over}
use Rattle.subsume.proofs.seek.Goals as goal

pub loop-k-init : goal.loop-k-init
loop-k-init c = record { low = search rules; high = search rules; before = λ i low high. absurd (omega arith) }

pub returns-then-least-graph : goal.returns-then-least-graph
returns-then-least-graph c = let s = c.loop-k.invariant in record { low = s.low; high = s.high; before = s.before; found = λ h. feature-over _ _ c.if-least-graph.true }

pub loop-k-preserved : goal.loop-k-preserved
loop-k-preserved c = seek-on c.loop-k.invariant c.loop-k-test.true (omega (arith, c.if-least-graph.false))

pub returns : goal.returns
returns c =
    let s = c.loop-k.invariant in
    record {
      low = c.requires.0;
      high = omega arith;
      before = λ i low high. s.before i low (omega (arith, c.loop-k-test.false));
      found = λ h. absurd (omega arith);
    }
