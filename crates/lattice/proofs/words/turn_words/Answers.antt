use Prim.Native.Nat.{ℕ, ◌^◌, ◌<◌}
use mathlib.Core.Path.{sym, ap, subst, ◌∙◌}
use native.Mathlib.Omega.{arith}
use lib.ListN.{length-replicate, get_or-replicate}
use Rattle.std.proofs.Common.{get_or-take}
use Rattle.lattice.specs.Words.{turned, Spread}
use Rattle.lattice.proofs.Turning.{turned_none, turned-small, turned_more}
use Rattle.lattice.proofs.words.turn_words.Goals as goal

pub loop-j-init : goal.loop-j-init
loop-j-init c = (omega arith, length-replicate {A = ℕ} 64 0, λ i l. get_or-replicate {A = ℕ} 64 i 0 0 l ∙ sym (turned_none _ i))

pub spread-requires : goal.spread-requires
spread-requires c =
    let turn = c.loop-j in (
      omega (arith, c.loop-j-test.true, c.requires),
      turn.invariant.1,
      λ i l. subst (λ (x : ℕ). x < 2 ^ turn.j) (sym (turn.invariant.2 i l)) (turned-small turn.j c.args.words.now i),
    )

pub loop-j-preserved : goal.loop-j-preserved
loop-j-preserved c =
    let turn = c.loop-j in (
      omega (arith, c.loop-j-test.true),
      c.spread.ensures.long,
      turned_more turn.j c.args.words.now _ _
          (subst (λ (w : ℕ). Spread w turn.j turn.result 0 c.spread.new.res)
          (get_or-take c.args.n c.args.words.now turn.j 0 (omega (arith, c.loop-j-test.true, c.requires))) c.spread.ensures)
          turn.invariant.2,
    )

pub returns : goal.returns
returns c i l =
    let turn = c.loop-j in
    turn.invariant.2 i (omega (arith, c.requires)) ∙ ap (λ (k : ℕ). turned k c.args.words.now i) (omega (arith, turn.invariant.0, c.loop-j-test.false))
