use mathlib.Core.Path.{refl, sym, ap₂, ◌∙◌}
use lib.ListN.{length-set}
use borrow.Author.Rules.{rules}
use borrow.Author.Tests.{le-leb, lt-leb}
use Rattle.house.specs.House.{answer_with}
use Rattle.house.proofs.Filling.{fill_start, fill_step, fill_end, fill_none}
use Rattle.house.proofs.fill_table.Goals as goal

pub returns-then-out-lt512 : goal.returns-then-out-lt512
returns-then-out-lt512 c = ap₂ answer_with (sym (lt-leb _ _ c.if-out-lt512.true)) (fill_none _ c.if-out-lt512.true)

pub loop-k-init : goal.loop-k-init
loop-k-init c = (search rules, search rules, refl, fill_start _)

pub loop-k-preserved : goal.loop-k-preserved
loop-k-preserved c =
    let turn = c.loop-k in (
      search rules,
      turn.invariant.1,
      length-set turn.out turn.k _ ∙ turn.invariant.2,
      fill_step turn.out turn.k _ c.loop-k-test.true c.byte_at.ensures turn.invariant.3,
    )

pub returns : goal.returns
returns c =
    let turn = c.loop-k in
    ap₂ answer_with (sym (le-leb _ _ turn.invariant.1)) (fill_end _ turn.out turn.k c.loop-k-test.false turn.invariant.1 turn.invariant.3)
