use mathlib.Core.Path.{ap}
use mathlib.Core.Bool.{not}
use mathlib.Core.Path.{sym, ◌∙◌}
use native.Mathlib.Nat.{not-suc-le-zero}
use native.Mathlib.Omega.{arith}
use borrow.Author.Count.{below_more}
use Rattle.lattice.specs.Words.{Spanned}
use Rattle.lattice.proofs.Every.{refuted, held}
use Rattle.acceptance.proofs.Spanning.{covers-missing, covers-there, rows-owned, rows-hold, rows-fail, rows-unset}
use borrow.Author.Rules.{rules}
use Rattle.acceptance.proofs.order.is_ordered.Goals as goal

pub returns-then-not-are_rows_set : goal.returns-then-not-are_rows_set
returns-then-not-are_rows_set c =
    sym (rows-unset c.args.n c.args.down.now (refuted c.are_rows_set.ensures (ap not c.if-not-are_rows_set.true)))

pub loop-i-init : goal.loop-i-init
loop-i-init c = (search rules, λ k l. absurd (not-suc-le-zero l))

pub covers_of-requires : goal.covers_of-requires
covers_of-requires c = (search rules, search rules, rows-owned _ _ (held c.are_rows_set.ensures (ap not c.if-not-are_rows_set.false)))

pub returns-then-is_none : goal.returns-then-is_none
returns-then-is_none c =
    let turn = c.loop-i in
    sym
    (rows-fail c.args.n c.args.down.now turn.i (search rules)
    (covers-missing c.args.n c.args.down.now turn.i _ c.covers_of.ensures (c.is_none.ensures ∙ ap not c.if-is_none.true)))

pub loop-i-preserved : goal.loop-i-preserved
loop-i-preserved c =
    let turn = c.loop-i in (
      search rules,
      below_more (Spanned c.args.down.now) turn.i turn.invariant.1
          (covers-there c.args.n c.args.down.now turn.i _ c.covers_of.ensures (c.is_none.ensures ∙ ap not c.if-is_none.false)),
    )

pub returns : goal.returns
returns c =
    let turn = c.loop-i in
    sym
    (rows-hold c.args.n c.args.down.now (held c.are_rows_set.ensures (ap not c.if-not-are_rows_set.false))
    (λ k l. turn.invariant.1 k (omega arith)))
