use mathlib.Core.Path.{ap}
use mathlib.Core.Bool.{not}
use Prim.Native.Nat.{◌+◌}
use mathlib.Core.Path.{sym, subst, ◌∙◌}
use mathlib.Core.Bool.{false}
use native.Mathlib.Omega.{arith}
use Rattle.lattice.proofs.Every.{refuted, held}
use Rattle.acceptance.proofs.Acceptance.{answer-order, order-words, lower-words, answer-found}
use Rattle.acceptance.proofs.Spanning.{Judging, judge-begin, judge-next, judge-kept, judge-end, rows-owned, rows-hold, rows-fail, rows-unset}
use borrow.Author.Rules.{rules}
use Rattle.acceptance.proofs.judge.Goals.{then-all, else-all}
use Rattle.acceptance.proofs.judge.Goals as goal

pub returns-then-not-are_rows_set : goal.returns-then-not-are_rows_set
returns-then-not-are_rows_set c t size words =
    answer-order c.args.n t c.args.down.now size words
    (rows-unset c.args.n c.args.down.now (refuted c.are_rows_set.ensures (ap not c.if-not-are_rows_set.true)))

pub loop-i-init : goal.loop-i-init
loop-i-init c = (search rules, judge-begin _ _)

pub covers_of-requires : goal.covers_of-requires
covers_of-requires c = (search rules, search rules, rows-owned _ _ (held c.are_rows_set.ensures (ap not c.if-not-are_rows_set.false)))

pub returns-in_default : goal.returns-in_default
returns-in_default c t size words =
    let turn = c.loop-i in
    answer-order c.args.n t c.args.down.now size words
    (rows-fail c.args.n c.args.down.now turn.i (search rules)
    c.in_default.ensures.0)

pub loop-i-preserved : goal.loop-i-preserved
loop-i-preserved c =
    let turn = c.loop-i in
    let n = c.args.n in
    let ws = c.args.down.now in
    let covers = c.in-Some.ensures in
    let next = Judging n ws (turn.i + 1) in (
      search rules,
      elim c.if-all.branch [
        | then-all w ↦ subst next (sym w.all-is) (judge-next n ws turn.invariant.1 covers (search rules) c.requires w.if-all.true (w.are_bounded_within-all.ensures n c.requires))
        | else-all w ↦ subst next (sym w.all-is) (judge-kept n ws turn.invariant.1 covers w.if-all.false)
      ],
    )

pub returns : goal.returns
returns c t size words =
    let turn = c.loop-i in
    let n = c.args.n in
    let ws = c.args.down.now in
    let set = held c.are_rows_set.ensures (ap not c.if-not-are_rows_set.false) in
    let passed = order-words size words (rows-hold n ws set (λ k l. turn.invariant.1.spans k (omega arith))) in
    c.bounded.ensures ∙
    answer-found n t ws passed false ws words _
    (sym (judge-end n ws c.requires (search rules) turn.invariant.0 turn.invariant.1 (lower-words n t ws passed)))
