use mathlib.Core.Path.{ap}
use mathlib.Core.Bool.{not}
use Prim.Native.Nat.{ℕ, ◌-◌}
use mathlib.Core.Path.{◌≡◌, sym, ◌∙◌}
use mathlib.Core.Bool.{true}
use native.Mathlib.Nat.{not-suc-le-zero}
use native.Mathlib.Omega.{arith}
use lib.ListN.{get_or}
use borrow.Author.Count.{below_more}
use borrow.Author.Tests.{le-leb, lt-leb}
use Rattle.std.proofs.Common.{get_or-take}
use Rattle.lattice.specs.Words.{row_inside, row_set}
use Rattle.lattice.proofs.Every.{refuted, held, every-done, every-none}
use Rattle.acceptance.proofs.Spanning.{rows-set, top-fails, row-fails}
use borrow.Author.Rules.{rules}
use Rattle.acceptance.proofs.order.are_rows_set.Goals as goal

pub returns-then-n-eq0 : goal.returns-then-n-eq0
returns-then-n-eq0 c =
    every-done (row_set c.args.n c.args.down.now) 0 c.args.n (search rules) (search rules) (every-none _)

pub returns-then-all-n-gt1 : goal.returns-then-all-n-gt1
returns-then-all-n-gt1 c =
    sym (top-fails c.args.n c.args.down.now (search rules) (lt-leb _ _ c.if-all-n-gt1.true))

pub loop-i-init : goal.loop-i-init
loop-i-init c = (search rules, λ k l. absurd (not-suc-le-zero l))

pub returns-then-not-is_row_inside : goal.returns-then-not-is_row_inside
returns-then-not-is_row_inside c =
    let turn = c.loop-i in
    sym
    (row-fails c.args.n c.args.down.now (search rules) turn.i (search rules)
    (ap (λ (row : ℕ). row_inside (get_or c.args.down.now (c.args.n - 1) 0) row turn.i) (sym (get_or-take c.args.n c.args.down.now turn.i 0 (search rules))) ∙
    refuted c.is_row_inside.ensures (ap not c.if-not-is_row_inside.true)))

pub loop-i-preserved : goal.loop-i-preserved
loop-i-preserved c =
    let turn = c.loop-i in
    let ws = c.args.down.now in (
      search rules,
      below_more (λ k. row_inside (get_or ws (c.args.n - 1) 0) (get_or ws k 0) k ≡ true) turn.i turn.invariant.1
          (ap (λ (row : ℕ). row_inside (get_or ws (c.args.n - 1) 0) row turn.i) (sym (get_or-take c.args.n ws turn.i 0 (search rules))) ∙
          held c.is_row_inside.ensures (ap not c.if-not-is_row_inside.false)),
    )

pub returns : goal.returns
returns c =
    let turn = c.loop-i in
    sym
    (rows-set c.args.n c.args.down.now (search rules) (le-leb _ _ c.if-all-n-gt1.false)
    (λ k l. turn.invariant.1 k (omega arith)))
