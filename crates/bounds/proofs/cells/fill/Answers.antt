use Prim.Native.Nat.{◌+◌}
use mathlib.Core.Bool.{not}
use mathlib.Core.Path.{sym, ap, ◌∙◌}
use native.Mathlib.Omega.{arith}
use Rattle.lattice.proofs.Every.{every-none, every-fails, all-kept, refuted, held}
use Rattle.lattice.proofs.Rows.{overwrite-none, next_row}
use Rattle.bounds.proofs.Columns.{columns-begin, fill_done}
use borrow.Author.Rules.{rules}
use Rattle.bounds.proofs.cells.fill.Goals.{then-not-bound_row, else-not-bound_row}
use Rattle.bounds.proofs.cells.fill.Goals as goal

pub loop-a-init : goal.loop-a-init
loop-a-init c = (search rules, sym (every-none _), sym (overwrite-none _ _), columns-begin c.args.n c.args.words.now c.requires.0)

pub loop-a-preserved : goal.loop-a-preserved
loop-a-preserved c =
    let turn = c.loop-a in
    let row = c.bound_row in (
      search rules,
      elim c.if-not-bound_row.branch [
        | then-not-bound_row w ↦
            w.found-is ∙ sym (every-fails _ (turn.a + 1) turn.a (omega arith) (refuted row.ensures.found (ap not w.if-not-bound_row.true)))
        | else-not-bound_row w ↦ w.found-is ∙ all-kept _ turn.a _ turn.invariant.1 (held row.ensures.found (ap not w.if-not-bound_row.false))
      ],
      next_row turn.a _ _ _ _ turn.invariant.2 row.ensures.row,
      row.ensures.columns,
    )

pub returns : goal.returns
returns c =
    let turn = c.loop-a in
    (let all = fill_done c.args.n c.args.words.now turn.a _ _ _ (search rules) (search rules) turn.invariant.1 turn.invariant.2 in (record { all = all.0; rows = all.1 }))
