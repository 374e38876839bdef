use Prim.Native.Nat.{◌+◌}
use mathlib.Core.Bool.{true, false, not}
use mathlib.Core.Path.{refl, sym, ap, ◌∙◌}
use native.Mathlib.Omega.{arith}
use Rattle.lattice.proofs.Every.{every-fails, all-kept, every-end}
use Rattle.lattice.proofs.Rows.{holder-found, answer-cell}
use Rattle.bounds.proofs.Columns.{filling-begins, filling-more, filling-ends, none-tested, is-tested}
use borrow.Author.Rules.{rules}
use Rattle.bounds.proofs.cells.bound_row.Goals.{then-is_none, else-is_none}
use Rattle.bounds.proofs.cells.bound_row.Goals as goal

pub loop-b-init : goal.loop-b-init
loop-b-init c = (
  search rules,
  search rules,
  filling-begins c.args.n c.args.words.now c.args.rows.now c.args.a c.requires.0 c.requires.3,
  none-tested c.args.a _,
)

pub loop-b-preserved : goal.loop-b-preserved
loop-b-preserved c =
    let turn = c.loop-b in
    let n = c.args.n in
    let ws = c.args.words.now in
    let a = c.args.a in
    let answer = c.bound-c.ensures n c.requires.1 c.requires.2 c.requires.0 (search rules) in
    let told = holder-found n ws _ _ _ refl answer in (
      search rules,
      search rules,
      filling-more n ws turn.rows a turn.b _ c.requires.1 turn.invariant.0 (search rules) (c.unwrap_or-cell.ensures ∙ answer-cell _ _ answer) turn.invariant.2,
      elim c.if-is_none.branch [
        | then-is_none w ↦
            w.found-is ∙
            sym (every-fails _ (turn.b + 1) turn.b (omega arith)
            (is-tested a turn.b _ false turn.invariant.0 (sym told ∙ c.is_none.ensures ∙ ap not w.if-is_none.true)))
        | else-is_none w ↦
            w.found-is ∙ all-kept _ turn.b _ turn.invariant.3 (is-tested a turn.b _ true turn.invariant.0 (sym told ∙ c.is_none.ensures ∙ ap not w.if-is_none.false))
      ],
    )

pub returns : goal.returns
returns c =
    let turn = c.loop-b in
    let n = c.args.n in
    let done =
    filling-ends n c.args.words.now turn.rows c.args.a turn.b c.requires.1 c.requires.0 (search rules)
    (search rules) turn.invariant.2 in
    record { found = every-end _ turn.b n _ (search rules) (search rules) turn.invariant.3; row = done.0; columns = done.1 }
