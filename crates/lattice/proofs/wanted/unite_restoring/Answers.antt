use Prim.Native.Nat.{ℕ, ◌+◌}
use mathlib.Core.Path.{sym, ap, subst, ◌∙◌}
use lib.Bits.{bit_and, bit_or}
use Rattle.std.proofs.Common.{get_or-take}
use Rattle.lattice.specs.Words.{Restoring}
use Rattle.lattice.proofs.Restoring.{restoring_none, restoring-more, restoring-kept, restoring-done}
use borrow.Author.Rules.{rules}
use Rattle.lattice.proofs.wanted.unite_restoring.Goals.{then-row-over, else-row-over}
use Rattle.lattice.proofs.wanted.unite_restoring.Goals as goal

pub loop-row-init : goal.loop-row-init
loop-row-init c =
    let start = c.args in
    (search rules, restoring_none start.down.now start.lower start.over)

pub loop-row-preserved : goal.loop-row-preserved
loop-row-preserved c =
    let turn = c.loop-row in
    let ws = c.args.down.now in
    let lower = c.args.lower in
    let over = c.args.over in
    let same = get_or-take c.args.n ws turn.row-index 0 (search rules) in
    let shared = ap (λ (row : ℕ). bit_and row over) same in
    let next = Restoring (turn.row-index + 1) ws lower over in (
      search rules,
      elim c.if-row-over.branch [
        | then-row-over w ↦
            subst next (sym (w.all-is ∙ ap (bit_or turn.all) same))
            (restoring-more ws lower over turn.row-index turn.all turn.invariant.1 (sym shared ∙ w.if-row-over.true))
        | else-row-over w ↦
            subst next (sym w.all-is) (restoring-kept ws lower over turn.row-index turn.all turn.invariant.1 λ e. w.if-row-over.false (shared ∙ e))
      ],
    )

pub returns : goal.returns
returns c =
    let turn = c.loop-row in
    let start = c.args in
    restoring-done start.down.now start.lower start.over turn.row-index turn.all turn.invariant.1 start.n (search rules) (search rules)
