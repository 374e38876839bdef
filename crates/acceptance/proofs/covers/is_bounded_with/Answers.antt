use Prim.Native.Nat.{ℕ, ◌^◌}
use mathlib.Core.Path.{refl, sym, ap, subst, ◌∙◌}
use native.Mathlib.Omega.{arith}
use mathlib.Core.Bool.{not}
use Rattle.lattice.specs.Words.{without}
use Rattle.lattice.proofs.Bits.{cleared-less}
use Rattle.lattice.proofs.Rows.{holder-found}
use Rattle.lattice.proofs.Seeking.{common-inside}
use Rattle.acceptance.proofs.Covering.{Tested, tested-begin, tested-next, tested-end, tested-fails}
use Rattle.acceptance.proofs.covers.is_bounded_with.Goals as goal

pub loop-left-init : goal.loop-left-init
loop-left-init c = λ n la few side in-n. tested-begin n c.args.down.now _ _

pub returns-then-is_none : goal.returns-then-is_none
returns-then-is_none c n la few side in-n =
    let turn = c.loop-left in
    let bit = c.end_bit-b in
    let ws = c.args.down.now in
    let b = in-n bit.result bit.ensures.0 ((turn.invariant n la few side in-n).part bit.result bit.ensures.0 bit.ensures.1) in
    let told =
    holder-found n ws _ _ _ refl (c.find_word.ensures n few side (common-inside n ws c.args.a bit.result la side)) in
    tested-fails n ws c.args.a c.args.word bit.result la b (sym told ∙ c.is_none.ensures ∙ ap not c.if-is_none.true)

pub loop-left-smaller : goal.loop-left-smaller
loop-left-smaller c =
    let turn = c.loop-left in
    let bit = c.end_bit-b in
    let next = c.without_lowest-left.ensures ∙ ap (λ (j : ℕ). without turn.left (2 ^ j)) (sym (bit.ensures.2 refl)) in
    omega (arith, next, cleared-less turn.left bit.result bit.ensures.1)

pub loop-left-preserved : goal.loop-left-preserved
loop-left-preserved c n la few side in-n =
    let turn = c.loop-left in
    let bit = c.end_bit-b in
    let ws = c.args.down.now in
    let next = c.without_lowest-left.ensures ∙ ap (λ (j : ℕ). without turn.left (2 ^ j)) (sym (bit.ensures.2 refl)) in
    let told =
    holder-found n ws _ _ _ refl (c.find_word.ensures n few side (common-inside n ws c.args.a bit.result la side)) in
    subst (λ (w : ℕ). Tested n ws c.args.a c.args.word w) (sym next)
    (tested-next n ws c.args.a c.args.word turn.left bit.result (turn.invariant n la few side in-n)
    (sym told ∙ c.is_none.ensures ∙ ap not c.if-is_none.false))

pub returns : goal.returns
returns c n la few side in-n = tested-end n _ _ _ _ c.loop-left-test.false (c.loop-left.invariant n la few side in-n)
