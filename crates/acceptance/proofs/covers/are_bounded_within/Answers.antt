use Prim.Native.Nat.{ℕ, ◌^◌}
use mathlib.Core.Path.{refl, sym, ap, subst, ◌∙◌}
use native.Mathlib.Omega.{arith}
use mathlib.Core.Bool.{true}
use Rattle.lattice.specs.Words.{without, Inside, BoundsWith}
use Rattle.lattice.proofs.Seeking.{without-inside}
use Rattle.lattice.proofs.Bits.{cleared-less}
use Rattle.acceptance.proofs.Covering.{Paired, paired-begin, paired-next, paired-end, paired-fails}
use Rattle.acceptance.proofs.covers.are_bounded_within.Goals as goal

pub loop-left-init : goal.loop-left-init
loop-left-init c n few side in-n = paired-begin n _ _

pub returns-then-not-is_bounded_with : goal.returns-then-not-is_bounded_with
returns-then-not-is_bounded_with c n few side in-n =
    let turn = c.loop-left in
    let bit = c.end_bit-a in
    let inv = turn.invariant n few side in-n in
    let next = c.without_lowest-left.ensures ∙ ap (λ (j : ℕ). without turn.left (2 ^ j)) (sym (bit.ensures.2 refl)) in
    let in_left = subst (Inside n) (sym next) (without-inside n turn.left _ (λ j l e. in-n j l (inv.part j l e))) in
    let in-word = in-n bit.result bit.ensures.0 (inv.part bit.result bit.ensures.0 bit.ensures.1) in
    let told = c.is_bounded_with.ensures n in-word few side in_left in
    paired-fails n _ _ (told.no-stands c.if-not-is_bounded_with.true)

pub loop-left-smaller : goal.loop-left-smaller
loop-left-smaller c =
    let turn = c.loop-left in
    let bit = c.end_bit-a in
    let next = c.without_lowest-left.ensures ∙ ap (λ (j : ℕ). without turn.left (2 ^ j)) (sym (bit.ensures.2 refl)) in
    omega (arith, next, cleared-less turn.left bit.result bit.ensures.1)

pub loop-left-preserved : goal.loop-left-preserved
loop-left-preserved c n few side in-n =
    let turn = c.loop-left in
    let bit = c.end_bit-a in
    let inv = turn.invariant n few side in-n in
    let next = c.without_lowest-left.ensures ∙ ap (λ (j : ℕ). without turn.left (2 ^ j)) (sym (bit.ensures.2 refl)) in
    let in_left = subst (Inside n) (sym next) (without-inside n turn.left _ (λ j l e. in-n j l (inv.part j l e))) in
    let stands = inv.part bit.result bit.ensures.0 bit.ensures.1 in
    let in-word = in-n bit.result bit.ensures.0 stands in
    let told = c.is_bounded_with.ensures n in-word few side in_left in
    let ws = c.args.down.now in
    let yes = c.if-not-is_bounded_with.false in
    subst (λ (w : ℕ). Paired n ws c.args.word w) (sym next)
    (paired-next n ws c.args.word turn.left bit.result bit.ensures.0 in-word stands inv
    (subst (λ (w : ℕ). BoundsWith n ws bit.result w true) next
    (subst (BoundsWith n ws bit.result c.without_lowest-left.result) yes told)))

pub returns : goal.returns
returns c n few side in-n = paired-end n _ _ _ c.loop-left-test.false (c.loop-left.invariant n few side in-n)
