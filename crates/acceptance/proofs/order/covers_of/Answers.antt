use Prim.Native.Nat.{ℕ, ◌*◌, ◌%◌, ◌^◌}
use mathlib.Core.Path.{sym, ap, ap₂, subst, ◌∙◌}
use native.Mathlib.Omega.{arith}
use lib.ListN.{get_or}
use lib.Bits.{bit_or}
use borrow.Author.Tests.{eq-eqb, ne_eqb}
use Rattle.lattice.specs.Words.{without, part_of}
use Rattle.lattice.proofs.WordLaws.{shifted}
use Rattle.acceptance.proofs.Spanning.{Spanning, span-begin, span_less, span-next, span-end, span-fails}
use Rattle.acceptance.proofs.order.covers_of.Goals as goal

pub loop-left-init : goal.loop-left-init
loop-left-init c =
    subst (λ (w : ℕ). Spanning c.args.n c.args.down.now c.args.i w 0) (sym c.cleared-lower.ensures) (span-begin c.requires.0)

pub returns-then-below-lower : goal.returns-then-below-lower
returns-then-below-lower c =
    let turn = c.loop-left in
    let bit = c.end_bit-c in
    let below = get_or c.args.down.now bit.result 0 in
    span-fails c.requires.0 turn.invariant bit.result bit.ensures.0 bit.ensures.1 c.requires.1 c.requires.2
    (ap (part_of below) (sym c.cleared-lower.ensures) ∙ ne_eqb _ _ c.if-below-lower.true)

pub loop-left-smaller : goal.loop-left-smaller
loop-left-smaller c =
    let turn = c.loop-left in
    let bit = c.end_bit-c in
    omega (arith, c.without-left.ensures, span_less c.requires.0 turn.invariant bit.result bit.ensures.0 bit.ensures.1 c.requires.2)

pub loop-left-preserved : goal.loop-left-preserved
loop-left-preserved c =
    let turn = c.loop-left in
    let bit = c.end_bit-c in
    let ws = c.args.down.now in
    let below = get_or ws bit.result 0 in
    let part = ap (part_of below) (sym c.cleared-lower.ensures) ∙ eq-eqb _ _ c.if-below-lower.false in
    let next = span-next c.requires.0 turn.invariant bit.result bit.ensures.0 bit.ensures.1 part in
    let word = ap₂ bit_or c.without.ensures (shifted bit.result bit.ensures.0) in
    subst (λ (w : ℕ). Spanning c.args.n ws c.args.i w (bit_or c.without.result (1 * 2 ^ bit.result % 2 ^ 64)))
    (sym c.without-left.ensures)
    (subst (Spanning c.args.n ws c.args.i (without turn.left below)) (sym word) next)

pub returns : goal.returns
returns c = span-end c.requires.0 c.loop-left-test.false c.loop-left.invariant
