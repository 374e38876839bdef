use Prim.Native.Nat.{ℕ, ◌^◌, ◌<◌}
use lib.ListN.{set}
use mathlib.Core.Path.{refl, sym, ap, subst, ◌∙◌}
use native.Mathlib.Omega.{arith}
use Rattle.lattice.specs.Words.{without, Spread}
use Rattle.lattice.proofs.Bits.{cleared-less}
use Rattle.lattice.proofs.Turning.{spread-begin, spread-kept, spread-next}
use Rattle.lattice.proofs.words.spread.Goals as goal

pub loop-left-init : goal.loop-left-init
loop-left-init c = spread-begin _ _ _ c.requires.1

pub bounds-res-i : goal.bounds-res-i
bounds-res-i c = omega (arith, c.end_bit-i.ensures.0, c.loop-left.invariant.long)

pub with_bit-requires : goal.with_bit-requires
with_bit-requires c =
    let turn = c.loop-left in
    let bit = c.end_bit-i in
    (c.requires.0, subst (λ (x : ℕ). x < 2 ^ c.args.j) (sym (spread-kept _ _ _ turn.left turn.res turn.invariant bit.result bit.ensures.0 bit.ensures.1)) (c.requires.2 bit.result bit.ensures.0))

pub loop-left-smaller : goal.loop-left-smaller
loop-left-smaller c =
    let turn = c.loop-left in
    let bit = c.end_bit-i in
    let next = c.without_lowest-left.ensures ∙ ap (λ (j : ℕ). without turn.left (2 ^ j)) (sym (bit.ensures.2 refl)) in
    omega (arith, next, cleared-less turn.left bit.result bit.ensures.1)

pub loop-left-preserved : goal.loop-left-preserved
loop-left-preserved c =
    let turn = c.loop-left in
    let bit = c.end_bit-i in
    let next = c.without_lowest-left.ensures ∙ ap (λ (j : ℕ). without turn.left (2 ^ j)) (sym (bit.ensures.2 refl)) in
    subst (λ (w : ℕ). Spread c.args.word c.args.j c.args.res.now w (set turn.res bit.result c.with_bit.result)) (sym next)
    (spread-next _ _ _ turn.left turn.res turn.invariant bit.result c.with_bit.result bit.ensures.0 bit.ensures.1 c.with_bit.ensures)

pub returns : goal.returns
returns c = subst (λ (w : ℕ). Spread c.args.word c.args.j c.args.res.now w c.loop-left.res) c.loop-left-test.false c.loop-left.invariant
