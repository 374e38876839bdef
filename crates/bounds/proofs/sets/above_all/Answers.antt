use Prim.Native.Nat.{ℕ, ◌^◌}
use mathlib.Core.Path.{refl, sym, ap, subst, ◌∙◌}
use native.Mathlib.Omega.{arith}
use Rattle.lattice.specs.Words.{without}
use Rattle.lattice.proofs.Bits.{cleared-less}
use Rattle.bounds.proofs.Held.{Gathering, gather-begin, gather-next}
use Rattle.bounds.proofs.sets.above_all.Goals as goal

pub loop-left-init : goal.loop-left-init
loop-left-init c =
    let bit = c.end_bit-first in
    subst (Gathering c.args.sets.now c.args.set _) (sym c.without_lowest-left.ensures)
    (gather-begin c.args.sets.now c.args.set bit.result _ bit.ensures.0 bit.ensures.1)

pub loop-left-smaller : goal.loop-left-smaller
loop-left-smaller c =
    let turn = c.loop-left in
    let bit = c.end_bit-j in
    let next = c.without_lowest-left-in-loop-left.ensures ∙ ap (λ (j : ℕ). without turn.left (2 ^ j)) (sym (bit.ensures.2 refl)) in
    omega (arith, next, cleared-less turn.left bit.result bit.ensures.1)

pub loop-left-preserved : goal.loop-left-preserved
loop-left-preserved c =
    let turn = c.loop-left in
    let bit = c.end_bit-j in
    subst (Gathering c.args.sets.now c.args.set _) (sym c.without_lowest-left-in-loop-left.ensures)
    (gather-next _ bit.result turn.invariant bit.ensures.0 bit.ensures.1)

pub returns : goal.returns
returns c = c.loop-left.invariant.above
