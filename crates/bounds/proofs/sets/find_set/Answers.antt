use mathlib.Core.Path.{sym, subst}
use native.Mathlib.Omega.{arith}
use Rattle.bounds.specs.Sets.{Among}
use Rattle.lattice.proofs.Bits.{cleared-less}
use Rattle.bounds.proofs.Held.{among_next, among-found, among_none}
use Rattle.bounds.proofs.sets.find_set.Goals as goal

pub loop-left-init : goal.loop-left-init
loop-left-init c = λ n few a. a

pub returns-then-sets-c : goal.returns-then-sets-c
returns-then-sets-c c =
    let turn = c.loop-left in
    let bit = c.end_bit-c in
    λ n few a. among-found (turn.invariant n few a) bit.result bit.ensures.0 bit.ensures.1 c.if-sets-c.true

pub loop-left-smaller : goal.loop-left-smaller
loop-left-smaller c =
    let turn = c.loop-left in
    let bit = c.end_bit-c in
    omega (arith, c.cleared-left.ensures, cleared-less turn.left bit.result bit.ensures.1)

pub loop-left-preserved : goal.loop-left-preserved
loop-left-preserved c =
    let turn = c.loop-left in
    let bit = c.end_bit-c in
    λ n few a.
    subst (Among n c.args.sets.now c.args.set) (sym c.cleared-left.ensures)
    (among_next (turn.invariant n few a) bit.result c.if-sets-c.false)

pub returns : goal.returns
returns c = λ n few a. among_none (c.loop-left.invariant n few a) c.loop-left-test.false
