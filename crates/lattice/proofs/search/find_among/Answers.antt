use Prim.Native.Nat.{ℕ}
use mathlib.Core.Path.{ap, sym, subst, ◌∙◌}
use native.Mathlib.Omega.{arith}
use lib.ListN.{get_or}
use Rattle.lattice.specs.Words.{without, Seeking}
use Rattle.lattice.proofs.Seeking.{seek-none, seek_found, seek-less, seek-next}
use Rattle.lattice.proofs.search.find_among.Goals as goal

pub loop-left-init : goal.loop-left-init
loop-left-init c = c.requires

pub overflow_cast-result : goal.overflow_cast-result
overflow_cast-result c = omega (arith, c.end_bit-c.ensures.0)

pub returns-then-words-c : goal.returns-then-words-c
returns-then-words-c c =
    let bit = c.end_bit-c in
    seek_found c.loop-left.invariant bit.result bit.ensures.0 bit.ensures.1 c.if-words-c.true

pub loop-left-smaller : goal.loop-left-smaller
loop-left-smaller c =
    let bit = c.end_bit-c in
    let turn = c.loop-left in
    let ws = c.args.words.now in
    let next = c.without-left.ensures ∙ ap (λ (w : ℕ). without w (get_or ws bit.result 0)) c.cleared-others.ensures in
    omega (arith, next, seek-less turn.invariant bit.result bit.ensures.0 bit.ensures.1)

pub loop-left-preserved : goal.loop-left-preserved
loop-left-preserved c =
    let bit = c.end_bit-c in
    let turn = c.loop-left in
    let ws = c.args.words.now in
    let next = c.without-left.ensures ∙ ap (λ (w : ℕ). without w (get_or ws bit.result 0)) c.cleared-others.ensures in
    subst (Seeking ws c.args.word) (sym next)
    (seek-next turn.invariant bit.result bit.ensures.0 bit.ensures.1 c.if-words-c.false)

pub returns : goal.returns
returns c = seek-none c.loop-left.invariant c.loop-left-test.false
