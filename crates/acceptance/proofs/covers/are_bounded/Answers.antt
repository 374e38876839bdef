use mathlib.Core.Path.{sym, subst}
use native.Mathlib.Nat.{not-suc-le-zero}
use Rattle.lattice.specs.Words.{BoundsWithin}
use borrow.Author.Rules.{rules}
use Rattle.acceptance.proofs.Covering.{covered-inside, covers_more, covers-bounded}
use Rattle.acceptance.proofs.covers.are_bounded.Goals as goal

pub loop-i-init : goal.loop-i-init
loop-i-init c = (search rules, λ z l. absurd (not-suc-le-zero l))

pub covers_of-requires : goal.covers_of-requires
covers_of-requires c =
    let side = c.requires.1.sided in
    (search rules, search rules, record { own = side.own; inside = side.inside })

pub returns-in_default : goal.returns-in_default
returns-in_default c = absurd (c.in_default.ensures.1 c.requires.1)

pub returns-then-not-are_bounded_within : goal.returns-then-not-are_bounded_within
returns-then-not-are_bounded_within c =
    let turn = c.loop-i in
    let covers = c.in-Some.ensures.1 c.requires.1 in
    let inside = covered-inside c.args.n c.args.down.now turn.i _ (search rules) c.requires.1.sided covers in
    let told = c.are_bounded_within.ensures c.args.n c.requires.0 c.requires.1.sided inside in
    sym (told.no-stands c.if-not-are_bounded_within.true)

pub loop-i-preserved : goal.loop-i-preserved
loop-i-preserved c =
    let turn = c.loop-i in
    let covers = c.in-Some.ensures.1 c.requires.1 in
    let inside = covered-inside c.args.n c.args.down.now turn.i _ (search rules) c.requires.1.sided covers in
    let told = c.are_bounded_within.ensures c.args.n c.requires.0 c.requires.1.sided inside in (
      search rules,
      covers_more c.args.n c.args.down.now turn.i _ turn.invariant.1 covers
          (subst (BoundsWithin c.args.n c.args.down.now _) c.if-not-are_bounded_within.false told),
    )

pub returns : goal.returns
returns c =
    let turn = c.loop-i in
    covers-bounded c.args.n c.args.down.now c.requires.0 c.requires.1 turn.i (search rules) turn.invariant.0 turn.invariant.1
