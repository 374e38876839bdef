use native.Mathlib.Omega.{arith}
use mathlib.Core.Path.{refl}
use borrow.Author.Rules.{rules}
use Rattle.graphs.proofs.Search.{true-false}
use Rattle.keeping.proofs.Keeping.{none-next}
use Rattle.keeping.proofs.keep.has_kept_link.Goals as goal

pub loop-k-init : goal.loop-k-init
loop-k-init c = (search rules, λ i low high. absurd (omega arith))

pub is_kept-requires : goal.is_kept-requires
is_kept-requires c =
    (record { marks_len = (c.requires.marks_len.0, c.requires.marks_len.1); k_in_bounds = (search rules, c.requires.by_index c.loop-k.k c.loop-k.invariant.0 c.loop-k-test.true) })

pub returns-then-is_kept : goal.returns-then-is_kept
returns-then-is_kept c =
    record { yes-stands = λ e. (c.loop-k.k, c.loop-k.invariant.0, c.loop-k-test.true, c.is_kept.ensures.yes-stands c.if-is_kept.true); no-stands = λ e. true-false refl e }

pub loop-k-preserved : goal.loop-k-preserved
loop-k-preserved c =
    (search rules, none-next c.loop-k.invariant.1 (c.is_kept.ensures.no-stands c.if-is_kept.false))

pub returns : goal.returns
returns c =
    record { yes-stands = λ e. true-false e refl; no-stands = λ e o. c.loop-k.invariant.1 o.0 o.1 (omega (arith, o.2, c.loop-k-test.false)) o.3 }
