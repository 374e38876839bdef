-- `difference` meets its contract: it lends as many fresh bytes for marks as s has words.
use mathlib.Core.Path.{sym}
use native.Mathlib.Omega.{arith}
use Rattle.difference.proofs.Answering.{marks-fresh}
use Rattle.difference.proofs.difference.Goals as goal

pub slice_bounds-difference_in-end : goal.slice_bounds-difference_in-end
slice_bounds-difference_in-end c = sym (marks-fresh 768 c.args.s.now (omega (arith, c.if-words-le-SHORT.true)))

pub difference_in-requires : goal.difference_in-requires
difference_in-requires c =
    (record { comparable = (c.requires.0, c.requires.1); g_len = (c.requires.2, marks-fresh 768 c.args.s.now (omega (arith, c.if-words-le-SHORT.true))) })

pub slice_bounds-difference_in-end-2 : goal.slice_bounds-difference_in-end-2
slice_bounds-difference_in-end-2 c = sym (marks-fresh 2815 c.args.s.now c.requires.0.short)

pub difference_in-requires-2 : goal.difference_in-requires-2
difference_in-requires-2 c =
    (record { comparable = (c.requires.0, c.requires.1); g_len = (c.requires.2, marks-fresh 2815 c.args.s.now c.requires.0.short) })
