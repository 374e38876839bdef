-- `mark_links` meets its contract: it lends as many fresh words for owners as s has words.
use mathlib.Core.Path.{sym}
use native.Mathlib.Omega.{arith}
use Rattle.cover.proofs.Covering.{unowned-fresh}
use Rattle.groups.proofs.mark_links.Goals as goal

pub slice_bounds-mark_owned-end : goal.slice_bounds-mark_owned-end
slice_bounds-mark_owned-end c = sym (unowned-fresh 768 c.args.s.now (omega (arith, c.if-words-le-SHORT.true))).long

pub mark_owned-requires : goal.mark_owned-requires
mark_owned-requires c =
    (record { lying = (c.requires.0, c.requires.1); unowned = (unowned-fresh 768 c.args.s.now (omega (arith, c.if-words-le-SHORT.true)), c.requires.2) })

pub slice_bounds-mark_owned-end-2 : goal.slice_bounds-mark_owned-end-2
slice_bounds-mark_owned-end-2 c = sym (unowned-fresh 2815 c.args.s.now c.requires.0.short).long

pub mark_owned-requires-2 : goal.mark_owned-requires-2
mark_owned-requires-2 c =
    (record { lying = (c.requires.0, c.requires.1); unowned = (unowned-fresh 2815 c.args.s.now c.requires.0.short, c.requires.2) })
