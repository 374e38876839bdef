-- `peeling::is_label_in_range` meets its contract, test by test.
use mathlib.Core.Path.{ap, sym, ◌∙◌}
use mathlib.Core.Bool.{not}
use native.Mathlib.Omega.{arith}
use borrow.Author.Tests.{le-leb}
use Rattle.lattice.specs.Label.{Label}
use Rattle.layout.specs.Builder.{stated}
use Rattle.peeling.proofs.Range.{zero-out, over-out, levels-decide}
use Rattle.peeling.proofs.is_label_in_range.Goals as goal

pub returns-then-not-ranged : goal.returns-then-not-ranged
returns-then-not-ranged c =
    let l : Label = stated c.args.label in
    ap not c.if-not-ranged.true ∙ sym (le-leb l.lowest l.highest (c.requires c.if-not-ranged.true)) ∙
    levels-decide c.args.n l (λ e. omega (arith, e, c.if-kind-n.true.0)) c.if-kind-n.true.1 (omega (arith, c.well_formed))

pub returns-else-not-ranged : goal.returns-else-not-ranged
returns-else-not-ranged c =
    levels-decide c.args.n (stated c.args.label) (λ e. omega (arith, e, c.if-kind-n.true.0)) c.if-kind-n.true.1 (omega (arith, c.well_formed))

pub returns-else-kind-n : goal.returns-else-kind-n
returns-else-kind-n c =
    let zero = zero-out c.args.n (stated c.args.label) in
    let over = over-out c.args.n (stated c.args.label) in
    grind arith
