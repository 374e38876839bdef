use borrow.Author.Rules.{rules}
use Prim.Native.Nat.{◌+◌, ◌-◌}
use native.Mathlib.Omega.{arith}
use mathlib.Core.Path.{sym, ap, subst, ◌∙◌}
use Rattle.lattice.specs.Label.{Label, plain}
use Rattle.lattice.specs.Labels.{table_labels}
use Rattle.lattice.proofs.Lawful.{known_more}
use Rattle.keeping.specs.Keeping.{Grown, Untop}
use Rattle.keeping.proofs.Keeping.{untop-start, untop-yes, untop-no, untop-done}
use Rattle.keeping.proofs.keep.keep_labelled.Goals.{then-not-is_label_below, else-not-is_label_below}
use Rattle.keeping.proofs.keep.keep_labelled.Goals as goal

pub loop-v-init : goal.loop-v-init
loop-v-init c = (
  search rules,
  untop-start c.args.n c.args.table.now c.args.labels.now
      c.requires.4,
)

pub label_from-label-requires : goal.label_from-label-requires
label_from-label-requires c =
    let labels = c.requires.3 in
    (omega (arith, labels.long, c.loop-v-test.true, c.requires.2), known_more (omega (arith, c.requires.1)) (labels.known c.loop-v.v c.loop-v-test.true))

pub is_label_below-requires : goal.is_label_below-requires
is_label_below-requires c =
    (search rules, omega (arith, ap (λ (l : Label). l.type) c.label_from-label.ensures, (c.requires.3.known c.loop-v.v c.loop-v-test.true).type, c.requires.1))

pub loop-v-preserved : goal.loop-v-preserved
loop-v-preserved c =
    let is = c.is_label_below.ensures c.args.n ∙ ap ((table_labels c.args.n c.args.table.now).le (plain (c.args.n - 1))) c.label_from-label.ensures in
    elim c.if-not-is_label_below.branch [
      | then-not-is_label_below w ↦ (
        search rules,
        subst (Grown (Untop c.args.n c.args.table.now c.args.labels.now (c.loop-v.v + 1)) c.args.keep.now) (sym w.keep-is)
            (untop-yes c.args.n c.args.table.now c.args.labels.now c.loop-v.v c.loop-v.invariant.1 (search rules) (sym is ∙ w.if-not-is_label_below.true)),
      )
      | else-not-is_label_below w ↦ (
        search rules,
        subst (Grown (Untop c.args.n c.args.table.now c.args.labels.now (c.loop-v.v + 1)) c.args.keep.now) (sym w.keep-is)
            (untop-no c.args.n c.args.table.now c.args.labels.now c.loop-v.v c.loop-v.invariant.1 (sym is ∙ w.if-not-is_label_below.false)),
      )
    ]

pub returns : goal.returns
returns c =
    untop-done c.args.n c.args.table.now c.args.labels.now c.loop-v.v c.args.nodes
    c.loop-v.invariant.1 c.loop-v.invariant.0 c.loop-v-test.false
