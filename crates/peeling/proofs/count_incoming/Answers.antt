use mathlib.Core.Path.{sym, ◌∙◌, ap, subst}
use Prim.Native.Nat.{◌≤◌}
use native.Mathlib.Omega.{arith}
use borrow.Author.Rules.{rules}
use Rattle.lattice.specs.Label.{Label}
use Rattle.peeling.specs.Range.{label_in_range}
use Rattle.peeling.proofs.Counting.{passed_none, passed-more, passed-all, label-out, target-out}
use Rattle.peeling.proofs.count_incoming.Goals as goal

pub size-v-end-requires : goal.size-v-end-requires
size-v-end-requires c = let shaped = c.requires.counted.shaped in omega (arith, (shaped.node 0 shaped.nonempty).listed)

pub loop-v-init : goal.loop-v-init
loop-v-init c = (search rules, passed_none _ c.requires.counted)

pub label_at-requires : goal.label_at-requires
label_at-requires c = (c.loop-v.invariant.1.counted.shaped, (rw c.size-v-end.ensures at c.loop-v-test.true))

pub is_label_in_range-requires : goal.is_label_in_range-requires
is_label_in_range-requires c = λ unranged.
    subst (λ (l : Label). l.lowest ≤ l.highest) (sym c.label_at.ensures)
    (c.requires.levels_ordered unranged c.loop-v.v (rw c.size-v-end.ensures at c.loop-v-test.true))

pub returns-then-not-is_label_in_range : goal.returns-then-not-is_label_in_range
returns-then-not-is_label_in_range c =
    let tested = c.is_label_in_range in
    label-out (rw c.size-v-end.ensures at c.loop-v-test.true)
    (sym (ap (label_in_range c.args.n) c.label_at.ensures) ∙ sym tested.ensures ∙ c.if-not-is_label_in_range.true)

pub count_row-requires : goal.count_row-requires
count_row-requires c = (record { v_bound = (rw c.size-v-end.ensures at c.loop-v-test.true); counted = c.loop-v.invariant.1.counted })

pub returns-then-not-count_row : goal.returns-then-not-count_row
returns-then-not-count_row c =
    target-out (rw c.size-v-end.ensures at c.loop-v-test.true) c.count_row.ensures
    c.if-not-count_row.true

pub loop-v-smaller : goal.loop-v-smaller
loop-v-smaller c = omega arith

pub loop-v-preserved : goal.loop-v-preserved
loop-v-preserved c =
    let tested = c.is_label_in_range in (
      search rules,
      passed-more c.loop-v.invariant.1
          (sym (ap (label_in_range c.args.n) c.label_at.ensures) ∙ sym tested.ensures
          ∙ c.if-not-is_label_in_range.false)
          c.count_row.ensures c.if-not-count_row.false,
    )

pub returns : goal.returns
returns c = passed-all c.loop-v.invariant.1 (omega (arith, c.loop-v.invariant.0, c.size-v-end.ensures, c.loop-v-test.false))
