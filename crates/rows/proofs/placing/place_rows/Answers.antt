use mathlib.Core.Path.{◌≡◌, sym, ◌∙◌}
use native.Mathlib.Omega.{arith}
use Prim.Native.Nat.{ℕ, ◌+◌}
use lib.ListN.{get_or}
use borrow.Author.Rules.{rules}
use Rattle.rows.specs.Rows.{no_row}
use Rattle.rows.specs.Placing.{slot}
use Rattle.rows.proofs.Placed.{placed-start, placed-again, placed-stop, placed_end, placed-length}
use Rattle.rows.proofs.placing.place_rows.Goals as goal

pub loop-row-init : goal.loop-row-init
loop-row-init c = (c.requires.targets_len, placed-start c.args.targets.now c.requires.all_near.1)

pub place-requires : goal.place-requires
place-requires c = (c.requires.all_near.0 c.loop-row.row-index (search rules), c.loop-row.invariant.0)

pub returns-then-not-place : goal.returns-then-not-place
returns-then-not-place c = (
  placed-stop c.args.rows.now no_row c.loop-row.row-index c.loop-row.targets c.loop-row.invariant.1 (search rules)
      (c.requires.all_near.0 c.loop-row.row-index (search rules)) (sym c.place.ensures.0 ∙ c.if-not-place.true),
  λ e. let z : ◌≡◌ {A = ℕ} 0 1 = cc in absurd (omega arith),
  placed-length c.place.result c.loop-row.targets (slot (get_or c.args.rows.now c.loop-row.row-index no_row)) ((get_or c.args.rows.now c.loop-row.row-index no_row).target + 1) c.place.ensures.1
      ∙ c.loop-row.invariant.0,
)

pub loop-row-preserved : goal.loop-row-preserved
loop-row-preserved c =
    placed-again c.args.rows.now no_row c.loop-row.row-index c.loop-row.targets c.place.new.targets c.place.result c.loop-row.invariant.0 c.loop-row.invariant.1 (search rules)
    (c.requires.all_near.0 c.loop-row.row-index (search rules)) c.place.ensures c.if-not-place.false

pub returns : goal.returns
returns c =
    let ends = placed_end c.args.rows.now no_row c.loop-row.row-index c.loop-row.targets c.loop-row.invariant.1 (search rules) in
    (ends.0, ends.1, c.loop-row.invariant.0)
