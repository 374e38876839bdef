-- `put_label` meets its contract, for each kind of range.
use mathlib.Core.Path.{◌≡◌, sym, ◌∙◌}
use mathlib.Core.Bool.{true, false}
use native.Mathlib.Omega.{arith}
use lib.ListN.{length-set}
use Rattle.layout.specs.Builder.{stated}
use Rattle.encoder.specs.Encode.{is_full}
use Rattle.encoder.proofs.LabelBytes.{full-length, full-stored, ranged-length, ranged-stored}
use Rattle.encoder.proofs.put_label.Goals as goal

pub bounds-out-at : goal.bounds-out-at
bounds-out-at c =
    omega (
      arith,
      c.requires.label_in_bounds,
      full-length (stated c.args.label) (sym c.is_full.ensures ∙ c.if-is_full.true),
    )

pub returns-then-is_full : goal.returns-then-is_full
returns-then-is_full c =
    let full : is_full (stated c.args.label) ≡ true = sym c.is_full.ensures ∙ c.if-is_full.true in
    (record { value = omega (arith, full-length (stated c.args.label) full); out_after = full-stored (stated c.args.label) c.args.out.now c.args.at full })

pub overflow_add-out : goal.overflow_add-out
overflow_add-out c = omega (arith, c.requires.kind_bound)

pub bounds-out-at-2 : goal.bounds-out-at-2
bounds-out-at-2 c =
    omega (
      arith,
      c.requires.label_in_bounds,
      ranged-length (stated c.args.label) (sym c.is_full.ensures ∙ c.if-is_full.false),
    )

pub bounds-out-at-3 : goal.bounds-out-at-3
bounds-out-at-3 c =
    simp length-set (omega (
      arith,
      c.requires.label_in_bounds,
      ranged-length (stated c.args.label) (sym c.is_full.ensures ∙ c.if-is_full.false),
    ))

pub bounds-out-at-4 : goal.bounds-out-at-4
bounds-out-at-4 c =
    simp length-set (omega (
      arith,
      c.requires.label_in_bounds,
      ranged-length (stated c.args.label) (sym c.is_full.ensures ∙ c.if-is_full.false),
    ))

pub returns : goal.returns
returns c =
    let ranged : is_full (stated c.args.label) ≡ false = sym c.is_full.ensures ∙ c.if-is_full.false in
    (record { value = omega (arith, ranged-length (stated c.args.label) ranged); out_after = ranged-stored (stated c.args.label) c.args.out.now c.args.at ranged })
