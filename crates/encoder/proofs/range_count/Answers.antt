-- `range_count` meets its contract, for each kind of range.
use mathlib.Core.Path.{sym, ◌∙◌}
use Rattle.layout.specs.Builder.{stated}
use Rattle.encoder.proofs.LabelBytes.{full-count, ranged-count}
use Rattle.encoder.proofs.range_count.Goals as goal

pub returns-then-is_full : goal.returns-then-is_full
returns-then-is_full c = sym (full-count (stated c.args.label) (sym c.is_full.ensures ∙ c.if-is_full.true))

pub returns : goal.returns
returns c = sym (ranged-count (stated c.args.label) (sym c.is_full.ensures ∙ c.if-is_full.false))
