-- `wanted_label` meets its contract.
use mathlib.Core.Path.{◌∙◌, ap}
use Rattle.lattice.specs.Labels.{wanted_level}
use Rattle.layout.specs.Builder.{stated}
use Rattle.std.specs.Prelude.{option_map}
use Rattle.wanting.specs.declared.Meet.{Meet}
use Rattle.wanting.proofs.Wanting.{wanted-some, wanted-none}
use Rattle.wanting.proofs.wanted_label.Goals as goal

pub returns-in_err-kind : goal.returns-in_err-kind
returns-in_err-kind c = λ t ok words q k e.
    ap (option_map stated) c.from_residual.ensures ∙
    wanted-none c.args.n t (stated c.args.p) q
    (c.in_err-kind.ensures t ok words q.type k.type (ap (λ (m : Meet). m.word) e))

pub returns : goal.returns
returns c = λ t ok words q k e.
    wanted-some c.args.n t (stated c.args.p) q _
    (c.in_ok-kind.ensures t ok words q.type k.type (ap (λ (m : Meet). m.word) e))
    (c.wanted_level.ensures ∙ ap (λ (m : Meet). wanted_level 0 c.args.p.lowest m.lowest) e)
    (c.wanted_level-2.ensures ∙ ap (λ (m : Meet). wanted_level 255 c.args.p.highest m.highest) e)
