-- `reason_of` meets its contract, by its arms.
use mathlib.Core.Path.{sym, ◌∙◌}
use Rattle.groups.proofs.LinkMarks.{two-bare, bare-two}
use Rattle.reasons.proofs.Explaining.{reason-one, reason-two, reason-three}
use Rattle.reasons.proofs.reason_of.Goals as goal

pub returns-in-Bare-default : goal.returns-in-Bare-default
returns-in-Bare-default c = sym (reason-one _ _ (bare-two c.from.ensures c.in-Bare-default.is-0))

pub returns-in_default-eq1 : goal.returns-in_default-eq1
returns-in_default-eq1 c =
    let at = c.in_default-eq1 in
    sym (reason-two _ _ (λ e. at.not-Bare-0 (c.from.ensures ∙ two-bare e)) at.is-1)

pub returns-in_default : goal.returns-in_default
returns-in_default c =
    let at = c.in_default in
    sym (reason-three _ _ (λ e. at.not-Bare-0 (c.from.ensures ∙ two-bare e)) at.is-1.1)
