-- `parse` meets its contract, by the operation byte.
use mathlib.Core.Path.{◌∙◌}
use Rattle.request.proofs.Parsing.{no-request, requested-none, operation-bad, requested-asked}
use Rattle.request.proofs.parse.parse.Goals as goal

pub returns-in_default : goal.returns-in_default
returns-in_default c = requested-none _ c.in_default.len_below

pub returns-in_err-operation : goal.returns-in_err-operation
returns-in_err-operation c =
    no-request _ c.from_residual.ensures.0 ∙ operation-bad _ c.in-len1-up.len_at_least c.in_err-operation.ensures

pub returns : goal.returns
returns c = c.parse_after.ensures ∙ requested-asked _ c.in-len1-up.len_at_least c.in_ok-operation.ensures
