-- `take_bytes` meets its contract: the split gives the bytes.
use mathlib.Core.Path.{◌∙◌, ap}
use Rattle.request.specs.Parse.{taken}
use Rattle.request.proofs.Parsing.{taken-is}
use Rattle.request.proofs.parse.take_bytes.Goals as goal

pub returns : goal.returns
returns c = ap taken c.ok_or.ensures.value ∙ taken-is _ _ _ _ c.split_at_checked.ensures.cases
