-- The exported call answers the code of what the engine replies.
use Rattle.record_engine.specs.Code.{code_of}
use mathlib.Core.Path.{ap, ◌∙◌}
use Rattle.record_engine.proofs.record_order.Goals as goal

pub returns : goal.returns
returns c = c.code.ensures ∙ ap code_of c.order.ensures
