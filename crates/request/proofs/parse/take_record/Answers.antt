-- `take_record` meets its contract.
use mathlib.Core.Path.{◌∙◌}
use Rattle.request.proofs.Parsing.{record-none, record-long, record-there}
use Rattle.request.proofs.parse.take_record.Goals as goal

pub returns-in_default : goal.returns-in_default
returns-in_default c = record-none _ c.in_default.len_below

pub returns-then-length-gt8192 : goal.returns-then-length-gt8192
returns-then-length-gt8192 c = record-long _ c.in-len2-up.len_at_least c.if-length-gt8192.true

pub returns : goal.returns
returns c = c.take_bytes.ensures ∙ record-there _ c.in-len2-up.len_at_least c.if-length-gt8192.false
