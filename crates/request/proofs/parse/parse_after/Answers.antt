-- `parse_after` meets its contract, part by part.
use mathlib.Core.Path.{◌∙◌}
use Rattle.request.proofs.Parsing.{no-request, asked-none, table-bad, first-bad, second-bad, bytes_left, asked-whole}
use Rattle.request.proofs.parse.parse_after.Goals as goal

pub returns-in_default : goal.returns-in_default
returns-in_default c = asked-none _ _ c.in_default.len_below

pub returns-in_err-table : goal.returns-in_err-table
returns-in_err-table c =
    no-request _ c.from_residual.ensures.0 ∙ table-bad _ _ c.in-len1-up.len_at_least c.in_err-table.ensures

pub returns-in_err-first : goal.returns-in_err-first
returns-in_err-first c =
    no-request _ c.from_residual-in_err-first.ensures.0
    ∙ first-bad _ _ c.in-len1-up.len_at_least c.in_ok-table.ensures c.in_err-first.ensures

pub returns-in_err-second : goal.returns-in_err-second
returns-in_err-second c =
    no-request _ c.from_residual-in_err-second.ensures.0
    ∙ second-bad _ _ c.in-len1-up.len_at_least c.in_ok-table.ensures c.in_ok-first.ensures c.in_err-second.ensures

pub returns-then-left-ne0 : goal.returns-then-left-ne0
returns-then-left-ne0 c =
    bytes_left _ _ c.in-len1-up.len_at_least c.in_ok-table.ensures c.in_ok-first.ensures c.in_ok-second.ensures c.if-left-ne0.true

pub returns : goal.returns
returns c =
    asked-whole _ _ c.in-len1-up.len_at_least c.in_ok-table.ensures c.in_ok-first.ensures c.in_ok-second.ensures c.if-left-ne0.false
