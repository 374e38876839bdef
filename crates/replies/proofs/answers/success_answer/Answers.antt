-- `answers::success_answer` meets its contract: each case has its answer.
use mathlib.Core.Path.{sym, ap}
use Rattle.std.specs.Prelude.{Ok}
use Rattle.replies.specs.Reply.{answer_of}
use Rattle.replies.proofs.answers.success_answer.Goals as goal

pub returns-in-Length : goal.returns-in-Length
returns-in-Length c = ap (λ told. answer_of (Ok told)) (sym c.in-Length.is)

pub returns-in-Same : goal.returns-in-Same
returns-in-Same c = ap (λ told. answer_of (Ok told)) (sym c.in-Same.is)

pub returns-in-Under : goal.returns-in-Under
returns-in-Under c = ap (λ told. answer_of (Ok told)) (sym c.in-Under.is)

pub returns-in-Above : goal.returns-in-Above
returns-in-Above c = ap (λ told. answer_of (Ok told)) (sym c.in-Above.is)

pub returns-in-Neither : goal.returns-in-Neither
returns-in-Neither c = ap (λ told. answer_of (Ok told)) (sym c.in-Neither.is)

pub returns-in-Counts : goal.returns-in-Counts
returns-in-Counts c = ap (λ told. answer_of (Ok told)) (sym c.in-Counts.is)

pub returns-in-End : goal.returns-in-End
returns-in-End c = ap (λ told. answer_of (Ok told)) (sym c.in-End.is)
