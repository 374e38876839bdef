-- `code` meets its contract: the number of a reply is its code, by what the reply tells.
use mathlib.Core.Path.{sym, ◌∙◌, ap}
use Rattle.replies.proofs.Numbers.{number_small}
use Rattle.record_engine.specs.Code.{code_for, refusal_code}
use borrow.Author.Rules.{rules}
use Rattle.record_engine.proofs.code.Goals as goal

pub refusal-requires : goal.refusal-requires
refusal-requires c =
    record {
      number_bound = number_small c.args.reply (sym c.answer_of-answer.ensures ∙ c.in-Refused.is);
      side_bound = search rules;
    }

pub refusal-requires-in-RefusedGraph : goal.refusal-requires-in-RefusedGraph
refusal-requires-in-RefusedGraph c =
    record {
      number_bound = number_small c.args.reply (sym c.answer_of-answer.ensures ∙ c.in-RefusedGraph.is);
      side_bound = c.side_number.ensures.small;
    }

pub returns-in-Length : goal.returns-in-Length
returns-in-Length c = ap code_for (sym c.in-Length.is ∙ c.answer_of-answer.ensures)

pub returns-in-Same : goal.returns-in-Same
returns-in-Same c = ap code_for (sym c.in-Same.is ∙ c.answer_of-answer.ensures)

pub returns-in-Under : goal.returns-in-Under
returns-in-Under c = ap code_for (sym c.in-Under.is ∙ c.answer_of-answer.ensures)

pub returns-in-Above : goal.returns-in-Above
returns-in-Above c = ap code_for (sym c.in-Above.is ∙ c.answer_of-answer.ensures)

pub returns-in-Neither : goal.returns-in-Neither
returns-in-Neither c = ap code_for (sym c.in-Neither.is ∙ c.answer_of-answer.ensures)

pub returns-in-Counts : goal.returns-in-Counts
returns-in-Counts c =
    c.counts.ensures ∙ ap code_for (sym c.in-Counts.is ∙ c.answer_of-answer.ensures)

pub returns-in-End : goal.returns-in-End
returns-in-End c = ap code_for (sym c.in-End.is ∙ c.answer_of-answer.ensures)

pub returns-in-Refused : goal.returns-in-Refused
returns-in-Refused c =
    c.refusal.ensures ∙ ap code_for (sym c.in-Refused.is ∙ c.answer_of-answer.ensures)

pub returns-in-RefusedGraph : goal.returns-in-RefusedGraph
returns-in-RefusedGraph c =
    c.refusal-in-RefusedGraph.ensures ∙ ap (refusal_code c.in-RefusedGraph.number) c.side_number.ensures.is
    ∙ ap code_for (sym c.in-RefusedGraph.is ∙ c.answer_of-answer.ensures)
