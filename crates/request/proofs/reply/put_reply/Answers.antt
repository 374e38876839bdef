-- `reply::put_reply` meets its contract, by what the reply tells.
use mathlib.Core.Path.{sym, ◌∙◌}
use native.Mathlib.Omega.{arith}
use lib.Seq.{length-take-le}
use Rattle.replies.proofs.Numbers.{answer-bounded, number_small}
use Rattle.request.proofs.Replies.{puts-answer}
use borrow.Author.Rules.{rules}
use Rattle.request.proofs.reply.put_reply.Goals as goal

pub slice_bounds-put_record-end : goal.slice_bounds-put_record-end
slice_bounds-put_record-end c =
    sym (length-take-le _ c.args.output.now (answer-bounded c.args.reply c.requires.bounded _ (sym c.answer_of-answer.ensures ∙ c.in-Length.is)))

pub put_record-requires : goal.put_record-requires
put_record-requires c =
    let fits = answer-bounded c.args.reply c.requires.bounded _ (sym c.answer_of-answer.ensures ∙ c.in-Length.is) in
    record {
      count_bound = omega (arith, fits, c.requires.output_len_bound);
      bytes_len_bound = omega (arith, fits, c.requires.output_len_bound, length-take-le _ c.args.output.now fits);
      in_bounds = search rules;
    }

pub put_refused-requires : goal.put_refused-requires
put_refused-requires c =
    record {
      number_bound = number_small c.args.reply (sym c.answer_of-answer.ensures ∙ c.in-Refused.is);
      in_bounds = search rules;
    }

pub put_refused_graph-requires : goal.put_refused_graph-requires
put_refused_graph-requires c =
    record {
      number_bound = number_small c.args.reply (sym c.answer_of-answer.ensures ∙ c.in-RefusedGraph.is);
      in_bounds = search rules;
    }

pub returns-in-Length : goal.returns-in-Length
returns-in-Length c =
    puts-answer c.args.output.now (sym c.answer_of-answer.ensures ∙ c.in-Length.is) c.put_record.ensures

pub returns-in-Same : goal.returns-in-Same
returns-in-Same c =
    puts-answer c.args.output.now (sym c.answer_of-answer.ensures ∙ c.in-Same.is) c.put_word.ensures

pub returns-in-Under : goal.returns-in-Under
returns-in-Under c =
    puts-answer c.args.output.now (sym c.answer_of-answer.ensures ∙ c.in-Under.is) c.put_word-in-Under.ensures

pub returns-in-Above : goal.returns-in-Above
returns-in-Above c =
    puts-answer c.args.output.now (sym c.answer_of-answer.ensures ∙ c.in-Above.is) c.put_word-in-Above.ensures

pub returns-in-Neither : goal.returns-in-Neither
returns-in-Neither c =
    puts-answer c.args.output.now (sym c.answer_of-answer.ensures ∙ c.in-Neither.is) c.put_word-in-Neither.ensures

pub returns-in-Counts : goal.returns-in-Counts
returns-in-Counts c =
    puts-answer c.args.output.now (sym c.answer_of-answer.ensures ∙ c.in-Counts.is) c.put_counts.ensures

pub returns-in-End : goal.returns-in-End
returns-in-End c =
    puts-answer c.args.output.now (sym c.answer_of-answer.ensures ∙ c.in-End.is) c.put_word-in-End.ensures

pub returns-in-Refused : goal.returns-in-Refused
returns-in-Refused c =
    puts-answer c.args.output.now (sym c.answer_of-answer.ensures ∙ c.in-Refused.is) c.put_refused.ensures

pub returns-in-RefusedGraph : goal.returns-in-RefusedGraph
returns-in-RefusedGraph c =
    puts-answer c.args.output.now (sym c.answer_of-answer.ensures ∙ c.in-RefusedGraph.is) c.put_refused_graph.ensures
