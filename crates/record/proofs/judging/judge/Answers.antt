-- `judging::judge` meets its contract: for each return a lemma gives the reading from what the two tests find.
use Rattle.std.proofs.lemmas.Result.{err_from_is_err_and}
use Rattle.peeling.proofs.Counting.{counted_start}
use Rattle.record.proofs.Judged as judged
use Rattle.record.proofs.judging.judge.Goals as goal

pub count_incoming-requires : goal.count_incoming-requires
count_incoming-requires c =
    (record { levels_ordered = c.requires.levels_ordered; counted = counted_start c.requires.shaped.0 c.requires.shaped.1 })

pub returns-then-not-count_incoming : goal.returns-then-not-count_incoming
returns-then-not-count_incoming c =
    let counted = c.count_incoming in
    judged.out_of_range c.args.n c.requires.shaped.0 c.requires.shaped.1 counted.ensures c.if-not-count_incoming.true

pub sources_first-requires : goal.sources_first-requires
sources_first-requires c =
    let counted = c.count_incoming in
    (record {
      sound = judged.sound c.args.n c.requires.shaped.0 c.requires.shaped.1 counted.ensures c.if-not-count_incoming.false;
      counted = judged.counted c.args.n c.requires.shaped.0 c.requires.shaped.1 counted.ensures c.if-not-count_incoming.false;
    })

pub returns-in_err-sources_first : goal.returns-in_err-sources_first
returns-in_err-sources_first c =
    let counted = c.count_incoming in
    let given = err_from_is_err_and c.from_residual.result c.from_residual.ensures.1 in
    rw (given.1, given.2)
    (judged.refused-unrooted c.args.n c.requires.shaped.0 c.requires.shaped.1 counted.ensures c.if-not-count_incoming.false
    c.sources_first.ensures _ c.in_err-sources_first.was)

pub returns : goal.returns
returns c =
    let counted = c.count_incoming in
    judged.accepts c.args.n c.requires.shaped.0 c.requires.shaped.1 counted.ensures c.if-not-count_incoming.false
    c.sources_first.ensures c.in_ok-sources_first.was
