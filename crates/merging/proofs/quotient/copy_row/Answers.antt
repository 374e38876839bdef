use Rattle.std.proofs.Common.{ℕ, get_or, ap, ap₂, ◌∙◌, arith}
use Rattle.layout.specs.Layout.{link_word}
use Rattle.merging.specs.Rows.{class_word}
use Rattle.merging.proofs.Copying.{part-word, part-long, row_step, row_done}
use Rattle.merging.proofs.quotient.copy_row.Goals as goal

pub loop-word-preserved : goal.loop-word-preserved
loop-word-preserved c =
    let pool = c.args.pool.now in
    let long = part-long pool c.args.start c.args.end c.requires.start_le_end.1 in
    row_step c.loop-word.word-index c.loop-word.invariant (omega (arith, long, c.loop-word-test.true, c.loop-word.invariant.counted, c.requires.start_le_end.2)) (
    c.link.ensures ∙
    ap₂ (λ (f : ℕ) (t : ℕ). link_word (f, get_or c.args.class.now t 0)) c.feature.ensures c.target.ensures ∙
    ap (class_word c.args.class.now) (part-word pool c.args.start c.args.end c.loop-word.word-index (omega (arith, long, c.loop-word-test.true)))
    )

pub returns : goal.returns
returns c =
    let long = part-long c.args.pool.now c.args.start c.args.end c.requires.start_le_end.1 in
    row_done c.loop-word.word-index c.loop-word.invariant (omega (arith, long, c.loop-word.auto.word-index-end, c.loop-word-test.false, c.requires.start_le_end.0))
