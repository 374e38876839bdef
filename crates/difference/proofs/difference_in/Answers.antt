-- `difference_in` meets its contract: it goes on only where s is below g, along the order's node map, and where every node of s has a wanted
-- label.
use Prim.Native.Nat.{ℕ}
use lib.ListN.{length-replicate}
use Rattle.difference.proofs.Result.{lying-words, markable-words, made-copied}
use Rattle.difference.proofs.Answering.{comparable-recorded, asked-below, prepared-below, answers-not-below, answers-unwanted, answers-written}
use Rattle.difference.proofs.difference_in.Goals as goal

pub subsume-requires : goal.subsume-requires
subsume-requires c = comparable-recorded c.requires.comparable.0

pub returns-in_default : goal.returns-in_default
returns-in_default c =
    answers-not-below c.args.options c.args.n c.args.table.now c.args.g.now c.args.s.now c.args.out.now c.args.reasons.now c.requires.comparable.0 (c.in_default.ensures c.args.n)

pub wanted_labels-requires : goal.wanted_labels-requires
wanted_labels-requires c =
    let asked = asked-below c.args.n c.args.table.now c.args.g.now c.args.s.now c.requires.comparable.0 (c.in-Some.ensures c.args.n) in
    (asked, length-replicate {A = ℕ} 510 0)

pub returns-then-not-wanted_labels : goal.returns-then-not-wanted_labels
returns-then-not-wanted_labels c =
    answers-unwanted c.args.options c.args.n c.args.table.now c.args.g.now c.args.s.now c.args.out.now c.args.reasons.now c.requires.comparable.0 (c.in-Some.ensures c.args.n) c.wanted_labels.ensures c.if-not-wanted_labels.true

pub mark_links-requires : goal.mark_links-requires
mark_links-requires c =
    let asked = asked-below c.args.n c.args.table.now c.args.g.now c.args.s.now c.requires.comparable.0 (c.in-Some.ensures c.args.n) in
    (lying-words asked, c.requires.comparable.1, c.requires.g_len.1)

pub make-requires : goal.make-requires
make-requires c =
    let asked = asked-below c.args.n c.args.table.now c.args.g.now c.args.s.now c.requires.comparable.0 (c.in-Some.ensures c.args.n) in
    let given = prepared-below c.args.options.order c.args.n c.args.table.now c.args.g.now c.args.s.now asked c.wanted_labels.ensures c.if-not-wanted_labels.false c.mark_links.ensures in
    ((_, _, _, given), c.requires.g_len.0)

pub write_rows-requires : goal.write_rows-requires
write_rows-requires c =
    let asked = asked-below c.args.n c.args.table.now c.args.g.now c.args.s.now c.requires.comparable.0 (c.in-Some.ensures c.args.n) in
    let given = prepared-below c.args.options.order c.args.n c.args.table.now c.args.g.now c.args.s.now asked c.wanted_labels.ensures c.if-not-wanted_labels.false c.mark_links.ensures in
    (λ meeting h. markable-words asked given.marked.stands.long h, made-copied given c.make.ensures)

pub returns : goal.returns
returns c =
    answers-written c.args.options c.args.n c.args.table.now c.args.g.now c.args.s.now c.args.out.now c.args.reasons.now c.requires.comparable.0 (c.in-Some.ensures c.args.n) c.wanted_labels.ensures c.if-not-wanted_labels.false
    c.mark_links.ensures c.make.ensures c.write_rows.ensures
