-- `kept_nodes` meets its contract: exactly the nodes with a reason are kept.
use native.Mathlib.Omega.{arith}
use Rattle.keeping.proofs.Keeping.{markable-with, sorted-from, keeps-all}
use Rattle.keeping.proofs.keep.kept_nodes.Goals as goal

pub bounds-s-0 : goal.bounds-s-0
bounds-s-0 c = let shaped = c.requires.markable.0.sound.shaped in omega (arith, (shaped.node 0 shaped.nonempty).listed)

pub keep_parents-requires : goal.keep_parents-requires
keep_parents-requires c = (markable-with c.requires.markable.0 c.keep_labelled.ensures.long, sorted-from c.sort_targets_first.ensures.sorts c.requires.by_index, c.sort_targets_first.ensures.order_len_2)

pub returns : goal.returns
returns c = keeps-all c.args.n c.args.table.now c.args.s.now c.args.marks.now c.args.labels.now c.args.keep.now c.requires.markable.0.small c.requires.markable.0.keep-long c.requires.markable.1 c.keep_entered.ensures c.keep_labelled.ensures c.keep_parents.ensures
