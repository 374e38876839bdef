use native.Mathlib.Omega.{arith}
use Rattle.record.proofs.Allowed.{entries_none, entries-more, entries-all, list-short, list_over}
use Rattle.record.proofs.appropriate.is_list_accepted.Goals as goal

pub returns-then-list-ne64 : goal.returns-then-list-ne64
returns-then-list-ne64 c = list-short c.args.n c.args.list.now (λ e. omega (arith, e, c.if-list-ne64.true))

pub loop-entry-init : goal.loop-entry-init
loop-entry-init c = entries_none (omega (arith, c.if-list-ne64.false))

pub returns-then-n-entry : goal.returns-then-n-entry
returns-then-n-entry c = list_over c.args.n c.args.list.now c.loop-entry.entry-index (omega arith) c.if-n-entry.true

pub loop-entry-preserved : goal.loop-entry-preserved
loop-entry-preserved c = entries-more c.loop-entry.invariant (omega arith) c.if-n-entry.false

pub returns : goal.returns
returns c = entries-all c.loop-entry.invariant (omega arith)
