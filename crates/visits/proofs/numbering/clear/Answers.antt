use native.Mathlib.Omega.{arith}
use Rattle.visits.proofs.Visiting.{clear-more}
use borrow.Author.Rules.{rules}
use Rattle.visits.proofs.numbering.clear.Goals as goal

pub loop-v-preserved : goal.loop-v-preserved
loop-v-preserved c = (search rules, search rules, clear-more c.loop-v.numbers c.loop-v.v (omega arith) c.loop-v.invariant.2)

pub returns : goal.returns
returns c = (record { numbers_len_2 = search rules; by_index = λ v h. c.loop-v.invariant.2 v (omega arith) })
