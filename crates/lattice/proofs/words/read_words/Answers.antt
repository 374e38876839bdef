use native.Mathlib.Omega.{arith}
use borrow.Author.Rules.{rules}
use Rattle.lattice.proofs.Rows.{set_more}
use Rattle.lattice.proofs.words.read_words.Goals as goal

pub loop-i-preserved : goal.loop-i-preserved
loop-i-preserved c =
    let turn = c.loop-i in
    (search rules, search rules, set_more _ _ turn.words turn.i _ (search rules) turn.invariant.2 c.read_word.ensures)

pub returns : goal.returns
returns c = λ k l. c.loop-i.invariant.2 k (omega arith)
