-- `link_count` meets its contract.
use Rattle.std.proofs.Common.{arith}
use Rattle.layout.proofs.Order.{directory}
use Rattle.layout.proofs.Sums.{words-few}
use Rattle.merging.proofs.Words.{words_are}
use Rattle.merging.proofs.Sizes.{words-both}
use Rattle.merging.proofs.operands.link_count.Goals as goal

pub bounds-a-0 : goal.bounds-a-0
bounds-a-0 c = omega (arith, directory c.requires.0.sound.shaped)

pub overflow_cast-nodes : goal.overflow_cast-nodes
overflow_cast-nodes c = omega (arith, c.requires.0.small)

pub bounds-b-0 : goal.bounds-b-0
bounds-b-0 c = omega (arith, directory c.requires.1.sound.shaped)

pub overflow_cast-nodes-2 : goal.overflow_cast-nodes-2
overflow_cast-nodes-2 c = omega (arith, c.requires.1.small)

pub overflow_add-nodes : goal.overflow_add-nodes
overflow_add-nodes c = omega (arith, c.requires.0.small, c.requires.1.small)

pub overflow_add-result : goal.overflow_add-result
overflow_add-result c = let p = c.requires in omega (arith, c.word_count.ensures, c.word_count-2.ensures, words-few p.0, words-few p.1, words_are p.0, words_are p.1)

pub overflow_mul-result : goal.overflow_mul-result
overflow_mul-result c = omega (arith, c.requires.0.small, c.requires.1.small)

pub overflow_sub-result : goal.overflow_sub-result
overflow_sub-result c = let p = c.requires in omega (arith, c.word_count.ensures, c.word_count-2.ensures, words-both p.0 p.1)

pub returns : goal.returns
returns c = omega (arith, c.word_count.ensures, c.word_count-2.ensures)
