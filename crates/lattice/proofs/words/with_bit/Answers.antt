-- `with_bit` meets its contract: the bit is above all bits of the word, so the sum fits.
use borrow.Author.Rules.{rules}
use Rattle.lattice.proofs.WordLaws.{bit-fits, bit-placed}
use Rattle.lattice.proofs.words.with_bit.Goals as goal

pub overflow_add-result : goal.overflow_add-result
overflow_add-result c = record { fits = bit-fits c.args.stands c.args.j c.args.word (search rules) (search rules) }

pub returns : goal.returns
returns c = bit-placed c.args.stands c.args.j c.args.word (search rules)
