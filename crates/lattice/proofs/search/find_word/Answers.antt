-- `find_word` meets its contract: the first bit's type has the word, or the type that has it is among the bits left.
use Prim.Native.Nat.{ℕ}
use mathlib.Core.Path.{ap, sym, subst, ◌∙◌}
use native.Mathlib.Omega.{arith}
use lib.ListN.{get_or}
use Rattle.lattice.specs.Words.{without, Seeking}
use Rattle.lattice.proofs.Seeking.{seek-begin, seek-none, seek_found, seek-next}
use Rattle.lattice.proofs.search.find_word.Goals as goal

pub returns-then-word-eq0 : goal.returns-then-word-eq0
returns-then-word-eq0 c = seek-none (seek-begin _ _) c.if-word-eq0.true

pub overflow_cast-result : goal.overflow_cast-result
overflow_cast-result c = omega (arith, c.end_bit-c.ensures.0)

pub returns-then-words-c : goal.returns-then-words-c
returns-then-words-c c =
    let bit = c.end_bit-c in
    seek_found (seek-begin _ _) bit.result bit.ensures.0 bit.ensures.1 c.if-words-c.true

pub find_among-requires : goal.find_among-requires
find_among-requires c =
    let bit = c.end_bit-c in
    let ws = c.args.words.now in
    let next = c.without-left.ensures ∙ ap (λ (w : ℕ). without w (get_or ws bit.result 0)) c.cleared-others.ensures in
    subst (Seeking ws c.args.word) (sym next)
    (seek-next (seek-begin _ _) bit.result bit.ensures.0 bit.ensures.1 c.if-words-c.false)
