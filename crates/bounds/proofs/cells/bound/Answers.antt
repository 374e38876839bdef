-- `bound` meets its contract: the word of each type that it answers has the bits that the words of a and b share.
use Rattle.lattice.proofs.Seeking.{seek-begin, seek-none, common-inside, bound_at, bound-own}
use Rattle.bounds.proofs.cells.bound.Goals as goal

pub returns-then-word-eq0 : goal.returns-then-word-eq0
returns-then-word-eq0 c =
    let ws = c.args.words.now in
    λ n few side la lb.
    seek-none (seek-begin ws _) c.if-word-eq0.true n few side (common-inside n ws c.args.a c.args.b la side)

pub returns-then-words-c : goal.returns-then-words-c
returns-then-words-c c =
    let ws = c.args.words.now in
    let bit = c.end_bit-c in
    bound_at ws c.args.a c.args.b bit.result bit.ensures.0 c.if-words-c.true bit.ensures.1

pub returns-then-words-a : goal.returns-then-words-a
returns-then-words-a c =
    let ws = c.args.words.now in
    λ n few side la. bound-own ws c.args.a c.args.b c.args.a c.requires.0 c.if-words-a.true n few side la la

pub returns-then-words-b : goal.returns-then-words-b
returns-then-words-b c =
    let ws = c.args.words.now in
    λ n few side la lb. bound-own ws c.args.a c.args.b c.args.b c.requires.1 c.if-words-b.true n few side lb la lb

pub returns : goal.returns
returns c =
    let ws = c.args.words.now in
    λ n few side la lb. c.find_word.ensures n few side (common-inside n ws c.args.a c.args.b la side)
