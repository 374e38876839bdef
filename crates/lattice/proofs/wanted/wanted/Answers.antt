-- `wanted` meets its contract: the wanted type is the greatest type where q is p, p where q is the greatest type, and else the type whose
-- word is the union of the words of the types that restore.
use Rattle.lattice.proofs.Restoring.{wanted-answer, same-answer, top-answer}
use Rattle.lattice.proofs.wanted.wanted.Goals as goal

pub returns-then-over-lower : goal.returns-then-over-lower
returns-then-over-lower c =
    λ t ok words. same-answer c.args.n t c.args.down.now ok words c.args.p c.args.over c.requires.1 c.if-over-lower.true

pub returns-then-over-down : goal.returns-then-over-down
returns-then-over-down c =
    λ t ok words. top-answer c.args.n t c.args.down.now ok words c.args.p c.args.over c.requires.1 c.if-over-down.true

pub returns : goal.returns
returns c =
    λ t ok words.
    wanted-answer c.args.n t c.args.down.now ok words c.args.p c.args.over c.unite_restoring-all.result _
    c.requires.1 c.unite_restoring-all.ensures c.find_word.ensures
