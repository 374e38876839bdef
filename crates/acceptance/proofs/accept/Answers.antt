-- `accept` meets its contract: a table of a right size is judged by its words.
use mathlib.Core.Path.{ap}
use mathlib.Core.Bool.{not}
use Rattle.lattice.proofs.Every.{refuted, held}
use Rattle.lattice.proofs.Sizes.{size-facts}
use Rattle.acceptance.proofs.Acceptance.{answer-size}
use Rattle.acceptance.proofs.accept.Goals as goal

pub returns-then-not-is_sized : goal.returns-then-not-is_sized
returns-then-not-is_sized c =
    answer-size c.args.n c.args.table.now (refuted c.is_sized.ensures (ap not c.if-not-is_sized.true))

pub read_words-down-requires : goal.read_words-down-requires
read_words-down-requires c = (size-facts _ _ (held c.is_sized.ensures (ap not c.if-not-is_sized.false))).1

pub judge-requires : goal.judge-requires
judge-requires c = (size-facts _ _ (held c.is_sized.ensures (ap not c.if-not-is_sized.false))).1

pub returns : goal.returns
returns c =
    c.judge.ensures _ (held c.is_sized.ensures (ap not c.if-not-is_sized.false))
    c.read_words-down.ensures
