-- `choose` meets its contract: the table is refused, or the types are held as sets, or the cells are needed.
use mathlib.Core.Path.{sym, ap, ◌∙◌}
use mathlib.Core.Bool.{false, not}
use native.Mathlib.Omega.{arith}
use mathlib.Core.List.{[]}
use Rattle.lattice.proofs.Every.{refuted, held}
use Rattle.lattice.proofs.Sizes.{size-facts}
use Rattle.acceptance.proofs.Acceptance.{answer-size, answer-order, order-words, table-size, lower-words, side-sided}
use Rattle.bounds.proofs.Opening.{chooses-refused, chooses-sets, chooses-cells, cells-needed, bounds-refused, sets-held}
use Rattle.bounds.proofs.choose.Goals as goal

pub returns-then-not-is_sized : goal.returns-then-not-is_sized
returns-then-not-is_sized c =
    let a = c.args in
    chooses-refused a.up a.n a.table.now _ _ (answer-size a.n a.table.now (refuted c.is_sized.ensures (ap not c.if-not-is_sized.true)))

pub read_words-down-requires : goal.read_words-down-requires
read_words-down-requires c = (size-facts _ _ (held c.is_sized.ensures (ap not c.if-not-is_sized.false))).1

pub is_ordered-requires : goal.is_ordered-requires
is_ordered-requires c = (size-facts _ _ (held c.is_sized.ensures (ap not c.if-not-is_sized.false))).1

pub returns-then-not-is_ordered : goal.returns-then-not-is_ordered
returns-then-not-is_ordered c =
    let a = c.args in
    chooses-refused a.up a.n a.table.now _ _
    (answer-order a.n a.table.now _ (held c.is_sized.ensures (ap not c.if-not-is_sized.false)) c.read_words-down.ensures (refuted c.is_ordered.ensures (ap not c.if-not-is_ordered.true)))

pub hold-requires : goal.hold-requires
hold-requires c =
    let a = c.args in
    let passed = order-words (held c.is_sized.ensures (ap not c.if-not-is_sized.false)) c.read_words-down.ensures (held c.is_ordered.ensures (ap not c.if-not-is_ordered.false)) in
    let size = table-size a.n a.table.now _ passed in
    record { n_nonzero = (omega (arith, size.0), size.1, side-sided a.n a.table.now _ passed false _ c.read_words-down.ensures); sets_len = c.requires }

pub returns-then-not-hold : goal.returns-then-not-hold
returns-then-not-hold c =
    let a = c.args in
    let passed = order-words (held c.is_sized.ensures (ap not c.if-not-is_sized.false)) c.read_words-down.ensures (held c.is_ordered.ensures (ap not c.if-not-is_ordered.false)) in
    let other = c.if-not-hold.true in
    chooses-cells a.up a.n a.table.now _ (cells-needed a.n a.table.now _ passed a.up _ (sym c.hold.ensures.value ∙ other) (c.hold.ensures.n_after other))

pub are_bounded-requires : goal.are_bounded-requires
are_bounded-requires c =
    let a = c.args in
    let passed = order-words (held c.is_sized.ensures (ap not c.if-not-is_sized.false)) c.read_words-down.ensures (held c.is_ordered.ensures (ap not c.if-not-is_ordered.false)) in
    ((table-size a.n a.table.now _ passed).1, lower-words a.n a.table.now _ passed)

pub returns-then-not-are_bounded : goal.returns-then-not-are_bounded
returns-then-not-are_bounded c =
    let a = c.args in
    let passed = order-words (held c.is_sized.ensures (ap not c.if-not-is_sized.false)) c.read_words-down.ensures (held c.is_ordered.ensures (ap not c.if-not-is_ordered.false)) in
    chooses-refused a.up a.n a.table.now _ _
    (bounds-refused a.n a.table.now _ passed a.up [] (sym (c.if-not-are_bounded.true) ∙ c.are_bounded.ensures))

pub returns : goal.returns
returns c =
    let a = c.args in
    let passed = order-words (held c.is_sized.ensures (ap not c.if-not-is_sized.false)) c.read_words-down.ensures (held c.is_ordered.ensures (ap not c.if-not-is_ordered.false)) in
    let stands = c.if-not-hold.false in
    chooses-sets a.up a.n a.table.now _
    (sets-held a.n a.table.now _ passed a.up _ (sym c.hold.ensures.value ∙ stands) (c.hold.ensures.sets stands)
    (sym (c.if-not-are_bounded.false) ∙ c.are_bounded.ensures))
