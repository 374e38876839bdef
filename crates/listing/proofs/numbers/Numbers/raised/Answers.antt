-- `raised` meets its contract: it tries the places from the last back to the links of node 1.
use mathlib.Core.Path.{ap, sym, ◌∙◌}
use mathlib.Core.List.{List}
use mathlib.Core.Option.{Option, some}
use Prim.Native.Nat.{ℕ}
use native.Mathlib.Omega.{arith}
use Rattle.listed.proofs.Steps.{up-links2, up-type2, up-links1, stuck}
use Rattle.listing.proofs.numbers.Numbers.raised.Goals as goal

pub returns-then-last-last_span : goal.returns-then-last-last_span
returns-then-last-last_span c =
    sym (up-links2 _ _ _ _ _ _ _ _ _ (omega (arith, c.if-last-last_span.true, c.last_span.ensures.1)))

pub returns-then-last-type_span : goal.returns-then-last-type_span
returns-then-last-type_span c =
    sym (up-type2 _ _ _ _ _ _ _ _ _ (omega (arith, c.if-last-last_span.false, c.last_span.ensures.1))
    (omega (arith, c.if-last-type_span.true, c.type_span.ensures.1)))

pub returns-then-middle-middle_span : goal.returns-then-middle-middle_span
returns-then-middle-middle_span c =
    ap {B = Option (List ℕ)} some c.from_last.ensures
    ∙ sym (up-links1 _ _ _ _ _ _ _ _ _ (omega (arith, c.if-last-last_span.false, c.last_span.ensures.1))
    (omega (arith, c.if-last-type_span.false, c.type_span.ensures.1))
    (omega (arith, c.if-middle-middle_span.true, c.middle_span.ensures.1)))

pub raised_first-requires-clause-links2_value : goal.raised_first-requires-clause-links2_value
raised_first-requires-clause-links2_value c =
    stuck _ _ _ _ _ _ _ _ _ (omega (arith, c.if-last-last_span.false, c.last_span.ensures.1))
    (omega (arith, c.if-last-type_span.false, c.type_span.ensures.1))
    (omega (arith, c.if-middle-middle_span.false, c.middle_span.ensures.1))
