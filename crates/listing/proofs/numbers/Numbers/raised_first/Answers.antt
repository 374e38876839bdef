-- `raised_first` meets its contract: it tries the places from the type of node 1 back to the count of nodes.
use mathlib.Core.Path.{ap, sym, ◌∙◌}
use mathlib.Core.List.{List}
use mathlib.Core.Option.{Option, some}
use Prim.Native.Nat.{ℕ}
use native.Mathlib.Omega.{arith}
use Rattle.listed.proofs.Steps.{up-type1, up-links0, up-type0, up-nodes, at-end}
use Rattle.listing.proofs.numbers.Numbers.raised_first.Goals as goal

pub returns-then-kind-type_span : goal.returns-then-kind-type_span
returns-then-kind-type_span c =
    ap {B = Option (List ℕ)} some c.from_middle_links.ensures
    ∙ sym (up-type1 _ _ _ _ _ _ _ _ _ c.requires.links2_value (omega (arith, c.if-kind-type_span.true, c.type_span.ensures.1)))

pub returns-then-root-root_span : goal.returns-then-root-root_span
returns-then-root-root_span c =
    ap {B = Option (List ℕ)} some c.from_middle.ensures
    ∙ sym (up-links0 _ _ _ _ _ _ _ _ _ c.requires.links2_value (omega (arith, c.if-kind-type_span.false, c.type_span.ensures.1))
    (omega (arith, c.if-root-root_span.true, c.root_span.ensures.1)))

pub returns-then-root-n : goal.returns-then-root-n
returns-then-root-n c =
    ap {B = Option (List ℕ)} some c.from_root_links.ensures
    ∙ sym (up-type0 _ _ _ _ _ _ _ _ _ c.requires.links2_value (omega (arith, c.if-kind-type_span.false, c.type_span.ensures.1))
    (omega (arith, c.if-root-root_span.false, c.root_span.ensures.1)) (omega (arith, c.if-root-n.true)))

pub returns-then-nodes-lt3 : goal.returns-then-nodes-lt3
returns-then-nodes-lt3 c =
    ap {B = Option (List ℕ)} some c.from_root_links-then-nodes-lt3.ensures
    ∙ sym (up-nodes _ _ _ _ _ _ _ _ _ c.requires.links2_value (omega (arith, c.if-kind-type_span.false, c.type_span.ensures.1))
    (omega (arith, c.if-root-root_span.false, c.root_span.ensures.1)) (omega (arith, c.if-root-n.false)) c.if-nodes-lt3.true)

pub returns : goal.returns
returns c =
    sym (at-end _ _ _ _ _ _ _ _ _ c.requires.links2_value (omega (arith, c.if-kind-type_span.false, c.type_span.ensures.1))
    (omega (arith, c.if-root-root_span.false, c.root_span.ensures.1)) (omega (arith, c.if-root-n.false)) c.if-nodes-lt3.false)
