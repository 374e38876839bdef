-- `are_within` meets its contract: each number is tested against its span.
use mathlib.Core.Path.{ap}
use mathlib.Core.Bool.{not}
use native.Mathlib.Omega.{arith}
use Rattle.listed.proofs.Order.{false-true}
use Rattle.listed.proofs.Within.{run-within, within-run}
use Rattle.listing.proofs.Ends.{inside, told-inside, kept-inside, outside}
use Rattle.listing.proofs.numbers.Numbers.are_within.Goals as goal

pub returns-then-nodes-eq0 : goal.returns-then-nodes-eq0
returns-then-nodes-eq0 c = (λ e. false-true e, λ r. absurd (omega (arith, c.if-nodes-eq0.true, (run-within r).nodes.0)))

pub returns-then-nodes-gt3 : goal.returns-then-nodes-gt3
returns-then-nodes-gt3 c = (λ e. false-true e, λ r. absurd (omega (arith, c.if-nodes-gt3.true, (run-within r).nodes.1)))

pub returns-then-not-contains : goal.returns-then-not-contains
returns-then-not-contains c = (λ e. false-true e, λ r. absurd (outside c.contains.ensures c.type_span.ensures (ap not c.if-not-contains.true) (run-within r).type0))

pub returns-then-not-contains-2 : goal.returns-then-not-contains-2
returns-then-not-contains-2 c = (λ e. false-true e, λ r. absurd (outside c.contains-2.ensures c.root_span.ensures (ap not c.if-not-contains-2.true) (run-within r).links0))

pub returns-then-not-contains-3 : goal.returns-then-not-contains-3
returns-then-not-contains-3 c = (λ e. false-true e, λ r. absurd (outside c.contains-3.ensures c.type_span-2.ensures (ap not c.if-not-contains-3.true) (run-within r).type1))

pub returns-then-not-contains-4 : goal.returns-then-not-contains-4
returns-then-not-contains-4 c = (λ e. false-true e, λ r. absurd (outside c.contains-4.ensures c.middle_span.ensures (ap not c.if-not-contains-4.true) (run-within r).links1))

pub returns-then-not-contains-5 : goal.returns-then-not-contains-5
returns-then-not-contains-5 c = (λ e. false-true e, λ r. absurd (outside c.contains-5.ensures c.type_span-3.ensures (ap not c.if-not-contains-5.true) (run-within r).type2))

pub returns : goal.returns
returns c = (
  λ e. within-run (record {
    nodes = (omega (arith, c.if-nodes-eq0.false), omega (arith, c.if-nodes-gt3.false));
    type0 = kept-inside c.contains.ensures c.type_span.ensures (ap not c.if-not-contains.false);
    links0 = kept-inside c.contains-2.ensures c.root_span.ensures (ap not c.if-not-contains-2.false);
    type1 = kept-inside c.contains-3.ensures c.type_span-2.ensures (ap not c.if-not-contains-3.false);
    links1 = kept-inside c.contains-4.ensures c.middle_span.ensures (ap not c.if-not-contains-4.false);
    type2 = kept-inside c.contains-5.ensures c.type_span-3.ensures (ap not c.if-not-contains-5.false);
    links2 = inside c.contains-6.ensures c.last_span.ensures e;
  }),
  λ r. told-inside c.contains-6.ensures c.last_span.ensures (run-within r).links2,
)
