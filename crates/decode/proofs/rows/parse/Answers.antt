use mathlib.Core.Path.{refl, sym, ◌∙◌}
use native.Mathlib.Omega.{arith}
use Rattle.decode.proofs.Reading.{Counted, decoded-empty, decoded-zero}
use Rattle.decode.proofs.Storing.{fill-begin, fill-room, fill-next, parse-none, parse-end, decoded-stop}
use Rattle.decode.proofs.rows.parse.Goals as goal

pub returns-in_default : goal.returns-in_default
returns-in_default c =
    let ended = rw (c.new-reader.ensures.same, c.new-reader.ensures.start) at c.in_default.ensures.step in
    parse-none _ _ (decoded-empty _ ended.0)

pub returns-then-nodes-eq0 : goal.returns-then-nodes-eq0
returns-then-nodes-eq0 c =
    let taken = rw (c.new-reader.ensures.same, c.new-reader.ensures.start) at c.in-Some.ensures.step in
    parse-none _ _ (decoded-zero _ (sym taken.byte-is ∙ c.if-nodes-eq0.true))

pub loop-v-init : goal.loop-v-init
loop-v-init c =
    let taken = rw (c.new-reader.ensures.same, c.new-reader.ensures.start) at c.in-Some.ensures.step in
    let n : Counted c.args.bytes.now _ _ = record {
      taken = taken;
      some-nodes = c.if-nodes-eq0.false;
      small = omega (arith, taken.byte-is, c.type_inv.bytes 0);
    } in
    record {
      same = c.byte.ensures.same ∙ c.new-reader.ensures.same;
      filling = fill-begin _ _ _ c.args.graph.now n c.requires;
      counted = n;
    }

pub returns-in_default-take_row : goal.returns-in_default-take_row
returns-in_default-take_row c =
    let l = c.loop-v.invariant in
    let took = rw l.same at c.in_default-take_row.ensures.took in
    parse-none _ _ (decoded-stop l.filling l.counted c.loop-v-test.true (took.short-stands refl))

pub overflow_cast-graph-in-loop-v : goal.overflow_cast-graph-in-loop-v
overflow_cast-graph-in-loop-v c =
    let l = c.loop-v.invariant in
    omega (arith, (c.in-Some-take_row.ensures.took.at-stands _ refl).1.room, fill-room l.filling l.counted.small c.loop-v-test.true)

pub loop-v-preserved : goal.loop-v-preserved
loop-v-preserved c =
    let l = c.loop-v.invariant in
    record {
      same = c.take_row.ensures.same ∙ l.same;
      filling = fill-next l.filling _ _ _ _ l.counted.small c.loop-v-test.true (rw l.same at c.in-Some-take_row.ensures.took) refl;
      counted = l.counted;
    }

pub returns : goal.returns
returns c =
    let l = c.loop-v.invariant in
    let ended = rw l.same at c.is_at_end.ensures in
    parse-end l.filling _ l.counted (λ i. omega (arith, c.type_inv.bytes i)) c.loop-v-test.false ended
