use mathlib.Core.Path.{refl, ◌∙◌}
use native.Mathlib.Omega.{arith}
use borrow.Author.Rules.{rules}
use Rattle.decode.proofs.Storing.{link-begin, link-feature, link-room, link-full, link-short, link-next, link-end, took-none, took-all}
use Rattle.decode.proofs.rows.take_links.Goals as goal

pub loop-left-init : goal.loop-left-init
loop-left-init c = record { same = refl; linking = link-begin _ _ _ _ _ _ c.ranges.map.fits c.requires }

pub returns-then-limit-end-clause-took : goal.returns-then-limit-end-clause-took
returns-then-limit-end-clause-took c =
    let l = c.loop-left.invariant.linking in
    took-none (link-full l c.loop-left-test.true c.if-limit-end.true) l.before l.long

pub returns-in_err-target-clause-took : goal.returns-in_err-target-clause-took
returns-in_err-target-clause-took c =
    let l = c.loop-left.invariant.linking in
    let ended = rw c.loop-left.invariant.same at c.in_err-target.ensures.step in
    rw c.from_residual.ensures (took-none (link-short l c.loop-left-test.true ended.0) l.before l.long)

pub overflow_cast-left : goal.overflow_cast-left
overflow_cast-left c = omega (arith, link-feature c.loop-left.invariant.linking c.loop-left-test.true)

pub link-requires : goal.link-requires
link-requires c = (link-feature c.loop-left.invariant.linking c.loop-left-test.true, search rules)

pub bounds-graph-end : goal.bounds-graph-end
bounds-graph-end c =
    let taken = rw c.loop-left.invariant.same at c.in_ok-target.ensures.step in
    link-room c.loop-left.invariant.linking c.if-limit-end.false taken.inside

pub loop-left-preserved : goal.loop-left-preserved
loop-left-preserved c =
    let taken = rw c.loop-left.invariant.same at c.in_ok-target.ensures.step in
    record {
      same = c.byte.ensures.same ∙ c.loop-left.invariant.same;
      linking =
          link-next c.loop-left.invariant.linking c.loop-left-test.true c.if-limit-end.false (omega (arith, taken.byte-is, c.args.reader.now.small c.loop-left.reader.next))
          taken c.link.ensures
          c.without_lowest-left.ensures;
    }

pub returns-clause-took : goal.returns-clause-took
returns-clause-took c =
    let l = c.loop-left.invariant.linking in
    took-all (omega (arith, l.low)) (omega (arith, l.pace)) (link-end l c.loop-left-test.false) l.before l.long
