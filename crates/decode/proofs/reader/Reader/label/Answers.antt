-- `Reader::label` meets its contract: it takes a type alone, or a type and two levels.
use native.Mathlib.Omega.{arith}
use Rattle.decode.proofs.Labels.{label-ended, label-plain, label-unranged, label-ranged}
use Rattle.decode.proofs.reader.Reader.label.Goals as goal

pub returns-in_err-kind-clause-step : goal.returns-in_err-kind-clause-step
returns-in_err-kind-clause-step c = rw c.from_residual.ensures (label-ended _ _ c.in_err-kind.ensures.step.0)

pub returns-then-kind-lt128-clause-step : goal.returns-then-kind-lt128-clause-step
returns-then-kind-lt128-clause-step c = label-plain _ _ c.in_ok-kind.ensures.step c.if-kind-lt128.true

pub returns-in_err-lowest-clause-step : goal.returns-in_err-lowest-clause-step
returns-in_err-lowest-clause-step c =
    let kind = c.in_ok-kind.ensures.step in
    let ended = rw c.byte.ensures.same at c.in_err-lowest.ensures.step in
    rw c.from_residual-in_err-lowest.ensures (label-unranged _ _ kind c.if-kind-lt128.false (omega (arith, kind.next-is, ended.0)))

pub returns-in_err-highest-clause-step : goal.returns-in_err-highest-clause-step
returns-in_err-highest-clause-step c =
    let kind = c.in_ok-kind.ensures.step in
    let lowest = rw c.byte.ensures.same at c.in_ok-lowest.ensures.step in
    let ended = rw (c.byte-2.ensures.same, c.byte.ensures.same) at c.in_err-highest.ensures.step in
    rw c.from_residual-in_err-highest.ensures
    (label-unranged _ _ kind c.if-kind-lt128.false (omega (arith, kind.next-is, lowest.next-is, ended.0)))

pub returns-clause-step : goal.returns-clause-step
returns-clause-step c =
    let kind = c.in_ok-kind.ensures.step in
    label-ranged _ _ kind c.if-kind-lt128.false (omega (arith, kind.byte-is, c.args.self.now.small c.args.self.now.next))
    (rw c.byte.ensures.same at c.in_ok-lowest.ensures.step)
    (rw (c.byte-2.ensures.same, c.byte.ensures.same) at c.in_ok-highest.ensures.step)
