-- `wanted_level` meets its contract.
use mathlib.Core.Bool.{Bool, cond}
use mathlib.Core.Path.{sym, ap}
use native.Mathlib.Omega.{arith}
use borrow.Author.Tests.{eq-eqb, ne_eqb}
use Rattle.wanting.proofs.wanted_level.Goals as goal

pub returns-then-p-q : goal.returns-then-p-q
returns-then-p-q c =
    let a = c.args in
    ap (λ (b : Bool). cond b a.widest a.p) (sym (eq-eqb a.p a.q (omega (arith, c.if-p-q.true))))

pub returns-else-p-q : goal.returns-else-p-q
returns-else-p-q c =
    let a = c.args in
    ap (λ (b : Bool). cond b a.widest a.p) (sym (ne_eqb a.p a.q (λ e. omega (arith, c.if-p-q.false))))
