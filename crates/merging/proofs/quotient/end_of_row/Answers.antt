-- `end_of_row` meets its contract.
use Rattle.std.proofs.Common.{Bool, cond, get_or, sym, ap, eq-eqb, ne_eqb}
use Rattle.merging.proofs.quotient.end_of_row.Goals as goal

pub returns-then-c-x : goal.returns-then-c-x
returns-then-c-x c = sym (ap (λ (t : Bool). cond t (get_or c.args.spans.now.end c.args.x 0) (get_or c.args.spans.now.start c.args.x 0)) (eq-eqb (get_or c.args.class.now c.args.x 0) c.args.x c.if-c-x.true))

pub returns : goal.returns
returns c = sym (ap (λ (t : Bool). cond t (get_or c.args.spans.now.end c.args.x 0) (get_or c.args.spans.now.start c.args.x 0)) (ne_eqb (get_or c.args.class.now c.args.x 0) c.args.x c.if-c-x.false))
