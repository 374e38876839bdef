-- `is_contradiction` meets its contract.
use Rattle.std.proofs.Common.{suc, Bool, ◌||◌, leb, sym, ap, ◌∙◌, eq-eqb, ne_eqb}
use Rattle.merging.proofs.labels.is_contradiction.Goals as goal

pub returns-then-label-eq0 : goal.returns-then-label-eq0
returns-then-label-eq0 c = let l = c.args.label in eq-eqb l.kind 0 c.if-label-eq0.true ∙ sym (ap (λ (b : Bool). b || leb (suc l.highest) l.lowest) (eq-eqb l.kind 0 c.if-label-eq0.true))

pub returns-else-label-eq0 : goal.returns-else-label-eq0
returns-else-label-eq0 c = let l = c.args.label in sym (ap (λ (b : Bool). b || leb (suc l.highest) l.lowest) (ne_eqb l.kind 0 c.if-label-eq0.false))
