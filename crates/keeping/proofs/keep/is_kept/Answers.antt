-- `is_kept` meets its contract.
use mathlib.Core.Path.{refl, sym, ◌∙◌, ap}
use mathlib.Core.Logic.{⊎_elim}
use Prim.Native.Nat.{ℕ}
use borrow.Author.Tests.{eqb-true, eq-eqb}
use lib.ListN.{get_or}
use Rattle.graphs.proofs.Search.{true-false}
use Rattle.groups.proofs.LinkMarks.{follows-zero, leads-not-zero, bare-not-zero}
use Rattle.keeping.proofs.keep.is_kept.Goals as goal

pub returns-in-Follows : goal.returns-in-Follows
returns-in-Follows c = record { yes-stands = λ e. true-false e refl; no-stands = λ e s. s.leads (follows-zero c.from.ensures c.in-Follows.is) }

pub returns-in-Leads : goal.returns-in-Leads
returns-in-Leads c =
    let is = ap (λ (w : ℕ). get_or c.args.keep.now w 0) c.target.ensures in
    let leads = ⊎_elim (leads-not-zero c.from.ensures) (bare-not-zero c.from.ensures) c.in-Leads.is in
    record {
      yes-stands = λ e. record { leads = leads; enters = sym is ∙ eqb-true _ _ e };
      no-stands = λ e s. true-false (eq-eqb _ _ (is ∙ s.enters)) e;
    }
