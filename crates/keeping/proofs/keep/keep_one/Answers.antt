-- `keep_one` meets its contract: the node that the link at place k gives a cause to keep is kept.
use Rattle.groups.proofs.LinkMarks.{follows-zero, leads-not-zero, leads-not-two, bare-two, bare-not-zero}
use Rattle.keeping.proofs.Keeping.{entering-follows, entering-bare, entering-again, entering-first}
use Rattle.keeping.proofs.keep.keep_one.Goals.{in-Leads+then-entered-v-eq1, in-Leads+else-entered-v-eq1, in-Bare}
use Rattle.keeping.proofs.keep.keep_one.Goals as goal

pub returns-in-Follows : goal.returns-in-Follows
returns-in-Follows c = λ old e. entering-follows _ _ _ e (follows-zero c.from.ensures c.in-Follows.is)

pub returns : goal.returns
returns c = λ old e.
    let at = c.requires.by_index in
    let is = c.target-v.ensures in
    let mark = c.from.ensures in
    elim c.match-from.branch [
      | in-Leads+then-entered-v-eq1 w ↦ rw (w.keep-is, is) (entering-again _ _ _ e at.0.1 (leads-not-zero mark w.in-Leads.is) at.2 (rw is at w.if-entered-v-eq1.true))
      | in-Leads+else-entered-v-eq1 w ↦ rw (w.keep-is, is) (entering-first _ _ _ e at.0.1 (leads-not-zero mark w.in-Leads.is) at.2 (leads-not-two mark w.in-Leads.is) (rw is at w.if-entered-v-eq1.false))
      | in-Bare w ↦ rw (w.keep-is, is) (entering-bare _ _ _ e at.0.1 (bare-not-zero mark w.in-Bare.is) at.2 (bare-two mark w.in-Bare.is))
    ]
