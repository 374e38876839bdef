-- `after` meets its contract: the byte behind an entry goes by the entry's place in its row.
use borrow.Author.Tests.{eq-eqb, ne_eqb}
use Rattle.house_types.proofs.after.Goals as goal

pub returns-then-k-eq63 : goal.returns-then-k-eq63
returns-then-k-eq63 c = simp (eq-eqb _ _ c.if-k-eq63.true)

pub returns-else-k-eq63 : goal.returns-else-k-eq63
returns-else-k-eq63 c = simp (ne_eqb _ _ c.if-k-eq63.false)
