-- `from` meets its contract, by the byte.
use mathlib.Core.Path.{sym}
use borrow.Author.Rules.{rules}
use Rattle.groups.proofs.LinkMarks.{zero-follows, two-bare, other-leads}
use Rattle.groups.proofs.LinkMarkFromU8.from.Goals as goal

pub returns-in-0 : goal.returns-in-0
returns-in-0 c = sym (zero-follows c.in-0.is)

pub returns-in-2 : goal.returns-in-2
returns-in-2 c = sym (two-bare c.in-2.is)

pub returns-in_default : goal.returns-in_default
returns-in_default c = sym (other-leads (search rules) (search rules))
