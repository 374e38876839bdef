-- `is_sized` meets its contract.
use mathlib.Core.Path.{sym}
use borrow.Author.Rules.{rules}
use Rattle.lattice.proofs.Sizes.{size_low, size-high, size-length}
use Rattle.acceptance.proofs.order.is_sized.Goals as goal

pub returns-then-n-lt2 : goal.returns-then-n-lt2
returns-then-n-lt2 c = sym (size_low _ _ c.if-n-lt2.true)

pub returns-then-n-gt64 : goal.returns-then-n-gt64
returns-then-n-gt64 c = sym (size-high _ _ c.if-n-gt64.true)

pub returns : goal.returns
returns c = size-length _ _ (search rules) (search rules)
