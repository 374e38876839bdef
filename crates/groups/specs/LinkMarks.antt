-- The marks of links as bytes.
use Rattle.std.specs.Prelude.{cond, ℕ, eqb}
use Rattle.groups.specs.declared.LinkMark.{LinkMark}
use Rattle.groups.specs.declared.LinkMark.TheVariants.{Follows, Leads, Bare}

-- The mark that a byte is: 0 is `Follows`, 2 is `Bare`, and any other byte is `Leads`.
unfoldable pub link_mark_of : ℕ → LinkMark
link_mark_of byte = cond (eqb byte 0) Follows (cond (eqb byte 2) Bare Leads)
