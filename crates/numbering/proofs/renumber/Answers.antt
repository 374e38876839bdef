-- `renumber` meets its contract, because the numbering is the visit over the rows.
use native.Mathlib.Omega.{arith}
use Rattle.encode.proofs.WrittenForm.{too_many, many-links, visited-nodes, visited-room}
use Rattle.numbering.proofs.CopiedRows.{renumbered, renumbers-links, renumbers-nodes, visited-numbered}
use Rattle.numbering.proofs.renumber.Goals as goal

pub returns-in_default : goal.returns-in_default
returns-in_default c = renumbers-nodes (too_many c.requires.sound c.in_default.ensures.numbers)

pub extent_of-extent-requires : goal.extent_of-extent-requires
extent_of-extent-requires c =
    let numbered = c.in-Some.ensures in
    visited-nodes c.requires.sound numbered.numbers numbered.visited_len_2

pub returns-then-extent-gt2048 : goal.returns-then-extent-gt2048
returns-then-extent-gt2048 c =
    let numbered = c.in-Some.ensures in
    renumbers-links (many-links c.requires.sound numbered.numbers numbered.visited_len_2 (omega (arith, c.extent_of-extent.ensures, c.if-extent-gt2048.true)))

pub copy_rows-requires : goal.copy_rows-requires
copy_rows-requires c =
    let numbered = c.in-Some.ensures in
    record {
      closed = visited-numbered c.requires.sound numbered.numbers numbered.visited_len_2 c.extent_of-extent.ensures.links_value c.if-extent-gt2048.false;
      visited_in_bounds = omega (arith, visited-room c.requires.sound numbered.numbers numbered.visited_len_2, c.requires.graph_in_bounds);
    }

pub returns : goal.returns
returns c =
    let numbered = c.in-Some.ensures in
    renumbered c.requires.sound numbered.numbers numbered.visited_len_2 c.extent_of-extent.ensures.links_value c.if-extent-gt2048.false c.copy_rows.ensures
