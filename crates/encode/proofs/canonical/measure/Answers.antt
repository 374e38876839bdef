-- `measure` meets its contract, because the numbering is the visit over the rows.
use mathlib.Core.Logic.{inl, inr}
use native.Mathlib.Omega.{arith}
use Rattle.encode.proofs.Outcomes.{measured-large, measured-small}
use Rattle.encode.proofs.WrittenForm.{too_many, visited-nodes, many-links, ranges-few, measured-fits}
use Rattle.encode.proofs.canonical.measure.Goals as goal

pub returns-in_default : goal.returns-in_default
returns-in_default c = measured-large (inl (too_many c.requires.sound c.in_default.ensures.numbers))

pub extent_of-extent-requires : goal.extent_of-extent-requires
extent_of-extent-requires c =
    let numbered = c.in-Some.ensures in
    visited-nodes c.requires.sound numbered.numbers numbered.visited_len_2

pub returns-then-extent-gt2048 : goal.returns-then-extent-gt2048
returns-then-extent-gt2048 c =
    let numbered = c.in-Some.ensures in
    measured-large
    (inr (many-links c.requires.sound numbered.numbers numbered.visited_len_2 (omega (arith, c.extent_of-extent.ensures, c.if-extent-gt2048.true))))

pub overflow_mul-length : goal.overflow_mul-length
overflow_mul-length c =
    let numbered = c.in-Some.ensures in
    omega (arith, (visited-nodes c.requires.sound numbered.numbers numbered.visited_len_2).few)

pub overflow_add-length : goal.overflow_add-length
overflow_add-length c =
    let numbered = c.in-Some.ensures in
    omega (arith, (visited-nodes c.requires.sound numbered.numbers numbered.visited_len_2).few)

pub overflow_mul-length-2 : goal.overflow_mul-length-2
overflow_mul-length-2 c =
    let numbered = c.in-Some.ensures in
    let extent = c.extent_of-extent.ensures in
    omega (arith, ranges-few c.requires.sound numbered.numbers numbered.visited_len_2 (extent.links_value, extent.ranges_value))

pub overflow_add-length-2 : goal.overflow_add-length-2
overflow_add-length-2 c =
    let numbered = c.in-Some.ensures in
    let extent = c.extent_of-extent.ensures in
    let nodes = visited-nodes c.requires.sound numbered.numbers numbered.visited_len_2 in
    omega (arith, nodes.few, ranges-few c.requires.sound numbered.numbers numbered.visited_len_2 (extent.links_value, extent.ranges_value))

pub overflow_add-length-3 : goal.overflow_add-length-3
overflow_add-length-3 c =
    let numbered = c.in-Some.ensures in
    let extent = c.extent_of-extent.ensures in
    let nodes = visited-nodes c.requires.sound numbered.numbers numbered.visited_len_2 in
    omega (arith, nodes.few, ranges-few c.requires.sound numbered.numbers numbered.visited_len_2 (extent.links_value, extent.ranges_value), c.if-extent-gt2048.false)

pub returns : goal.returns
returns c =
    let numbered = c.in-Some.ensures in
    let extent = c.extent_of-extent.ensures in
    measured-small
    (measured-fits c.requires.sound numbered.numbers numbered.visited_len_2 (extent.links_value, extent.ranges_value) c.if-extent-gt2048.false)
