-- `byte` meets its contract, by the row that the place lies in.
use mathlib.Core.Path.{◌∙◌, ap, sym}
use Prim.Native.Nat.{ℕ}
use lib.ListN.{get_or}
use Rattle.listed.specs.Listing.{record_of}
use Rattle.listed.proofs.Places.{byte-count, at_first, at_second, in-third, at-third}
use Rattle.listing.specs.Numbers.{number_list}
use Rattle.listing.proofs.numbers.Numbers.byte.Goals as goal

pub returns-then-at-eq0 : goal.returns-then-at-eq0
returns-then-at-eq0 c =
    byte-count _ _ _ _ _ _ _ c.requires.0.0 c.requires.0.1
    ∙ ap (λ (i : ℕ). get_or (record_of (number_list c.args.self)) i 0) (sym c.if-at-eq0.true)

pub returns-then-at-one : goal.returns-then-at-one
returns-then-at-one c =
    c.row_byte.ensures ∙ at_first _ _ _ _ _ _ _ _ c.requires.0 _ c.width-one.ensures.0 c.if-at-eq0.false c.if-at-one.true

pub returns-then-at-two : goal.returns-then-at-two
returns-then-at-two c =
    c.row_byte-then-at-two.ensures
    ∙ at_second _ _ _ _ _ _ _ _ c.requires.0 _ _ c.width-one.ensures.0 c.width.ensures.0 c.if-at-one.false c.if-at-two.true c.requires.1

pub row_byte-requires-2 : goal.row_byte-requires-2
row_byte-requires-2 c =
    in-third _ _ _ _ _ _ _ _ c.requires.0 _ _ c.width-one.ensures.0 c.width.ensures.0 c.if-at-two.false c.requires.1

pub returns : goal.returns
returns c =
    c.row_byte-2.ensures
    ∙ at-third _ _ _ _ _ _ _ _ c.requires.0 _ _ c.width-one.ensures.0 c.width.ensures.0 c.if-at-two.false c.requires.1
