-- `of` meets its contract: each number is read at its place.
use Rattle.listed.proofs.Numbers.{numbers-are}
use Rattle.listing.proofs.numbers.Numbers.of.Goals as goal

pub returns : goal.returns
returns c =
    numbers-are c.args.bytes.now _ _ _ _ _ _ _ _ _
    c.byte_at-nodes.ensures c.byte_at.ensures c.root_links.ensures c.width-second.ensures.0
    c.at-middle.ensures.kind_is c.at-middle.ensures.links_are c.width.ensures.0
    c.at-last.ensures.kind_is c.at-last.ensures.links_are
