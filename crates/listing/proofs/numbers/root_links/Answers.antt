-- `root_links` meets its contract: two targets that differ give 4.
use Rattle.listed.proofs.Numbers.{root-other, root-three, root-four}
use Rattle.listing.proofs.numbers.root_links.Goals as goal

pub returns-then-map-ne3 : goal.returns-then-map-ne3
returns-then-map-ne3 c = root-other c.args.bytes.now _ c.byte_at-map.ensures c.if-map-ne3.true

pub returns-then-byte_at : goal.returns-then-byte_at
returns-then-byte_at c =
    root-three c.args.bytes.now _ c.byte_at-map.ensures
    c.if-map-ne3.false _ _ c.byte_at.ensures c.byte_at-2.ensures c.if-byte_at.true

pub returns : goal.returns
returns c =
    root-four c.args.bytes.now _ c.byte_at-map.ensures
    c.if-map-ne3.false _ _ c.byte_at.ensures c.byte_at-2.ensures c.if-byte_at.false
