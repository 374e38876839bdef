-- `first` meets its contract: the least numbers state the first record.
use mathlib.Core.Path.{ap}
use mathlib.Core.Bool.{not}
use mathlib.Core.Path.{◌∙◌}
use native.Mathlib.Omega.{arith}
use Rattle.listing.proofs.Continued.{count-refused, count_kept, counts, first-written, first-continued}
use Rattle.listing.proofs.first.Goals as goal

pub returns-then-not-is_count : goal.returns-then-not-is_count
returns-then-not-is_count c =
    λ n low small. count-refused c.args.features c.is_count.ensures _ c.args.out.now (ap not c.if-not-is_count.true)

pub write-requires : goal.write-requires
write-requires c =
    first-written 2 c.args.features c.args.out.now (omega arith) (omega arith)
    (counts c.args.features c.is_count.ensures (ap not c.if-not-is_count.false)) c.from_root_links-numbers.result
    c.from_root_links-numbers.ensures

pub returns : goal.returns
returns c =
    λ n low small. count_kept c.args.features c.is_count.ensures
    (ap not c.if-not-is_count.false) c.args.out.now
    (c.write.ensures ∙ first-continued n c.args.features c.args.out.now low small
    (counts c.args.features c.is_count.ensures
    (ap not c.if-not-is_count.false)) c.from_root_links-numbers.result
    c.from_root_links-numbers.ensures)
