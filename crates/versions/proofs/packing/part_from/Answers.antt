-- `packing::part_from` meets its contract: it is the difference of two records by number, without reasons.
use mathlib.Core.Bool.{false}
use mathlib.Core.List.{[]}
use Rattle.acceptance.proofs.Acceptance.{accepted-opened}
use Rattle.calls.proofs.Differences.{plain-part, differing-accepted}
use Rattle.versions.proofs.packing.part_from.Goals as goal

pub of_records-requires : goal.of_records-requires
of_records-requires c = (c.requires, c.by_number-order.ensures.0)

pub returns : goal.returns
returns c =
    let a = c.args in
    plain-part {old = []}
    (differing-accepted false a.n a.table.now a.part.now a.program.now a.output.now []
    (accepted-opened a.n a.table.now c.requires)
    c.by_number-order.ensures.1
    c.of_records.ensures)
