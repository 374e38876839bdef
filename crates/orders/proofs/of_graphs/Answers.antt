-- `of_graphs` meets its contract: two graphs are compared in both directions.
use mathlib.Core.Path.{ap₂, ◌∙◌}
use Rattle.record.proofs.Loaded.{both-recorded}
use Rattle.orders.specs.Ordering.{compared}
use Rattle.orders.proofs.Orders.{compared-ordered}
use Rattle.orders.proofs.of_graphs.Goals as goal

pub subsume-requires : goal.subsume-requires
subsume-requires c =
    let (n, (few, (one, other))) = c.requires in
    both-recorded few (one, other)

pub subsume-requires-2 : goal.subsume-requires-2
subsume-requires-2 c =
    let (n, (few, (one, other))) = c.requires in
    both-recorded few (other, one)

pub returns : goal.returns
returns c = λ n one other.
    c.order_reply.ensures ∙ ap₂ compared c.is_some-below.ensures c.is_some-above.ensures
    ∙ compared-ordered c.args.table.now one other _ _ (c.subsume.ensures n) (c.subsume-2.ensures n)
