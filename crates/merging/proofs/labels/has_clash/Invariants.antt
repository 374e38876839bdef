-- `has_clash` meets its contract. The loop's invariant: no node before x has a contradiction as its label.
use Rattle.std.proofs.Common.{◌≡◌, ◌-◌, ◌≤◌}
use Rattle.graphs.specs.Rows.{from}
use Rattle.graphs.specs.Unify.{any_of}
use Rattle.layout.specs.Layout.{label_at}
use Rattle.merging.specs.Clash.{contradicts}
use Rattle.merging.proofs.labels.has_clash.Given as goal

abbrev pub invariant-loop-x : goal.invariant-loop-x
invariant-loop-x l =
    (any_of (from 0 l.nodes) (λ y. contradicts (label_at l.graph y)) ≡ any_of (from l.x (l.nodes - l.x)) (λ y. contradicts (label_at l.graph y))) × (l.x ≤ l.nodes)
