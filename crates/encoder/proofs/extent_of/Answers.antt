use mathlib.Core.Path.{◌≡◌, ◌∙◌, ap}
use Prim.Native.Nat.{◌+◌}
use native.Mathlib.Omega.{arith}
use lib.ListN.{get_or, length}
use Rattle.layout.specs.Layout.{label_at}
use Rattle.layout.proofs.NodeLinks.{links-long}
use Rattle.encoder.specs.NumberedRows.{degree, range_count}
use Rattle.encoder.proofs.LabelBytes.{label-length}
use Rattle.encoder.proofs.WrittenRows.{summed-start, summed-few, summed-step, summed-done, taken-end, taken-inside, taken-is, visited-node}
use Rattle.encoder.proofs.extent_of.Goals as goal

pub loop-v-init : goal.loop-v-init
loop-v-init c = summed-start c.requires

pub links-requires : goal.links-requires
links-requires c =
    let visited = c.loop-v.invariant.visited in
    let i = c.loop-v.v-index in
    let inside = taken-inside visited i c.loop-v-test.true in
    let is = taken-is visited i c.loop-v-test.true in
    rw is (visited-node visited i inside)

pub overflow_add-ranges : goal.overflow_add-ranges
overflow_add-ranges c =
    let visited = c.loop-v.invariant.visited in
    let i = c.loop-v.v-index in
    let inside = taken-inside visited i c.loop-v-test.true in
    let is = taken-is visited i c.loop-v-test.true in
    omega (
      arith,
      visited.few,
      summed-few c.loop-v.invariant,
      inside,
      c.range_count-ranges.ensures ∙ ap range_count (rw is at c.label_at.ensures),
      label-length (label_at c.args.graph.now (get_or c.args.visited.now i 0)),
    )

pub loop-v-preserved : goal.loop-v-preserved
loop-v-preserved c =
    let visited = c.loop-v.invariant.visited in
    let i = c.loop-v.v-index in
    let inside = taken-inside visited i c.loop-v-test.true in
    let is = taken-is visited i c.loop-v-test.true in
    let long : length c.links.result.now ≡ degree c.args.graph.now (get_or c.args.visited.now i 0) =
    links-long (visited-node visited i inside) (rw is at c.links.ensures) in
    rw long
    (summed-step c.loop-v.invariant inside (omega (arith, c.type_inv.graph (get_or c.args.visited.now i 0 + 2)))
    (c.range_count-ranges.ensures ∙ ap range_count (rw is at c.label_at.ensures)))

pub returns : goal.returns
returns c =
    let all = summed-done c.loop-v.invariant (taken-end c.loop-v.invariant.visited c.loop-v.v-index c.loop-v-test.false) in
    record { links_value = all.0; ranges_value = all.1 }
