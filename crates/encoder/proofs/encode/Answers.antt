use mathlib.Core.Path.{◌∙◌}
use native.Mathlib.Omega.{arith}
use lib.ListN.{take, length-set}
use Rattle.encoder.specs.NumberedRows.{numbered_rows}
use Rattle.encoder.proofs.Lengths.{encoded-length}
use Rattle.encoder.proofs.WrittenRows.{progress_start, progress-room, progress_step, progress-done, taken-end, taken-inside, taken-is}
use Rattle.encoder.proofs.encode.Goals as goal

pub bounds-out-0 : goal.bounds-out-0
bounds-out-0 c =
    omega (
      arith,
      c.requires.visited_in_bounds,
      encoded-length (numbered_rows c.args.graph.now c.args.numbers.now (take c.args.count c.args.visited.now)),
    )

pub loop-node-init : goal.loop-node-init
loop-node-init c = (c.requires.visited, omega arith, progress_start c.args.graph.now c.args.numbers.now c.args.visited.now _)

pub encode_row-at-requires : goal.encode_row-at-requires
encode_row-at-requires c =
    let visited = c.loop-node.invariant.0 in
    let i = c.loop-node.node-index in
    let inside = taken-inside visited i c.loop-node-test.true in
    let is = taken-is visited i c.loop-node-test.true in
    record {
      sound = (visited.sound, rw is (visited.nodes i inside));
      v_in_bounds =
          rw is
          (progress-room c.args.graph.now c.args.numbers.now c.args.visited.now i (omega (arith, visited.few, visited.long)) c.loop-node.invariant.2 inside
          (simp length-set c.requires.visited_in_bounds));
    }

pub loop-node-preserved : goal.loop-node-preserved
loop-node-preserved c =
    let visited = c.loop-node.invariant.0 in
    let i = c.loop-node.node-index in
    let inside = taken-inside visited i c.loop-node-test.true in
    let is = taken-is visited i c.loop-node-test.true in (
      visited,
      omega arith,
      progress_step c.args.graph.now c.args.numbers.now c.args.visited.now i (omega (arith, visited.few, visited.long)) c.loop-node.invariant.2
          (rw is at c.encode_row-at.ensures.value, rw is at c.encode_row-at.ensures.out_after),
    )

pub shape_of-out : goal.shape_of-out
shape_of-out c = c.loop-node.invariant.2.length-is ∙ simp length-set

pub returns : goal.returns
returns c =
    let visited = c.loop-node.invariant.0 in
    let end = taken-end visited c.loop-node.node-index c.loop-node-test.false in
    progress-done c.args.graph.now c.args.numbers.now c.args.visited.now c.args.out.now c.loop-node.invariant.2 (omega (arith, c.loop-node.invariant.1)) visited.few
    (omega (arith, visited.few, visited.long))
