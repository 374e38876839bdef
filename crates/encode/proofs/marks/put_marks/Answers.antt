use native.Mathlib.Omega.{arith}
use Rattle.encoder.proofs.WrittenRows.{visited-small}
use Rattle.encode.proofs.MarkedRows.{marks-start, marks-room, marks-step, marks-done}
use Rattle.encode.proofs.marks.put_marks.Goals as goal

pub loop-i-init : goal.loop-i-init
loop-i-init c =
    marks-start c.args.graph.now c.args.marks.now c.requires.visited c.requires.graph_len_bound.0 c.requires.graph_len_bound.1 c.requires.visited_in_bounds

pub offset_bounds-visited-i : goal.offset_bounds-visited-i
offset_bounds-visited-i c = omega (arith, c.loop-i.invariant.visited.few, c.loop-i-test.true)

pub bounds-visited-i : goal.bounds-visited-i
bounds-visited-i c = omega (arith, c.loop-i.invariant.visited.few, c.loop-i-test.true)

pub overflow_cast-v : goal.overflow_cast-v
overflow_cast-v c = omega (arith, visited-small c.loop-i.invariant.visited c.loop-i.i c.loop-i-test.true)

pub put_row-at-requires : goal.put_row-at-requires
put_row-at-requires c =
    let inv = c.loop-i.invariant in
    record {
      sound = (inv.visited.sound, inv.visited.nodes c.loop-i.i c.loop-i-test.true);
      graph_len_bound = (inv.short, inv.long);
      v_in_bounds = marks-room c.args.graph.now c.args.marks.now inv c.loop-i-test.true;
    }

pub loop-i-smaller : goal.loop-i-smaller
loop-i-smaller c = omega (arith, c.loop-i-test.true)

pub loop-i-preserved : goal.loop-i-preserved
loop-i-preserved c =
    marks-step c.args.graph.now c.args.marks.now c.loop-i.invariant c.loop-i-test.true (c.put_row-at.ensures.value, c.put_row-at.ensures.beside_after)

pub shape_of-beside : goal.shape_of-beside
shape_of-beside c = c.loop-i.invariant.length-is

pub returns : goal.returns
returns c =
    marks-done c.args.graph.now c.args.marks.now c.loop-i.invariant c.loop-i-test.false
