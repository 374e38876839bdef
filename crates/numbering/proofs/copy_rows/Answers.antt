use native.Mathlib.Omega.{arith}
use Rattle.encoder.proofs.WrittenRows.{taken-end, taken-inside, taken-is}
use Rattle.numbering.proofs.CopiedRows.{copying-start, copying-numbered, copying-short, copying-room, next_low, copying-step, copying-same, copying-done}
use Rattle.numbering.proofs.copy_rows.Goals as goal

pub overflow_add-at : goal.overflow_add-at
overflow_add-at c = omega (arith, c.requires.closed.nodes.few)

pub overflow_cast-new : goal.overflow_cast-new
overflow_cast-new c = omega (arith, c.requires.closed.nodes.few)

pub bounds-new-1 : goal.bounds-new-1
bounds-new-1 c = omega (arith, c.requires.visited_in_bounds)

pub loop-i-init : goal.loop-i-init
loop-i-init c = copying-start c.args.new.now c.requires.closed c.requires.visited_in_bounds

pub copy_row-at-requires : goal.copy_row-at-requires
copy_row-at-requires c =
    let nodes = c.loop-i.invariant.closed.nodes in
    let inside = taken-inside nodes c.loop-i.i c.loop-i-test.true in
    let is = taken-is nodes c.loop-i.i c.loop-i-test.true in
    (record { numbered = rw is (copying-numbered c.loop-i.invariant inside); v_bound = (rw is (copying-short c.loop-i.invariant inside), rw is (copying-room c.loop-i.invariant inside)) })

pub overflow_cast-new-in-loop-i : goal.overflow_cast-new-in-loop-i
overflow_cast-new-in-loop-i c =
    let nodes = c.loop-i.invariant.closed.nodes in
    let inside = taken-inside nodes c.loop-i.i c.loop-i-test.true in
    let is = taken-is nodes c.loop-i.i c.loop-i-test.true in
    omega (arith, next_low c.loop-i.invariant inside (rw is at c.copy_row-at.ensures))

pub bounds-new-i : goal.bounds-new-i
bounds-new-i c =
    let nodes = c.loop-i.invariant.closed.nodes in
    let inside = taken-inside nodes c.loop-i.i c.loop-i-test.true in
    let is = taken-is nodes c.loop-i.i c.loop-i-test.true in
    omega (arith, c.loop-i.invariant.fits, c.loop-i.invariant.long, inside, c.copy_row-at.ensures.long)

pub loop-i-preserved : goal.loop-i-preserved
loop-i-preserved c =
    let nodes = c.loop-i.invariant.closed.nodes in
    let inside = taken-inside nodes c.loop-i.i c.loop-i-test.true in
    let is = taken-is nodes c.loop-i.i c.loop-i-test.true in
    copying-step c.loop-i.invariant inside (rw is at c.copy_row-at.ensures)

pub overflow_cast-new-2 : goal.overflow_cast-new-2
overflow_cast-new-2 c = omega (arith, c.loop-i.invariant.closed.nodes.few)

pub bounds-new-0 : goal.bounds-new-0
bounds-new-0 c = omega (arith, c.loop-i.invariant.fits, c.loop-i.invariant.long)

pub shape_of-new : goal.shape_of-new
shape_of-new c = copying-same c.args.new.now c.loop-i.invariant

pub returns : goal.returns
returns c = copying-done c.loop-i.invariant (taken-end c.loop-i.invariant.closed.nodes c.loop-i.i c.loop-i-test.false)
