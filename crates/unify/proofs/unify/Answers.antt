-- `unify` meets its contract.
use native.Mathlib.Omega.{arith}
use Rattle.layout.proofs.Order.{directory}
use Rattle.merging.proofs.Sizes.{links-most, holding}
use Rattle.unify.proofs.unify.Goals as goal

pub bounds-a-0 : goal.bounds-a-0
bounds-a-0 c = omega (arith, directory c.requires.operand.recorded.sound.shaped)

pub overflow_cast-a : goal.overflow_cast-a
overflow_cast-a c = omega (arith, c.requires.operand.recorded.small)

pub bounds-b-0 : goal.bounds-b-0
bounds-b-0 c = omega (arith, directory c.requires.operand_2.recorded.sound.shaped)

pub overflow_cast-b : goal.overflow_cast-b
overflow_cast-b c = omega (arith, c.requires.operand_2.recorded.small)

pub overflow_add-a : goal.overflow_add-a
overflow_add-a c = omega (arith, c.requires.operand.recorded.small, c.requires.operand_2.recorded.small)

pub link_count-requires : goal.link_count-requires
link_count-requires c = (c.requires.operand.recorded, c.requires.operand_2.recorded)

pub unify_sized-requires : goal.unify_sized-requires
unify_sized-requires c =
    let p = c.requires in
    record {
      n_nonzero = p.n_nonzero;
      meeting = p.meeting;
      operand = p.operand;
      operand_2 = p.operand_2;
      holding =
          holding p.operand.recorded p.operand_2.recorded {nodes = 80} {links = 240} c.if-a-b-le-MIDDLE_NODES.true (omega (arith, c.if-link_count-le-MIDDLE_LINKS.true, c.link_count.ensures)) (omega arith) (omega arith);
    }

pub unify_sized-requires-2 : goal.unify_sized-requires-2
unify_sized-requires-2 c =
    let p = c.requires in
    record {
      n_nonzero = p.n_nonzero;
      meeting = p.meeting;
      operand = p.operand;
      operand_2 = p.operand_2;
      holding =
          holding p.operand.recorded p.operand_2.recorded {nodes = 510} {links = 4096} (omega (arith, p.operand.recorded.small, p.operand_2.recorded.small)) (links-most p.operand.recorded p.operand_2.recorded) (omega arith) (omega arith);
    }
