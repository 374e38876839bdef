-- `merge` meets its contract: it takes the least size that the graphs fit in.
use mathlib.Core.Logic.{inl, inr}
use native.Mathlib.Omega.{arith}
use Rattle.layout.proofs.Order.{directory}
use Rattle.merging.proofs.Sizes.{links-most, spacious}
use Rattle.unify.proofs.merge.Goals as goal

pub bounds-a-0 : goal.bounds-a-0
bounds-a-0 c = omega (arith, directory c.requires.operand.recorded.sound.shaped)

pub overflow_cast-nodes : goal.overflow_cast-nodes
overflow_cast-nodes c = omega (arith, c.requires.operand.recorded.small)

pub bounds-b-0 : goal.bounds-b-0
bounds-b-0 c = omega (arith, directory c.requires.operand_2.recorded.sound.shaped)

pub overflow_cast-nodes-2 : goal.overflow_cast-nodes-2
overflow_cast-nodes-2 c = omega (arith, c.requires.operand_2.recorded.small)

pub overflow_add-nodes : goal.overflow_add-nodes
overflow_add-nodes c = omega (arith, c.requires.operand.recorded.small, c.requires.operand_2.recorded.small)

pub link_count-links-requires : goal.link_count-links-requires
link_count-links-requires c = (c.requires.operand.recorded, c.requires.operand_2.recorded)

pub merge_sized-requires : goal.merge_sized-requires
merge_sized-requires c =
    let p = c.requires in
    record {
      n_nonzero = p.n_nonzero;
      meeting = p.meeting;
      operand = p.operand;
      operand_2 = p.operand_2;
      few = (omega arith, omega arith);
      spacious =
          (spacious p.operand.recorded p.operand_2.recorded {nodes = 20} {links = 48} {width = 48} c.if-nodes-le-SMALL_NODES.true (omega (arith, c.if-links-le-SMALL_LINKS.true, c.link_count-links.ensures)) (inr (omega arith)) (omega arith) (omega arith), p.holding);
    }

pub merge_sized-requires-then-links-le-MIDDLE_LINKS : goal.merge_sized-requires-then-links-le-MIDDLE_LINKS
merge_sized-requires-then-links-le-MIDDLE_LINKS c =
    let p = c.requires in
    record {
      n_nonzero = p.n_nonzero;
      meeting = p.meeting;
      operand = p.operand;
      operand_2 = p.operand_2;
      few = (omega arith, omega arith);
      spacious =
          (spacious p.operand.recorded p.operand_2.recorded {nodes = 80} {links = 240} {width = 64} c.if-nodes-le-MIDDLE_NODES.true (omega (arith, c.if-links-le-MIDDLE_LINKS.true, c.link_count-links.ensures)) (inl (omega arith)) (omega arith) (omega arith), p.holding);
    }

pub merge_sized-requires-2 : goal.merge_sized-requires-2
merge_sized-requires-2 c =
    let p = c.requires in
    record {
      n_nonzero = p.n_nonzero;
      meeting = p.meeting;
      operand = p.operand;
      operand_2 = p.operand_2;
      few = (omega arith, omega arith);
      spacious =
          (spacious p.operand.recorded p.operand_2.recorded {nodes = 510} {links = 4096} {width = 64} (omega (arith, p.operand.recorded.small, p.operand_2.recorded.small)) (links-most p.operand.recorded p.operand_2.recorded) (inl (omega arith)) (omega arith) (omega arith), p.holding);
    }
