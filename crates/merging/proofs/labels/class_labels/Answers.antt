-- `class_labels` meets its contract: all labels are top; the second graph's nodes lower them, then the first graph's do.
use Rattle.std.proofs.Common.{ℕ, ◌+◌, ◌<◌, ap, ◌∙◌, arith}
use lib.ListN.{length-replicate}
use Rattle.bounds.specs.Sets.{meet_in}
use Rattle.layout.specs.Layout.{size}
use Rattle.merging.specs.Lowered.{lowered}
use Rattle.merging.proofs.Lowering.{blank-below}
use Rattle.layout.proofs.Order.{directory}
use Rattle.merging.proofs.labels.class_labels.Goals as goal

pub bounds-a-0 : goal.bounds-a-0
bounds-a-0 c = omega (arith, directory c.requires.operand.recorded.sound.shaped)

pub bounds-b-0 : goal.bounds-b-0
bounds-b-0 c = omega (arith, directory c.requires.operand_2.recorded.sound.shaped)

pub clear-requires : goal.clear-requires
clear-requires c = let p = c.requires in ((p.n_nonzero.0, p.n_nonzero.1, omega (arith, p.operand.recorded.small, p.operand_2.recorded.small), length-replicate {A = ℕ} 1020 0, blank-below p.n_nonzero.0))

pub lower-requires : goal.lower-requires
lower-requires c =
    let p = c.requires in
    let e = c.clear.ensures in
    record {
      recorded = p.operand_2.recorded;
      shift_bound = (p.operand.recorded.small, e.labels_len.0);
      lowerable =
          (record { few = p.n_nonzero.1; meets-below = p.meeting.below; labelled = p.operand_2.labelled; below = e.labels_len.1 }, p.meeting.ready);
      by_index = λ v h. p.by_index (size c.args.a.now + v) (omega (arith, h));
    }

pub lower-requires-2 : goal.lower-requires-2
lower-requires-2 c =
    let p = c.requires in
    let f = c.lower.ensures in
    record {
      recorded = p.operand.recorded;
      shift_bound = (omega arith, f.labels_len);
      lowerable =
          (record { few = p.n_nonzero.1; meets-below = p.meeting.below; labelled = p.operand.labelled; below = f.below }, p.meeting.ready);
      by_index = λ v h. p.by_index (0 + v) (omega (arith, h));
    }

pub returns : goal.returns
returns c =
    let p = c.requires in
    let a = c.args in
    let e = c.clear.ensures in
    let f = c.lower.ensures in
    let g = c.lower-2.ensures in
    record {
      below = (g.below, g.labels_len);
      class_labels = λ x h.
          let l : x < 510 = omega (arith, p.operand.recorded.small, p.operand_2.recorded.small) in
          g.lowers x l ∙
          ap (lowered (meet_in a.n a.sets.now a.cells.now) a.a.now a.class.now 0 x)
          (f.lowers x l ∙ ap (lowered (meet_in a.n a.sets.now a.cells.now) a.b.now a.class.now (size a.a.now) x) (e.by_index x h));
    }
