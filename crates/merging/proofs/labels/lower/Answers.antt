use Rattle.std.proofs.Common.{◌+◌, ◌-◌, ◌*◌, get_or, ap, ◌∙◌, ap₂, arith}
use Rattle.lattice.specs.Label.{Label}
use Rattle.lattice.specs.Labels.{meet_ranged}
use Rattle.bounds.specs.Sets.{meet_in}
use Rattle.lattice.proofs.Lawful.{known_more}
use Rattle.layout.specs.Layout.{header}
use Rattle.layout.specs.Builder.{put_label}
use Rattle.layout.proofs.Order.{directory}
use Rattle.merging.proofs.Lowering.{lower-start, lower-step, lower-done, node-known, class-known}
use Rattle.merging.proofs.labels.lower.Goals as goal

pub bounds-graph-0 : goal.bounds-graph-0
bounds-graph-0 c = omega (arith, directory c.requires.recorded.sound.shaped)

pub loop-v-init : goal.loop-v-init
loop-v-init c = lower-start _ _ _ _ _ c.requires.shift_bound.1

pub overflow_add-c : goal.overflow_add-c
overflow_add-c c = omega (arith, c.requires.shift_bound.0, c.loop-v.invariant.most, c.requires.recorded.small)

pub offset_bounds-class-shift : goal.offset_bounds-class-shift
offset_bounds-class-shift c = omega (arith, c.requires.shift_bound.0, c.loop-v.invariant.most, c.requires.recorded.small)

pub bounds-class-shift : goal.bounds-class-shift
bounds-class-shift c = omega (arith, c.loop-v-test.true, c.requires.shift_bound.0, c.loop-v.invariant.most, c.requires.recorded.small)

pub overflow_cast-c : goal.overflow_cast-c
overflow_cast-c c = omega (arith, (c.requires.by_index (c.loop-v.v - 1) (omega (arith, c.loop-v-test.true, c.loop-v.invariant.most))))

pub label_at-requires : goal.label_at-requires
label_at-requires c = (c.requires.recorded.sound.shaped, (omega (arith, c.loop-v-test.true, c.loop-v.invariant.most)))

pub overflow_mul-c : goal.overflow_mul-c
overflow_mul-c c = omega (arith, (c.requires.by_index (c.loop-v.v - 1) (omega (arith, c.loop-v-test.true, c.loop-v.invariant.most))))

pub label_from-requires : goal.label_from-requires
label_from-requires c = (omega (arith, (c.requires.by_index (c.loop-v.v - 1) (omega (arith, c.loop-v-test.true, c.loop-v.invariant.most))), c.loop-v.invariant.long), let able = c.requires.lowerable.0 in known_more (omega (arith, able.few)) (class-known c.loop-v.invariant able c.loop-v-test.true (c.requires.by_index (c.loop-v.v - 1) (omega (arith, c.loop-v-test.true, c.loop-v.invariant.most)))))

pub meet-lower-requires : goal.meet-lower-requires
meet-lower-requires c =
    let able = c.requires.lowerable.0 in
    let s = c.loop-v.invariant in
    let h = c.loop-v-test.true in
    let p = (c.requires.by_index (c.loop-v.v - 1) (omega (arith, c.loop-v-test.true, c.loop-v.invariant.most))) in
    record {
      kind_lt_n =
          (omega (arith, ap (λ (l : Label). l.type) c.label_at.ensures, (node-known s able h p).type), omega (arith, ap (λ (l : Label). l.type) c.label_from.ensures, (class-known s able h p).type), able.few);
      seekable = c.requires.lowerable.1;
    }

pub overflow_mul-c-in-loop-v : goal.overflow_mul-c-in-loop-v
overflow_mul-c-in-loop-v c = omega (arith, (c.requires.by_index (c.loop-v.v - 1) (omega (arith, c.loop-v-test.true, c.loop-v.invariant.most))))

pub put_label-requires : goal.put_label-requires
put_label-requires c = omega (arith, (c.requires.by_index (c.loop-v.v - 1) (omega (arith, c.loop-v-test.true, c.loop-v.invariant.most))), c.loop-v.invariant.long)

pub loop-v-preserved : goal.loop-v-preserved
loop-v-preserved c = let x = c.loop-v in lower-step x.invariant c.requires.lowerable.0 c.loop-v-test.true (c.requires.by_index (c.loop-v.v - 1) (omega (arith, c.loop-v-test.true, c.loop-v.invariant.most))) (c.put_label.ensures ∙ ap (put_label x.labels (header * get_or c.args.class.now (c.args.shift + (x.v - 1)) 0)) (c.meet-lower.ensures ∙ ap₂ (meet_ranged (meet_in c.args.n c.args.sets.now c.args.cells.now)) c.label_at.ensures c.label_from.ensures))

pub returns : goal.returns
returns c =
    let s = c.loop-v.invariant in
    record {
      labels_len = s.long;
      below = s.below _ c.requires.lowerable.0;
      lowers = lower-done s (omega (arith, c.loop-v-test.false));
    }
