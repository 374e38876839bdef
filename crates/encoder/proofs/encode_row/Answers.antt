use native.Mathlib.Nat.{add-zero, add_assoc}
use native.Mathlib.Omega.{arith}
use Rattle.layout.proofs.NodeLinks.{links-long, links-inside, links-feature, links-target}
use Rattle.encoder.proofs.WrittenRows.{label-room, map-room, row-start, turn_step, row_done}
use Rattle.encoder.proofs.encode_row.Goals as goal

pub put_label-map_at-requires : goal.put_label-map_at-requires
put_label-map_at-requires c =
    let all = label-room c.requires.sound.0 c.args.v c.requires.sound.1 c.args.numbers.now c.args.at c.label_at.ensures c.args.out.now c.requires.v_in_bounds in
    record { kind_bound = all.0; label_in_bounds = all.1 }

pub overflow_add-next : goal.overflow_add-next
overflow_add-next c =
    omega (
      arith,
      map-room c.requires.sound.0 c.args.v c.requires.sound.1 c.args.numbers.now c.args.at c.label_at.ensures c.args.out.now c.requires.v_in_bounds
          (c.put_label-map_at.ensures.value, c.put_label-map_at.ensures.out_after),
      c.well_formed.1.1.1.1.0,
    )

pub loop-link-init : goal.loop-link-init
loop-link-init c =
    rw add-zero
    (row-start c.requires.sound.0 c.args.v c.requires.sound.1 c.args.numbers.now c.args.at c.label_at.ensures c.args.out.now c.requires.v_in_bounds
    (c.put_label-map_at.ensures.value, c.put_label-map_at.ensures.out_after))

pub bounds-numbers-target : goal.bounds-numbers-target
bounds-numbers-target c =
    let node = c.requires.sound.0.shaped.node c.args.v c.requires.sound.1 in
    let i = c.loop-link.link-index in
    let is = links-target node c.links-link-items.ensures i c.loop-link-test.true c.target-target.ensures in
    let inside = links-inside node c.links-link-items.ensures i c.loop-link-test.true in
    omega (arith, is, c.loop-link.invariant.placed.within _ c.loop-link.invariant.low inside)

pub loop-link-preserved : goal.loop-link-preserved
loop-link-preserved c =
    let node = c.requires.sound.0.shaped.node c.args.v c.requires.sound.1 in
    let i = c.loop-link.link-index in
    let is = links-target node c.links-link-items.ensures i c.loop-link-test.true c.target-target.ensures in
    let inside = links-inside node c.links-link-items.ensures i c.loop-link-test.true in
    let feature-is = links-feature node c.links-link-items.ensures i c.loop-link-test.true c.feature.ensures in
    rw (is, feature-is, ← add_assoc) (turn_step c.loop-link.invariant inside)

pub returns : goal.returns
returns c =
    let node = c.requires.sound.0.shaped.node c.args.v c.requires.sound.1 in
    let all = row_done c.requires.sound.0 c.args.v c.requires.sound.1 c.args.numbers.now c.args.at c.label_at.ensures c.args.out.now c.requires.v_in_bounds
    (c.put_label-map_at.ensures.value, c.put_label-map_at.ensures.out_after) c.loop-link.invariant
    (omega (arith, links-long node c.links-link-items.ensures, c.loop-link-test.false)) c.put_map.ensures in
    record { value = all.0; out_after = all.1 }
