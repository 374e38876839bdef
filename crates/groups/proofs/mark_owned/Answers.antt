use mathlib.Core.Path.{sym, ◌∙◌}
use Prim.Native.Nat.{ℕ}
use native.Mathlib.Omega.{arith}
use lib.ListN.{length-replicate}
use Rattle.classes.proofs.Roots.{flattened}
use Rattle.cover.proofs.Covering.{grouping-start, grouping-row, grouping-end, grouping-same}
use Rattle.groups.proofs.Owning.{grouping-owned}
use Rattle.groups.proofs.Ordering.{marks-by-order}
use Rattle.groups.proofs.mark_owned.Goals as goal

pub bounds-g-0 : goal.bounds-g-0
bounds-g-0 c = let shaped = c.requires.lying.0.upper.sound.shaped in omega (arith, (shaped.node 0 shaped.nonempty).listed)

pub overflow_cast-nodes : goal.overflow_cast-nodes
overflow_cast-nodes c = omega (arith, c.requires.lying.0.upper.small)

pub separate-requires : goal.separate-requires
separate-requires c = (omega (arith, c.requires.lying.0.upper.small), length-replicate {A = ℕ} 510 0)

pub loop-y-init : goal.loop-y-init
loop-y-init c = (omega arith, grouping-start c.requires.lying.0 c.requires.unowned.0 c.separate.ensures.parent_len c.separate.ensures.by_index)

pub cover_row-requires : goal.cover_row-requires
cover_row-requires c = (record { lying = (c.requires.lying.0, c.loop-y-test.true); grouping = c.loop-y.invariant.1 })

pub loop-y-smaller : goal.loop-y-smaller
loop-y-smaller c = omega (arith, c.loop-y-test.true)

pub loop-y-preserved : goal.loop-y-preserved
loop-y-preserved c = (omega (arith, c.loop-y-test.true), grouping-row c.loop-y.y c.cover_row.ensures)

pub flatten-requires : goal.flatten-requires
flatten-requires c = c.loop-y.invariant.1.forest

pub ranks-rank-requires : goal.ranks-rank-requires
ranks-rank-requires c = c.requires.lying.1

pub mark-requires : goal.mark-requires
mark-requires c =
    let loop = c.loop-y in
    let flat = flattened loop.invariant.1.forest c.flatten.ensures.parent_len c.flatten.ensures.by_index in
    (grouping-owned c.requires.lying.0 (grouping-same c.requires.lying.0 loop.invariant.1 flat.0) flat.1, c.requires.unowned.1)

pub shape_of-owner : goal.shape_of-owner
shape_of-owner c = c.loop-y.invariant.1.owner-long ∙ sym c.requires.unowned.0.long

pub returns : goal.returns
returns c =
    let loop = c.loop-y in
    let flat = flattened loop.invariant.1.forest c.flatten.ensures.parent_len c.flatten.ensures.by_index in
    let grouping = grouping-same c.requires.lying.0 loop.invariant.1 flat.0 in
    record {
      owner = _;
      parent = _;
      grouping = grouping-end loop.y grouping loop.invariant.0 c.loop-y-test.false;
      stands = marks-by-order (grouping-owned c.requires.lying.0 grouping flat.1) c.ranks-rank.ensures c.mark.ensures;
    }
