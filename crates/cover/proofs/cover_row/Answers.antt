use mathlib.Core.Path.{sym, ◌∙◌}
use native.Mathlib.Nat.{add-zero, add_assoc}
use native.Mathlib.Omega.{arith}
use Rattle.layout.proofs.NodeLinks.{links-long, links-inside, links-feature, links-target}
use Rattle.cover.proofs.Covering.{rows-known, covering-start, covering-next, covering-done, place-within, target-low, place-owner}
use Rattle.cover.proofs.cover_row.Goals as goal

pub bounds-map-y : goal.bounds-map-y
bounds-map-y c =
    let rows = rows-known c.requires.lying.0 c.args.y c.requires.lying.1 in
    rows.small

pub links_from-j-requires : goal.links_from-j-requires
links_from-j-requires c =
    let rows = rows-known c.requires.lying.0 c.args.y c.requires.lying.1 in
    omega (arith, rows.under.listed)

pub bounds-s-u : goal.bounds-s-u
bounds-s-u c =
    let rows = rows-known c.requires.lying.0 c.args.y c.requires.lying.1 in
    rows.under.listed

pub links-link-items-requires : goal.links-link-items-requires
links-link-items-requires c =
    let rows = rows-known c.requires.lying.0 c.args.y c.requires.lying.1 in
    rows.node

pub loop-link-init : goal.loop-link-init
loop-link-init c = rw (add-zero, c.links_from-j.ensures) (covering-start c.requires.lying.0 c.requires.lying.1 c.requires.grouping)

pub seek-j-requires : goal.seek-j-requires
seek-j-requires c =
    let rows = rows-known c.requires.lying.0 c.args.y c.requires.lying.1 in
    (c.loop-link.invariant.s-high, rows.under.ended, omega (arith, c.feature.ensures, c.type_inv.link))

pub own-requires : goal.own-requires
own-requires c =
    let rows = rows-known c.requires.lying.0 c.args.y c.requires.lying.1 in
    let i = c.loop-link.link-index in
    let inside = links-inside rows.node c.links-link-items.ensures i c.loop-link-test.true in
    let by = links-feature rows.node c.links-link-items.ensures i c.loop-link-test.true c.feature.ensures in
    let is = links-target rows.node c.links-link-items.ensures i c.loop-link-test.true c.target.ensures in
    let sought = rw by at c.seek-j.ensures in
    let covering = c.loop-link.invariant in
    record {
      j_in_bounds = place-within covering inside sought;
      by_index = (_, covering.grouping.forest, rw is (target-low covering inside sought), place-owner covering inside sought);
    }

pub loop-link-preserved : goal.loop-link-preserved
loop-link-preserved c =
    let rows = rows-known c.requires.lying.0 c.args.y c.requires.lying.1 in
    let i = c.loop-link.link-index in
    let inside = links-inside rows.node c.links-link-items.ensures i c.loop-link-test.true in
    let by = links-feature rows.node c.links-link-items.ensures i c.loop-link-test.true c.feature.ensures in
    let is = links-target rows.node c.links-link-items.ensures i c.loop-link-test.true c.target.ensures in
    let sought = rw by at c.seek-j.ensures in
    rw (← add_assoc) (covering-next c.loop-link.invariant inside sought (rw is at c.own.ensures))

pub shape_of-owner : goal.shape_of-owner
shape_of-owner c = c.loop-link.invariant.grouping.owner-long ∙ sym c.requires.grouping.owner-long

pub returns : goal.returns
returns c =
    let rows = rows-known c.requires.lying.0 c.args.y c.requires.lying.1 in
    covering-done c.loop-link.invariant (omega (arith, links-long rows.node c.links-link-items.ensures, c.loop-link-test.false))
