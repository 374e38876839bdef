-- `rows::take_row` meets its contract: it takes a label, a map and the links of the map's word.
use mathlib.Core.Path.{refl, ap, ◌∙◌}
use native.Mathlib.Omega.{arith}
use lib.ListN.{length}
use Rattle.layout.proofs.Builder.{length-put}
use Rattle.decode.proofs.Reading.{row-unlabelled, row-unmapped}
use Rattle.decode.proofs.Storing.{row_read, took-none}
use Rattle.decode.proofs.rows.take_row.Goals as goal

pub returns-in_err-label-clause-took : goal.returns-in_err-label-clause-took
returns-in_err-label-clause-took c =
    rw c.from_residual.ensures (took-none (row-unlabelled _ _ _ c.in_err-label.ensures.step) (λ k low high. refl) refl)

pub returns-in_err-map-clause-took : goal.returns-in_err-map-clause-took
returns-in_err-map-clause-took c =
    let cut = rw c.label.ensures.same at c.in_err-map.ensures.step in
    rw c.from_residual-in_err-map.ensures
    (took-none (row-unmapped _ _ _ c.in_ok-label.ensures.step cut.0) (λ k low high. refl) refl)

pub put_label-requires : goal.put_label-requires
put_label-requires c = omega (arith, c.requires.room, c.requires.words)

pub take_links-requires : goal.take_links-requires
take_links-requires c =
    let l = c.in_ok-label.ensures.step in
    let t = rw c.label.ensures.same at c.in_ok-map.ensures.step in
    rw (c.map.ensures.same, c.label.ensures.same)
    record {
      inside = omega (arith, t.inside, t.next-is);
      room = c.requires.room;
      few = c.requires.few;
      words = omega (arith, c.requires.words, l.next-is, t.next-is, ap length c.put_label.ensures ∙ length-put c.args.graph.now _ _);
    }

pub returns-clause-took : goal.returns-clause-took
returns-clause-took c =
    row_read _ c.args.reader.now.next _ _ _ c.args.reader.now.small (omega (arith, c.requires.room, c.requires.words))
    c.in_ok-label.ensures.step
    (rw c.label.ensures.same at c.in_ok-map.ensures.step) c.put_label.ensures
    (rw (c.map.ensures.same, c.label.ensures.same) at c.take_links.ensures.took)
