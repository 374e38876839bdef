-- `importing::import_accepted` meets its contract: the counts and the rows are tested, and the rows placed; then their graph is written.
use mathlib.Core.Path.{sym, ◌∙◌, ap}
use mathlib.Core.List.{List}
use mathlib.Core.Option.{some}
use borrow.Author.Rules.{rules}
use lib.ListN.{length}
use Rattle.graphs.specs.Rows.{Row}
use Rattle.lattice.specs.Label.{Label}
use Rattle.record.specs.Read.{judged}
use Rattle.rows.specs.Rows.{has_twice, nodes_in}
use Rattle.rows.proofs.Known.{known-near}
use Rattle.rows.proofs.Tables.{placed-table}
use Rattle.engine.specs.Rewriting.{rewritten}
use Rattle.planning.proofs.Imports.{sized-parts, import-size, import-unknown, import-twice, import-written, placeable, not-not, not-twice, none-placed}
use Rattle.planning.proofs.importing.import_accepted.Goals as goal

pub returns-then-not-is_sized : goal.returns-then-not-is_sized
returns-then-not-is_sized c = import-size c.args.n (length c.args.rows.now) c.args.rows.now c.args.nodes.now c.args.out.now (sym c.is_sized.ensures ∙ c.if-not-is_sized.true)

pub returns-then-not-all_known : goal.returns-then-not-all_known
returns-then-not-all_known c =
    import-unknown c.args.n (length c.args.rows.now) c.args.rows.now c.args.nodes.now c.args.out.now (sym c.is_sized.ensures ∙ c.if-not-is_sized.false)
    (sym c.all_known.ensures ∙ c.if-not-all_known.true)

pub place_rows-requires : goal.place_rows-requires
place_rows-requires c =
    let parts = sized-parts c.args.nodes.now (length c.args.rows.now) (sym c.is_sized.ensures ∙ c.if-not-is_sized.false) in
    record {
      targets_len = search rules;
      all_near = (known-near (nodes_in c.args.nodes.now) c.args.rows.now parts.1 (sym c.all_known.ensures ∙ c.if-not-all_known.false), none-placed);
    }

pub returns-then-not-place_rows : goal.returns-then-not-place_rows
returns-then-not-place_rows c =
    import-twice c.args.n (length c.args.rows.now) c.args.rows.now c.args.nodes.now c.args.out.now (sym c.is_sized.ensures ∙ c.if-not-is_sized.false)
    (sym c.all_known.ensures ∙ c.if-not-all_known.false) (not-twice (has_twice c.args.rows.now) c.place_rows.ensures.0 c.if-not-place_rows.true)

pub import_placed-requires : goal.import_placed-requires
import_placed-requires c = (
  c.requires,
  placeable c.args.nodes.now c.place_rows.new.targets c.args.rows.now (sym c.is_sized.ensures ∙ c.if-not-is_sized.false)
      (c.place_rows.ensures.1 c.if-not-place_rows.false) c.place_rows.ensures.2,
)

pub returns : goal.returns
returns c =
    let sized = sym c.is_sized.ensures ∙ c.if-not-is_sized.false in
    let parts = sized-parts c.args.nodes.now (length c.args.rows.now) sized in
    c.import_placed.ensures
    ∙ ap (λ (rows : List (Row Label)). rewritten (judged c.args.n (some rows)) c.args.out.now)
    (placed-table c.args.nodes.now c.place_rows.new.targets c.args.rows.now parts.1 (c.place_rows.ensures.1 c.if-not-place_rows.false))
    ∙ sym (import-written c.args.n (length c.args.rows.now) c.args.rows.now c.args.nodes.now c.args.out.now sized
    (sym c.all_known.ensures ∙ c.if-not-all_known.false) (not-not (has_twice c.args.rows.now) c.place_rows.ensures.0 c.if-not-place_rows.false))
