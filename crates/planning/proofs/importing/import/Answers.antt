-- `importing::import` meets its contract: the table is opened; then the rows are imported.
use mathlib.Core.Path.{sym, ◌∙◌}
use lib.ListN.{length}
use Rattle.std.proofs.lemmas.Result.{err_from_is_err_and}
use Rattle.engine.proofs.Tables.{few-types}
use Rattle.planning.proofs.Imports.{importing-refused, importing-accepted, import-whole}
use Rattle.planning.proofs.importing.import.Goals as goal

pub import_accepted-requires : goal.import_accepted-requires
import_accepted-requires c = few-types c.args.n c.args.table.now _ c.accept.ensures c.in_ok-accept.was

pub returns-in_err-accept : goal.returns-in_err-accept
returns-in_err-accept c =
    let refused = err_from_is_err_and c.from_residual.result c.from_residual.ensures.1 in
    rw (refused.1, refused.2)
    (importing-refused c.args.n c.args.table.now (length c.args.rows.now) c.args.rows.now c.args.nodes.now c.args.out.now _ (sym c.accept.ensures ∙ c.in_err-accept.was)
    ∙ sym (import-whole c.args.n c.args.table.now c.args.rows.now c.args.nodes.now c.args.out.now))

pub returns : goal.returns
returns c =
    c.import_accepted.ensures
    ∙ importing-accepted c.args.n c.args.table.now (length c.args.rows.now) c.args.rows.now c.args.nodes.now c.args.out.now (sym c.accept.ensures ∙ c.in_ok-accept.was)
    ∙ sym (import-whole c.args.n c.args.table.now c.args.rows.now c.args.nodes.now c.args.out.now)
