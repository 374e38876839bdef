-- `exporting::export` meets its contract: the table is opened; then the record is exported.
use mathlib.Core.Path.{sym, ◌∙◌}
use Rattle.std.proofs.lemmas.Result.{err_from_is_err_and}
use Rattle.planning.proofs.Exports.{exporting-refused, exporting-accepted}
use Rattle.planning.proofs.exporting.export.Goals as goal

pub returns-in_err-accept : goal.returns-in_err-accept
returns-in_err-accept c =
    let refused = err_from_is_err_and c.from_residual.result c.from_residual.ensures.1 in
    rw (refused.1, refused.2)
    (exporting-refused c.args.n c.args.table.now c.args.bytes.now c.args.nodes.now c.args.rows.now _ (sym c.accept.ensures ∙ c.in_err-accept.was))

pub returns : goal.returns
returns c = c.export_accepted.ensures ∙ exporting-accepted c.args.n c.args.table.now c.args.bytes.now c.args.nodes.now c.args.rows.now (sym c.accept.ensures ∙ c.in_ok-accept.was)
