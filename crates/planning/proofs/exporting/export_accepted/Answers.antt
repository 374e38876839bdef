-- `exporting::export_accepted` meets its contract: the record is read; then its graph is exported.
use mathlib.Core.Path.{◌∙◌}
use borrow.Author.Rules.{rules}
use Rattle.pairs.proofs.Readings.{told-accepted}
use Rattle.planning.proofs.Exports.{read-refused, read-accepted}
use Rattle.planning.proofs.exporting.export_accepted.Goals as goal

pub export_graph-requires : goal.export_graph-requires
export_graph-requires c = ((told-accepted c.read.ensures c.in_default.is).holds.sound, search rules)

pub returns-in-Err : goal.returns-in-Err
returns-in-Err c = read-refused c.read.ensures c.args.nodes.now _ c.in-Err.is c.args.rows.now

pub returns : goal.returns
returns c = c.export_graph.ensures ∙ read-accepted c.read.ensures c.args.nodes.now c.in_default.is c.args.rows.now
