-- `exporting::export_graph` meets its contract: the graph is numbered as written and measured; then its node bytes and rows are filled.
use native.Mathlib.Omega.{arith}
use Rattle.planning.proofs.Exports.{export-large, export-few-rows, export-few-bytes, export-filled, lendable}
use borrow.Author.Rules.{rules}
use Rattle.planning.proofs.exporting.export_graph.Goals as goal

pub renumber-requires : goal.renumber-requires
renumber-requires c = (record { sound = c.requires.0; graph_in_bounds = c.requires.1 })

pub returns-then-not-renumber : goal.returns-then-not-renumber
returns-then-not-renumber c = export-large c.requires.0 c.renumber.ensures c.if-not-renumber.true c.args.rows.now c.args.nodes.now

pub count_links-links-requires : goal.count_links-links-requires
count_links-links-requires c = lendable c.requires.0 c.renumber.ensures c.if-not-renumber.false

pub returns-then-rows-links : goal.returns-then-rows-links
returns-then-rows-links c = export-few-rows c.requires.0 c.renumber.ensures c.if-not-renumber.false c.args.rows.now c.args.nodes.now (omega (arith, c.if-rows-links.true, c.count_links-links.ensures))

pub overflow_cast-count : goal.overflow_cast-count
overflow_cast-count c = omega (arith, (lendable c.requires.0 c.renumber.ensures c.if-not-renumber.false).small)

pub overflow_mul-count : goal.overflow_mul-count
overflow_mul-count c = omega (arith, (lendable c.requires.0 c.renumber.ensures c.if-not-renumber.false).small)

pub returns-then-nodes-count : goal.returns-then-nodes-count
returns-then-nodes-count c = export-few-bytes c.requires.0 c.renumber.ensures c.if-not-renumber.false c.args.rows.now c.args.nodes.now (omega (arith, c.if-rows-links.false, c.count_links-links.ensures)) c.if-nodes-count.true

pub lend_nodes-requires : goal.lend_nodes-requires
lend_nodes-requires c = (lendable c.requires.0 c.renumber.ensures c.if-not-renumber.false, c.if-nodes-count.false)

pub lend_rows-requires : goal.lend_rows-requires
lend_rows-requires c = lendable c.requires.0 c.renumber.ensures c.if-not-renumber.false

pub returns : goal.returns
returns c =
    export-filled c.requires.0 c.renumber.ensures c.if-not-renumber.false c.args.rows.now c.args.nodes.now c.count_links-links.ensures (search rules)
    (omega (arith, c.if-rows-links.false, c.count_links-links.ensures)) c.if-nodes-count.false
    (c.lend_rows.ensures.enough (omega (arith, c.if-rows-links.false, c.count_links-links.ensures))) c.lend_nodes.ensures
