-- `appropriate::read` meets its contract: the record is read, and its graph tested where it is accepted.
use mathlib.Core.Path.{sym, ◌∙◌}
use Rattle.std.proofs.lemmas.Result.{err_from_is_err_and}
use Rattle.record.proofs.Allowed.{list-listed, reads-refused, reads-typed, reads-inappropriate, reads-appropriate}
use Rattle.record.proofs.appropriate.read.Goals as goal

pub is_appropriate-requires : goal.is_appropriate-requires
is_appropriate-requires c = (record {
  listed = list-listed c.args.n c.args.list.now c.requires.n_bound.1 c.requires.n_bound.0;
  typed = reads-typed c.args.n c.args.table.now c.args.list.now c.args.bytes.now c.read.ensures c.in_ok-read.was c.requires.n_bound.0;
})

pub returns-then-not-is_appropriate : goal.returns-then-not-is_appropriate
returns-then-not-is_appropriate c = reads-inappropriate c.args.n c.args.table.now c.args.list.now c.args.bytes.now c.read.ensures c.in_ok-read.was (sym c.is_appropriate.ensures ∙ c.if-not-is_appropriate.true)

pub returns-in_err-read : goal.returns-in_err-read
returns-in_err-read c =
    let given = err_from_is_err_and c.from_residual.result c.from_residual.ensures.1 in
    rw (given.1, given.2)
    (reads-refused c.args.n c.args.table.now c.args.list.now c.args.bytes.now c.read.ensures _ c.in_err-read.was)

pub returns : goal.returns
returns c = reads-appropriate c.args.n c.args.table.now c.args.list.now c.args.bytes.now c.read.ensures c.in_ok-read.was (sym c.is_appropriate.ensures ∙ c.if-not-is_appropriate.false)
