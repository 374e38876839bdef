-- `CommonPart::of_graphs` meets its contract: the joins that are held are the joins of the table.
use Rattle.std.proofs.lemmas.Result.{err_from_is_err_and}
use Rattle.replies.proofs.Told.{told-written, told-unwritten}
use Rattle.engine.proofs.CommonParts.{ready-to-join, generalized-as}
use Rattle.engine.proofs.generalizing.CommonPartOperation.of_graphs.Goals as goal

pub generalize-requires : goal.generalize-requires
generalize-requires c =
    let ((t, held), (one, other)) = c.requires in
    let all = ready-to-join held one other in
    record { recorded = all.0; recorded_2 = all.1.0; joinable = all.1.1.0; seekable = all.1.1.1 }

pub returns-in_err-generalize : goal.returns-in_err-generalize
returns-in_err-generalize c = λ t held.
    let (one, other) = c.requires.1 in
    let given = err_from_is_err_and c.from_residual.result c.from_residual.ensures.1 in
    rw given.1
    (generalized-as held c.args.out.now one other c.generalize.ensures (told-unwritten c.in_err-generalize.was given.2))

pub returns : goal.returns
returns c = λ t held.
    let (one, other) = c.requires.1 in
    generalized-as held c.args.out.now one other c.generalize.ensures (told-written c.in_ok-generalize.was)
