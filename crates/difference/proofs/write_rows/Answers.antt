-- `write_rows` meets its contract: the record is written, with the reasons beside it if they are asked for.
use Prim.Native.Nat.{ℕ}
use native.Mathlib.Omega.{arith}
use lib.ListN.{length-replicate, replicate}
use Rattle.std.proofs.lemmas.Result.{err_from_is_err_and}
use Rattle.replies.proofs.Told.{told-written, told-unwritten}
use Rattle.difference.proofs.Answering.{plain-written, marked-written, told-marked, told-unmarked}
use Rattle.difference.proofs.write_rows.Goals as goal

pub returns-in_err-write : goal.returns-in_err-write
returns-in_err-write c =
    let a = c.args in
    let given = err_from_is_err_and c.from_residual.result c.from_residual.ensures.1 in
    rw given.1
    (plain-written a.out.now a.reasons.now c.if-not-explained.true c.write.ensures (told-unwritten c.in_err-write.was given.2))

pub returns-then-not-explained : goal.returns-then-not-explained
returns-then-not-explained c =
    let a = c.args in
    plain-written a.out.now a.reasons.now c.if-not-explained.true c.write.ensures (told-written c.in_ok-write.was)

pub write_marked-requires : goal.write_marked-requires
write_marked-requires c =
    let pre = c.requires in
    let ready = pre.0 (replicate 255 0) (length-replicate {A = ℕ} 255 0) in
    (record { sound = pre.1.sound; graph_len_bound = (omega (arith, pre.1.long, ready.short), c.explain_links.ensures.long) })

pub returns-in_err-write_marked : goal.returns-in_err-write_marked
returns-in_err-write_marked c =
    let a = c.args in
    let given = err_from_is_err_and c.from_residual-in_err-write_marked.result c.from_residual-in_err-write_marked.ensures.1 in
    rw given.1
    (marked-written a.out.now a.reasons.now c.if-not-explained.false c.explain_links.ensures c.write_marked.ensures (told-unmarked c.in_err-write_marked.was given.2))

pub returns : goal.returns
returns c =
    let a = c.args in
    marked-written a.out.now a.reasons.now c.if-not-explained.false c.explain_links.ensures c.write_marked.ensures (told-marked c.in_ok-write_marked.was)
