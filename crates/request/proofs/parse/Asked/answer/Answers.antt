-- `answer` meets its contract, by the operation.
use mathlib.Core.Path.{ap}
use Rattle.replies.specs.Replies.{Reply}
use Rattle.replies.specs.Reply.{resulting}
use Rattle.request.proofs.Replies.{answers_by}
use Rattle.request.proofs.parse.Asked.answer.Goals as goal

pub returns-in-Generalize : goal.returns-in-Generalize
returns-in-Generalize c =
    let a = c.args.self in
    rw c.told_reply.ensures (answers_by a.n a.table.now a.first.now a.second.now c.args.output.now c.in-Generalize.is c.generalize.ensures)

pub returns-in-Unify : goal.returns-in-Unify
returns-in-Unify c =
    let a = c.args.self in
    rw c.told_reply-in-Unify.ensures (answers_by a.n a.table.now a.first.now a.second.now c.args.output.now c.in-Unify.is c.unify.ensures)

pub returns-in-Difference : goal.returns-in-Difference
returns-in-Difference c =
    let a = c.args.self in
    rw c.told_reply-in-Difference.ensures (answers_by a.n a.table.now a.first.now a.second.now c.args.output.now c.in-Difference.is c.difference.ensures)

pub returns-in-Order : goal.returns-in-Order
returns-in-Order c =
    let a = c.args.self in
    answers_by a.n a.table.now a.first.now a.second.now c.args.output.now c.in-Order.is (ap (λ (r : Reply). resulting r c.args.output.now) c.order.ensures)
