-- `put_answer` meets its contract: the call is that of the request.
use mathlib.Core.Path.{◌≡◌, sym, ◌∙◌, ap}
use native.Mathlib.Omega.{arith}
use Prim.Native.Nat.{ℕ}
use lib.ListN.{length, replicate, length-replicate}
use Rattle.replies.specs.Reply.{Result}
use Rattle.request.proofs.Bounds.{answering-bounded}
use Rattle.request.proofs.Replies.{answered-is, puts-result}
use borrow.Author.Rules.{rules}
use Rattle.request.proofs.put_answer.Goals as goal

pub put_reply-requires : goal.put_reply-requires
put_reply-requires c =
    let q = c.args.asked in
    let size : length c.answer-reply.new.output ≡ 4854 = omega arith in
    record {
      bounded = λ l e.
          let fits = answering-bounded q.n _ _ _ q.operation (replicate 4854 0) l (sym (ap (λ (x : Result). x.reply) c.answer-reply.ensures) ∙ e) in
          omega (arith, size, fits, length-replicate {A = ℕ} 4854 0);
      output_len_bound = omega arith;
      in_bounds = search rules;
    }

pub returns : goal.returns
returns c = puts-result (answered-is c.args.asked) c.answer-reply.ensures c.put_reply.ensures
