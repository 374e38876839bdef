-- The difference of g and s with its reasons (document 02, Paper 13): what a call replies, and what it leaves in its two outputs. Unless the
-- reply is 22, reply and record are those of the difference without reasons.
use Rattle.std.specs.Prelude.{Bool, true, false, cond, List, ◌++◌, ℕ, leb, length, drop, Ok, Err}
use Rattle.std.proofs.Math.Option.{Option, none, some}
use Rattle.graphs.specs.Rows.{Row}
use Rattle.graphs.specs.Difference.{Link}
use Rattle.lattice.specs.Label.{Label}
use Rattle.layout.specs.Layout.{rows_of}
use Rattle.encode.specs.declared.Unmarked.TheVariants as unmarked
use Rattle.encode.specs.Marks.{Marking}
use Rattle.replies.specs.Replies.{Reply, Length, NoReasonRoom}
use Rattle.replies.specs.Reply.{Result, length_of, reply_of}
use Rattle.link_orders.specs.LinkOrders.{earlier_by}
use Rattle.difference.specs.declared.Options.{Options}
use Rattle.difference.specs.Promise.{reasons_along}
use Rattle.difference.specs.Difference.{over, differed}

-- a reply and the two outputs beside it
pub record Explained : Type 0 where
  pub reply : Reply
  pub output : List ℕ
  pub reasons : List ℕ

-- This reply and these two outputs, as one.
abbrev pub explained_result : Reply → List ℕ → List ℕ → Explained
explained_result reply output reasons = record { reply = reply; output = output; reasons = reasons }

-- "Beside the record, one byte for each of its links .., further bytes unchanged". "Too few bytes lent for the reasons gives 22, after 8, with
-- both buffers unchanged." `plain` is the result without reasons. A plain reply without a length is a refusal: it stays, and both outputs are
-- unchanged.
abbrev pub length_with_reasons : Option ℕ → Result → List ℕ → List ℕ → List ℕ → Explained
length_with_reasons none plain reasons out old = explained_result plain.reply out old
length_with_reasons (some l) plain reasons out old =
    cond (leb (length reasons) (length old))
    (explained_result plain.reply plain.output (reasons ++ drop (length reasons) old))
    (explained_result NoReasonRoom out old)

-- the result `plain` with the reasons beside it
abbrev pub with_reasons : Result → List ℕ → List ℕ → List ℕ → Explained
with_reasons plain reasons out old = length_with_reasons (length_of plain.reply) plain reasons out old

-- the reasons for the links of the difference of g and s by an order of links, in record order
abbrev pub reasons_rows : (Link ℕ → Link ℕ → Bool) → ℕ → List ℕ → List (Row Label) → List (Row Label) → List ℕ
reasons_rows earlier n t g s = reasons_along earlier n t s g (over s g)

-- If the reasons are asked for, they stand beside the plain result; else the output for reasons is unchanged.
abbrev pub with_reasons_if : Bool → Result → List ℕ → List ℕ → List ℕ → Explained
with_reasons_if true plain reasons out old = with_reasons plain reasons out old
with_reasons_if false plain reasons out old = explained_result plain.reply plain.output old

-- The difference of two graphs in words, by the options of a call.
abbrev pub differed_words : Options → ℕ → List ℕ → List ℕ → List ℕ → List ℕ → List ℕ → Explained
differed_words options n t g s out old =
    with_reasons_if options.explained (differed (earlier_by options.order) n t out (rows_of g) (rows_of s))
    (reasons_rows (earlier_by options.order) n t (rows_of g) (rows_of s)) out old

-- The reply that tells the answer of writing with marks.
abbrev pub marked_reply : Marking → Reply
marked_reply (Ok l) = Length l
marked_reply (Err (unmarked.Unwritten why)) = reply_of (Err why)
marked_reply (Err unmarked.NoMarkRoom) = NoReasonRoom
