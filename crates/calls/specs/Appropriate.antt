-- What the calls with a list of types for features reply and leave in the output (document 02, Paper 9): "Rewriting, common part and
-- combination each get a call with a list, which otherwise replies as the plain one."
use Rattle.std.specs.Prelude.{List, ℕ}
use Rattle.record.specs.Appropriate.{list_accepted, reading_appropriate}
use Rattle.replies.specs.Replies.{TypeList}
use Rattle.replies.specs.Reply.{Result, refusing}
use Rattle.pairs.specs.Pair.{read_both}
use Rattle.engine.specs.Rewriting.{rewritten}
use Rattle.engine.specs.Generalizing.{generalized}
use Rattle.calls.specs.Calls.{checked_list}
use Rattle.engine.specs.Unifying.{unified_rows}

-- "A list entry of n or more, or a list not of 64 bytes, is 17, after the table": each call checks the table's 1 to 3, then 17.

-- The graph's 4 to 7 and 18 are checked after the list; the call then replies as rewriting does.
unfoldable pub rewriting_appropriate : ℕ → List ℕ → List ℕ → List ℕ → List ℕ → Result
rewriting_appropriate n t list bytes out = checked_list n t (list_accepted n list) TypeList out (rewritten (reading_appropriate n t list bytes) out)

-- The first graph's 4 to 7 and 18 are checked after the list, then the second graph's; the call then replies as the common part does.
unfoldable pub generalizing_appropriate : ℕ → List ℕ → List ℕ → List ℕ → List ℕ → List ℕ → Result
generalizing_appropriate n t list a b out =
    checked_list n t (list_accepted n list) TypeList out
    (read_both (λ r. refusing r out) (reading_appropriate n t list a) (reading_appropriate n t list b) (generalized n t out))

-- The first graph's 4 to 7 and 18 are checked after the list, then the second graph's; the call then replies as the combination does.
unfoldable pub unifying_appropriate : ℕ → List ℕ → List ℕ → List ℕ → List ℕ → List ℕ → Result
unifying_appropriate n t list a b out =
    checked_list n t (list_accepted n list) TypeList out
    (read_both (λ r. refusing r out) (reading_appropriate n t list a) (reading_appropriate n t list b) (unified_rows n t out))
