-- The calls with a list of types for features (document 02, Paper 9) and the calls without one, as one definition for each operation. `listed`
-- tells whether there is a list. Without a list, `list` is empty.
use Rattle.std.specs.Prelude.{Bool, true, cond, List, ℕ}
use Rattle.record.specs.Appropriate.{list_accepted}
use Rattle.replies.specs.Replies.{TypeList}
use Rattle.replies.specs.Reply.{Result}
use Rattle.pairs.specs.Pair.{reading_beside}
use Rattle.engine.specs.Rewriting.{rewritten}
use Rattle.engine.specs.Generalizing.{generalized_beside}
use Rattle.engine.specs.Unifying.{unified_beside}
use Rattle.calls.specs.Calls.{checked_list}

-- The table's 1 to 3 are checked, and 17 if there is a list; then the call goes on with `next`.
abbrev pub checked_beside : ℕ → List ℕ → Bool → List ℕ → List ℕ → Result → Result
checked_beside n t listed list out next = checked_list n t (cond listed (list_accepted n list) true) TypeList out next

-- rewriting, with a list or without one
abbrev pub rewriting_beside : ℕ → List ℕ → Bool → List ℕ → List ℕ → List ℕ → Result
rewriting_beside n t listed list bytes out = checked_beside n t listed list out (rewritten (reading_beside n t list bytes) out)

-- the common part, with a list or without one
abbrev pub generalizing_beside : ℕ → List ℕ → Bool → List ℕ → List ℕ → List ℕ → List ℕ → Result
generalizing_beside n t listed list a b out = checked_beside n t listed list out (generalized_beside n t list a b out)

-- the combination, with a list or without one
abbrev pub unifying_beside : ℕ → List ℕ → Bool → List ℕ → List ℕ → List ℕ → List ℕ → Result
unifying_beside n t listed list a b out = checked_beside n t listed list out (unified_beside n t list a b out)
