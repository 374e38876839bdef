-- What `write_rows` promises: the record of the difference is written, with its reasons if they are asked for.
use Rattle.std.specs.Prelude.{◌≡◌, Bool, true, List, ℕ, eqb}
use Rattle.graphs.specs.Number.{canonical}
use Rattle.graphs.specs.Reasons.{written_order}
use Rattle.layout.specs.Layout.{graph_in}
use Rattle.encode.specs.Encode.{written_out}
use Rattle.encode.specs.Marks.{marks_along}
use Rattle.replies.specs.Reply.{result_of}
use Rattle.reasons.specs.Explaining.{Explains}
use Rattle.difference.specs.Explained.{Explained, with_reasons_if}

-- The record of the rows is written and, if `explained`, the reasons for its links are written too. `held` has the reasons at the places of
-- the links.
pub record WritesRows (explained : Bool) (s marks words out old : List ℕ) (result : Explained) : Type 0 where
  pub held : List ℕ
  pub explains : explained ≡ true → Explains s marks words held
  pub is : result ≡
      with_reasons_if explained (result_of (written_out (canonical eqb (graph_in words)) out))
      (marks_along words held (written_order eqb (graph_in words))) out old
