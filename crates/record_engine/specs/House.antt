-- What asking for the type table of the house types replies and leaves in the output.
use Rattle.std.specs.Prelude.{cond, List, ℕ}
use Rattle.house.specs.House.{roomy, tabled}
use Rattle.replies.specs.Reply.{Result, resulting}
use Rattle.replies.specs.Replies.{Length, NoRoom}

-- The reply is the length, 512, with the table's bytes first in the output; or 8, with the output as it was.
abbrev pub tabling : List ℕ → Result
tabling out = resulting (cond (roomy out) (Length 512) NoRoom) (tabled out)
