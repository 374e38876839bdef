-- One number, the code, for each reply. A length is its own code; it is at most 16,384. A refusal is 2³² + 256 × the side + its number in
-- documents 01 and 02. Same, under, above and neither are 2³³ and the three numbers after it, and the end of a listing is the next. Counts are
-- 2³⁴ + 2¹⁶ × the nodes + the rows, each by its lowest 16 bits.
use Rattle.std.specs.Prelude.{ℕ, ◌+◌, ◌*◌, ◌%◌}
use Rattle.replies.specs.declared.Side.{Side}
use Rattle.replies.specs.declared.Side.TheVariants.{First, Second}
use Rattle.replies.specs.declared.answers.Answer.{Answer}
use Rattle.replies.specs.declared.answers.Answer.TheVariants.{Length, Same, Under, Above, Neither, Counts, End, Refused, RefusedGraph}
use Rattle.replies.specs.Replies.{Reply}
use Rattle.replies.specs.Reply.{answer_of}

-- The number of a side. 0 stands for a refusal that tells no graph.
abbrev pub side_number : Side → ℕ
side_number First = 1
side_number Second = 2

-- The code of a refusal.
abbrev pub refusal_code : ℕ → ℕ → ℕ
refusal_code number which = 4294967296 + 256 * which + number

-- The code of counts. There are at most 255 nodes and 2,048 rows, so the remainders are the counts.
abbrev pub counts_code : ℕ → ℕ → ℕ
counts_code nodes rows = 17179869184 + 65536 * (nodes % 65536) + rows % 65536

-- The code of what a reply tells.
abbrev pub code_for : Answer → ℕ
code_for (Length l) = l
code_for Same = 8589934592
code_for Under = 8589934593
code_for Above = 8589934594
code_for Neither = 8589934595
code_for (Counts nodes rows) = counts_code nodes rows
code_for End = 8589934596
code_for (Refused number) = refusal_code number 0
code_for (RefusedGraph number which) = refusal_code number (side_number which)

-- The code of a reply.
abbrev pub code_of : Reply → ℕ
code_of reply = code_for (answer_of reply)
