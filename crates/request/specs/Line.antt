-- The line that answers an input (document 01, "Fittings to check"), in ASCII: "its parts separated by one space".
use Rattle.std.specs.Prelude.{List, [], ◌∷◌, ◌++◌, ℕ, ◌%◌, length, take, drop, replicate}
use Rattle.std.proofs.Math.Option.{Option, none, some}
use Rattle.replies.specs.declared.Side.{Side}
use Rattle.replies.specs.declared.Side.TheVariants.{First, Second}
use Rattle.replies.specs.Replies.{Reply}
use Rattle.replies.specs.declared.answers.Answer.{Answer}
use Rattle.replies.specs.declared.answers.Answer.TheVariants.{Length, Same, Under, Above, Neither, Counts, End, Refused, RefusedGraph}
use Rattle.replies.specs.Reply.{Result, answer_of, refusing}
use Rattle.calls.specs.Calls.{generalizing, ordering, unifying, differing}
use Rattle.request.specs.declared.Printed.{Printed}
use Rattle.request.specs.declared.parse.Operation.{Operation}
use Rattle.request.specs.declared.parse.Operation.TheVariants.{Generalize, Unify, Difference, Order}
use Rattle.request.specs.Request.{Request, requested}
use Rattle.text.specs.Text.{decimal, hexadecimal}

-- `bad input`
abbrev pub bad_input : List ℕ
bad_input = 98 ∷ 97 ∷ 100 ∷ 32 ∷ 105 ∷ 110 ∷ 112 ∷ 117 ∷ 116 ∷ []

-- "`ok`, the length and the record in lower-case hexadecimal"
abbrev pub ok_text : ℕ → List ℕ → List ℕ
ok_text l bytes = (111 ∷ 107 ∷ 32 ∷ []) ++ decimal l ++ (32 ∷ []) ++ hexadecimal bytes

-- `counts`, the nodes and the rows. Each count shows its last four digits; there are at most 255 nodes and 2,048 rows.
abbrev pub counts_text : ℕ → ℕ → List ℕ
counts_text nodes rows = (99 ∷ 111 ∷ 117 ∷ 110 ∷ 116 ∷ 115 ∷ 32 ∷ []) ++ decimal (nodes % 10000) ++ (32 ∷ []) ++ decimal (rows % 10000)

-- "`refused` with the number"
abbrev pub refused_text : ℕ → List ℕ
refused_text number = (114 ∷ 101 ∷ 102 ∷ 117 ∷ 115 ∷ 101 ∷ 100 ∷ 32 ∷ []) ++ decimal number

-- "`first` or `second`"
abbrev pub side_text : Side → List ℕ
side_text First = 32 ∷ 102 ∷ 105 ∷ 114 ∷ 115 ∷ 116 ∷ []
side_text Second = 32 ∷ 115 ∷ 101 ∷ 99 ∷ 111 ∷ 110 ∷ 100 ∷ []

-- The words of what a reply tells. The record is the first bytes of the output, and a refused graph is named: "for 4 to 7 `first` or `second`".
abbrev pub answer_text : Answer → List ℕ → List ℕ
answer_text (Length l) out = ok_text l (take l out)
answer_text Same out = 115 ∷ 97 ∷ 109 ∷ 101 ∷ []
answer_text Under out = 117 ∷ 110 ∷ 100 ∷ 101 ∷ 114 ∷ []
answer_text Above out = 97 ∷ 98 ∷ 111 ∷ 118 ∷ 101 ∷ []
answer_text Neither out = 110 ∷ 101 ∷ 105 ∷ 116 ∷ 104 ∷ 101 ∷ 114 ∷ []
answer_text (Counts nodes rows) out = counts_text nodes rows
answer_text End out = 101 ∷ 110 ∷ 100 ∷ []
answer_text (Refused number) out = refused_text number
answer_text (RefusedGraph number which) out = refused_text number ++ side_text which

-- the words of a reply
abbrev pub reply_text : Reply → List ℕ → List ℕ
reply_text reply out = answer_text (answer_of reply) out

-- "prints one line": the words and a line end
abbrev pub ended : List ℕ → List ℕ
ended words = words ++ (10 ∷ [])

-- the line of a result
unfoldable pub text_of : Result → List ℕ
text_of result = ended (reply_text result.reply result.output)

-- What the call that is asked for answers and leaves in the output.
abbrev pub answering : Operation → ℕ → List ℕ → List ℕ → List ℕ → List ℕ → Result
answering Generalize n table first second out = generalizing n table first second out
answering Unify n table first second out = unifying n table first second out
answering Difference n table first second out = differing n table first second out
answering Order n table first second out = refusing (ordering n table first second) out

-- "It lends as many output bytes as the longest record has"
unfoldable pub answered : Request → Result
answered q = answering q.operation q.n q.table q.first q.second (replicate 4854 0)

-- "found before any other check, `bad input`"
abbrev pub line_for : Option Request → List ℕ
line_for none = ended bad_input
line_for (some request) = text_of (answered request)

-- A text as it is printed: its bytes, zeros behind them, and the number of its bytes.
abbrev pub printed : List ℕ → Printed
printed text = record { bytes = text ++ drop (length text) (replicate 9717 0); count = length text }

-- The line that answers an input.
unfoldable pub line_of : List ℕ → List ℕ
line_of input = line_for (requested input)
