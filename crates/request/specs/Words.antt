-- What the functions that put a line promise: the words of the line without its end.
use Rattle.std.specs.Prelude.{List, ℕ}
use Rattle.std.proofs.Math.Option.{Option, none, some}
use Rattle.request.specs.Request.{Request}
use Rattle.request.specs.Line.{answered, bad_input, reply_text}

-- A line without its line end.
abbrev pub words_for : Option Request → List ℕ
words_for none = bad_input
words_for (some request) = reply_text (answered request).reply (answered request).output
