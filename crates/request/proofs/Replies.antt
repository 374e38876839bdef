-- From the parts of a line to what is put: equal replies, calls and requests have equal words.
use mathlib.Core.Path.{◌≡◌, refl, sym, ◌∙◌, ap, ap₂, subst}
use mathlib.Core.List.{List, [], ◌∷◌, ◌++◌}
use mathlib.Core.Option.{Option, none, some}
use Prim.Native.Nat.{ℕ, ◌+◌, ◌≤◌}
use native.Mathlib.Nat.{zero-add}
use native.Mathlib.Omega.{arith}
use lib.ListN.{length, drop, set, replicate, length-append, length-replicate}
use lib.Seq.{sets-eq}
use Rattle.replies.specs.declared.Side.{Side}
use Rattle.replies.specs.declared.answers.Answer.{Answer}
use Rattle.replies.specs.Replies.{Reply}
use Rattle.replies.specs.Reply.{Result, resulting}
use Rattle.request.specs.declared.Printed.{Printed}
use Rattle.request.specs.declared.parse.Operation.{Operation}
use Rattle.request.specs.declared.parse.Asked.{Asked}
use Rattle.request.specs.Request.{Request, requested}
use Rattle.request.specs.Parse.{request_of}
use Rattle.text.specs.Text.{Puts}
use Rattle.request.specs.Line.{answered, answering, ended, answer_text, line_for, line_of, printed, reply_text, side_text, text_of}
use Rattle.request.specs.Words.{words_for}
use Rattle.text.proofs.Texts.{puts_then, puts-byte}
use Rattle.request.proofs.Bounds.{words-short}

-- the text of what an equal reply tells
pub puts-answer : {k other : Answer} (output : List ℕ) {at next : ℕ} {old new : List ℕ} → k ≡ other →
    Puts (answer_text other output) at old next new → Puts (answer_text k output) at old next new
puts-answer output {at} {next} {old} {new} e p = subst (λ (k : Answer). Puts (answer_text k output) at old next new) (sym e) p

-- the text of an equal side
pub puts-side : {which s : Side} {at next : ℕ} {old new : List ℕ} → which ≡ s →
    Puts (side_text s) at old next new → Puts (side_text which) at old next new
puts-side {at = at} {next} {old} {new} e p = subst (λ (s : Side). Puts (side_text s) at old next new) (sym e) p

-- Calls.

-- the call of an equal operation
pub answers_by : {operation o : Operation} (n : ℕ) (t a b out : List ℕ) {r : Reply} {new : List ℕ} → operation ≡ o →
    resulting r new ≡ answering o n t a b out → resulting r new ≡ answering operation n t a b out
answers_by n t a b out e h = h ∙ ap (λ (o : Operation). answering o n t a b out) (sym e)

-- the call that is asked for
pub answered-is : (asked : Asked) →
    answering asked.operation asked.n asked.table.now asked.first.now asked.second.now (replicate 4854 0) ≡ answered (request_of asked)
unfolding answered
answered-is asked = refl

-- the words of an equal result
pub puts-result : {x y : Result} {r : Reply} {output : List ℕ} {at next : ℕ} {old new : List ℕ} → x ≡ y → resulting r output ≡ x →
    Puts (reply_text r output) at old next new → Puts (reply_text y.reply y.output) at old next new
puts-result {at = at} {next} {old} {new} e results p =
    subst (λ (x : Result). Puts (reply_text x.reply x.output) at old next new) (results ∙ e) p

-- the words of an equal request
pub puts-words : {request q : Option Request} {at next : ℕ} {old new : List ℕ} → request ≡ q →
    Puts (words_for q) at old next new → Puts (words_for request) at old next new
puts-words {at = at} {next} {old} {new} e p = subst (λ (q : Option Request). Puts (words_for q) at old next new) (sym e) p

-- The line.

line-is : (request : Option Request) → line_for request ≡ ended (words_for request)
unfolding text_of
line-is none = refl
line-is (some q) = refl

line-put : (input : List ℕ) {end : ℕ} {old part : List ℕ} → 9717 ≤ length old → Puts (words_for (requested input)) 0 old end part →
    (end + 1 ≡ length (line_of input)) × (set part end 10 ≡ line_of input ++ drop (length (line_of input)) old)
unfolding line_of
line-put input {end} {old} {part} room p =
    let words : List ℕ = words_for (requested input) in
    let q : Puts (words ++ (10 ∷ [])) 0 old (end + 1) (set part end 10) = puts_then p (puts-byte end part 10) in
    let size : length (words ++ (10 ∷ [])) ≡ length words + 1 = length-append words (10 ∷ []) in
    let short : length words ≤ 9716 = words-short (requested input) in
    let same : length (words ++ (10 ∷ [])) ≡ length (line_of input) = ap length (sym (line-is (requested input))) in (
      omega (arith, q.next-is),
      q.new_is ∙ sets-eq (words ++ (10 ∷ [])) old 0 (omega arith)
          ∙ ap (λ (n : ℕ). (words ++ (10 ∷ [])) ++ drop n old) (zero-add (length (words ++ (10 ∷ []))))
          ∙ ap (λ (l : List ℕ). l ++ drop (length l) old) (sym (line-is (requested input))),
    )

abbrev held : List ℕ → ℕ → Printed
held bytes count = record { bytes = bytes; count = count }

pub line-printed : (input : List ℕ) {end : ℕ} {part : List ℕ} → Puts (words_for (requested input)) 0 (replicate 9717 0) end part →
    held (set part end 10) (end + 1) ≡ printed (line_of input)
line-printed input p =
    let h = line-put input (omega (arith, length-replicate {A = ℕ} 9717 0)) p in
    ap₂ held h.1 h.0

-- what is printed is among the bytes
pub count_fits : {r : Printed} (input : List ℕ) → r ≡ printed (line_of input) → r.count ≤ length r.bytes
count_fits input e =
    omega (
      arith,
      ap (λ (p : Printed). p.count) e,
      ap (λ (p : Printed). length p.bytes) e,
      length-append (line_of input) (drop (length (line_of input)) (replicate 9717 0)),
    )
