-- The mixture: on any state, any calls leave what the accepted additions alone leave.
use mathlib.Core.Path.{◌≡◌, refl, sym, ◌∙◌, ap}
use mathlib.Core.List.{List, [], ◌∷◌}
use mathlib.Core.Option.{Option, none, some}
use Prim.Native.Nat.{ℕ}
use Rattle.replies.specs.Replies.{Reply}
use Rattle.replies.specs.declared.answers.Answer.{Answer}
use Rattle.replies.specs.declared.answers.Answer.TheVariants as answer
use Rattle.replies.specs.Reply.{Result, answer_of, refusal_in, length_of, length_in, refusal}
use Rattle.gathering.specs.Gathering.{settled, settled_by, types_in, table_in, gathered_in, room_in, joining, adding}
use Rattle.gathering.proofs.Told.{none-some}
use Rattle.gathered.specs.Calls.{Call, add, order, finish, state_after, kept_where, additions, alone}

pub settled-answer : (state : List ℕ) (r : Result) (o : Option ℕ) → (settled_by state o r).reply ≡ r.reply
settled-answer state r none = refl
settled-answer state r (some l) = refl

settled-kept : (state : List ℕ) (r : Result) → length_of (settled state r).reply ≡ none → (settled state r).output ≡ state
settled-kept state r e =
    go (length_of r.reply) (ap length_of (sym (settled-answer state r (length_of r.reply))) ∙ e)
  where
    go : (o : Option ℕ) → o ≡ none → (settled_by state o r).output ≡ state
    go none d = refl
    go (some l) d = none-some (sym d)

-- An addition that is not answered by a length leaves the state as it was, whatever is handed in.
pub adding-kept : (state bytes : List ℕ) → length_of (adding state bytes).reply ≡ none → (adding state bytes).output ≡ state
unfolding adding
adding-kept state bytes e = settled-kept state (joining (types_in state) (table_in state) (gathered_in state) bytes (room_in state)) e

-- a refusal tells no length
pub refusal-no-length : (r : Reply) (k : ℕ) → refusal r ≡ some k → length_of r ≡ none
refusal-no-length r k e = go (answer_of r) e
  where
    go : (x : Answer) → refusal_in x ≡ some k → length_in x ≡ none
    go (answer.Length l) d = none-some d
    go answer.Same d = refl
    go answer.Under d = refl
    go answer.Above d = refl
    go answer.Neither d = refl
    go (answer.Counts nodes rows) d = refl
    go answer.End d = refl
    go (answer.Refused number) d = refl
    go (answer.RefusedGraph number side) d = refl

pub adding-refused : (state bytes : List ℕ) (k : ℕ) → refusal (adding state bytes).reply ≡ some k → (adding state bytes).output ≡ state
adding-refused state bytes k e = adding-kept state bytes (refusal-no-length (adding state bytes).reply k e)

-- "The state after any such mixture is what the accepted additions alone, folded in their order, give."
pub mixture : (cs : List Call) (state : List ℕ) → state_after state cs ≡ state_after state (alone (additions state cs))
unfolding state_after additions
mixture [] state = refl
mixture (add bytes ∷ cs) state = go (length_of (adding state bytes).reply) refl (mixture cs (adding state bytes).output)
  where
    go : (o : Option ℕ) → length_of (adding state bytes).reply ≡ o →
        state_after (adding state bytes).output cs ≡ state_after (adding state bytes).output (alone (additions (adding state bytes).output cs)) →
        state_after (adding state bytes).output cs ≡ state_after state (alone (kept_where o bytes (additions (adding state bytes).output cs)))
    go none e more =
        more ∙ ap (λ (s : List ℕ). state_after s (alone (additions (adding state bytes).output cs))) (adding-kept state bytes e)
    go (some l) e more = more
mixture (order bytes ∷ cs) state = mixture cs state
mixture (finish out ∷ cs) state = mixture cs state

-- Made alone, all accepted additions are accepted again.
pub alone-accepted : (cs : List Call) (state : List ℕ) → additions state (alone (additions state cs)) ≡ additions state cs
unfolding additions
alone-accepted [] state = refl
alone-accepted (add bytes ∷ cs) state = go (length_of (adding state bytes).reply) refl (alone-accepted cs (adding state bytes).output)
  where
    go : (o : Option ℕ) → length_of (adding state bytes).reply ≡ o →
        additions (adding state bytes).output (alone (additions (adding state bytes).output cs)) ≡ additions (adding state bytes).output cs →
        additions state (alone (kept_where o bytes (additions (adding state bytes).output cs))) ≡
        kept_where o bytes (additions (adding state bytes).output cs)
    go none e more =
        ap (λ (s : List ℕ). additions s (alone (additions (adding state bytes).output cs))) (sym (adding-kept state bytes e)) ∙ more
    go (some l) e more =
        ap (λ (o : Option ℕ). kept_where o bytes (additions (adding state bytes).output (alone (additions (adding state bytes).output cs)))) e ∙
        ap (λ (ps : List (List ℕ)). bytes ∷ ps) more
alone-accepted (order bytes ∷ cs) state = alone-accepted cs state
alone-accepted (finish out ∷ cs) state = alone-accepted cs state
