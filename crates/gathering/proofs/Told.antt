-- The length that a reply tells, and what settling the length leaves.
use mathlib.Core.Path.{◌≡◌, refl, sym, ◌∙◌, ap}
use mathlib.Core.List.{List, ◌++◌}
use mathlib.Core.Option.{Option, none, some}
use Prim.Native.Nat.{ℕ, ◌+◌}
use native.Mathlib.Omega.{arith}
use lib.ListN.{take, drop}
use Rattle.replies.specs.declared.answers.Answer.{Answer}
use Rattle.replies.specs.declared.answers.Answer.TheVariants as answer
use Rattle.std.specs.Prelude.{Ok, Err}
use Rattle.std.specs.Result.{IsErrAnd}
use Rattle.std.proofs.lemmas.Result.{err_from_is_err_and}
use Rattle.replies.specs.declared.Refusal.{Refusal}
use Rattle.replies.specs.Replies.{Reply, Measure, Length, told}
use Rattle.replies.specs.Reply.{resulting, answer_of, length_of, length_in}
use Rattle.replies.proofs.Numbers.{answer-injective}
use Rattle.gathering.specs.Gathering.{two_bytes}
use Rattle.gathering.specs.Joined.{settled_for, settled_at}

pub none-some : {A X : Type 0} {x : A} → none ≡ some x → X
none-some e = let z : ◌≡◌ {A = ℕ} 0 1 = cc in absurd (omega arith)

-- A reply whose `length_of` is l is `Length l`.
pub length-told : (r : Reply) (l : ℕ) → length_of r ≡ some l → r ≡ Length l
length-told r l e = answer-injective r (Length l) (go (answer_of r) e)
  where
    go : (k : Answer) → length_in k ≡ some l → k ≡ answer.Length l
    go (answer.Length m) q = let d : m ≡ l = cc in ap answer.Length d
    go answer.Same q = none-some q
    go answer.Under q = none-some q
    go answer.Above q = none-some q
    go answer.Neither q = none-some q
    go (answer.Counts nodes rows) q = none-some q
    go answer.End q = none-some q
    go (answer.Refused number) q = none-some q
    go (answer.RefusedGraph number side) q = none-some q

-- A reply that is no `Length` tells no length.
pub no_length : (r : Reply) → ((l : ℕ) → r ≡ Length l → ⊥) → length_of r ≡ none
no_length r other = go (length_of r) refl
  where
    go : (o : Option ℕ) → length_of r ≡ o → length_of r ≡ none
    go none e = e
    go (some l) e = absurd (other l (length-told r l e))

-- A call that writes a record told its length, or refused.
pub told-ok : {r : Measure} {l : ℕ} → r ≡ Ok l → told r ≡ Length l
told-ok e = ap told e

pub told-err : {r : Measure} {why : Refusal} → r ≡ Err why → length_of (told r) ≡ none
told-err {why = why} e = ap (λ (q : Measure). length_of (told q)) e ∙ no_length (Err why) (λ l d. let z : ◌≡◌ {A = ℕ} 0 1 = cc in absurd (omega arith))

pub ok-told : {r : Measure} {l : ℕ} → told r ≡ Length l → r ≡ Ok l
ok-told {r = Ok m} {l} e = let d : m ≡ l = cc in ap Ok d
ok-told {r = Err why} e = let z : ◌≡◌ {A = ℕ} 0 1 = cc in absurd (omega arith)

-- What a `?` hands on is what the call answered.
pub handed-on : {r answer : Measure} {why : Refusal} → IsErrAnd r (λ y. y ≡ why) → answer ≡ Err why → r ≡ answer
handed-on {r} is e = let given = err_from_is_err_and r is in given.1 ∙ ap Err given.2 ∙ sym e

-- Nor is a length told where the call's answer is none.
pub not-told : {r : Measure} → ((l : ℕ) → r ≡ Ok l → ⊥) → length_of (told r) ≡ none
not-told {r} other = no_length (told r) (λ l e. other l (ok-told e))

module _ (at : ℕ) (state : List ℕ) (reply : Reply) where
  -- Any other reply leaves the state as it was.
  pub settled-none : length_of reply ≡ none → resulting reply state ≡ settled_at at state reply
  settled-none e = sym (ap (settled_for at state reply) e)

  -- A length that is told is put.
  pub settled-some : (l : ℕ) {new : List ℕ} → reply ≡ Length l → new ≡ take at state ++ (two_bytes l ++ drop (at + 2) state) →
      resulting (Length l) new ≡ settled_at at state reply
  settled-some l e put = ap (resulting (Length l)) put ∙ sym (ap (settled_at at state) e)
