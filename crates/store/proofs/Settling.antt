-- What a call does with the state that it made: a length is settled, any other reply refuses.
use mathlib.Core.Path.{◌≡◌, sym, ◌∙◌, ap, ap₂, subst}
use mathlib.Core.List.{List, ◌++◌}
use mathlib.Core.Option.{Option, none}
use Prim.Native.Nat.{ℕ, ◌≤◌}
use native.Mathlib.Nat.{zero-add}
use native.Mathlib.Omega.{arith}
use lib.ListN.{length, take, drop, replicate, length-append}
use lib.Seq.{paste, take_at, take-length, length-take-le}
use Rattle.replies.specs.Replies.{Reply}
use Rattle.replies.specs.Replies.{Length}
use Rattle.replies.specs.Reply.{resulting, length_of, Bounded}
use Rattle.versions.specs.State.{Made, taken_by, taken}
use Rattle.contents.specs.Promise.{Among}
use Rattle.contents.proofs.Room.{blank-room}
use Rattle.store.specs.Calls.{settled}

pub settle-none : (reply : Reply) (state store : List ℕ) → length_of reply ≡ none → resulting reply store ≡ settled store (taken (resulting reply state))
settle-none reply state store e = sym (ap (λ (o : Option ℕ). settled store (taken_by o (resulting reply state))) e)

pub settle-some : {reply : Reply} (l : ℕ) (state store : List ℕ) {new : List ℕ} → reply ≡ Length l → l ≤ length state →
    new ≡ paste store 0 (take l state) (length (take l state)) → resulting (Length l) new ≡ settled store (taken (resulting reply state))
settle-some l state store e h is =
    ap₂ (λ (k : ℕ) (bytes : List ℕ). resulting (Length k) bytes) (sym (length-take-le l state h))
    (is ∙ ap₂ (λ (s : List ℕ) (k : ℕ). s ++ drop k store) (take-length (take l state)) (zero-add (length (take l state))))
    ∙ sym (ap (λ (r : Reply). settled store (taken (resulting r state))) e)

-- a state that was lent as the first bytes of that room
module _ {m : Made} {r : Reply} {new : List ℕ} (room : ℕ) (h : room ≤ 16384) (among : Among m (take room (replicate 16384 0)) r new) where
  abbrev rest : List ℕ
  rest = drop room (replicate 16384 0)

  front_long : length new ≡ room
  front_long = among.long ∙ blank-room room h

  front-is : take room (new ++ rest) ≡ new
  front-is = take_at new rest room front_long

  pub front-inside : room ≤ length (new ++ rest)
  front-inside = omega (arith, front_long, length-append new rest)

  pub front_length : length (take room (new ++ rest)) ≡ room
  front_length = ap length front-is ∙ front_long

  pub front-bounded : Bounded r (length (take room (new ++ rest)))
  front-bounded = subst (Bounded r) (blank-room room h ∙ sym front_length) among.inside

  pub front-made : taken (resulting r (take room (new ++ rest))) ≡ m
  front-made = ap (λ (s : List ℕ). taken (resulting r s)) front-is ∙ among.makes

  pub front-told : (l : ℕ) → r ≡ Length l → taken (resulting (Length l) (take room (new ++ rest))) ≡ m
  front-told l e = ap (λ (q : Reply). taken (resulting q (take room (new ++ rest)))) (sym e) ∙ front-made
