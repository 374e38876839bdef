-- When a buffer holds programs: it can be unpacked, and the way of its programs ends in its first bytes.
use mathlib.Core.Path.{◌≡◌, refl, sym, ◌∙◌, ap, subst}
use mathlib.Core.Bool.{Bool, true, false, cond}
use mathlib.Core.List.{List, [], ◌∷◌}
use mathlib.Core.Option.{Option, none, some, bind}
use Prim.Native.Nat.{ℕ, ◌≤◌, ◌<◌}
use native.Mathlib.Omega.{arith}
use borrow.Author.Tests.{le-leb}
use lib.ListN.{length, take}
use Rattle.replies.specs.Replies.{Reply}
use Rattle.replies.specs.Replies.{Length}
use Rattle.replies.specs.Reply.{resulting, length_of}
use Rattle.versions.specs.State.{Made, made, stopped, taken, Programs, way, starts_with, begins, unpacked, held}
use Rattle.versions.specs.Slots.{programs_in, Slotted, Parted}
use Rattle.versions.specs.Promise.{Unpacks}
use Rattle.versions.proofs.Lengths.{none-taken}
use Rattle.way.specs.Promise.{Led, Opens}

true-false : {X : Type 0} → true ≡ false → X
true-false e = let z : ◌≡◌ {A = ℕ} 0 1 = cc in absurd (omega arith)

-- A buffer of fewer than two bytes cannot be unpacked.
pub unpacked-short : (n : ℕ) (t buffer : List ℕ) → length buffer < 2 → unpacked n t buffer ≡ none
unfolding unpacked
unpacked-short n t [] h = refl
unpacked-short n t (low ∷ []) h = refl
unpacked-short n t (low ∷ high ∷ rest) h = absurd (omega arith)

module _ (n : ℕ) (t buffer : List ℕ) (few : length buffer ≤ 16384) where
  abbrev checked_way : Programs → Made → Option Programs
  checked_way ps m = cond (begins m buffer) (some ps) none

  held_by : (o : Option Programs) → unpacked n t buffer ≡ o → held n t buffer ≡ bind o λ ps. checked_way ps (way n t (length buffer) ps)
  unfolding held
  held_by o e =
      ap (λ (b : Bool). cond b (bind (unpacked n t buffer) λ ps. checked_way ps (way n t (length buffer) ps)) none) (le-leb (length buffer) 16384 few) ∙
      ap (λ (u : Option Programs). bind u λ ps. checked_way ps (way n t (length buffer) ps)) e

  held_none : unpacked n t buffer ≡ none → held n t buffer ≡ none
  unfolding bind
  held_none e = held_by none e

  held-way : (ps : Programs) (m : Made) → unpacked n t buffer ≡ some ps → way n t (length buffer) ps ≡ m → held n t buffer ≡ checked_way ps m
  unfolding bind
  held-way ps m e d = held_by (some ps) e ∙ ap (checked_way ps) d

  module _ {slots part : List ℕ} (state : List ℕ) (slotted : Slotted slots) (parted : Parted part) (long : length state ≡ length buffer) where
    -- A buffer that holds no programs.
    opens-none : held n t buffer ≡ none → Opens n t buffer false slots part state
    opens-none e =
        record { slotted = slotted; parted = parted; long = long; holds = λ d. true-false (sym d); fails = λ d. e }

    pub opens-short : length buffer < 2 → Opens n t buffer false slots part state
    opens-short h = opens-none (held_none (unpacked-short n t buffer h))

    -- A buffer that cannot be unpacked.
    pub opens_not : {answer : Bool} → Unpacks n t buffer answer slots → answer ≡ false → Opens n t buffer false slots part state
    opens_not unpacks e = opens-none (held_none (unpacks.fails e))

    module _ {answer : Bool} (unpacks : Unpacks n t buffer answer slots) (all : answer ≡ true) (r : Reply) {room : ℕ} (rooms : room ≡ length buffer)
        (goes : taken (resulting r state) ≡ way n t room (programs_in slots)) where
      went : way n t (length buffer) (programs_in slots) ≡ taken (resulting r state)
      went = sym (goes ∙ ap (λ (k : ℕ). way n t k (programs_in slots)) rooms)

      -- The way of its programs stops.
      pub opens-stops : length_of r ≡ none → Opens n t buffer false slots part state
      opens-stops refused = opens-none (held-way (programs_in slots) (stopped r) (unpacks.unpacks all) (went ∙ none-taken r refused state))

      -- The way of its programs ends in a state.
      pub opens_by : (used : ℕ) → r ≡ Length used → Led n t room (programs_in slots) 16 part (take used state) → (b : Bool) →
          b ≡ starts_with (take used state) buffer → Opens n t buffer b slots part state
      opens_by used e led b is =
          let told : held n t buffer ≡ cond b (some (programs_in slots)) none =
          held-way (programs_in slots) (made (take used state)) (unpacks.unpacks all) (went ∙ ap (λ (q : Reply). taken (resulting q state)) e) ∙
          ap (λ (s : Bool). cond s (some (programs_in slots)) none) (sym is) in
          record {
            slotted = slotted;
            parted = parted;
            long = long;
            holds = λ d. (
              told ∙ ap (λ (s : Bool). cond s (some (programs_in slots)) none) d,
              (used, subst (λ (k : ℕ). Led n t k (programs_in slots) 16 part (take used state)) rooms led),
            );
            fails = λ d. told ∙ ap (λ (s : Bool). cond s (some (programs_in slots)) none) d;
          }
