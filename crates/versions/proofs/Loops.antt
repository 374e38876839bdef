-- The definitions in the order in which loops go through them: what is left of the whole after each step, and where the loop ends.
use mathlib.Core.Path.{◌≡◌, refl, sym, ◌∙◌, ap}
use mathlib.Core.Bool.{Bool, true, false, cond}
use mathlib.Core.List.{List, [], ◌∷◌, ◌++◌, append_assoc, append-nil}
use mathlib.Core.Option.{Option, none, some, map, bind}
use Prim.Native.Nat.{ℕ, suc, ◌/◌, ◌%◌, ◌≤◌, ◌<◌}
use native.Mathlib.Omega.{arith}
use borrow.Author.Tests.{eq-eqb, ne_eqb, le-leb, lt-leb}
use lib.Dec.{eqb}
use lib.ListN.{length, length-append}
use lib.Seq.{append_snoc}
use Rattle.replies.specs.Replies.{Reply}
use Rattle.replies.specs.Replies.{NoStoreRoom}
use Rattle.versions.specs.State.{Made, made, stopped, and_then, record_in, Programs, two_bytes, map_of, measured, state_of, combination, difference_of, differences, within, stored, joined, way_from, take_measured, restored}
use Rattle.versions.specs.Promise.{packed}

-- A state that fits is made, and a state that does not fit stops.
pub within-fits : (room : ℕ) (bytes : List ℕ) → length bytes ≤ room → within room bytes ≡ made bytes
unfolding within
within-fits room bytes h = ap (λ (b : Bool). cond b (made bytes) (stopped NoStoreRoom)) (le-leb (length bytes) room h)

pub within-short : (room : ℕ) (bytes : List ℕ) → room < length bytes → within room bytes ≡ stopped NoStoreRoom
unfolding within
within-short room bytes h = ap (λ (b : Bool). cond b (made bytes) (stopped NoStoreRoom)) (lt-leb (length bytes) room h)

module _ (n : ℕ) (t : List ℕ) where
  -- A state is made: `bytes` stand already, and the differences of `ps` come behind them.

  pub stored-packed : (room : ℕ) (part : List ℕ) (ps : Programs) → stored n t room part ps ≡ packed n t room (two_bytes (map_of ps) ++ measured part) part ps
  unfolding stored state_of
  stored-packed room part ps = go (differences n t part ps)
    where
      go : (m : Made) → (and_then m λ ds. within room (two_bytes (map_of ps) ++ (measured part ++ ds))) ≡
          (and_then m λ ds. within room (two_bytes (map_of ps) ++ measured part ++ ds))
      go (made ds) = ap (within room) (sym (append_assoc (two_bytes (map_of ps)) (measured part) ds))
      go (stopped r) = refl

  pub packed-end : (room : ℕ) (bytes part : List ℕ) → packed n t room bytes part [] ≡ within room bytes
  unfolding differences
  packed-end room bytes part = ap (within room) (append-nil bytes)

  pub packed-absent : (room : ℕ) (bytes part : List ℕ) (ps : Programs) → packed n t room bytes part (none ∷ ps) ≡ packed n t room bytes part ps
  unfolding differences
  packed-absent room bytes part ps = refl

  pub packed-stops : (room : ℕ) (bytes part p : List ℕ) (ps : Programs) (r : Reply) → difference_of n t part p ≡ stopped r →
      packed n t room bytes part (some p ∷ ps) ≡ stopped r
  unfolding differences
  packed-stops room bytes part p ps r e =
      ap (λ (m : Made). and_then (and_then m λ d. and_then (differences n t part ps) λ ds. made (measured d ++ ds)) λ ds. within room (bytes ++ ds)) e

  pub packed-present : (room : ℕ) (bytes part p d : List ℕ) (ps : Programs) → difference_of n t part p ≡ made d →
      packed n t room bytes part (some p ∷ ps) ≡ packed n t room (bytes ++ measured d) part ps
  unfolding differences
  packed-present room bytes part p d ps e =
      ap (λ (m : Made). and_then (and_then m λ d. and_then (differences n t part ps) λ ds. made (measured d ++ ds)) λ ds. within room (bytes ++ ds)) e ∙
      go (differences n t part ps)
    where
      go : (m : Made) → (and_then (and_then m λ ds. made (measured d ++ ds)) λ ds. within room (bytes ++ ds)) ≡
          (and_then m λ ds. within room (bytes ++ measured d ++ ds))
      go (made ds) = ap (within room) (sym (append_assoc bytes (measured d) ds))
      go (stopped r) = refl

  -- Where there are too many bytes already, it does not matter which bytes they are: 13 may still come, else 21.
  pub packed-over : (room : ℕ) (bytes other part : List ℕ) (ps : Programs) → room < length bytes → room < length other →
      packed n t room bytes part ps ≡ packed n t room other part ps
  packed-over room bytes other part ps h k = go (differences n t part ps)
    where
      go : (m : Made) → (and_then m λ ds. within room (bytes ++ ds)) ≡ (and_then m λ ds. within room (other ++ ds))
      go (made ds) =
          within-short room (bytes ++ ds) (omega (arith, length-append bytes ds)) ∙ sym (within-short room (other ++ ds) (omega (arith, length-append other ds)))
      go (stopped r) = refl

  -- Going the way.

  pub way_step : (room : ℕ) (done ahead : Programs) (part : Option (List ℕ)) (state p c s : List ℕ) → joined n t part p ≡ made c →
      stored n t room c (done ++ some p ∷ []) ≡ made s →
      way_from n t room done part state (some p ∷ ahead) ≡ way_from n t room (done ++ some p ∷ []) (some c) s ahead
  unfolding way_from
  way_step room done ahead part state p c s e d =
      ap (λ (m : Made). and_then m λ c. and_then (stored n t room c (done ++ some p ∷ [])) λ s. way_from n t room (done ++ some p ∷ []) (some c) s ahead) e ∙
      ap (λ (m : Made). and_then m λ s. way_from n t room (done ++ some p ∷ []) (some c) s ahead) d

  pub way-large : (room : ℕ) (done ahead : Programs) (part : Option (List ℕ)) (state p : List ℕ) (r : Reply) → joined n t part p ≡ stopped r →
      way_from n t room done part state (some p ∷ ahead) ≡ stopped r
  unfolding way_from
  way-large room done ahead part state p r e =
      ap (λ (m : Made). and_then m λ c. and_then (stored n t room c (done ++ some p ∷ [])) λ s. way_from n t room (done ++ some p ∷ []) (some c) s ahead) e

  pub way-halts : (room : ℕ) (done ahead : Programs) (part : Option (List ℕ)) (state p c : List ℕ) (r : Reply) → joined n t part p ≡ made c →
      stored n t room c (done ++ some p ∷ []) ≡ stopped r → way_from n t room done part state (some p ∷ ahead) ≡ stopped r
  unfolding way_from
  way-halts room done ahead part state p c r e d =
      ap (λ (m : Made). and_then m λ c. and_then (stored n t room c (done ++ some p ∷ [])) λ s. way_from n t room (done ++ some p ∷ []) (some c) s ahead) e ∙
      ap (λ (m : Made). and_then m λ s. way_from n t room (done ++ some p ∷ []) (some c) s ahead) d

  -- Programs are read back: those in `before` are restored, and `count` versions are left.
  abbrev pub restored_on : Programs → List ℕ → ℕ → ℕ → List ℕ → Option Programs
  restored_on before part count bits bytes = map (λ ps. before ++ ps) (restored n t part count bits bytes)

  pub on-end : (before : Programs) (part : List ℕ) (bits : ℕ) (bytes : List ℕ) → restored_on before part 0 bits bytes ≡ some before
  unfolding restored
  on-end before part bits bytes = ap some (append-nil before)

  more : (before : Programs) (p : Option (List ℕ)) (o : Option Programs) →
      map (λ ps. before ++ ps) (map (λ ps. p ∷ ps) o) ≡ map (λ ps. (before ++ p ∷ []) ++ ps) o
  more before p none = refl
  more before p (some ps) = ap some (sym (append_snoc before p ps))

  -- One version, by its bit in the map.
  abbrev one : List ℕ → ℕ → ℕ → List ℕ → Bool → Option Programs
  one part count bits bytes b =
      cond b
      (bind (take_measured bytes) λ d.
      bind (record_in (combination n t d.0 part)) λ p.
      map (λ ps. some p ∷ ps) (restored n t part count (bits / 2) d.1))
      (map (λ ps. none ∷ ps) (restored n t part count (bits / 2) bytes))

  by_bit : (before : Programs) (part : List ℕ) (count bits : ℕ) (bytes : List ℕ) (b : Bool) → eqb (bits % 2) 1 ≡ b →
      restored_on before part (suc count) bits bytes ≡ map (λ ps. before ++ ps) (one part count bits bytes b)
  unfolding restored
  by_bit before part count bits bytes b e = ap (λ (x : Bool). map (λ ps. before ++ ps) (one part count bits bytes x)) e

  module _ (before : Programs) (part : List ℕ) (count bits : ℕ) (bytes : List ℕ) where
    pub on-absent : (bits % 2 ≡ 1 → ⊥) → restored_on before part (suc count) bits bytes ≡ restored_on (before ++ none ∷ []) part count (bits / 2) bytes
    on-absent even = by_bit before part count bits bytes false (ne_eqb (bits % 2) 1 even) ∙ more before none (restored n t part count (bits / 2) bytes)

    module _ (odd : bits % 2 ≡ 1) where
      there : restored_on before part (suc count) bits bytes ≡ map (λ ps. before ++ ps) (one part count bits bytes true)
      there = by_bit before part count bits bytes true (eq-eqb (bits % 2) 1 odd)

      pub on-short : take_measured bytes ≡ none → restored_on before part (suc count) bits bytes ≡ none
      unfolding bind
      on-short e =
          there ∙
          ap (λ (o : Option (List ℕ × List ℕ)). map (λ ps. before ++ ps) (bind o λ d.
          bind (record_in (combination n t d.0 part)) λ p. map (λ ps. some p ∷ ps) (restored n t part count (bits / 2) d.1))) e

      module _ (d rest : List ℕ) (taken : take_measured bytes ≡ some (d, rest)) where
        pub on-difference : restored_on before part (suc count) bits bytes ≡
            map (λ ps. before ++ ps) (bind (record_in (combination n t d part)) λ p. map (λ ps. some p ∷ ps) (restored n t part count (bits / 2) rest))
        unfolding bind
        on-difference =
            there ∙
            ap (λ (o : Option (List ℕ × List ℕ)). map (λ ps. before ++ ps) (bind o λ d.
            bind (record_in (combination n t d.0 part)) λ p. map (λ ps. some p ∷ ps) (restored n t part count (bits / 2) d.1))) taken

        pub on-refused : (r : Reply) → combination n t d part ≡ stopped r → restored_on before part (suc count) bits bytes ≡ none
        unfolding bind
        on-refused r e =
            on-difference ∙
            ap (λ (m : Made). map (λ ps. before ++ ps) (bind (record_in m) λ p. map (λ ps. some p ∷ ps) (restored n t part count (bits / 2) rest))) e

        pub on-present : (p : List ℕ) → combination n t d part ≡ made p →
            restored_on before part (suc count) bits bytes ≡ restored_on (before ++ some p ∷ []) part count (bits / 2) rest
        unfolding bind
        on-present p e =
            on-difference ∙
            ap (λ (m : Made). map (λ ps. before ++ ps) (bind (record_in m) λ p. map (λ ps. some p ∷ ps) (restored n t part count (bits / 2) rest))) e ∙
            more before (some p) (restored n t part count (bits / 2) rest)
