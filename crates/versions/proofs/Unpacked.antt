-- How the programs of a buffer are unpacked: its map, its common part, then one version after the other.
use mathlib.Core.Path.{◌≡◌, refl, sym, ◌∙◌, ap, ap₂, subst}
use mathlib.Core.Bool.{Bool, true, false, cond}
use mathlib.Core.List.{List, [], ◌∷◌, ◌++◌}
use mathlib.Core.Option.{Option, none, some, map, bind}
use Prim.Native.Nat.{ℕ, suc, ◌+◌, ◌-◌, ◌*◌, ◌/◌, ◌%◌, ◌≤◌, ◌<◌}
use native.Mathlib.Omega.{arith}
use borrow.Author.Tests.{eq-eqb, ne_eqb, le-leb, lt-leb}
use lib.Dec.{eqb}
use lib.ListN.{length, take, drop, set, length-drop}
use lib.Seq.{take_all, take-suc-set, drop-drop}
use Rattle.graphs.proofs.Search.{true-false}
use Rattle.std.specs.Prelude.{is_err}
use Rattle.lattice.specs.Table.{accepted}
use Rattle.acceptance.specs.Reply.{opened, TableAnswer}
use Rattle.acceptance.proofs.Acceptance.{accepted-opened}
use Rattle.replies.specs.Replies.{Reply}
use Rattle.gathering.specs.Gathering.{length_at}
use Rattle.gathering.proofs.Told.{none-some}
use Rattle.versions.specs.State.{Made, made, stopped, record_in, Programs, no_programs, combination, take_measured, restored, unpacked_by, unpacked}
use Rattle.versions.specs.Slots.{programs_in, Slotted, Absent}
use Rattle.versions.specs.Promise.{EndsAt, Restores, Unpacks}
use Rattle.versions.proofs.SlotLaws.{programs-length, take-program, slot-none, empty-programs}
use Rattle.versions.proofs.Loops.{restored_on, on-end, on-absent, on-short, on-refused, on-present}

-- A record is taken after its length where all its bytes are there.

pub take-measured-some : (bytes : List ℕ) → 2 + length_at bytes ≤ length bytes →
    take_measured bytes ≡ some (take (length_at bytes) (drop 2 bytes), drop (length_at bytes) (drop 2 bytes))
unfolding take_measured
take-measured-some [] h = absurd (omega arith)
take-measured-some (low ∷ []) h = absurd (omega arith)
take-measured-some (low ∷ high ∷ rest) h =
    ap (λ (b : Bool). cond b (some (take (low + 256 * high) rest, drop (low + 256 * high) rest)) none)
    (le-leb (low + 256 * high) (length rest) (omega (arith, h)))

pub take-measured-none : (bytes : List ℕ) → length bytes < 2 + length_at bytes → take_measured bytes ≡ none
unfolding take_measured
take-measured-none [] h = refl
take-measured-none (low ∷ []) h = refl
take-measured-none (low ∷ high ∷ rest) h =
    ap (λ (b : Bool). cond b (some (take (low + 256 * high) rest, drop (low + 256 * high) rest)) none)
    (lt-leb (low + 256 * high) (length rest) (omega (arith, h)))

-- A record that stands at `at` behind its length, up to the place where it ends.
module _ (bytes : List ℕ) (at end : ℕ) (inside : at ≤ length bytes) (ends : EndsAt bytes at end) where
  pub measured-short : end ≡ 0 → take_measured (drop at bytes) ≡ none
  measured-short e = take-measured-none (drop at bytes) (omega (arith, ends.early e, inside, length-drop at bytes))

  module _ (there : end ≡ 0 → ⊥) where
    pub measured-end : (end ≡ at + (2 + length_at (drop at bytes))) × (end ≤ length bytes)
    measured-end = ends.whole there

    pub measured-whole : take_measured (drop at bytes) ≡ some (take (end - (at + 2)) (drop (at + 2) bytes), drop end bytes)
    measured-whole =
        let l : ℕ = length_at (drop at bytes) in
        let long : l ≡ end - (at + 2) = omega (arith, measured-end.0) in
        let last : at + 2 + l ≡ end = omega (arith, measured-end.0) in
        take-measured-some (drop at bytes) (omega (arith, measured-end.0, measured-end.1, length-drop at bytes)) ∙
        ap₂ (λ (x y : List ℕ). some (x, y))
        (ap₂ (λ (k : ℕ) (xs : List ℕ). take k xs) long (drop-drop 2 at bytes))
        (ap (drop l) (drop-drop 2 at bytes) ∙ drop-drop l (at + 2) bytes ∙ ap (λ (k : ℕ). drop k bytes) last)

-- The versions before `version` are restored: what is left of the bits and of the differences gives the others.
pub record Restored (n : ℕ) (t part : List ℕ) (bits : ℕ) (differences slots : List ℕ) (left at version : ℕ) : Type 0 where
  pub low : version ≤ 16
  pub inside : at ≤ length differences
  pub absent : Absent slots version
  pub goes : restored n t part 16 bits differences ≡ restored_on n t (take version (programs_in slots)) part (16 - version) left (drop at differences)

module _ (n : ℕ) (t part : List ℕ) (bits : ℕ) (differences : List ℕ) where
  pub restored-start : (slots : List ℕ) → Absent slots 0 → Restored n t part bits differences slots bits 0 0
  restored-start slots absent =
      record { low = omega arith; inside = omega arith; absent = absent; goes = go (restored n t part 16 bits differences) }
    where
      go : (o : Option Programs) → o ≡ map (λ ps. [] ++ ps) o
      go none = refl
      go (some ps) = refl

record-stopped : (m : Made) → record_in m ≡ none → (r : Reply) × (m ≡ stopped r)
record-stopped (made p) e = none-some (sym e)
record-stopped (stopped r) e = (r, refl)

module _ {n : ℕ} {t part : List ℕ} {bits : ℕ} {differences slots : List ℕ} {left at version : ℕ}
    (so : Restored n t part bits differences slots left at version) where
  -- `Restored` holds for equal slots and an equal place.
  pub restored_same : {others : List ℕ} {place : ℕ} → others ≡ slots → place ≡ at → Restored n t part bits differences others left place version
  restored_same {others} {place} e d =
      subst (λ (k : ℕ). Restored n t part bits differences others left k version) (sym d)
      (subst (λ (l : List ℕ). Restored n t part bits differences l left at version) (sym e) so)

  pub restored-all : 16 ≤ version → restored n t part 16 bits differences ≡ some (programs_in slots)
  restored-all h =
      let all : 16 - version ≡ 0 = omega arith in
      so.goes ∙ ap (λ (k : ℕ). restored_on n t (take version (programs_in slots)) part k left (drop at differences)) all ∙
      on-end n t (take version (programs_in slots)) part left (drop at differences) ∙
      ap some (take_all version (programs_in slots) (omega (arith, programs-length slots)))

  module _ (inside : version < 16) where
    next : suc (16 - (version + 1)) ≡ 16 - version
    next = omega arith

    one_more : version + 1 ≡ suc version
    one_more = omega arith

    goes-next : restored n t part 16 bits differences ≡
        restored_on n t (take version (programs_in slots)) part (suc (16 - (version + 1))) left (drop at differences)
    goes-next =
        so.goes ∙ ap (λ (k : ℕ). restored_on n t (take version (programs_in slots)) part k left (drop at differences)) (sym next)

    pub restored-absent : (left % 2 ≡ 1 → ⊥) → Restored n t part bits differences slots (left / 2) at (version + 1)
    restored-absent even =
        record {
          low = omega arith;
          inside = so.inside;
          absent = record { slotted = so.absent.slotted; empty = λ i from low. so.absent.empty i (omega arith) low };
          goes = goes-next ∙
              on-absent n t (take version (programs_in slots)) part (16 - (version + 1)) left (drop at differences) even ∙
              ap (λ (ps : Programs). restored_on n t ps part (16 - (version + 1)) (left / 2) (drop at differences))
              (sym (ap (λ (k : ℕ). take k (programs_in slots)) one_more ∙ take-program slots version inside ∙
              ap (λ (p : Option (List ℕ)). take version (programs_in slots) ++ p ∷ []) (slot-none slots version (so.absent.empty version (omega arith) inside))));
        }

    module _ (odd : left % 2 ≡ 1) {end : ℕ} (ends : EndsAt differences at end) where
      pub restored-short : end ≡ 0 → restored n t part 16 bits differences ≡ none
      restored-short e =
          goes-next ∙
          on-short n t (take version (programs_in slots)) part (16 - (version + 1)) left (drop at differences) odd
          (measured-short differences at end so.inside ends e)

      module _ (there : end ≡ 0 → ⊥) {answer : Bool} {new : List ℕ}
          (restores : Restores (combination n t (take (end - (at + 2)) (drop (at + 2) differences)) part) version slots answer new) where
        pub restored-refused : answer ≡ false → restored n t part 16 bits differences ≡ none
        restored-refused e =
            let (r, is) = record-stopped (combination n t (take (end - (at + 2)) (drop (at + 2) differences)) part) (restores.fails e) in
            goes-next ∙
            on-refused n t (take version (programs_in slots)) part (16 - (version + 1)) left (drop at differences) odd
            (take (end - (at + 2)) (drop (at + 2) differences)) (drop end differences)
            (measured-whole differences at end so.inside ends there) r is

        pub restored-present : answer ≡ true → Restored n t part bits differences new (left / 2) end (version + 1)
        restored-present e =
            let p : List ℕ = (restores.restores e).0 in
            let is : programs_in new ≡ set (programs_in slots) version (some p) = (restores.restores e).2 in
            record {
              low = omega arith;
              inside = (measured-end differences at end so.inside ends there).1;
              absent = subst (Absent new) (sym one_more) (restores.restores e).3;
              goes = goes-next ∙
                  on-present n t (take version (programs_in slots)) part (16 - (version + 1)) left (drop at differences) odd
                  (take (end - (at + 2)) (drop (at + 2) differences)) (drop end differences)
                  (measured-whole differences at end so.inside ends there) p (restores.restores e).1 ∙
                  ap (λ (ps : Programs). restored_on n t ps part (16 - (version + 1)) (left / 2) (drop end differences))
                  (sym (ap₂ (λ (k : ℕ) (ps : Programs). take k ps) one_more is ∙
                  take-suc-set (programs_in slots) version (some p) (omega (arith, inside, programs-length slots))));
            }

-- A whole buffer.

unpacked-by : (n : ℕ) (t buffer : List ℕ) → 2 ≤ length buffer → unpacked n t buffer ≡ unpacked_by n t (length_at buffer) (drop 2 buffer)
unfolding unpacked
unpacked-by n t [] h = absurd (omega arith)
unpacked-by n t (low ∷ []) h = absurd (omega arith)
unpacked-by n t (low ∷ high ∷ rest) h = refl

-- an accepted table is not refused
pub not-refused : (n : ℕ) (t : List ℕ) {answer : TableAnswer} → accepted n t ≡ true → answer ≡ opened n t → is_err answer ≡ false
not-refused n t ok e = ap is_err (e ∙ accepted-opened n t ok)

module _ (n : ℕ) (t buffer : List ℕ) (two : 2 ≤ length buffer) {bits : ℕ} (is : bits ≡ length_at buffer) where
  abbrev rest : Option Programs
  rest = bind (take_measured (drop 2 buffer)) λ part. restored n t part.0 16 bits part.1

  tested : (b : Bool) → eqb bits 0 ≡ b → unpacked n t buffer ≡ cond b (some no_programs) rest
  tested b e =
      unpacked-by n t buffer two ∙ ap (λ (k : ℕ). unpacked_by n t k (drop 2 buffer)) (sym is) ∙
      ap (λ (x : Bool). cond x (some no_programs) rest) e

  -- A map of 0 gives an empty store.
  pub unpacks-none : {slots : List ℕ} → Absent slots 0 → bits ≡ 0 → Unpacks n t buffer true slots
  unpacks-none absent e =
      record {
        slotted = absent.slotted;
        unpacks = λ d. tested true (eq-eqb bits 0 e) ∙ ap some (sym (empty-programs absent));
        fails = λ d. true-false refl d;
      }

  module _ (there : bits ≡ 0 → ⊥) {end : ℕ} (ends : EndsAt buffer 2 end) where
    -- The bytes end before the common part does.
    pub unpacks-short : {slots : List ℕ} → Absent slots 0 → end ≡ 0 → Unpacks n t buffer false slots
    unfolding bind
    unpacks-short absent e =
        record {
          slotted = absent.slotted;
          unpacks = λ d. true-false d refl;
          fails = λ d.
              tested false (ne_eqb bits 0 there) ∙
              ap (λ (o : Option (List ℕ × List ℕ)). bind o λ part. restored n t part.0 16 bits part.1) (measured-short buffer 2 end two ends e);
        }

    module _ (whole : end ≡ 0 → ⊥) where
      -- The common part is there, and the differences stand behind it.
      pub unpacks-all : {answer : Bool} {slots : List ℕ} → Slotted slots →
          restored n t (take (end - 4) (drop 4 buffer)) 16 bits (take (length buffer - end) (drop end buffer)) ≡ cond answer (some (programs_in slots)) none →
          Unpacks n t buffer answer slots
      unfolding bind
      unpacks-all {answer} {slots} slotted e =
          let all : unpacked n t buffer ≡ cond answer (some (programs_in slots)) none =
          tested false (ne_eqb bits 0 there) ∙
          ap (λ (o : Option (List ℕ × List ℕ)). bind o λ part. restored n t part.0 16 bits part.1) (measured-whole buffer 2 end two ends whole) ∙
          ap (restored n t (take (end - 4) (drop 4 buffer)) 16 bits)
          (sym (take_all (length buffer - end) (drop end buffer) (omega (arith, length-drop end buffer)))) ∙ e in
          record {
            slotted = slotted;
            unpacks = λ d. all ∙ ap (λ (b : Bool). cond b (some (programs_in slots)) none) d;
            fails = λ d. all ∙ ap (λ (b : Bool). cond b (some (programs_in slots)) none) d;
          }
