-- The way, version by version: one step, and where the way has led.
use mathlib.Core.Path.{◌≡◌, refl, sym, ◌∙◌, ap, ap₂, subst}
use mathlib.Core.List.{List, [], ◌∷◌, ◌++◌, append-nil}
use mathlib.Core.Option.{Option, none, some}
use Prim.Native.Nat.{ℕ, suc, ◌+◌, ◌-◌, ◌*◌, ◌≤◌, ◌<◌}
use native.Mathlib.Decide.{dec_le}
use native.Mathlib.Omega.{arith}
use lib.ListN.{length, take, drop, get_or, length-drop}
use lib.Seq.{length-take-le, take_all, take-suc, append_snoc, split_at}
use Rattle.replies.specs.Replies.{Reply}
use Rattle.replies.specs.Replies.{Length}
use Rattle.replies.specs.Reply.{resulting, length_of, Bounded}
use Rattle.gathering.specs.Gathering.{length_at}
use Rattle.gathering.proofs.Told.{none-some}
use Rattle.versions.specs.State.{made, taken_by, taken, two_bytes, Programs, empty_state, stored, joined, way_from, way}
use Rattle.versions.specs.Slots.{measured_in, slot_at, programs_in, Parted}
use Rattle.versions.specs.Promise.{onward_by, onward, NoneFrom}
use Rattle.versions.proofs.SlotLaws.{programs-length, program-at, take-program, slot-none, record_at, slot-some, measured-some, part-cleared}
use Rattle.versions.proofs.Loops.{way_step, way-large, way-halts}
use Rattle.versions.proofs.Lengths.{none-bounded, none-taken, none-onward, length-same}
use Rattle.versions.proofs.Packs.{two-long, two-stand}
use Rattle.way.specs.Promise.{Led, Joins, Steps}

-- One step: the program of a version has joined the common part.
pub record Entered (n : ℕ) (t slots part : List ℕ) (v : ℕ) (r : Reply) (new : List ℕ) : Type 0 where
  pub inside : v < 16
  pub there : slot_at slots v ≡ some (record_at slots v)
  pub joins : Joins (joined n t (measured_in part) (record_at slots v)) r new

pub entered : (n : ℕ) (t slots part : List ℕ) (v l : ℕ) {r : Reply} {new : List ℕ} → v < 16 → 1 ≤ length_at (drop (v * 4856) slots) →
    l ≡ length_at (drop (v * 4856) slots) →
    Joins (joined n t (measured_in part) (take (v * 4856 + 2 + l - (v * 4856 + 2)) (drop (v * 4856 + 2) slots))) r new →
    Entered n t slots part v r new
entered n t slots part v l {r} {new} inside there is joins =
    let size : v * 4856 + 2 + l - (v * 4856 + 2) ≡ length_at (drop (v * 4856) slots) = omega (arith, is) in
    record {
      inside = inside;
      there = slot-some slots v (λ e. omega (arith, e, there));
      joins = subst (λ (k : ℕ). Joins (joined n t (measured_in part) (take k (drop (v * 4856 + 2) slots))) r new) size joins;
    }

module _ {n : ℕ} {t slots part : List ℕ} {v : ℕ} {r : Reply} {new : List ℕ} (so : Entered n t slots part v r new) (state : List ℕ) where
  program : get_or (programs_in slots) v none ≡ some (record_at slots v)
  program = program-at slots v so.inside ∙ so.there

  one_more : take (suc v) (programs_in slots) ≡ take v (programs_in slots) ++ some (record_at slots v) ∷ []
  one_more = take-program slots v so.inside ∙ ap (λ (p : Option (List ℕ)). take v (programs_in slots) ++ p ∷ []) so.there

  -- The new common part is too large.
  pub steps-large : length_of r ≡ none → Steps n t (programs_in slots) v part state r new state
  steps-large refused =
      record {
        parted = so.joins.parted;
        long = refl;
        inside = none-bounded r refused (length state);
        goes = λ old ahead.
            ap (λ (p : Option (List ℕ)). way_from n t (length state) (take v (programs_in slots)) (measured_in part) old (p ∷ ahead)) program ∙
            way-large n t (length state) (take v (programs_in slots)) ahead (measured_in part) old (record_at slots v) r
            (sym so.joins.joins ∙ none-taken r refused (drop 2 new)) ∙
            sym (none-onward r refused (λ k. way_from n t (length state) (take (suc v) (programs_in slots)) (measured_in new) (take k state) ahead));
      }

  -- The new common part stands behind its length.
  module _ (size : ℕ) (e : r ≡ Length size) where
    pub size-short : size ≤ 4854
    size-short = omega (arith, (so.joins.tells size e).0, so.joins.parted.short)

    pub part-short : length (take (2 + size - 2) (drop 2 new)) ≤ 4854
    part-short =
        let fits : 2 + size - 2 ≤ length (drop 2 new) = omega (arith, size-short, so.joins.parted.long, length-drop 2 new) in
        omega (arith, size-short, length-take-le (2 + size - 2) (drop 2 new) fits)

    common : List ℕ
    common = take size (drop 2 new)

    pub steps_on : (q : Reply) (after : List ℕ) → length after ≡ length state → Bounded q (length state) →
        taken (resulting q after) ≡ stored n t (length state) (take (2 + size - 2) (drop 2 new)) (take (v + 1) (programs_in slots)) →
        Steps n t (programs_in slots) v part state q new after
    unfolding common
    steps_on q after long bounded packs =
        record {
          parted = so.joins.parted;
          long = long;
          inside = bounded;
          goes = λ old ahead.
              ap (λ (p : Option (List ℕ)). way_from n t (length state) (take v (programs_in slots)) (measured_in part) old (p ∷ ahead)) program ∙
              go old ahead (length_of q) made-state;
        }
      where
        made-part : joined n t (measured_in part) (record_at slots v) ≡ made common
        made-part = sym so.joins.joins ∙ ap (λ (q : Reply). taken (resulting q (drop 2 new))) e

        made-state : stored n t (length state) common (take v (programs_in slots) ++ some (record_at slots v) ∷ []) ≡ taken (resulting q after)
        made-state =
            let whole : 2 + size - 2 ≡ size = omega arith in
            let next : v + 1 ≡ suc v = omega arith in
            sym (packs ∙ ap₂ (λ (k : ℕ) (ps : Programs). stored n t (length state) (take k (drop 2 new)) ps) whole
            (ap (λ (k : ℕ). take k (programs_in slots)) next ∙ one_more))

        measured : measured_in new ≡ some common
        measured =
            measured-some new (λ z. omega (arith, z, (so.joins.tells size e).0, (so.joins.tells size e).1)) ∙
            ap (λ (k : ℕ). some (take k (drop 2 new))) (so.joins.tells size e).0

        go : (old : List ℕ) (ahead : Programs) (o : Option ℕ) →
            stored n t (length state) common (take v (programs_in slots) ++ some (record_at slots v) ∷ []) ≡ taken_by o (resulting q after) →
            way_from n t (length state) (take v (programs_in slots)) (measured_in part) old (some (record_at slots v) ∷ ahead) ≡
            onward_by o q (λ k. way_from n t (length state) (take (suc v) (programs_in slots)) (measured_in new) (take k after) ahead)
        go old ahead none d =
            way-halts n t (length state) (take v (programs_in slots)) ahead (measured_in part) old (record_at slots v) common q made-part d
        go old ahead (some k) d =
            way_step n t (length state) (take v (programs_in slots)) ahead (measured_in part) old (record_at slots v) common (take k after) made-part d ∙
            ap₂ (λ (ps : Programs) (o : Option (List ℕ)). way_from n t (length state) ps o (take k after) ahead) (sym one_more) (sym measured)

-- Where the way has led.
module _ (n : ℕ) (t : List ℕ) (room : ℕ) where
  way-absent : (done : Programs) (part : Option (List ℕ)) (state : List ℕ) (ahead : Programs) →
      way_from n t room done part state (none ∷ ahead) ≡ way_from n t room (done ++ none ∷ []) part state ahead
  unfolding way_from
  way-absent done part state ahead = refl

  way-ends : (done : Programs) (part : Option (List ℕ)) (state : List ℕ) → way_from n t room done part state [] ≡ made state
  unfolding way_from
  way-ends done part state = refl

  way-whole : (ps : Programs) → way_from n t room [] none empty_state ps ≡ way n t room ps
  unfolding way
  way-whole ps = refl

-- The way of the programs in slots has led to a part and the used bytes of a state.
pub record Going (n : ℕ) (t slots : List ℕ) (room : ℕ) (part state : List ℕ) (used v : ℕ) : Type 0 where
  pub low : v ≤ 16
  pub long : length state ≡ room
  pub fits : used ≤ room
  pub led : Led n t room (programs_in slots) v part (take used state)

-- The way begins at the empty store.
pub going_start : (n : ℕ) (t slots old part before : List ℕ) {state : List ℕ} → Parted old → 2 ≤ length before →
    part ≡ take 0 old ++ (two_bytes 0 ++ drop (0 + 2) old) → state ≡ take 0 before ++ (two_bytes 0 ++ drop (0 + 2) before) →
    Going n t slots (length state) part state 2 0
unfolding two_bytes
going_start n t slots old part before {state} parted two is put =
    let cleared = part-cleared parted is in
    record {
      low = omega arith;
      long = refl;
      fits = omega (arith, two, two-long 0 before put two);
      led = record {
        parted = cleared.0;
        leads = λ k h absent ahead.
            let first : k ≡ 0 = omega arith in
            ap (λ (i : ℕ). way_from n t (length state) [] none empty_state (take i (programs_in slots) ++ ahead)) first ∙
            ap₂ (λ (o : Option (List ℕ)) (s : List ℕ). way_from n t (length state) [] o s ahead) (sym cleared.1) (sym (two-stand 0 before put)) ∙
            ap (λ (i : ℕ). way_from n t (length state) (take i (programs_in slots)) (measured_in part) (take 2 state) ahead) (sym first);
      };
    }

module _ {n : ℕ} {t slots : List ℕ} {room : ℕ} {part state : List ℕ} {used v : ℕ} (so : Going n t slots room part state used v) where
  abbrev programs : Programs
  programs = programs_in slots

  -- `Going` holds for equal parts, states and lengths.
  pub going-same : {part₂ state₂ : List ℕ} {used₂ : ℕ} → part₂ ≡ part → state₂ ≡ state → used₂ ≡ used → Going n t slots room part₂ state₂ used₂ v
  going-same {part₂} {state₂} {used₂} d e h =
      subst (λ (l : List ℕ). Going n t slots room l state₂ used₂ v) (sym d)
      (subst (λ (l : List ℕ). Going n t slots room part l used₂ v) (sym e) (subst (λ (k : ℕ). Going n t slots room part state k v) (sym h) so))

  -- The way has led past the versions so far, whatever lies ahead.
  here : (ahead : Programs) →
      way_from n t room [] none empty_state (take v programs ++ ahead) ≡ way_from n t room (take v programs) (measured_in part) (take used state) ahead
  here ahead = so.led.leads v (omega arith) (λ i from low. absurd (omega arith)) ahead

  module _ (inside : v < 16) where
    next-taken : (ahead : Programs) → take (suc v) programs ++ ahead ≡ take v programs ++ get_or programs v none ∷ ahead
    next-taken ahead =
        ap (λ (ps : Programs). ps ++ ahead) (take-suc programs v none (omega (arith, inside, programs-length slots))) ∙
        append_snoc (take v programs) (get_or programs v none) ahead

    -- The next version is absent.
    pub going-absent : length_at (drop (v * 4856) slots) ≡ 0 → Going n t slots room part state used (v + 1)
    going-absent e =
        let next : v + 1 ≡ suc v = omega arith in
        record {
          low = omega arith;
          long = so.long;
          fits = so.fits;
          led = record { parted = so.led.parted; leads = λ k h absent ahead. go k ahead (dec_le k v) h absent };
        }
      where
        is_none : get_or programs v none ≡ none
        is_none = program-at slots v inside ∙ slot-none slots v e

        last : (ahead : Programs) → way_from n t room [] none empty_state (take (suc v) programs ++ ahead) ≡
            way_from n t room (take (suc v) programs) (measured_in part) (take used state) ahead
        last ahead =
            ap (way_from n t room [] none empty_state)
            (next-taken ahead ∙ ap (λ (p : Option (List ℕ)). take v programs ++ p ∷ ahead) is_none) ∙
            here (none ∷ ahead) ∙ way-absent n t room (take v programs) (measured_in part) (take used state) ahead ∙
            ap (λ (ps : Programs). way_from n t room ps (measured_in part) (take used state) ahead)
            (sym (take-suc programs v none (omega (arith, inside, programs-length slots)) ∙ ap (λ (p : Option (List ℕ)). take v programs ++ p ∷ []) is_none))

        go : (k : ℕ) (ahead : Programs) → Dec (k ≤ v) → k ≤ v + 1 → NoneFrom k (v + 1) programs →
            way_from n t room [] none empty_state (take k programs ++ ahead) ≡
            way_from n t room (take k programs) (measured_in part) (take used state) ahead
        go k ahead (yes low) h absent = so.led.leads k low (λ i from below. absent i from (omega arith)) ahead
        go k ahead (no high) h absent =
            let all : suc v ≡ k = omega (arith, high, h) in
            subst (λ (i : ℕ). way_from n t room [] none empty_state (take i programs ++ ahead) ≡
            way_from n t room (take i programs) (measured_in part) (take used state) ahead) all (last ahead)

    -- The next version exists.
    module _ (there : (length_at (drop (v * 4856) slots) ≡ 0 → ⊥)) {r : Reply} {new after : List ℕ}
        (steps : Steps n t (programs_in slots) v part state r new after) where
      is_some : get_or programs v none ≡ some (record_at slots v)
      is_some = program-at slots v inside ∙ slot-some slots v there

      goes : (ahead : Programs) → way_from n t room [] none empty_state (take (suc v) programs ++ ahead) ≡
          onward r (λ k. way_from n t room (take (suc v) programs) (measured_in new) (take k after) ahead)
      goes ahead =
          ap (way_from n t room [] none empty_state) (next-taken ahead) ∙ here (get_or programs v none ∷ ahead) ∙
          subst (λ (k : ℕ). way_from n t k (take v programs) (measured_in part) (take used state) (get_or programs v none ∷ ahead) ≡
          onward r (λ l. way_from n t k (take (suc v) programs) (measured_in new) (take l after) ahead)) so.long (steps.goes (take used state) ahead)

      pub going_step : (next : ℕ) → r ≡ Length next → Going n t slots room new after next (v + 1)
      going_step next e =
          record {
            low = omega arith;
            long = steps.long ∙ so.long;
            fits = omega (arith, steps.inside next e, so.long);
            led = record {
              parted = steps.parted;
              leads = λ k h absent ahead.
                  let all : suc v ≡ k = omega (arith, h, only k absent) in
                  subst (λ (i : ℕ). way_from n t room [] none empty_state (take i programs ++ ahead) ≡
                  way_from n t room (take i programs) (measured_in new) (take next after) ahead) all
                  (goes ahead ∙ ap (λ (q : Reply). onward q (λ l. way_from n t room (take (suc v) programs) (measured_in new) (take l after) ahead)) e);
            };
          }
        where
          only : (k : ℕ) → NoneFrom k (v + 1) programs → v < k
          only k absent = choose (dec_le k v)
            where
              choose : Dec (k ≤ v) → v < k
              choose (yes low) = none-some (sym (absent v low (omega arith)) ∙ is_some)
              choose (no high) = omega (arith, high)

      pub going-stops : length_of r ≡ none → taken (resulting r after) ≡ way n t room programs
      going-stops refused =
          none-taken r refused after ∙
          sym (sym (way-whole n t room programs) ∙
          ap (way_from n t room [] none empty_state)
          (split_at programs v none (omega (arith, inside, programs-length slots)) ∙ sym (next-taken (drop (suc v) programs))) ∙
          goes (drop (suc v) programs) ∙
          none-onward r refused (λ k. way_from n t room (take (suc v) programs) (measured_in new) (take k after) (drop (suc v) programs)))

  -- All versions are behind.
  module _ (all : 16 ≤ v) where
    pub going-ends : taken (resulting (Length used) state) ≡ way n t room programs
    going-ends =
        sym (sym (way-whole n t room programs) ∙
        ap (way_from n t room [] none empty_state)
        (sym (append-nil (take v programs) ∙ take_all v programs (omega (arith, all, programs-length slots)))) ∙
        here [] ∙ way-ends n t room (take v programs) (measured_in part) (take used state))

    pub going-led : (k : ℕ) → Length used ≡ Length k → Led n t room programs 16 part (take k state)
    going-led k e =
        let last : v ≡ 16 = omega (arith, all, so.low) in
        subst (λ (i : ℕ). Led n t room programs i part (take k state)) last
        (subst (λ (i : ℕ). Led n t room programs v part (take i state)) (length-same e) so.led)
