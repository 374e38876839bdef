-- What packing leaves at each step: the bytes that stand in a state, and the differences to come.
use mathlib.Core.Path.{◌≡◌, refl, sym, ◌∙◌, ap, ap₂}
use mathlib.Core.Bool.{Bool, cond}
use mathlib.Core.List.{List, ◌∷◌, ◌++◌, append_assoc}
use mathlib.Core.Option.{Option, none, some}
use Prim.Native.Nat.{ℕ, suc, ◌+◌, ◌-◌, ◌*◌, ◌≤◌, ◌<◌}
use native.Mathlib.Decide.{dec_le}
use native.Mathlib.Omega.{arith}
use borrow.Author.Tests.{le-leb, lt-leb}
use lib.ListN.{length, take, drop, replicate, length-append, length-drop, length-replicate, drop_of_length-le}
use lib.Seq.{length-take-le, take_at, drop-cons, get_or-take}
use Rattle.replies.specs.Replies.{Reply}
use Rattle.replies.specs.Replies.{Length, NoStoreRoom}
use Rattle.replies.specs.Reply.{resulting, length_of, Bounded}
use Rattle.calls.specs.Calls.{differing}
use Rattle.gathering.specs.Gathering.{length_at}
use Rattle.versions.specs.State.{Made, taken, blank, two_bytes, Programs, map_of, measured, difference_of, within, stored}
use Rattle.versions.specs.Slots.{slot_at, programs_in}
use Rattle.versions.specs.Promise.{Puts, standing, onward, packed}
use Rattle.versions.proofs.SlotLaws.{programs-length, program-at, slot-none, record_at, slot-some, length-two-bytes, length-measured}
use Rattle.versions.proofs.Loops.{within-fits, within-short, stored-packed, packed-end, packed-absent, packed-stops, packed-present, packed-over}
use Rattle.versions.proofs.Written.{Fitting, differing-fits, taken-most, taken-long}
use Rattle.versions.proofs.Lengths.{none-taken, none-onward}

-- The bytes that stand.

module _ (at : ℕ) (state : List ℕ) where
  pub standing-fits : at ≤ length state → standing at state ≡ take at state
  unfolding standing
  standing-fits h = ap (λ (b : Bool). cond b (take at state) (replicate (suc (length state)) 0)) (le-leb at (length state) h)

  pub standing-over : length state < at → standing at state ≡ replicate (suc (length state)) 0
  unfolding standing
  standing-over h = ap (λ (b : Bool). cond b (take at state) (replicate (suc (length state)) 0)) (lt-leb at (length state) h)

  -- If there is no room for `at` bytes, the bytes that stand are longer than the state.
  over-long : length state < at → length state < length (standing at state)
  over-long h = omega (arith, ap length (standing-over h) ∙ length-replicate (suc (length state)) 0)

-- Bytes are put behind those that stand.
module _ {d old new : List ℕ} {at : ℕ} (puts : Puts d at old new) where
  put-standing : at + 2 + length d ≤ length old → standing (at + 2 + length d) new ≡ standing at old ++ measured d
  put-standing h =
      let front : length (take at old ++ measured d) ≡ at + 2 + length d =
      omega (arith, h, length-append (take at old) (measured d), length-take-le at old (omega (arith, h)), length-measured d) in
      standing-fits (at + 2 + length d) new (omega (arith, h, puts.long)) ∙
      ap (take (at + 2 + length d)) (puts.put h ∙ sym (append_assoc (take at old) (measured d) (drop (at + 2 + length d) old))) ∙
      take_at (take at old ++ measured d) (drop (at + 2 + length d) old) (at + 2 + length d) front ∙
      ap (λ (bytes : List ℕ). bytes ++ measured d) (sym (standing-fits at old (omega (arith, h))))

  more-long : length old < at + 2 + length d → length old < length (standing at old ++ measured d)
  more-long h = go (dec_le at (length old))
    where
      go : Dec (at ≤ length old) → length old < length (standing at old ++ measured d)
      go (yes fits) =
          omega (
            arith,
            h,
            length-append (standing at old) (measured d),
            length-measured d,
            ap length (standing-fits at old fits) ∙ length-take-le at old fits,
          )
      go (no over) = omega (arith, length-append (standing at old) (measured d), over-long at old (omega (arith, over)))

  pub packed-put : (n : ℕ) (t part : List ℕ) (ps : Programs) →
      packed n t (length old) (standing at old ++ measured d) part ps ≡ packed n t (length old) (standing (at + 2 + length d) new) part ps
  packed-put n t part ps = go (dec_le (at + 2 + length d) (length old))
    where
      go : Dec (at + 2 + length d ≤ length old) →
          packed n t (length old) (standing at old ++ measured d) part ps ≡ packed n t (length old) (standing (at + 2 + length d) new) part ps
      go (yes fits) = ap (λ (bytes : List ℕ). packed n t (length old) bytes part ps) (sym (put-standing fits))
      go (no short) =
          packed-over n t (length old) (standing at old ++ measured d) (standing (at + 2 + length d) new) part ps (more-long (omega (arith, short)))
          (omega (arith, puts.long, over-long (at + 2 + length d) new (omega (arith, short, puts.long))))

-- One version: it is absent, its difference is refused, or it is put.

pub goes-absent : (n : ℕ) (t slots part : List ℕ) (v l : ℕ) → l ≡ length_at (drop (v * 4856) slots) → l ≡ 0 → (room : ℕ) (bytes : List ℕ) (ps : Programs) →
    packed n t room bytes part (slot_at slots v ∷ ps) ≡ packed n t room bytes part ps
goes-absent n t slots part v l is e room bytes ps =
    ap (λ (p : Option (List ℕ)). packed n t room bytes part (p ∷ ps)) (slot-none slots v (sym is ∙ e)) ∙ packed-absent n t room bytes part ps

-- the difference of a version that exists, as a call replies and leaves it
pub record Differs (n : ℕ) (t slots part : List ℕ) (v : ℕ) (r : Reply) (out : List ℕ) : Type 0 where
  pub there : slot_at slots v ≡ some (record_at slots v)
  pub tells : difference_of n t part (record_at slots v) ≡ taken (resulting r out)
  pub short : Bounded r 4854
  pub long : length out ≡ 4854

pub differs-in : (n : ℕ) (t slots part : List ℕ) (v l : ℕ) (r : Reply) (out : List ℕ) → l ≡ length_at (drop (v * 4856) slots) → (l ≡ 0 → ⊥) →
    resulting r out ≡ differing n t part (take (v * 4856 + 2 + l - (v * 4856 + 2)) (drop (v * 4856 + 2) slots)) (replicate 4854 0) →
    Differs n t slots part v r out
unfolding difference_of blank
differs-in n t slots part v l r out is other e =
    let size : v * 4856 + 2 + l - (v * 4856 + 2) ≡ length_at (drop (v * 4856) slots) = omega (arith, is) in
    let told : resulting r out ≡ differing n t part (record_at slots v) (replicate 4854 0) =
    e ∙ ap (λ (k : ℕ). differing n t part (take k (drop (v * 4856 + 2) slots)) (replicate 4854 0)) size in
    let fits : Fitting (replicate 4854 0) (differing n t part (record_at slots v) (replicate 4854 0)) =
    differing-fits (replicate 4854 0) n t part (record_at slots v) in
    record {
      there = slot-some slots v (λ z. other (is ∙ z));
      tells = ap taken (sym told);
      short = λ k h. omega (arith, taken-most told fits k h, length-replicate {A = ℕ} 4854 0);
      long = taken-long told fits ∙ length-replicate {A = ℕ} 4854 0;
    }

module _ {n : ℕ} {t slots part : List ℕ} {v : ℕ} {r : Reply} {out : List ℕ} (differs : Differs n t slots part v r out) where
  is_some : (room : ℕ) (bytes : List ℕ) (ps : Programs) →
      packed n t room bytes part (slot_at slots v ∷ ps) ≡ packed n t room bytes part (some (record_at slots v) ∷ ps)
  is_some room bytes ps = ap (λ (p : Option (List ℕ)). packed n t room bytes part (p ∷ ps)) differs.there

  pub goes-refused : length_of r ≡ none → (room : ℕ) (bytes : List ℕ) (ps : Programs) (next : ℕ → Made) →
      packed n t room bytes part (slot_at slots v ∷ ps) ≡ onward r next
  goes-refused refused room bytes ps next =
      is_some room bytes ps ∙ packed-stops n t room bytes part (record_at slots v) ps r (differs.tells ∙ none-taken r refused out) ∙
      sym (none-onward r refused next)

  module _ (l : ℕ) (e : r ≡ Length l) where
    pub size_fits : l ≤ length out
    size_fits = omega (arith, differs.short l e, differs.long)

    pub size_is : l ≡ length (take l out)
    size_is = sym (length-take-le l out size_fits)

    pub goes-put : {at : ℕ} {old new : List ℕ} → Puts (take l out) at old new → (ps : Programs) →
        packed n t (length old) (standing at old) part (slot_at slots v ∷ ps) ≡ packed n t (length old) (standing (at + 2 + l) new) part ps
    goes-put {at} {old} {new} puts ps =
        is_some (length old) (standing at old) ps ∙
        packed-present n t (length old) (standing at old) part (record_at slots v) (take l out) ps
        (differs.tells ∙ ap (λ (q : Reply). taken (resulting q out)) e) ∙
        packed-put puts n t part ps ∙ ap (λ (k : ℕ). packed n t (length old) (standing (at + 2 + k) new) part ps) (sym size_is)

-- The versions before v are packed, in a room of so many bytes: what is left makes the whole.
pub record Packing (n : ℕ) (t slots part : List ℕ) (count room : ℕ) (state : List ℕ) (at v : ℕ) : Type 0 where
  pub few : count ≤ 16
  pub low : v ≤ count
  pub near : at ≤ 4858 + v * 4856
  pub long : length state ≡ room
  pub left : packed n t room (standing at state) part (drop v (take count (programs_in slots))) ≡ stored n t room part (take count (programs_in slots))

-- The map is put as two bytes, first of all.
module _ (bits : ℕ) (old : List ℕ) {state : List ℕ} (is : state ≡ take 0 old ++ (two_bytes bits ++ drop (0 + 2) old)) where
  pub two-long : 2 ≤ length old → length state ≡ length old
  two-long two =
      omega (arith, two, ap length is, length-append (two_bytes bits) (drop (0 + 2) old), length-two-bytes bits, length-drop (0 + 2) old)

  pub two-stand : take 2 state ≡ two_bytes bits
  two-stand = ap (take 2) is ∙ take_at (two_bytes bits) (drop (0 + 2) old) 2 (length-two-bytes bits)

-- The map and the common part stand.
module _ (bits : ℕ) (old : List ℕ) {part state new : List ℕ} (two : 2 ≤ length old) (is : state ≡ take 0 old ++ (two_bytes bits ++ drop (0 + 2) old))
    (puts : Puts part 2 state new) where
  pub start-long : length new ≡ length old
  start-long = puts.long ∙ two-long bits old is two

  pub packing-start : (n : ℕ) (t slots : List ℕ) (count : ℕ) → count ≤ 16 → length part ≤ 4854 → bits ≡ map_of (take count (programs_in slots)) →
      Packing n t slots part count (length new) new (4 + length part) 0
  packing-start n t slots count few short e =
      let ps : Programs = take count (programs_in slots) in
      let map-stands : standing 2 state ≡ two_bytes (map_of ps) =
      standing-fits 2 state (omega (arith, two, two-long bits old is two)) ∙ two-stand bits old is ∙ ap two_bytes e in
      record {
        few = few;
        low = omega arith;
        near = omega arith;
        long = refl;
        left = ap (λ (room : ℕ). packed n t room (standing (4 + length part) new) part ps) puts.long ∙ sym (packed-put puts n t part ps) ∙
            ap (λ (bytes : List ℕ). packed n t (length state) (bytes ++ measured part) part ps) map-stands ∙
            sym (stored-packed n t (length state) part ps) ∙ ap (λ (room : ℕ). stored n t room part ps) (sym puts.long);
      }

module _ {n : ℕ} {t slots part : List ℕ} {count room : ℕ} {state : List ℕ} {at v : ℕ} (so_far : Packing n t slots part count room state at v) where
  abbrev whole : Made
  whole = stored n t room part (take count (programs_in slots))

  count-programs : length (take count (programs_in slots)) ≡ count
  count-programs = length-take-le count (programs_in slots) (omega (arith, so_far.few, programs-length slots))

  -- One version is packed.
  module _ (more : v < count) (r : Reply) (new : List ℕ)
      (goes : (ps : Programs) →
      packed n t (length state) (standing at state) part (slot_at slots v ∷ ps) ≡
      onward r (λ next. packed n t (length state) (standing next new) part ps)) where
    abbrev behind : Programs
    behind = drop (v + 1) (take count (programs_in slots))

    next-program : drop v (take count (programs_in slots)) ≡ slot_at slots v ∷ behind
    next-program =
        let e : suc v ≡ v + 1 = omega arith in
        drop-cons (take count (programs_in slots)) v none (omega (arith, more, count-programs)) ∙
        ap₂ (λ (p : Option (List ℕ)) (k : ℕ). p ∷ drop k (take count (programs_in slots)))
        (get_or-take count (programs_in slots) v none more ∙ program-at slots v (omega (arith, more, so_far.few))) e

    goes_on : whole ≡ onward r (λ next. packed n t room (standing next new) part behind)
    goes_on =
        sym so_far.left ∙ ap (packed n t room (standing at state) part) next-program ∙
        ap (λ (room : ℕ). packed n t room (standing at state) part (slot_at slots v ∷ behind)) (sym so_far.long) ∙ goes behind ∙
        ap (λ (room : ℕ). onward r (λ next. packed n t room (standing next new) part behind)) so_far.long

    pub packing-step : length new ≡ length state → Bounded r (4858 + (v + 1) * 4856) → (next : ℕ) → r ≡ Length next →
        Packing n t slots part count room new next (v + 1)
    packing-step long bounded next e =
        record {
          few = so_far.few;
          low = omega (arith, more);
          near = bounded next e;
          long = long ∙ so_far.long;
          left = sym (goes_on ∙ ap (λ (q : Reply). onward q (λ next. packed n t room (standing next new) part behind)) e);
        }

    pub packing-stops : length_of r ≡ none → taken (resulting r new) ≡ whole
    packing-stops refused =
        none-taken r refused new ∙ sym (goes_on ∙ none-onward r refused (λ next. packed n t room (standing next new) part behind))

  -- All versions are packed.
  module _ (all : count ≤ v) where
    ended : within room (standing at state) ≡ whole
    ended =
        sym (packed-end n t room (standing at state) part) ∙
        ap (packed n t room (standing at state) part)
        (sym (drop_of_length-le (take count (programs_in slots)) {i = v} (omega (arith, all, count-programs)))) ∙
        so_far.left

    pub packing-fits : at ≤ length state → taken (resulting (Length at) state) ≡ whole
    packing-fits fits =
        sym (within-fits room (take at state) (omega (arith, fits, length-take-le at state fits, so_far.long))) ∙
        ap (within room) (sym (standing-fits at state fits)) ∙ ended

    pub packing-over : length state < at → taken (resulting NoStoreRoom state) ≡ whole
    packing-over over = sym (within-short room (standing at state) (omega (arith, over-long at state over, so_far.long))) ∙ ended
