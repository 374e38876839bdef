-- From what the parts of a call answer to what put, drop and read make of a buffer.
use mathlib.Core.Path.{◌≡◌, refl, sym, ◌∙◌, ap, ap₂, subst}
use mathlib.Core.Bool.{Bool, true, false, cond, ◌&&◌}
use mathlib.Core.List.{List, [], ◌∷◌, ◌++◌}
use mathlib.Core.Option.{Option, none, some, bind}
use Prim.Native.Nat.{ℕ, zero, suc, ◌+◌, ◌-◌, ◌*◌, ◌≤◌, ◌<◌}
use native.Mathlib.Nat.{zero-add}
use native.Mathlib.Omega.{arith}
use borrow.Author.Tests.{le-leb, lt-leb, lt-ltb, le-ltb}
use lib.ListN.{length, take, drop, get_or, set, get_or-eq_default, length-drop}
use lib.Seq.{paste, take-length, set_split, take-set-le, get_or-set_same, get_or-drop}
use Rattle.std.specs.Prelude.{Ok, Err}
use Rattle.encode.specs.declared.Unwritten.TheVariants as unwritten
use Rattle.encode.specs.Encode.{yielding, fitted}
use Rattle.record.specs.declared.GraphFault.TheVariants.{Malformed}
use Rattle.record.specs.Read.{Reading, refused, accepted, reading}
use Rattle.replies.specs.declared.Side.TheVariants.{First}
use Rattle.replies.specs.Replies.{Reply}
use Rattle.replies.specs.Replies.{Length, Graph, NoRoom, WrongVersion}
use Rattle.replies.specs.Reply.{Result, resulting, result_of, length_of, Bounded}
use Rattle.gathering.specs.Gathering.{length_at}
use Rattle.gathering.proofs.Told.{none-some}
use Rattle.versions.specs.State.{Made, made, stopped, and_then, taken_by, taken, Programs, empty_state, way_from, way, unpacked, held}
use Rattle.versions.specs.Slots.{measured_in, programs_in, Slotted}
use Rattle.versions.specs.Promise.{onward_by, onward, NoneFrom, Puts}
use Rattle.versions.proofs.Lengths.{none-bounded, none-taken}
use Rattle.versions.proofs.SlotLaws.{programs-length, program-at, slot-none, slot-some, record_at, record-length, put-slot}
use Rattle.contents.specs.Contents.{on_held, on_program, is_none, on_absent, on_present, given, put_among, drop_among}
use Rattle.way.specs.Promise.{Led, Steps, Opens}
use Rattle.contents.specs.Promise.{Among, Programmed}

-- a program goes on as its record does
on-program : (o : Reading) (next : List ℕ → Made) → on_program o next ≡ and_then (on_program o made) next
on-program (refused fault) next = refl
on-program (accepted rows) next = refl

-- versions that are absent change nothing of a way
none_ahead : (n : ℕ) (t : List ℕ) (room : ℕ) (done : Programs) (part : Option (List ℕ)) (state : List ℕ) (ahead : Programs) →
    ((i : ℕ) → i < length ahead → get_or ahead i none ≡ none) → way_from n t room done part state ahead ≡ made state
unfolding way_from
none_ahead n t room done part state [] h = refl
none_ahead n t room done part state (none ∷ ahead) h = none_ahead n t room (done ++ none ∷ []) part state ahead (λ i low. h (suc i) (omega arith))
none_ahead n t room done part state (some p ∷ ahead) h = none-some (sym (h 0 (omega arith)))

onward-taken : (r : Reply) (state : List ℕ) → onward r (λ l. made (take l state)) ≡ taken (resulting r state)
onward-taken r state = go (length_of r)
  where
    go : (o : Option ℕ) → onward_by o r (λ l. made (take l state)) ≡ taken_by o (resulting r state)
    go none = refl
    go (some l) = refl

onward-same : (r : Reply) {f g : ℕ → Made} → ((l : ℕ) → f l ≡ g l) → onward r f ≡ onward r g
onward-same r {f} {g} same = go (length_of r)
  where
    go : (o : Option ℕ) → onward_by o r f ≡ onward_by o r g
    go none = refl
    go (some l) = same l

-- a buffer that holds programs has the two bytes of the map
held-wide : (n : ℕ) (t buffer : List ℕ) (ps : Programs) → held n t buffer ≡ some ps → 2 ≤ length buffer
unfolding held unpacked bind
held-wide n t [] ps e = none-some e
held-wide n t (low ∷ []) ps e = none-some e
held-wide n t (low ∷ high ∷ rest) ps e = omega arith

-- a slot in which a record is
there : (slots : List ℕ) (version : ℕ) (qs : Programs) (p : List ℕ) → version < 16 → length qs ≡ 16 → programs_in slots ≡ set qs version (some p) →
    1 ≤ length_at (drop (version * 4856) slots)
there slots version qs p low sixteen is = go (length_at (drop (version * 4856) slots)) refl
  where
    go : (l : ℕ) → length_at (drop (version * 4856) slots) ≡ l → 1 ≤ length_at (drop (version * 4856) slots)
    go zero e =
        none-some (sym (program-at slots version low ∙ slot-none slots version e)
        ∙ ap (λ (ps : Programs). get_or ps version none) is ∙ get_or-set_same qs version (some p) none (omega (arith, low, sixteen)))
    go (suc l) e = omega (arith, e)

pub put-there : {p old new : List ℕ} {v : ℕ} → Slotted old → v < 16 → length p ≤ 4854 → Puts p (v * 4856) old new → 1 ≤ length p →
    1 ≤ length_at (drop (v * 4856) new)
put-there {p} {old} {new} {v} slotted low short puts some_bytes =
    there new v (programs_in old) p low (programs-length old) (put-slot slotted low short puts some_bytes).1

-- what is 4 of the first graph
pub not-held : {n : ℕ} {t buffer slots part state : List ℕ} {answer : Bool} → Opens n t buffer answer slots part state → answer ≡ false →
    (next : Programs → Made) (old : List ℕ) → length old ≡ length buffer → Among (on_held (held n t buffer) next) old (Graph Malformed First) state
not-held opens e next old long = record {
  long = opens.long ∙ sym long;
  inside = none-bounded (Graph Malformed First) refl (length old);
  makes = sym (ap (λ (o : Option Programs). on_held o next) (opens.fails e));
}

-- A buffer that holds programs.
module _ {n : ℕ} {t buffer slots part state : List ℕ} {answer : Bool} (opens : Opens n t buffer answer slots part state) (yes-held : answer ≡ true)
    (old : List ℕ) (long : length old ≡ length buffer) where
  abbrev ps : Programs
  ps = programs_in slots

  is_held : held n t buffer ≡ some ps
  is_held = (opens.holds yes-held).0

  pub wide : 2 ≤ length state
  wide = omega (arith, opens.long, held-wide n t buffer ps is_held)

  pub among : (next : Programs → Made) (r : Reply) (new : List ℕ) → length new ≡ length old → Bounded r (length old) → taken (resulting r new) ≡ next ps →
      Among (on_held (held n t buffer) next) old r new
  among next r new same inside e = record { long = same; inside = inside; makes = e ∙ sym (ap (λ (o : Option Programs). on_held o next) is_held) }

  stops : (next : Programs → Made) (r : Reply) → length_of r ≡ none → next ps ≡ stopped r → Among (on_held (held n t buffer) next) old r state
  stops next r e q =
      among next r state (opens.long ∙ sym long) (none-bounded r e (length old)) (none-taken r e state ∙ sym q)

  -- Versions.
  module _ (version : ℕ) where
    above : 16 ≤ version → get_or ps version none ≡ none
    above h = get_or-eq_default ps none {n = version} (omega (arith, h, programs-length slots))

    absent : version < 16 → length_at (drop (version * 4856) slots) ≡ 0 → get_or ps version none ≡ none
    absent h e = program-at slots version h ∙ slot-none slots version e

    present : version < 16 → (length_at (drop (version * 4856) slots) ≡ 0 → ⊥) → get_or ps version none ≡ some (record_at slots version)
    present h e = program-at slots version h ∙ slot-some slots version e

    -- 20 of drop
    pub drop-wrong : get_or ps version none ≡ none → Among (on_held (held n t buffer) (drop_among n t (length buffer) version)) old WrongVersion state
    drop-wrong e = stops (drop_among n t (length buffer) version) WrongVersion refl (ap (λ (o : Option (List ℕ)). on_present o (λ p. way n t (length buffer) (set ps version none))) e)

    pub drop-above : 16 ≤ version → Among (on_held (held n t buffer) (drop_among n t (length buffer) version)) old WrongVersion state
    drop-above h = drop-wrong (above h)

    pub drop-absent : version < 16 → length_at (drop (version * 4856) slots) ≡ 0 → Among (on_held (held n t buffer) (drop_among n t (length buffer) version)) old WrongVersion state
    drop-absent h e = drop-wrong (absent h e)

    -- the way of the others
    pub drop-goes : version < 16 → (length_at (drop (version * 4856) slots) ≡ 0 → ⊥) → (after : List ℕ) {new : List ℕ} (r : Reply) → programs_in after ≡ set ps version none →
        length new ≡ length state → Bounded r (length state) → taken (resulting r new) ≡ way n t (length state) (programs_in after) →
        Among (on_held (held n t buffer) (drop_among n t (length buffer) version)) old r new
    drop-goes h e after {new} r is same inside goes =
        among (drop_among n t (length buffer) version) r new (same ∙ opens.long ∙ sym long)
        (subst (Bounded r) (opens.long ∙ sym long) inside)
        (goes ∙ ap₂ (way n t) opens.long is
        ∙ sym (ap (λ (o : Option (List ℕ)). on_present o (λ p. way n t (length buffer) (set ps version none))) (present h e)))

    -- The program of a put.
    module _ (bytes : List ℕ) {reply : Reply} {out : List ℕ} (programmed : Programmed n bytes reply out) where
      abbrev put : Programs → Made
      put = put_among n t (length buffer) version bytes

      abbrev behind : List ℕ → Made
      behind p = on_absent ps version (way n t (length buffer) (set ps version (some p)))

      put-by : put ps ≡ and_then (taken (resulting reply out)) behind
      put-by = on-program (reading n bytes) behind ∙ ap (λ (m : Made). and_then m behind) (sym programmed.writes)

      pub put_refused : length_of reply ≡ none → Among (on_held (held n t buffer) put) old reply state
      put_refused e = stops put reply e (put-by ∙ ap (λ (m : Made). and_then m behind) (none-taken reply e out))

      module _ (l : ℕ) (told : reply ≡ Length l) where
        abbrev p : List ℕ
        p = take l out

        put_is : put ps ≡ behind p
        put_is = put-by ∙ ap (λ (r : Reply). and_then (taken (resulting r out)) behind) told

        pub put-above : 16 ≤ version → Among (on_held (held n t buffer) put) old WrongVersion state
        put-above h =
            stops put WrongVersion refl
            (put_is ∙ ap (λ (b : Bool). cond (b && is_none (get_or ps version none)) (way n t (length buffer) (set ps version (some p))) (stopped WrongVersion)) (le-ltb version 16 h))

        module _ (low : version < 16) where
          free : (b : Bool) → is_none (get_or ps version none) ≡ b → put ps ≡ cond b (way n t (length buffer) (set ps version (some p))) (stopped WrongVersion)
          free b e =
              put_is
              ∙ ap₂ (λ (a c : Bool). cond (a && c) (way n t (length buffer) (set ps version (some p))) (stopped WrongVersion)) (lt-ltb version 16 low) e

          pub put-present : (length_at (drop (version * 4856) slots) ≡ 0 → ⊥) → Among (on_held (held n t buffer) put) old WrongVersion state
          put-present e = stops put WrongVersion refl (free false (ap is_none (present low e)))

          module _ (e : length_at (drop (version * 4856) slots) ≡ 0) (after : List ℕ) (is : programs_in after ≡ set ps version (some p)) where
            put-way : put ps ≡ way n t (length buffer) (set ps version (some p))
            put-way = free true (ap is_none (absent low e))

            pub put-goes : {new : List ℕ} (r : Reply) → length new ≡ length state → Bounded r (length state) →
                taken (resulting r new) ≡ way n t (length state) (programs_in after) → Among (on_held (held n t buffer) put) old r new
            put-goes {new} r same inside goes =
                among put r new (same ∙ opens.long ∙ sym long) (subst (Bounded r) (opens.long ∙ sym long) inside)
                (goes ∙ ap₂ (way n t) opens.long is ∙ sym put-way)

            -- a put that comes last in version order: one step more
            module _ (last : NoneFrom version 16 ps) {part₂ new : List ℕ} {r : Reply} (steps : Steps n t (programs_in after) version part state r part₂ new) where
              abbrev used : ℕ
              used = (opens.holds yes-held).1.0

              led : Led n t (length buffer) ps 16 part (take used state)
              led = (opens.holds yes-held).1.1

              rest-none : (i : ℕ) → i < length (drop (suc version) ps) → get_or (drop (suc version) ps) i none ≡ none
              rest-none i h =
                  get_or-drop (suc version) ps i none
                  ∙ last (suc version + i) (omega arith) (omega (arith, h, length-drop (suc version) ps, programs-length slots))

              up_to : take version (programs_in after) ≡ take version ps
              up_to = ap (take version) is ∙ take-set-le version ps version (some p) (omega arith)

              here : get_or (programs_in after) version none ≡ some p
              here = ap (λ (qs : Programs). get_or qs version none) is ∙ get_or-set_same ps version (some p) none (omega (arith, low, programs-length slots))

              pub put-steps : Among (on_held (held n t buffer) put) old r new
              unfolding way
              put-steps =
                  among put r new (steps.long ∙ opens.long ∙ sym long) (subst (Bounded r) (opens.long ∙ sym long) steps.inside)
                  (sym (onward-taken r new)
                  ∙ sym (onward-same r (λ l. none_ahead n t (length state) (take (suc version) (programs_in after)) (measured_in part₂) (take l new) (drop (suc version) ps) rest-none))
                  ∙ sym (steps.goes (take used state) (drop (suc version) ps))
                  ∙ ap₂ (λ (qs : Programs) (o : Option (List ℕ)). way_from n t (length state) qs (measured_in part) (take used state) (o ∷ drop (suc version) ps)) up_to here
                  ∙ ap (λ (room : ℕ). way_from n t room (take version ps) (measured_in part) (take used state) (some p ∷ drop (suc version) ps)) opens.long
                  ∙ sym (led.leads version (omega (arith, low)) last (some p ∷ drop (suc version) ps))
                  ∙ ap (way_from n t (length buffer) [] none empty_state) (sym (set_split ps version (some p) (omega (arith, low, programs-length slots))))
                  ∙ sym put-way)

  -- Reading a version.
  module _ (version : ℕ) (out : List ℕ) where
    abbrev back : Option (List ℕ) → Result
    back o = given out (on_present o made)

    read_by : (o : Option (List ℕ)) → get_or ps version none ≡ o → back o ≡ given out (on_held (held n t buffer) (λ qs. on_present (get_or qs version none) made))
    read_by o e = ap back (sym e) ∙ sym (ap (λ (q : Option Programs). given out (on_held q (λ qs. on_present (get_or qs version none) made))) is_held)

    pub read_above : 16 ≤ version → resulting WrongVersion out ≡ given out (on_held (held n t buffer) (λ qs. on_present (get_or qs version none) made))
    read_above h = read_by none (above version h)

    module _ (low : version < 16) where
      pub read-absent : length_at (drop (version * 4856) slots) ≡ 0 → resulting WrongVersion out ≡ given out (on_held (held n t buffer) (λ qs. on_present (get_or qs version none) made))
      read-absent e = read_by none (absent version low e)

      module _ (e : length_at (drop (version * 4856) slots) ≡ 0 → ⊥) where
        abbrev found : List ℕ
        found = record_at slots version

        found-length : length found ≡ length_at (drop (version * 4856) slots)
        found-length = record-length slots version opens.slotted low

        pub read_short : length out < length_at (drop (version * 4856) slots) →
            resulting NoRoom out ≡ given out (on_held (held n t buffer) (λ qs. on_present (get_or qs version none) made))
        unfolding fitted
        read_short h =
            sym (ap (λ (b : Bool). result_of (cond b (yielding (Ok (length found)) (found ++ drop (length found) out)) (yielding (Err unwritten.NoRoom) out)))
            (lt-leb (length found) (length out) (omega (arith, h, found-length))))
            ∙ read_by (some found) (present version low e)

        pub read_fits : length_at (drop (version * 4856) slots) ≤ length out → {new : List ℕ} → new ≡ paste out 0 found (length found) →
            resulting (Length (length_at (drop (version * 4856) slots))) new ≡ given out (on_held (held n t buffer) (λ qs. on_present (get_or qs version none) made))
        unfolding fitted
        read_fits h is =
            ap₂ (λ (k : ℕ) (bytes : List ℕ). resulting (Length k) bytes) (sym found-length)
            (is ∙ ap₂ (λ (s : List ℕ) (k : ℕ). s ++ drop k out) (take-length found) (zero-add (length found)))
            ∙ sym (ap (λ (b : Bool). result_of (cond b (yielding (Ok (length found)) (found ++ drop (length found) out)) (yielding (Err unwritten.NoRoom) out)))
            (le-leb (length found) (length out) (omega (arith, h, found-length))))
            ∙ read_by (some found) (present version low e)

        -- as it is copied from the slots
        pub read-copied : (k : ℕ) → k ≡ length_at (drop (version * 4856) slots) → k ≤ length out → {new : List ℕ} →
            new ≡ paste out 0 (take (version * 4856 + 2 + k - (version * 4856 + 2)) (drop (version * 4856 + 2) slots)) (length (take (version * 4856 + 2 + k - (version * 4856 + 2)) (drop (version * 4856 + 2) slots))) →
            resulting (Length k) new ≡ given out (on_held (held n t buffer) (λ qs. on_present (get_or qs version none) made))
        read-copied k is h {new} copied =
            let same : version * 4856 + 2 + k - (version * 4856 + 2) ≡ length_at (drop (version * 4856) slots) = omega (arith, is) in
            ap (λ (j : ℕ). resulting (Length j) new) is
            ∙ read_fits (omega (arith, is, h)) (copied ∙ ap (λ (j : ℕ). paste out 0 (take j (drop (version * 4856 + 2) slots)) (length (take j (drop (version * 4856 + 2) slots)))) same)

-- 4 of the first graph, for read
pub read-not-held : {n : ℕ} {t buffer slots part state : List ℕ} {answer : Bool} → Opens n t buffer answer slots part state → answer ≡ false → (version : ℕ) (out : List ℕ) →
    resulting (Graph Malformed First) out ≡ given out (on_held (held n t buffer) (λ qs. on_present (get_or qs version none) made))
read-not-held opens e version out = sym (ap (λ (q : Option Programs). given out (on_held q (λ qs. on_present (get_or qs version none) made))) (opens.fails e))
