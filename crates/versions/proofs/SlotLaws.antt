-- The programs in slots: how to get each by its number, and what putting a record into a slot, or clearing a slot, makes of them.
use mathlib.Core.Path.{◌≡◌, refl, sym, ◌∙◌, ap, ap₂, subst}
use mathlib.Core.Bool.{Bool, cond}
use mathlib.Core.List.{List, [], ◌∷◌, ◌++◌, append_assoc}
use mathlib.Core.Option.{Option, none, some}
use Prim.Native.Nat.{ℕ, zero, suc, ◌+◌, ◌-◌, ◌*◌, ◌^◌, ◌≤◌, ◌<◌}
use native.Mathlib.Decide.{dec_lt, ℕ_discrete}
use native.Mathlib.Nat.{two-pow-succ}
use native.Mathlib.Omega.{arith}
use borrow.Author.Tests.{eq-eqb, ne_eqb}
use lib.Dec.{eqb}
use lib.ListN.{length, take, drop, get_or, set, replicate, length-append, length-drop, length-map, length-set, length-replicate, get_or-replicate, take-append-drop, drop_of_length-le}
use lib.Pow.{pow_mono}
use lib.Seq.{take-nil, take-suc, drop-cons, take-append_seam, drop-append_seam, take-append-le, drop-append-le, drop_at, length-take-le, take-take, drop-drop, get_or-take, get_or-drop, get_or-set_same, get_or-set_other, ext_get_or, take-length, take_at, paste, length-paste}
use Rattle.graphs.specs.Rows.{from}
use Rattle.graphs.specs.Number.{count_some}
use Rattle.graphs.proofs.Lists.{length_from, get_or-from, count_small}
use Rattle.gathering.specs.Gathering.{two_bytes, length_at, first_of}
use Rattle.gathering.proofs.Spans.{two-bytes-read}
use Rattle.versions.specs.State.{Programs, no_programs, map_of, measured}
use Rattle.versions.specs.Slots.{measured_in, slot_at, programs_in, Slotted, Parted, Absent}
use Rattle.versions.specs.Promise.{EndsAt, NoneFrom, Puts}

-- Each program by its number.

module _ (slots : List ℕ) where
  pub programs-length : length (programs_in slots) ≡ 16
  unfolding programs_in
  programs-length = length-map (from 0 16) (slot_at slots) ∙ length_from 0 16

  pub program-at : (v : ℕ) → v < 16 → get_or (programs_in slots) v none ≡ slot_at slots v
  unfolding programs_in
  program-at v h =
      let e : 0 + v ≡ v = omega arith in
      get_or-from (slot_at slots) none 16 0 v h ∙ ap (slot_at slots) e

  pub take-program : (v : ℕ) → v < 16 → take (suc v) (programs_in slots) ≡ take v (programs_in slots) ++ slot_at slots v ∷ []
  take-program v h =
      take-suc (programs_in slots) v none (omega (arith, h, programs-length)) ∙
      ap (λ (p : Option (List ℕ)). take v (programs_in slots) ++ p ∷ []) (program-at v h)

-- A record behind its length.

module _ (bytes : List ℕ) where
  pub measured-none : length_at bytes ≡ 0 → measured_in bytes ≡ none
  measured-none e = ap (λ (b : Bool). cond b none (some (take (length_at bytes) (drop 2 bytes)))) (eq-eqb (length_at bytes) 0 e)

  pub measured-some : (length_at bytes ≡ 0 → ⊥) → measured_in bytes ≡ some (take (length_at bytes) (drop 2 bytes))
  measured-some h = ap (λ (b : Bool). cond b none (some (take (length_at bytes) (drop 2 bytes)))) (ne_eqb (length_at bytes) 0 h)

module _ (slots : List ℕ) (v : ℕ) where
  pub slot-none : length_at (drop (v * 4856) slots) ≡ 0 → slot_at slots v ≡ none
  slot-none e = measured-none (drop (v * 4856) slots) e

  -- the record of a slot
  abbrev pub record_at : List ℕ
  record_at = take (length_at (drop (v * 4856) slots)) (drop (v * 4856 + 2) slots)

  pub slot-some : (length_at (drop (v * 4856) slots) ≡ 0 → ⊥) → slot_at slots v ≡ some record_at
  slot-some h =
      measured-some (drop (v * 4856) slots) h ∙
      ap (λ (bytes : List ℕ). some (take (length_at (drop (v * 4856) slots)) bytes)) (drop-drop 2 (v * 4856) slots)

  pub record-length : Slotted slots → v < 16 → length record_at ≡ length_at (drop (v * 4856) slots)
  record-length slotted h =
      length-take-le (length_at (drop (v * 4856) slots)) (drop (v * 4856 + 2) slots)
      (omega (arith, slotted.short v h, slotted.long, length-drop (v * 4856 + 2) slots))

pub length-two-bytes : (x : ℕ) → length (two_bytes x) ≡ 2
unfolding two_bytes
length-two-bytes x = refl

pub length-at-two-bytes : (x : ℕ) (rest : List ℕ) → x < 65536 → length_at (two_bytes x ++ rest) ≡ x
unfolding two_bytes
length-at-two-bytes x rest h = two-bytes-read x h

pub length-measured : (p : List ℕ) → length (measured p) ≡ 2 + length p
unfolding measured
length-measured p = length-append (two_bytes (length p)) p ∙ ap (λ (k : ℕ). k + length p) (length-two-bytes (length p))

-- A record behind its length is read back.
module _ (p rest : List ℕ) (short : length p ≤ 4854) where
  pub length-at-measured : length_at (measured p ++ rest) ≡ length p
  unfolding measured
  length-at-measured =
      ap length_at (append_assoc (two_bytes (length p)) p rest) ∙ length-at-two-bytes (length p) (p ++ rest) (omega (arith, short))

  behind : drop 2 (measured p ++ rest) ≡ p ++ rest
  unfolding measured two_bytes
  behind = refl

  pub measured-read : 1 ≤ length p → measured_in (measured p ++ rest) ≡ some p
  measured-read h =
      measured-some (measured p ++ rest) (λ e. omega (arith, h, e, length-at-measured)) ∙
      ap₂ (λ (l : ℕ) (bytes : List ℕ). some (take l bytes)) length-at-measured behind ∙ ap some (take-append_seam p rest)

-- The place behind a record.

module _ (bytes : List ℕ) (at : ℕ) where
  pub length-at-small : get_or bytes at 0 < 256 → get_or bytes (at + 1) 0 < 256 → length_at (drop at bytes) < 65536
  length-at-small low high =
      let same : at + 0 ≡ at = omega arith in
      omega (arith, low, high, get_or-drop at bytes 0 0 ∙ ap (λ (k : ℕ). get_or bytes k 0) same, get_or-drop at bytes 1 0)

  module _ {l : ℕ} (is : l ≡ length_at (drop at bytes)) (inside : at ≤ length bytes) where
    pub ends-early : length bytes - at < 2 + l → EndsAt bytes at 0
    ends-early h = record { early = λ e. omega (arith, h, is, inside); whole = λ d. absurd (d refl) }

    pub ends-whole : 2 + l ≤ length bytes - at → EndsAt bytes at (at + 2 + l)
    ends-whole h = record { early = λ e. absurd (omega (arith, e)); whole = λ d. (omega (arith, is), omega (arith, h, inside)) }

-- A record is among the first bytes that it takes.

behind-two : (l : ℕ) (xs : List ℕ) → take l (drop 2 xs) ≡ drop 2 (take (suc (suc l)) xs)
behind-two l [] = take-nil l
behind-two l (x ∷ []) = take-nil l
behind-two l (x ∷ y ∷ xs) = refl

module _ (a b : List ℕ) (w : ℕ) (same : take w a ≡ take w b) where
  byte-same : (i : ℕ) → i < w → get_or a i 0 ≡ get_or b i 0
  byte-same i h = sym (get_or-take w a i 0 h) ∙ ap (λ (l : List ℕ). get_or l i 0) same ∙ get_or-take w b i 0 h

  length-at-same : 2 ≤ w → length_at a ≡ length_at b
  length-at-same h = ap₂ (λ (x y : ℕ). x + 256 * y) (byte-same 0 (omega arith)) (byte-same 1 (omega arith))

  measured-same : 2 + length_at b ≤ w → measured_in a ≡ measured_in b
  measured-same h =
      let l : ℕ = length_at b in
      let first : (xs : List ℕ) → take (suc (suc l)) xs ≡ take (suc (suc l)) (take w xs) = λ xs. sym (take-take (suc (suc l)) w xs (omega arith)) in
      let bytes : take l (drop 2 a) ≡ take l (drop 2 b) =
      behind-two l a ∙ ap (drop 2) (first a ∙ ap (take (suc (suc l))) same ∙ sym (first b)) ∙ sym (behind-two l b) in
      ap (λ (k : ℕ). first_of k (drop 2 a)) (length-at-same (omega arith)) ∙ ap (λ (x : List ℕ). cond (eqb l 0) none (some x)) bytes

-- Bytes are replaced from a place on.

module _ (at : ℕ) (xs old new : List ℕ) (fits : at + length xs ≤ length old) (is : new ≡ take at old ++ (xs ++ drop (at + length xs) old)) where
  front : length (take at old) ≡ at
  front = length-take-le at old (omega arith)

  pub replaced-long : length new ≡ length old
  replaced-long =
      omega (
        arith,
        fits,
        front,
        ap length is,
        length-append (take at old) (xs ++ drop (at + length xs) old),
        length-append xs (drop (at + length xs) old),
        length-drop (at + length xs) old,
      )

  pub replaced-at : drop at new ≡ xs ++ drop (at + length xs) old
  replaced-at = ap (drop at) is ∙ drop_at (take at old) (xs ++ drop (at + length xs) old) at front

  replaced-behind : (k : ℕ) → at + length xs ≤ k → drop k new ≡ drop k old
  replaced-behind k h =
      let all : at + length xs + (k - (at + length xs)) ≡ k = omega arith in
      let past : drop (at + length xs) new ≡ drop (at + length xs) old =
      sym (drop-drop (length xs) at new) ∙ ap (drop (length xs)) replaced-at ∙ drop-append_seam xs (drop (at + length xs) old) in
      ap (λ (i : ℕ). drop i new) (sym all) ∙ sym (drop-drop (k - (at + length xs)) (at + length xs) new) ∙
      ap (drop (k - (at + length xs))) past ∙ drop-drop (k - (at + length xs)) (at + length xs) old ∙ ap (λ (i : ℕ). drop i old) all

  replaced-before : (k w : ℕ) → k + w ≤ at → take w (drop k new) ≡ take w (drop k old)
  replaced-before k w h =
      ap (λ (l : List ℕ). take w (drop k l)) is ∙ first (xs ++ drop (at + length xs) old) ∙
      sym (ap (λ (l : List ℕ). take w (drop k l)) (sym (take-append-drop at old)) ∙ first (drop at old))
    where
      first : (rest : List ℕ) → take w (drop k (take at old ++ rest)) ≡ take w (drop k (take at old))
      first rest =
          ap (take w) (drop-append-le k (take at old) rest (omega (arith, h, front))) ∙
          take-append-le w (drop k (take at old)) rest (omega (arith, h, front, length-drop k (take at old)))

-- The bytes of a slot, or of its first bytes, are replaced.

module _ {old : List ℕ} (slotted : Slotted old) (v : ℕ) (inside : v < 16) (xs new : List ℕ) (room : length xs ≤ 4856)
    (is : new ≡ take (v * 4856) old ++ (xs ++ drop (v * 4856 + length xs) old)) where
  abbrev behind_slot : List ℕ
  behind_slot = drop (v * 4856 + length xs) old

  slot-fits : v * 4856 + length xs ≤ length old
  slot-fits = omega (arith, inside, room, slotted.long)

  slot-before : (i : ℕ) → i < v → take 4856 (drop (i * 4856) new) ≡ take 4856 (drop (i * 4856) old)
  slot-before i h = replaced-before (v * 4856) xs old new slot-fits is (i * 4856) 4856 (omega (arith, h))

  slot-behind : (i : ℕ) → v < i → drop (i * 4856) new ≡ drop (i * 4856) old
  slot-behind i h = replaced-behind (v * 4856) xs old new slot-fits is (i * 4856) (omega (arith, h, room))

  slot_same : drop (v * 4856) new ≡ xs ++ behind_slot
  slot_same = replaced-at (v * 4856) xs old new slot-fits is

  module _ (i : ℕ) (low : i < 16) (other : i ≡ v → ⊥) where
    other_length : length_at (drop (i * 4856) new) ≡ length_at (drop (i * 4856) old)
    other_length = go (dec_lt i v)
      where
        go : Dec (i < v) → length_at (drop (i * 4856) new) ≡ length_at (drop (i * 4856) old)
        go (yes h) =
            length-at-same (drop (i * 4856) new) (drop (i * 4856) old) 4856 (slot-before i h) (omega arith)
        go (no h) = ap length_at (slot-behind i (omega (arith, h, other)))

    other-slot : slot_at new i ≡ slot_at old i
    other-slot = go (dec_lt i v)
      where
        go : Dec (i < v) → slot_at new i ≡ slot_at old i
        go (yes h) =
            measured-same (drop (i * 4856) new) (drop (i * 4856) old) 4856 (slot-before i h)
            (omega (arith, slotted.short i low))
        go (no h) = ap measured_in (slot-behind i (omega (arith, h, other)))

  slots-slotted : length_at (xs ++ behind_slot) ≤ 4854 → Slotted new
  slots-slotted short =
      record {
        long = replaced-long (v * 4856) xs old new slot-fits is ∙ slotted.long;
        short = λ i low. go i low (ℕ_discrete i v);
      }
    where
      go : (i : ℕ) → i < 16 → Dec (i ≡ v) → length_at (drop (i * 4856) new) ≤ 4854
      go i low (yes e) = omega (arith, short, ap length_at (ap (λ (k : ℕ). drop (k * 4856) new) e ∙ slot_same))
      go i low (no other) = omega (arith, slotted.short i low, other_length i low other)

  slots-programs : programs_in new ≡ set (programs_in old) v (measured_in (xs ++ behind_slot))
  slots-programs =
      ext_get_or none (programs_in new) (set (programs_in old) v (measured_in (xs ++ behind_slot)))
      (programs-length new ∙ sym (length-set (programs_in old) v (measured_in (xs ++ behind_slot)) ∙ programs-length old))
      (λ i low. go i (omega (arith, low, programs-length new)) (ℕ_discrete i v))
    where
      go : (i : ℕ) → i < 16 → Dec (i ≡ v) → get_or (programs_in new) i none ≡ get_or (set (programs_in old) v (measured_in (xs ++ behind_slot))) i none
      go i low (yes e) =
          ap (λ (k : ℕ). get_or (programs_in new) k none) e ∙ program-at new v inside ∙ ap measured_in slot_same ∙
          sym (ap (λ (k : ℕ). get_or (set (programs_in old) v (measured_in (xs ++ behind_slot))) k none) e ∙
          get_or-set_same (programs_in old) v (measured_in (xs ++ behind_slot)) none (omega (arith, inside, programs-length old)))
      go i low (no other) =
          program-at new i low ∙ other-slot i low other ∙
          sym (get_or-set_other (programs_in old) v i (measured_in (xs ++ behind_slot)) none other ∙ program-at old i low)

  -- the slots behind stay empty
  slots-absent : (k : ℕ) → v < k → length_at (xs ++ behind_slot) ≤ 4854 → Absent old k → Absent new k
  slots-absent k h short absent =
      record {
        slotted = slots-slotted short;
        empty = λ i from low. other_length i low (λ e. omega (arith, e, h, from)) ∙ absent.empty i from low;
      }

-- Bytes are put behind their length.

pub puts_none : (p : List ℕ) (at : ℕ) (old : List ℕ) → length old < at + 2 + length p → Puts p at old old
puts_none p at old h = record { long = refl; put = λ fits. absurd (omega (arith, h, fits)); kept = λ h. refl }

module _ (p : List ℕ) (at : ℕ) (old mid new : List ℕ) (fits : at + 2 + length p ≤ length old)
    (first : mid ≡ take at old ++ (two_bytes (length p) ++ drop (at + 2) old)) (second : new ≡ paste mid (at + 2) p (length p)) where
  put_front : length (take at old ++ two_bytes (length p)) ≡ at + 2
  put_front =
      omega (arith, length-append (take at old) (two_bytes (length p)), length-take-le at old (omega (arith, fits)), length-two-bytes (length p))

  put-mid : mid ≡ take at old ++ two_bytes (length p) ++ drop (at + 2) old
  put-mid = first ∙ sym (append_assoc (take at old) (two_bytes (length p)) (drop (at + 2) old))

  pub put-mid-long : length mid ≡ length old
  put-mid-long =
      omega (arith, fits, ap length put-mid, put_front, length-append (take at old ++ two_bytes (length p)) (drop (at + 2) old), length-drop (at + 2) old)

  put_rest : drop (at + 2 + length p) mid ≡ drop (at + 2 + length p) old
  put_rest =
      sym (drop-drop (length p) (at + 2) mid) ∙
      ap (drop (length p))
      (ap (drop (at + 2)) put-mid ∙ drop_at (take at old ++ two_bytes (length p)) (drop (at + 2) old) (at + 2) put_front) ∙
      drop-drop (length p) (at + 2) old

  pub puts-both : Puts p at old new
  unfolding measured
  puts-both =
      record {
        long = ap length second ∙ length-paste mid (at + 2) p (length p) (omega (arith, fits, put-mid-long)) (omega arith) ∙ put-mid-long;
        put = λ h.
            second ∙
            ap (λ (x : List ℕ). x ++ take (length p) p ++ drop (at + 2 + length p) mid)
            (ap (take (at + 2)) put-mid ∙ take_at (take at old ++ two_bytes (length p)) (drop (at + 2) old) (at + 2) put_front) ∙
            ap₂ (λ (x y : List ℕ). take at old ++ two_bytes (length p) ++ x ++ y) (take-length p) put_rest ∙
            append_assoc (take at old ++ two_bytes (length p)) p (drop (at + 2 + length p) old) ∙
            append_assoc (take at old) (two_bytes (length p)) (p ++ drop (at + 2 + length p) old) ∙
            ap (λ (x : List ℕ). take at old ++ x) (sym (append_assoc (two_bytes (length p)) p (drop (at + 2 + length p) old)));
        kept = λ h. absurd (omega (arith, h, fits));
      }

-- A record is put into a slot.

module _ (p old new : List ℕ) (at : ℕ) (fits : at + 2 + length p ≤ length old) (puts : Puts p at old new) where
  pub put_is : new ≡ take at old ++ (measured p ++ drop (at + length (measured p)) old)
  put_is =
      let e : at + 2 + length p ≡ at + length (measured p) = omega (arith, length-measured p) in
      puts.put fits ∙ ap (λ (k : ℕ). take at old ++ (measured p ++ drop k old)) e

module _ {p old new : List ℕ} {v : ℕ} (slotted : Slotted old) (inside : v < 16) (short : length p ≤ 4854) (puts : Puts p (v * 4856) old new) where
  put-slot-is : new ≡ take (v * 4856) old ++ (measured p ++ drop (v * 4856 + length (measured p)) old)
  put-slot-is = put_is p old new (v * 4856) (omega (arith, inside, short, slotted.long)) puts

  put-room : length (measured p) ≤ 4856
  put-room = omega (arith, short, length-measured p)

  put-short : length_at (measured p ++ drop (v * 4856 + length (measured p)) old) ≤ 4854
  put-short = omega (arith, short, length-at-measured p (drop (v * 4856 + length (measured p)) old) short)

  pub put-slot : 1 ≤ length p → Slotted new × (programs_in new ≡ set (programs_in old) v (some p))
  put-slot some_bytes = (
    slots-slotted slotted v inside (measured p) new put-room put-slot-is put-short,
    slots-programs slotted v inside (measured p) new put-room put-slot-is ∙
        ap (set (programs_in old) v) (measured-read p (drop (v * 4856 + length (measured p)) old) short some_bytes),
  )

  pub put-absent : Absent old v → Absent new (suc v)
  put-absent absent =
      slots-absent slotted v inside (measured p) new put-room put-slot-is (suc v) (omega arith) put-short
      (record { slotted = slotted; empty = λ i from low. absent.empty i (omega arith) low })

-- A slot is cleared.

module _ {old new : List ℕ} {v : ℕ} (slotted : Slotted old) (inside : v < 16)
    (is : new ≡ take (v * 4856) old ++ (two_bytes 0 ++ drop (v * 4856 + 2) old)) where
  cleared-is : new ≡ take (v * 4856) old ++ (two_bytes 0 ++ drop (v * 4856 + length (two_bytes 0)) old)
  cleared-is =
      is ∙ ap (λ (k : ℕ). take (v * 4856) old ++ (two_bytes 0 ++ drop (v * 4856 + k) old)) (sym (length-two-bytes 0))

  cleared-none : length_at (two_bytes 0 ++ drop (v * 4856 + length (two_bytes 0)) old) ≡ 0
  cleared-none = length-at-two-bytes 0 (drop (v * 4856 + length (two_bytes 0)) old) (omega arith)

  pub clear-slot : Slotted new × (programs_in new ≡ set (programs_in old) v none)
  clear-slot =
      let room : length (two_bytes 0) ≤ 4856 = omega (arith, length-two-bytes 0) in (
        slots-slotted slotted v inside (two_bytes 0) new room cleared-is (omega (arith, cleared-none)),
        slots-programs slotted v inside (two_bytes 0) new room cleared-is ∙
            ap (set (programs_in old) v) (measured-none (two_bytes 0 ++ drop (v * 4856 + length (two_bytes 0)) old) cleared-none),
      )

-- No version exists.

pub empty-programs : {slots : List ℕ} → Absent slots 0 → programs_in slots ≡ no_programs
empty-programs {slots} absent =
    ext_get_or none (programs_in slots) no_programs
    (programs-length slots ∙ sym (length-replicate {A = Option (List ℕ)} 16 none))
    (λ i low.
    let inside : i < 16 = omega (arith, low, programs-length slots) in
    program-at slots i inside ∙ slot-none slots i (absent.empty i (omega arith) inside) ∙ sym (get_or-replicate {A = Option (List ℕ)} 16 i none none inside))

pub absent-zeros : (xs : List ℕ) → length xs ≡ 77696 → ((k : ℕ) → get_or xs k 0 ≡ 0) → Absent xs 0
absent-zeros xs long zeros =
    let none-at : (v : ℕ) → length_at (drop (v * 4856) xs) ≡ 0 =
    λ v. ap₂ (λ (x y : ℕ). x + 256 * y) (get_or-drop (v * 4856) xs 0 0 ∙ zeros (v * 4856 + 0)) (get_or-drop (v * 4856) xs 1 0 ∙ zeros (v * 4856 + 1)) in
    record {
      slotted = record { long = long; short = λ v inside. omega (arith, none-at v) };
      empty = λ v from inside. none-at v;
    }

zero-at : (n k : ℕ) → get_or {A = ℕ} (replicate n 0) k 0 ≡ 0
zero-at zero k = refl
zero-at (suc n) zero = refl
zero-at (suc n) (suc k) = zero-at n k

pub absent-replicate : Absent (replicate 77696 0) 0
absent-replicate = absent-zeros (replicate 77696 0) (length-replicate {A = ℕ} 77696 0) (zero-at 77696)

-- The room of one slot.

module _ {p old new : List ℕ} (parted : Parted old) (short : length p ≤ 4854) (puts : Puts p 0 old new) where
  part-is : new ≡ measured p ++ drop (0 + length (measured p)) old
  part-is = put_is p old new 0 (omega (arith, short, parted.long)) puts

  pub part_length : length_at new ≡ length p
  part_length = ap length_at part-is ∙ length-at-measured p (drop (0 + length (measured p)) old) short

  pub part-parted : Parted new
  part-parted = record { long = puts.long ∙ parted.long; short = omega (arith, short, part_length) }

  pub part-measured : 1 ≤ length p → measured_in new ≡ some p
  part-measured h = ap measured_in part-is ∙ measured-read p (drop (0 + length (measured p)) old) short h

module _ {old new : List ℕ} (parted : Parted old) (is : new ≡ take 0 old ++ (two_bytes 0 ++ drop (0 + 2) old)) where
  part_none : length_at new ≡ 0
  part_none = ap length_at is ∙ length-at-two-bytes 0 (drop (0 + 2) old) (omega arith)

  pub part-cleared : Parted new × (measured_in new ≡ none)
  part-cleared = (
    record {
      long = ap length is ∙ length-append (two_bytes 0) (drop (0 + 2) old) ∙
          omega (arith, parted.long, length-two-bytes 0, length-drop (0 + 2) old);
      short = omega (arith, part_none);
    },
    measured-none new part_none,
  )

-- The search for a version that exists: the versions from `version` on and before v do not exist.
pub record Seeking (slots : List ℕ) (version v : ℕ) : Type 0 where
  pub slotted : Slotted slots
  pub low : version ≤ v
  pub high : v ≤ 16
  pub nothing : NoneFrom version v (programs_in slots)

pub seeking-start : (slots : List ℕ) (version : ℕ) → Slotted slots → version ≤ 16 → Seeking slots version version
seeking-start slots version slotted h =
    record { slotted = slotted; low = omega arith; high = h; nothing = λ i low high. absurd (omega (arith, low, high)) }

pub seeking-next : {slots : List ℕ} {version v : ℕ} → Seeking slots version v → v < 16 → length_at (drop (v * 4856) slots) ≡ 0 →
    Seeking slots version (v + 1)
seeking-next {slots} {version} {v} seeking h e =
    record {
      slotted = seeking.slotted;
      low = omega (arith, seeking.low);
      high = omega arith;
      nothing = λ i low high. go i low high (ℕ_discrete i v);
    }
  where
    go : (i : ℕ) → version ≤ i → i < v + 1 → Dec (i ≡ v) → get_or (programs_in slots) i none ≡ none
    go i low high (yes d) = ap (λ (k : ℕ). get_or (programs_in slots) k none) d ∙ program-at slots v h ∙ slot-none slots v e
    go i low high (no d) = seeking.nothing i low (omega (arith, high, d))

-- The map of versions, from the last down.

-- The map has no more bits than there are versions.
pub map_below : (ps : Programs) → map_of ps < 2 ^ length ps
unfolding map_of
map_below [] = omega arith
map_below (p ∷ ps) = omega (arith, count_small p, map_below ps, two-pow-succ (length ps))

pub map-small : (ps : Programs) → length ps ≤ 16 → map_of ps < 65536
map-small ps h = omega (arith, map_below ps, pow_mono h)

pub record MapFrom (slots : List ℕ) (count bits v : ℕ) : Type 0 where
  pub slotted : Slotted slots
  pub short : count ≤ 16
  pub low : v ≤ count
  pub is : bits ≡ map_of (drop v (take count (programs_in slots)))

module _ {slots : List ℕ} {count : ℕ} where
  pub map-start : Slotted slots → count ≤ 16 → MapFrom slots count 0 count
  unfolding map_of
  map-start slotted h =
      record {
        slotted = slotted;
        short = h;
        low = omega arith;
        is = sym (ap map_of (drop_of_length-le (take count (programs_in slots)) {i = count} (omega (arith, taken-length))));
      }
    where
      taken-length : length (take count (programs_in slots)) ≡ count
      taken-length = length-take-le count (programs_in slots) (omega (arith, h, programs-length slots))

  module _ {bits v : ℕ} (map : MapFrom slots count bits v) where
    taken-long : length (take count (programs_in slots)) ≡ count
    taken-long = length-take-le count (programs_in slots) (omega (arith, map.short, programs-length slots))

    pub map-fits : bits < 65536
    map-fits =
        omega (
          arith,
          map.is,
          map.short,
          taken-long,
          length-drop v (take count (programs_in slots)),
          map-small (drop v (take count (programs_in slots))) (omega (arith, map.short, taken-long, length-drop v (take count (programs_in slots)))),
        )

    map-step : 0 < v → (b : ℕ) → count_some (slot_at slots (v - 1)) ≡ b → MapFrom slots count (bits * 2 + b) (v - 1)
    unfolding map_of
    map-step h b e =
        let next : suc (v - 1) ≡ v = omega arith in
        let inside : v - 1 < 16 = omega (arith, map.short, map.low) in
        let one : drop (v - 1) (take count (programs_in slots)) ≡ slot_at slots (v - 1) ∷ drop v (take count (programs_in slots)) =
        drop-cons (take count (programs_in slots)) (v - 1) none (omega (arith, map.low, taken-long)) ∙
        ap₂ (λ (p : Option (List ℕ)) (k : ℕ). p ∷ drop k (take count (programs_in slots)))
        (get_or-take count (programs_in slots) (v - 1) none (omega (arith, map.low)) ∙ program-at slots (v - 1) inside) next in
        record {
          slotted = map.slotted;
          short = map.short;
          low = omega (arith, map.low);
          is = omega (arith, map.is, e, ap map_of one);
        }

    pub map-present : 0 < v → (length_at (drop ((v - 1) * 4856) slots) ≡ 0 → ⊥) → MapFrom slots count (bits * 2 + 1) (v - 1)
    map-present h d = map-step h 1 (ap count_some (slot-some slots (v - 1) d))

    pub map-absent : 0 < v → length_at (drop ((v - 1) * 4856) slots) ≡ 0 → MapFrom slots count (bits * 2) (v - 1)
    map-absent h d =
        let same : bits * 2 + 0 ≡ bits * 2 = omega arith in
        subst (λ (k : ℕ). MapFrom slots count k (v - 1)) same (map-step h 0 (ap count_some (slot-none slots (v - 1) d)))

    pub map-all : v ≡ 0 → (bits ≡ map_of (take count (programs_in slots))) × (bits < 65536)
    map-all e = (map.is ∙ ap (λ (k : ℕ). map_of (drop k (take count (programs_in slots)))) e, map-fits)

-- A slot is empty before anything is put there.
pub part-blank : Parted (replicate 4856 0)
part-blank = record { long = length-replicate {A = ℕ} 4856 0; short = omega (arith, zero-at 4856 0, zero-at 4856 1) }
