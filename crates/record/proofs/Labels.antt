-- This file is about labels as bytes of a record. Bytes that state a label are read as that label, whatever stands behind them, and the
-- bytes of an encoded label state it. A label that is decoded has a type of seven bits.
use mathlib.Core.Path.{◌≡◌, refl, sym, ◌∙◌, ap, subst}
use mathlib.Core.Bool.{Bool, true, false, cond}
use mathlib.Core.List.Memᴰ
use mathlib.Core.List.{List, [], ◌∷◌, ◌++◌, Memᴰ}
use mathlib.Core.Logic.{⊎_elim}
use mathlib.Core.Option.{Option, none, some, map, bind, map-eq-some_iff}
use Prim.Native.Nat.{ℕ, zero, suc, ◌+◌, ◌%◌, ◌<◌}
use native.Mathlib.Omega.{arith}
use borrow.Author.Tests.{eqb-true, leb-true, le-leb, lt-leb}
use lib.Dec.{eqb, leb}
use lib.ListN.{length, length-append, get_or, drop}
use lib.Seq.{drop_at, drop-append-add}
use Rattle.graphs.specs.Rows.{Row, features}
use Rattle.graphs.proofs.Search.{true-false, both_true, cond-some, same_test}
use Rattle.graphs.proofs.Walk.{some-injective, none-some}
use Rattle.lattice.specs.Label.{Label, plain}
use Rattle.lattice.proofs.Lawful.{label-parts}
use Rattle.decode.specs.Decode.{Taken, changed, take_links, is_ranged, label_length, label_of, take_row, take_rows, bit_of, whole, decoded}
use Rattle.encoder.specs.Encode.{is_full, encoded_label}
use Rattle.record.specs.Spelled.{spelled_label}

-- Bytes that state a label.

pub record States (bytes : List ℕ) (l : Label) : Type 0 where
  pub long : (behind : List ℕ) → label_length (bytes ++ behind) ≡ length bytes
  pub label : (behind : List ℕ) → label_of (bytes ++ behind) ≡ l

-- a type byte alone states the type with the full range
plain-states : (a : ℕ) → a < 128 → States (a ∷ []) (plain a)
unfolding label_length label_of
plain-states a h =
    let alone : is_ranged a ≡ false = lt-leb 128 a h in
    let low : a % 128 ≡ a = omega arith in
    record { long = λ behind. rw alone refl; label = λ behind. rw alone (ap plain low) }

-- a type byte with bit 7 and two levels state the type with that range
ranged-states : (l : Label) → l.type < 128 → States ((128 + l.type) ∷ l.lowest ∷ l.highest ∷ []) l
unfolding label_length label_of
ranged-states l h =
    let follows : is_ranged (128 + l.type) ≡ true = le-leb 128 (128 + l.type) (omega arith) in
    let low : (128 + l.type) % 128 ≡ l.type = omega arith in
    record { long = λ behind. rw follows refl; label = λ behind. rw follows (label-parts low refl refl) }

-- the bytes of a label state it, with its range written or with the full range left out
pub spelled-states : (writes : Bool) (l : Label) → l.type < 128 → (is_full l ≡ false → writes ≡ true) → States (spelled_label writes l) l
unfolding spelled_label is_full
spelled-states true l h range = ranged-states l h
spelled-states false l h range = go (is_full l) refl range
  where
    go : (full : Bool) → is_full l ≡ full → (full ≡ false → false ≡ true) → States (l.type ∷ []) l
    go true e range =
        let (low, high) = both_true (eqb l.lowest 0) (eqb l.highest 255) e in
        subst (States (l.type ∷ []))
        (label-parts refl (sym (eqb-true l.lowest 0 low)) (sym (eqb-true l.highest 255 high))) (plain-states l.type h)
    go false e range = true-false (range refl) refl

-- the bytes of an encoded label state it
pub encoded-states : (l : Label) → l.type < 128 → States (encoded_label l) l
unfolding encoded_label spelled_label
encoded-states l h = go (is_full l) refl (spelled-states true l h (λ _. refl)) (spelled-states false l h)
  where
    go : (full : Bool) → is_full l ≡ full → States ((128 + l.type) ∷ l.lowest ∷ l.highest ∷ []) l →
        ((is_full l ≡ false → false ≡ true) → States (l.type ∷ []) l) →
        States (cond full (l.type ∷ []) ((128 + l.type) ∷ l.lowest ∷ l.highest ∷ [])) l
    go true e ranged alone = alone (λ q. sym q ∙ e)
    go false e ranged alone = ranged

-- The row behind a label's bytes.

abbrev pub row_behind : Label → ℕ → List ℕ → Option (Taken (Row Label))
row_behind l room behind =
    cond (leb 8 (length behind))
    (map (changed λ ls. (l, ls)) (take_links (bit_of behind) features room (drop 8 behind)))
    none

pub row-behind : {bytes : List ℕ} {l : Label} → States bytes l → (room : ℕ) (behind : List ℕ) →
    take_row room (bytes ++ behind) ≡ row_behind l room behind
unfolding take_row
row-behind {bytes} {l} states room behind =
    λ i. cond (enough i) (map (changed λ ls. (states.label behind i, ls)) (take_links (bit_of (map_is i)) features room (rest-is i))) none
  where
    enough : leb (label_length (bytes ++ behind) + 8) (length (bytes ++ behind)) ≡ leb 8 (length behind)
    enough =
        let both = length-append bytes behind in
        let long = states.long behind in
        same_test (leb (label_length (bytes ++ behind) + 8) (length (bytes ++ behind))) (leb 8 (length behind))
        (λ e. le-leb 8 (length behind) (omega (arith, leb-true (label_length (bytes ++ behind) + 8) (length (bytes ++ behind)) e)))
        (λ e. le-leb (label_length (bytes ++ behind) + 8) (length (bytes ++ behind)) (omega (arith, leb-true 8 (length behind) e)))

    map_is : drop (label_length (bytes ++ behind)) (bytes ++ behind) ≡ behind
    map_is = drop_at bytes behind (label_length (bytes ++ behind)) (sym (states.long behind))

    rest-is : drop (label_length (bytes ++ behind) + 8) (bytes ++ behind) ≡ drop 8 behind
    rest-is = ap (λ (k : ℕ). drop (k + 8) (bytes ++ behind)) (states.long behind) ∙ drop-append-add bytes behind 8

-- Types that are decoded have seven bits.

label-type : (rest : List ℕ) → (label_of rest).type < 128
unfolding label_of
label-type rest = go (is_ranged (get_or rest 0 0))
  where
    go : (b : Bool) →
        (cond b (record { type = get_or rest 0 0 % 128; lowest = get_or rest 1 0; highest = get_or rest 2 0 }) (plain (get_or rest 0 0 % 128))).type < 128
    go true = omega arith
    go false = omega arith

row_type : (room : ℕ) (rest : List ℕ) (t : Taken (Row Label)) → take_row room rest ≡ some t → t.value.0.type < 128
unfolding take_row
row_type room rest t e =
    let n = label_length rest in
    let links = take_links (bit_of (drop n rest)) features room (drop (n + 8) rest) in
    let (_, q) = cond-some (leb (n + 8) (length rest)) (map (changed λ ls. (label_of rest, ls)) links) t e in
    let (s, _, same) = (map-eq-some_iff (changed {Y = Row Label} λ ls. (label_of rest, ls)) links).0 q in
    subst (λ (u : Taken (Row Label)). u.value.0.type < 128) same (label-type rest)

-- "Bits 0 to 6 of the type byte are the type"
abbrev pub SevenBits : List (Row Label) → Type 0
SevenBits rows = (r : Row Label) → Memᴰ r rows → r.0.type < 128

rows-types : (k room : ℕ) (rest : List ℕ) (t : Taken (List (Row Label))) → take_rows k room rest ≡ some t → SevenBits t.value
unfolding bind take_rows
rows-types zero room rest t e =
    subst (λ (u : Taken (List (Row Label))). SevenBits u.value) (some-injective e) (λ r m. absurd (Memᴰ.not-nil m))
rows-types (suc k) room rest t e = go (take_row room rest) refl e (rows-types k)
  where
    go : (o : Option (Taken (Row Label))) → take_row room rest ≡ o →
        bind o (λ r. map (changed λ rs. r.value ∷ rs) (take_rows k r.room r.rest)) ≡ some t →
        ((room : ℕ) (rest : List ℕ) (t : Taken (List (Row Label))) → take_rows k room rest ≡ some t → SevenBits t.value) →
        SevenBits t.value
    go none h q later = none-some q
    go (some u) h q later =
        let (s, i, same) = (map-eq-some_iff (changed λ rs. u.value ∷ rs) (take_rows k u.room u.rest)).0 q in
        subst (λ (v : Taken (List (Row Label))). SevenBits v.value) same
        (λ r m.
        ⊎_elim (λ (d : r ≡ u.value). subst (λ (x : Row Label). x.0.type < 128) (sym d) (row_type room rest u h))
        (later u.room u.rest s i r) (Memᴰ.cases_cons m))

pub decoded-types : (bytes : List ℕ) (rows : List (Row Label)) → decoded bytes ≡ some rows → SevenBits rows
unfolding decoded
decoded-types [] rows e = none-some e
decoded-types (n ∷ rest) rows e = go (eqb n 0) (take_rows n 2048 rest) refl e
  where
    go : (b : Bool) (o : Option (Taken (List (Row Label)))) → take_rows n 2048 rest ≡ o → cond b none (whole o) ≡ some rows → SevenBits rows
    go true o h q = none-some q
    go false none h q = none-some q
    go false (some t) h q =
        subst SevenBits (some-injective (cond-some (eqb (length t.rest) 0) (some t.value) rows q).1) (rows-types n 2048 rest t h)
