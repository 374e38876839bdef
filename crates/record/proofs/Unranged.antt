-- This file is about records without ranges: such a record is read as over types alone, the rows that are read have no ranges, and rows
-- without ranges are written as such a record.
use mathlib.Core.Path.{◌≡◌, refl, sym, ◌∙◌, ap, subst}
use mathlib.Core.Bool.{Bool, true, false, cond, not}
use mathlib.Core.List.{List, [], ◌∷◌, ◌++◌, map, Memᴰ}
use mathlib.Core.Option
use mathlib.Core.Option.{Option, none, some, bind}
use Prim.Native.Nat.{ℕ, zero, suc, ◌+◌, ◌-◌, ◌%◌, ◌≤◌, ◌<◌}
use native.Mathlib.Omega.{arith}
use borrow.Author.Tests.{leb-false, lt-leb, not-true}
use lib.Dec.{eqb, leb}
use lib.ListN.{length, get_or, drop}
use Rattle.graphs.specs.Rows.{Row, features}
use Rattle.graphs.specs.Large.{links_in}
use Rattle.graphs.proofs.Search.{both_true, true-both, cond-some}
use Rattle.graphs.proofs.Walk.{some-injective, none-some}
use Rattle.lattice.specs.Label.{Label, plain}
use Rattle.lattice.proofs.Relabel.{relabel_row}
use Rattle.decode.specs.Decode.{Taken, changed, is_ranged, label_length, label_of, take_links, take_row, take_rows, bit_of, whole, decoded}
use Rattle.decode.proofs.Decoded.{Proper}
use Rattle.encoder.specs.Encode.{is_full, encoded_label, encoded_row, encoded_rows, encoded}
use Rattle.record.specs.declared.GraphFault.TheVariants.{OutOfRange, Cyclic, Unreached}
use Rattle.record.specs.Read.{refused, accepted, judged, in_range, cyclic, reaches_all, reading}
use Rattle.record.specs.Unranged.{onward, rows_unranged, unranged, take_typed_row, take_typed_rows, plain_rows, decoded_types, reading_types}
use Rattle.record.proofs.Labels.{SevenBits}
use Rattle.record.proofs.RoundTrip.{took, row-taken}

-- Reading.

-- a row whose type byte is without bit 7
row_typed : (room : ℕ) (rest : List ℕ) → is_ranged (get_or rest 0 0) ≡ false →
    take_row room rest ≡ Option.map (changed (relabel_row plain)) (take_typed_row room rest)
unfolding take_row take_typed_row label_length label_of
row_typed room rest alone =
    rw alone (go (leb 9 (length rest)) (take_links (bit_of (drop 1 rest)) features room (drop 9 rest)))
  where
    go : (enough : Bool) (o : Option (Taken (List (ℕ × ℕ)))) →
        cond enough (Option.map (changed λ ls. (plain (get_or rest 0 0 % 128), ls)) o) none ≡
        Option.map (changed (relabel_row plain)) (cond enough (Option.map (changed λ ls. (get_or rest 0 0, ls)) o) none)
    go false o = refl
    go true none = refl
    go true (some t) =
        let small : get_or rest 0 0 < 128 = leb-false 128 (get_or rest 0 0) alone in
        let same : get_or rest 0 0 % 128 ≡ get_or rest 0 0 = omega arith in
        ap (λ (a : ℕ). some (record { value = (plain a, t.value); room = t.room; rest = t.rest })) same

rows-typed : (k room : ℕ) (rest : List ℕ) → rows_unranged k room rest ≡ true →
    take_rows k room rest ≡ Option.map (changed plain_rows) (take_typed_rows k room rest)
unfolding bind take_rows take_typed_rows rows_unranged
rows-typed zero room rest h = refl
rows-typed (suc k) room rest h =
    let (alone, later) = both_true (not (is_ranged (get_or rest 0 0))) (onward next (take_row room rest)) h in
    let e = row_typed room rest (not-true (is_ranged (get_or rest 0 0)) alone) in
    ap (λ (o : Option (Taken (Row Label))). bind o λ r. Option.map (changed λ rs. r.value ∷ rs) (take_rows k r.room r.rest)) e ∙
    go (take_typed_row room rest) (ap (onward next) (sym e) ∙ later) (rows-typed k)
  where
    next : Taken (Row Label) → Bool
    next r = rows_unranged k r.room r.rest

    more : (r : Row ℕ) (o : Option (Taken (List (Row ℕ)))) →
        Option.map (changed λ rs. relabel_row plain r ∷ rs) (Option.map (changed plain_rows) o) ≡
        Option.map (changed plain_rows) (Option.map (changed λ rs. r ∷ rs) o)
    more r none = refl
    more r (some t) = refl

    go : (o : Option (Taken (Row ℕ))) → onward next (Option.map (changed (relabel_row plain)) o) ≡ true →
        ((room : ℕ) (rest : List ℕ) → rows_unranged k room rest ≡ true →
        take_rows k room rest ≡ Option.map (changed plain_rows) (take_typed_rows k room rest)) →
        bind (Option.map (changed (relabel_row plain)) o) (λ r. Option.map (changed λ rs. r.value ∷ rs) (take_rows k r.room r.rest)) ≡
        Option.map (changed plain_rows) (bind o λ r. Option.map (changed λ rs. r.value ∷ rs) (take_typed_rows k r.room r.rest))
    go none later typed = refl
    go (some t) later typed =
        ap (Option.map (changed λ rs. relabel_row plain t.value ∷ rs)) (typed t.room t.rest later) ∙
        more t.value (take_typed_rows k t.room t.rest)

decoded-unranged : (bytes : List ℕ) → unranged bytes ≡ true → decoded bytes ≡ decoded_types bytes
unfolding decoded decoded_types unranged
decoded-unranged [] h = refl
decoded-unranged (n ∷ rest) h =
    ap (λ (o : Option (Taken (List (Row Label)))). cond (eqb n 0) none (whole o)) (rows-typed n 2048 rest h)

-- a record without ranges is read as over types alone
pub reading-unranged : (n : ℕ) (bytes : List ℕ) → unranged bytes ≡ true → reading n bytes ≡ reading_types n bytes
unfolding reading reading_types
reading-unranged n bytes h = ap (judged n) (decoded-unranged bytes h)

-- Rows that are read over types alone.

-- what is accepted was decoded
judged-accepted : (n : ℕ) (o : Option (List (Row Label))) (rows : List (Row Label)) → judged n o ≡ accepted rows → o ≡ some rows
judged-accepted n none rows e = let z : ◌≡◌ {A = ℕ} 0 1 = cc in absurd (omega arith)
judged-accepted n (some found) rows e = go (in_range n found) (cyclic found) (reaches_all found) e
  where
    go : (x y z : Bool) →
        cond x (cond y (refused Cyclic) (cond z (accepted found) (refused Unreached))) (refused OutOfRange) ≡ accepted rows →
        some found ≡ some rows
    go true false true e = cc
    go true false false e = let z : ◌≡◌ {A = ℕ} 0 1 = cc in absurd (omega arith)
    go true true z e = let z : ◌≡◌ {A = ℕ} 0 1 = cc in absurd (omega arith)
    go false y z e = let z : ◌≡◌ {A = ℕ} 0 1 = cc in absurd (omega arith)

-- rows of types, with the full range added and taken away again, are the same
types-of-plain : (rows : List (Row ℕ)) → map (λ r. (r.0.type, r.1)) (plain_rows rows) ≡ rows
types-of-plain [] = refl
types-of-plain (r ∷ rows) = ap (λ (rs : List (Row ℕ)). r ∷ rs) (types-of-plain rows)

-- rows without ranges are those of their types
abbrev Plain : List (Row Label) → Type 0
Plain rows = rows ≡ plain_rows (map (λ r. (r.0.type, r.1)) rows)

decoded-plain : (bytes : List ℕ) (rows : List (Row Label)) → decoded_types bytes ≡ some rows → Plain rows
unfolding decoded_types
decoded-plain [] rows e = none-some e
decoded-plain (n ∷ rest) rows e = go (eqb n 0) (take_typed_rows n 2048 rest) e
  where
    go : (b : Bool) (o : Option (Taken (List (Row ℕ)))) → cond b none (whole (Option.map (changed plain_rows) o)) ≡ some rows → Plain rows
    go true o q = none-some q
    go false none q = none-some q
    go false (some t) q =
        subst Plain (some-injective (cond-some (eqb (length t.rest) 0) (some (plain_rows t.value)) rows q).1)
        (ap plain_rows (sym (types-of-plain t.value)))

pub reading-plain : (n : ℕ) (bytes : List ℕ) (rows : List (Row Label)) → reading_types n bytes ≡ accepted rows →
    rows ≡ plain_rows (map (λ r. (r.0.type, r.1)) rows)
unfolding reading_types
reading-plain n bytes rows e = decoded-plain bytes rows (judged-accepted n (decoded_types bytes) rows e)

-- Writing.

rows-unranged : (rows : List (Row ℕ)) (room total : ℕ) → SevenBits (plain_rows rows) →
    ((r : Row Label) → Memᴰ r (plain_rows rows) → Proper r) → total ≡ links_in (plain_rows rows) + room →
    rows_unranged (length (plain_rows rows)) total (encoded_rows (plain_rows rows)) ≡ true
unfolding rows_unranged encoded_rows encoded_row encoded_label is_full links_in
rows-unranged [] room total typed proper e = refl
rows-unranged (r ∷ rows) room total typed proper e =
    let rest : List ℕ = encoded_rows (plain_rows rows) in
    let left : ℕ = links_in (plain_rows rows) + room in
    let links : total ≡ length r.1 + left = omega arith in
    let taken : take_row total (encoded_row (relabel_row plain r) ++ rest) ≡ took (relabel_row plain r) left rest =
    ap (λ (m : ℕ). take_row m (encoded_row (relabel_row plain r) ++ rest)) links ∙
    row-taken (relabel_row plain r) left rest (typed (relabel_row plain r) (Memᴰ.head refl)) (proper (relabel_row plain r) (Memᴰ.head refl)) in
    true-both (not (is_ranged r.0)) (onward next (take_row total (encoded_row (relabel_row plain r) ++ rest)))
    (ap not (lt-leb 128 r.0 (typed (relabel_row plain r) (Memᴰ.head refl))))
    (ap (onward next) taken ∙ rows-unranged rows room left (λ x m. typed x (Memᴰ.tail m)) (λ x m. proper x (Memᴰ.tail m)) refl)
  where
    next : Taken (Row Label) → Bool
    next t = rows_unranged (length (plain_rows rows)) t.room t.rest

-- rows without ranges are written as a record without ranges
pub written-unranged : (rows : List (Row ℕ)) → links_in (plain_rows rows) ≤ 2048 → SevenBits (plain_rows rows) →
    ((r : Row Label) → Memᴰ r (plain_rows rows) → Proper r) → unranged (encoded (plain_rows rows)) ≡ true
unfolding unranged encoded
written-unranged rows few typed proper = rows-unranged rows (2048 - links_in (plain_rows rows)) 2048 typed proper (omega arith)
