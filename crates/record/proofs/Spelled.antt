-- The parser is the inverse of spelling: bytes are parsed to rows exactly where they spell the rows, with some ranges written and some left
-- out. The bytes tell which ranges are written.
use mathlib.Core.Path.{◌≡◌, refl, sym, ◌∙◌, ap, ap₂, subst}
use mathlib.Core.Bool.{Bool, true, false, cond}
use mathlib.Core.List.Memᴰ
use mathlib.Core.List.{List, [], ◌∷◌, ◌++◌, map, append_assoc, append-nil, append_cancel_left, Memᴰ}
use mathlib.Core.Option
use mathlib.Core.Option.{Option, none, some, bind, map-eq-some_iff}
use Prim.Native.Nat.{ℕ, zero, suc, ◌+◌, ◌*◌, ◌/◌, ◌%◌, ◌^◌, ◌≤◌, ◌<◌}
use native.Mathlib.Decide.{ℕ_discrete}
use native.Mathlib.Nat.{add-zero, pow-suc}
use native.Mathlib.Omega.{arith}
use borrow.Author.Tests.{eqb-true, eqb-false, eq-eqb, ne_eqb, leb-true, leb-false}
use lib.Dec.{eqb, leb}
use lib.ListN.{length, length-drop, get_or, drop}
use lib.Pow.{shr-shr}
use lib.Seq.{drop-drop}
use Rattle.graphs.specs.Rows.{Row, from, features, target}
use Rattle.graphs.specs.Number.{count_some}
use Rattle.graphs.proofs.Search.{true-false, cond-some}
use Rattle.graphs.proofs.Walk.{some-injective, none-some}
use Rattle.lattice.specs.Label.{Label, plain, is_full}
use Rattle.decode.specs.Decode.{AreBytes, Taken, changed, take_target, take_links, is_ranged, label_length, label_of, take_row, take_rows, bit_of, whole, decoded}
use Rattle.decode.proofs.Decoded.{byte-below, drop-member, Decoded, decoded-says}
use Rattle.encoder.specs.Encode.{bits_from}
use Rattle.record.specs.Spelled.{spelled_label, spelled_row, spelled_rows, spelled, Statable, Spells}
use Rattle.record.proofs.Labels.{decoded-types}
use Rattle.record.proofs.RoundTrip.{WritesRanges, map_bytes, decode-spelled}

-- Spelled bytes are parsed to their rows.
pub spells-decoded : {bytes : List ℕ} {rows : List (Row Label)} {writes : ℕ → Bool} → Spells bytes rows writes → decoded bytes ≡ some rows
spells-decoded {rows = rows} {writes = writes} s =
    let can = s.statable in
    ap decoded s.bytes-are
    ∙ decode-spelled writes rows can.some-node can.few-links can.types s.ranges (λ r m. (can.ascending r m, can.features r m))

-- The label.

-- bytes that begin with a label's
label-spelled : (rest : List ℕ) → AreBytes rest → label_length rest ≤ length rest →
    rest ≡ spelled_label (is_ranged (get_or rest 0 0)) (label_of rest) ++ drop (label_length rest) rest
unfolding label_length label_of spelled_label
label-spelled [] small long = absurd (omega arith)
label-spelled (x ∷ xs) small long = go (is_ranged x) refl xs long
  where
    label_with : Bool → List ℕ → Label
    label_with b xs = cond b (record { type = x % 128; lowest = get_or xs 0 0; highest = get_or xs 1 0 }) (plain (x % 128))

    go : (b : Bool) → is_ranged x ≡ b → (xs : List ℕ) → cond b 3 1 ≤ suc (length xs) →
        x ∷ xs
        ≡ cond b ((128 + (label_with b xs).type) ∷ (label_with b xs).lowest ∷ (label_with b xs).highest ∷ []) ((label_with b xs).type ∷ [])
        ++ drop (cond b 3 1) (x ∷ xs)
    go true h [] long = absurd (omega arith)
    go true h (y ∷ []) long = absurd (omega arith)
    go true h (y ∷ z ∷ zs) long =
        let low : x < 256 = small x (Memᴰ.head refl) in
        let high : 128 ≤ x = leb-true 128 x h in
        let is : x ≡ 128 + x % 128 = omega arith in
        ap (λ (a : ℕ). a ∷ y ∷ z ∷ zs) is
    go false h xs long =
        let low : x < 128 = leb-false 128 x h in
        let is : x ≡ x % 128 = omega arith in
        ap (λ (a : ℕ). a ∷ xs) is

range-spelled : (rest : List ℕ) → is_full (label_of rest) ≡ false → is_ranged (get_or rest 0 0) ≡ true
unfolding is_full label_of
range-spelled rest e = go (is_ranged (get_or rest 0 0)) e
  where
    go : (b : Bool) →
        is_full (cond b (record { type = get_or rest 0 0 % 128; lowest = get_or rest 1 0; highest = get_or rest 2 0 }) (plain (get_or rest 0 0 % 128))) ≡ false →
        b ≡ true
    go true e = refl
    go false e = true-false refl e

-- The links.

record LinksSpelled (stands : ℕ → Bool) (k n : ℕ) (rest : List ℕ) (t : Taken (List (ℕ × ℕ))) : Type 0 where
  bytes-are : rest ≡ map (λ l. l.1) t.value ++ t.rest
  absent : (f : ℕ) → f < k → target t.value f ≡ none
  stood : (f : ℕ) → k ≤ f → f < k + n → count_some (target t.value f) ≡ cond (stands f) 1 0

links-spelled : (stands : ℕ → Bool) (k n room : ℕ) (rest : List ℕ) (t : Taken (List (ℕ × ℕ))) →
    take_links stands (from k n) room rest ≡ some t → LinksSpelled stands k n rest t
unfolding from take_links target
links-spelled stands k zero room rest t e =
    subst (LinksSpelled stands k 0 rest) (some-injective e)
    (record { bytes-are = refl; absent = λ f l. refl; stood = λ f low high. absurd (omega arith) })
links-spelled stands k (suc n) room rest t e = go (stands k) refl e (links-spelled stands (suc k) n)
  where
    Later : Type 0
    Later = (room : ℕ) (rest : List ℕ) (t : Taken (List (ℕ × ℕ))) → take_links stands (from (suc k) n) room rest ≡ some t →
        LinksSpelled stands (suc k) n rest t

    stood-first : (b : ℕ) (rest : List ℕ) (s : Taken (List (ℕ × ℕ))) → stands k ≡ true → LinksSpelled stands (suc k) n rest s →
        (f : ℕ) → k ≤ f → f < k + suc n → Dec (k ≡ f) → count_some (target ((k, b) ∷ s.value) f) ≡ cond (stands f) 1 0
    stood-first b rest s h later f low high (yes q) =
        ap (λ (t : Bool). count_some (cond t (some b) (target s.value f))) (eq-eqb k f q)
        ∙ ap (λ (t : Bool). cond {A = ℕ} t 1 0) (sym (ap stands (sym q) ∙ h))
    stood-first b rest s h later f low high (no d) =
        ap (λ (t : Bool). count_some (cond t (some b) (target s.value f))) (ne_eqb k f d)
        ∙ later.stood f (omega arith) (omega arith)

    taken : (room : ℕ) (rest : List ℕ) → stands k ≡ true → take_target k (take_links stands (from (suc k) n)) room rest ≡ some t → Later →
        LinksSpelled stands k (suc n) rest t
    taken zero rest h q later = none-some q
    taken (suc room) [] h q later = none-some q
    taken (suc room) (b ∷ rest) h q later =
        let (s, i, same) = (map-eq-some_iff (changed λ ls. (k, b) ∷ ls) (take_links stands (from (suc k) n) room rest)).0 q in
        let spells = later room rest s i in
        subst (LinksSpelled stands k (suc n) (b ∷ rest)) same
        (record {
          bytes-are = ap (λ (l : List ℕ). b ∷ l) spells.bytes-are;
          absent = λ f l.
              ap (λ (t : Bool). cond t (some b) (target s.value f)) (ne_eqb k f (λ (e : k ≡ f). omega arith)) ∙ spells.absent f (omega arith);
          stood = λ f low high. stood-first b rest s h spells f low high (ℕ_discrete k f);
        })

    skipped : stands k ≡ false → LinksSpelled stands (suc k) n rest t → (f : ℕ) → k ≤ f → f < k + suc n → Dec (k ≡ f) →
        count_some (target t.value f) ≡ cond (stands f) 1 0
    skipped h later f low high (yes q) =
        ap (λ (o : Option ℕ). count_some o) (later.absent f (omega arith)) ∙ ap (λ (t : Bool). cond {A = ℕ} t 1 0) (sym (ap stands (sym q) ∙ h))
    skipped h later f low high (no d) = later.stood f (omega arith) (omega arith)

    go : (b : Bool) → stands k ≡ b →
        cond b (take_target k (take_links stands (from (suc k) n)) room rest) (take_links stands (from (suc k) n) room rest) ≡ some t →
        Later → LinksSpelled stands k (suc n) rest t
    go true h q later = taken room rest h q later
    go false h q later =
        let spells = later room rest t q in
        record {
          bytes-are = spells.bytes-are;
          absent = λ f l. spells.absent f (omega arith);
          stood = λ f low high. skipped h spells f low high (ℕ_discrete k f);
        }

-- The map: a byte is the number whose bits say which features stand.

bits_of : (links : List (ℕ × ℕ)) (f k b : ℕ) → b < 2 ^ k → ((i : ℕ) → i < k → count_some (target links (f + i)) ≡ (b / 2 ^ i) % 2) →
    bits_from links f k ≡ b
unfolding bits_from
bits_of links f zero b small digits = omega arith
bits_of links f (suc k) b small digits =
    let first : count_some (target links f) ≡ b / 1 % 2 = ap (λ (n : ℕ). count_some (target links n)) (sym (add-zero f)) ∙ digits 0 (omega arith) in
    let rest : bits_from links (suc f) k ≡ b / 2 =
    bits_of links (suc f) k (b / 2) (omega (arith, pow-suc 2 k))
    (λ i l.
    let q : suc f + i ≡ f + suc i = omega arith in
    let p : suc i ≡ 1 + i = omega arith in
    ap (λ (n : ℕ). count_some (target links n)) q
    ∙ digits (suc i) (omega arith)
    ∙ ap (λ (n : ℕ). b / 2 ^ n % 2) p
    ∙ ap (λ (n : ℕ). n % 2) (sym (shr-shr b 1 i))) in
    omega arith

made-from : (make : ℕ → ℕ) (j n : ℕ) (xs : List ℕ) → n ≤ length xs → ((i : ℕ) → i < n → get_or xs i 0 ≡ make (j + i)) →
    xs ≡ map make (from j n) ++ drop n xs
unfolding from
made-from make j zero xs l is = refl
made-from make j (suc n) [] l is = absurd (omega arith)
made-from make j (suc n) (x ∷ xs) l is =
    ap₂ (λ (a : ℕ) (b : List ℕ). a ∷ b) (is 0 (omega arith) ∙ ap make (add-zero j))
    (made-from make (suc j) n xs (omega arith)
    (λ i h. let q : j + suc i ≡ suc j + i = omega arith in is (suc i) (omega arith) ∙ ap make q))

bit-number : (n : ℕ) → cond {A = ℕ} (eqb (n % 2) 1) 1 0 ≡ n % 2
bit-number n = go (eqb (n % 2) 1) refl
  where
    go : (b : Bool) → eqb (n % 2) 1 ≡ b → cond {A = ℕ} b 1 0 ≡ n % 2
    go true e = omega (arith, eqb-true (n % 2) 1 e)
    go false e = let d = eqb-false (n % 2) 1 e in omega arith

-- the bytes of a map are the numbers of the features that were taken by it
map-spelled : (behind : List ℕ) → AreBytes behind → 8 ≤ length behind → (links : List (ℕ × ℕ)) →
    ((f : ℕ) → f < 64 → count_some (target links f) ≡ cond (bit_of behind f) 1 0) →
    behind ≡ map_bytes links ++ drop 8 behind
unfolding bit_of
map-spelled behind small long links stood =
    made-from (λ k. bits_from links (8 * k) 8) 0 8 behind long
    (λ k l.
    sym
    (bits_of links (8 * (0 + k)) 8 (get_or behind k 0) (byte-below behind small k)
    (λ i h.
    let place : (8 * (0 + k) + i) / 8 ≡ k = omega arith in
    let bit : (8 * (0 + k) + i) % 8 ≡ i = omega arith in
    stood (8 * (0 + k) + i) (omega arith)
    ∙ bit-number (get_or behind ((8 * (0 + k) + i) / 8) 0 / 2 ^ ((8 * (0 + k) + i) % 8))
    ∙ ap₂ (λ (a b : ℕ). get_or behind a 0 / 2 ^ b % 2) place bit)))

-- The row.

RowSpelled : List ℕ → Taken (Row Label) → Type 0
RowSpelled rest t = (writes : Bool) × (rest ≡ spelled_row writes t.value ++ t.rest) × (is_full t.value.0 ≡ false → writes ≡ true)

row-spelled : (room : ℕ) (rest : List ℕ) (t : Taken (Row Label)) → AreBytes rest → take_row room rest ≡ some t → RowSpelled rest t
unfolding take_row spelled_row RowSpelled
row-spelled room rest t small e =
    let n = label_length rest in
    let behind = drop n rest in
    let links = take_links (bit_of behind) features room (drop (n + 8) rest) in
    let (enough, q) = cond-some (leb (n + 8) (length rest)) (Option.map (changed λ ls. (label_of rest, ls)) links) t e in
    let (s, h, same) = (map-eq-some_iff (changed {Y = Row Label} λ ls. (label_of rest, ls)) links).0 q in
    let long : n + 8 ≤ length rest = leb-true (n + 8) (length rest) enough in
    let spells = links-spelled (bit_of behind) 0 64 room (drop (n + 8) rest) s h in
    let Label-is = label-spelled rest small (omega arith) in
    let map_is = map-spelled behind (λ b m. small b (drop-member n rest m)) (omega (arith, length-drop n rest)) s.value
    (λ f l. spells.stood f (omega arith) (omega arith)) in
    subst (RowSpelled rest) same (
      is_ranged (get_or rest 0 0),
      Label-is
          ∙ ap (λ (l : List ℕ). spelled_label (is_ranged (get_or rest 0 0)) (label_of rest) ++ l)
          (map_is ∙ ap (λ (l : List ℕ). map_bytes s.value ++ l) (drop-drop 8 n rest ∙ spells.bytes-are))
          ∙ sym
          (append_assoc (spelled_label (is_ranged (get_or rest 0 0)) (label_of rest) ++ map_bytes s.value) (map (λ l. l.1) s.value) s.rest
          ∙ append_assoc (spelled_label (is_ranged (get_or rest 0 0)) (label_of rest)) (map_bytes s.value) (map (λ l. l.1) s.value ++ s.rest)),
      range-spelled rest,
    )

-- The rows.

-- the first node and the others
abbrev first_writes : Bool → (ℕ → Bool) → ℕ → Bool
first_writes b writes zero = b
first_writes b writes (suc v) = writes v

RowsSpelled : List ℕ → Taken (List (Row Label)) → Type 0
RowsSpelled rest t = (writes : ℕ → Bool) × (rest ≡ spelled_rows writes t.value ++ t.rest) × WritesRanges writes t.value

rows-spelled : (k room : ℕ) (rest : List ℕ) (t : Taken (List (Row Label))) → AreBytes rest → take_rows k room rest ≡ some t → RowsSpelled rest t
unfolding bind take_rows spelled_rows RowSpelled RowsSpelled
rows-spelled zero room rest t small e =
    subst (RowsSpelled rest) (some-injective e) (λ v. false, refl, λ v l. absurd (omega arith))
rows-spelled (suc k) room rest t small e = go (take_row room rest) refl e (rows-spelled k)
  where
    go : (o : Option (Taken (Row Label))) → take_row room rest ≡ o →
        bind o (λ r. Option.map (changed λ rs. r.value ∷ rs) (take_rows k r.room r.rest)) ≡ some t →
        ((room : ℕ) (rest : List ℕ) (t : Taken (List (Row Label))) → AreBytes rest → take_rows k room rest ≡ some t → RowsSpelled rest t) →
        RowsSpelled rest t
    go none h q later = none-some q
    go (some r) h q later =
        let (s, i, same) = (map-eq-some_iff (changed λ rs. r.value ∷ rs) (take_rows k r.room r.rest)).0 q in
        let (b, row_is, range) = row-spelled room rest r small h in
        let left : AreBytes r.rest = λ x m. small x (subst (λ (l : List ℕ). Memᴰ x l) (sym row_is) (Memᴰ.append_right (spelled_row b r.value) m)) in
        let (writes, rows_are, ranges) = later r.room r.rest s left i in
        subst (RowsSpelled rest) same (
          first_writes b writes,
          row_is
              ∙ ap (λ (l : List ℕ). spelled_row b r.value ++ l) rows_are
              ∙ sym (append_assoc (spelled_row b r.value) (spelled_rows writes s.value) s.rest),
          each b r.value s.value range writes ranges,
        )
      where
        each : (b : Bool) (r : Row Label) (rs : List (Row Label)) → (is_full r.0 ≡ false → b ≡ true) → (writes : ℕ → Bool) → WritesRanges writes rs →
            WritesRanges (first_writes b writes) (r ∷ rs)
        each b r rs range writes ranges zero l e = range e
        each b r rs range writes ranges (suc v) l e = ranges v (omega arith) e

-- The record: what is parsed spells its rows.
pub decoded-spells : (bytes : List ℕ) → AreBytes bytes → (rows : List (Row Label)) → decoded bytes ≡ some rows →
    (writes : ℕ → Bool) × Spells bytes rows writes
unfolding decoded spelled RowsSpelled
decoded-spells [] small rows e = none-some e
decoded-spells (n ∷ rest) small rows e = go (eqb n 0) (take_rows n 2048 rest) refl e
  where
    says : Decoded (n ∷ rest) rows
    says = decoded-says (n ∷ rest) rows e

    can : Statable rows
    can =
        record {
          some-node = says.nonempty;
          few-links = says.few-links;
          types = decoded-types (n ∷ rest) rows e;
          ascending = λ r m. (says.ordered r m).0;
          features = λ r m. (says.ordered r m).1;
        }

    go : (b : Bool) (o : Option (Taken (List (Row Label)))) → take_rows n 2048 rest ≡ o → cond b none (whole o) ≡ some rows →
        (writes : ℕ → Bool) × Spells (n ∷ rest) rows writes
    go true o h q = none-some q
    go false none h q = none-some q
    go false (some t) h q =
        let (none_left, is) = cond-some (eqb (length t.rest) 0) (some t.value) rows q in
        let (writes, rest-is, ranges) = rows-spelled n 2048 rest t (λ b m. small b (Memᴰ.tail m)) h in
        let value-is : t.value ≡ rows = some-injective is in
        let end : t.rest ≡ [] = length_none t.rest (eqb-true (length t.rest) 0 none_left) in (
          writes,
          record {
            statable = can;
            bytes-are =
                ap₂ (λ (a : ℕ) (l : List ℕ). a ∷ l) (sym says.count)
                (rest-is
                ∙ ap₂ (λ (rs : List (Row Label)) (l : List ℕ). spelled_rows writes rs ++ l) value-is end
                ∙ append-nil (spelled_rows writes rows));
            ranges = subst (WritesRanges writes) value-is ranges;
          },
        )
      where
        length_none : (l : List ℕ) → length l ≡ 0 → l ≡ []
        length_none [] e = refl
        length_none (x ∷ l) e = absurd (omega arith)

-- Bytes tell which ranges they write.

rows-unique : (rows : List (Row Label)) (w w' : ℕ → Bool) → spelled_rows w rows ≡ spelled_rows w' rows → (v : ℕ) → v < length rows → w v ≡ w' v
unfolding spelled_rows spelled_row spelled_label
rows-unique [] w w' e v l = absurd (omega arith)
rows-unique (r ∷ rs) w w' e v l = go (w 0) (w' 0) refl refl e v l (rows-unique rs (λ v. w (suc v)) (λ v. w' (suc v)))
  where
    Later : Type 0
    Later = spelled_rows (λ v. w (suc v)) rs ≡ spelled_rows (λ v. w' (suc v)) rs → (v : ℕ) → v < length rs → w (suc v) ≡ w' (suc v)

    each : w 0 ≡ w' 0 → ((v : ℕ) → v < length rs → w (suc v) ≡ w' (suc v)) → (v : ℕ) → v < suc (length rs) → w v ≡ w' v
    each here later zero l = here
    each here later (suc v) l = later v (omega arith)

    go : (a b : Bool) → w 0 ≡ a → w' 0 ≡ b →
        spelled_row a r ++ spelled_rows (λ v. w (suc v)) rs ≡ spelled_row b r ++ spelled_rows (λ v. w' (suc v)) rs → (v : ℕ) → v < suc (length rs) →
        Later → w v ≡ w' v
    go true true p q e v l later =
        each (p ∙ sym q) (later (append_cancel_left (spelled_row true r) (spelled_rows (λ v. w (suc v)) rs) (spelled_rows (λ v. w' (suc v)) rs) e)) v l
    go false false p q e v l later =
        each (p ∙ sym q) (later (append_cancel_left (spelled_row false r) (spelled_rows (λ v. w (suc v)) rs) (spelled_rows (λ v. w' (suc v)) rs) e)) v l
    go true false p q e v l later = absurd (omega (arith, ap (λ (l : List ℕ). get_or l 0 0) e))
    go false true p q e v l later = absurd (omega (arith, ap (λ (l : List ℕ). get_or l 0 0) e))

pub spells-unique : {bytes : List ℕ} {rows rows' : List (Row Label)} {writes writes' : ℕ → Bool} → Spells bytes rows writes → Spells bytes rows' writes' →
    (rows ≡ rows') × ((v : ℕ) → v < length rows → writes v ≡ writes' v)
unfolding spelled
spells-unique {bytes} {rows} {rows'} {writes} {writes'} a b =
    let same : rows ≡ rows' = some-injective (sym (spells-decoded a) ∙ spells-decoded b) in
    let bytes-are : spelled writes rows ≡ spelled writes' rows = sym a.bytes-are ∙ b.bytes-are ∙ ap (spelled writes') (sym same) in
    (same, rows-unique rows writes writes' (ap (drop 1) bytes-are))
