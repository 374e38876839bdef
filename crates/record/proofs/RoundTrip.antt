-- The record of rows, encoded or spelled out with more ranges, is decoded to these rows. There must be at least one row and at most 2,048
-- links, and in each row a type of seven bits and features below 64 that ascend.
use mathlib.Core.Path.{◌≡◌, refl, sym, ◌∙◌, ap, ap₂, subst}
use mathlib.Core.Bool.{Bool, true, false, cond, not}
use mathlib.Core.List.Memᴰ
use mathlib.Core.List.{List, [], ◌∷◌, ◌++◌, map, append_assoc, append-nil, Memᴰ}
use mathlib.Core.Logic.{⊎_elim}
use mathlib.Core.Option
use mathlib.Core.Option.{Option, none, some, bind}
use Prim.Native.Nat.{ℕ, zero, suc, ◌+◌, ◌*◌, ◌-◌, ◌/◌, ◌%◌, ◌^◌, ◌≤◌, ◌<◌}
use native.Mathlib.Decide.{ℕ_discrete}
use native.Mathlib.Nat.{add-zero, zero-add}
use native.Mathlib.Omega.{arith}
use borrow.Author.Tests.{ne_eqb, le-leb}
use lib.Dec.{eqb}
use lib.ListN.{length, get_or, get_or-append}
use lib.Pow.{shr-shr}
use Rattle.graphs.specs.Graph.{Graph, Reached, TellsApart}
use Rattle.graphs.specs.Rows.{Row, from, target}
use Rattle.graphs.specs.Number.{count_some, canonical, written}
use Rattle.graphs.specs.Large.{Ascending, links_in}
use Rattle.graphs.proofs.Lists.{get_or-from, count_small}
use Rattle.graphs.proofs.Form.Rules.{form-labels}
use Rattle.lattice.specs.Label.{Label, is_full, graph_of_rows}
use Rattle.decode.specs.Decode.{Taken, changed, take_target, take_links, take_row, take_rows, bit_of, whole, decoded}
use Rattle.decode.proofs.Decoded.{Proper}
use Rattle.encoder.specs.Encode.{bits_from, encoded_label, encoded_row, encoded_rows, encoded}
use Rattle.encoder.proofs.FeatureMap.{Within, target-absent, target_first, target-later}
use Rattle.record.specs.Spelled.{spelled_label, spelled_row, spelled_rows, spelled}
use Rattle.record.proofs.Labels.{SevenBits, States, encoded-states, spelled-states, row-behind}

-- the bit at i of the number that says which features stand
bits_at : (links : List (ℕ × ℕ)) (f k i : ℕ) → i < k → (bits_from links f k / 2 ^ i) % 2 ≡ count_some (target links (f + i))
unfolding bits_from
bits_at links f zero i h = absurd (omega arith)
bits_at links f (suc k) zero h =
    let small : count_some (target links f) ≤ 1 = count_small (target links f) in
    let e : (count_some (target links f) + 2 * bits_from links (suc f) k) / 1 % 2 ≡ count_some (target links f) = omega arith in
    e ∙ ap (λ (n : ℕ). count_some (target links n)) (sym (add-zero f))
bits_at links f (suc k) (suc i) h =
    let small : count_some (target links f) ≤ 1 = count_small (target links f) in
    let all : ℕ = count_some (target links f) + 2 * bits_from links (suc f) k in
    let half : all / 2 ≡ bits_from links (suc f) k = omega arith in
    let p : suc i ≡ 1 + i = omega arith in
    let q : suc f + i ≡ f + suc i = omega arith in
    ap (λ (n : ℕ). all / 2 ^ n % 2) p
    ∙ ap (λ (n : ℕ). n % 2) (sym (shr-shr all 1 i) ∙ ap (λ (n : ℕ). n / 2 ^ i) half)
    ∙ bits_at links (suc f) k i (omega arith)
    ∙ ap (λ (n : ℕ). count_some (target links n)) q

-- whether a feature stands
abbrev stood : List (ℕ × ℕ) → ℕ → Bool
stood links f = eqb (count_some (target links f)) 1

-- the eight bytes of a row's map
abbrev pub map_bytes : List (ℕ × ℕ) → List ℕ
map_bytes links = map (λ k. bits_from links (8 * k) 8) (from 0 8)

length-map_bytes : (links : List (ℕ × ℕ)) → length (map_bytes links) ≡ 8
unfolding from
length-map_bytes links = refl

bit-stood : (links : List (ℕ × ℕ)) (rest : List ℕ) (f : ℕ) → f < 64 → bit_of (map_bytes links ++ rest) f ≡ stood links f
unfolding bit_of
bit-stood links rest f h =
    let low : f / 8 < 8 = omega arith in
    let place : 8 * (f / 8) + f % 8 ≡ f = omega arith in
    let byte : get_or (map_bytes links ++ rest) (f / 8) 0 ≡ bits_from links (8 * (f / 8)) 8 =
    get_or-append (map_bytes links) rest 0 (f / 8) (omega (arith, length-map_bytes links))
    ∙ get_or-from (λ k. bits_from links (8 * k) 8) 0 8 0 (f / 8) low
    ∙ ap (λ (n : ℕ). bits_from links (8 * n) 8) (zero-add (f / 8)) in
    ap (λ (n : ℕ). eqb n 1)
    (ap (λ (n : ℕ). n / 2 ^ (f % 8) % 2) byte
    ∙ bits_at links (8 * (f / 8)) 8 (f % 8) (omega arith)
    ∙ ap (λ (n : ℕ). count_some (target links n)) place)

-- The links are taken again.

abbrev pub took : {X : Type 0} → X → ℕ → List ℕ → Option (Taken X)
took x room rest = some (record { value = x; room = room; rest = rest })

module _ (stands : ℕ → Bool) (room : ℕ) (rest : List ℕ) where
  abbrev Agree : ℕ → ℕ → List (ℕ × ℕ) → Type 0
  Agree f k links = (g : ℕ) → f ≤ g → g < f + k → stands g ≡ stood links g

  links-taken : (links : List (ℕ × ℕ)) (f k total : ℕ) → Ascending links → Within f k links → Agree f k links →
      total ≡ length links + room → take_links stands (from f k) total (map (λ l. l.1) links ++ rest) ≡ took links room rest
  unfolding take_links from target
  links-taken [] f zero total up inside agree e =
      let q : total ≡ room = omega arith in
      ap (λ (n : ℕ). took {X = List (ℕ × ℕ)} [] n rest) q
  links-taken (l ∷ ls) f zero total up inside agree e = absurd (omega (arith, inside l (Memᴰ.head refl)))
  links-taken [] f (suc k) total up inside agree e =
      ap (λ (t : Bool). cond t (take_target f (take_links stands (from (suc f) k)) total rest) (take_links stands (from (suc f) k) total rest))
      (agree f (omega arith) (omega arith))
      ∙ links-taken [] (suc f) k total tt (λ l m. absurd (Memᴰ.not-nil m)) (λ g low high. agree g (omega arith) (omega arith)) e
  links-taken (l ∷ ls) f (suc k) total up inside agree e =
      go (ℕ_discrete l.0 f) (links-taken ls (suc f) k (length ls + room) up.1)
      (λ w a. links-taken (l ∷ ls) (suc f) k total up w a e)
    where
      After : List (ℕ × ℕ) → ℕ → Type 0
      After ms n = take_links stands (from (suc f) k) n (map (λ l. l.1) ms ++ rest) ≡ took ms room rest

      go : Dec (l.0 ≡ f) →
          (Within (suc f) k ls → Agree (suc f) k ls → length ls + room ≡ length ls + room → After ls (length ls + room)) →
          (Within (suc f) k (l ∷ ls) → Agree (suc f) k (l ∷ ls) → After (l ∷ ls) total) →
          cond (stands f) (take_target f (take_links stands (from (suc f) k)) total (l.1 ∷ (map (λ l. l.1) ls ++ rest)))
          (take_links stands (from (suc f) k) total (l.1 ∷ (map (λ l. l.1) ls ++ rest)))
          ≡ took (l ∷ ls) room rest
      go (yes q) later whole =
          let n : total ≡ suc (length ls + room) = omega arith in
          ap₂
          (λ (t : Bool) (m : ℕ).
          cond t (take_target f (take_links stands (from (suc f) k)) m (l.1 ∷ (map (λ l. l.1) ls ++ rest)))
          (take_links stands (from (suc f) k) m (l.1 ∷ (map (λ l. l.1) ls ++ rest))))
          (agree f (omega arith) (omega arith) ∙ ap (λ (o : Option ℕ). eqb (count_some o) 1) (target_first f l ls q))
          n
          ∙ ap (Option.map (changed λ ms. (f, l.1) ∷ ms))
          (later (λ m i. omega (arith, up.0 m i, inside m (Memᴰ.tail i)))
          (λ g low high.
          agree g (omega arith) (omega arith) ∙ ap (λ (o : Option ℕ). eqb (count_some o) 1) (target-later g l ls (λ (d : l.0 ≡ g). omega arith)))
          refl)
          ∙ ap (λ (h : ℕ). took {X = List (ℕ × ℕ)} ((h, l.1) ∷ ls) room rest) (sym q)
      go (no d) later whole =
          let low : f < l.0 = omega (arith, inside l (Memᴰ.head refl)) in
          let above : (m : ℕ × ℕ) → Memᴰ m (l ∷ ls) → f < m.0 =
          λ m i. ⊎_elim (λ (e : m ≡ l). omega (arith, ap (λ (x : ℕ × ℕ). x.0) e)) (λ n. omega (arith, up.0 m n)) (Memᴰ.cases_cons i) in
          ap
          (λ (t : Bool).
          cond t (take_target f (take_links stands (from (suc f) k)) total (l.1 ∷ (map (λ l. l.1) ls ++ rest)))
          (take_links stands (from (suc f) k) total (l.1 ∷ (map (λ l. l.1) ls ++ rest))))
          (agree f (omega arith) (omega arith)
          ∙ ap (λ (o : Option ℕ). eqb (count_some o) 1) (target-absent f (l ∷ ls) (λ m i (e : m.0 ≡ f). omega (arith, above m i))))
          ∙ whole (λ m i. omega (arith, above m i, inside m i)) (λ g low high. agree g (omega arith) (omega arith))

-- a row behind bytes that state its label
row-taken-behind : (r : Row Label) {bytes : List ℕ} → States bytes r.0 → (room : ℕ) (rest : List ℕ) → Proper r →
    take_row (length r.1 + room) ((bytes ++ map_bytes r.1 ++ map (λ l. l.1) r.1) ++ rest) ≡ took r room rest
unfolding from
row-taken-behind r {bytes} states room rest (up, low) =
    let numbers : List ℕ = map (λ l. l.1) r.1 in
    let behind : List ℕ = map_bytes r.1 ++ (numbers ++ rest) in
    ap (take_row (length r.1 + room)) (append_assoc (bytes ++ map_bytes r.1) numbers rest ∙ append_assoc bytes (map_bytes r.1) (numbers ++ rest))
    ∙ row-behind states (length r.1 + room) behind
    ∙ ap
    (λ (t : Bool).
    cond t (Option.map (changed λ ls. (r.0, ls)) (take_links (bit_of behind) (from 0 64) (length r.1 + room) (numbers ++ rest))) none)
    (le-leb 8 (length behind) (omega arith))
    ∙ ap (Option.map (changed λ ls. (r.0, ls)))
    (links-taken (bit_of behind) room rest r.1 0 64 (length r.1 + room) up (λ l m. omega (arith, low l m))
    (λ g _ high. bit-stood r.1 (numbers ++ rest) g high) refl)

pub row-taken : (r : Row Label) (room : ℕ) (rest : List ℕ) → r.0.type < 128 → Proper r →
    take_row (length r.1 + room) (encoded_row r ++ rest) ≡ took r room rest
unfolding encoded_row
row-taken r room rest typed = row-taken-behind r (encoded-states r.0 typed) room rest

spelled-row-taken : (writes : Bool) (r : Row Label) (room : ℕ) (rest : List ℕ) → r.0.type < 128 → (is_full r.0 ≡ false → writes ≡ true) →
    Proper r → take_row (length r.1 + room) (spelled_row writes r ++ rest) ≡ took r room rest
unfolding spelled_row
spelled-row-taken writes r room rest typed range = row-taken-behind r (spelled-states writes r.0 typed range) room rest

-- the ranges that are not full are written
abbrev pub WritesRanges : (ℕ → Bool) → List (Row Label) → Type 0
WritesRanges writes rows = (v : ℕ) → v < length rows → is_full ((graph_of_rows rows).label v) ≡ false → writes v ≡ true

rows_taken : (writes : ℕ → Bool) (rows : List (Row Label)) (room total : ℕ) (rest : List ℕ) → SevenBits rows → WritesRanges writes rows →
    ((r : Row Label) → Memᴰ r rows → Proper r) → total ≡ links_in rows + room →
    take_rows (length rows) total (spelled_rows writes rows ++ rest) ≡ took rows room rest
unfolding bind take_rows spelled_rows links_in
rows_taken writes [] room total rest typed ranges proper e =
    let q : total ≡ room = omega arith in
    ap (λ (n : ℕ). took {X = List (Row Label)} [] n rest) q
rows_taken writes (r ∷ rs) room total rest typed ranges proper e =
    let q : total ≡ length r.1 + (links_in rs + room) = omega arith in
    let later : List ℕ = spelled_rows (λ v. writes (suc v)) rs in
    ap₂
    (λ (n : ℕ) (bytes : List ℕ).
    bind (take_row n bytes) λ t. Option.map (changed λ rs. t.value ∷ rs) (take_rows (length rs) t.room t.rest))
    q
    (append_assoc (spelled_row (writes 0) r) later rest)
    ∙ ap
    (λ (o : Option (Taken (Row Label))).
    bind o λ t. Option.map (changed λ rs. t.value ∷ rs) (take_rows (length rs) t.room t.rest))
    (spelled-row-taken (writes 0) r (links_in rs + room) (later ++ rest) (typed r (Memᴰ.head refl)) (ranges 0 (omega arith))
    (proper r (Memᴰ.head refl)))
    ∙ ap (Option.map (changed λ rs. r ∷ rs))
    (rows_taken (λ v. writes (suc v)) rs room (links_in rs + room) rest (λ x m. typed x (Memᴰ.tail m)) (λ v l. ranges (suc v) (omega arith))
    (λ x m. proper x (Memᴰ.tail m)) refl)

-- The bytes that spell rows are decoded to the rows.
pub decode-spelled : (writes : ℕ → Bool) (rows : List (Row Label)) → 0 < length rows → links_in rows ≤ 2048 → SevenBits rows →
    WritesRanges writes rows → ((r : Row Label) → Memᴰ r rows → Proper r) → decoded (spelled writes rows) ≡ some rows
unfolding decoded spelled
decode-spelled writes rows some-row few typed ranges proper =
    ap (λ (t : Bool). cond t none (whole (take_rows (length rows) 2048 (spelled_rows writes rows))))
    (ne_eqb (length rows) 0 (λ (e : length rows ≡ 0). omega arith))
    ∙ ap (λ (bytes : List ℕ). whole (take_rows (length rows) 2048 bytes)) (sym (append-nil (spelled_rows writes rows)))
    ∙ ap whole (rows_taken writes rows (2048 - links_in rows) 2048 [] typed ranges proper (omega arith))

-- The encoder writes the ranges that are not full, and no others.

abbrev pub not_full : List (Row Label) → ℕ → Bool
not_full rows v = not (is_full ((graph_of_rows rows).label v))

pub not-full-written : (rows : List (Row Label)) → WritesRanges (not_full rows) rows
not-full-written rows v l e = ap not e

row-spelled : (r : Row Label) → encoded_row r ≡ spelled_row (not (is_full r.0)) r
unfolding encoded_row spelled_row encoded_label spelled_label
row-spelled r = go (is_full r.0)
  where
    go : (full : Bool) →
        cond full (r.0.type ∷ []) ((128 + r.0.type) ∷ r.0.lowest ∷ r.0.highest ∷ []) ++ map_bytes r.1 ++ map (λ l. l.1) r.1
        ≡ cond (not full) ((128 + r.0.type) ∷ r.0.lowest ∷ r.0.highest ∷ []) (r.0.type ∷ []) ++ map_bytes r.1 ++ map (λ l. l.1) r.1
    go true = refl
    go false = refl

rows-spelled : (rows : List (Row Label)) → encoded_rows rows ≡ spelled_rows (not_full rows) rows
unfolding encoded_rows spelled_rows
rows-spelled [] = refl
rows-spelled (r ∷ rs) = ap₂ (λ (a b : List ℕ). a ++ b) (row-spelled r) (rows-spelled rs)

pub encoded-spelled : (rows : List (Row Label)) → encoded rows ≡ spelled (not_full rows) rows
unfolding encoded spelled
encoded-spelled rows = ap (λ (bytes : List ℕ). length rows ∷ bytes) (rows-spelled rows)

pub decode-encode : (rows : List (Row Label)) → 0 < length rows → links_in rows ≤ 2048 → SevenBits rows →
    ((r : Row Label) → Memᴰ r rows → Proper r) → decoded (encoded rows) ≡ some rows
decode-encode rows some-row few typed proper =
    ap decoded (encoded-spelled rows) ∙ decode-spelled (not_full rows) rows some-row few typed (not-full-written rows) proper

-- What is written of a graph whose types have seven bits is decoded to its written form.
module _ {A : Type 0} (same : A → A → Bool) (tells : TellsApart same) (g : Graph Label A)
    (narrow : (v w : A) (f : ℕ) → Reached g v → g.link v f ≡ some w → f < 64) (types : (v : A) → Reached g v → (g.label v).type < 128)
    (form : List (Row Label)) (e : canonical same g ≡ written form) where
  pub form-types : SevenBits form
  form-types r m =
      let (v, reached, label) = form-labels same tells g narrow form e r m in
      subst (λ (l : Label). l.type < 128) (sym label) (types v reached)
