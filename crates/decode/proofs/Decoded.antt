-- This file shows what rows have that bytes decode to. There are as many rows as byte 0 says, and at least one; there are at most 2,048
-- links; in each row features are below 64 and ascend. Where the bytes are below 256, labels are such as a record can state and targets
-- are below 256. Where there are no more bytes than rows without ranges take, labels have no range. The proof is by induction along the
-- bytes.
use mathlib.Core.Path.{◌≡◌, refl, sym, ap, subst}
use mathlib.Core.Bool.{Bool, true, false, cond}
use mathlib.Core.List.Memᴰ
use mathlib.Core.List.{List, [], ◌∷◌, Memᴰ}
use mathlib.Core.Logic.{⊎_elim}
use mathlib.Core.Option.{Option, none, some, map, bind, map-eq-some_iff}
use Prim.Native.Nat.{ℕ, zero, suc, ◌+◌, ◌*◌, ◌≤◌, ◌<◌}
use native.Mathlib.Omega.{arith}
use borrow.Author.Tests.{eqb-true, eqb-false, leb-true}
use lib.Dec.{eqb, leb}
use lib.ListN.{length, get_or, drop, length-drop}
use Rattle.graphs.specs.Rows.{Row, from, features}
use Rattle.graphs.specs.Large.{links_in, Ascending}
use Rattle.graphs.proofs.Walk.{some-injective, none-some}
use Rattle.graphs.proofs.Search.{cond-some}
use Rattle.decode.specs.Decode.{AreBytes, Taken, changed, take_target, take_links, label_length, label_of, take_row, take_rows, bit_of, whole, decoded}
use Rattle.lattice.specs.Label.{Label, plain}
use Rattle.lattice.specs.Labels.{Known}
use Rattle.layout.proofs.Builder.{Orderly}
use Rattle.decode.proofs.Labels.{label-known, label-long, label-alone}

-- Lists.

pub drop-member : {X : Type 0} {x : X} (k : ℕ) (xs : List X) → Memᴰ x (drop k xs) → Memᴰ x xs
drop-member zero xs m = m
drop-member (suc k) [] m = m
drop-member (suc k) (y ∷ xs) m = Memᴰ.tail (drop-member k xs m)

pub are-bytes : (bytes : List ℕ) → ((i : ℕ) → get_or bytes i 0 < 256) → AreBytes bytes
are-bytes [] small b m = absurd (Memᴰ.not-nil m)
are-bytes (x ∷ xs) small b m =
    ⊎_elim (λ e. subst (λ (y : ℕ). y < 256) (sym e) (small 0)) (are-bytes xs (λ i. small (suc i)) b) (Memᴰ.cases_cons m)

pub byte-below : (bytes : List ℕ) → AreBytes bytes → (i : ℕ) → get_or bytes i 0 < 256
byte-below [] small i = omega arith
byte-below (x ∷ xs) small zero = small x (Memᴰ.head refl)
byte-below (x ∷ xs) small (suc i) = byte-below xs (λ b m. small b (Memᴰ.tail m)) i

-- Links.

record LinksTaken (k n room : ℕ) (rest : List ℕ) (t : Taken (List (ℕ × ℕ))) : Type 0 where
  counted : length t.value + t.room ≡ room
  long : length rest ≡ length t.value + length t.rest
  within : (l : ℕ × ℕ) → Memᴰ l t.value → (k ≤ l.0) × (l.0 < k + n)
  ascending : Ascending t.value
  targets : (l : ℕ × ℕ) → Memᴰ l t.value → Memᴰ l.1 rest
  left : (b : ℕ) → Memᴰ b t.rest → Memᴰ b rest

none-taken : (k room : ℕ) (rest : List ℕ) → LinksTaken k 0 room rest (record { value = []; room = room; rest = rest })
none-taken k room rest =
    record {
      counted = omega arith;
      long = omega arith;
      within = λ l m. absurd (Memᴰ.not-nil m);
      ascending = tt;
      targets = λ l m. absurd (Memᴰ.not-nil m);
      left = λ b m. m;
    }

-- a feature that does not stand
taken-later : (k n room : ℕ) (rest : List ℕ) (t : Taken (List (ℕ × ℕ))) → LinksTaken (suc k) n room rest t →
    LinksTaken k (suc n) room rest t
taken-later k n room rest t taken =
    record {
      counted = taken.counted;
      long = taken.long;
      within = λ l m. let h = taken.within l m in omega arith;
      ascending = taken.ascending;
      targets = taken.targets;
      left = taken.left;
    }

-- a feature that stands, with its target
taken-target : (k n room b : ℕ) (rest : List ℕ) (t : Taken (List (ℕ × ℕ))) → LinksTaken (suc k) n room rest t →
    LinksTaken k (suc n) (suc room) (b ∷ rest) (changed (λ ls. (k, b) ∷ ls) t)
taken-target k n room b rest t taken =
    record {
      counted = let h = taken.counted in omega arith;
      long = let h = taken.long in omega arith;
      within = λ l m.
          ⊎_elim (λ (e : ◌≡◌ {A = ℕ × ℕ} l (k, b)). let h = ap (λ (x : ℕ × ℕ). x.0) e in omega arith)
          (λ i. let h = taken.within l i in omega arith) (Memᴰ.cases_cons m);
      ascending = (λ l m. let h = taken.within l m in omega arith, taken.ascending);
      targets = λ l m.
          ⊎_elim (λ (e : ◌≡◌ {A = ℕ × ℕ} l (k, b)). Memᴰ.head (ap (λ (x : ℕ × ℕ). x.1) e))
          (λ i. Memᴰ.tail (taken.targets l i)) (Memᴰ.cases_cons m);
      left = λ c m. Memᴰ.tail (taken.left c m);
    }

links-taken : (stands : ℕ → Bool) (k n room : ℕ) (rest : List ℕ) (t : Taken (List (ℕ × ℕ))) →
    take_links stands (from k n) room rest ≡ some t → LinksTaken k n room rest t
unfolding from take_links
links-taken stands k zero room rest t e = subst (LinksTaken k 0 room rest) (some-injective e) (none-taken k room rest)
links-taken stands k (suc n) room rest t e = go (stands k) e (links-taken stands (suc k) n)
  where
    Later : Type 0
    Later = (room : ℕ) (rest : List ℕ) (t : Taken (List (ℕ × ℕ))) → take_links stands (from (suc k) n) room rest ≡ some t →
        LinksTaken (suc k) n room rest t

    target : (room : ℕ) (rest : List ℕ) → take_target k (take_links stands (from (suc k) n)) room rest ≡ some t → Later →
        LinksTaken k (suc n) room rest t
    target zero rest q later = none-some q
    target (suc room) [] q later = none-some q
    target (suc room) (b ∷ rest) q later =
        let (s, h, same) = (map-eq-some_iff (changed λ ls. (k, b) ∷ ls) (take_links stands (from (suc k) n) room rest)).0 q in
        subst (LinksTaken k (suc n) (suc room) (b ∷ rest)) same (taken-target k n room b rest s (later room rest s h))

    go : (b : Bool) →
        cond b (take_target k (take_links stands (from (suc k) n)) room rest) (take_links stands (from (suc k) n) room rest) ≡ some t →
        Later → LinksTaken k (suc n) room rest t
    go true q later = target room rest q later
    go false q later = taken-later k n room rest t (later room rest t q)

-- Rows.

-- a row whose features ascend and are below 64
abbrev pub Proper : Row Label → Type 0
Proper r = Ascending r.1 × ((l : ℕ × ℕ) → Memᴰ l r.1 → l.0 < 64)

-- a row of bytes: a label that a record can state, and targets below 256
abbrev pub Small : Row Label → Type 0
Small r = Known 128 r.0 × ((l : ℕ × ℕ) → Memᴰ l r.1 → l.1 < 256)

-- a row whose label is without a range
abbrev pub Unranged : Row Label → Type 0
Unranged r = r.0 ≡ plain r.0.type

record RowTaken (room : ℕ) (rest : List ℕ) (t : Taken (Row Label)) : Type 0 where
  counted : length t.value.1 + t.room ≡ room
  long : 9 + length t.value.1 + length t.rest ≤ length rest
  unranged : length rest ≤ 9 + length t.value.1 + length t.rest → Unranged t.value
  ordered : Proper t.value
  bounded : AreBytes rest → Small t.value
  left : (b : ℕ) → Memᴰ b t.rest → Memᴰ b rest

row-taken : (room : ℕ) (rest : List ℕ) (t : Taken (Row Label)) → take_row room rest ≡ some t → RowTaken room rest t
unfolding take_row
row-taken room rest t e =
    let n = label_length rest in
    let links = take_links (bit_of (drop n rest)) features room (drop (n + 8) rest) in
    let (enough, q) = cond-some (leb (n + 8) (length rest)) (map (changed λ ls. (label_of rest, ls)) links) t e in
    let (s, h, same) = (map-eq-some_iff (changed {Y = Row Label} λ ls. (label_of rest, ls)) links).0 q in
    let taken = links-taken (bit_of (drop n rest)) 0 64 room (drop (n + 8) rest) s h in
    let behind : n + 8 + length s.value + length s.rest ≡ length rest =
    omega (arith, taken.long, length-drop (n + 8) rest, leb-true (n + 8) (length rest) enough) in
    subst (RowTaken room rest) same
    (record {
      counted = taken.counted;
      long = omega (arith, behind, label-long rest);
      unranged = λ few. label-alone rest (omega (arith, behind, label-long rest));
      ordered = (taken.ascending, λ l m. let h = taken.within l m in omega arith);
      bounded = λ small. (
        label-known rest (byte-below rest small),
        λ l m. small l.1 (drop-member (n + 8) rest (taken.targets l m)),
      );
      left = λ b m. drop-member (n + 8) rest (taken.left b m);
    })

record RowsTaken (k room : ℕ) (rest : List ℕ) (t : Taken (List (Row Label))) : Type 0 where
  many : length t.value ≡ k
  counted : links_in t.value + t.room ≡ room
  long : 9 * length t.value + links_in t.value + length t.rest ≤ length rest
  unranged : length rest ≤ 9 * length t.value + links_in t.value + length t.rest →
      (r : Row Label) → Memᴰ r t.value → Unranged r
  each : (r : Row Label) → Memᴰ r t.value → Proper r × (AreBytes rest → Small r)

no_rows : (room : ℕ) (rest : List ℕ) → RowsTaken 0 room rest (record { value = []; room = room; rest = rest })
unfolding links_in
no_rows room rest =
    record {
      many = refl;
      counted = omega arith;
      long = omega arith;
      unranged = λ few r m. absurd (Memᴰ.not-nil m);
      each = λ r m. absurd (Memᴰ.not-nil m);
    }

one_more : (k room : ℕ) (rest : List ℕ) (r : Taken (Row Label)) (t : Taken (List (Row Label))) → RowTaken room rest r →
    RowsTaken k r.room r.rest t → RowsTaken (suc k) room rest (changed (λ rs. r.value ∷ rs) t)
unfolding links_in
one_more k room rest r t taken later =
    record {
      many = ap suc later.many;
      counted = let h = taken.counted in let i = later.counted in omega arith;
      long = omega (arith, taken.long, later.long);
      unranged = λ few s m.
          ⊎_elim (λ e. subst Unranged (sym e) (taken.unranged (omega (arith, later.long))))
          (λ i. later.unranged (omega (arith, taken.long)) s i) (Memᴰ.cases_cons m);
      each = λ s m.
          ⊎_elim (λ e. subst (λ (x : Row Label). Proper x × (AreBytes rest → Small x)) (sym e) (taken.ordered, taken.bounded))
          (λ i.
          let (ordered, bounded) = later.each s i in
          (ordered, λ small. bounded (λ b j. small b (taken.left b j))))
          (Memᴰ.cases_cons m);
    }

rows_taken : (k room : ℕ) (rest : List ℕ) (t : Taken (List (Row Label))) → take_rows k room rest ≡ some t → RowsTaken k room rest t
unfolding bind take_rows
rows_taken zero room rest t e = subst (RowsTaken 0 room rest) (some-injective e) (no_rows room rest)
rows_taken (suc k) room rest t e = go (take_row room rest) refl e (rows_taken k)
  where
    go : (o : Option (Taken (Row Label))) → take_row room rest ≡ o →
        bind o (λ r. map (changed λ rs. r.value ∷ rs) (take_rows k r.room r.rest)) ≡ some t →
        ((room : ℕ) (rest : List ℕ) (t : Taken (List (Row Label))) → take_rows k room rest ≡ some t → RowsTaken k room rest t) →
        RowsTaken (suc k) room rest t
    go none h q later = none-some q
    go (some r) h q later =
        let (s, i, same) = (map-eq-some_iff (changed λ rs. r.value ∷ rs) (take_rows k r.room r.rest)).0 q in
        subst (RowsTaken (suc k) room rest) same
        (one_more k room rest r s (row-taken room rest r h) (later r.room r.rest s i))

-- The record.

pub record Decoded (bytes : List ℕ) (rows : List (Row Label)) : Type 0 where
  pub nonempty : 0 < length rows
  pub count : length rows ≡ get_or bytes 0 0
  pub few-links : links_in rows ≤ 2048
  pub unranged : length bytes ≤ 1 + 9 * length rows + links_in rows → (r : Row Label) → Memᴰ r rows → Unranged r
  pub ordered : (r : Row Label) → Memᴰ r rows → Proper r
  pub bounded : (r : Row Label) → Memᴰ r rows → AreBytes bytes → Small r

pub decoded-says : (bytes : List ℕ) (rows : List (Row Label)) → decoded bytes ≡ some rows → Decoded bytes rows
unfolding decoded
decoded-says [] rows e = none-some e
decoded-says (n ∷ rest) rows e = counted (eqb n 0) refl e
  where
    ended : (o : Option (Taken (List (Row Label)))) → take_rows n 2048 rest ≡ o → whole o ≡ some rows →
        (t : Taken (List (Row Label))) × RowsTaken n 2048 rest t × (length t.rest ≡ 0) × (t.value ≡ rows)
    ended none h q = none-some q
    ended (some t) h q =
        let (none_left, is) = cond-some (eqb (length t.rest) 0) (some t.value) rows q in
        (t, rows_taken n 2048 rest t h, eqb-true (length t.rest) 0 none_left, some-injective is)

    says : (n ≡ 0 → ⊥) → (t : Taken (List (Row Label))) → RowsTaken n 2048 rest t → length t.rest ≡ 0 → Decoded (n ∷ rest) t.value
    says nonzero t taken none_left =
        record {
          nonempty = let h = taken.many in omega arith;
          count = taken.many;
          few-links = let h = taken.counted in omega arith;
          unranged = λ few. taken.unranged (omega arith);
          ordered = λ r m. (taken.each r m).0;
          bounded = λ r m small. (taken.each r m).1 (λ b i. small b (Memᴰ.tail i));
        }

    counted : (b : Bool) → eqb n 0 ≡ b → cond b none (whole (take_rows n 2048 rest)) ≡ some rows → Decoded (n ∷ rest) rows
    counted true h q = none-some q
    counted false h q =
        let (t, taken, none_left, same) = ended (take_rows n 2048 rest) refl q in
        subst (Decoded (n ∷ rest)) same (says (eqb-false n 0 h) t taken none_left)

-- "Byte 0 is the node count N, 1 to 255 .. one type byte .. one target byte"
module _ (bytes : List ℕ) (rows : List (Row Label)) (says : Decoded bytes rows) (small : AreBytes bytes) where
  pub decoded-short : length rows ≤ 255
  decoded-short = go bytes small says.nonempty says.count
    where
      go : (bytes : List ℕ) → AreBytes bytes → 0 < length rows → length rows ≡ get_or bytes 0 0 → length rows ≤ 255
      go [] small h e = absurd (omega arith)
      go (n ∷ rest) small h e = omega (arith, small n (Memᴰ.head refl))

  pub decoded-label : (r : Row Label) → Memᴰ r rows → Known 128 r.0
  decoded-label r m = (says.bounded r m small).0

  pub decoded-target : (r : Row Label) → Memᴰ r rows → (l : ℕ × ℕ) → Memᴰ l r.1 → l.1 < 256
  decoded-target r m = (says.bounded r m small).1

  -- the rows are such as a graph has
  pub decoded-orderly : Orderly rows
  decoded-orderly =
      record { labels = decoded-label; ascends = λ r m. (says.ordered r m).0; features = λ r m. (says.ordered r m).1 }
