-- This file shows how links, rows and records are read from bytes, step by step.
use mathlib.Core.Path.{◌≡◌, refl, sym, ap, ap₂, ◌∙◌}
use mathlib.Core.Bool.{Bool, false, cond}
use mathlib.Core.List.{List, [], ◌∷◌, ◌++◌, append_assoc}
use mathlib.Core.Option
use mathlib.Core.Option.{Option, none, some, bind}
use Prim.Native.Nat.{ℕ, zero, suc, ◌+◌, ◌-◌, ◌/◌, ◌%◌, ◌^◌, ◌≤◌, ◌<◌}
use native.Mathlib.Nat.{zero-add}
use native.Mathlib.Omega.{arith}
use borrow.Author.Tests.{eq-eqb, ne_eqb, le-leb, lt-leb}
use lib.Dec.{eqb}
use lib.ListN.{length, get_or, drop, length-drop}
use lib.Seq.{get_or-drop, drop-drop}
use Rattle.graphs.specs.Rows.{from}
use Rattle.lattice.specs.Label.{Label}
use Rattle.decode.specs.Decode.{Taken, changed, take_target, take_links, label_length, label_of, take_row, take_rows, bit_of, whole, decoded}
use Rattle.decode.specs.Reader.{ByteTaken, LabelTaken, MapTaken}
use Rattle.decode.specs.Word.{word_of, take_word}
use Rattle.decode.proofs.Word.{word-digit, word-links}

-- Links.

-- what is read, put behind what was read before
unfoldable pub after : {X : Type 0} → List X → Option (Taken (List X)) → Option (Taken (List X))
after before o = Option.map (changed λ ls. before ++ ls) o

pub after_none : {X : Type 0} (o : Option (Taken (List X))) → o ≡ after [] o
unfolding after
after_none none = refl
after_none (some t) = refl

pub after_more : {X : Type 0} (before : List X) (x : X) (o : Option (Taken (List X))) →
    after before (Option.map (changed λ ls. x ∷ ls) o) ≡ after (before ++ (x ∷ [])) o
unfolding after
after_more before x none = refl
after_more before x (some t) =
    ap (λ ls. some (record { value = ls; room = t.room; rest = t.rest })) (sym (append_assoc before (x ∷ []) t.value))

pub no_room : (f : ℕ) (next : ℕ → List ℕ → Option (Taken (List (ℕ × ℕ)))) (room : ℕ) (rest : List ℕ) → room ≡ 0 →
    take_target f next room rest ≡ none
no_room f next zero rest e = refl
no_room f next (suc room) rest e = absurd (omega arith)

pub no_bytes : (f : ℕ) (next : ℕ → List ℕ → Option (Taken (List (ℕ × ℕ)))) (room : ℕ) (rest : List ℕ) → rest ≡ [] →
    take_target f next room rest ≡ none
no_bytes f next zero rest e = refl
no_bytes f next (suc room) rest e = ap (take_target f next (suc room)) e

pub one-target : (f : ℕ) (next : ℕ → List ℕ → Option (Taken (List (ℕ × ℕ)))) (room r : ℕ) (b : ℕ) (rest : List ℕ) → room ≡ suc r →
    take_target f next room (b ∷ rest) ≡ Option.map (changed λ ls. (f, b) ∷ ls) (next r rest)
one-target f next room r b rest e = ap (λ (k : ℕ). take_target f next k (b ∷ rest)) e

-- A row.

pub untaken : {X : Type 0} (b : Bool) (x y : X) → b ≡ false → cond b x y ≡ y
untaken b x y e = ap (λ (c : Bool). cond c x y) e

-- too few bytes for a label and a map
row-short : (bytes : List ℕ) (at room : ℕ) → length bytes - at < label_length (drop at bytes) + 8 → take_row room (drop at bytes) ≡ none
unfolding take_row
row-short bytes at room h =
    untaken _ _ none (lt-leb (label_length (drop at bytes) + 8) (length (drop at bytes)) (omega (arith, length-drop at bytes)))

pub row-unlabelled : (bytes : List ℕ) (at room : ℕ) → length bytes - at < label_length (drop at bytes) → take_row room (drop at bytes) ≡ none
row-unlabelled bytes at room h = row-short bytes at room (omega arith)

pub row-unmapped : (bytes : List ℕ) (at room : ℕ) {l : Label} {behind : ℕ} → LabelTaken bytes at l behind → length bytes - behind < 8 →
    take_row room (drop at bytes) ≡ none
row-unmapped bytes at room t h = row-short bytes at room (omega (arith, t.next-is))

-- the label, and the links by the word of the map
pub row_is : (bytes : List ℕ) (at room : ℕ) {l : Label} {behind word first : ℕ} → ((i : ℕ) → get_or bytes i 0 < 256) →
    LabelTaken bytes at l behind → MapTaken bytes behind word first →
    take_row room (drop at bytes) ≡ Option.map (changed λ ls. (l, ls)) (take_word 64 0 word room (drop first bytes))
unfolding take_row bit_of
row_is bytes at room {l} {behind} {word} {first} small t m =
    ap (λ (b : Bool). cond b (Option.map (changed λ ls. (label_of (drop at bytes), ls))
    (take_links (bit_of (drop long (drop at bytes))) (from 0 64) room (drop (long + 8) (drop at bytes)))) none)
    (le-leb (long + 8) (length (drop at bytes)) (omega (arith, length-drop at bytes, t.inside, t.next-is, m.inside)))
    ∙ ap₂ (λ (x : Label) (o : Option (Taken (List (ℕ × ℕ)))). Option.map (changed λ ls. (x, ls)) o) (sym t.label_is)
    (ap₂ (λ (map rest : List ℕ). take_links (bit_of map) (from 0 64) room rest) map_is rest-is
    ∙ sym (word-links (bit_of (drop behind bytes)) 64 0 (word_of 8 (drop behind bytes)) digit room (drop first bytes))
    ∙ ap (λ (w : ℕ). take_word 64 0 w room (drop first bytes)) (sym m.word-is))
  where
    long : ℕ
    long = label_length (drop at bytes)

    map_is : drop long (drop at bytes) ≡ drop behind bytes
    map_is = drop-drop long at bytes ∙ ap (λ (k : ℕ). drop k bytes) (sym t.next-is)

    rest-is : drop (long + 8) (drop at bytes) ≡ drop first bytes
    rest-is =
        let place : at + (long + 8) ≡ first = omega (arith, t.next-is, m.next-is) in
        drop-drop (long + 8) at bytes ∙ ap (λ (k : ℕ). drop k bytes) place

    digit : (i : ℕ) → i < 64 → eqb (word_of 8 (drop behind bytes) / 2 ^ i % 2) 1 ≡ bit_of (drop behind bytes) (0 + i)
    digit i h =
        ap (λ (x : ℕ). eqb x 1) (word-digit 8 (drop behind bytes) (λ j. rw get_or-drop (small (behind + j))) i h)
        ∙ ap (bit_of (drop behind bytes)) (sym (zero-add i))

-- A record.

-- The node count is taken.
pub record Counted (bytes : List ℕ) (nodes start : ℕ) : Type 0 where
  pub taken : ByteTaken bytes 0 nodes start
  pub some-nodes : nodes ≡ 0 → ⊥
  pub small : nodes ≤ 255

-- the next row, and the rest
pub rows-one : (k room : ℕ) (rest : List ℕ) → 0 < k →
    take_rows k room rest ≡ bind (take_row room rest) λ r. Option.map (changed λ rs. r.value ∷ rs) (take_rows (k - 1) r.room r.rest)
unfolding take_rows
rows-one zero room rest h = absurd (omega arith)
rows-one (suc k) room rest h =
    let less : k ≡ suc k - 1 = omega arith in
    ap (λ (n : ℕ). bind (take_row room rest) λ r. Option.map (changed λ rs. r.value ∷ rs) (take_rows n r.room r.rest)) less

pub decoded-empty : (bytes : List ℕ) → length bytes ≤ 0 → decoded bytes ≡ none
unfolding decoded
decoded-empty [] e = refl
decoded-empty (b ∷ bytes) e = absurd (omega arith)

pub decoded-zero : (bytes : List ℕ) → get_or bytes 0 0 ≡ 0 → decoded bytes ≡ none
unfolding decoded
decoded-zero [] e = refl
decoded-zero (n ∷ rest) e = ap (λ (b : Bool). cond b none (whole (take_rows n 2048 rest))) (eq-eqb n 0 e)

pub decoded-rows : (bytes : List ℕ) (nodes : ℕ) {start : ℕ} → Counted bytes nodes start →
    decoded bytes ≡ whole (take_rows nodes 2048 (drop 1 bytes))
unfolding decoded
decoded-rows [] nodes n = absurd (omega (arith, n.taken.inside))
decoded-rows (b ∷ rest) nodes n =
    untaken (eqb b 0) none (whole (take_rows b 2048 rest)) (ne_eqb b 0 (λ q. n.some-nodes (n.taken.byte-is ∙ q)))
    ∙ ap (λ (k : ℕ). whole (take_rows k 2048 rest)) (sym n.taken.byte-is)
