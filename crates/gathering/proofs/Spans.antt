-- The parts of a state are found as the definitions of the calls name them.
use mathlib.Core.Path.{◌≡◌, refl, sym, ◌∙◌, ap, ap₂}
use mathlib.Core.List.{List, ◌∷◌, ◌++◌}
use mathlib.Core.Logic.{inl, inr, ⊎_elim}
use Prim.Native.Nat.{ℕ, suc, ◌+◌, ◌*◌, ◌-◌, ◌/◌, ◌%◌, ◌≤◌, ◌<◌}
use native.Mathlib.Omega.{arith}
use lib.ListN.{length, take, drop, get_or, set, length-drop, length-set, drop_of_length-le}
use lib.Seq.{take_all, drop-length, drop-drop, get_or-drop, set_split, take-suc-set, drop-set-lt, append_snoc, paste, paste-zero, paste-suc, length-paste}
use Rattle.gathering.specs.Gathering.{two_bytes, behind_table, room_in, length_at}
use Rattle.gathering.specs.Parts.{Span, PartsOf}

-- A number of 16 bits is read back from its two bytes.
pub two-bytes-read : (x : ℕ) → x < 65536 → x % 256 + 256 * (x / 256 % 256) ≡ x
two-bytes-read x h = omega arith

-- The end of the next bytes: all of them, or as many as there are.
module _ (bytes : List ℕ) (at count : ℕ) (low : at ≤ length bytes) where
  pub span-inside : count < length bytes - at → Span bytes at count (at + count)
  span-inside h =
      record {
        low = omega arith;
        high = omega arith;
        all = inl refl;
        takes = let same : at + count - at ≡ count = omega arith in ap (λ (k : ℕ). take k (drop at bytes)) same;
        drops = sym (drop-drop count at bytes);
      }

  pub span-cut : length bytes - at ≤ count → Span bytes at count (length bytes)
  span-cut h =
      let long : length (drop at bytes) ≡ length bytes - at = length-drop at bytes in
      record {
        low = low;
        high = omega arith;
        all = inr refl;
        takes = take_all (length bytes - at) (drop at bytes) (omega arith) ∙ sym (take_all count (drop at bytes) (omega (arith, h)));
        drops = drop-length bytes ∙ sym (drop_of_length-le (drop at bytes) {i = count} (omega (arith, h)));
      }

-- If there are bytes behind the end, all the next bytes are there.
span-whole : {bytes : List ℕ} {at count end : ℕ} → Span bytes at count end → 1 ≤ length (drop end bytes) → end ≡ at + count
span-whole {bytes} {end = end} span h = ⊎_elim (λ e. e) (λ e. absurd (omega (arith, e, h, length-drop end bytes))) span.all

-- the length in two bytes
pub length_found : (bytes : List ℕ) (at : ℕ) {a b : ℕ} → a ≡ get_or bytes at 0 → b ≡ get_or bytes (at + 1) 0 → a + 256 * b ≡ length_at (drop at bytes)
length_found bytes at e d =
    let same : at ≡ at + 0 = omega arith in
    ap₂ (λ (x y : ℕ). x + 256 * y)
    (e ∙ ap (λ (k : ℕ). get_or bytes k 0) same ∙ sym (get_or-drop at bytes 0 0))
    (d ∙ sym (get_or-drop at bytes 1 0))

pub parts-found : (state : List ℕ) {types start end room gathered last : ℕ} → types ≡ get_or state 0 0 → Span state 0 1 start →
    Span state start (8 * types) end → Span state end 2 room → gathered ≡ length_at (drop end state) → Span state room gathered last →
    PartsOf state (record { types = types; start = start; end = end; room = room; gathered = gathered; last = last })
parts-found state {types} {start} {end} {room} {gathered} {last} e first table two told part =
    let behind : drop end state ≡ behind_table state =
    table.drops ∙ ap₂ (λ (k : ℕ) (l : List ℕ). drop (8 * k) l) e first.drops in
    let space : drop room state ≡ room_in state = two.drops ∙ ap (drop 2) behind in
    record {
      types_are = e;
      start-low = table.low;
      end_low = table.high;
      table_is = table.takes ∙ ap₂ (λ (k : ℕ) (l : List ℕ). take (8 * k) l) e first.drops;
      room-low = two.high;
      room-is = space;
      gathered-is = told ∙ ap length_at behind;
      last-low = part.low;
      last-high = part.high;
      first-is = part.takes ∙ ap (take gathered) space;
      whole = λ h.
          let some : 1 ≤ length (drop room state) = omega (arith, h, ap length space) in
          let before : 1 ≤ length (drop end state) = omega (arith, some, two.low, length-drop room state, length-drop end state) in
          let start-whole : start ≡ 0 + 1 =
          span-whole first (omega (arith, before, table.low, length-drop end state, length-drop start state)) in
          let end_whole : end ≡ start + 8 * types = span-whole table before in
          (omega (arith, start-whole, end_whole, e), span-whole two some);
    }

-- Two stores, one after the other.
pub two-stored : (state : List ℕ) (at a b : ℕ) → at + 2 ≤ length state →
    set (set state at a) (at + 1) b ≡ take at state ++ (a ∷ b ∷ drop (at + 2) state)
two-stored state at a b h =
    let one : List ℕ = set state at a in
    let inside : at + 1 < length one = omega (arith, h, length-set state at a) in
    let next : at + 1 ≡ suc at = omega arith in
    let last : suc (at + 1) ≡ at + 2 = omega arith in
    set_split one (at + 1) b inside ∙
    ap₂ (λ (k m : ℕ). take k one ++ b ∷ drop m one) next last ∙
    ap₂ (λ (x y : List ℕ). x ++ b ∷ y) (take-suc-set state at a (omega (arith, h))) (drop-set-lt (at + 2) state at a (omega arith)) ∙
    append_snoc (take at state) a (b ∷ drop (at + 2) state)

-- Two stores put a length.
pub length-put : (state : List ℕ) (at count : ℕ) → at + 2 ≤ length state →
    set (set state at (count % 256)) (at + 1) (count / 256 % 256) ≡ take at state ++ (two_bytes count ++ drop (at + 2) state)
unfolding two_bytes
length-put state at count h = two-stored state at (count % 256) (count / 256 % 256) h

-- While bytes are copied: the first i bytes stand in the state.
pub record Copied (bytes : List ℕ) (at : ℕ) (before state : List ℕ) (i : ℕ) : Type 0 where
  pub some : i ≤ length bytes
  pub fit : at + length bytes ≤ length before
  pub is : state ≡ paste before at bytes i

pub copied-start : (bytes : List ℕ) (at : ℕ) (state : List ℕ) → at + length bytes ≤ length state → Copied bytes at state state 0
copied-start bytes at state h = record { some = omega arith; fit = h; is = paste-zero state at bytes }

module _ {bytes : List ℕ} {at : ℕ} {before state : List ℕ} {i : ℕ} (copied : Copied bytes at before state i) where
  pub copied-long : length state ≡ length before
  copied-long = ap length copied.is ∙ length-paste before at bytes i (omega (arith, copied.some, copied.fit)) copied.some

  pub copied-inside : i < length bytes → at + i < length state
  copied-inside h = omega (arith, h, copied.fit, copied-long)

  pub copied_next : i < length bytes → Copied bytes at before (set state (at + i) (get_or bytes i 0)) (i + 1)
  copied_next h =
      let next : suc i ≡ i + 1 = omega arith in
      record {
        some = omega (arith, h);
        fit = copied.fit;
        is = ap (λ (l : List ℕ). set l (at + i) (get_or bytes i 0)) copied.is ∙ paste-suc before at bytes i 0 (omega (arith, h, copied.fit)) h ∙
            ap (paste before at bytes) next;
      }

  pub copied_all : length bytes ≤ i → state ≡ paste before at bytes (length bytes)
  copied_all h =
      let all : i ≡ length bytes = omega (arith, h, copied.some) in
      copied.is ∙ ap (paste before at bytes) all
