-- Turning the words of an order round by their set bits: one bit for each type of a word is set in the words that are turned.
use Prim.Native.Nat.{ℕ, suc, ◌+◌, ◌*◌, ◌^◌, ◌<◌}
use mathlib.Core.Path.{◌≡◌, refl, sym, ap, ◌∙◌}
use mathlib.Core.Bool.{Bool, true, false, not, ◌&&◌, and-true, and-not_self}
use mathlib.Core.List.{List}
use native.Mathlib.Decide.{ℕ_discrete}
use native.Mathlib.Omega.{arith}
use borrow.Author.Tests.{eq-eqb, ne_eqb}
use lib.Dec.{eqb}
use lib.ListN.{length, get_or, set, length-set}
use lib.Seq.{get_or-set_same, get_or-set_other}
use Rattle.lattice.specs.Words.{digit, word, bit, without, turned, Spread}
use Rattle.lattice.proofs.Bits.{cleared-bit, no-bit}
use Rattle.lattice.proofs.Every.{and_left}
use Rattle.lattice.proofs.WordLaws.{word_below}

no_digit : (j x : ℕ) → digit false * 2 ^ j + x ≡ x
no_digit j x = omega arith

module _ (word j : ℕ) (old : List ℕ) where
  -- before the first bit
  pub spread-begin : length old ≡ 64 → Spread word j old word old
  spread-begin long =
      record {
        long = long;
        part = λ i l e. e;
        spread = λ i l. sym (ap (λ (b : Bool). digit b * 2 ^ j + get_or old i 0) (and-not_self (bit word i)) ∙ no_digit j (get_or old i 0));
      }

  module _ (left : ℕ) (new : List ℕ) (so_far : Spread word j old left new) where
    -- a bit that is left has not been set yet
    pub spread-kept : (i : ℕ) → i < 64 → bit left i ≡ true → get_or new i 0 ≡ get_or old i 0
    spread-kept i l e =
        so_far.spread i l ∙
        ap (λ (b : Bool). digit b * 2 ^ j + get_or old i 0)
        (ap (λ (b : Bool). b && not (bit left i)) (so_far.part i l e) ∙ ap not e) ∙ no_digit j (get_or old i 0)

    -- one bit more
    pub spread-next : (i v : ℕ) → i < 64 → bit left i ≡ true → v ≡ digit true * 2 ^ j + get_or new i 0 →
        Spread word j old (without left (2 ^ i)) (set new i v)
    spread-next i v l e is =
        record {
          long = length-set new i v ∙ so_far.long;
          part = λ k s q. so_far.part k s (and_left (bit left k) (not (eqb k i)) (sym (cleared-bit left i k) ∙ q));
          spread = λ k s. go k s (ℕ_discrete k i);
        }
      where
        here : get_or (set new i v) i 0 ≡ digit (bit word i && not (bit (without left (2 ^ i)) i)) * 2 ^ j + get_or old i 0
        here =
            get_or-set_same new i v 0 (omega (arith, so_far.long)) ∙ is ∙ ap (λ (x : ℕ). digit true * 2 ^ j + x) (spread-kept i l e) ∙
            sym (ap (λ (b : Bool). digit b * 2 ^ j + get_or old i 0)
            (ap (λ (b : Bool). b && not (bit (without left (2 ^ i)) i)) (so_far.part i l e) ∙
            ap not (cleared-bit left i i ∙ ap (λ (b : Bool). bit left i && not b) (eq-eqb i i refl) ∙ ap (λ (b : Bool). b && false) e)))

        go : (k : ℕ) → k < 64 → Dec (k ≡ i) → get_or (set new i v) k 0 ≡ digit (bit word k && not (bit (without left (2 ^ i)) k)) * 2 ^ j + get_or old k 0
        go k s (yes q) = rw q here
        go k s (no other) =
            get_or-set_other new i k v 0 other ∙ so_far.spread k s ∙
            sym (ap (λ (b : Bool). digit (bit word k && not b) * 2 ^ j + get_or old k 0)
            (cleared-bit left i k ∙ ap (λ (b : Bool). bit left k && not b) (ne_eqb k i other) ∙ and-true (bit left k)))

-- after the last bit
pub spread_end : (word j : ℕ) (old new : List ℕ) → Spread word j old 0 new → (i : ℕ) → i < 64 → get_or new i 0 ≡ digit (bit word i) * 2 ^ j + get_or old i 0
spread_end word j old new done i l =
    done.spread i l ∙
    ap (λ (b : Bool). digit b * 2 ^ j + get_or old i 0) (ap (λ (b : Bool). bit word i && not b) (no-bit i) ∙ and-true (bit word i))

-- The words that are turned, row by row.

pub turned_none : (ws : List ℕ) (i : ℕ) → turned 0 ws i ≡ 0
unfolding turned word
turned_none ws i = refl

pub turned-small : (j : ℕ) (ws : List ℕ) (i : ℕ) → turned j ws i < 2 ^ j
unfolding turned
turned-small j ws i = word_below j (λ k. bit (get_or ws k 0) i)

one_more : (j : ℕ) (ws : List ℕ) (i : ℕ) → turned (suc j) ws i ≡ digit (bit (get_or ws j 0) i) * 2 ^ j + turned j ws i
unfolding turned word
one_more j ws i = refl

pub turned_more : (j : ℕ) (ws old new : List ℕ) → Spread (get_or ws j 0) j old 0 new → ((i : ℕ) → i < 64 → get_or old i 0 ≡ turned j ws i) →
    (i : ℕ) → i < 64 → get_or new i 0 ≡ turned (j + 1) ws i
turned_more j ws old new done so_far i l =
    spread_end (get_or ws j 0) j old new done i l ∙ ap (λ (x : ℕ). digit (bit (get_or ws j 0) i) * 2 ^ j + x) (so_far i l) ∙ sym (one_more j ws i) ∙
    ap (λ (k : ℕ). turned k ws i) (omega arith)
