-- This file is about the search for the type that has a word, in the words of one side of an order. The type has its own bit in the word.
-- If a type of the word has another word, neither this type nor a type on its side is the one sought.
use Prim.Native.Nat.{ℕ, ◌^◌, ◌<◌, ◌≤◌}
use mathlib.Core.Path.{◌≡◌, sym, ap, subst, ◌∙◌}
use mathlib.Core.Bool.{true, false, not, ◌&&◌}
use mathlib.Core.List.{List}
use native.Mathlib.Omega.{arith}
use lib.ListN.{get_or}
use lib.Bits.{bit_and}
use lib.Dec.{eqb}
use Rattle.std.specs.Prelude.{Option as Answer, None, Some, is_some}
use borrow.Author.Tests.{eq-eqb, ne_eqb, eqb-true}
use Rattle.graphs.proofs.Search.{not-true-false}
use Rattle.lattice.specs.Table.{answer, found}
use Rattle.lattice.specs.Words.{bit, without, holder, word_bound, Sided, Inside, Seeking}
use Rattle.lattice.proofs.Every.{and_left, true-not-false, last-nothing, last-only}
use Rattle.lattice.proofs.Bits.{no-bit, and-bit, without-bit, without-most, cleared-bit, cleared-less}
use Rattle.lattice.proofs.Rows.{holder-found}

pub seek-begin : (ws : List ℕ) (word : ℕ) → Seeking ws word word
seek-begin ws word =
    record { part = λ j l e. e; kept = λ n few side in-n k l e. ap (λ (w : ℕ). bit w k) (sym e) ∙ side.own k l }

module _ {ws : List ℕ} {word left : ℕ} (s : Seeking ws word left) where
  -- no bit is left
  pub seek-none : left ≡ 0 → (n : ℕ) → n ≤ 64 → Sided n ws → Inside n word → None ≡ answer (holder n ws word)
  unfolding holder
  seek-none e n few side in-n =
      sym
      (ap answer
      (last-nothing (λ k. eqb (get_or ws k 0) word) n λ k l.
      ne_eqb (get_or ws k 0) word λ h.
      true-not-false (bit left k) (s.kept n few side in-n k l h) (ap (λ (w : ℕ). bit w k) e ∙ no-bit k)))

  module _ (c : ℕ) (l : c < 64) (stands : bit left c ≡ true) where
    -- c has the word, and no other type has
    pub seek_found : get_or ws c 0 ≡ word → (n : ℕ) → n ≤ 64 → Sided n ws → Inside n word → Some c ≡ answer (holder n ws word)
    unfolding holder
    seek_found e n few side in-n =
        let h : bit word c ≡ true = s.part c l stands in
        sym
        (ap answer
        (last-only (λ k. eqb (get_or ws k 0) word) n c (in-n c l h) (eq-eqb (get_or ws c 0) word e) λ k r f.
        let g : get_or ws k 0 ≡ word = eqb-true (get_or ws k 0) word f in
        side.anti k c r (in-n c l h) (ap (λ (w : ℕ). bit w c) g ∙ h)
        (ap (λ (w : ℕ). bit w k) (e ∙ sym g) ∙ side.own k r)))

    pub seek-less : without (without left (2 ^ c)) (get_or ws c 0) < left
    seek-less = omega (arith, without-most (without left (2 ^ c)) (get_or ws c 0), cleared-less left c stands)

    -- c has another word: neither it nor a type on its side is the one sought
    pub seek-next : (get_or ws c 0 ≡ word → ⊥) → Seeking ws word (without (without left (2 ^ c)) (get_or ws c 0))
    seek-next other =
        record {
          part = λ j r e.
              s.part j r
              (and_left (bit left j) (not (eqb j c))
              (sym (cleared-bit left c j) ∙
              and_left (bit (without left (2 ^ c)) j) (not (bit (get_or ws c 0) j)) (sym (rest j) ∙ e)));
          kept = λ n few side in-n k r e.
              let h : bit word c ≡ true = s.part c l stands in
              let apart : eqb k c ≡ false =
              ne_eqb k c λ q. other (ap (λ (i : ℕ). get_or ws i 0) (sym q) ∙ e) in
              let off : bit (get_or ws c 0) k ≡ false =
              not-true-false (bit (get_or ws c 0) k) λ g.
              true-not-false (eqb k c) (eq-eqb k c (side.anti k c r (in-n c l h) (ap (λ (w : ℕ). bit w c) e ∙ h) g)) apart in
              rest k ∙
              rw (
                cleared-bit left c k,
                s.kept n few side in-n k r e,
                apart,
                off,
              );
        }
      where
        rest : (j : ℕ) → bit (without (without left (2 ^ c)) (get_or ws c 0)) j ≡ (bit (without left (2 ^ c)) j && not (bit (get_or ws c 0) j))
        rest j = without-bit (without left (2 ^ c)) (get_or ws c 0) j

-- the bits that two words share are below n
pub common-inside : (n : ℕ) (ws : List ℕ) (a b : ℕ) → a < n → Sided n ws → Inside n (bit_and (get_or ws a 0) (get_or ws b 0))
common-inside n ws a b l side j r e =
    side.inside a j l r (and_left (bit (get_or ws a 0) j) (bit (get_or ws b 0) j) (sym (and-bit (get_or ws a 0) (get_or ws b 0) j) ∙ e))

-- a type whose word has the bits that the words of a and b share is their bound
module _ (ws : List ℕ) (a b c : ℕ) (l : c < 64) (e : get_or ws c 0 ≡ bit_and (get_or ws a 0) (get_or ws b 0)) where
  pub bound_at : bit (bit_and (get_or ws a 0) (get_or ws b 0)) c ≡ true
      → (n : ℕ) → n ≤ 64 → Sided n ws → a < n → b < n → Some c ≡ answer (word_bound n ws a b)
  bound_at h n few side la lb = seek_found (seek-begin ws _) c l h e n few side (common-inside n ws a b la side)

  pub bound-own : (n : ℕ) → n ≤ 64 → Sided n ws → c < n → a < n → b < n → Some c ≡ answer (word_bound n ws a b)
  bound-own n few side lc = bound_at (ap (λ (w : ℕ). bit w c) (sym e) ∙ side.own c lc) n few side

-- a word without some of its bits has no bit at n or above where the word has none
pub without-inside : (n a b : ℕ) → Inside n a → Inside n (without a b)
without-inside n a b h j r e = h j r (and_left (bit a j) (not (bit b j)) (sym (without-bit a b j) ∙ e))

-- what the search answers for a part of type i's word
pub part-found : (n : ℕ) (ws : List ℕ) (i b v : ℕ) (r : Answer ℕ) → i < n → n ≤ 64 → Sided n ws → v ≡ without (get_or ws i 0) b
    → ((m : ℕ) → m ≤ 64 → Sided m ws → Inside m v → r ≡ answer (holder m ws v)) → is_some r ≡ found (holder n ws (without (get_or ws i 0) b))
part-found n ws i b v r l few side e answers =
    holder-found n ws v (without (get_or ws i 0) b) r e
    (answers n few side (subst (Inside n) (sym e) (without-inside n (get_or ws i 0) b (λ j. side.inside i j l))))
