-- Parts of words: of a union, and of a word with one bit cleared.
use Prim.Native.Nat.{ℕ, ◌^◌}
use mathlib.Core.Path.{◌≡◌, refl, sym, ap, subst, ◌∙◌}
use mathlib.Core.Bool.{Bool, true, false, not, ◌&&◌, ◌||◌}
use lib.Bits.{bit_or}
use lib.Dec.{eqb}
use borrow.Author.Tests.{eq-eqb, ne_eqb, not-true}
use Rattle.graphs.proofs.Search.{same_test, not-true-false, true-both, true-left, true-right}
use Rattle.lattice.specs.Words.{bit, without, part_of}
use Rattle.lattice.proofs.Every.{and_left, and_right, true-not-false}
use Rattle.lattice.proofs.Bits.{or-bit, cleared-bit, part-bit, part-from}

-- two words are parts of a third where their union is
pub or-part : (a b m : ℕ) → part_of (bit_or a b) m ≡ (part_of a m && part_of b m)
or-part a b m =
    same_test (part_of (bit_or a b) m) (part_of a m && part_of b m)
    (λ h.
    true-both (part_of a m) (part_of b m)
    (part-from a m λ j e. part-bit (bit_or a b) m h j (or-bit a b j ∙ true-left (bit a j) (bit b j) e))
    (part-from b m λ j e. part-bit (bit_or a b) m h j (or-bit a b j ∙ true-right (bit a j) (bit b j) e)))
    (λ h.
    part-from (bit_or a b) m λ j e.
    either j (bit a j) refl (part-bit a m (and_left (part_of a m) (part_of b m) h) j)
    (part-bit b m (and_right (part_of a m) (part_of b m) h) j) (sym (or-bit a b j) ∙ e))
  where
    either : (j : ℕ) (x : Bool) → bit a j ≡ x → (bit a j ≡ true → bit m j ≡ true) → (bit b j ≡ true → bit m j ≡ true)
        → (bit a j || bit b j) ≡ true → bit m j ≡ true
    either j true e f g h = f e
    either j false e f g h = g (rw e at h)

-- a word is part of another with bit i cleared where it is part of the other and has no bit i
pub cleared-part : (a b i : ℕ) → part_of a (without b (2 ^ i)) ≡ (part_of a b && not (bit a i))
cleared-part a b i =
    same_test (part_of a (without b (2 ^ i))) (part_of a b && not (bit a i))
    (λ h.
    true-both (part_of a b) (not (bit a i))
    (part-from a b λ j e. and_left (bit b j) (not (eqb j i)) (sym (cleared-bit b i j) ∙ part-bit a (without b (2 ^ i)) h j e))
    (ap not
    (not-true-false (bit a i) λ e.
    true-not-false (eqb i i) (eq-eqb i i refl)
    (not-true (eqb i i)
    (and_right (bit b i) (not (eqb i i)) (sym (cleared-bit b i i) ∙ part-bit a (without b (2 ^ i)) h i e))))))
    (λ h.
    part-from a (without b (2 ^ i)) λ j e.
    cleared-bit b i j ∙
    true-both (bit b j) (not (eqb j i)) (part-bit a b (and_left (part_of a b) (not (bit a i)) h) j e)
    (ap not
    (ne_eqb j i λ q.
    true-not-false (bit a i) (subst (λ (k : ℕ). bit a k ≡ true) q e)
    (not-true (bit a i) (and_right (part_of a b) (not (bit a i)) h)))))
