-- A turn of the loop that prints: it puts one entry and the byte behind it, in at most three bytes.
use Prim.Native.Nat.{ℕ, ◌+◌, ◌*◌, ◌/◌, ◌<◌, ◌≤◌}
use mathlib.Core.Path.{◌≡◌, refl, ap, subst, sym, ◌∙◌}
use mathlib.Core.List.{List, [], ◌∷◌, ◌++◌}
use native.Mathlib.Decide.{dec_lt}
use native.Mathlib.Numerals.{add-one}
use native.Mathlib.Omega.{arith}
use lib.ListN.{length, get_or, set, length-set}
use lib.Seq.{length-sets}
use Rattle.house.specs.House.{meets}
use Rattle.house.proofs.Theorems.{meets-types}
use Rattle.text.specs.Text.{Puts, decimal}
use Rattle.text.proofs.Texts.{puts_then, puts-byte, decimal-one, decimal-length}
use Rattle.house_types.specs.Text.{after, text_to, text_of}

-- The first k entries are put, and `at` is the next place.
pub record Printing (old entries new : List ℕ) (at k : ℕ) : Type 0 where
  pub within : k ≤ 4096
  pub short : at ≤ 3 * k
  pub room : 12288 ≤ length old
  pub size : length new ≡ length old
  pub is : entries ≡ meets
  pub put : Puts (text_to entries k) 0 old at new

pub print-start : (old entries : List ℕ) → 12288 ≤ length old → entries ≡ meets → Printing old entries old 0 0
unfolding text_to
print-start old entries h e = record {
  within = omega arith;
  short = omega arith;
  room = h;
  size = refl;
  is = e;
  put = record { next-is = refl; new_is = refl };
}

two_digits : (n : ℕ) → n < 100 → length (decimal n) ≤ 2
two_digits n l = go (dec_lt n 10)
  where
    go : Dec (n < 10) → length (decimal n) ≤ 2
    go (yes s) = omega (arith, ap length (decimal-one n s))
    go (no s) = omega (arith, decimal-length n (omega arith), ap length (decimal-one (n / 10) (omega arith)))

module _ {old entries new : List ℕ} {at k : ℕ} (p : Printing old entries new at k) (l : k < 4096) where
  digits : length (decimal (get_or entries k 0)) ≤ 2
  digits =
      let small : get_or meets k 0 < 64 = meets-types k l in
      let same : get_or entries k 0 ≡ get_or meets k 0 = ap (λ (xs : List ℕ). get_or xs k 0) p.is in
      two_digits (get_or entries k 0) (omega arith)

  pub print-room : at + length (decimal (get_or entries k 0)) ≤ length new
  print-room = omega (arith, digits, p.short, p.room, p.size)

  module _ {next : ℕ} {part : List ℕ} (d : Puts (decimal (get_or entries k 0)) at new next part) where
    same_size : length part ≡ length new
    same_size = ap length d.new_is ∙ length-sets new at (decimal (get_or entries k 0))

    pub print-place : (next < length part) × (next < 12288)
    print-place =
        (omega (arith, digits, d.next-is, same_size, p.short, p.room, p.size), omega (arith, digits, d.next-is, p.short))

    pub print-step : (v : ℕ) → v ≡ after k → Printing old entries (set part next v) (next + 1) (k + 1)
    unfolding text_to
    print-step v e = record {
      within = omega arith;
      short = omega (arith, digits, d.next-is, p.short);
      room = p.room;
      size = length-set part next v ∙ same_size ∙ p.size;
      is = p.is;
      put =
          subst (λ (text : List ℕ). Puts text 0 old (next + 1) (set part next v))
          (ap (λ (x : ℕ). text_to entries k ++ (decimal (get_or entries k 0) ++ (x ∷ []))) e ∙ ap (text_to entries) (sym (add-one k)))
          (puts_then p.put (puts_then d (puts-byte next part v)));
    }

-- At the end of the loop the whole text is put.
pub print-end : {old entries new : List ℕ} {at k : ℕ} → Printing old entries new at k → 4096 ≤ k → (at ≤ 12288) × Puts (text_of meets) 0 old at new
print-end {old} {entries} {new} {at} {k} p l =
    let last : k ≡ 4096 = omega (arith, p.within) in
    (omega (arith, p.within, p.short), subst (λ (text : List ℕ). Puts text 0 old at new) (ap (text_to entries) last ∙ ap text_of p.is) p.put)
