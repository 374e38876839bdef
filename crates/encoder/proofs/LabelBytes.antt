-- A label has one byte, its type, where the range is full, and else three bytes.
use mathlib.Core.Path.{◌≡◌, sym, ◌∙◌, ap, ap₂}
use mathlib.Core.Bool.{Bool, true, false, cond}
use mathlib.Core.List.{List, [], ◌∷◌}
use Prim.Native.Nat.{ℕ, suc, ◌+◌, ◌*◌, ◌≤◌}
use native.Mathlib.Omega.{arith}
use lib.ListN.{length, set}
use lib.Seq.{sets}
use Rattle.lattice.specs.Label.{Label}
use Rattle.encoder.specs.Encode.{is_full, encoded_label}
use Rattle.encoder.specs.NumberedRows.{range_count}

module _ (l : Label) where
  -- The bytes.

  abbrev by_range : Bool → List ℕ
  by_range full = cond full (l.type ∷ []) ((128 + l.type) ∷ l.lowest ∷ l.highest ∷ [])

  full-bytes : is_full l ≡ true → encoded_label l ≡ by_range true
  unfolding encoded_label
  full-bytes e = ap by_range e

  ranged-bytes : is_full l ≡ false → encoded_label l ≡ by_range false
  unfolding encoded_label
  ranged-bytes e = ap by_range e

  pub full-length : is_full l ≡ true → length (encoded_label l) ≡ 1
  full-length e = ap length (full-bytes e)

  pub ranged-length : is_full l ≡ false → length (encoded_label l) ≡ 3
  ranged-length e = ap length (ranged-bytes e)

  pub full-stored : (out : List ℕ) (at : ℕ) → is_full l ≡ true → set out at l.type ≡ sets out at (encoded_label l)
  full-stored out at e = ap (sets out at) (sym (full-bytes e))

  pub ranged-stored : (out : List ℕ) (at : ℕ) → is_full l ≡ false →
      set (set (set out at (128 + l.type)) (at + 1) l.lowest) (at + 2) l.highest ≡ sets out at (encoded_label l)
  ranged-stored out at e =
      let one : at + 1 ≡ suc at = omega arith in
      let two : at + 2 ≡ suc (suc at) = omega arith in
      ap₂ (λ (i j : ℕ). set (set (set out at (128 + l.type)) i l.lowest) j l.highest) one two
      ∙ ap (sets out at) (sym (ranged-bytes e))

  -- one byte, and two more for a range
  pub label-length : (length (encoded_label l) ≡ 1 + 2 * range_count l) × (range_count l ≤ 1)
  unfolding encoded_label range_count
  label-length = go (is_full l)
    where
      go : (full : Bool) → (length (by_range full) ≡ 1 + 2 * cond full 0 1) × (cond full 0 1 ≤ 1)
      go true = (omega arith, omega arith)
      go false = (omega arith, omega arith)

  pub full-count : is_full l ≡ true → range_count l ≡ 0
  unfolding range_count
  full-count e = ap (λ (full : Bool). cond full 0 1) e

  pub ranged-count : is_full l ≡ false → range_count l ≡ 1
  unfolding range_count
  ranged-count e = ap (λ (full : Bool). cond full 0 1) e
