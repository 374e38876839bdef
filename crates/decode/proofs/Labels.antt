-- This file is about the label that bytes state at a place: its length and its parts by the bytes there, and the step that takes
-- it.
use mathlib.Core.Path.{◌≡◌, refl, sym, ap, ◌∙◌}
use mathlib.Core.Bool.{Bool, true, false, cond}
use mathlib.Core.List.{List}
use Prim.Native.Nat.{ℕ, ◌+◌, ◌-◌, ◌%◌, ◌≤◌, ◌<◌}
use native.Mathlib.Nat.{add-zero}
use native.Mathlib.Omega.{arith}
use borrow.Author.Tests.{le-leb, lt-leb}
use lib.ListN.{length, get_or, drop}
use lib.Seq.{get_or-drop}
use Rattle.lattice.specs.Label.{Label, plain}
use Rattle.lattice.specs.Labels.{Known}
use Rattle.decode.specs.Decode.{is_ranged, label_length, label_of}
use Rattle.decode.specs.Reader.{ByteTaken, LabelTaken}

-- the label with the levels behind its type
abbrev ranged : List ℕ → Label
ranged rest = record { type = get_or rest 0 0 % 128; lowest = get_or rest 1 0; highest = get_or rest 2 0 }

-- a type has seven bits, a level is a byte
pub label-known : (rest : List ℕ) → ((i : ℕ) → get_or rest i 0 < 256) → Known 128 (label_of rest)
unfolding label_of
label-known rest small = go (is_ranged (get_or rest 0 0))
  where
    go : (b : Bool) → Known 128 (cond b (ranged rest) (plain (get_or rest 0 0 % 128)))
    go true = record { type = omega arith; lowest = omega (arith, small 1); highest = omega (arith, small 2) }
    go false = record { type = omega arith; lowest = omega arith; highest = omega arith }

-- a label has a type byte at least
pub label-long : (rest : List ℕ) → 1 ≤ label_length rest
unfolding label_length
label-long rest = go (is_ranged (get_or rest 0 0))
  where
    go : (b : Bool) → 1 ≤ cond b 3 1
    go true = omega arith
    go false = omega arith

-- a label of one byte is a type alone
pub label-alone : (rest : List ℕ) → label_length rest ≡ 1 → label_of rest ≡ plain (label_of rest).type
unfolding label_length label_of
label-alone rest = go (is_ranged (get_or rest 0 0))
  where
    label : Bool → Label
    label b = cond b (ranged rest) (plain (get_or rest 0 0 % 128))

    go : (b : Bool) → ◌≡◌ {A = ℕ} (cond b 3 1) 1 → label b ≡ plain (label b).type
    go true e = absurd (omega arith)
    go false e = refl

module _ (bytes : List ℕ) (at : ℕ) where
  abbrev rest : List ℕ
  rest = drop at bytes

  first-is : get_or rest 0 0 ≡ get_or bytes at 0
  first-is = get_or-drop at bytes 0 0 ∙ ap (λ (k : ℕ). get_or bytes k 0) (add-zero at)

  step-found : {l : Label} {n behind : ℕ} → label_of rest ≡ l → label_length rest ≡ n → n ≤ length bytes - at → behind ≡ at + n →
      LabelTaken bytes at l behind
  step-found e f inside g = record { inside = omega arith; label_is = sym e; next-is = omega arith }

  -- no byte
  pub label-ended : length bytes ≤ at → length bytes - at < label_length rest
  label-ended h = omega (arith, label-long rest)

  module _ {b behind : ℕ} (t : ByteTaken bytes at b behind) where
    type-is : get_or rest 0 0 ≡ b
    type-is = first-is ∙ sym t.byte-is

    -- a type alone
    pub label-plain : b < 128 → LabelTaken bytes at (plain b) behind
    unfolding label_of label_length
    label-plain h =
        step-found (ap (λ (c : Bool). cond c (ranged rest) (plain (get_or rest 0 0 % 128))) alone ∙ ap plain (omega (arith, type-is)))
        (ap (λ (c : Bool). cond c 3 1) alone) (omega (arith, t.inside)) t.next-is
      where
        alone : is_ranged (get_or rest 0 0) ≡ false
        alone = lt-leb 128 (get_or rest 0 0) (omega (arith, type-is))

    has-range : 128 ≤ b → is_ranged (get_or rest 0 0) ≡ true
    has-range h = le-leb 128 (get_or rest 0 0) (omega (arith, type-is))

    ranged-length : 128 ≤ b → label_length rest ≡ 3
    unfolding label_length
    ranged-length h = ap (λ (c : Bool). cond c 3 1) (has-range h)

    -- no byte for a level
    pub label-unranged : 128 ≤ b → length bytes ≤ at + 2 → length bytes - at < label_length rest
    label-unranged h short = omega (arith, ranged-length h)

    -- a type and two levels
    pub label-ranged : {low after high next : ℕ} → 128 ≤ b → b < 256 → ByteTaken bytes behind low after → ByteTaken bytes after high next →
        LabelTaken bytes at (record { type = b - 128; lowest = low; highest = high }) next
    unfolding label_of
    label-ranged {low} {high = high} h small l m =
        step-found
        (ap (λ (c : Bool). cond c (ranged rest) (plain (get_or rest 0 0 % 128))) (has-range h)
        ∙ (λ i. record { type = type i; lowest = level 1 t.next-is l i; highest = level 2 (omega (arith, t.next-is, l.next-is)) m i }))
        (ranged-length h) (omega (arith, t.next-is, l.next-is, m.next-is, m.inside)) (omega (arith, t.next-is, l.next-is, m.next-is))
      where
        type : get_or rest 0 0 % 128 ≡ b - 128
        type = omega (arith, type-is)

        level : (k : ℕ) {place c after : ℕ} → place ≡ at + k → ByteTaken bytes place c after → get_or rest k 0 ≡ c
        level k e taken = get_or-drop at bytes k 0 ∙ ap (λ (j : ℕ). get_or bytes j 0) (sym e) ∙ sym taken.byte-is
