-- This file is about the loops that make the type table: each turn stores one byte of the table, and the rest is still to be stored.
use Prim.Native.Nat.{ℕ, suc, ◌+◌, ◌-◌, ◌<◌, ◌≤◌}
use mathlib.Core.Path.{◌≡◌, refl, sym, ap, ◌∙◌}
use mathlib.Core.Bool.{Bool}
use mathlib.Core.List.{List, ◌++◌}
use native.Mathlib.Numerals.{add-one}
use native.Mathlib.Omega.{arith}
use lib.ListN.{length, set, drop}
use lib.Seq.{sets, sets-eq}
use borrow.Author.Tests.{le-leb, lt-leb}
use Rattle.lattice.specs.Words.{word}
use Rattle.lattice.proofs.WordLaws.{word_below}
use Rattle.house.specs.House.{listed, byte_of, house_table, tabled}
use Rattle.house.proofs.Entries.{length-listed}

-- eight bits are a byte
pub byte_fits : (p : ℕ → Bool) (w j : ℕ) → j ≤ 8 → 8 ≤ j → w ≡ word j p → w < 256
byte_fits p w j l s e =
    let eight : j ≡ 8 = omega arith in
    let same : word j p ≡ word 8 p = ap (λ (k : ℕ). word k p) eight in
    omega (arith, word_below 8 p)

-- what is left to store, from byte k on
abbrev pub left : List ℕ → ℕ → List ℕ
left out k = sets out k (listed byte_of k (512 - k))

pub fill_start : (out : List ℕ) → sets out 0 house_table ≡ left out 0
unfolding house_table
fill_start out = refl

pub fill_step : {all : List ℕ} (out : List ℕ) (k v : ℕ) → k < 512 → v ≡ byte_of k → all ≡ left out k → all ≡ left (set out k v) (k + 1)
unfolding listed
fill_step out k v l e h =
    let more : 512 - k ≡ suc (512 - (k + 1)) = omega arith in
    h ∙ ap (λ (n : ℕ). sets out k (listed byte_of k n)) more
    ∙ ap (λ (x : ℕ). sets (set out k x) (suc k) (listed byte_of (suc k) (512 - (k + 1)))) (sym e)
    ∙ ap (λ (n : ℕ). sets (set out k v) n (listed byte_of n (512 - (k + 1)))) (sym (add-one k))

pub length-table : length house_table ≡ 512
unfolding house_table
length-table = length-listed byte_of 0 512

pub fill_end : (old out : List ℕ) (k : ℕ) → 512 ≤ k → 512 ≤ length old → sets old 0 house_table ≡ left out k → out ≡ tabled old
unfolding listed tabled
fill_end old out k l room h =
    let none : 512 - k ≡ 0 = omega arith in
    let done : left out k ≡ out = ap (λ (n : ℕ). sets out k (listed byte_of k n)) none in
    let size : 0 + length house_table ≡ 512 = omega (arith, length-table) in
    sym done ∙ sym h ∙ sets-eq house_table old 0 (omega (arith, length-table))
    ∙ ap (λ (n : ℕ). house_table ++ drop n old) size ∙ sym (rw (le-leb 512 (length old) room))

-- an output that is too short is left as it is
pub fill_none : (old : List ℕ) → length old < 512 → old ≡ tabled old
unfolding tabled
fill_none old h = rw (lt-leb 512 (length old) h)
