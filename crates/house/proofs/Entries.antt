-- This file is about a list by its entries: all entries are tested in one computation, and the result is carried to each entry.
use Prim.Native.Nat.{ℕ, zero, suc, ◌+◌, ◌<◌}
use mathlib.Core.Path.{◌≡◌, refl, sym, ap, subst, ◌∙◌}
use mathlib.Core.Bool.{Bool, true, ◌&&◌}
use mathlib.Core.List.{List, [], ◌∷◌}
use native.Mathlib.Nat.{add-zero, zero-add, add-suc, suc-add, le_of_suc-le-suc, not-suc-le-zero}
use native.Mathlib.Omega.{arith}
use lib.ListN.{length, get_or}
use lib.Seq.{ext_get_or}
use lib.Dec.{eqb}
use borrow.Author.Tests.{eqb-true}
use Rattle.lattice.proofs.Every.{and_left, and_right}
use Rattle.house.specs.House.{listed, entry_of, meets}

pub length-listed : (f : ℕ → ℕ) (i k : ℕ) → length (listed f i k) ≡ k
unfolding listed
length-listed f i zero = refl
length-listed f i (suc k) = ap suc (length-listed f (suc i) k)

listed-from : (f : ℕ → ℕ) (i k j : ℕ) → j < k → get_or (listed f i k) j 0 ≡ f (i + j)
unfolding listed
listed-from f i zero j l = absurd (not-suc-le-zero l)
listed-from f i (suc k) zero l = ap f (sym (add-zero i))
listed-from f i (suc k) (suc j) l = listed-from f (suc i) k j (le_of_suc-le-suc l) ∙ ap f (suc-add i j ∙ sym (add-suc i j))

-- entry j of a listed function is the function at j
pub get_or-listed : (f : ℕ → ℕ) (k j : ℕ) → j < k → get_or (listed f 0 k) j 0 ≡ f j
get_or-listed f k j l = listed-from f 0 k j l ∙ ap f (zero-add j)

-- every entry, with its place counted from i, passes
abbrev pub passes : (ℕ → ℕ → Bool) → ℕ → List ℕ → Bool
passes test i [] = true
passes test i (x ∷ xs) = test i x && passes test (suc i) xs

passes-from : (test : ℕ → ℕ → Bool) (xs : List ℕ) (i : ℕ) → passes test i xs ≡ true → (k : ℕ) → k < length xs
    → test (i + k) (get_or xs k 0) ≡ true
passes-from test [] i h k l = absurd (not-suc-le-zero l)
passes-from test (x ∷ xs) i h zero l =
    subst (λ (m : ℕ). test m x ≡ true) (sym (add-zero i)) (and_left (test i x) (passes test (suc i) xs) h)
passes-from test (x ∷ xs) i h (suc k) l =
    subst (λ (m : ℕ). test m (get_or xs k 0) ≡ true) (suc-add i k ∙ sym (add-suc i k))
    (passes-from test xs (suc i) (and_right (test i x) (passes test (suc i) xs) h) k (le_of_suc-le-suc l))

-- what passes as a whole passes at each entry
pub passes_at : (test : ℕ → ℕ → Bool) (xs : List ℕ) → passes test 0 xs ≡ true → (k : ℕ) → k < length xs → test k (get_or xs k 0) ≡ true
passes_at test xs h k l = subst (λ (m : ℕ). test m (get_or xs k 0) ≡ true) (zero-add k) (passes-from test xs 0 h k l)

-- the rule of the meets at one entry
abbrev pub is_entry : ℕ → ℕ → Bool
is_entry k x = eqb x (entry_of k)

-- 4,096 entries that pass are the meets
pub rule-meets : (xs : List ℕ) → passes is_entry 0 xs ≡ true → length xs ≡ 4096 → xs ≡ meets
unfolding meets
rule-meets xs h e =
    ext_get_or 0 xs meets (e ∙ sym (length-listed entry_of 0 4096)) λ k l.
    eqb-true (get_or xs k 0) (entry_of k) (passes_at is_entry xs h k l) ∙ sym (get_or-listed entry_of 4096 k (omega arith))
