-- Sums over the first n numbers.
use mathlib.Core.Path.{◌≡◌, refl}
use Prim.Native.Nat.{ℕ, zero, suc, ◌+◌, ◌≤◌, ◌<◌}
use native.Mathlib.Decide.{ℕ_discrete}
use native.Mathlib.Omega.{arith}
use Rattle.classes.specs.Classes.{sum_to}

pub sum_same : (n : ℕ) (g h : ℕ → ℕ) → ((x : ℕ) → x < n → g x ≡ h x) → sum_to n g ≡ sum_to n h
unfolding sum_to
sum_same zero g h e = refl
sum_same (suc n) g h e = omega (arith, sum_same n g h (λ x k. e x (omega arith)), e n (omega arith))

pub sum-most : (n : ℕ) (g : ℕ → ℕ) → ((x : ℕ) → x < n → g x ≤ 1) → sum_to n g ≤ n
unfolding sum_to
sum-most zero g e = omega arith
sum-most (suc n) g e = omega (arith, sum-most n g (λ x k. e x (omega arith)), e n (omega arith))

-- The sum of fewer values is no greater.
pub sum-prefix : (n m : ℕ) (g : ℕ → ℕ) → m ≤ n → sum_to m g ≤ sum_to n g
unfolding sum_to
sum-prefix zero zero g h = omega arith
sum-prefix zero (suc m) g h = absurd (omega arith)
sum-prefix (suc n) m g h = go (ℕ_discrete m (suc n)) (sum-prefix n m g)
  where
    go : Dec (m ≡ suc n) → (m ≤ n → sum_to m g ≤ sum_to n g) → sum_to m g ≤ sum_to n g + g n
    go (yes e) later = rw e (omega arith)
    go (no d) later = omega (arith, later (omega arith))

pub sum_one : (n i : ℕ) (g : ℕ → ℕ) → i < n → g i ≤ sum_to n g
unfolding sum_to
sum_one zero i g h = absurd (omega arith)
sum_one (suc n) i g h = go (ℕ_discrete i n) (sum_one n i g)
  where
    go : Dec (i ≡ n) → (i < n → g i ≤ sum_to n g) → g i ≤ sum_to n g + g n
    go (yes e) later = rw e (omega arith)
    go (no d) later = omega (arith, later (omega arith))

pub sum-two : (n i j : ℕ) (g : ℕ → ℕ) → i < j → j < n → g i + g j ≤ sum_to n g
unfolding sum_to
sum-two zero i j g l h = absurd (omega arith)
sum-two (suc n) i j g l h = go (ℕ_discrete j n) (sum-two n i j g l)
  where
    go : Dec (j ≡ n) → (j < n → g i + g j ≤ sum_to n g) → g i + g j ≤ sum_to n g + g n
    go (yes e) later = rw e (omega (arith, sum_one n i g (omega arith)))
    go (no d) later = omega (arith, later (omega arith))

-- How a sum changes where one value changes.
pub sum-change : (n i : ℕ) (g h : ℕ → ℕ) → i < n → ((x : ℕ) → x < n → (x ≡ i → ⊥) → g x ≡ h x) → sum_to n g + h i ≡ sum_to n h + g i
unfolding sum_to
sum-change zero i g h l e = absurd (omega arith)
sum-change (suc n) i g h l e = go (ℕ_discrete i n) (sum-change n i g h)
  where
    go : Dec (i ≡ n) → (i < n → ((x : ℕ) → x < n → (x ≡ i → ⊥) → g x ≡ h x) → sum_to n g + h i ≡ sum_to n h + g i) →
        sum_to n g + g n + h i ≡ sum_to n h + h n + g i
    go (yes q) later = rw q (omega (arith, sum_same n g h (λ x k. e x (omega arith) (λ z. omega arith))))
    go (no d) later = omega (arith, later (omega arith) (λ x k. e x (omega arith)), e n (omega arith) (λ z. omega arith))

-- How a sum changes where two values change.
pub sum-changes : (n i j : ℕ) (g h : ℕ → ℕ) → i < j → j < n → ((x : ℕ) → x < n → (x ≡ i → ⊥) → (x ≡ j → ⊥) → g x ≡ h x) →
    sum_to n g + (h i + h j) ≡ sum_to n h + (g i + g j)
unfolding sum_to
sum-changes zero i j g h l m e = absurd (omega arith)
sum-changes (suc n) i j g h l m e = go (ℕ_discrete j n) (sum-changes n i j g h l)
  where
    go : Dec (j ≡ n) →
        (j < n → ((x : ℕ) → x < n → (x ≡ i → ⊥) → (x ≡ j → ⊥) → g x ≡ h x) → sum_to n g + (h i + h j) ≡ sum_to n h + (g i + g j)) →
        sum_to n g + g n + (h i + h j) ≡ sum_to n h + h n + (g i + g j)
    go (yes q) later =
        rw q (omega (arith, sum-change n i g h (omega arith) (λ x k d. e x (omega arith) d (λ z. omega arith))))
    go (no d) later =
        omega (arith, later (omega arith) (λ x k. e x (omega arith)), e n (omega arith) (λ z. omega arith) (λ z. omega arith))
