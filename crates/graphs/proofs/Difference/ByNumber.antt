-- Links ordered by the number of their parent, then by feature, are in a strict total order.
use mathlib.Core.Path.{◌≡◌, refl}
use mathlib.Core.Bool.{Bool, true, false, ◌&&◌}
use mathlib.Core.Logic.{◌↔◌, ◌⊎◌, inl, inr, ⊎_elim}
use Prim.Native.Nat.{ℕ, suc, ◌<◌}
use native.Mathlib.Decide.{dec_lt}
use native.Mathlib.Omega.{arith}
use lib.Dec.{leb, eqb}
use borrow.Author.Tests.{leb-true, le-leb, eqb-true, eq-eqb}
use Rattle.graphs.specs.Difference.{Link, StrictOrder, by_number}
use Rattle.graphs.proofs.Search.{both_true, true-both, either_true, true-left, true-right}

-- l comes before m
abbrev pub Before : Link ℕ → Link ℕ → Type 0
Before l m = (l.0 < m.0) ⊎ ((l.0 ≡ m.0) × (l.1 < m.1))

pub by_number_lem : (l m : Link ℕ) → (by_number l m ≡ true) ↔ Before l m
unfolding by_number
by_number_lem l m = (
  λ e.
      ⊎_elim (λ (a : leb (suc l.0) m.0 ≡ true). inl (leb-true (suc l.0) m.0 a))
      (λ (a : (eqb l.0 m.0 && leb (suc l.1) m.1) ≡ true).
      let (b, c) = both_true (eqb l.0 m.0) (leb (suc l.1) m.1) a in
      inr (eqb-true l.0 m.0 b, leb-true (suc l.1) m.1 c))
      (either_true (leb (suc l.0) m.0) (eqb l.0 m.0 && leb (suc l.1) m.1) e),
  λ a.
      ⊎_elim
      (λ (b : l.0 < m.0).
      true-left (leb (suc l.0) m.0) (eqb l.0 m.0 && leb (suc l.1) m.1) (le-leb (suc l.0) m.0 b))
      (λ (b : (l.0 ≡ m.0) × (l.1 < m.1)).
      true-right (leb (suc l.0) m.0) (eqb l.0 m.0 && leb (suc l.1) m.1)
      (true-both (eqb l.0 m.0) (leb (suc l.1) m.1) (eq-eqb l.0 m.0 b.0) (le-leb (suc l.1) m.1 b.1)))
      a,
)

before-trans : (l m n : Link ℕ) → Before l m → Before m n → Before l n
before-trans l m n (inl a) (inl b) = inl (omega arith)
before-trans l m n (inl a) (inr b) = inl (omega arith)
before-trans l m n (inr a) (inl b) = inl (omega arith)
before-trans l m n (inr a) (inr b) = inr (omega arith, omega arith)

before-irrefl : (l : Link ℕ) → Before l l → ⊥
before-irrefl l (inl a) = omega arith
before-irrefl l (inr a) = omega arith

before-total : (l m : Link ℕ) → Before l m ⊎ Before m l ⊎ (l ≡ m)
before-total l m = go (dec_lt l.0 m.0) (dec_lt m.0 l.0) (dec_lt l.1 m.1) (dec_lt m.1 l.1)
  where
    go : Dec (l.0 < m.0) → Dec (m.0 < l.0) → Dec (l.1 < m.1) → Dec (m.1 < l.1) → Before l m ⊎ Before m l ⊎ (l ≡ m)
    go (yes a) b c d = inl (inl a)
    go (no a) (yes b) c d = inr (inl (inl b))
    go (no a) (no b) (yes c) d = inl (inr (omega arith, c))
    go (no a) (no b) (no c) (yes d) = inr (inl (inr (omega arith, d)))
    go (no a) (no b) (no c) (no d) =
        let p : l.0 ≡ m.0 = omega arith in
        let q : l.1 ≡ m.1 = omega arith in
        inr (inr λ i. (p i, q i))

pub by-number-order : StrictOrder by_number
by-number-order =
    record {
      irreflexive = irreflexive;
      transitive = λ l m n a b. (by_number_lem l n).1 (before-trans l m n ((by_number_lem l m).0 a) ((by_number_lem m n).0 b));
      total = λ l m.
          ⊎_elim (λ (a : Before l m). inl ((by_number_lem l m).1 a))
          (λ (a : Before m l ⊎ (l ≡ m)).
          inr (⊎_elim (λ (b : Before m l). inl ((by_number_lem m l).1 b)) (λ (b : l ≡ m). inr b) a))
          (before-total l m);
    }
  where
    irreflexive : (l : Link ℕ) → by_number l l ≡ false
    irreflexive l = go (by_number l l) refl
      where
        go : (b : Bool) → by_number l l ≡ b → by_number l l ≡ false
        go true e = absurd (before-irrefl l ((by_number_lem l l).0 e))
        go false e = e
