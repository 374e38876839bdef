-- Links ordered by the place of their feature in a list, then by the number of their parent, are in a strict total order, whichever
-- list it is, because no two features have the same place.
use mathlib.Core.Path.{◌≡◌, refl, sym, ◌∙◌, ap}
use mathlib.Core.Bool.{Bool, true, false, cond}
use mathlib.Core.List.{List, [], ◌∷◌}
use mathlib.Core.Logic.{◌↔◌, ◌⊎◌, inl, inr, ⊎_elim}
use Prim.Native.Nat.{ℕ, zero, suc, ◌<◌}
use native.Mathlib.Omega.{arith}
use lib.Dec.{eqb}
use borrow.Author.Tests.{eqb-true}
use Rattle.graphs.specs.Difference.{Link, StrictOrder, by_number, place_in, by_reading}
use Rattle.graphs.proofs.Difference.ByNumber.{Before, by_number_lem, by-number-order}

pub one_place : (list : List ℕ) (f h : ℕ) → place_in list f ≡ place_in list h → f ≡ h
unfolding place_in
one_place [] f h e = e
one_place (x ∷ xs) f h e = go (eqb x f) refl (eqb x h) refl e (one_place xs f h)
  where
    go : (a : Bool) → eqb x f ≡ a → (b : Bool) → eqb x h ≡ b →
        cond a zero (suc (place_in xs f)) ≡ cond b zero (suc (place_in xs h)) → (place_in xs f ≡ place_in xs h → f ≡ h) → f ≡ h
    go true p true q e later = sym (eqb-true x f p) ∙ eqb-true x h q
    go true p false q e later = absurd (omega arith)
    go false p true q e later = absurd (omega arith)
    go false p false q e later = later (omega arith)

-- a link by the place of its feature, and its parent
key : List ℕ → Link ℕ → Link ℕ
key list l = (place_in list l.1, l.0)

-- l comes before m
abbrev pub BeforeIn : List ℕ → Link ℕ → Link ℕ → Type 0
BeforeIn list l m = (place_in list l.1 < place_in list m.1) ⊎ ((l.1 ≡ m.1) × (l.0 < m.0))

by_key : (list : List ℕ) (l m : Link ℕ) → by_reading list l m ≡ by_number (key list l) (key list m)
unfolding by_reading by_number key
by_key list l m = refl

key-before : (list : List ℕ) (l m : Link ℕ) → Before (key list l) (key list m) ↔ BeforeIn list l m
unfolding key
key-before list l m = (
  λ a.
      ⊎_elim (λ (b : place_in list l.1 < place_in list m.1). inl b)
      (λ (b : (place_in list l.1 ≡ place_in list m.1) × (l.0 < m.0)). inr (one_place list l.1 m.1 b.0, b.1)) a,
  λ a.
      ⊎_elim (λ (b : place_in list l.1 < place_in list m.1). inl b)
      (λ (b : (l.1 ≡ m.1) × (l.0 < m.0)). inr (ap (place_in list) b.0, b.1)) a,
)

pub by-reading : (list : List ℕ) (l m : Link ℕ) → (by_reading list l m ≡ true) ↔ BeforeIn list l m
by-reading list l m = (
  λ e. (key-before list l m).0 ((by_number_lem (key list l) (key list m)).0 (sym (by_key list l m) ∙ e)),
  λ a. by_key list l m ∙ (by_number_lem (key list l) (key list m)).1 ((key-before list l m).1 a),
)

one_key : (list : List ℕ) (l m : Link ℕ) → key list l ≡ key list m → l ≡ m
unfolding key
one_key list l m e =
    let p : l.0 ≡ m.0 = ap (λ (k : Link ℕ). k.1) e in
    let q : l.1 ≡ m.1 = one_place list l.1 m.1 (ap (λ (k : Link ℕ). k.0) e) in
    λ i. (p i, q i)

pub by-reading-order : (list : List ℕ) → StrictOrder (by_reading list)
by-reading-order list =
    record {
      irreflexive = λ l. by_key list l l ∙ by-number-order.irreflexive (key list l);
      transitive = λ l m n a b.
          by_key list l n ∙
          by-number-order.transitive (key list l) (key list m) (key list n) (sym (by_key list l m) ∙ a) (sym (by_key list m n) ∙ b);
      total = λ l m.
          ⊎_elim (λ (a : by_number (key list l) (key list m) ≡ true). inl (by_key list l m ∙ a))
          (λ (a : (by_number (key list m) (key list l) ≡ true) ⊎ (key list l ≡ key list m)).
          inr (⊎_elim (λ (b : by_number (key list m) (key list l) ≡ true). inl (by_key list m l ∙ b))
          (λ (b : key list l ≡ key list m). inr (one_key list l m b)) a))
          (by-number-order.total (key list l) (key list m));
    }
