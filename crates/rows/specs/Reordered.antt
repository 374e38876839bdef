-- This file defines what it is for rows to stand "in any order" (document 02, Paper 2).
use mathlib.Core.List.{List, ◌∷◌, Memᴰ}

-- One list is another in a different order: it comes from the other by swaps of two neighbours.
pub data Reordered {A : Type 0} : List A → List A → Type 0 where
  same : (xs : List A) → Reordered xs xs
  kept : (x : A) {xs ys : List A} → Reordered xs ys → Reordered (x ∷ xs) (x ∷ ys)
  swapped : (x y : A) (xs : List A) → Reordered (x ∷ y ∷ xs) (y ∷ x ∷ xs)
  again : {xs ys zs : List A} → Reordered xs ys → Reordered ys zs → Reordered xs zs

-- two lists have the same members
abbrev pub SameMembers : {A : Type 0} → List A → List A → Type 0
SameMembers {A} xs ys = ((x : A) → Memᴰ x xs → Memᴰ x ys) × ((x : A) → Memᴰ x ys → Memᴰ x xs)
