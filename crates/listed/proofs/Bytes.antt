-- Records are in the order of their numbers: the order of the seven numbers is the order of the records' bytes.
use mathlib.Core.Path.{◌≡◌, refl, sym, ◌∙◌, subst}
use mathlib.Core.Bool.{Bool, true, false, cond, not, ◌&&◌, ◌||◌}
use mathlib.Core.List.{List, [], ◌∷◌, ◌++◌}
use mathlib.Core.Logic.{⊎_elim}
use Prim.Native.Nat.{ℕ, zero, suc, ◌-◌, ◌≤◌, ◌<◌}
use native.Mathlib.Omega.{arith}
use borrow.Author.Tests.{lt-ltb, eqb-true}
use lib.Dec.{eqb, leb, ltb}
use lib.ListN.{length}
use Rattle.graphs.specs.Rows.{from, target}
use Rattle.graphs.specs.Order.{all_of}
use Rattle.graphs.proofs.Lists.{from_member}
use Rattle.graphs.proofs.Order.{all_of-true}
use Rattle.graphs.proofs.Search.{true-left}
use Rattle.lattice.specs.Label.{is_full}
use Rattle.encoder.specs.Encode.{encoded, encoded_rows, encoded_row, encoded_label, bits_from}
use Rattle.listed.specs.Listing.{stated_rows, span, sets, precedes, Run}
use Rattle.listed.specs.Numbers.{link_bytes}
use Rattle.listed.proofs.Order.{Before, false-true, parts, parts-before, prefix-before, before-parts}

-- The bytes of one number, by the numbers before it.
unfoldable piece : List ℕ → ℕ → List ℕ
piece [] x = x ∷ []
piece (N ∷ []) x = x ∷ []
piece (t₀ ∷ N ∷ []) x = link_bytes 0 x
piece (c₀ ∷ t₀ ∷ N ∷ []) x = cond (leb 2 N) (x ∷ []) []
piece (t₁ ∷ c₀ ∷ t₀ ∷ N ∷ []) x = cond (leb 2 N) (link_bytes 1 x) []
piece (c₁ ∷ t₁ ∷ c₀ ∷ t₀ ∷ N ∷ []) x = cond (eqb N 3) (x ∷ []) []
piece (t₂ ∷ c₁ ∷ t₁ ∷ c₀ ∷ t₀ ∷ N ∷ []) x = cond (eqb N 3) (link_bytes 2 x) []
piece (c₂ ∷ t₂ ∷ c₁ ∷ t₁ ∷ c₀ ∷ t₀ ∷ N ∷ more) x = []

unfoldable pieces : List ℕ → List ℕ → List ℕ
pieces p [] = []
pieces p (x ∷ xs) = piece p x ++ pieces (x ∷ p) xs

module _ (bounds : List ℕ → ℕ × ℕ) (rise : (p : List ℕ) (x y : ℕ) → (bounds p).0 ≤ x → x < y → y ≤ (bounds p).1 → parts (piece p x) (piece p y) ≡ true) where
  pieces-before : (p xs ys : List ℕ) → Run bounds p xs → Run bounds p ys → length xs ≡ length ys → Before xs ys → Before (pieces p xs) (pieces p ys)
  unfolding pieces precedes
  pieces-before p [] [] r s e h = false-true h
  pieces-before p [] (y ∷ ys) r s e h = absurd (omega arith)
  pieces-before p (x ∷ xs) [] r s e h = absurd (omega arith)
  pieces-before p (x ∷ xs) (y ∷ ys) (a, b, r) (c, d, s) e h =
      ⊎_elim (λ (l : x < y). parts-before (piece p x) (piece p y) (pieces (x ∷ p) xs) (pieces (y ∷ p) ys) (rise p x y a l d))
      (λ q.
      subst (λ (z : ℕ). Before (piece p x ++ pieces (x ∷ p) xs) (piece p z ++ pieces (z ∷ p) ys)) q.0
      (prefix-before (piece p x) (pieces (x ∷ p) xs) (pieces (x ∷ p) ys)
      (pieces-before (x ∷ p) xs ys r (subst (λ (z : ℕ). Run bounds (z ∷ p) ys) (sym q.0) s) (omega (arith, e)) q.1)))
      (before-parts x y xs ys h)

-- Links with a higher number have higher bytes.

unfoldable rising : ℕ → ℕ → Bool
rising v k = all_of (from 0 k) λ x. all_of (from 0 k) λ y. not (ltb x y) || parts (link_bytes v x) (link_bytes v y)

rising-zero : rising 0 5 ≡ true
unfolding rising all_of from parts link_bytes bits_from target
rising-zero = refl

rising-one : rising 1 4 ≡ true
unfolding rising all_of from parts link_bytes bits_from target
rising-one = refl

rising-two : rising 2 4 ≡ true
unfolding rising all_of from parts link_bytes bits_from target
rising-two = refl

rises : (v k x y : ℕ) → rising v k ≡ true → x < y → y < k → parts (link_bytes v x) (link_bytes v y) ≡ true
unfolding rising
rises v k x y e l h =
    go (ltb x y) (lt-ltb x y l)
    (all_of-true (from 0 k) (λ z. not (ltb x z) || parts (link_bytes v x) (link_bytes v z))
    (all_of-true (from 0 k) (λ w. all_of (from 0 k) λ z. not (ltb w z) || parts (link_bytes v w) (link_bytes v z)) e x (from_member 0 k x (omega arith) (omega arith)))
    y (from_member 0 k y (omega arith) (omega arith)))
  where
    go : (b : Bool) → b ≡ true → (not b || parts (link_bytes v x) (link_bytes v y)) ≡ true → parts (link_bytes v x) (link_bytes v y) ≡ true
    go true q r = r
    go false q r = false-true q

pub sets-small : (F : ℕ) → sets F ≤ 3
sets-small F = go (eqb F 1)
  where
    go : (b : Bool) → cond b 1 3 ≤ 3
    go true = omega arith
    go false = omega arith

byte-rises : (x y : ℕ) → x < y → parts (x ∷ []) (y ∷ []) ≡ true
unfolding parts
byte-rises x y l = true-left (ltb x y) (eqb x y && false) (lt-ltb x y l)

rise : (n F : ℕ) (p : List ℕ) (x y : ℕ) → (span n F p).0 ≤ x → x < y → y ≤ (span n F p).1 → parts (piece p x) (piece p y) ≡ true
unfolding span piece
rise n F [] x y a l b = byte-rises x y l
rise n F (N ∷ []) x y a l b = byte-rises x y l
rise n F (t₀ ∷ N ∷ []) x y a l b = go (eqb N 1) (eqb N 3 && eqb F 2) b
  where
    go : (c d : Bool) → y ≤ (cond {A = ℕ × ℕ} c (0, 0) (1, cond d 4 (sets F))).1 → parts (link_bytes 0 x) (link_bytes 0 y) ≡ true
    go true d h = absurd (omega arith)
    go false true h = rises 0 5 x y rising-zero l (omega arith)
    go false false h = let s = sets-small F in rises 0 5 x y rising-zero l (omega arith)
rise n F (c₀ ∷ t₀ ∷ N ∷ []) x y a l b = go (leb 2 N) b
  where
    go : (c : Bool) → y ≤ (cond {A = ℕ × ℕ} c (1, n - 1) (0, 0)).1 → parts (cond c (x ∷ []) []) (cond c (y ∷ []) []) ≡ true
    go true h = byte-rises x y l
    go false h = absurd (omega arith)
rise n F (t₁ ∷ c₀ ∷ t₀ ∷ N ∷ []) x y a l b = go (eqb N 3) refl b
  where
    go : (c : Bool) → eqb N 3 ≡ c → y ≤ (cond {A = ℕ × ℕ} c (cond (eqb c₀ 4) 0 1, sets F) (0, 0)).1 → parts (cond (leb 2 N) (link_bytes 1 x) []) (cond (leb 2 N) (link_bytes 1 y) []) ≡ true
    go true e h =
        let s = sets-small F in
        subst (λ (m : ℕ). parts (cond (leb 2 m) (link_bytes 1 x) []) (cond (leb 2 m) (link_bytes 1 y) []) ≡ true) (sym (eqb-true N 3 e)) (rises 1 4 x y rising-one l (omega arith))
    go false e h = absurd (omega arith)
rise n F (c₁ ∷ t₁ ∷ c₀ ∷ t₀ ∷ N ∷ []) x y a l b = go (eqb N 3) b
  where
    go : (c : Bool) → y ≤ (cond {A = ℕ × ℕ} c (1, n - 1) (0, 0)).1 → parts (cond c (x ∷ []) []) (cond c (y ∷ []) []) ≡ true
    go true h = byte-rises x y l
    go false h = absurd (omega arith)
rise n F (t₂ ∷ c₁ ∷ t₁ ∷ c₀ ∷ t₀ ∷ N ∷ []) x y a l b = go (eqb N 3) (eqb c₀ 4) (eqb c₁ 0) b
  where
    go : (c d e : Bool) → y ≤ (cond {A = ℕ × ℕ} (c && d && e) (0, 3) (0, 0)).1 → parts (cond c (link_bytes 2 x) []) (cond c (link_bytes 2 y) []) ≡ true
    go true true true h = rises 2 4 x y rising-two l (omega arith)
    go true true false h = absurd (omega arith)
    go true false e h = absurd (omega arith)
    go false d e h = absurd (omega arith)
rise n F (c₂ ∷ t₂ ∷ c₁ ∷ t₁ ∷ c₀ ∷ t₀ ∷ N ∷ more) x y a l b = absurd (omega arith)

-- The bytes of seven numbers.
bytes-at : (n F N t₀ c₀ t₁ c₁ t₂ c₂ : ℕ) → Run (span n F) [] (N ∷ t₀ ∷ c₀ ∷ t₁ ∷ c₁ ∷ t₂ ∷ c₂ ∷ []) →
    pieces [] (N ∷ t₀ ∷ c₀ ∷ t₁ ∷ c₁ ∷ t₂ ∷ c₂ ∷ []) ≡ encoded (stated_rows (N ∷ t₀ ∷ c₀ ∷ t₁ ∷ c₁ ∷ t₂ ∷ c₂ ∷ []))
unfolding pieces piece link_bytes encoded encoded_rows encoded_row encoded_label is_full stated_rows span
bytes-at n F zero t₀ c₀ t₁ c₁ t₂ c₂ (a, b, r) = absurd (omega arith)
bytes-at n F (suc zero) t₀ c₀ t₁ c₁ t₂ c₂ r = refl
bytes-at n F (suc (suc zero)) t₀ c₀ t₁ c₁ t₂ c₂ r = refl
bytes-at n F (suc (suc (suc zero))) t₀ c₀ t₁ c₁ t₂ c₂ r = refl
bytes-at n F (suc (suc (suc (suc N)))) t₀ c₀ t₁ c₁ t₂ c₂ (a, b, r) = absurd (omega arith)

bytes-are : (n F : ℕ) (d : List ℕ) → length d ≡ 7 → Run (span n F) [] d → pieces [] d ≡ encoded (stated_rows d)
bytes-are n F [] e r = absurd (omega arith)
bytes-are n F (a ∷ []) e r = absurd (omega arith)
bytes-are n F (a ∷ b ∷ []) e r = absurd (omega arith)
bytes-are n F (a ∷ b ∷ c ∷ []) e r = absurd (omega arith)
bytes-are n F (a ∷ b ∷ c ∷ d ∷ []) e r = absurd (omega arith)
bytes-are n F (a ∷ b ∷ c ∷ d ∷ x ∷ []) e r = absurd (omega arith)
bytes-are n F (a ∷ b ∷ c ∷ d ∷ x ∷ y ∷ []) e r = absurd (omega arith)
bytes-are n F (a ∷ b ∷ c ∷ d ∷ x ∷ y ∷ z ∷ []) e r = bytes-at n F a b c d x y z r
bytes-are n F (a ∷ b ∷ c ∷ d ∷ x ∷ y ∷ z ∷ w ∷ more) e r = absurd (omega arith)

-- A record with earlier numbers comes before a record with later numbers.
pub record-before : (n F : ℕ) (d e : List ℕ) → length d ≡ 7 → length e ≡ 7 → Run (span n F) [] d → Run (span n F) [] e → Before d e →
    Before (encoded (stated_rows d)) (encoded (stated_rows e))
record-before n F d e i j r s h =
    subst (λ (u : List ℕ). Before u (encoded (stated_rows e))) (bytes-are n F d i r)
    (subst (λ (u : List ℕ). Before (pieces [] d) u) (bytes-are n F e j s) (pieces-before (span n F) (rise n F) [] d e r s (i ∙ sym j) h))
