-- How many listed records there are, by the number of types: a table of n types has n - 1 types besides the contradiction.
use mathlib.Core.Path.{◌≡◌, refl, sym, ◌∙◌, ap, ap₂, subst}
use mathlib.Core.List.{List, [], ◌∷◌, ◌++◌, map, flat_map}
use Prim.Native.Nat.{ℕ, zero, suc, ◌+◌, ◌*◌, ◌-◌, ◌≤◌, ◌<◌}
use native.Mathlib.Nat.{zero-mul, suc-mul, one-mul, mul-one, mul_left_comm, add_comm}
use native.Mathlib.Omega.{arith}
use lib.ListN.{length, length-append, length-map}
use Rattle.graphs.specs.Rows.{from}
use Rattle.listed.specs.Listing.{span, runs, listing, record_of}

-- Lists that begin with one of k numbers, where each number begins as many lists.
spread-length : (make : ℕ → List (List ℕ)) (c a k : ℕ) → ((x : ℕ) → a ≤ x → x < a + k → length (make x) ≡ c) →
    length (flat_map (λ x. map (λ xs. x ∷ xs) (make x)) (from a k)) ≡ k * c
unfolding from flat_map
spread-length make c a zero h = sym (zero-mul c)
spread-length make c a (suc k) h =
    length-append (map (λ xs. a ∷ xs) (make a)) (flat_map (λ x. map (λ xs. x ∷ xs) (make x)) (from (suc a) k))
    ∙ ap₂ (λ (u v : ℕ). u + v) (length-map (make a) (λ xs. a ∷ xs) ∙ h a (omega arith) (omega arith))
    (spread-length make c (suc a) k (λ x l u. h x (omega arith) (omega arith)))
    ∙ add_comm c (k * c) ∙ sym (suc-mul k c)

module _ (bounds : List ℕ → ℕ × ℕ) (p : List ℕ) (k : ℕ) where
  level : (w c : ℕ) → suc (bounds p).1 - (bounds p).0 ≡ w → ((x : ℕ) → (bounds p).0 ≤ x → x < (bounds p).0 + w → length (runs bounds (x ∷ p) k) ≡ c) →
      length (runs bounds p (suc k)) ≡ w * c
  unfolding runs
  level w c e h =
      ap (λ (v : ℕ). length (flat_map (λ x. map (λ xs. x ∷ xs) (runs bounds (x ∷ p) k)) (from (bounds p).0 v))) e
      ∙ spread-length (λ x. runs bounds (x ∷ p) k) c (bounds p).0 w h

module _ (A B C : List (List ℕ)) (x y z : ℕ) where
  three-parts : length (map (λ xs. x ∷ xs) A ++ (map (λ xs. y ∷ xs) B ++ (map (λ xs. z ∷ xs) C ++ []))) ≡ length A + (length B + length C)
  three-parts =
      omega (
        arith,
        length-append (map (λ xs. x ∷ xs) A) (map (λ xs. y ∷ xs) B ++ (map (λ xs. z ∷ xs) C ++ [])),
        length-append (map (λ xs. y ∷ xs) B) (map (λ xs. z ∷ xs) C ++ []),
        length-append (map (λ xs. z ∷ xs) C) [],
        length-map A (λ xs. x ∷ xs),
        length-map B (λ xs. y ∷ xs),
        length-map C (λ xs. z ∷ xs),
      )

  four-parts : (D : List (List ℕ)) (w : ℕ) →
      length (map (λ xs. w ∷ xs) D ++ (map (λ xs. x ∷ xs) A ++ (map (λ xs. y ∷ xs) B ++ (map (λ xs. z ∷ xs) C ++ [])))) ≡
      length D + (length A + (length B + length C))
  four-parts D w =
      length-append (map (λ xs. w ∷ xs) D) (map (λ xs. x ∷ xs) A ++ (map (λ xs. y ∷ xs) B ++ (map (λ xs. z ∷ xs) C ++ [])))
      ∙ ap₂ (λ (u v : ℕ). u + v) (length-map D (λ xs. w ∷ xs)) three-parts

-- One node: a type.

module _ (n F : ℕ) (low : 2 ≤ n) where
  types : suc (n - 1) - 1 ≡ n - 1
  types = omega arith

  behind-one : (t₀ : ℕ) → length (runs (span n F) (t₀ ∷ 1 ∷ []) 5) ≡ 1
  unfolding runs span from flat_map
  behind-one t₀ = refl

  one-node : length (runs (span n F) (1 ∷ []) 6) ≡ n - 1
  unfolding span
  one-node = level (span n F) (1 ∷ []) 5 (n - 1) 1 types (λ t l h. behind-one t) ∙ mul-one (n - 1)

  -- Two nodes: two types, and the links between them.

  behind-two : (t₀ c₀ t₁ : ℕ) → length (runs (span n F) (t₁ ∷ c₀ ∷ t₀ ∷ 2 ∷ []) 3) ≡ 1
  unfolding runs span from flat_map
  behind-two t₀ c₀ t₁ = refl

  second_type : (t₀ c₀ : ℕ) → length (runs (span n F) (c₀ ∷ t₀ ∷ 2 ∷ []) 4) ≡ n - 1
  unfolding span
  second_type t₀ c₀ = level (span n F) (c₀ ∷ t₀ ∷ 2 ∷ []) 3 (n - 1) 1 types (λ t l h. behind-two t₀ c₀ t) ∙ mul-one (n - 1)

-- Three nodes: a root whose links lead to node 1.

module _ (n F t₀ t₁ : ℕ) (low : 2 ≤ n) where
  behind-1 : (c t : ℕ) → length (runs (span n F) (t ∷ c ∷ t₁ ∷ 1 ∷ t₀ ∷ 3 ∷ []) 1) ≡ 1
  unfolding runs span from flat_map
  behind-1 c t = refl

  last-1 : (c : ℕ) → length (runs (span n F) (c ∷ t₁ ∷ 1 ∷ t₀ ∷ 3 ∷ []) 2) ≡ n - 1
  unfolding span
  last-1 c = level (span n F) (c ∷ t₁ ∷ 1 ∷ t₀ ∷ 3 ∷ []) 1 (n - 1) 1 (types n F low) (λ t l h. behind-1 c t) ∙ mul-one (n - 1)

  behind-2 : (c t : ℕ) → length (runs (span n F) (t ∷ c ∷ t₁ ∷ 2 ∷ t₀ ∷ 3 ∷ []) 1) ≡ 1
  unfolding runs span from flat_map
  behind-2 c t = refl

  last-2 : (c : ℕ) → length (runs (span n F) (c ∷ t₁ ∷ 2 ∷ t₀ ∷ 3 ∷ []) 2) ≡ n - 1
  unfolding span
  last-2 c = level (span n F) (c ∷ t₁ ∷ 2 ∷ t₀ ∷ 3 ∷ []) 1 (n - 1) 1 (types n F low) (λ t l h. behind-2 c t) ∙ mul-one (n - 1)

  behind-3 : (c t : ℕ) → length (runs (span n F) (t ∷ c ∷ t₁ ∷ 3 ∷ t₀ ∷ 3 ∷ []) 1) ≡ 1
  unfolding runs span from flat_map
  behind-3 c t = refl

  last-3 : (c : ℕ) → length (runs (span n F) (c ∷ t₁ ∷ 3 ∷ t₀ ∷ 3 ∷ []) 2) ≡ n - 1
  unfolding span
  last-3 c = level (span n F) (c ∷ t₁ ∷ 3 ∷ t₀ ∷ 3 ∷ []) 1 (n - 1) 1 (types n F low) (λ t l h. behind-3 c t) ∙ mul-one (n - 1)

-- F of 1: chains.

module _ (n : ℕ) (low : 2 ≤ n) where
  two-chain : length (runs (span n 1) (2 ∷ []) 6) ≡ (n - 1) * (n - 1)
  unfolding span
  two-chain =
      level (span n 1) (2 ∷ []) 5 (n - 1) (n - 1) (types n 1 low)
      (λ t l h. level (span n 1) (t ∷ 2 ∷ []) 4 1 (n - 1) refl (λ c k g. second_type n 1 low t c) ∙ one-mul (n - 1))

  three-chain : length (runs (span n 1) (3 ∷ []) 6) ≡ (n - 1) * ((n - 1) * (n - 1))
  unfolding span
  three-chain = level (span n 1) (3 ∷ []) 5 (n - 1) ((n - 1) * (n - 1)) (types n 1 low) (λ t l h. rooted t)
    where
      middle : (t₀ t₁ : ℕ) → length (runs (span n 1) (t₁ ∷ 1 ∷ t₀ ∷ 3 ∷ []) 3) ≡ n - 1
      middle t₀ t₁ = level (span n 1) (t₁ ∷ 1 ∷ t₀ ∷ 3 ∷ []) 2 1 (n - 1) refl (λ c k g. last-1 n 1 t₀ t₁ low c) ∙ one-mul (n - 1)

      rooted : (t₀ : ℕ) → length (runs (span n 1) (t₀ ∷ 3 ∷ []) 5) ≡ (n - 1) * (n - 1)
      rooted t₀ =
          level (span n 1) (t₀ ∷ 3 ∷ []) 4 1 ((n - 1) * (n - 1)) refl
          (λ c k g.
          let e : 1 ≡ c = omega arith in
          subst (λ (x : ℕ). length (runs (span n 1) (x ∷ t₀ ∷ 3 ∷ []) 4) ≡ (n - 1) * (n - 1)) e
          (level (span n 1) (1 ∷ t₀ ∷ 3 ∷ []) 3 (n - 1) (n - 1) (types n 1 low) (λ t l h. middle t₀ t)))
          ∙ one-mul ((n - 1) * (n - 1))

  -- With F of 1 and m types besides the contradiction there are m + m² + m³ listed records.
  pub amount-one : length (listing n 1) ≡ (n - 1) + ((n - 1) * (n - 1) + (n - 1) * ((n - 1) * (n - 1)))
  unfolding listing runs span from flat_map
  amount-one =
      length-map (runs (span n 1) [] 7) record_of
      ∙ three-parts (runs (span n 1) (1 ∷ []) 6) (runs (span n 1) (2 ∷ []) 6) (runs (span n 1) (3 ∷ []) 6) 1 2 3
      ∙ ap₂ (λ (u v : ℕ). u + v) (one-node n 1 low) (ap₂ (λ (u v : ℕ). u + v) two-chain three-chain)

-- F of 2.

sixteen : (q : ℕ) → 3 * q + (3 * q + (3 * q + 7 * q)) ≡ 16 * q
sixteen q = omega arith

seven-times : (m : ℕ) → m * 4 + (m + (m + m)) ≡ 7 * m
seven-times m = omega arith

module _ (n : ℕ) (low : 2 ≤ n) where
  abbrev m : ℕ
  m = n - 1

  two-nodes : length (runs (span n 2) (2 ∷ []) 6) ≡ 3 * (m * m)
  unfolding span
  two-nodes =
      level (span n 2) (2 ∷ []) 5 m (3 * m) (types n 2 low) (λ t l h. level (span n 2) (t ∷ 2 ∷ []) 4 3 m refl (λ c k g. second_type n 2 low t c))
      ∙ mul_left_comm m 3 m

  rooted-1 : (t₀ : ℕ) → length (runs (span n 2) (1 ∷ t₀ ∷ 3 ∷ []) 4) ≡ 3 * (m * m)
  unfolding span
  rooted-1 t₀ =
      level (span n 2) (1 ∷ t₀ ∷ 3 ∷ []) 3 m (3 * m) (types n 2 low)
      (λ t l h. level (span n 2) (t ∷ 1 ∷ t₀ ∷ 3 ∷ []) 2 3 m refl (λ c j g. last-1 n 2 t₀ t low c)) ∙ mul_left_comm m 3 m

  rooted-2 : (t₀ : ℕ) → length (runs (span n 2) (2 ∷ t₀ ∷ 3 ∷ []) 4) ≡ 3 * (m * m)
  unfolding span
  rooted-2 t₀ =
      level (span n 2) (2 ∷ t₀ ∷ 3 ∷ []) 3 m (3 * m) (types n 2 low)
      (λ t l h. level (span n 2) (t ∷ 2 ∷ t₀ ∷ 3 ∷ []) 2 3 m refl (λ c j g. last-2 n 2 t₀ t low c)) ∙ mul_left_comm m 3 m

  rooted-3 : (t₀ : ℕ) → length (runs (span n 2) (3 ∷ t₀ ∷ 3 ∷ []) 4) ≡ 3 * (m * m)
  unfolding span
  rooted-3 t₀ =
      level (span n 2) (3 ∷ t₀ ∷ 3 ∷ []) 3 m (3 * m) (types n 2 low)
      (λ t l h. level (span n 2) (t ∷ 3 ∷ t₀ ∷ 3 ∷ []) 2 3 m refl (λ c j g. last-3 n 2 t₀ t low c)) ∙ mul_left_comm m 3 m

  -- The root's links lead to two nodes: if node 1 has no links, node 2 has four choices; if node 1 has links, node 2 has none.
  module _ (t₀ t₁ : ℕ) where
    four : (t : ℕ) → length (runs (span n 2) (t ∷ 0 ∷ t₁ ∷ 4 ∷ t₀ ∷ 3 ∷ []) 1) ≡ 4
    unfolding runs span from flat_map
    four t = refl

    last-free : length (runs (span n 2) (0 ∷ t₁ ∷ 4 ∷ t₀ ∷ 3 ∷ []) 2) ≡ m * 4
    unfolding span
    last-free = level (span n 2) (0 ∷ t₁ ∷ 4 ∷ t₀ ∷ 3 ∷ []) 1 m 4 (types n 2 low) (λ t l h. four t)

    behind-two-1 : (t : ℕ) → length (runs (span n 2) (t ∷ 1 ∷ t₁ ∷ 4 ∷ t₀ ∷ 3 ∷ []) 1) ≡ 1
    unfolding runs span from flat_map
    behind-two-1 t = refl

    bound-1 : length (runs (span n 2) (1 ∷ t₁ ∷ 4 ∷ t₀ ∷ 3 ∷ []) 2) ≡ m
    unfolding span
    bound-1 = level (span n 2) (1 ∷ t₁ ∷ 4 ∷ t₀ ∷ 3 ∷ []) 1 m 1 (types n 2 low) (λ t l h. behind-two-1 t) ∙ mul-one m

    behind-two-2 : (t : ℕ) → length (runs (span n 2) (t ∷ 2 ∷ t₁ ∷ 4 ∷ t₀ ∷ 3 ∷ []) 1) ≡ 1
    unfolding runs span from flat_map
    behind-two-2 t = refl

    bound-2 : length (runs (span n 2) (2 ∷ t₁ ∷ 4 ∷ t₀ ∷ 3 ∷ []) 2) ≡ m
    unfolding span
    bound-2 = level (span n 2) (2 ∷ t₁ ∷ 4 ∷ t₀ ∷ 3 ∷ []) 1 m 1 (types n 2 low) (λ t l h. behind-two-2 t) ∙ mul-one m

    behind-two-3 : (t : ℕ) → length (runs (span n 2) (t ∷ 3 ∷ t₁ ∷ 4 ∷ t₀ ∷ 3 ∷ []) 1) ≡ 1
    unfolding runs span from flat_map
    behind-two-3 t = refl

    bound-3 : length (runs (span n 2) (3 ∷ t₁ ∷ 4 ∷ t₀ ∷ 3 ∷ []) 2) ≡ m
    unfolding span
    bound-3 = level (span n 2) (3 ∷ t₁ ∷ 4 ∷ t₀ ∷ 3 ∷ []) 1 m 1 (types n 2 low) (λ t l h. behind-two-3 t) ∙ mul-one m

    middle-two : length (runs (span n 2) (t₁ ∷ 4 ∷ t₀ ∷ 3 ∷ []) 3) ≡ 7 * m
    unfolding runs span from flat_map
    middle-two =
        four-parts (runs (span n 2) (1 ∷ t₁ ∷ 4 ∷ t₀ ∷ 3 ∷ []) 2) (runs (span n 2) (2 ∷ t₁ ∷ 4 ∷ t₀ ∷ 3 ∷ []) 2)
        (runs (span n 2) (3 ∷ t₁ ∷ 4 ∷ t₀ ∷ 3 ∷ []) 2) 1 2 3 (runs (span n 2) (0 ∷ t₁ ∷ 4 ∷ t₀ ∷ 3 ∷ []) 2) 0
        ∙ ap₂ (λ (u v : ℕ). u + v) last-free (ap₂ (λ (u v : ℕ). u + v) bound-1 (ap₂ (λ (u v : ℕ). u + v) bound-2 bound-3))
        ∙ seven-times m

  rooted-4 : (t₀ : ℕ) → length (runs (span n 2) (4 ∷ t₀ ∷ 3 ∷ []) 4) ≡ 7 * (m * m)
  unfolding span
  rooted-4 t₀ = level (span n 2) (4 ∷ t₀ ∷ 3 ∷ []) 3 m (7 * m) (types n 2 low) (λ t l h. middle-two t₀ t) ∙ mul_left_comm m 7 m

  rooted : (t₀ : ℕ) → length (runs (span n 2) (t₀ ∷ 3 ∷ []) 5) ≡ 16 * (m * m)
  unfolding runs span from flat_map
  rooted t₀ =
      four-parts (runs (span n 2) (2 ∷ t₀ ∷ 3 ∷ []) 4) (runs (span n 2) (3 ∷ t₀ ∷ 3 ∷ []) 4) (runs (span n 2) (4 ∷ t₀ ∷ 3 ∷ []) 4) 2 3 4
      (runs (span n 2) (1 ∷ t₀ ∷ 3 ∷ []) 4) 1
      ∙ ap₂ (λ (u v : ℕ). u + v) (rooted-1 t₀) (ap₂ (λ (u v : ℕ). u + v) (rooted-2 t₀) (ap₂ (λ (u v : ℕ). u + v) (rooted-3 t₀) (rooted-4 t₀)))
      ∙ sixteen (m * m)

  three-nodes : length (runs (span n 2) (3 ∷ []) 6) ≡ 16 * (m * (m * m))
  unfolding span
  three-nodes = level (span n 2) (3 ∷ []) 5 m (16 * (m * m)) (types n 2 low) (λ t l h. rooted t) ∙ mul_left_comm m 16 (m * m)

  -- With F of 2 and m types besides the contradiction there are m + 3 m² + 16 m³ listed records.
  pub amount-two : length (listing n 2) ≡ m + (3 * (m * m) + 16 * (m * (m * m)))
  unfolding listing runs span from flat_map
  amount-two =
      length-map (runs (span n 2) [] 7) record_of
      ∙ three-parts (runs (span n 2) (1 ∷ []) 6) (runs (span n 2) (2 ∷ []) 6) (runs (span n 2) (3 ∷ []) 6) 1 2 3
      ∙ ap₂ (λ (u v : ℕ). u + v) (one-node n 2 low) (ap₂ (λ (u v : ℕ). u + v) two-nodes three-nodes)
