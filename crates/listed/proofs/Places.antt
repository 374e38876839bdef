-- Which byte of a record is which byte of a node, how long a record is, and why its bytes are below 256.
use mathlib.Core.Path.{◌≡◌, refl, sym, ◌∙◌, ap, subst}
use mathlib.Core.Bool.{Bool, true, false, cond}
use mathlib.Core.Logic.{◌≢◌}
use mathlib.Core.List.{List, [], ◌∷◌, ◌++◌, map}
use Prim.Native.Nat.{ℕ, zero, suc, ◌+◌, ◌*◌, ◌-◌, ◌≤◌, ◌<◌}
use native.Mathlib.Omega.{arith}
use borrow.Author.Tests.{ltb-true}
use lib.Dec.{eqb, leb, ltb}
use lib.ListN.{length, get_or, length-append, length-map, get_or-append}
use lib.Seq.{get_or-append-add, get_or-take}
use Rattle.graphs.specs.Rows.{from, target}
use Rattle.graphs.specs.Order.{all_of}
use Rattle.graphs.proofs.Search.{both_true}
use Rattle.lattice.specs.Label.{is_full}
use Rattle.encoder.specs.Encode.{encoded, encoded_rows, encoded_row, encoded_label, bits_from}
use Rattle.listed.specs.Listing.{heir, link_set, stated_rows, span, record_of, Run}
use Rattle.listed.specs.Numbers.{width, link_bytes, row_bytes}

-- Lengths.

same_width : (v c : ℕ) → length (link_set v c) ≡ width c
same_width v zero = refl
same_width v (suc zero) = refl
same_width v (suc (suc zero)) = refl
same_width v (suc (suc (suc zero))) = refl
same_width v (suc (suc (suc (suc c)))) = refl

pub no-width : (c : ℕ) → c ≡ 0 → width c ≡ 0
no-width zero e = refl
no-width (suc c) e = absurd (omega arith)

pub one_width : (c : ℕ) → c ≢ 0 → c ≤ 2 → width c ≡ 1
one_width zero l h = absurd (l refl)
one_width (suc zero) l h = refl
one_width (suc (suc zero)) l h = refl
one_width (suc (suc (suc c))) l h = absurd (omega arith)

pub two-width : (c : ℕ) → 2 < c → width c ≡ 2
two-width zero h = absurd (omega arith)
two-width (suc zero) h = absurd (omega arith)
two-width (suc (suc zero)) h = absurd (omega arith)
two-width (suc (suc (suc zero))) h = refl
two-width (suc (suc (suc (suc c)))) h = refl

pub width_small : (c : ℕ) → width c ≤ 2
width_small zero = omega arith
width_small (suc zero) = omega arith
width_small (suc (suc zero)) = omega arith
width_small (suc (suc (suc zero))) = omega arith
width_small (suc (suc (suc (suc c)))) = omega arith

eight : length (from 0 8) ≡ 8
unfolding from
eight = refl

row-length : (v t c : ℕ) → length (row_bytes v t c) ≡ 9 + width c
unfolding link_bytes
row-length v t c =
    omega (
      arith,
      length-append (map (λ k. bits_from (link_set v c) (8 * k) 8) (from 0 8)) (map (λ l. l.1) (link_set v c)),
      length-map (from 0 8) (λ k. bits_from (link_set v c) (8 * k) 8),
      eight,
      length-map (link_set v c) (λ l. l.1),
      same_width v c,
    )

-- Places.

first_part : (x : ℕ) (xs ys : List ℕ) (at : ℕ) → 0 < at → at < 1 + length xs → get_or (x ∷ (xs ++ ys)) at 0 ≡ get_or xs (at - 1) 0
first_part x xs ys zero l h = absurd (omega arith)
first_part x xs ys (suc at) l h =
    let e : at ≡ suc at - 1 = omega arith in
    get_or-append xs ys 0 at (omega arith) ∙ ap (λ (i : ℕ). get_or xs i 0) e

later-part : (xs ys : List ℕ) (at k : ℕ) → length xs ≡ k → k ≤ at → get_or (xs ++ ys) at 0 ≡ get_or ys (at - k) 0
later-part xs ys at k e h =
    let i : at ≡ length xs + (at - k) = omega (arith, e) in
    ap (λ (j : ℕ). get_or (xs ++ ys) j 0) i ∙ get_or-append-add xs ys (at - k) 0

module _ (t₀ c₀ t₁ c₁ t₂ c₂ : ℕ) where
  abbrev pub numbered : ℕ → List ℕ
  numbered N = N ∷ t₀ ∷ c₀ ∷ t₁ ∷ c₁ ∷ t₂ ∷ c₂ ∷ []

  one-node : record_of (numbered 1) ≡ 1 ∷ (row_bytes 0 t₀ c₀ ++ [])
  unfolding link_bytes encoded encoded_rows encoded_row encoded_label is_full stated_rows
  one-node = refl

  two-nodes : record_of (numbered 2) ≡ 2 ∷ (row_bytes 0 t₀ c₀ ++ (row_bytes 1 t₁ c₁ ++ []))
  unfolding link_bytes encoded encoded_rows encoded_row encoded_label is_full stated_rows
  two-nodes = refl

  three-nodes : record_of (numbered 3) ≡ 3 ∷ (row_bytes 0 t₀ c₀ ++ (row_bytes 1 t₁ c₁ ++ (row_bytes 2 t₂ c₂ ++ [])))
  unfolding link_bytes encoded encoded_rows encoded_row encoded_label is_full stated_rows
  three-nodes = refl

  pub length-one : length (record_of (numbered 1)) ≡ 10 + width c₀
  length-one = omega (arith, ap length one-node, length-append (row_bytes 0 t₀ c₀) [], row-length 0 t₀ c₀)

  pub length_two : length (record_of (numbered 2)) ≡ 10 + width c₀ + 9 + width c₁
  length_two =
      omega (
        arith,
        ap length two-nodes,
        length-append (row_bytes 0 t₀ c₀) (row_bytes 1 t₁ c₁ ++ []),
        row-length 0 t₀ c₀,
        length-append (row_bytes 1 t₁ c₁) [],
        row-length 1 t₁ c₁,
      )

  pub length_three : length (record_of (numbered 3)) ≡ 10 + width c₀ + 9 + width c₁ + 9 + width c₂
  length_three =
      omega (
        arith,
        ap length three-nodes,
        length-append (row_bytes 0 t₀ c₀) (row_bytes 1 t₁ c₁ ++ (row_bytes 2 t₂ c₂ ++ [])),
        row-length 0 t₀ c₀,
        length-append (row_bytes 1 t₁ c₁) (row_bytes 2 t₂ c₂ ++ []),
        row-length 1 t₁ c₁,
        length-append (row_bytes 2 t₂ c₂) [],
        row-length 2 t₂ c₂,
      )

  pub byte-count : (N : ℕ) → 1 ≤ N → N ≤ 3 → N ≡ get_or (record_of (numbered N)) 0 0
  unfolding encoded stated_rows
  byte-count zero l h = absurd (omega arith)
  byte-count (suc zero) l h = refl
  byte-count (suc (suc zero)) l h = refl
  byte-count (suc (suc (suc zero))) l h = refl
  byte-count (suc (suc (suc (suc N)))) l h = absurd (omega arith)

  module _ (at : ℕ) where
    pub byte-first : (N : ℕ) → 1 ≤ N → N ≤ 3 → at ≢ 0 → at < 10 + width c₀ → get_or (record_of (numbered N)) at 0 ≡ get_or (row_bytes 0 t₀ c₀) (at - 1) 0
    byte-first zero l h p q = absurd (omega arith)
    byte-first (suc zero) l h p q =
        ap (λ (r : List ℕ). get_or r at 0) one-node ∙ first_part 1 (row_bytes 0 t₀ c₀) [] at (omega arith) (omega (arith, row-length 0 t₀ c₀))
    byte-first (suc (suc zero)) l h p q =
        ap (λ (r : List ℕ). get_or r at 0) two-nodes
        ∙ first_part 2 (row_bytes 0 t₀ c₀) (row_bytes 1 t₁ c₁ ++ []) at (omega arith) (omega (arith, row-length 0 t₀ c₀))
    byte-first (suc (suc (suc zero))) l h p q =
        ap (λ (r : List ℕ). get_or r at 0) three-nodes
        ∙ first_part 3 (row_bytes 0 t₀ c₀) (row_bytes 1 t₁ c₁ ++ (row_bytes 2 t₂ c₂ ++ [])) at (omega arith) (omega (arith, row-length 0 t₀ c₀))
    byte-first (suc (suc (suc (suc N)))) l h p q = absurd (omega arith)

    pub byte-second : (N : ℕ) → 1 ≤ N → N ≤ 3 → 10 + width c₀ ≤ at → at < 10 + width c₀ + 9 + width c₁ → at < length (record_of (numbered N)) →
        get_or (record_of (numbered N)) at 0 ≡ get_or (row_bytes 1 t₁ c₁) (at - (10 + width c₀)) 0
    byte-second zero l h p q r = absurd (omega arith)
    byte-second (suc zero) l h p q r = absurd (omega (arith, length-one, r))
    byte-second (suc (suc zero)) l h p q r =
        ap (λ (r : List ℕ). get_or r at 0) two-nodes
        ∙ later-part (2 ∷ row_bytes 0 t₀ c₀) (row_bytes 1 t₁ c₁ ++ []) at (10 + width c₀) (omega (arith, row-length 0 t₀ c₀)) p
        ∙ get_or-append (row_bytes 1 t₁ c₁) [] 0 (at - (10 + width c₀)) (omega (arith, row-length 1 t₁ c₁))
    byte-second (suc (suc (suc zero))) l h p q r =
        ap (λ (r : List ℕ). get_or r at 0) three-nodes
        ∙ later-part (3 ∷ row_bytes 0 t₀ c₀) (row_bytes 1 t₁ c₁ ++ (row_bytes 2 t₂ c₂ ++ [])) at (10 + width c₀) (omega (arith, row-length 0 t₀ c₀)) p
        ∙ get_or-append (row_bytes 1 t₁ c₁) (row_bytes 2 t₂ c₂ ++ []) 0 (at - (10 + width c₀)) (omega (arith, row-length 1 t₁ c₁))
    byte-second (suc (suc (suc (suc N)))) l h p q r = absurd (omega arith)

    -- A byte of the third node's row.
    pub byte-third : (N : ℕ) → 1 ≤ N → N ≤ 3 → 10 + width c₀ + 9 + width c₁ ≤ at → at < length (record_of (numbered N)) →
        (at - (10 + width c₀ + 9 + width c₁) < 9 + width c₂) × (get_or (record_of (numbered N)) at 0 ≡ get_or (row_bytes 2 t₂ c₂) (at - (10 + width c₀ + 9 + width c₁)) 0)
    byte-third zero l h p r = absurd (omega arith)
    byte-third (suc zero) l h p r = absurd (omega (arith, length-one, r))
    byte-third (suc (suc zero)) l h p r = absurd (omega (arith, length_two, r))
    byte-third (suc (suc (suc zero))) l h p r =
        let q : at - (10 + width c₀ + 9 + width c₁) < 9 + width c₂ = omega (arith, length_three, r) in
        let e : at - (10 + width c₀) - (9 + width c₁) ≡ at - (10 + width c₀ + 9 + width c₁) = omega arith in (
          q,
          ap (λ (r : List ℕ). get_or r at 0) three-nodes
              ∙ later-part (3 ∷ row_bytes 0 t₀ c₀) (row_bytes 1 t₁ c₁ ++ (row_bytes 2 t₂ c₂ ++ [])) at (10 + width c₀) (omega (arith, row-length 0 t₀ c₀)) (omega arith)
              ∙ later-part (row_bytes 1 t₁ c₁) (row_bytes 2 t₂ c₂ ++ []) (at - (10 + width c₀)) (9 + width c₁) (row-length 1 t₁ c₁) (omega arith)
              ∙ ap (λ (i : ℕ). get_or (row_bytes 2 t₂ c₂ ++ []) i 0) e
              ∙ get_or-append (row_bytes 2 t₂ c₂) [] 0 (at - (10 + width c₀ + 9 + width c₁)) (omega (arith, row-length 2 t₂ c₂)),
        )
    byte-third (suc (suc (suc (suc N)))) l h p r = absurd (omega arith)

-- The lemmas above, with the widths that the code computed.
module _ (t₀ c₀ t₁ c₁ t₂ c₂ N : ℕ) where
  abbrev bytes_of : List ℕ
  bytes_of = record_of (numbered t₀ c₀ t₁ c₁ t₂ c₂ N)

  abbrev length_at : ℕ → ℕ
  length_at m = length (record_of (numbered t₀ c₀ t₁ c₁ t₂ c₂ m))

  pub long-one : (w₀ : ℕ) → w₀ ≡ width c₀ → N ≡ 1 → 10 + w₀ ≡ length bytes_of
  long-one w₀ e₀ h = omega (arith, e₀, ap length_at h, length-one t₀ c₀ t₁ c₁ t₂ c₂)

  pub long-two : (w₀ w₁ : ℕ) → w₀ ≡ width c₀ → w₁ ≡ width c₁ → N ≡ 2 → 10 + w₀ + 9 + w₁ ≡ length bytes_of
  long-two w₀ w₁ e₀ e₁ h = omega (arith, e₀, e₁, ap length_at h, length_two t₀ c₀ t₁ c₁ t₂ c₂)

  pub long-three : (w₀ w₁ w₂ : ℕ) → w₀ ≡ width c₀ → w₁ ≡ width c₁ → w₂ ≡ width c₂ → N ≡ 3 → 10 + w₀ + 9 + w₁ + 9 + w₂ ≡ length bytes_of
  long-three w₀ w₁ w₂ e₀ e₁ e₂ h = omega (arith, e₀, e₁, e₂, ap length_at h, length_three t₀ c₀ t₁ c₁ t₂ c₂)

  module _ (at : ℕ) (nodes : (1 ≤ N) × (N ≤ 3)) where
    pub at_first : (w₀ : ℕ) → w₀ ≡ width c₀ → at ≢ 0 → at < 10 + w₀ → get_or (row_bytes 0 t₀ c₀) (at - 1) 0 ≡ get_or bytes_of at 0
    at_first w₀ e₀ p q = sym (byte-first t₀ c₀ t₁ c₁ t₂ c₂ at N nodes.0 nodes.1 p (omega (arith, e₀)))

    pub at_second : (w₀ w₁ : ℕ) → w₀ ≡ width c₀ → w₁ ≡ width c₁ → 10 + w₀ ≤ at → at < 10 + w₀ + 9 + w₁ → at < length bytes_of →
        get_or (row_bytes 1 t₁ c₁) (at - (10 + w₀)) 0 ≡ get_or bytes_of at 0
    at_second w₀ w₁ e₀ e₁ p q r =
        ap (λ (w : ℕ). get_or (row_bytes 1 t₁ c₁) (at - (10 + w)) 0) e₀
        ∙ sym (byte-second t₀ c₀ t₁ c₁ t₂ c₂ at N nodes.0 nodes.1 (omega (arith, e₀)) (omega (arith, e₀, e₁)) r)

    module _ (w₀ w₁ : ℕ) (e₀ : w₀ ≡ width c₀) (e₁ : w₁ ≡ width c₁) (p : 10 + w₀ + 9 + w₁ ≤ at) (r : at < length bytes_of) where
      third : (at - (10 + width c₀ + 9 + width c₁) < 9 + width c₂) × (get_or bytes_of at 0 ≡ get_or (row_bytes 2 t₂ c₂) (at - (10 + width c₀ + 9 + width c₁)) 0)
      third = byte-third t₀ c₀ t₁ c₁ t₂ c₂ at N nodes.0 nodes.1 (omega (arith, e₀, e₁)) r

      pub in-third : at - (10 + w₀ + 9 + w₁) < 9 + width c₂
      in-third = omega (arith, e₀, e₁, third.0)

      pub at-third : get_or (row_bytes 2 t₂ c₂) (at - (10 + w₀ + 9 + w₁)) 0 ≡ get_or bytes_of at 0
      at-third =
          let e : at - (10 + w₀ + 9 + w₁) ≡ at - (10 + width c₀ + 9 + width c₁) = omega (arith, e₀, e₁) in
          ap (λ (i : ℕ). get_or (row_bytes 2 t₂ c₂) i 0) e ∙ sym third.1

-- The bytes of a node.

module _ (v t at : ℕ) where
  pub row-four : (c : ℕ) → 4 ≤ c → get_or (t ∷ 3 ∷ 0 ∷ 0 ∷ 0 ∷ 0 ∷ 0 ∷ 0 ∷ 0 ∷ 1 ∷ 2 ∷ []) at 0 ≡ get_or (row_bytes v t c) at 0
  unfolding link_bytes bits_from target from
  row-four zero h = absurd (omega arith)
  row-four (suc zero) h = absurd (omega arith)
  row-four (suc (suc zero)) h = absurd (omega arith)
  row-four (suc (suc (suc zero))) h = absurd (omega arith)
  row-four (suc (suc (suc (suc c)))) h = refl

  pub row_plain : (c : ℕ) → c < 4 → at < 9 + width c →
      get_or (t ∷ c ∷ 0 ∷ 0 ∷ 0 ∷ 0 ∷ 0 ∷ 0 ∷ 0 ∷ heir v ∷ heir v ∷ []) at 0 ≡ get_or (row_bytes v t c) at 0
  unfolding link_bytes bits_from target from
  row_plain zero h k = sym (get_or-take 9 (t ∷ 0 ∷ 0 ∷ 0 ∷ 0 ∷ 0 ∷ 0 ∷ 0 ∷ 0 ∷ heir v ∷ heir v ∷ []) at 0 k)
  row_plain (suc zero) h k = sym (get_or-take 10 (t ∷ 1 ∷ 0 ∷ 0 ∷ 0 ∷ 0 ∷ 0 ∷ 0 ∷ 0 ∷ heir v ∷ heir v ∷ []) at 0 k)
  row_plain (suc (suc zero)) h k = sym (get_or-take 10 (t ∷ 2 ∷ 0 ∷ 0 ∷ 0 ∷ 0 ∷ 0 ∷ 0 ∷ 0 ∷ heir v ∷ heir v ∷ []) at 0 k)
  row_plain (suc (suc (suc zero))) h k = refl
  row_plain (suc (suc (suc (suc c)))) h k = absurd (omega arith)

-- Bytes are below 256.

abbrev pub Small : List ℕ → Type 0
Small xs = (i : ℕ) → get_or xs i 0 < 256

small-cons : (x : ℕ) (xs : List ℕ) → x < 256 → Small xs → Small (x ∷ xs)
small-cons x xs h s zero = h
small-cons x xs h s (suc i) = s i

small-append : (xs ys : List ℕ) → Small xs → Small ys → Small (xs ++ ys)
small-append [] ys s r = r
small-append (x ∷ xs) ys s r = small-cons x (xs ++ ys) (s 0) (small-append xs ys (λ i. s (suc i)) r)

small-none : Small []
small-none i = omega arith

tested-small : (xs : List ℕ) → all_of xs (λ b. ltb b 256) ≡ true → Small xs
unfolding all_of
tested-small [] e = small-none
tested-small (x ∷ xs) e =
    let (a, b) = both_true (ltb x 256) (all_of xs λ b. ltb b 256) e in
    small-cons x xs (ltb-true x 256 a) (tested-small xs b)

unfoldable links_small : ℕ → ℕ → Bool
links_small v c = all_of (link_bytes v c) λ b. ltb b 256

small-zero : (c : ℕ) → links_small 0 c ≡ true
unfolding links_small link_bytes bits_from target from all_of
small-zero zero = refl
small-zero (suc zero) = refl
small-zero (suc (suc zero)) = refl
small-zero (suc (suc (suc zero))) = refl
small-zero (suc (suc (suc (suc c)))) = refl

small-row-zero : (t c : ℕ) → t < 256 → Small (row_bytes 0 t c)
unfolding links_small
small-row-zero t c h = small-cons t (link_bytes 0 c) h (tested-small (link_bytes 0 c) (small-zero c))

small_one : (c : ℕ) → links_small 1 c ≡ true
unfolding links_small link_bytes bits_from target from all_of
small_one zero = refl
small_one (suc zero) = refl
small_one (suc (suc zero)) = refl
small_one (suc (suc (suc zero))) = refl
small_one (suc (suc (suc (suc c)))) = refl

small-row-one : (t c : ℕ) → t < 256 → Small (row_bytes 1 t c)
unfolding links_small
small-row-one t c h = small-cons t (link_bytes 1 c) h (tested-small (link_bytes 1 c) (small_one c))

small-two : (c : ℕ) → links_small 2 c ≡ true
unfolding links_small link_bytes bits_from target from all_of
small-two zero = refl
small-two (suc zero) = refl
small-two (suc (suc zero)) = refl
small-two (suc (suc (suc zero))) = refl
small-two (suc (suc (suc (suc c)))) = refl

small-row-two : (t c : ℕ) → t < 256 → Small (row_bytes 2 t c)
unfolding links_small
small-row-two t c h = small-cons t (link_bytes 2 c) h (tested-small (link_bytes 2 c) (small-two c))

module _ (t₀ c₀ t₁ c₁ t₂ c₂ : ℕ) (h₀ : t₀ < 256) (h₁ : t₁ < 256) (h₂ : t₂ < 256) where
  record-small : (N : ℕ) → 1 ≤ N → N ≤ 3 → Small (record_of (numbered t₀ c₀ t₁ c₁ t₂ c₂ N))
  record-small zero l h = absurd (omega arith)
  record-small (suc zero) l h =
      subst Small (sym (one-node t₀ c₀ t₁ c₁ t₂ c₂))
      (small-cons 1 (row_bytes 0 t₀ c₀ ++ []) (omega arith) (small-append (row_bytes 0 t₀ c₀) [] (small-row-zero t₀ c₀ h₀) small-none))
  record-small (suc (suc zero)) l h =
      subst Small (sym (two-nodes t₀ c₀ t₁ c₁ t₂ c₂))
      (small-cons 2 (row_bytes 0 t₀ c₀ ++ (row_bytes 1 t₁ c₁ ++ [])) (omega arith)
      (small-append (row_bytes 0 t₀ c₀) (row_bytes 1 t₁ c₁ ++ []) (small-row-zero t₀ c₀ h₀)
      (small-append (row_bytes 1 t₁ c₁) [] (small-row-one t₁ c₁ h₁) small-none)))
  record-small (suc (suc (suc zero))) l h =
      subst Small (sym (three-nodes t₀ c₀ t₁ c₁ t₂ c₂))
      (small-cons 3 (row_bytes 0 t₀ c₀ ++ (row_bytes 1 t₁ c₁ ++ (row_bytes 2 t₂ c₂ ++ []))) (omega arith)
      (small-append (row_bytes 0 t₀ c₀) (row_bytes 1 t₁ c₁ ++ (row_bytes 2 t₂ c₂ ++ [])) (small-row-zero t₀ c₀ h₀)
      (small-append (row_bytes 1 t₁ c₁) (row_bytes 2 t₂ c₂ ++ []) (small-row-one t₁ c₁ h₁)
      (small-append (row_bytes 2 t₂ c₂) [] (small-row-two t₂ c₂ h₂) small-none))))
  record-small (suc (suc (suc (suc N)))) l h = absurd (omega arith)

type-small : (n t : ℕ) (b : Bool) → n ≤ 64 → t ≤ (cond {A = ℕ × ℕ} b (1, n - 1) (0, 0)).1 → t < 256
type-small n t true h k = omega arith
type-small n t false h k = omega arith

-- Numbers within their bounds have a count of nodes from 1 to 3, and the record's bytes are below 256.
pub run-count : (n F N t₀ c₀ t₁ c₁ t₂ c₂ : ℕ) → Run (span n F) [] (numbered t₀ c₀ t₁ c₁ t₂ c₂ N) → (1 ≤ N) × (N ≤ 3)
unfolding span
run-count n F N t₀ c₀ t₁ c₁ t₂ c₂ r = (r.0, r.1)

pub run_small : (n F N t₀ c₀ t₁ c₁ t₂ c₂ : ℕ) → n ≤ 64 → Run (span n F) [] (numbered t₀ c₀ t₁ c₁ t₂ c₂ N) → Small (record_of (numbered t₀ c₀ t₁ c₁ t₂ c₂ N))
unfolding span
run_small n F N t₀ c₀ t₁ c₁ t₂ c₂ h (a, b, (lt₀, ht₀, (lc₀, hc₀, (lt₁, ht₁, (lc₁, hc₁, (lt₂, ht₂, r)))))) =
    record-small t₀ c₀ t₁ c₁ t₂ c₂ (omega arith) (type-small n t₁ (leb 2 N) h ht₁) (type-small n t₂ (eqb N 3) h ht₂) N a b
