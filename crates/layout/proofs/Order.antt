-- This file is about the order of places: rows come one after another, and the links of a row come by ascending feature.
use mathlib.Core.Path.{◌≡◌, sym, ap}
use mathlib.Core.List.{List}
use Prim.Native.Nat.{ℕ, zero, suc, ◌+◌, ◌-◌, ◌≤◌, ◌<◌}
use native.Mathlib.Decide.{dec_lt}
use native.Mathlib.Omega.{arith}
use lib.ListN.{length, get_or}
use Rattle.layout.specs.Layout.{size, row_from, links_from, row_end, feature_at, Shaped, Place, rows_end}
use Rattle.layout.proofs.Spans.{features-rise}

-- a row ends where the next one begins
pub next_row : (ws : List ℕ) (v w : ℕ) → suc v ≡ w → row_end ws v ≡ row_from ws w
next_row ws v w e = ap (λ (i : ℕ). get_or ws i 0) (omega arith)

module _ {ws : List ℕ} (shaped : Shaped ws) where
  pub rows-rise : (n a b : ℕ) → a + n ≡ b → b ≤ size ws → row_from ws a ≤ row_from ws b
  rows-rise zero a b e h =
      let same : row_from ws a ≡ row_from ws b = ap (λ (i : ℕ). row_from ws i) (omega arith) in
      omega arith
  rows-rise (suc n) a b e h =
      omega (arith, (shaped.node a (omega arith)).begun, next_row ws a (suc a) (omega arith), rows-rise n (suc a) b (omega arith) h)

  -- the places that say where the rows begin and where the last one ends, and the rows, lie inside
  pub directory : size ws + 1 < length ws
  directory = omega (arith, shaped.nonempty, (shaped.node (size ws - 1) (omega (arith, shaped.nonempty))).listed)

  pub rows_inside : rows_end ws ≤ length ws
  rows_inside =
      omega (
        arith,
        next_row ws (size ws - 1) (size ws) (omega (arith, shaped.nonempty)),
        (shaped.node (size ws - 1) (omega (arith, shaped.nonempty))).ended,
      )

  -- no row begins before the first
  pub row_low : (v : ℕ) → v ≤ size ws → row_from ws 0 ≤ row_from ws v
  row_low v h = rows-rise v 0 v (omega arith) h

  -- no row ends behind the last
  pub row_last : (v : ℕ) → v < size ws → row_end ws v ≤ rows_end ws
  row_last v h =
      omega (arith, next_row ws v (suc v) (omega arith), rows-rise (size ws - suc v) (suc v) (size ws) (omega arith) (omega arith))

  -- the row that a place belongs to
  row_before : (n k : ℕ) → n ≤ size ws → row_from ws 0 ≤ k → k < row_from ws n →
      (v : ℕ) × (v < size ws) × (row_from ws v ≤ k) × (k < row_end ws v)
  row_before zero k h low high = absurd (omega arith)
  row_before (suc n) k h low high = go (dec_lt k (row_from ws n)) (row_before n k (omega arith) low)
    where
      go : Dec (k < row_from ws n) →
          (k < row_from ws n → (v : ℕ) × (v < size ws) × (row_from ws v ≤ k) × (k < row_end ws v)) →
          (v : ℕ) × (v < size ws) × (row_from ws v ≤ k) × (k < row_end ws v)
      go (yes l) later = later l
      go (no d) later = (n, omega arith, omega arith, omega (arith, next_row ws n (suc n) (omega arith)))

  pub row-of : (k : ℕ) → row_from ws 0 ≤ k → k < rows_end ws → (v : ℕ) × (v < size ws) × (row_from ws v ≤ k) × (k < row_end ws v)
  row-of k low high = row_before (size ws) k (omega arith) low high

  -- a link of an earlier row stands before a later row
  pub earlier-row : (a b k : ℕ) → a < b → b ≤ size ws → k < row_end ws a → k < row_from ws b
  earlier-row a b k h inside high =
      omega (arith, next_row ws a (suc a) (omega arith), rows-rise (b - suc a) (suc a) b (omega arith) inside)

  -- a link stands behind the beginning of the rows, and before their end
  pub place-from : {v k : ℕ} → Place ws v k → row_from ws 0 ≤ k
  place-from {v} p = omega (arith, p.low, row_low v (omega (arith, p.inside)))

  pub place-before : {v k : ℕ} → Place ws v k → k < rows_end ws
  place-before {v} {k} p = earlier-row v (size ws) k p.inside (omega arith) p.high

  -- a link stands in one row only
  pub one-row : {a b k : ℕ} → Place ws a k → Place ws b k → a ≡ b
  one-row {a} {b} {k} p q = go (dec_lt a b) (dec_lt b a)
    where
      go : Dec (a < b) → Dec (b < a) → a ≡ b
      go (yes h) x = absurd (omega (arith, earlier-row a b k h (omega (arith, q.inside)) p.high, q.low))
      go (no h) (yes l) = absurd (omega (arith, earlier-row b a k l (omega (arith, p.inside)) q.high, p.low))
      go (no h) (no l) = omega arith

  -- a link does not stand in a header
  pub no_header : {u k : ℕ} (v : ℕ) → v < size ws → Place ws u k → k < links_from ws v → k < row_from ws v
  no_header {u} {k} v h p below = go (dec_lt u v)
    where
      go : Dec (u < v) → k < row_from ws v
      go (yes l) = earlier-row u v k l (omega arith) p.high
      go (no l) = absurd (omega (arith, p.low, rows-rise (u - v) v u (omega arith) (omega (arith, p.inside))))

  -- features ascend along a row
  pub place-rises : {v i j : ℕ} → Place ws v i → Place ws v j → i < j → feature_at ws i < feature_at ws j
  place-rises {v} {i} {j} p q h =
      features-rise ws (row_end ws v) (shaped.node v p.inside).ended (links_from ws v)
      (λ k low high. shaped.ascending v k p.inside low high) (j - suc i) i j p.low (omega arith) q.high

  pub one-feature : {v i j : ℕ} → Place ws v i → Place ws v j → feature_at ws i ≡ feature_at ws j → i ≡ j
  one-feature {v} {i} {j} p q e = go (dec_lt i j) (dec_lt j i)
    where
      apart : {a b : ℕ} → a < b → a ≡ b → ⊥
      apart l z = omega arith

      go : Dec (i < j) → Dec (j < i) → i ≡ j
      go (yes h) x = absurd (apart (place-rises p q h) e)
      go (no h) (yes l) = absurd (apart (place-rises q p l) (sym e))
      go (no h) (no l) = omega arith
