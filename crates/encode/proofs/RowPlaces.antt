-- The rows of different nodes take no more words than all rows of the graph do.
use mathlib.Core.Path.{◌≡◌, refl}
use mathlib.Core.List.Memᴰ
use mathlib.Core.List.{List, [], ◌∷◌, ◌++◌, Memᴰ}
use mathlib.Core.Logic.{⊎_elim}
use Prim.Native.Nat.{ℕ, ◌+◌, ◌-◌, ◌*◌, ◌≤◌, ◌<◌}
use native.Mathlib.Decide.{dec_lt}
use native.Mathlib.Omega.{arith}
use lib.ListN.{length, length-append}
use Rattle.graphs.specs.Large.{Distinct}
use Rattle.graphs.specs.Rows.{from}
use Rattle.graphs.proofs.Lists.{distinct_append, distinct-bound, distinct_from, from_member, from-range, length_from}
use Rattle.layout.specs.Layout.{Shaped, header, size, row_from, row_end, rows_end}
use Rattle.layout.proofs.Order.{earlier-row, row_last, row_low, rows_inside}
use Rattle.encoder.specs.NumberedRows.{degrees, sum_along}

-- the places of the rows of the nodes of a list
row_places : List ℕ → List ℕ → List ℕ
row_places ws [] = []
row_places ws (v ∷ vs) = from (row_from ws v) (row_end ws v - row_from ws v) ++ row_places ws vs

place-source : (ws vs : List ℕ) (k : ℕ) → Memᴰ k (row_places ws vs) → (v : ℕ) × Memᴰ v vs × (row_from ws v ≤ k) × (k < row_end ws v)
unfolding row_places
place-source ws [] k m = absurd (Memᴰ.not-nil m)
place-source ws (v ∷ vs) k m =
    ⊎_elim
    (λ n. let (low, high) = from-range (row_from ws v) (row_end ws v - row_from ws v) k n in (v, Memᴰ.head refl, low, omega arith))
    (λ n. let (w, i, low, high) = place-source ws vs k n in (w, Memᴰ.tail i, low, high))
    (Memᴰ.append_cases (from (row_from ws v) (row_end ws v - row_from ws v)) m)

module _ {ws : List ℕ} (shaped : Shaped ws) where
  one-node : (a b k : ℕ) → a < size ws → b < size ws → row_from ws a ≤ k → k < row_end ws a → row_from ws b ≤ k → k < row_end ws b → a ≡ b
  one-node a b k inside also low high from_low until = go (dec_lt a b) (dec_lt b a)
    where
      go : Dec (a < b) → Dec (b < a) → a ≡ b
      go (yes h) x = absurd (omega (arith, earlier-row shaped a b k h (omega arith) high))
      go (no h) (yes l) = absurd (omega (arith, earlier-row shaped b a k l (omega arith) until))
      go (no h) (no l) = omega arith

  places-distinct : (vs : List ℕ) → Distinct vs → ((v : ℕ) → Memᴰ v vs → v < size ws) → Distinct (row_places ws vs)
  unfolding row_places
  places-distinct [] d inside = tt
  places-distinct (v ∷ vs) d inside =
      distinct_append (from (row_from ws v) (row_end ws v - row_from ws v)) (row_places ws vs)
      (distinct_from (row_from ws v) (row_end ws v - row_from ws v)) (places-distinct vs d.1 (λ w m. inside w (Memᴰ.tail m)))
      (λ k m n.
      let (low, high) = from-range (row_from ws v) (row_end ws v - row_from ws v) k m in
      let (w, i, from_low, until) = place-source ws vs k n in
      d.0
      (Memᴰ.cast (one-node v w k (inside v (Memᴰ.head refl)) (inside w (Memᴰ.tail i)) low (omega arith) from_low until) i))

  places-length : (vs : List ℕ) → ((v : ℕ) → Memᴰ v vs → v < size ws) →
      length (row_places ws vs) ≡ header * length vs + degrees ws vs
  unfolding row_places sum_along
  places-length [] inside = refl
  places-length (v ∷ vs) inside =
      omega (
        arith,
        length-append (from (row_from ws v) (row_end ws v - row_from ws v)) (row_places ws vs),
        length_from (row_from ws v) (row_end ws v - row_from ws v),
        (shaped.node v (inside v (Memᴰ.head refl))).begun,
        places-length vs (λ w m. inside w (Memᴰ.tail m)),
      )

  -- the rows of different nodes have room where the graph has
  pub rows_fit : (vs : List ℕ) → Distinct vs → ((v : ℕ) → Memᴰ v vs → v < size ws) →
      length vs + 2 + header * length vs + degrees ws vs ≤ length ws
  rows_fit vs d inside =
      omega (
        arith,
        distinct-bound vs (from 0 (size ws)) d (λ v m. from_member 0 (size ws) v (omega arith) (omega (arith, inside v m))),
        length_from 0 (size ws),
        distinct-bound (row_places ws vs) (from (row_from ws 0) (rows_end ws - row_from ws 0)) (places-distinct vs d inside) within,
        length_from (row_from ws 0) (rows_end ws - row_from ws 0),
        places-length vs inside,
        shaped.behind,
        row_low shaped (size ws) (omega arith),
        rows_inside shaped,
      )
    where
      within : (k : ℕ) → Memᴰ k (row_places ws vs) → Memᴰ k (from (row_from ws 0) (rows_end ws - row_from ws 0))
      within k m =
          let (v, n, low, high) = place-source ws vs k m in
          let first : row_from ws 0 ≤ k = omega (arith, row_low shaped v (omega (arith, inside v n))) in
          from_member (row_from ws 0) (rows_end ws - row_from ws 0) k first (omega (arith, row_last shaped v (inside v n)))
