-- This file shows where rows end: from the beginning of the first row on, the words are the headers and the links of all rows.
use mathlib.Core.Path.{◌≡◌, ◌∙◌, ap}
use mathlib.Core.List.{List, [], ◌∷◌, ◌++◌}
use Prim.Native.Nat.{ℕ, zero, suc, ◌+◌, ◌-◌, ◌*◌, ◌≤◌}
use native.Mathlib.Omega.{arith}
use lib.ListN.{length, get_or}
use Rattle.graphs.specs.Rows.{Row}
use Rattle.graphs.specs.Large.{links_in}
use Rattle.lattice.specs.Label.{Label}
use Rattle.layout.specs.Layout.{Shaped, header, size, row_from, links_from, row_end, links_at, label_at, rows_from, Recorded, rows_end}
use Rattle.layout.proofs.Spans.{length-links}
use Rattle.layout.proofs.Rows.{rows_more}

pub links-append : (rs ss : List (Row Label)) → links_in (rs ++ ss) ≡ links_in rs + links_in ss
unfolding links_in
links-append [] ss = omega arith
links-append (r ∷ rs) ss = omega (arith, links-append rs ss)

-- the number of links of node v
abbrev pub degree : List ℕ → ℕ → ℕ
degree ws v = row_end ws v - links_from ws v

module _ (ws : List ℕ) where
  -- one row more
  pub links-of-more : (k : ℕ) → row_end ws k ≤ length ws → links_in (rows_from ws 0 (suc k)) ≡ links_in (rows_from ws 0 k) + degree ws k
  unfolding links_in
  links-of-more k inside =
      let none : 0 + k ≡ k = omega arith in
      ap links_in (rows_more ws k 0)
      ∙ links-append (rows_from ws 0 k) ((label_at ws (0 + k), links_at ws (0 + k)) ∷ [])
      ∙ ap (λ (v : ℕ). links_in (rows_from ws 0 k) + (length (links_at ws v) + 0)) none
      ∙ omega (arith, length-links ws (links_from ws k) (row_end ws k) inside)

  pub rows_end_lem : Shaped ws → (k : ℕ) → k ≤ size ws → get_or ws (k + 1) 0 ≡ row_from ws 0 + k * header + links_in (rows_from ws 0 k)
  unfolding rows_from links_in
  rows_end_lem shaped zero h = omega arith
  rows_end_lem shaped (suc k) h =
      let one : suc k + 1 ≡ k + 2 = omega arith in
      ap (λ (i : ℕ). get_or ws i 0) one
      ∙ omega (
        arith,
        rows_end_lem shaped k (omega arith),
        links-of-more k (shaped.node k (omega arith)).ended,
        (shaped.node k (omega arith)).begun,
      )

-- a record's rows are at most 2,558 words: 255 headers of two and 2,048 links
pub words-few : {ws : List ℕ} → Recorded ws → rows_end ws ≤ row_from ws 0 + 2558
words-few {ws} r = omega (arith, rows_end_lem ws r.sound.shaped (size ws) (omega arith), r.small, r.short)
