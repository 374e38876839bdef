-- The words of the rows of a record's graph: how many there are, and that a target can be moved.
use Rattle.std.proofs.Common.{◌≡◌, ℕ, ◌+◌, ◌/◌, ◌%◌, ◌<◌, ◌≤◌, List, get_or, arith}
use Rattle.layout.specs.Layout.{Recorded, Shaped, scale, size, row_from, links_from, row_end, rows_end}
use Rattle.layout.proofs.Order.{row_low, row_last}
use Rattle.layout.proofs.Sums.{words-few}
use Rattle.merging.specs.Rows.{words_in}

-- The feature and the target of a word whose target is moved.
pub moved-feature : (w shift : ℕ) → w % scale + shift < scale → (w + shift) / scale ≡ w / scale
moved-feature w shift h = omega arith

pub moved-target : (w shift : ℕ) → w % scale + shift < scale → (w + shift) % scale ≡ w % scale + shift
moved-target w shift h = omega arith

module _ {ws : List ℕ} (r : Recorded ws) where
  abbrev shaped : Shaped ws
  shaped = r.sound.shaped

  pub words_are : rows_end ws ≡ row_from ws 0 + words_in ws
  words_are = omega (arith, row_low shaped (size ws) (omega arith))

  -- no row is far behind the first
  pub row_near : (v : ℕ) → v < size ws → row_from ws v ≤ row_from ws 0 + 2558
  row_near v h = omega (arith, row_last shaped v h, (shaped.node v h).begun, words-few r)

  pub row-near-end : (v : ℕ) → v < size ws → (row_from ws 0 ≤ row_end ws v) × (row_end ws v ≤ row_from ws 0 + 2558)
  row-near-end v h = (
    omega (arith, row_low shaped v (omega arith), (shaped.node v h).begun),
    omega (arith, row_last shaped v h, words-few r),
  )

  -- The word of a link, moved by up to 255, does not overflow.
  pub moved-link : (v k shift : ℕ) → v < size ws → links_from ws v ≤ k → k < row_end ws v → shift ≤ 255 →
      (get_or ws k 0 + shift) % 65536 ≡ get_or ws k 0 + shift
  moved-link v k shift h low high few = omega (arith, shaped.known v k h low high, r.sound.targets v k h low high, r.small)
