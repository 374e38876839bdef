-- This file is about the words of a node's links as a part of the graph's words: how many there are, and which link each states.
use mathlib.Core.Path.{◌≡◌, ap, ◌∙◌}
use mathlib.Core.List.{List}
use Prim.Native.Nat.{ℕ, ◌+◌, ◌-◌, ◌/◌, ◌%◌, ◌<◌}
use native.Mathlib.Omega.{arith}
use lib.ListN.{length, get_or, take, drop, length-drop}
use lib.Seq.{get_or-drop, length-take-le}
use Rattle.std.specs.Prelude.{slice_range}
use Rattle.std.proofs.lemmas.List.{get_or-take}
use Rattle.layout.specs.Layout.{Node, links_from, row_end, feature_at, target_at, scale}

module _ {ws ls : List ℕ} {v : ℕ} (n : Node ws v) (is : ls ≡ slice_range ws (links_from ws v) (row_end ws v)) where
  pub links-long : length ls ≡ row_end ws v - links_from ws v
  links-long =
      let low = n.begun in
      let high = n.ended in
      ap length is
      ∙ length-take-le (row_end ws v - links_from ws v) (drop (links_from ws v) ws) (omega (arith, length-drop (links_from ws v) ws))

  pub links-word : (i : ℕ) → i < length ls → get_or ls i 0 ≡ get_or ws (links_from ws v + i) 0
  links-word i h =
      ap (λ (l : List ℕ). get_or l i 0) is
      ∙ get_or-take (row_end ws v - links_from ws v) (drop (links_from ws v) ws) i 0 (omega (arith, links-long))
      ∙ get_or-drop (links_from ws v) ws i 0

  pub links-target : (i : ℕ) {target : ℕ} → i < length ls → target ≡ get_or ls i 0 % scale → target ≡ target_at ws (links_from ws v + i)
  links-target i h e = e ∙ ap (λ (w : ℕ). w % scale) (links-word i h)

  pub links-feature : (i : ℕ) {feature : ℕ} → i < length ls → feature ≡ get_or ls i 0 / scale → feature ≡ feature_at ws (links_from ws v + i)
  links-feature i h e = e ∙ ap (λ (w : ℕ). w / scale) (links-word i h)

  pub links-inside : (i : ℕ) → i < length ls → links_from ws v + i < row_end ws v
  links-inside i h = omega (arith, links-long)
