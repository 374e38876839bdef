-- This file describes the graph that words hold by places: a node's label stands in its header, and its links stand at the places of its
-- row, each feature at one place.
use mathlib.Core.Path.{◌≡◌, refl, sym, ◌∙◌, ap}
use mathlib.Core.Bool.{Bool, true, false, cond}
use mathlib.Core.List.{List, []}
use mathlib.Core.Option.{none, some}
use Prim.Native.Nat.{ℕ, zero, suc, ◌+◌, ◌-◌, ◌≤◌, ◌<◌}
use native.Mathlib.Decide.{dec_lt}
use native.Mathlib.Nat.{lt_irrefl}
use native.Mathlib.Omega.{arith}
use borrow.Author.Tests.{eq-eqb, ne_eqb, eqb-true}
use lib.Dec.{eqb}
use lib.ListN.{length, get_or-eq_default}
use Rattle.graphs.specs.Rows.{Row, target}
use Rattle.graphs.proofs.Walk.{some-injective, none-some}
use Rattle.lattice.specs.Label.{Label, no_label}
use Rattle.layout.specs.Layout.{Sound, size, links_from, row_end, label_at, feature_at, target_at, links_between, links_at, rows_of, graph_in}
use Rattle.layout.proofs.Rows.{row-at, length-rows}
use Rattle.layout.proofs.Spans.{links-none, links-cons, features-rise}

module _ (ws : List ℕ) (e : ℕ) (inside : e ≤ length ws) where
  target-next : (k f : ℕ) → k < e →
      target (links_between ws k e) f ≡ cond (eqb (feature_at ws k) f) (some (target_at ws k)) (target (links_between ws (suc k) e) f)
  unfolding target
  target-next k f h = ap (λ (ls : List (ℕ × ℕ)). target ls f) (links-cons ws e inside k h)

  target-end : (f : ℕ) → target (links_between ws e e) f ≡ none
  unfolding target
  target-end f = ap (λ (ls : List (ℕ × ℕ)). target ls f) (links-none ws e)

  -- a place has the first link by its feature
  pub target_at_lem : (start : ℕ) → ((k : ℕ) → start ≤ k → k + 1 < e → feature_at ws k < feature_at ws (k + 1)) →
      (n k j : ℕ) → j ≡ k + n → start ≤ k → j < e → target (links_between ws k e) (feature_at ws j) ≡ some (target_at ws j)
  target_at_lem start up zero k j q low high =
      let same : k ≡ j = omega arith in
      target-next k (feature_at ws j) (omega arith) ∙
      ap (λ (t : Bool). cond t (some (target_at ws k)) (target (links_between ws (suc k) e) (feature_at ws j)))
      (eq-eqb (feature_at ws k) (feature_at ws j) (ap (λ (i : ℕ). feature_at ws i) same)) ∙
      ap (λ (i : ℕ). some (target_at ws i)) same
  target_at_lem start up (suc n) k j q low high =
      target-next k (feature_at ws j) (omega arith) ∙
      ap (λ (t : Bool). cond t (some (target_at ws k)) (target (links_between ws (suc k) e) (feature_at ws j)))
      (ne_eqb (feature_at ws k) (feature_at ws j) apart) ∙
      target_at_lem start up n (suc k) j (omega arith) (omega arith) high
    where
      apart : feature_at ws k ≡ feature_at ws j → ⊥
      apart z =
          lt_irrefl (feature_at ws j) (rw z at (features-rise ws e inside start up n k j low (omega arith) high))

  -- a link stands at a place
  pub target-place : (n k f w : ℕ) → k + n ≡ e → target (links_between ws k e) f ≡ some w →
      (j : ℕ) × (k ≤ j) × (j < e) × (feature_at ws j ≡ f) × (target_at ws j ≡ w)
  target-place zero k f w q h =
      let z : k ≡ e = omega arith in
      none-some (sym (ap (λ (i : ℕ). target (links_between ws i e) f) z ∙ target-end f) ∙ h)
  target-place (suc n) k f w q h =
      go (eqb (feature_at ws k) f) refl (sym (target-next k f (omega arith)) ∙ h) (target-place n (suc k) f w (omega arith))
    where
      go : (t : Bool) → eqb (feature_at ws k) f ≡ t → cond t (some (target_at ws k)) (target (links_between ws (suc k) e) f) ≡ some w →
          (target (links_between ws (suc k) e) f ≡ some w → (j : ℕ) × (suc k ≤ j) × (j < e) × (feature_at ws j ≡ f) × (target_at ws j ≡ w)) →
          (j : ℕ) × (k ≤ j) × (j < e) × (feature_at ws j ≡ f) × (target_at ws j ≡ w)
      go true t x later = (k, omega arith, omega arith, eqb-true (feature_at ws k) f t, some-injective x)
      go false t x later =
          let (j, low, high, a, b) = later x in
          (j, omega arith, high, a, b)

module _ (ws : List ℕ) where
  pub label-at : (v : ℕ) → v < size ws → (graph_in ws).label v ≡ label_at ws v
  label-at v h = ap (λ (r : Row Label). r.0) (row-at ws (size ws) 0 v v (no_label, []) (omega arith) h)

  pub links-are : (v f : ℕ) → v < size ws → (graph_in ws).link v f ≡ target (links_at ws v) f
  links-are v f h = ap (λ (r : Row Label). target r.1 f) (row-at ws (size ws) 0 v v (no_label, []) (omega arith) h)

module _ {ws : List ℕ} (sound : Sound ws) where
  pub link-at : (v k : ℕ) → v < size ws → links_from ws v ≤ k → k < row_end ws v → (graph_in ws).link v (feature_at ws k) ≡ some (target_at ws k)
  link-at v k h low high =
      links-are ws v (feature_at ws k) h ∙
      target_at_lem ws (row_end ws v) (sound.shaped.node v h).ended (links_from ws v)
      (λ i a b. sound.shaped.ascending v i h a b) (k - links_from ws v) (links_from ws v) k (omega arith) (omega arith) high

  pub link-place : (v f w : ℕ) → v < size ws → (graph_in ws).link v f ≡ some w →
      (k : ℕ) × (links_from ws v ≤ k) × (k < row_end ws v) × (feature_at ws k ≡ f) × (target_at ws k ≡ w)
  link-place v f w h e =
      target-place ws (row_end ws v) (sound.shaped.node v h).ended (row_end ws v - links_from ws v) (links_from ws v) f w
      (omega (arith, (sound.shaped.node v h).begun)) (sym (links-are ws v f h) ∙ e)

  -- a link has a feature below 64, and a node for its target
  pub link-known : (v f w : ℕ) → v < size ws → (graph_in ws).link v f ≡ some w → (f < 64) × (w < size ws)
  link-known v f w h e =
      let (k, low, high, a, b) = link-place v f w h e in
      (rw a at (sound.shaped.known v k h low high), rw b at (sound.targets v k h low high))

  -- the same without the assumption that v is a node
  pub link-inside : (v f w : ℕ) → (graph_in ws).link v f ≡ some w → (f < 64) × (w < size ws)
  unfolding target
  link-inside v f w e = go (dec_lt v (size ws))
    where
      go : Dec (v < size ws) → (f < 64) × (w < size ws)
      go (yes i) = link-known v f w i e
      go (no n) =
          none-some
          (sym (ap (λ (r : Row Label). target r.1 f) (get_or-eq_default (rows_of ws) (no_label, []) (omega (arith, length-rows ws 0 (size ws)))))
          ∙ e)

  -- there is a word for the number of nodes
  pub sized : 0 < length ws
  sized = omega (arith, (sound.shaped.node 0 sound.shaped.nonempty).listed)
