-- The visit of crate `graphs` over the rows that words hold is the visit over the targets of each node in their order. In a row the
-- features ascend and are below 64, so going through the features in turn meets the row's targets in turn.
use mathlib.Core.Path.{◌≡◌, refl, ◌∙◌, ap}
use mathlib.Core.List.{List, [], ◌∷◌, map}
use mathlib.Core.Option.{Option, none, some, bind}
use Prim.Native.Nat.{ℕ, zero, suc, ◌+◌, ◌-◌, ◌%◌, ◌≤◌, ◌<◌}
use native.Mathlib.Decide.{ℕ_discrete}
use native.Mathlib.Numerals.{add-one}
use native.Mathlib.Omega.{arith}
use borrow.Author.Tests.{eq-eqb, ne_eqb}
use lib.Dec.{eqb, leb}
use lib.ListN.{length}
use lib.Seq.{slice}
use Rattle.graphs.specs.Rows.{from, target}
use Rattle.graphs.specs.Number.{member, otherwise, enter, each, visit}
use Rattle.layout.specs.Layout.{scale, size, links_from, row_end, link_of, feature_at, links_between, links_at, graph_in, Sound}
use Rattle.layout.proofs.Places.{links-are}
use Rattle.layout.proofs.Spans.{links-none, links-cons}
use Rattle.visits.specs.Walks.{each_target, visit_targets, targets_at}

abbrev targets_of : List (ℕ × ℕ) → List ℕ
targets_of ls = map (λ (l : ℕ × ℕ). l.1) ls

-- links whose features ascend from f on and are below 64, to targets below n
abbrev Ascends : ℕ → ℕ → List (ℕ × ℕ) → Type 0
Ascends n f [] = Unit {0}
Ascends n f (l ∷ ls) = (f ≤ l.0) × (l.0 < 64) × (l.1 < n) × Ascends n (suc l.0) ls

target_none : (n f : ℕ) (ls : List (ℕ × ℕ)) (g : ℕ) → g < f → Ascends n f ls → target ls g ≡ none
unfolding target
target_none n f [] g h a = refl
target_none n f (l ∷ ls) g h a =
    rw (ne_eqb l.0 g (omega arith)) (target_none n (suc l.0) ls g (omega arith) a.3)

target-later : (l : ℕ × ℕ) (ls : List (ℕ × ℕ)) (g : ℕ) → l.0 < g → target (l ∷ ls) g ≡ target ls g
unfolding target
target-later l ls g h = rw (ne_eqb l.0 g (omega arith))

target-here : (l : ℕ × ℕ) (ls : List (ℕ × ℕ)) (g : ℕ) → l.0 ≡ g → target (l ∷ ls) g ≡ some l.1
unfolding target
target-here l ls g e = rw (eq-eqb l.0 g e)

-- One node's links.
module _ (n : ℕ) (link : ℕ → ℕ → Option ℕ) (go go' : ℕ → List ℕ → Option (List ℕ))
    (alike : (w : ℕ) (seen : List ℕ) → w < n → go w seen ≡ go' w seen) (v : ℕ) where
  each-targets : (k f : ℕ) → f + k ≡ 64 → (ls : List (ℕ × ℕ)) → Ascends n f ls → ((g : ℕ) → f ≤ g → link v g ≡ target ls g) →
      (seen : List ℕ) → each link go v (from f k) seen ≡ each_target go' (targets_of ls) seen
  unfolding bind each each_target from
  each-targets zero f e [] a same seen = refl
  each-targets zero f e (l ∷ ls) a same seen = absurd (omega arith)
  each-targets (suc k) f e [] a same seen =
      ap (λ (o : Option ℕ). bind (enter go o seen) (each link go v (from (suc f) k)))
      (same f (omega arith) ∙ target_none n (suc f) [] f (omega arith) tt) ∙
      each-targets k (suc f) (omega arith) [] tt (λ g h. same g (omega arith)) seen
  each-targets (suc k) f e (l ∷ ls) a same seen =
      at (ℕ_discrete l.0 f) (λ b s. each-targets k (suc f) (omega arith) (l ∷ ls) b s seen)
      (λ b s. each-targets k (suc f) (omega arith) ls b s)
    where
      Same : List (ℕ × ℕ) → Type 0
      Same rest = (g : ℕ) → suc f ≤ g → link v g ≡ target rest g

      through : (o : Option (List ℕ)) → ((mid : List ℕ) → each link go v (from (suc f) k) mid ≡ each_target go' (targets_of ls) mid) →
          bind o (each link go v (from (suc f) k)) ≡ bind o (each_target go' (targets_of ls))
      through none later = refl
      through (some mid) later = later mid

      at : Dec (l.0 ≡ f) →
          (Ascends n (suc f) (l ∷ ls) → Same (l ∷ ls) → each link go v (from (suc f) k) seen ≡ each_target go' (targets_of (l ∷ ls)) seen) →
          (Ascends n (suc f) ls → Same ls → (mid : List ℕ) → each link go v (from (suc f) k) mid ≡ each_target go' (targets_of ls) mid) →
          bind (enter go (link v f) seen) (each link go v (from (suc f) k)) ≡
          bind (go' l.1 seen) (each_target go' (targets_of ls))
      at (yes q) stay on =
          ap (λ (o : Option ℕ). bind (enter go o seen) (each link go v (from (suc f) k)))
          (same f (omega arith) ∙ target-here l ls f q) ∙
          through (go l.1 seen) (on (rw q at a.3) (λ g h. same g (omega arith) ∙ target-later l ls g (omega arith))) ∙
          ap (λ (o : Option (List ℕ)). bind o (each_target go' (targets_of ls))) (alike l.1 seen a.2)
      at (no d) stay on =
          ap (λ (o : Option ℕ). bind (enter go o seen) (each link go v (from (suc f) k)))
          (same f (omega arith) ∙ target_none n (suc f) (l ∷ ls) f (omega arith) later) ∙
          stay later (λ g h. same g (omega arith))
        where
          later : Ascends n (suc f) (l ∷ ls)
          later = (omega arith, a.1, a.2, a.3)

-- The rows of words.

targets_of_lem : (ks : List ℕ) → targets_of (map link_of ks) ≡ map (λ w. w % scale) ks
targets_of_lem [] = refl
targets_of_lem (k ∷ ks) = ap (λ (l : List ℕ). k % scale ∷ l) (targets_of_lem ks)

row-targets : (ws : List ℕ) (v : ℕ) → targets_of (links_at ws v) ≡ targets_at ws v
unfolding links_between targets_at
row-targets ws v = targets_of_lem (slice (links_from ws v) (row_end ws v) ws)

module _ {ws : List ℕ} (sound : Sound ws) where
  row-ascends : (v : ℕ) → v < size ws → (j k f : ℕ) → k + j ≡ row_end ws v → links_from ws v ≤ k →
      (k < row_end ws v → f ≤ feature_at ws k) → Ascends (size ws) f (links_between ws k (row_end ws v))
  row-ascends v inside zero k f e low up =
      let q : k ≡ row_end ws v = omega arith in
      rw (q, links-none ws (row_end ws v)) tt
  row-ascends v inside (suc j) k f e low up =
      rw (links-cons ws (row_end ws v) (sound.shaped.node v inside).ended k (omega arith)) (
        up (omega arith),
        sound.shaped.known v k inside low (omega arith),
        sound.targets v k inside low (omega arith),
        row-ascends v inside j (suc k) (suc (feature_at ws k)) (omega arith) (omega arith) later,
      )
    where
      later : suc k < row_end ws v → suc (feature_at ws k) ≤ feature_at ws (suc k)
      later h = rw add-one at (sound.shaped.ascending v k inside low (rw add-one h))

  links-ascend : (v : ℕ) → v < size ws → Ascends (size ws) 0 (links_at ws v)
  links-ascend v inside =
      row-ascends v inside (row_end ws v - links_from ws v) (links_from ws v) 0
      (omega (arith, (sound.shaped.node v inside).begun)) (omega arith) (λ _. omega arith)

  -- the visit over rows
  pub visit-rows : (d v : ℕ) (seen : List ℕ) → v < size ws → visit eqb (graph_in ws).link d v seen ≡ visit_targets (targets_at ws) d v seen
  unfolding visit visit_targets
  visit-rows zero v seen inside = refl
  visit-rows (suc d) v seen inside =
      ap (λ (o : Option (List ℕ)). otherwise (member eqb v seen) (some seen) λ _. otherwise (leb 255 (length seen)) none λ _. o)
      (each-targets (size ws) (graph_in ws).link (visit eqb (graph_in ws).link d) (visit_targets (targets_at ws) d)
      (λ w s h. visit-rows d w s h) v 64 0 refl (links_at ws v) (links-ascend v inside) (λ g _. links-are ws v g inside) (v ∷ seen) ∙
      ap (λ (l : List ℕ). each_target (visit_targets (targets_at ws) d) l (v ∷ seen)) (row-targets ws v))
