-- The seven numbers of a record give its bytes, and the bytes give the numbers back.
use mathlib.Core.Path.{◌≡◌, refl, sym, ◌∙◌, ap, ap₂, subst}
use mathlib.Core.Bool.{Bool, true, false, cond, not, ◌&&◌}
use mathlib.Core.List.{List, [], ◌∷◌}
use mathlib.Core.Logic.{◌≢◌}
use Prim.Native.Nat.{ℕ, zero, suc, ◌+◌, ◌≤◌}
use native.Mathlib.Omega.{arith}
use borrow.Author.Tests.{eq-eqb, ne_eqb}
use lib.Dec.{eqb, leb}
use lib.ListN.{length, get_or}
use Rattle.graphs.specs.Rows.{from, target}
use Rattle.lattice.specs.Label.{is_full}
use Rattle.encoder.specs.Encode.{encoded, encoded_rows, encoded_row, encoded_label, bits_from}
use Rattle.listed.specs.Listing.{Listed, link_set, stated_rows, span, sets, record_of, Run}
use Rattle.listed.specs.Numbers.{width, root_links, numbers_of}
use Rattle.listed.proofs.Bytes.{sets-small}
use Rattle.listed.proofs.Stated.{Counts, listed-told}

-- the last node's links by its feature map
last-links : (c : ℕ) → c ≤ 3 → bits_from (link_set 2 c) 0 8 ≡ c
unfolding bits_from target
last-links zero h = refl
last-links (suc zero) h = refl
last-links (suc (suc zero)) h = refl
last-links (suc (suc (suc zero))) h = refl
last-links (suc (suc (suc (suc c)))) h = absurd (omega arith)

last-small : (c₀ c₁ c₂ : ℕ) → c₂ ≤ (cond {A = ℕ × ℕ} (eqb c₀ 4 && eqb c₁ 0) (0, 3) (0, 0)).1 → c₂ ≤ 3
last-small c₀ c₁ c₂ h = go (eqb c₀ 4 && eqb c₁ 0) h
  where
    go : (b : Bool) → c₂ ≤ (cond {A = ℕ × ℕ} b (0, 3) (0, 0)).1 → c₂ ≤ 3
    go true q = q
    go false q = omega arith

abbrev seven : ℕ → ℕ → ℕ → ℕ → ℕ → ℕ → ℕ → List ℕ
seven N t₀ c₀ t₁ c₁ t₂ c₂ = N ∷ t₀ ∷ c₀ ∷ t₁ ∷ c₁ ∷ t₂ ∷ c₂ ∷ []

-- the numbers of three nodes, of which the first two have links with these numbers
three-numbers : (c₀ c₁ : ℕ) (t₀ t₁ t₂ c₂ : ℕ) → 1 ≤ c₀ → c₀ ≤ 4 → c₁ ≤ 3 → c₂ ≤ 3 →
    numbers_of (record_of (seven 3 t₀ c₀ t₁ c₁ t₂ c₂)) ≡ seven 3 t₀ c₀ t₁ c₁ t₂ c₂
unfolding encoded encoded_rows encoded_row encoded_label is_full stated_rows bits_from target from
three-numbers zero c₁ t₀ t₁ t₂ c₂ l h k m = absurd (omega arith)
three-numbers (suc zero) zero t₀ t₁ t₂ c₂ l h k m = ap (λ (c : ℕ). seven 3 t₀ 1 t₁ 0 t₂ c) (last-links c₂ m)
three-numbers (suc zero) (suc zero) t₀ t₁ t₂ c₂ l h k m = ap (λ (c : ℕ). seven 3 t₀ 1 t₁ 1 t₂ c) (last-links c₂ m)
three-numbers (suc zero) (suc (suc zero)) t₀ t₁ t₂ c₂ l h k m = ap (λ (c : ℕ). seven 3 t₀ 1 t₁ 2 t₂ c) (last-links c₂ m)
three-numbers (suc zero) (suc (suc (suc zero))) t₀ t₁ t₂ c₂ l h k m = ap (λ (c : ℕ). seven 3 t₀ 1 t₁ 3 t₂ c) (last-links c₂ m)
three-numbers (suc zero) (suc (suc (suc (suc c₁)))) t₀ t₁ t₂ c₂ l h k m = absurd (omega arith)
three-numbers (suc (suc zero)) zero t₀ t₁ t₂ c₂ l h k m = ap (λ (c : ℕ). seven 3 t₀ 2 t₁ 0 t₂ c) (last-links c₂ m)
three-numbers (suc (suc zero)) (suc zero) t₀ t₁ t₂ c₂ l h k m = ap (λ (c : ℕ). seven 3 t₀ 2 t₁ 1 t₂ c) (last-links c₂ m)
three-numbers (suc (suc zero)) (suc (suc zero)) t₀ t₁ t₂ c₂ l h k m = ap (λ (c : ℕ). seven 3 t₀ 2 t₁ 2 t₂ c) (last-links c₂ m)
three-numbers (suc (suc zero)) (suc (suc (suc zero))) t₀ t₁ t₂ c₂ l h k m = ap (λ (c : ℕ). seven 3 t₀ 2 t₁ 3 t₂ c) (last-links c₂ m)
three-numbers (suc (suc zero)) (suc (suc (suc (suc c₁)))) t₀ t₁ t₂ c₂ l h k m = absurd (omega arith)
three-numbers (suc (suc (suc zero))) zero t₀ t₁ t₂ c₂ l h k m = ap (λ (c : ℕ). seven 3 t₀ 3 t₁ 0 t₂ c) (last-links c₂ m)
three-numbers (suc (suc (suc zero))) (suc zero) t₀ t₁ t₂ c₂ l h k m = ap (λ (c : ℕ). seven 3 t₀ 3 t₁ 1 t₂ c) (last-links c₂ m)
three-numbers (suc (suc (suc zero))) (suc (suc zero)) t₀ t₁ t₂ c₂ l h k m = ap (λ (c : ℕ). seven 3 t₀ 3 t₁ 2 t₂ c) (last-links c₂ m)
three-numbers (suc (suc (suc zero))) (suc (suc (suc zero))) t₀ t₁ t₂ c₂ l h k m = ap (λ (c : ℕ). seven 3 t₀ 3 t₁ 3 t₂ c) (last-links c₂ m)
three-numbers (suc (suc (suc zero))) (suc (suc (suc (suc c₁)))) t₀ t₁ t₂ c₂ l h k m = absurd (omega arith)
three-numbers (suc (suc (suc (suc zero)))) zero t₀ t₁ t₂ c₂ l h k m = ap (λ (c : ℕ). seven 3 t₀ 4 t₁ 0 t₂ c) (last-links c₂ m)
three-numbers (suc (suc (suc (suc zero)))) (suc zero) t₀ t₁ t₂ c₂ l h k m = ap (λ (c : ℕ). seven 3 t₀ 4 t₁ 1 t₂ c) (last-links c₂ m)
three-numbers (suc (suc (suc (suc zero)))) (suc (suc zero)) t₀ t₁ t₂ c₂ l h k m = ap (λ (c : ℕ). seven 3 t₀ 4 t₁ 2 t₂ c) (last-links c₂ m)
three-numbers (suc (suc (suc (suc zero)))) (suc (suc (suc zero))) t₀ t₁ t₂ c₂ l h k m = ap (λ (c : ℕ). seven 3 t₀ 4 t₁ 3 t₂ c) (last-links c₂ m)
three-numbers (suc (suc (suc (suc zero)))) (suc (suc (suc (suc c₁)))) t₀ t₁ t₂ c₂ l h k m = absurd (omega arith)
three-numbers (suc (suc (suc (suc (suc c₀))))) c₁ t₀ t₁ t₂ c₂ l h k m = absurd (omega arith)

two-numbers : (c₀ : ℕ) (t₀ t₁ : ℕ) → 1 ≤ c₀ → c₀ ≤ 3 → numbers_of (record_of (seven 2 t₀ c₀ t₁ 0 0 0)) ≡ seven 2 t₀ c₀ t₁ 0 0 0
unfolding encoded encoded_rows encoded_row encoded_label is_full stated_rows bits_from target from
two-numbers zero t₀ t₁ l h = absurd (omega arith)
two-numbers (suc zero) t₀ t₁ l h = refl
two-numbers (suc (suc zero)) t₀ t₁ l h = refl
two-numbers (suc (suc (suc zero))) t₀ t₁ l h = refl
two-numbers (suc (suc (suc (suc c₀)))) t₀ t₁ l h = absurd (omega arith)

one-numbers : (t₀ : ℕ) → numbers_of (record_of (seven 1 t₀ 0 0 0 0 0)) ≡ seven 1 t₀ 0 0 0 0 0
unfolding encoded encoded_rows encoded_row encoded_label is_full stated_rows bits_from target from
one-numbers t₀ = refl

module _ (n F : ℕ) where
  root-small : (c : ℕ) → c ≤ cond (eqb F 2) 4 (sets F) → c ≤ 4
  root-small c h = let s = sets-small F in go (eqb F 2) h
    where
      go : (b : Bool) → c ≤ cond b 4 (sets F) → c ≤ 4
      go true q = q
      go false q = let s = sets-small F in omega arith

  middle-small : (c : ℕ) → c ≤ sets F → c ≤ 3
  middle-small c h = let s = sets-small F in omega arith

  -- The bytes of a record give back its numbers.
  numbers-at : (N t₀ c₀ t₁ c₁ t₂ c₂ : ℕ) → Run (span n F) [] (seven N t₀ c₀ t₁ c₁ t₂ c₂) →
      numbers_of (record_of (seven N t₀ c₀ t₁ c₁ t₂ c₂)) ≡ seven N t₀ c₀ t₁ c₁ t₂ c₂
  unfolding span
  numbers-at zero t₀ c₀ t₁ c₁ t₂ c₂ (a, b, r) = absurd (omega arith)
  numbers-at (suc zero) t₀ c₀ t₁ c₁ t₂ c₂ (a, b, (lt₀, ht₀, (lc₀, hc₀, (lt₁, ht₁, (lc₁, hc₁, (lt₂, ht₂, (lc₂, hc₂, _))))))) =
      let e₀ : 0 ≡ c₀ = omega arith in
      let i₁ : 0 ≡ t₁ = omega arith in
      let e₁ : 0 ≡ c₁ = omega arith in
      let i₂ : 0 ≡ t₂ = omega arith in
      let e₂ : 0 ≡ c₂ = omega arith in
      subst (λ (c : ℕ). numbers_of (record_of (seven 1 t₀ c t₁ c₁ t₂ c₂)) ≡ seven 1 t₀ c t₁ c₁ t₂ c₂) e₀
      (subst (λ (t : ℕ). numbers_of (record_of (seven 1 t₀ 0 t c₁ t₂ c₂)) ≡ seven 1 t₀ 0 t c₁ t₂ c₂) i₁
      (subst (λ (c : ℕ). numbers_of (record_of (seven 1 t₀ 0 0 c t₂ c₂)) ≡ seven 1 t₀ 0 0 c t₂ c₂) e₁
      (subst (λ (t : ℕ). numbers_of (record_of (seven 1 t₀ 0 0 0 t c₂)) ≡ seven 1 t₀ 0 0 0 t c₂) i₂
      (subst (λ (c : ℕ). numbers_of (record_of (seven 1 t₀ 0 0 0 0 c)) ≡ seven 1 t₀ 0 0 0 0 c) e₂ (one-numbers t₀)))))
  numbers-at (suc (suc zero)) t₀ c₀ t₁ c₁ t₂ c₂ (a, b, (lt₀, ht₀, (lc₀, hc₀, (lt₁, ht₁, (lc₁, hc₁, (lt₂, ht₂, (lc₂, hc₂, _))))))) =
      let e₁ : 0 ≡ c₁ = omega arith in
      let i₂ : 0 ≡ t₂ = omega arith in
      let e₂ : 0 ≡ c₂ = omega arith in
      subst (λ (c : ℕ). numbers_of (record_of (seven 2 t₀ c₀ t₁ c t₂ c₂)) ≡ seven 2 t₀ c₀ t₁ c t₂ c₂) e₁
      (subst (λ (t : ℕ). numbers_of (record_of (seven 2 t₀ c₀ t₁ 0 t c₂)) ≡ seven 2 t₀ c₀ t₁ 0 t c₂) i₂
      (subst (λ (c : ℕ). numbers_of (record_of (seven 2 t₀ c₀ t₁ 0 0 c)) ≡ seven 2 t₀ c₀ t₁ 0 0 c) e₂
      (two-numbers c₀ t₀ t₁ lc₀ (middle-small c₀ hc₀))))
  numbers-at (suc (suc (suc zero))) t₀ c₀ t₁ c₁ t₂ c₂ (a, b, (lt₀, ht₀, (lc₀, hc₀, (lt₁, ht₁, (lc₁, hc₁, (lt₂, ht₂, (lc₂, hc₂, _))))))) =
      three-numbers c₀ c₁ t₀ t₁ t₂ c₂ lc₀ (root-small c₀ hc₀) (middle-small c₁ hc₁) (last-small c₀ c₁ c₂ hc₂)
  numbers-at (suc (suc (suc (suc N)))) t₀ c₀ t₁ c₁ t₂ c₂ (a, b, r) = absurd (omega arith)

  pub record-numbers : (d : List ℕ) → length d ≡ 7 → Run (span n F) [] d → numbers_of (record_of d) ≡ d
  record-numbers [] e r = absurd (omega arith)
  record-numbers (a ∷ []) e r = absurd (omega arith)
  record-numbers (a ∷ b ∷ []) e r = absurd (omega arith)
  record-numbers (a ∷ b ∷ c ∷ []) e r = absurd (omega arith)
  record-numbers (a ∷ b ∷ c ∷ d ∷ []) e r = absurd (omega arith)
  record-numbers (a ∷ b ∷ c ∷ d ∷ x ∷ []) e r = absurd (omega arith)
  record-numbers (a ∷ b ∷ c ∷ d ∷ x ∷ y ∷ []) e r = absurd (omega arith)
  record-numbers (a ∷ b ∷ c ∷ d ∷ x ∷ y ∷ z ∷ []) e r = numbers-at a b c d x y z r
  record-numbers (a ∷ b ∷ c ∷ d ∷ x ∷ y ∷ z ∷ w ∷ more) e r = absurd (omega arith)

  -- A listed record is the record of its numbers, and the numbers are within their bounds.
  pub listed-numbers : Counts F → (bytes : List ℕ) → Listed n F bytes → Run (span n F) [] (numbers_of bytes) × (bytes ≡ record_of (numbers_of bytes))
  listed-numbers f bytes l =
      let (d, long, r, e) = listed-told n F f bytes l in
      let same : d ≡ numbers_of bytes = sym (ap numbers_of e ∙ record-numbers d long r) in
      (subst (λ (x : List ℕ). Run (span n F) [] x) same r, e ∙ ap record_of same)

-- The numbers that the code reads off the bytes.
module _ (bytes : List ℕ) (m : ℕ) (is : m ≡ get_or bytes 2 0) where
  abbrev root_by : Bool → Bool → ℕ
  root_by a b = cond (a && not b) 4 (get_or bytes 2 0)

  pub root-other : m ≢ 3 → m ≡ root_links bytes
  root-other h = is ∙ sym (ap (λ (a : Bool). root_by a (eqb (get_or bytes 10 0) (get_or bytes 11 0))) (ap (λ (x : ℕ). eqb x 3) (sym is) ∙ ne_eqb m 3 h))

  module _ (e : m ≡ 3) (a b : ℕ) (is-a : a ≡ get_or bytes 10 0) (is_b : b ≡ get_or bytes 11 0) where
    three-told : eqb (get_or bytes 2 0) 3 ≡ true
    three-told = ap (λ (x : ℕ). eqb x 3) (sym is) ∙ eq-eqb m 3 e

    both_told : eqb (get_or bytes 10 0) (get_or bytes 11 0) ≡ eqb a b
    both_told = sym (ap₂ eqb is-a is_b)

    pub root-three : a ≡ b → 3 ≡ root_links bytes
    root-three h = sym e ∙ is ∙ sym (ap₂ root_by three-told (both_told ∙ eq-eqb a b h))

    pub root-four : a ≢ b → 4 ≡ root_links bytes
    root-four h = sym (ap₂ root_by three-told (both_told ∙ ne_eqb a b h))

pub numbers-are : (bytes : List ℕ) (N t₀ c₀ w₀ t₁ c₁ w₁ t₂ c₂ : ℕ) → N ≡ get_or bytes 0 0 → t₀ ≡ get_or bytes 1 0 → c₀ ≡ root_links bytes → w₀ ≡ width c₀ →
    t₁ ≡ cond (leb 2 N) (get_or bytes (10 + w₀) 0) 0 → c₁ ≡ cond (leb 2 N) (get_or bytes (10 + w₀ + 1) 0) 0 → w₁ ≡ width c₁ →
    t₂ ≡ cond (leb 3 N) (get_or bytes (10 + w₀ + 9 + w₁) 0) 0 → c₂ ≡ cond (leb 3 N) (get_or bytes (10 + w₀ + 9 + w₁ + 1) 0) 0 →
    seven N t₀ c₀ t₁ c₁ t₂ c₂ ≡ numbers_of bytes
numbers-are bytes N t₀ c₀ w₀ t₁ c₁ w₁ t₂ c₂ a b c d e f g h i =
    let wide : w₀ ≡ width (root_links bytes) = d ∙ ap width c in
    let links : c₁ ≡ cond (leb 2 (get_or bytes 0 0)) (get_or bytes (10 + width (root_links bytes) + 1) 0) 0 = f ∙ ap₂ (λ (m w : ℕ). cond (leb 2 m) (get_or bytes (10 + w + 1) 0) 0) a wide in
    let type : t₁ ≡ cond (leb 2 (get_or bytes 0 0)) (get_or bytes (10 + width (root_links bytes)) 0) 0 = e ∙ ap₂ (λ (m w : ℕ). cond (leb 2 m) (get_or bytes (10 + w) 0) 0) a wide in
    let next : w₁ ≡ width (cond (leb 2 (get_or bytes 0 0)) (get_or bytes (10 + width (root_links bytes) + 1) 0) 0) = g ∙ ap width links in
    rest type links
    (h ∙ ap (λ (m : ℕ). cond (leb 3 m) (get_or bytes (10 + w₀ + 9 + w₁) 0) 0) a ∙ ap₂ (λ (w u : ℕ). cond (leb 3 (get_or bytes 0 0)) (get_or bytes (10 + w + 9 + u) 0) 0) wide next)
    (i ∙ ap (λ (m : ℕ). cond (leb 3 m) (get_or bytes (10 + w₀ + 9 + w₁ + 1) 0) 0) a
    ∙ ap₂ (λ (w u : ℕ). cond (leb 3 (get_or bytes 0 0)) (get_or bytes (10 + w + 9 + u + 1) 0) 0) wide next)
  where
    rest : {x y z u : ℕ} → t₁ ≡ x → c₁ ≡ y → t₂ ≡ z → c₂ ≡ u → seven N t₀ c₀ t₁ c₁ t₂ c₂ ≡ seven (get_or bytes 0 0) (get_or bytes 1 0) (root_links bytes) x y z u
    rest p q r s = cc
