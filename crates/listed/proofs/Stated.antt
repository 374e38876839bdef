-- The listed records are those that seven numbers within their bounds state.
use mathlib.Core.Path.{◌≡◌, refl, sym, ◌∙◌, ap, ap₂, subst, fun_ext}
use mathlib.Core.Bool.{Bool, true, false, not, ◌&&◌, ◌||◌}
use mathlib.Core.List.{List, [], ◌∷◌, ◌++◌, map, map-map, flat_map, Memᴰ}
use mathlib.Core.Logic.{◌⊎◌, inl, inr, ⊎_elim}
use mathlib.Core.Option.{Option}
use Prim.Native.Nat.{ℕ, zero, suc, ◌+◌, ◌*◌, ◌-◌, ◌≤◌, ◌<◌}
use native.Mathlib.Nat.{zero-add}
use native.Mathlib.Omega.{arith}
use native.Mathlib.Decide.{ℕ_discrete}
use borrow.Author.Tests.{eqb-true, eq-eqb, leb-true, ltb-true, lt-ltb}
use lib.Dec.{eqb, leb, ltb}
use lib.ListN.{length, get_or, length-map, get_or-map}
use Rattle.graphs.specs.Rows.{Row, from, target}
use Rattle.graphs.specs.Number.{Canonical, many_nodes, many_links, written, canonical, visit}
use Rattle.graphs.specs.Large.{Ascending, links_in}
use Rattle.graphs.specs.Order.{all_of}
use Rattle.graphs.specs.Unify.{any_of, deep, holds}
use Rattle.graphs.proofs.Lists.{from_member, flat_map-member}
use Rattle.graphs.proofs.Order.{all_of-true, true-all_of}
use Rattle.graphs.proofs.Search.{both_true, true-both}
use Rattle.lattice.specs.Label.{Label, plain, is_full, no_label}
use Rattle.lattice.proofs.Relabel.{relabel_row, relabel_form, canonical-relabel}
use Rattle.encoder.specs.Encode.{encoded}
use Rattle.record.specs.Read.{reading, accepted, graph_of_rows, cyclic, reaches_all}
use Rattle.record.proofs.Readings.{InRange, reading-says, in-range}
use Rattle.record.proofs.RoundTrip.{decode-encode}
use Rattle.record.proofs.Accepted.{Rules, accepted-rules}
use Rattle.record.proofs.Rewritten.{written-injective}
use Rattle.listed.specs.Listing.{Listed, features_below, unranged_rows, link_set, stated_rows, span, runs, Run}
use Rattle.listed.proofs.Order.{false-true, map_source, map-member}
use Rattle.listed.proofs.Runs.{member-run}
use Rattle.listed.proofs.Shapes.{
  Links,
  chosen,
  tuples,
  link_in,
  bare,
  loops,
  same_links,
  same_all,
  has_links,
  own,
  code_of,
  within,
  shaped,
  test,
  same_numbers,
  ascends,
  in_place,
  proper,
  good,
  stated_links,
  stated,
  one-one,
  one-two,
  one-three,
  two-one,
  two-two,
  two-three,
  stated-one,
  stated-two,
}

-- Equal lists.

same-links : (xs ys : List (ℕ × ℕ)) → same_links xs ys ≡ true → xs ≡ ys
unfolding same_links
same-links [] [] e = refl
same-links [] (y ∷ ys) e = false-true e
same-links (x ∷ xs) [] e = false-true e
same-links (x ∷ xs) (y ∷ ys) e =
    let (a, r) = both_true (eqb x.0 y.0) (eqb x.1 y.1 && same_links xs ys) e in
    let (b, s) = both_true (eqb x.1 y.1) (same_links xs ys) r in
    let f : x.0 ≡ y.0 = eqb-true x.0 y.0 a in
    let g : x.1 ≡ y.1 = eqb-true x.1 y.1 b in
    let one : ◌≡◌ {A = ℕ × ℕ} x y = ap₂ {C = ℕ × ℕ} (λ (u v : ℕ). (u, v)) f g in
    ap₂ {C = List (ℕ × ℕ)} (λ u v. u ∷ v) one (same-links xs ys s)

links-same : (xs : List (ℕ × ℕ)) → same_links xs xs ≡ true
unfolding same_links
links-same [] = refl
links-same (x ∷ xs) =
    true-both (eqb x.0 x.0) (eqb x.1 x.1 && same_links xs xs) (eq-eqb x.0 x.0 refl)
    (true-both (eqb x.1 x.1) (same_links xs xs) (eq-eqb x.1 x.1 refl) (links-same xs))

same-all : (xs ys : Links) → same_all xs ys ≡ true → xs ≡ ys
unfolding same_all
same-all [] [] e = refl
same-all [] (y ∷ ys) e = false-true e
same-all (x ∷ xs) [] e = false-true e
same-all (x ∷ xs) (y ∷ ys) e =
    let (a, r) = both_true (same_links x y) (same_all xs ys) e in
    ap₂ {C = Links} (λ u v. u ∷ v) (same-links x y a) (same-all xs ys r)

all_same : (xs : Links) → same_all xs xs ≡ true
unfolding same_all
all_same [] = refl
all_same (x ∷ xs) = true-both (same_links x x) (same_all xs xs) (links-same x) (all_same xs)

same-numbers : (xs ys : List ℕ) → same_numbers xs ys ≡ true → xs ≡ ys
unfolding same_numbers
same-numbers [] [] e = refl
same-numbers [] (y ∷ ys) e = false-true e
same-numbers (x ∷ xs) [] e = false-true e
same-numbers (x ∷ xs) (y ∷ ys) e =
    let (a, r) = both_true (eqb x y) (same_numbers xs ys) e in
    ap₂ {C = List ℕ} (λ u v. u ∷ v) (eqb-true x y a) (same-numbers xs ys r)

within-bounds : (s : ℕ × ℕ) (x : ℕ) → within s x ≡ true → (s.0 ≤ x) × (x ≤ s.1)
unfolding within
within-bounds s x e = let (a, b) = both_true (leb s.0 x) (leb x s.1) e in (leb-true s.0 x a, leb-true x s.1 b)

-- Rows and their links alone.

abbrev links_of_rows : List (Row Label) → Links
links_of_rows rows = map (λ r. r.1) rows

abbrev label_in : List (Row Label) → ℕ → Label
label_in rows v = (get_or rows v (no_label, [])).0

link-same : (rows : List (Row Label)) → (graph_of_rows rows).link ≡ link_in (links_of_rows rows)
link-same rows =
    fun_ext (λ v. fun_ext (λ f. ap (λ (ls : List (ℕ × ℕ)). target ls f) (sym (get_or-map {A = Row Label} {B = List (ℕ × ℕ)} (λ r. r.1) rows v (no_label, [])))))

canonical-rows : (rows : List (Row Label)) →
    canonical eqb (graph_of_rows rows) ≡ relabel_form (label_in rows) (canonical eqb (bare (links_of_rows rows)))
canonical-rows rows =
    ap (λ (next : ℕ → ℕ → Option ℕ). canonical {L = Label} {A = ℕ} eqb (record { root = 0; label = label_in rows; link = next })) (link-same rows)
    ∙ canonical-relabel (label_in rows) eqb (bare (links_of_rows rows))

loops-rows : (rows : List (Row Label)) → loops (links_of_rows rows) ≡ cyclic rows
unfolding loops cyclic
loops-rows rows =
    ap (λ (n : ℕ). any_of (from 0 n) λ v. deep (link_in (links_of_rows rows)) n v) (length-map rows (λ r. r.1))
    ∙ ap (λ (next : ℕ → ℕ → Option ℕ). any_of (from 0 (length rows)) λ v. deep next (length rows) v) (sym (link-same rows))

-- A form that is its own written form has links that are their own written form.
own-rows : (form : List (Row Label)) → canonical eqb (graph_of_rows form) ≡ written form → own (links_of_rows form) ≡ true
unfolding own
own-rows form e = go (canonical eqb (bare (links_of_rows form))) (sym (canonical-rows form) ∙ e)
  where
    go : (o : Canonical ℕ) → relabel_form (label_in form) o ≡ written form → has_links (links_of_rows form) o ≡ true
    go many_nodes q = let z : ◌≡◌ {A = ℕ} 0 1 = cc in absurd (omega arith)
    go many_links q = let z : ◌≡◌ {A = ℕ} 0 1 = cc in absurd (omega arith)
    go (written rows) q =
        let is : map (relabel_row (label_in form)) rows ≡ form = written-injective q in
        let same : map (λ r. r.1) rows ≡ links_of_rows form = sym (map-map (λ (r : Row Label). r.1) (relabel_row (label_in form)) rows) ∙ ap links_of_rows is in
        subst (λ (ks : Links). same_all (map (λ r. r.1) rows) ks ≡ true) same (all_same (map (λ r. r.1) rows))

-- Every choice of links is one of the choices computed.

chosen-member : (N f k : ℕ) (ls : List (ℕ × ℕ)) → Ascending ls →
    ((l : ℕ × ℕ) → Memᴰ l ls → (f ≤ l.0) × (l.0 < f + k) × (l.1 < N)) → Memᴰ ls (chosen N (from f k))
unfolding chosen from
chosen-member N f zero [] up h = mathlib.Core.List.Memᴰ.head refl
chosen-member N f zero (l ∷ ls) up h = let b = h l (mathlib.Core.List.Memᴰ.head refl) in absurd (omega arith)
chosen-member N f (suc k) [] up h =
    mathlib.Core.List.Memᴰ.append_left (flat_map (λ w. map (λ ls. (f, w) ∷ ls) (chosen N (from (suc f) k))) (from 0 N))
    (chosen-member N (suc f) k [] tt (λ l m. absurd (mathlib.Core.List.Memᴰ.not-nil m)))
chosen-member N f (suc k) (l ∷ ls) up h = go (ℕ_discrete l.0 f) (chosen-member N (suc f) k)
  where
    go : Dec (l.0 ≡ f) →
        ((ms : List (ℕ × ℕ)) → Ascending ms → ((m : ℕ × ℕ) → Memᴰ m ms → (suc f ≤ m.0) × (m.0 < suc f + k) × (m.1 < N)) → Memᴰ ms (chosen N (from (suc f) k))) →
        Memᴰ (l ∷ ls) (chosen N (from (suc f) k) ++ flat_map (λ w. map (λ ms. (f, w) ∷ ms) (chosen N (from (suc f) k))) (from 0 N))
    go (yes e) rest =
        let small = h l (mathlib.Core.List.Memᴰ.head refl) in
        let one : ◌≡◌ {A = ℕ × ℕ} (f, l.1) l = ap {B = ℕ × ℕ} (λ (u : ℕ). (u, l.1)) (sym e) in
        let there : Memᴰ ls (chosen N (from (suc f) k)) =
        rest ls up.1 (λ m i. let b = h m (mathlib.Core.List.Memᴰ.tail i) in let c = up.0 m i in (omega arith, omega arith, b.2)) in
        mathlib.Core.List.Memᴰ.append_right (chosen N (from (suc f) k))
        (flat_map-member (λ w. map (λ ms. (f, w) ∷ ms) (chosen N (from (suc f) k))) (from_member 0 N l.1 (omega arith) (omega arith))
        (subst (λ (u : ℕ × ℕ). Memᴰ (u ∷ ls) (map (λ ms. (f, l.1) ∷ ms) (chosen N (from (suc f) k)))) one (map-member (λ ms. (f, l.1) ∷ ms) there)))
    go (no d) rest =
        let small = h l (mathlib.Core.List.Memᴰ.head refl) in
        mathlib.Core.List.Memᴰ.append_left (flat_map (λ w. map (λ ms. (f, w) ∷ ms) (chosen N (from (suc f) k))) (from 0 N))
        (rest (l ∷ ls) up (λ m i. ⊎_elim (λ (e : m ≡ l). let c : m.0 ≡ l.0 = ap (λ (u : ℕ × ℕ). u.0) e in let b = h m i in (omega arith, omega arith, b.2))
        (λ j. let b = h m i in let c = up.0 m j in (omega arith, omega arith, b.2)) (mathlib.Core.List.Memᴰ.cases_cons i)))

tuples-member : {X : Type 0} (xs ks : List X) → ((k : X) → Memᴰ k ks → Memᴰ k xs) → Memᴰ ks (tuples xs (length ks))
unfolding tuples
tuples-member xs [] h = mathlib.Core.List.Memᴰ.head refl
tuples-member xs (k ∷ ks) h =
    flat_map-member (λ x. map (λ r. x ∷ r) (tuples xs (length ks))) (h k (mathlib.Core.List.Memᴰ.head refl))
    (map-member (λ r. k ∷ r) (tuples-member xs ks (λ x m. h x (mathlib.Core.List.Memᴰ.tail m))))

-- F is 1 or 2
abbrev pub Counts : ℕ → Type 0
Counts F = (F ≡ 1) ⊎ (F ≡ 2)

tested : (F N : ℕ) → Counts F → 0 < N → N ≤ 3 → test F N ≡ true
tested F N (inl e) low high = subst (λ (f : ℕ). test f N ≡ true) (sym e) (go (ℕ_discrete N 1) (ℕ_discrete N 2))
  where
    go : Dec (N ≡ 1) → Dec (N ≡ 2) → test 1 N ≡ true
    go (yes q) d = subst (λ (m : ℕ). test 1 m ≡ true) (sym q) one-one
    go (no p) (yes q) = subst (λ (m : ℕ). test 1 m ≡ true) (sym q) one-two
    go (no p) (no d) = let q : N ≡ 3 = omega arith in subst (λ (m : ℕ). test 1 m ≡ true) (sym q) one-three
tested F N (inr e) low high = subst (λ (f : ℕ). test f N ≡ true) (sym e) (go (ℕ_discrete N 1) (ℕ_discrete N 2))
  where
    go : Dec (N ≡ 1) → Dec (N ≡ 2) → test 2 N ≡ true
    go (yes q) d = subst (λ (m : ℕ). test 2 m ≡ true) (sym q) two-one
    go (no p) (yes q) = subst (λ (m : ℕ). test 2 m ≡ true) (sym q) two-two
    go (no p) (no d) = let q : N ≡ 3 = omega arith in subst (λ (m : ℕ). test 2 m ≡ true) (sym q) two-three

-- The rules that the rows of a listed record keep.
record Small (n F : ℕ) (form : List (Row Label)) : Type 0 where
  rules : Rules n form
  own-form : canonical eqb (graph_of_rows form) ≡ written form
  acyclic : cyclic form ≡ false
  few : length form ≤ 3
  low : (r : Row Label) → Memᴰ r form → (l : ℕ × ℕ) → Memᴰ l r.1 → l.0 < F
  full : (r : Row Label) → Memᴰ r form → is_full r.0 ≡ true

listed_small : (n F : ℕ) (bytes : List ℕ) (listed : Listed n F bytes) → Small n F listed.form
unfolding features_below unranged_rows
listed_small n F bytes listed =
    record {
      rules = accepted-rules n bytes listed.form listed.reads;
      own-form = listed.own;
      acyclic = ((reading-says n bytes (accepted listed.form)).0 listed.reads).2;
      few = listed.few;
      low = λ r m l i. ltb-true l.0 F (all_of-true r.1 (λ k. ltb k.0 F) (all_of-true listed.form (λ s. all_of s.1 λ k. ltb k.0 F) listed.features r m) l i);
      full = λ r m. all_of-true listed.form (λ s. is_full s.0) listed.unranged r m;
    }

small-shaped : (n F : ℕ) (form : List (Row Label)) → Counts F → Small n F form → shaped F (links_of_rows form) ≡ true
unfolding test
small-shaped n F form f s = go (loops (links_of_rows form)) (loops-rows form ∙ s.acyclic) (own (links_of_rows form)) (own-rows form s.own-form) found
  where
    each_chosen : (k : List (ℕ × ℕ)) → Memᴰ k (links_of_rows form) → Memᴰ k (chosen (length form) (from 0 F))
    each_chosen k m =
        let (r, i, e) = map_source (λ (r : Row Label). r.1) form m in
        subst (λ (ls : List (ℕ × ℕ)). Memᴰ ls (chosen (length form) (from 0 F))) (sym e)
        (chosen-member (length form) 0 F r.1 (s.rules.ordered r i).0
        (λ l j. let a = s.low r i l j in let b = (s.rules.ranged r i).1 l j in (omega arith, omega arith, b)))

    there : Memᴰ (links_of_rows form) (tuples (chosen (length form) (from 0 F)) (length form))
    there =
        subst (λ (N : ℕ). Memᴰ (links_of_rows form) (tuples (chosen (length form) (from 0 F)) N)) (length-map form (λ r. r.1))
        (tuples-member (chosen (length form) (from 0 F)) (links_of_rows form) each_chosen)

    found : loops (links_of_rows form) || (not (own (links_of_rows form)) || shaped F (links_of_rows form)) ≡ true
    found =
        all_of-true (tuples (chosen (length form) (from 0 F)) (length form)) (λ ks. loops ks || (not (own ks) || shaped F ks))
        (tested F (length form) f s.rules.nonempty s.few) (links_of_rows form) there

    go : (a : Bool) → a ≡ false → (b : Bool) → b ≡ true → a || (not b || shaped F (links_of_rows form)) ≡ true → shaped F (links_of_rows form) ≡ true
    go true p b q h = false-true (sym p)
    go false p true q h = h
    go false p false q h = false-true q

-- The numbers of a listed record.

full-plain : (l : Label) → is_full l ≡ true → l ≡ plain l.type
unfolding is_full
full-plain l e =
    let (a, b) = both_true (eqb l.lowest 0) (eqb l.highest 255) e in
    let low : l.lowest ≡ 0 = eqb-true l.lowest 0 a in
    let high : l.highest ≡ 255 = eqb-true l.highest 255 b in
    ap₂ {C = Label} (λ (u v : ℕ). record { type = l.type; lowest = u; highest = v }) low high

stated-row : (v c : ℕ) (r : Row Label) → is_full r.0 ≡ true → same_links r.1 (link_set v c) ≡ true →
    ◌≡◌ {A = Row Label} r (plain r.0.type, link_set v c)
stated-row v c r full e = ap₂ {C = Row Label} (λ (a : Label) (b : List (ℕ × ℕ)). (a, b)) (full-plain r.0 full) (same-links r.1 (link_set v c) e)

-- Seven numbers within their bounds state the rows.
pub record Told (n F : ℕ) (form : List (Row Label)) : Type 0 where
  pub numbers : List ℕ
  pub seven : length numbers ≡ 7
  pub run : Run (span n F) [] numbers
  pub states : form ≡ stated_rows numbers

module _ (n F : ℕ) (f : Counts F) where
  typed-row : (form : List (Row Label)) → Small n F form → (r : Row Label) → Memᴰ r form → (1 ≤ r.0.type) × (r.0.type ≤ n - 1)
  typed-row form s r m = let (a, b, c) = (s.rules.ranged r m).0 in let d = b.type in (omega arith, omega arith)

  small-told : (form : List (Row Label)) → Small n F form → Told n F form
  unfolding shaped stated_rows span
  small-told [] s = false-true (small-shaped n F [] f s)
  small-told (a ∷ []) s =
      let sh = small-shaped n F (a ∷ []) f s in
      let (w₀, e₀) = both_true (within (span 2 F (1 ∷ 1 ∷ [])) (code_of a.1)) (same_links a.1 (link_set 0 (code_of a.1))) sh in
      let b₀ = within-bounds (span 2 F (1 ∷ 1 ∷ [])) (code_of a.1) w₀ in
      let t₀ = typed-row (a ∷ []) s a (mathlib.Core.List.Memᴰ.head refl) in
      record {
        numbers = 1 ∷ a.0.type ∷ code_of a.1 ∷ 0 ∷ 0 ∷ 0 ∷ 0 ∷ [];
        seven = refl;
        run = (omega arith, omega arith, (t₀.0, t₀.1, (b₀.0, b₀.1, (omega arith, omega arith, (omega arith, omega arith, (omega arith, omega arith, (omega arith, omega arith, tt)))))));
        states = ap {B = List (Row Label)} (λ (r : Row Label). r ∷ []) (stated-row 0 (code_of a.1) a (s.full a (mathlib.Core.List.Memᴰ.head refl)) e₀);
      }
  small-told (a ∷ b ∷ []) s =
      let sh = small-shaped n F (a ∷ b ∷ []) f s in
      let (w₀, r₀) = both_true (within (span 2 F (1 ∷ 2 ∷ [])) (code_of a.1)) _ sh in
      let (e₀, r₁) = both_true (same_links a.1 (link_set 0 (code_of a.1))) _ r₀ in
      let (w₁, e₁) = both_true (within (span 2 F (1 ∷ code_of a.1 ∷ 1 ∷ 2 ∷ [])) (code_of b.1)) _ r₁ in
      let b₀ = within-bounds (span 2 F (1 ∷ 2 ∷ [])) (code_of a.1) w₀ in
      let b₁ = within-bounds (span 2 F (1 ∷ code_of a.1 ∷ 1 ∷ 2 ∷ [])) (code_of b.1) w₁ in
      let t₀ = typed-row (a ∷ b ∷ []) s a (mathlib.Core.List.Memᴰ.head refl) in
      let t₁ = typed-row (a ∷ b ∷ []) s b (mathlib.Core.List.Memᴰ.tail (mathlib.Core.List.Memᴰ.head refl)) in
      record {
        numbers = 2 ∷ a.0.type ∷ code_of a.1 ∷ b.0.type ∷ code_of b.1 ∷ 0 ∷ 0 ∷ [];
        seven = refl;
        run = (omega arith, omega arith, (t₀.0, t₀.1, (b₀.0, b₀.1, (t₁.0, t₁.1, (b₁.0, b₁.1, (omega arith, omega arith, (omega arith, omega arith, tt)))))));
        states = ap₂ {C = List (Row Label)} (λ (r s : Row Label). r ∷ s ∷ [])
            (stated-row 0 (code_of a.1) a (s.full a (mathlib.Core.List.Memᴰ.head refl)) e₀)
            (stated-row 1 (code_of b.1) b (s.full b (mathlib.Core.List.Memᴰ.tail (mathlib.Core.List.Memᴰ.head refl))) e₁);
      }
  small-told (a ∷ b ∷ c ∷ []) s =
      let sh = small-shaped n F (a ∷ b ∷ c ∷ []) f s in
      let (w₀, r₀) = both_true (within (span 2 F (1 ∷ 3 ∷ [])) (code_of a.1)) _ sh in
      let (e₀, r₁) = both_true (same_links a.1 (link_set 0 (code_of a.1))) _ r₀ in
      let (w₁, r₂) = both_true (within (span 2 F (1 ∷ code_of a.1 ∷ 1 ∷ 3 ∷ [])) (code_of b.1)) _ r₁ in
      let (e₁, r₃) = both_true (same_links b.1 (link_set 1 (code_of b.1))) _ r₂ in
      let (w₂, e₂) = both_true (within (span 2 F (1 ∷ code_of b.1 ∷ 1 ∷ code_of a.1 ∷ 1 ∷ 3 ∷ [])) (code_of c.1)) _ r₃ in
      let b₀ = within-bounds (span 2 F (1 ∷ 3 ∷ [])) (code_of a.1) w₀ in
      let b₁ = within-bounds (span 2 F (1 ∷ code_of a.1 ∷ 1 ∷ 3 ∷ [])) (code_of b.1) w₁ in
      let b₂ = within-bounds (span 2 F (1 ∷ code_of b.1 ∷ 1 ∷ code_of a.1 ∷ 1 ∷ 3 ∷ [])) (code_of c.1) w₂ in
      let t₀ = typed-row (a ∷ b ∷ c ∷ []) s a (mathlib.Core.List.Memᴰ.head refl) in
      let t₁ = typed-row (a ∷ b ∷ c ∷ []) s b (mathlib.Core.List.Memᴰ.tail (mathlib.Core.List.Memᴰ.head refl)) in
      let t₂ = typed-row (a ∷ b ∷ c ∷ []) s c (mathlib.Core.List.Memᴰ.tail (mathlib.Core.List.Memᴰ.tail (mathlib.Core.List.Memᴰ.head refl))) in
      let x₀ = stated-row 0 (code_of a.1) a (s.full a (mathlib.Core.List.Memᴰ.head refl)) e₀ in
      let x₁ = stated-row 1 (code_of b.1) b (s.full b (mathlib.Core.List.Memᴰ.tail (mathlib.Core.List.Memᴰ.head refl))) e₁ in
      let x₂ = stated-row 2 (code_of c.1) c (s.full c (mathlib.Core.List.Memᴰ.tail (mathlib.Core.List.Memᴰ.tail (mathlib.Core.List.Memᴰ.head refl)))) e₂ in
      record {
        numbers = 3 ∷ a.0.type ∷ code_of a.1 ∷ b.0.type ∷ code_of b.1 ∷ c.0.type ∷ code_of c.1 ∷ [];
        seven = refl;
        run = (omega arith, omega arith, (t₀.0, t₀.1, (b₀.0, b₀.1, (t₁.0, t₁.1, (b₁.0, b₁.1, (t₂.0, t₂.1, (b₂.0, b₂.1, tt)))))));
        states = ap₂ {C = List (Row Label)} (λ (r : Row Label) (rs : List (Row Label)). r ∷ rs) x₀ (ap₂ {C = List (Row Label)} (λ (r q : Row Label). r ∷ q ∷ []) x₁ x₂);
      }
  small-told (a ∷ b ∷ c ∷ d ∷ form) s = let h = s.few in absurd (omega arith)

  -- Seven numbers within their bounds state each listed record.
  pub listed-told : (bytes : List ℕ) → Listed n F bytes → (d : List ℕ) × (length d ≡ 7) × Run (span n F) [] d × (bytes ≡ encoded (stated_rows d))
  listed-told bytes l =
      let t = small-told l.form (listed_small n F bytes l) in
      (t.numbers, t.seven, t.run, l.bytes-are ∙ ap encoded t.states)

abbrev rest : {X : Type 0} → List X → List X
rest [] = []
rest (x ∷ xs) = xs

-- The other way: what numbers within their bounds state is listed.

ascends-links : (ls : List (ℕ × ℕ)) → ascends ls ≡ true → Ascending ls
unfolding ascends
ascends-links [] e = tt
ascends-links (l ∷ ls) e =
    let (a, b) = both_true (all_of ls (λ m. ltb l.0 m.0)) (ascends ls) e in
    (λ m i. ltb-true l.0 m.0 (all_of-true ls (λ m. ltb l.0 m.0) a m i), ascends-links ls b)

few-links : (rows : List (Row Label)) → ((r : Row Label) → Memᴰ r rows → length r.1 ≤ 2) → links_in rows ≤ 2 * length rows
unfolding links_in
few-links [] h = omega arith
few-links (r ∷ rows) h =
    let a = h r (mathlib.Core.List.Memᴰ.head refl) in let b = few-links rows (λ s m. h s (mathlib.Core.List.Memᴰ.tail m)) in omega arith

in_place_lem : (rows : List (Row Label)) (form : List (Row ℕ)) (lab : ℕ → Label) (j : ℕ) → ((i : ℕ) → i < length rows → lab (j + i) ≡ label_in rows i) →
    map (λ r. r.1) form ≡ links_of_rows rows → map (λ r. r.0) form ≡ from j (length rows) → map (relabel_row lab) form ≡ rows
unfolding from
in_place_lem [] [] lab j h e q = refl
in_place_lem [] (x ∷ form) lab j h e q = let z : ◌≡◌ {A = ℕ} 0 1 = cc in absurd (omega arith)
in_place_lem (r ∷ rows) [] lab j h e q = let z : ◌≡◌ {A = ℕ} 0 1 = cc in absurd (omega arith)
in_place_lem (r ∷ rows) (x ∷ form) lab j h e q =
    let links : x.1 ≡ r.1 = ap (λ (l : Links). get_or l 0 []) e in
    let later : map (λ r. r.1) form ≡ links_of_rows rows = ap (λ (l : Links). rest l) e in
    let place : x.0 ≡ j = ap (λ (l : List ℕ). get_or l 0 0) q in
    let places : map (λ r. r.0) form ≡ from (suc j) (length rows) = ap (λ (l : List ℕ). rest l) q in
    let zero_in : j + 0 ≡ j = omega arith in
    let label : lab x.0 ≡ r.0 = ap lab (place ∙ sym zero_in) ∙ h 0 (omega arith) in
    ap₂ {C = List (Row Label)} (λ (u : Row Label) (us : List (Row Label)). u ∷ us) (ap₂ {C = Row Label} (λ (a : Label) (b : List (ℕ × ℕ)). (a, b)) label links)
    (in_place_lem rows form lab (suc j) (λ i l. let s : suc j + i ≡ j + suc i = omega arith in ap lab s ∙ h (suc i) (omega arith)) later places)

module _ (n F : ℕ) (small : n ≤ 64) (f : Counts F) where
  -- Rows with types of the table, without ranges, whose links pass the test, are a listed record.
  good-listed : (rows : List (Row Label)) → 0 < length rows → length rows ≤ 3 →
      ((r : Row Label) → Memᴰ r rows → (is_full r.0 ≡ true) × (0 < r.0.type) × (r.0.type < n)) →
      good F (links_of_rows rows) ≡ true → Listed n F (encoded rows)
  unfolding good proper features_below unranged_rows reaches_all
  good-listed rows some-row few typed e = listed
    where
      ks : Links
      ks = links_of_rows rows

      size : length ks ≡ length rows
      size = length-map rows (λ r. r.1)

      both : (all_of ks (proper F (length ks)) ≡ true) × ((not (loops ks) && (holds (λ seen. eqb (length seen) (length ks)) (visit eqb (link_in ks) 255 0 []) && in_place ks (canonical eqb (bare ks)))) ≡ true)
      both = both_true (all_of ks (proper F (length ks))) (not (loops ks) && (holds (λ seen. eqb (length seen) (length ks)) (visit eqb (link_in ks) 255 0 []) && in_place ks (canonical eqb (bare ks)))) e

      two : (not (loops ks) ≡ true) × ((holds (λ seen. eqb (length seen) (length ks)) (visit eqb (link_in ks) 255 0 []) && in_place ks (canonical eqb (bare ks))) ≡ true)
      two = both_true (not (loops ks)) (holds (λ seen. eqb (length seen) (length ks)) (visit eqb (link_in ks) 255 0 []) && in_place ks (canonical eqb (bare ks))) both.1

      three : (holds (λ seen. eqb (length seen) (length ks)) (visit eqb (link_in ks) 255 0 []) ≡ true) × (in_place ks (canonical eqb (bare ks)) ≡ true)
      three = both_true (holds (λ seen. eqb (length seen) (length ks)) (visit eqb (link_in ks) 255 0 [])) (in_place ks (canonical eqb (bare ks))) two.1

      row : (r : Row Label) → Memᴰ r rows → (ascends r.1 ≡ true) × (length r.1 ≤ 2) × ((l : ℕ × ℕ) → Memᴰ l r.1 → (l.0 < F) × (l.1 < length rows))
      row r m =
          let p = all_of-true ks (proper F (length ks)) both.0 r.1 (map-member (λ (s : Row Label). s.1) m) in
          let (up, q) = both_true (ascends r.1) (leb (length r.1) 2 && all_of r.1 λ l. ltb l.0 F && ltb l.1 (length ks)) p in
          let (short, all) = both_true (leb (length r.1) 2) (all_of r.1 λ l. ltb l.0 F && ltb l.1 (length ks)) q in (
            up,
            leb-true (length r.1) 2 short,
            λ l i.
                let (a, b) = both_true (ltb l.0 F) (ltb l.1 (length ks)) (all_of-true r.1 (λ l. ltb l.0 F && ltb l.1 (length ks)) all l i) in
                let c = ltb-true l.1 (length ks) b in
                (ltb-true l.0 F a, omega (arith, size)),
          )

      F-small : F ≤ 2
      F-small = ⊎_elim (λ (q : F ≡ 1). omega arith) (λ (q : F ≡ 2). omega arith) f

      acyclic : cyclic rows ≡ false
      acyclic = sym (loops-rows rows) ∙ go (loops ks) two.0
        where
          go : (b : Bool) → not b ≡ true → b ≡ false
          go true q = false-true q
          go false q = refl

      reaches : reaches_all rows ≡ true
      reaches =
          ap (λ (next : ℕ → ℕ → Option ℕ). holds (λ seen. eqb (length seen) (length rows)) (visit eqb next 255 0 [])) (link-same rows)
          ∙ ap (λ (k : ℕ). holds (λ seen. eqb (length seen) k) (visit eqb (link_in ks) 255 0 [])) (sym size) ∙ three.0

      ranged : InRange n rows
      ranged r m =
          let (full, positive, below) = typed r m in
          let p = full-plain r.0 full in
          let low : r.0.lowest ≡ 0 = ap (λ (l : Label). l.lowest) p in
          let high : r.0.highest ≡ 255 = ap (λ (l : Label). l.highest) p in
          ((positive, record { type = below; lowest = omega arith; highest = omega arith }, omega arith), λ l i. ((row r m).2 l i).1)

      reads : reading n (encoded rows) ≡ accepted rows
      reads =
          let links = few-links rows (λ r m. (row r m).1) in
          (reading-says n (encoded rows) (accepted rows)).1 (
            decode-encode rows some-row (omega arith) (λ r m. let t = typed r m in let below = t.2 in omega arith)
                (λ r m. (ascends-links r.1 (row r m).0, λ l i. let a = (row r m).2 l i in let b = F-small in omega arith)),
            (in-range n rows).1 ranged,
            acyclic,
            reaches,
          )

      own-form : canonical eqb (graph_of_rows rows) ≡ written rows
      own-form = canonical-rows rows ∙ go (canonical eqb (bare ks)) three.1
        where
          go : (o : Canonical ℕ) → in_place ks o ≡ true → relabel_form (label_in rows) o ≡ written rows
          go many_nodes q = false-true q
          go many_links q = false-true q
          go (written form) q =
              let (a, b) = both_true (same_all (map (λ r. r.1) form) ks) (same_numbers (map (λ r. r.0) form) (from 0 (length ks))) q in
              ap written (in_place_lem rows form (label_in rows) 0 (λ i h. ap (label_in rows) (zero-add i)) (same-all (map (λ r. r.1) form) ks a)
              (same-numbers (map (λ r. r.0) form) (from 0 (length ks)) b ∙ ap (from 0) size))

      listed : Listed n F (encoded rows)
      listed =
          record {
            form = rows;
            reads = reads;
            own = own-form;
            bytes-are = refl;
            few = few;
            features = true-all_of rows (λ r. all_of r.1 λ l. ltb l.0 F) (λ r m. true-all_of r.1 (λ l. ltb l.0 F) (λ l i. lt-ltb l.0 F ((row r m).2 l i).0));
            unranged = true-all_of rows (λ r. is_full r.0) (λ r m. (typed r m).0);
          }

  stated-good : (d : List ℕ) → Run (span 2 F) [] d → length d ≡ 7 → good F (stated_links d) ≡ true
  unfolding stated
  stated-good d r e =
      all_of-true (runs (span 2 F) [] 7) (λ d. good F (stated_links d)) holds-all d
      (subst (λ (k : ℕ). Memᴰ d (runs (span 2 F) [] k)) e (member-run (span 2 F) [] d r))
    where
      holds-all : stated F ≡ true
      holds-all = ⊎_elim (λ (q : F ≡ 1). subst (λ (k : ℕ). stated k ≡ true) (sym q) stated-one) (λ (q : F ≡ 2). subst (λ (k : ℕ). stated k ≡ true) (sym q) stated-two) f

  -- a row that numbers state
  plain_row : (t : ℕ) (ls : List (ℕ × ℕ)) → 1 ≤ t → t ≤ n - 1 → (r : Row Label) → r ≡ (plain t, ls) → (is_full r.0 ≡ true) × (0 < r.0.type) × (r.0.type < n)
  unfolding is_full
  plain_row t ls low high r e =
      let type : r.0.type ≡ t = ap (λ (x : Row Label). x.0.type) e in
      (subst (λ (x : Row Label). is_full x.0 ≡ true) (sym e) refl, omega arith, omega arith)

  run-listed-at : (N t₀ c₀ t₁ c₁ t₂ c₂ : ℕ) → Run (span n F) [] (N ∷ t₀ ∷ c₀ ∷ t₁ ∷ c₁ ∷ t₂ ∷ c₂ ∷ []) →
      Listed n F (encoded (stated_rows (N ∷ t₀ ∷ c₀ ∷ t₁ ∷ c₁ ∷ t₂ ∷ c₂ ∷ [])))
  unfolding span stated_rows stated_links
  run-listed-at zero t₀ c₀ t₁ c₁ t₂ c₂ (a, b, r) = absurd (omega arith)
  run-listed-at (suc zero) t₀ c₀ t₁ c₁ t₂ c₂ (a, b, (lt₀, ht₀, (lc₀, hc₀, (lt₁, ht₁, (lc₁, hc₁, (lt₂, ht₂, (lc₂, hc₂, _))))))) =
      good-listed ((plain t₀, link_set 0 c₀) ∷ []) (omega arith) (omega arith)
      (λ r m. ⊎_elim (λ (e : r ≡ (plain t₀, link_set 0 c₀)). plain_row t₀ (link_set 0 c₀) lt₀ ht₀ r e) (λ k. absurd (mathlib.Core.List.Memᴰ.not-nil k)) (mathlib.Core.List.Memᴰ.cases_cons m))
      (stated-good (1 ∷ 1 ∷ c₀ ∷ 0 ∷ c₁ ∷ 0 ∷ c₂ ∷ [])
      (omega arith, omega arith, (omega arith, omega arith, (lc₀, hc₀, (omega arith, omega arith, (lc₁, hc₁, (omega arith, omega arith, (lc₂, hc₂, tt))))))) refl)
  run-listed-at (suc (suc zero)) t₀ c₀ t₁ c₁ t₂ c₂ (a, b, (lt₀, ht₀, (lc₀, hc₀, (lt₁, ht₁, (lc₁, hc₁, (lt₂, ht₂, (lc₂, hc₂, _))))))) =
      good-listed ((plain t₀, link_set 0 c₀) ∷ (plain t₁, link_set 1 c₁) ∷ []) (omega arith) (omega arith)
      (λ r m. ⊎_elim (λ (e : r ≡ (plain t₀, link_set 0 c₀)). plain_row t₀ (link_set 0 c₀) lt₀ ht₀ r e)
      (λ k. ⊎_elim (λ (e : r ≡ (plain t₁, link_set 1 c₁)). plain_row t₁ (link_set 1 c₁) lt₁ ht₁ r e) (λ j. absurd (mathlib.Core.List.Memᴰ.not-nil j)) (mathlib.Core.List.Memᴰ.cases_cons k)) (mathlib.Core.List.Memᴰ.cases_cons m))
      (stated-good (2 ∷ 1 ∷ c₀ ∷ 1 ∷ c₁ ∷ 0 ∷ c₂ ∷ [])
      (omega arith, omega arith, (omega arith, omega arith, (lc₀, hc₀, (omega arith, omega arith, (lc₁, hc₁, (omega arith, omega arith, (lc₂, hc₂, tt))))))) refl)
  run-listed-at (suc (suc (suc zero))) t₀ c₀ t₁ c₁ t₂ c₂ (a, b, (lt₀, ht₀, (lc₀, hc₀, (lt₁, ht₁, (lc₁, hc₁, (lt₂, ht₂, (lc₂, hc₂, _))))))) =
      good-listed ((plain t₀, link_set 0 c₀) ∷ (plain t₁, link_set 1 c₁) ∷ (plain t₂, link_set 2 c₂) ∷ []) (omega arith) (omega arith)
      (λ r m. ⊎_elim (λ (e : r ≡ (plain t₀, link_set 0 c₀)). plain_row t₀ (link_set 0 c₀) lt₀ ht₀ r e)
      (λ k. ⊎_elim (λ (e : r ≡ (plain t₁, link_set 1 c₁)). plain_row t₁ (link_set 1 c₁) lt₁ ht₁ r e)
      (λ j. ⊎_elim (λ (e : r ≡ (plain t₂, link_set 2 c₂)). plain_row t₂ (link_set 2 c₂) lt₂ ht₂ r e) (λ i. absurd (mathlib.Core.List.Memᴰ.not-nil i)) (mathlib.Core.List.Memᴰ.cases_cons j)) (mathlib.Core.List.Memᴰ.cases_cons k)) (mathlib.Core.List.Memᴰ.cases_cons m))
      (stated-good (3 ∷ 1 ∷ c₀ ∷ 1 ∷ c₁ ∷ 1 ∷ c₂ ∷ [])
      (omega arith, omega arith, (omega arith, omega arith, (lc₀, hc₀, (omega arith, omega arith, (lc₁, hc₁, (omega arith, omega arith, (lc₂, hc₂, tt))))))) refl)
  run-listed-at (suc (suc (suc (suc N)))) t₀ c₀ t₁ c₁ t₂ c₂ (a, b, r) = absurd (omega arith)

  -- What seven numbers within their bounds state is listed.
  pub run-listed : (d : List ℕ) → length d ≡ 7 → Run (span n F) [] d → Listed n F (encoded (stated_rows d))
  run-listed [] e r = absurd (omega arith)
  run-listed (a ∷ []) e r = absurd (omega arith)
  run-listed (a ∷ b ∷ []) e r = absurd (omega arith)
  run-listed (a ∷ b ∷ c ∷ []) e r = absurd (omega arith)
  run-listed (a ∷ b ∷ c ∷ d ∷ []) e r = absurd (omega arith)
  run-listed (a ∷ b ∷ c ∷ d ∷ x ∷ []) e r = absurd (omega arith)
  run-listed (a ∷ b ∷ c ∷ d ∷ x ∷ y ∷ []) e r = absurd (omega arith)
  run-listed (a ∷ b ∷ c ∷ d ∷ x ∷ y ∷ z ∷ []) e r = run-listed-at a b c d x y z r
  run-listed (a ∷ b ∷ c ∷ d ∷ x ∷ y ∷ z ∷ w ∷ more) e r = absurd (omega arith)
