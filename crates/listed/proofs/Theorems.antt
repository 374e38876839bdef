-- The list has the listed records and no others, and it ascends. `following` gives the least listed record above the given one, and calls from
-- the first on give each listed record once.
use mathlib.Core.Path.{◌≡◌, refl, sym, ◌∙◌, ap, subst}
use mathlib.Core.Bool.{Bool, true, false, cond, ◌&&◌}
use mathlib.Core.List.Memᴰ
use mathlib.Core.List.{List, [], ◌∷◌, Memᴰ}
use mathlib.Core.Logic.{◌↔◌, inl, inr, ⊎_elim}
use mathlib.Core.Option.{Option, none, some, map, bind}
use Prim.Native.Nat.{ℕ, zero, suc, ◌-◌, ◌≤◌, ◌<◌}
use native.Mathlib.Omega.{arith}
use lib.Dec.{eqb, leb}
use lib.ListN.{length}
use Rattle.encoder.specs.Encode.{encoded}
use Rattle.listed.specs.Listing.{precedes, Listed, LeastAbove, span, runs, raised, record_of, listing, first_after, following, calls, Run}
use Rattle.listed.proofs.Order.{Before, Ascends, Least, before-irrefl, before-trans, before-cases, ascends-map, map_source, map-member, first-least, none_above, least_first, above-none}
use Rattle.listed.proofs.Runs.{Raises, raises, member-run, run-member, runs-ascend}
use Rattle.listed.proofs.Stated.{Counts, listed-told, run-listed}
use Rattle.listed.proofs.Bytes.{record-before}

-- Member k of a list.
unfoldable nth : List (List ℕ) → ℕ → Option (List ℕ)
nth [] k = none
nth (x ∷ xs) zero = some x
nth (x ∷ xs) (suc k) = nth xs k

nth-member : (L : List (List ℕ)) (k : ℕ) (x : List ℕ) → nth L k ≡ some x → Memᴰ x L
unfolding nth
nth-member [] k x e = let z : ◌≡◌ {A = ℕ} 0 1 = cc in absurd (omega arith)
nth-member (y ∷ L) zero x e = let same : y ≡ x = cc in Memᴰ.head (sym same)
nth-member (y ∷ L) (suc k) x e = Memᴰ.tail (nth-member L k x e)

member-nth : (L : List (List ℕ)) (x : List ℕ) → Memᴰ x L → (k : ℕ) × (nth L k ≡ some x)
unfolding nth
member-nth [] x m = absurd (Memᴰ.not-nil m)
member-nth (y ∷ L) x (Memᴰ.head e) = (0, ap {B = Option (List ℕ)} some (sym e))
member-nth (y ∷ L) x (Memᴰ.tail m) = let (k, e) = member-nth L x m in (suc k, e)

nth-out : (L : List (List ℕ)) → nth L (length L) ≡ none
unfolding nth
nth-out [] = refl
nth-out (x ∷ L) = nth-out L

nth_in : (L : List (List ℕ)) (k : ℕ) → k < length L → (x : List ℕ) × (nth L k ≡ some x)
unfolding nth
nth_in [] k h = absurd (omega arith)
nth_in (x ∷ L) zero h = (x, refl)
nth_in (x ∷ L) (suc k) h = nth_in L k (omega arith)

nth-once : (L : List (List ℕ)) → Ascends L → (j k : ℕ) (x : List ℕ) → nth L j ≡ some x → nth L k ≡ some x → j ≡ k
unfolding nth
nth-once [] a j k x e q = let z : ◌≡◌ {A = ℕ} 0 1 = cc in absurd (omega arith)
nth-once (y ∷ L) a zero zero x e q = refl
nth-once (y ∷ L) a zero (suc k) x e q =
    let same : y ≡ x = cc in
    absurd (before-irrefl x (subst (λ (w : List ℕ). Before w x) same (a.0 x (nth-member L k x q))))
nth-once (y ∷ L) a (suc j) zero x e q =
    let same : y ≡ x = cc in
    absurd (before-irrefl x (subst (λ (w : List ℕ). Before w x) same (a.0 x (nth-member L j x e))))
nth-once (y ∷ L) a (suc j) (suc k) x e q = ap suc (nth-once L a.1 j k x e q)

skip : (L : List (List ℕ)) (x y : List ℕ) → (Before x y → ⊥) → first_after x (y ∷ L) ≡ first_after x L
unfolding first_after
skip L x y h = go (precedes x y) refl
  where
    go : (b : Bool) → precedes x y ≡ b → cond b (some y) (first_after x L) ≡ first_after x L
    go true e = absurd (h e)
    go false e = refl

hit : (L : List (List ℕ)) (x y : List ℕ) → Before x y → first_after x (y ∷ L) ≡ some y
unfolding first_after
hit L x y h = ap (λ (b : Bool). cond {A = Option (List ℕ)} b (some y) (first_after x L)) h

-- If all members of a list come after x, the first of them follows x.
all_after : (L : List (List ℕ)) (x : List ℕ) → ((y : List ℕ) → Memᴰ y L → Before x y) → first_after x L ≡ nth L 0
unfolding nth first_after
all_after [] x h = refl
all_after (y ∷ L) x h = hit L x y (h y (Memᴰ.head refl))

next-nth : (L : List (List ℕ)) → Ascends L → (k : ℕ) (x : List ℕ) → nth L k ≡ some x → first_after x L ≡ nth L (suc k)
unfolding nth
next-nth [] a k x e = let z : ◌≡◌ {A = ℕ} 0 1 = cc in absurd (omega arith)
next-nth (y ∷ L) a zero x e =
    let same : y ≡ x = cc in
    subst (λ (w : List ℕ). first_after w (y ∷ L) ≡ nth L 0) same (skip L y y (before-irrefl y) ∙ all_after L y a.0)
next-nth (y ∷ L) a (suc k) x e =
    skip L x y (λ h. before-irrefl x (before-trans x y x h (a.0 x (nth-member L k x e)))) ∙ next-nth L a.1 k x e

nth_past : (L : List (List ℕ)) (j : ℕ) → nth L j ≡ none → nth L (suc j) ≡ none
unfolding nth
nth_past [] j e = refl
nth_past (x ∷ L) zero e = let z : ◌≡◌ {A = ℕ} 0 1 = cc in absurd (omega arith)
nth_past (x ∷ L) (suc j) e = nth_past L j e

-- The bounds of each number leave at least one choice.
pub span_fits : (n F : ℕ) → 2 ≤ n → (p : List ℕ) → (span n F p).0 ≤ (span n F p).1
unfolding span
span_fits n F h [] = omega arith
span_fits n F h (N ∷ []) = omega arith
span_fits n F h (t₀ ∷ N ∷ []) = go (eqb N 1) (eqb N 3 && eqb F 2) (eqb F 1)
  where
    go : (c d e : Bool) → (cond {A = ℕ × ℕ} c (0, 0) (1, cond d 4 (cond e 1 3))).0 ≤ (cond {A = ℕ × ℕ} c (0, 0) (1, cond d 4 (cond e 1 3))).1
    go true d e = omega arith
    go false true e = omega arith
    go false false true = omega arith
    go false false false = omega arith
span_fits n F h (c₀ ∷ t₀ ∷ N ∷ []) = go (leb 2 N)
  where
    go : (c : Bool) → (cond {A = ℕ × ℕ} c (1, n - 1) (0, 0)).0 ≤ (cond {A = ℕ × ℕ} c (1, n - 1) (0, 0)).1
    go true = omega arith
    go false = omega arith
span_fits n F h (t₁ ∷ c₀ ∷ t₀ ∷ N ∷ []) = go (eqb N 3) (eqb c₀ 4) (eqb F 1)
  where
    go : (c d e : Bool) → (cond {A = ℕ × ℕ} c (cond d 0 1, cond e 1 3) (0, 0)).0 ≤ (cond {A = ℕ × ℕ} c (cond d 0 1, cond e 1 3) (0, 0)).1
    go true true true = omega arith
    go true true false = omega arith
    go true false true = omega arith
    go true false false = omega arith
    go false d e = omega arith
span_fits n F h (c₁ ∷ t₁ ∷ c₀ ∷ t₀ ∷ N ∷ []) = go (eqb N 3)
  where
    go : (c : Bool) → (cond {A = ℕ × ℕ} c (1, n - 1) (0, 0)).0 ≤ (cond {A = ℕ × ℕ} c (1, n - 1) (0, 0)).1
    go true = omega arith
    go false = omega arith
span_fits n F h (t₂ ∷ c₁ ∷ t₁ ∷ c₀ ∷ t₀ ∷ N ∷ []) = go (eqb N 3 && eqb c₀ 4 && eqb c₁ 0)
  where
    go : (c : Bool) → (cond {A = ℕ × ℕ} c (0, 3) (0, 0)).0 ≤ (cond {A = ℕ × ℕ} c (0, 3) (0, 0)).1
    go true = omega arith
    go false = omega arith
span_fits n F h (c₂ ∷ t₂ ∷ c₁ ∷ t₁ ∷ c₀ ∷ t₀ ∷ N ∷ more) = omega arith

module _ (n F : ℕ) (low : 2 ≤ n) (small : n ≤ 64) (f : Counts F) where
  -- The list has the listed records and no others.
  pub listing-exactly : (bytes : List ℕ) → Memᴰ bytes (listing n F) ↔ Listed n F bytes
  unfolding listing
  listing-exactly bytes = (
    λ m.
        let (d, i, e) = map_source record_of (runs (span n F) [] 7) m in
        let (l, r) = run-member (span n F) [] 7 d i in
        subst (λ (b : List ℕ). Listed n F b) (sym e) (run-listed n F small f d l r),
    λ l.
        let (d, seven, r, e) = listed-told n F f bytes l in
        Memᴰ.cast e (map-member record_of (subst (λ (k : ℕ). Memᴰ d (runs (span n F) [] k)) seven (member-run (span n F) [] d r))),
  )

  -- The list is "in the order of their bytes".
  pub listing-ascends : Ascends (listing n F)
  unfolding listing
  listing-ascends =
      ascends-map record_of (runs (span n F) [] 7)
      (λ d e i j h. let (l, r) = run-member (span n F) [] 7 d i in let (m, s) = run-member (span n F) [] 7 e j in record-before n F d e l m r s h)
      (runs-ascend (span n F) [] 7)

  to-above : (bytes r : List ℕ) → Least (listing n F) bytes r → LeastAbove n F bytes r
  to-above bytes r l =
      record {
        listed = (listing-exactly r).0 l.among;
        above = l.above;
        least = λ s i h.
            ⊎_elim (λ (b : Before s r). absurd (l.least s ((listing-exactly s).1 i) h b))
            (⊎_elim (λ (e : s ≡ r). inl e) (λ (b : Before r s). inr b)) (before-cases s r);
      }

  from-above : (bytes r : List ℕ) → LeastAbove n F bytes r → Least (listing n F) bytes r
  from-above bytes r l =
      record {
        among = (listing-exactly r).1 l.listed;
        above = l.above;
        least = λ s m h b.
            ⊎_elim (λ (e : s ≡ r). before-irrefl r (subst (λ (w : List ℕ). Before w r) e b)) (λ (c : Before r s). before-irrefl r (before-trans r s r c b))
            (l.least s ((listing-exactly s).0 m) h);
      }

  -- "the next": the least listed record above the given one; for no bytes, the least of all.
  pub following-least : (bytes r : List ℕ) → (following n F bytes ≡ some r) ↔ LeastAbove n F bytes r
  unfolding following
  following-least bytes r = (
    λ e. to-above bytes r (first-least (listing n F) bytes r listing-ascends e),
    λ l. least_first (listing n F) bytes r listing-ascends (from-above bytes r l),
  )

  -- "or the end": there is no next record exactly where no listed record is above.
  pub following-end : (bytes : List ℕ) → (following n F bytes ≡ none) ↔ ((s : List ℕ) → Listed n F s → precedes bytes s ≡ true → ⊥)
  unfolding following
  following-end bytes = (
    λ e s l h. none_above (listing n F) bytes s e ((listing-exactly s).1 l) h,
    λ h. above-none (listing n F) bytes listing-ascends (λ s m b. h s ((listing-exactly s).0 m) b),
  )

  -- Raising the numbers of a record gives the record that follows.
  pub following-raised : (d : List ℕ) → length d ≡ 7 → Run (span n F) [] d → following n F (record_of d) ≡ map record_of (raised (span n F) [] d)
  unfolding following
  following-raised d seven r = go (raised (span n F) [] d) (raises (span n F) (span_fits n F low) [] d r)
    where
      -- numbers of a record of the listing that comes after
      after : (s : List ℕ) → Memᴰ s (listing n F) → Before (record_of d) s → (e : List ℕ) × (length e ≡ 7) × Run (span n F) [] e × (s ≡ record_of e) × Before d e
      after s m h =
          let (e, l, q, i) = listed-told n F f s ((listing-exactly s).0 m) in (
            e,
            l,
            q,
            i,
            ⊎_elim (λ (b : Before d e). b)
                (⊎_elim (λ (k : d ≡ e). absurd (before-irrefl s (subst (λ (w : List ℕ). Before w s) (ap record_of k ∙ sym i) h)))
                (λ (b : Before e d). absurd (before-irrefl s (before-trans s (record_of d) s (subst (λ (w : List ℕ). Before w (record_of d)) (sym i) (record-before n F e d l seven q r b)) h))))
                (before-cases d e),
          )

      go : (o : Option (List ℕ)) → Raises (span n F) [] d o → first_after (record_of d) (listing n F) ≡ map record_of o
      go none h =
          above-none (listing n F) (record_of d) listing-ascends
          (λ s m b. let (e, l, q, i, k) = after s m b in h e q (l ∙ sym seven) k)
      go (some z) h =
          let long : length z ≡ 7 = h.long ∙ seven in
          least_first (listing n F) (record_of d) (record_of z) listing-ascends
          (record {
            among = (listing-exactly (record_of z)).1 (run-listed n F small f z long h.run);
            above = record-before n F d z seven long r h.run h.above;
            least = λ s m b c.
                let (e, l, q, i, k) = after s m b in
                ⊎_elim (λ (w : Before e z). h.least e q (l ∙ sym seven) k w)
                (⊎_elim (λ (w : e ≡ z). before-irrefl s (subst (λ (u : List ℕ). Before s u) (sym (ap record_of w) ∙ sym i) c))
                (λ (w : Before z e). before-irrefl s (before-trans s (record_of z) s c (subst (λ (u : List ℕ). Before (record_of z) u) (sym i) (record-before n F z e long l h.run q w)))))
                (before-cases e z);
          })

  -- Calls from the first on.

  pub listed-bytes : (s : List ℕ) → Listed n F s → Before [] s
  unfolding precedes encoded
  listed-bytes s l = subst (λ (w : List ℕ). Before [] w) (sym l.bytes-are) refl

  calls-nth : (k : ℕ) → calls n F k ≡ nth (listing n F) k
  unfolding calls following bind nth
  calls-nth zero = all_after (listing n F) [] (λ s m. listed-bytes s ((listing-exactly s).0 m))
  calls-nth (suc k) = go (nth (listing n F) k) refl (calls-nth k)
    where
      go : (o : Option (List ℕ)) → nth (listing n F) k ≡ o → calls n F k ≡ nth (listing n F) k → bind (calls n F k) (λ b. first_after b (listing n F)) ≡ nth (listing n F) (suc k)
      go none e c = ap (λ (u : Option (List ℕ)). bind u (λ b. first_after b (listing n F))) (c ∙ e) ∙ sym (nth_past (listing n F) k e)
      go (some x) e c = ap (λ (u : Option (List ℕ)). bind u (λ b. first_after b (listing n F))) (c ∙ e) ∙ next-nth (listing n F) listing-ascends k x e

  -- "Every such graph comes up once."
  pub comes-up : (k : ℕ) (bytes : List ℕ) → calls n F k ≡ some bytes → Listed n F bytes
  comes-up k bytes e = (listing-exactly bytes).0 (nth-member (listing n F) k bytes (sym (calls-nth k) ∙ e))

  pub once : (bytes : List ℕ) → Listed n F bytes → (k : ℕ) × (calls n F k ≡ some bytes) × ((j : ℕ) → calls n F j ≡ some bytes → j ≡ k)
  once bytes l =
      let (k, e) = member-nth (listing n F) bytes ((listing-exactly bytes).1 l) in
      (k, calls-nth k ∙ e, λ j q. nth-once (listing n F) listing-ascends j k bytes (sym (calls-nth j) ∙ q) e)

  -- As many calls as there are listed records give a record, and the next call gives none.
  pub calls-end : (calls n F (length (listing n F)) ≡ none) × ((j : ℕ) → j < length (listing n F) → (bytes : List ℕ) × (calls n F j ≡ some bytes))
  calls-end = (
    calls-nth (length (listing n F)) ∙ nth-out (listing n F),
    λ j h. let (bytes, e) = nth_in (listing n F) j h in (bytes, calls-nth j ∙ e),
  )
