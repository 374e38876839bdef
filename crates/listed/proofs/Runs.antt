-- Lists of numbers, each within bounds that the numbers before it give. The lemmas make all such lists in order, and the next list after a given
-- one: the last number that can be raised is raised, and those behind it take their least.
use mathlib.Core.Path.{◌≡◌, refl, sym, ap, subst}
use mathlib.Core.Bool.{Bool, true, false, cond}
use mathlib.Core.List.Memᴰ
use mathlib.Core.List.{List, [], ◌∷◌, map, flat_map, Memᴰ}
use mathlib.Core.Logic.{⊎_elim}
use mathlib.Core.Option
use mathlib.Core.Option.{Option, none, some, or_else}
use Prim.Native.Nat.{ℕ, zero, suc, ◌-◌, ◌≤◌, ◌<◌}
use native.Mathlib.Omega.{arith}
use borrow.Author.Tests.{ltb-true, ltb-false}
use lib.Dec.{ltb}
use lib.ListN.{length}
use Rattle.graphs.specs.Rows.{from}
use Rattle.graphs.proofs.Lists.{from_member, from-range, flat_map-member, flat_map-source}
use Rattle.listed.specs.Listing.{precedes, Run, runs, raised, least_run}
use Rattle.listed.proofs.Order.{Before, Ascends, false-true, less-before, same-before, before-parts, ascends-append, ascends-map, map_source, map-member}

module _ (bounds : List ℕ → ℕ × ℕ) where
  pub member-run : (p xs : List ℕ) → Run bounds p xs → Memᴰ xs (runs bounds p (length xs))
  unfolding runs
  member-run p [] r = Memᴰ.head refl
  member-run p (x ∷ xs) (low, high, r) =
      flat_map-member (λ y. map (λ ys. y ∷ ys) (runs bounds (y ∷ p) (length xs)))
      (from_member (bounds p).0 (suc (bounds p).1 - (bounds p).0) x low (omega arith))
      (map-member (λ ys. x ∷ ys) (member-run (x ∷ p) xs r))

  pub run-member : (p : List ℕ) (k : ℕ) (xs : List ℕ) → Memᴰ xs (runs bounds p k) → (length xs ≡ k) × Run bounds p xs
  unfolding runs
  run-member p zero [] m = (refl, tt)
  run-member p zero (x ∷ xs) (Memᴰ.head e) = let z : ◌≡◌ {A = ℕ} 0 1 = cc in absurd (omega arith)
  run-member p zero (x ∷ xs) (Memᴰ.tail m) = absurd (Memᴰ.not-nil m)
  run-member p (suc k) xs m =
      let (x, i, j) = flat_map-source (λ y. map (λ ys. y ∷ ys) (runs bounds (y ∷ p) k)) (from (bounds p).0 (suc (bounds p).1 - (bounds p).0)) m in
      let (ys, n, e) = map_source (λ ys. x ∷ ys) (runs bounds (x ∷ p) k) j in
      let (l, r) = run-member (x ∷ p) k ys n in
      let (a, b) = from-range (bounds p).0 (suc (bounds p).1 - (bounds p).0) x i in
      let both : (length (x ∷ ys) ≡ suc k) × Run bounds p (x ∷ ys) = (ap suc l, (a, omega arith, r)) in
      subst (λ (w : List ℕ). (length w ≡ suc k) × Run bounds p w) (sym e) both

  -- Lists that begin with one number, followed by those that begin with the next number, ascend.
  spread-ascends : (make : ℕ → List (List ℕ)) → ((x : ℕ) → Ascends (make x)) → (a m : ℕ) →
      Ascends (flat_map (λ x. map (λ xs. x ∷ xs) (make x)) (from a m))
  unfolding from flat_map
  spread-ascends make h a zero = tt
  spread-ascends make h a (suc m) =
      ascends-append (map (λ xs. a ∷ xs) (make a)) (flat_map (λ x. map (λ xs. x ∷ xs) (make x)) (from (suc a) m))
      (ascends-map (λ xs. a ∷ xs) (make a) (λ x y _ _ b. same-before a x y b) (h a))
      (spread-ascends make h (suc a) m)
      (λ u v i j.
      let (us, _, e) = map_source (λ xs. a ∷ xs) (make a) i in
      let (z, n, k) = flat_map-source (λ x. map (λ xs. x ∷ xs) (make x)) (from (suc a) m) j in
      let (vs, _, q) = map_source (λ xs. z ∷ xs) (make z) k in
      let range = from-range (suc a) m z n in
      let b : Before (a ∷ us) (z ∷ vs) = less-before a z us vs (omega arith) in
      subst (λ (w : List ℕ). Before w v) (sym e) (subst (λ (w : List ℕ). Before (a ∷ us) w) (sym q) b))

  pub runs-ascend : (p : List ℕ) (k : ℕ) → Ascends (runs bounds p k)
  unfolding runs
  runs-ascend p zero = (λ y m. absurd (Memᴰ.not-nil m), tt)
  runs-ascend p (suc k) =
      spread-ascends (λ x. runs bounds (x ∷ p) k) (λ x. runs-ascend (x ∷ p) k) (bounds p).0 (suc (bounds p).1 - (bounds p).0)

  -- Raising.

  pub length-least : (k : ℕ) (p : List ℕ) → length (least_run bounds k p) ≡ k
  unfolding least_run
  length-least zero p = refl
  length-least (suc k) p = ap suc (length-least k ((bounds p).0 ∷ p))

  -- No list of k numbers within the bounds comes before the least one.
  pub least-run : (k : ℕ) (p ys : List ℕ) → Run bounds p ys → length ys ≡ k → Before ys (least_run bounds k p) → ⊥
  unfolding least_run precedes
  least-run zero p [] r e h = false-true h
  least-run zero p (y ∷ ys) r e h = absurd (omega arith)
  least-run (suc k) p [] r e h = absurd (omega arith)
  least-run (suc k) p (y ∷ ys) (low, high, r) e h =
      ⊎_elim (λ (l : y < (bounds p).0). absurd (omega arith))
      (λ q. least-run k ((bounds p).0 ∷ p) ys (subst (λ (w : ℕ). Run bounds (w ∷ p) ys) q.0 r) (omega (arith, e)) q.1)
      (before-parts y (bounds p).0 ys (least_run bounds k ((bounds p).0 ∷ p)) h)

  -- zs comes after xs, is within the bounds, and no list is between them.
  pub record Next (p xs zs : List ℕ) : Type 0 where
    pub long : length zs ≡ length xs
    pub run : Run bounds p zs
    pub above : Before xs zs
    pub least : (ys : List ℕ) → Run bounds p ys → length ys ≡ length xs → Before xs ys → Before ys zs → ⊥

  -- What raising gives: the next list, or none where no list comes after.
  abbrev pub Raises : List ℕ → List ℕ → Option (List ℕ) → Type 0
  Raises p xs none = (ys : List ℕ) → Run bounds p ys → length ys ≡ length xs → Before xs ys → ⊥
  Raises p xs (some zs) = Next p xs zs

  module _ (fits : (p : List ℕ) → (bounds p).0 ≤ (bounds p).1) where
    pub run-least : (k : ℕ) (p : List ℕ) → Run bounds p (least_run bounds k p)
    unfolding least_run
    run-least zero p = tt
    run-least (suc k) p = let h = fits p in (omega arith, omega arith, run-least k ((bounds p).0 ∷ p))

    pub raises : (p xs : List ℕ) → Run bounds p xs → Raises p xs (raised bounds p xs)
    unfolding raised precedes or_else
    raises p [] r = λ ys s e h. go ys e h
      where
        go : (ys : List ℕ) → length ys ≡ 0 → Before [] ys → ⊥
        go [] e h = false-true h
        go (y ∷ ys) e h = omega arith
    raises p (x ∷ xs) (low, high, r) = later (raised bounds (x ∷ p) xs) (raises (x ∷ p) xs r)
      where
        later : (o : Option (List ℕ)) → Raises (x ∷ p) xs o →
            Raises p (x ∷ xs) (or_else (Option.map (λ zs. x ∷ zs) o) (cond (ltb x (bounds p).1) (some (suc x ∷ least_run bounds (length xs) (suc x ∷ p))) none))
        later (some zs) n =
            record {
              long = ap suc n.long;
              run = (low, high, n.run);
              above = same-before x xs zs n.above;
              least = λ ys s e h k. kept ys s e h k;
            }
          where
            kept : (ys : List ℕ) → Run bounds p ys → length ys ≡ suc (length xs) → Before (x ∷ xs) ys → Before ys (x ∷ zs) → ⊥
            kept [] s e h k = omega arith
            kept (y ∷ ys) (a, b, s) e h k =
                ⊎_elim (λ (l : x < y). ⊎_elim (λ (m : y < x). omega arith) (λ q. let i : y ≡ x = q.0 in omega arith) (before-parts y x ys zs k))
                (λ q. ⊎_elim (λ (m : y < x). let i : x ≡ y = q.0 in omega arith)
                (λ w. n.least ys (subst (λ (v : ℕ). Run bounds (v ∷ p) ys) w.0 s) (omega (arith, e)) q.1 w.1) (before-parts y x ys zs k))
                (before-parts x y xs ys h)
        later none n = here (ltb x (bounds p).1) refl
          where
            here : (b : Bool) → ltb x (bounds p).1 ≡ b → Raises p (x ∷ xs) (cond b (some (suc x ∷ least_run bounds (length xs) (suc x ∷ p))) none)
            here true t =
                let l = ltb-true x (bounds p).1 t in
                record {
                  long = ap suc (length-least (length xs) (suc x ∷ p));
                  run = (omega arith, omega arith, run-least (length xs) (suc x ∷ p));
                  above = less-before x (suc x) xs (least_run bounds (length xs) (suc x ∷ p)) (omega arith);
                  least = λ ys s e h k. up ys s e h k;
                }
              where
                up : (ys : List ℕ) → Run bounds p ys → length ys ≡ suc (length xs) → Before (x ∷ xs) ys → Before ys (suc x ∷ least_run bounds (length xs) (suc x ∷ p)) → ⊥
                up [] s e h k = omega arith
                up (y ∷ ys) (a, b, s) e h k =
                    ⊎_elim (λ (m : x < y). ⊎_elim (λ (i : y < suc x). omega arith)
                    (λ q. least-run (length xs) (suc x ∷ p) ys (subst (λ (v : ℕ). Run bounds (v ∷ p) ys) q.0 s) (omega (arith, e)) q.1)
                    (before-parts y (suc x) ys (least_run bounds (length xs) (suc x ∷ p)) k))
                    (λ q. n ys (subst (λ (v : ℕ). Run bounds (v ∷ p) ys) (sym q.0) s) (omega (arith, e)) q.1) (before-parts x y xs ys h)
            here false t = λ ys s e h. last ys s e h
              where
                last : (ys : List ℕ) → Run bounds p ys → length ys ≡ suc (length xs) → Before (x ∷ xs) ys → ⊥
                last [] s e h = omega arith
                last (y ∷ ys) (a, b, s) e h =
                    let l = ltb-false x (bounds p).1 t in
                    ⊎_elim (λ (m : x < y). omega arith)
                    (λ q. n ys (subst (λ (v : ℕ). Run bounds (v ∷ p) ys) (sym q.0) s) (omega (arith, e)) q.1) (before-parts x y xs ys h)
