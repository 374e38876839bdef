-- What follows a record, by its seven numbers: this is the step that the code takes.
use mathlib.Core.Path.{◌≡◌, refl, sym, ◌∙◌, ap, subst}
use mathlib.Core.Bool.{Bool, true, false}
use mathlib.Core.List.{List, [], ◌∷◌}
use mathlib.Core.Logic.{⊎_elim}
use mathlib.Core.Option.{Option, none, some, map}
use Prim.Native.Nat.{ℕ, ◌≤◌}
use native.Mathlib.Omega.{arith}
use Rattle.listed.specs.Listing.{Listed, span, raised, least_run, record_of, listing, is_listed, following, Run}
use Rattle.listed.specs.Numbers.{numbers_of, least_links0}
use Rattle.listed.proofs.Order.{Before, before-irrefl, before-trans, before-cases, least_first}
use Rattle.listed.proofs.Runs.{Raises, raises, least-run, run-least}
use Rattle.listed.proofs.Stated.{Counts, listed-told, run-listed}
use Rattle.listed.proofs.Bytes.{record-before}
use Rattle.listed.proofs.Numbers.{listed-numbers}
use Rattle.listed.proofs.Theorems.{span_fits, listing-exactly, listing-ascends, listed-bytes, following-raised}
use Rattle.listed.proofs.Steps.{least-root}
use Rattle.listed.proofs.Calls.{is-listed}

module _ (n F : ℕ) (low : 2 ≤ n) (small : n ≤ 64) (f : Counts F) where
  -- The least seven numbers.
  abbrev first_numbers : List ℕ
  first_numbers = 1 ∷ 1 ∷ least_links0 F 1

  first-numbers : least_run (span n F) 7 [] ≡ first_numbers
  unfolding least_run span
  first-numbers = ap (λ (l : List ℕ). 1 ∷ 1 ∷ l) (least-root n F 1 1)

  pub first_run : Run (span n F) [] first_numbers
  first_run = subst (λ (d : List ℕ). Run (span n F) [] d) first-numbers (run-least (span n F) (span_fits n F low) 7 [])

  -- The first listed record is the one that the least numbers state.
  pub following-first : following n F [] ≡ some (record_of first_numbers)
  unfolding following
  following-first =
      least_first (listing n F) [] (record_of first_numbers) (listing-ascends n F low small f)
      (record {
        among = (listing-exactly n F low small f (record_of first_numbers)).1 listed;
        above = listed-bytes n F low small f (record_of first_numbers) listed;
        least = λ s m b c.
            let (e, l, q, i) = listed-told n F f s ((listing-exactly n F low small f s).0 m) in
            ⊎_elim (λ (w : Before e first_numbers). least-run (span n F) 7 [] e q l (subst (λ (d : List ℕ). Before e d) (sym first-numbers) w))
            (⊎_elim (λ (w : e ≡ first_numbers). before-irrefl s (subst (λ (u : List ℕ). Before s u) (sym (ap record_of w) ∙ sym i) c))
            (λ (w : Before first_numbers e).
            before-irrefl s
            (before-trans s (record_of first_numbers) s c
            (subst (λ (u : List ℕ). Before (record_of first_numbers) u) (sym i) (record-before n F first_numbers e refl l first_run q w)))))
            (before-cases e first_numbers);
      })
    where
      listed : Listed n F (record_of first_numbers)
      listed = run-listed n F small f first_numbers refl first_run

  -- A record that its numbers do not state is not listed.
  pub not_listed : (bytes : List ℕ) → (Run (span n F) [] (numbers_of bytes) → bytes ≡ record_of (numbers_of bytes) → ⊥) → is_listed n F bytes ≡ false
  not_listed bytes h = go (is_listed n F bytes) refl
    where
      go : (b : Bool) → is_listed n F bytes ≡ b → b ≡ false
      go false e = refl
      go true e =
          let (r, q) = listed-numbers n F f bytes ((is-listed n F low small f bytes).0 e) in absurd (h r q)

  module _ (bytes : List ℕ) (r : Run (span n F) [] (numbers_of bytes)) (e : bytes ≡ record_of (numbers_of bytes)) where
    -- A record that its numbers state, within their bounds, is listed.
    pub numbers-listed : is_listed n F bytes ≡ true
    numbers-listed =
        (is-listed n F low small f bytes).1
        (subst (λ (b : List ℕ). Listed n F b) (sym e) (run-listed n F small f (numbers_of bytes) refl r))

    -- Raising the numbers of a listed record gives the record that follows it.
    pub following-numbers : following n F bytes ≡ map record_of (raised (span n F) [] (numbers_of bytes))
    following-numbers = ap (following n F) e ∙ following-raised n F low small f (numbers_of bytes) refl r

    -- The raised numbers are within their bounds.
    pub raised-run : (d : List ℕ) → raised (span n F) [] (numbers_of bytes) ≡ some d → Run (span n F) [] d
    raised-run d q = go (raised (span n F) [] (numbers_of bytes)) (raises (span n F) (span_fits n F low) [] (numbers_of bytes) r) q
      where
        go : (o : Option (List ℕ)) → Raises (span n F) [] (numbers_of bytes) o → o ≡ some d → Run (span n F) [] d
        go none h i = let z : ◌≡◌ {A = ℕ} 0 1 = cc in absurd (omega arith)
        go (some z) h i = let same : z ≡ d = cc in subst (λ (x : List ℕ). Run (span n F) [] x) same h.run
