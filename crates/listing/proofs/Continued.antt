-- What the call replies over an accepted table, by the numbers of the given record.
use mathlib.Core.Path.{◌≡◌, refl, sym, ◌∙◌, ap, ap₂, subst}
use mathlib.Core.Bool.{Bool, true, false, cond, not, ◌||◌}
use mathlib.Core.List.{List, [], ◌∷◌}
use mathlib.Core.Logic.{inl, inr}
use mathlib.Core.Option.{Option, none, some, map}
use Prim.Native.Nat.{ℕ, ◌≤◌, ◌<◌}
use native.Mathlib.Omega.{arith}
use borrow.Author.Tests.{eqb-true, not-true, not-false}
use lib.Dec.{eqb}
use lib.ListN.{length}
use Rattle.encode.specs.Encode.{fitted}
use Rattle.replies.specs.Replies.{End, FeatureCount, NotListed}
use Rattle.replies.specs.Reply.{Result, result_of, refusing}
use Rattle.listed.specs.Listing.{span, Run, raised, record_of, is_listed, following}
use Rattle.listed.specs.Numbers.{numbers_of, least_links0}
use Rattle.listed.proofs.Order.{false-true}
use Rattle.listed.proofs.Stated.{Counts}
use Rattle.listed.proofs.Places.{Small, run_small, run-count}
use Rattle.listed.proofs.Following.{first_run, following-first, not_listed, numbers-listed, following-numbers, raised-run}
use Rattle.listing.specs.declared.numbers.Numbers.{Numbers}
use Rattle.listing.specs.Numbers.{number_list, Nodes}
use Rattle.listing.specs.Call.{begins, delivered, continued, counted}

-- 23 is given where F is neither 1 nor 2.

pub counts-told : (F : ℕ) → (eqb F 1 || eqb F 2) ≡ true → Counts F
counts-told F e = go (eqb F 1) refl e
  where
    go : (b : Bool) → eqb F 1 ≡ b → (b || eqb F 2) ≡ true → Counts F
    go true q r = inl (eqb-true F 1 q)
    go false q r = inr (eqb-true F 2 r)

module _ (F : ℕ) (next : Result) (out : List ℕ) where
  pub counted-on : (eqb F 1 || eqb F 2) ≡ true → counted F next out ≡ next
  unfolding counted
  counted-on e = ap (λ (b : Bool). cond b next (refusing FeatureCount out)) e

  pub counted-off : (eqb F 1 || eqb F 2) ≡ false → counted F next out ≡ refusing FeatureCount out
  unfolding counted
  counted-off e = ap (λ (b : Bool). cond b next (refusing FeatureCount out)) e

-- The same, by the test that the code made.
module _ (F : ℕ) {b : Bool} (tells : b ≡ (eqb F 1 || eqb F 2)) where
  pub count-refused : (next : Result) (out : List ℕ) → not b ≡ true → refusing FeatureCount out ≡ counted F next out
  count-refused next out e = sym (counted-off F next out (sym tells ∙ not-true b e))

  module _ (e : not b ≡ false) where
    pub count_kept : {x next : Result} (out : List ℕ) → x ≡ next → x ≡ counted F next out
    count_kept {x} {next} out q = q ∙ sym (counted-on F next out (sym tells ∙ not-false b e))

    pub counts : Counts F
    counts = counts-told F (sym tells ∙ not-false b e)

pub denied : {b : Bool} → not b ≡ true → b ≡ true → ⊥
denied {b} e q = false-true (sym (not-true b e) ∙ q)

begins-listed : (n F : ℕ) (bytes : List ℕ) → 0 < length bytes → begins n F bytes ≡ is_listed n F bytes
begins-listed n F [] h = absurd (omega arith)
begins-listed n F (b ∷ bs) h = refl

module _ (n F : ℕ) (out : List ℕ) where
  abbrev by : Bool → Option (List ℕ) → Result
  by b o = cond b (delivered o out) (refusing NotListed out)

  module _ (low : 2 ≤ n) (small : n ≤ 64) (f : Counts F) where
    -- No bytes.

    pub first-continued : (d : Numbers) → number_list d ≡ 1 ∷ 1 ∷ least_links0 F 1 →
        result_of (fitted (record_of (number_list d)) out) ≡ continued n F [] out
    unfolding continued
    first-continued d e =
        ap (λ (l : List ℕ). result_of (fitted (record_of l) out)) e
        ∙ sym (ap (λ (o : Option (List ℕ)). delivered o out) (following-first n F low small f))

    -- Numbers within their bounds state a record that can be written.
    pub run-written : (d : Numbers) → Run (span n F) [] (number_list d) → Nodes d × Small (record_of (number_list d))
    run-written d r = (
      run-count n F _ _ _ _ _ _ _ r,
      run_small n F _ _ _ _ _ _ _ small r,
    )

    pub first-written : (d : Numbers) → number_list d ≡ 1 ∷ 1 ∷ least_links0 F 1 → Nodes d × Small (record_of (number_list d))
    first-written d e = run-written d (subst (λ (l : List ℕ). Run (span n F) [] l) (sym e) (first_run n F low small f))

    -- A record.

    module _ (bytes : List ℕ) (some_byte : 0 < length bytes) (d : List ℕ) (is : d ≡ numbers_of bytes) where
      pub refused : (Run (span n F) [] d → bytes ≡ record_of d → ⊥) → refusing NotListed out ≡ continued n F bytes out
      unfolding continued
      refused h =
          sym
          (ap (λ (b : Bool). by b (following n F bytes))
          (begins-listed n F bytes some_byte
          ∙ not_listed n F low small f bytes (subst (λ (l : List ℕ). Run (span n F) [] l → bytes ≡ record_of l → ⊥) is h)))

      module _ (run : Run (span n F) [] d) (same : bytes ≡ record_of d) where
        within : Run (span n F) [] (numbers_of bytes)
        within = subst (λ (l : List ℕ). Run (span n F) [] l) is run

        stated : bytes ≡ record_of (numbers_of bytes)
        stated = same ∙ ap record_of is

        delivers : (o : Option (List ℕ)) → raised (span n F) [] d ≡ o → delivered (map record_of o) out ≡ continued n F bytes out
        unfolding continued
        delivers o e =
            sym
            (ap₂ by (begins-listed n F bytes some_byte ∙ numbers-listed n F low small f bytes within stated)
            (following-numbers n F low small f bytes within stated
            ∙ ap (λ (l : List ℕ). map record_of (raised (span n F) [] l)) (sym is) ∙ ap (map record_of) e))

        pub ends : raised (span n F) [] d ≡ none → refusing End out ≡ continued n F bytes out
        ends e = delivers none e

        pub goes_on : (z : List ℕ) → raised (span n F) [] d ≡ some z → result_of (fitted (record_of z) out) ≡ continued n F bytes out
        goes_on z e = delivers (some z) e

        pub next-written : (z : Numbers) → raised (span n F) [] d ≡ some (number_list z) → Nodes z × Small (record_of (number_list z))
        next-written z e =
            run-written z (raised-run n F low small f bytes within stated (number_list z) (ap (raised (span n F) []) (sym is) ∙ e))
