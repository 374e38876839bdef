-- This file shows what writing answers and leaves, for each form of a graph and each output.
use mathlib.Core.Path.{◌≡◌, refl, sym, ◌∙◌, ap, ap₂, subst}
use mathlib.Core.Bool.{Bool, cond}
use mathlib.Core.Logic.{◌⊎◌, ⊎_elim}
use mathlib.Core.List.{List, ◌++◌}
use Prim.Native.Nat.{ℕ, ◌≤◌, ◌<◌}
use native.Mathlib.Nat.{zero-add}
use native.Mathlib.Omega.{arith}
use borrow.Author.Tests.{le-leb, lt-leb}
use lib.Dec.{eqb, leb}
use lib.ListN.{length, drop}
use lib.Seq.{sets, sets-eq}
use Rattle.std.specs.Prelude.{Result, Ok, Err}
use Rattle.graphs.specs.Number.{Canonical, canonical, many_links, many_nodes}
use Rattle.lattice.specs.Label.{Label}
use Rattle.layout.specs.Layout.{graph_in}
use Rattle.encode.specs.declared.canonical.Dimensions.{Dimensions}
use Rattle.encode.specs.declared.Unwritten.{Unwritten}
use Rattle.encode.specs.declared.Unwritten.TheVariants.{TooLarge, NoRoom}
use Rattle.encode.specs.declared.Unmarked.TheVariants as unmarked
use Rattle.encode.specs.Encode.{Yield, yielding, fitted, written_out}
use Rattle.encode.specs.Marks.{Marking, MarksFit, Measured, Noted, noting, fitted_both, marked_out}

-- an output that is equal to the one that is yielded is as good
pub yields-by : {A : Type 0} {y : Yield A} {a : A} {l last : List ℕ} → last ≡ l → y ≡ yielding a l → yielding a last ≡ y
yields-by {a = a} q e = ap (yielding a) q ∙ sym e

pub notes-by : {y : Noted} {a : Marking} {o last b final : List ℕ} → last ≡ o → final ≡ b → y ≡ noting a o b → noting a last final ≡ y
notes-by {a = a} p q e = ap₂ (noting a) p q ∙ sym e

-- What is too large.

module _ {form : Canonical Label} (large : (form ≡ many_nodes) ⊎ (form ≡ many_links)) where
  pub large-written : (old : List ℕ) → written_out form old ≡ yielding (Err TooLarge) old
  unfolding written_out
  large-written old =
      ⊎_elim (λ (e : form ≡ many_nodes). ap (λ (c : Canonical Label). written_out c old) e)
      (λ (e : form ≡ many_links). ap (λ (c : Canonical Label). written_out c old) e) large

  pub large-marked : (marks old beside : List ℕ) → marked_out form marks old beside ≡ noting (Err (unmarked.Unwritten TooLarge)) old beside
  unfolding marked_out
  large-marked marks old beside =
      ⊎_elim (λ (e : form ≡ many_nodes). ap (λ (c : Canonical Label). marked_out c marks old beside) e)
      (λ (e : form ≡ many_links). ap (λ (c : Canonical Label). marked_out c marks old beside) e) large

-- What measuring tells.

abbrev Measuring : Type 0
Measuring = Result Dimensions Unwritten

unmeasured : {why : Unwritten} {sizes : Dimensions} → ◌≡◌ {A = Measuring} (Err why) (Ok sizes) → ⊥
unmeasured e = let z : ◌≡◌ {A = ℕ} 0 1 = cc in omega arith

module _ {ws numbers visited : List ℕ} where
  pub measured-large : (canonical eqb (graph_in ws) ≡ many_nodes) ⊎ (canonical eqb (graph_in ws) ≡ many_links) →
      Measured ws numbers visited (Err TooLarge)
  measured-large large = record { refused = λ why e. (let same : ◌≡◌ {A = Measuring} (Err TooLarge) (Err why) = e in cc, large); fits = λ sizes e. absurd (unmeasured e) }

  pub measured-small : {sizes : Dimensions} → MarksFit ws numbers visited sizes.count sizes.links sizes.length →
      Measured ws numbers visited (Ok sizes)
  measured-small {sizes} fits =
      record {
        refused = λ why e. absurd (unmeasured (sym e));
        fits = λ others e. let same : ◌≡◌ {A = Measuring} (Ok sizes) (Ok others) = e in let is : sizes ≡ others = cc in subst (λ (d : Dimensions). MarksFit ws numbers visited d.count d.links d.length) is fits;
      }

  module _ {why : Unwritten} (measured : Measured ws numbers visited (Err why)) where
    pub measured-unwritten : (old : List ℕ) → yielding (Err why) old ≡ written_out (canonical eqb (graph_in ws)) old
    measured-unwritten old =
        let (is, large) = measured.refused why refl in
        ap (λ (w : Unwritten). yielding (Err w) old) is ∙ sym (large-written large old)

    pub measured-unmarked : (marks old beside : List ℕ) →
        noting (Err (unmarked.Unwritten why)) old beside ≡ marked_out (canonical eqb (graph_in ws)) marks old beside
    measured-unmarked marks old beside =
        let (is, large) = measured.refused why refl in
        ap (λ (w : Unwritten). noting (Err (unmarked.Unwritten w)) old beside) is ∙ sym (large-marked large marks old beside)

-- What fits.

pub fitted_short : (bytes old : List ℕ) → length old < length bytes → fitted bytes old ≡ yielding (Err NoRoom) old
unfolding fitted
fitted_short bytes old h =
    ap
    (λ (t : Bool).
    cond t (yielding (Ok (length bytes)) (bytes ++ drop (length bytes) old))
    (yielding (Err NoRoom) old))
    (lt-leb (length bytes) (length old) h)

-- a run of stores at the start keeps what is behind it
stored : (xs old : List ℕ) → length xs ≤ length old → xs ++ drop (length xs) old ≡ sets old 0 xs
stored xs old h = ap (λ (n : ℕ). xs ++ drop n old) (sym (zero-add (length xs))) ∙ sym (sets-eq xs old 0 (omega arith))

pub fitted-room : (bytes old : List ℕ) → length bytes ≤ length old →
    fitted bytes old ≡ yielding (Ok (length bytes)) (sets old 0 bytes)
unfolding fitted
fitted-room bytes old h =
    ap
    (λ (t : Bool).
    cond t (yielding (Ok (length bytes)) (bytes ++ drop (length bytes) old))
    (yielding (Err NoRoom) old))
    (le-leb (length bytes) (length old) h)
    ∙ ap (λ (l : List ℕ). yielding (Ok (length bytes)) l)
    (stored bytes old h)

-- What fits with its marks.

module _ (bytes marks old beside : List ℕ) where
  tested : Bool → Bool → Noted
  tested t u =
      cond t
      (cond u
      (noting (Ok (length bytes)) (bytes ++ drop (length bytes) old) (marks ++ drop (length marks) beside))
      (noting (Err unmarked.NoMarkRoom) old beside))
      (noting (Err (unmarked.Unwritten NoRoom)) old beside)

  pub both-short : length old < length bytes → fitted_both bytes marks old beside ≡ noting (Err (unmarked.Unwritten NoRoom)) old beside
  unfolding fitted_both tested
  both-short h = ap (λ (t : Bool). tested t (leb (length marks) (length beside))) (lt-leb (length bytes) (length old) h)

  module _ (room : length bytes ≤ length old) where
    pub both-narrow : length beside < length marks → fitted_both bytes marks old beside ≡ noting (Err unmarked.NoMarkRoom) old beside
    unfolding fitted_both tested
    both-narrow h = ap₂ tested (le-leb (length bytes) (length old) room) (lt-leb (length marks) (length beside) h)

    pub both-room : length marks ≤ length beside →
        fitted_both bytes marks old beside ≡ noting (Ok (length bytes)) (sets old 0 bytes) (sets beside 0 marks)
    unfolding fitted_both tested
    both-room h =
        ap₂ tested (le-leb (length bytes) (length old) room) (le-leb (length marks) (length beside) h)
        ∙ ap₂ (λ (o b : List ℕ). noting (Ok (length bytes)) o b) (stored bytes old room)
        (stored marks beside h)
