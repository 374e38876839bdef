-- This file has a lemma for each place where `judging::judge` returns: what the parts find gives the verdict of the definition.
use mathlib.Core.Path.{◌≡◌, sym, ◌∙◌, ap}
use mathlib.Core.Bool.{Bool, true, false, cond}
use mathlib.Core.List.{List}
use mathlib.Core.Option.{some}
use Prim.Native.Nat.{ℕ, ◌≤◌}
use native.Mathlib.Omega.{arith}
use Rattle.std.specs.Prelude.{⊤, Result, Ok, Err}
use Rattle.graphs.specs.Rows.{Row}
use Rattle.graphs.proofs.Search.{not-true-false}
use Rattle.lattice.specs.Label.{Label}
use Rattle.layout.specs.Layout.{size, label_at, rows_of, Shaped, Sound}
use Rattle.peeling.specs.declared.Unrooted.{Unrooted}
use Rattle.peeling.specs.declared.Unrooted.TheVariants as unrooted
use Rattle.peeling.specs.Counts.{Count, Counted, Peels, Ranged}
use Rattle.peeling.proofs.Range.{label-in-range}
use Rattle.record.specs.declared.GraphFault.{GraphFault}
use Rattle.record.specs.declared.GraphFault.TheVariants.{OutOfRange, Cyclic, Unreached}
use Rattle.record.specs.Faults.{fault_of}
use Rattle.record.specs.Read.{Reading, refused, accepted, judged, in_range, cyclic, reaches_all}
use Rattle.record.specs.Reads.{ReadsAs, verdict_of}
use Rattle.record.proofs.Readings.{in-range}
use Rattle.record.proofs.Nodes.{Linked}
use Rattle.record.proofs.Reaching.{cyclic-exact}
use Rattle.record.proofs.Words.{ranged-rows, rows-ranged, ranged-linked, looped-rows, sorted-rows, apart-unreached, entered-reaches}

-- a refusal promises nothing about the words
pub refuses : (n : ℕ) (o : Reading) (ws : List ℕ) (fault : GraphFault) → o ≡ refused fault → ReadsAs n o (Err fault) ws
refuses n o ws fault e =
    record {
      verdict = ap verdict_of (sym e);
      graph = λ rows h.
          let both : accepted rows ≡ refused fault = sym h ∙ e in
          let z : ◌≡◌ {A = ℕ} 0 1 = cc in absurd (omega arith);
    }

module _ (n : ℕ) {ws : List ℕ} (shaped : Shaped ws) (small : size ws ≤ 255) where
  abbrev own : List (Row Label)
  own = rows_of ws

  -- the tests behind the first
  abbrev later : Reading
  later = cond (cyclic own) (refused Cyclic) (cond (reaches_all own) (accepted own) (refused Unreached))

  -- 5
  pub out_of_range : {passed : Bool} {incoming : List ℕ} → Count n ws passed incoming → passed ≡ false →
      ReadsAs n (judged n (some own)) (Err OutOfRange) ws
  out_of_range count fails =
      refuses n (judged n (some own)) ws OutOfRange
      (ap (λ (b : Bool). cond b later (refused OutOfRange))
      (not-true-false (in_range n own) (λ e. count.no-stands fails (rows-ranged shaped n ((in-range n own).0 e)))))

  module _ {passed : Bool} {incoming : List ℕ} (count : Count n ws passed incoming) (yes : passed ≡ true) where
    ranged : Ranged n ws
    ranged = (count.yes-stands yes).0

    pub counted : Counted ws (size ws) incoming
    counted = (count.yes-stands yes).1

    range-passes : in_range n own ≡ true
    range-passes = (in-range n own).1 (ranged-rows shaped n ranged)

    pub sound : Sound ws
    sound = record { shaped = shaped; targets = λ v k h. ranged.targets v h k }

    rows-linked : Linked own
    rows-linked = ranged-linked shaped n ranged

    judged-later : judged n (some own) ≡ later
    judged-later = ap (λ (b : Bool). cond b later (refused OutOfRange)) range-passes

    judged-acyclic : cyclic own ≡ false → judged n (some own) ≡ cond (reaches_all own) (accepted own) (refused Unreached)
    judged-acyclic e =
        judged-later ∙ ap (λ (b : Bool). cond b (refused Cyclic) (cond (reaches_all own) (accepted own) (refused Unreached))) e

    module _ {answer : Result ⊤ Unrooted} (peels : Peels ws answer) where
      -- 6
      with-cycle : answer ≡ Err unrooted.Cyclic → ReadsAs n (judged n (some own)) (Err Cyclic) ws
      with-cycle e =
          let (v, loop) = peels.cyclic-stands e in
          let found : cyclic own ≡ true = (cyclic-exact own rows-linked).1 (looped-rows sound v loop) in
          refuses n (judged n (some own)) ws Cyclic
          (judged-later ∙ ap (λ (b : Bool). cond b (refused Cyclic) (cond (reaches_all own) (accepted own) (refused Unreached))) found)

      no-cycle : (answer ≡ Err unrooted.Cyclic → ⊥) → cyclic own ≡ false
      no-cycle other =
          let (place, sorted) = peels.sorted other in
          not-true-false (cyclic own) (λ e. sorted-rows sound sorted ((cyclic-exact own rows-linked).0 e))

      -- 7
      unreached : answer ≡ Err unrooted.Apart → ReadsAs n (judged n (some own)) (Err Unreached) ws
      unreached e =
          let (w, positive, inside, apart) = peels.apart-stands e in
          refuses n (judged n (some own)) ws Unreached
          (judged-acyclic (no-cycle λ q. let z : ◌≡◌ {A = ℕ} 0 1 = cc in omega arith)
          ∙ ap (λ (b : Bool). cond b (accepted own) (refused Unreached)) (apart-unreached sound rows-linked positive inside apart))

      pub refused-unrooted : (why : Unrooted) → answer ≡ Err why → ReadsAs n (judged n (some own)) (Err (fault_of why)) ws
      refused-unrooted unrooted.Cyclic e = with-cycle e
      refused-unrooted unrooted.Apart e = unreached e

      pub accepts : answer ≡ Ok tt → ReadsAs n (judged n (some own)) (Ok tt) ws
      accepts e =
          record {
            verdict = ap verdict_of (sym is);
            graph = λ rows e.
                record {
                  rows_are = alike rows e;
                  sound = sound;
                  small = small;
                  typed = λ v h. ((label-in-range n (label_at ws v)).0 (ranged.labels v h)).1;
                };
          }
        where
          other : answer ≡ Err unrooted.Cyclic → ⊥
          other q = let z : ◌≡◌ {A = ℕ} 0 1 = cc in omega arith

          reached : reaches_all own ≡ true
          reached =
              let (place, sorted) = peels.sorted other in
              entered-reaches sound rows-linked sorted small (peels.rooted-stands e)

          is : judged n (some own) ≡ accepted own
          is = judged-acyclic (no-cycle other) ∙ ap (λ (b : Bool). cond b (accepted own) (refused Unreached)) reached

          alike : (rows : List (Row Label)) → judged n (some own) ≡ accepted rows → own ≡ rows
          alike rows e = let both : accepted own ≡ accepted rows = sym is ∙ e in cc
