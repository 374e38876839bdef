-- The code combines by the meets that the words and cells hold. These are the meets of the accepted table, so the result is the one that is
-- defined.
use mathlib.Core.Path.{◌≡◌, refl, ◌∙◌, ap}
use mathlib.Core.Bool.{false}
use mathlib.Core.List.{List}
use mathlib.Core.Logic.{◌⊎◌}
use Prim.Native.Nat.{ℕ, ◌-◌, ◌≤◌, ◌<◌}
use lib.Dec.{eqb}
use lib.ListN.{length}
use Rattle.std.specs.Prelude.{Ok, Err, IsErrAnd, MatchResult}
use Rattle.std.proofs.lemmas.Result.{err_from_is_err_and}
use Rattle.graphs.specs.Rows.{Row, from}
use Rattle.graphs.specs.Unify.{Unified, cycle, clash, unified}
use Rattle.graphs.specs.Number.{canonical}
use Rattle.graphs.specs.OfRows.{same_either, combination_of}
use Rattle.lattice.specs.Label.{Label, plain, no_label}
use Rattle.bounds.specs.Opening.{OpenedFor}
use Rattle.bounds.specs.Sets.{meet_in}
use Rattle.lattice.specs.Labels.{meet_ranged}
use Rattle.lattice.proofs.Laws.{accepted-size, zero-type}
use Rattle.lattice.proofs.Transfer.{same-unification}
use Rattle.bounds.proofs.Types.{meets-known}
use Rattle.layout.specs.Layout.{graph_of_rows, rows_of}
use Rattle.encode.specs.Encode.{Yield, Writing, yielding, written_out}
use Rattle.record.specs.Reads.{Loaded}
use Rattle.record.proofs.Accepted.{Rules}
use Rattle.merging.specs.Lowered.{Meeting}
use Rattle.merging.specs.Clash.{contradicts}
use Rattle.unify.specs.Outcome.{Combining, combining, unified_out, unifying_out}
use Rattle.merging.specs.Rows.{Operand}
use Rattle.replies.specs.Replies.{Measure, Reply, told}
use Rattle.replies.specs.Reply.{Result, resulting, reply_of}
use Rattle.record.proofs.Loaded.{loaded-reached, loaded-recorded, loaded-rules}
use Rattle.engine.specs.Unifying.{combined, combined_reply, unified_rows}
use Rattle.engine.proofs.Tables.{label-known}

-- The result of combining.
abbrev combined_result : Yield Combining → Result
combined_result y = resulting (combined_reply y.answer) y.output

combining-reply : (w : Writing) → combined_reply (combining w) ≡ reply_of w
combining-reply (Ok l) = refl
combining-reply (Err why) = refl

-- The length is passed on, or a refusal that tells why there is no combination.
pub told-combined : (answer : Combining) (r : Measure) →
    MatchResult answer (λ l. r ≡ Ok l) (λ why. IsErrAnd r (λ given. told (Err given) ≡ combined_reply (Err why))) →
    told r ≡ combined_reply answer
told-combined (Ok l) r passes = ap told passes
told-combined (Err why) r passes =
    let (given, is, said) = err_from_is_err_and r passes in
    ap told is ∙ said

combined-is : (u : Unified Label (ℕ ⊎ ℕ)) (out : List ℕ) → combined_result (unified_out u out) ≡ combined u out
unfolding unified_out
combined-is cycle out = refl
combined-is clash out = refl
combined-is (unified u) out =
    let o = written_out (canonical same_either u) out in
    ap (λ (r : Reply). resulting r o.output) (combining-reply o.answer)

-- The combination of two graphs, given by their rows, by given meets.
abbrev by_meets : ℕ → (ℕ → ℕ → ℕ) → List (Row Label) → List (Row Label) → Unified Label (ℕ ⊎ ℕ)
by_meets n meets g h = combination_of (meet_ranged meets) (plain (n - 1)) contradicts no_label g h

module _ {n : ℕ} {t sets : List ℕ} {cells : List (List ℕ)} (meets : OpenedFor false n t sets cells) where
  -- An accepted graph in words meets what combining requires of a graph.
  operand : {g : List ℕ} → Loaded n g → Operand n g
  operand one =
      record {
        recorded = loaded-recorded (accepted-size n t meets.ok).1 one;
        labelled = one.typed;
        reached = loaded-reached one;
      }

  -- Two accepted graphs in words and the held meets meet what combining requires.
  pub ready-to-combine : {g h : List ℕ} → Loaded n g → Loaded n h →
      ((0 < n) × (n ≤ 64)) × (Meeting n sets cells × (Operand n g × Operand n h))
  ready-to-combine one other = (
    (zero-type n t meets.ok, (accepted-size n t meets.ok).1),
    (
      record {
        below = λ i j l s. (meets-known n t meets.ok sets meets.lent cells meets.long i j l s meets.holding).1;
        ready = meets.holding.held;
      },
      (operand one, operand other),
    ),
  )

  -- The combination by the held meets is the combination by the meets of the table.
  held-unified : (out : List ℕ) (g h : List (Row Label)) → Rules n g → Rules n h →
      combined (by_meets n (meet_in n sets cells) g h) out ≡ unified_rows n t out g h
  unfolding unified_rows
  held-unified out g h left right =
      ap (λ (u : Unified Label (ℕ ⊎ ℕ)). combined u out)
      (same-unification n t meets.ok (meet_in n sets cells)
      (λ i j l s. (meets-known n t meets.ok sets meets.lent cells meets.long i j l s meets.holding).0) eqb eqb
      (graph_of_rows g) (from 0 (length g)) (graph_of_rows h) (from 0 (length h)) (λ v _. label-known (zero-type n t meets.ok) left v)
      (λ w _. label-known (zero-type n t meets.ok) right w))

  -- For two graphs in words, reply and output are those that `unified_rows` defines.
  pub unified-as : {g h : List ℕ} (out : List ℕ) → Loaded n g → Loaded n h → {answer : Combining} {r : Reply} {new : List ℕ} →
      yielding answer new ≡ unifying_out n (meet_in n sets cells) g h out → r ≡ combined_reply answer →
      resulting r new ≡ unified_rows n t out (rows_of g) (rows_of h)
  unified-as {g} {h} out one other {new = new} yields said =
      ap (λ (q : Reply). resulting q new) said ∙ ap combined_result yields ∙
      combined-is (by_meets n (meet_in n sets cells) (rows_of g) (rows_of h)) out ∙
      held-unified out (rows_of g) (rows_of h) (loaded-rules one) (loaded-rules other)
