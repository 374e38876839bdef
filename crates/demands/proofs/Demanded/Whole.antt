-- The difference as demand 3 asks for it, in one theorem: over a table that admits differences, for a record that is below the other.
use mathlib.Core.Path.{◌≡◌, refl, ◌∙◌, ap, subst}
use mathlib.Core.Bool.{Bool, true, cond}
use mathlib.Core.List.{List, ◌++◌}
use mathlib.Core.Option.{Option, none, some}
use Prim.Native.Nat.{ℕ}
use native.Mathlib.Omega.{arith}
use borrow.Author.Tests.{le-leb}
use lib.Dec.{eqb}
use lib.ListN.{length, take, drop}
use lib.Seq.{take-append_seam}
use Rattle.std.specs.Prelude.{Ok, Err}
use Rattle.graphs.specs.Graph.{Below}
use Rattle.graphs.specs.Rows.{Row}
use Rattle.graphs.specs.Number.{canonical}
use Rattle.graphs.specs.Difference.{by_number}
use Rattle.graphs.proofs.Lists.{tells-eqb}
use Rattle.graphs.proofs.Difference.ByNumber.{by-number-order}
use Rattle.lattice.specs.Label.{Label}
use Rattle.lattice.specs.Table.{admits}
use Rattle.lattice.specs.Labels.{table_labels, OfAnySize}
use Rattle.encode.specs.declared.Unwritten.TheVariants as unwritten
use Rattle.encode.specs.Encode.{yielding, fitted}
use Rattle.record.specs.Read.{graph_of_rows}
use Rattle.replies.specs.Reply.{Result, result_of}
use Rattle.difference.specs.Difference.{all_wanted, numbered}
use Rattle.calls.specs.Calls.{differing}
use Rattle.demands.specs.Demand.{Given, AnswersBelow, WrittenRecord, record_of, writing, remainder, Difference}
use Rattle.demands.proofs.Demanded.Order.{order-exact}
use Rattle.demands.proofs.Demanded.Recorded.{record-none, record-means}
use Rattle.demands.proofs.Demanded.Difference as Differed
use Rattle.demands.proofs.Demanded.Before.{never-unwanted}

-- Bytes that are written over themselves fit.
fitted-own : (bytes : List ℕ) → fitted bytes bytes ≡ yielding (Ok (length bytes)) (bytes ++ drop (length bytes) bytes)
unfolding fitted
fitted-own bytes =
    ap
    (λ (b : Bool). cond b (yielding (Ok (length bytes)) (bytes ++ drop (length bytes) bytes)) (yielding (Err unwritten.NoRoom) bytes))
    (le-leb (length bytes) (length bytes) (omega arith))

module _ (n : ℕ) (t a b : List ℕ) (g s : List (Row Label)) (given : Given n t a b g s) (differ : admits n t ≡ true) (answers : AnswersBelow n t b a) where
  below : Below (table_labels n t) (graph_of_rows s) (graph_of_rows g)
  below = (order-exact n t b a s g (record { opens = given.opens; first = given.second; second = given.first })).0.0 answers

  wants : all_wanted n t (numbered (canonical eqb (graph_of_rows s))) g ≡ true
  wants =
      Differed.all_wanted_lem n t a b g s given below λ lacks.
      never-unwanted n t differ b a b
      ((Differed.unwanted-reply-exact n t a b g s given by-number-order (Differed.plain-parts n t a b given b)).1 (below, lacks))

  pub difference-whole : (bytes : List ℕ) × WrittenRecord n bytes × ((out : List ℕ) → differing n t a b out ≡ result_of (fitted bytes out)) ×
      Difference n t a b g s bytes
  difference-whole = go (record_of eqb (remainder by_number n t g s)) refl
    where
      size : OfAnySize n t (remainder by_number n t g s)
      size = (Differed.remainder-restores n t a b g s given by-number-order below wants).of-any-size

      writes : (bytes : List ℕ) → record_of eqb (remainder by_number n t g s) ≡ some bytes → (out : List ℕ) →
          differing n t a b out ≡ result_of (fitted bytes out)
      writes bytes e out =
          Differed.remainder-written n t a b g s given by-number-order (Differed.plain-parts n t a b given out) below wants ∙
          ap (λ (o : Option (List ℕ)). writing o out) e

      go : (o : Option (List ℕ)) → record_of eqb (remainder by_number n t g s) ≡ o →
          (bytes : List ℕ) × WrittenRecord n bytes × ((out : List ℕ) → differing n t a b out ≡ result_of (fitted bytes out)) ×
          Difference n t a b g s bytes
      go none e =
          absurd (Differed.remainder-small n t a b g s given by-number-order below wants
          ((record-none n t given.opens eqb tells-eqb (remainder by_number n t g s) size).0 e))
      go (some bytes) e =
          let own : differing n t a b bytes ≡ result_of (yielding (Ok (length bytes)) (bytes ++ drop (length bytes) bytes)) =
          writes bytes e bytes ∙ ap result_of (fitted-own bytes) in
          let is : take (length bytes) (differing n t a b bytes).output ≡ bytes =
          ap (λ (r : Result). take (length bytes) r.output) own ∙ take-append_seam bytes (drop (length bytes) bytes) in (
            bytes,
            (record-means n t given.opens eqb tells-eqb (remainder by_number n t g s) size bytes e).is-written,
            writes bytes e,
            subst (Difference n t a b g s) is
                (Differed.written-difference n t a b g s given by-number-order (Differed.plain-parts n t a b given bytes) (length bytes)
                (ap (λ (r : Result). r.reply) own)),
          )
