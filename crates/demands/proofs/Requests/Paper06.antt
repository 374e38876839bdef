-- Paper 6: tables with three rival types. Over every accepted table, where s is below g, the difference restores and is most general, or 13 is
-- given because some node of s has no wanted type. a is the general record, b the specific one.
use mathlib.Core.Path.{◌≡◌, refl}
use mathlib.Core.Bool.{true}
use mathlib.Core.List.{List}
use mathlib.Core.Logic.{◌↔◌, ◌⊎◌}
use Prim.Native.Nat.{ℕ}
use lib.Dec.{eqb}
use lib.ListN.{take}
use Rattle.graphs.specs.Graph.{Reached, Below}
use Rattle.graphs.specs.Rows.{Row}
use Rattle.lattice.specs.Label.{Label}
use Rattle.graphs.specs.Difference.{by_number}
use Rattle.graphs.proofs.Difference.ByNumber.{by-number-order}
use Rattle.std.specs.Prelude.{Ok}
use Rattle.acceptance.specs.Reply.{opened}
use Rattle.lattice.specs.Labels.{table_labels}
use Rattle.lattice.specs.Table as types
use Rattle.acceptance.proofs.Acceptance.{opened-accepted}
use Rattle.record.proofs.Accepted.{accepted-rules}
use Rattle.encode.specs.Encode.{fitted}
use Rattle.record.specs.Read.{reading, accepted, graph_of_rows}
use Rattle.replies.specs.Replies.{Length, NotBelow, NoWantedType}
use Rattle.replies.specs.Reply.{result_of}
use Rattle.calls.specs.Calls.{differing}
use Rattle.demands.specs.Before.{differing_before}
use Rattle.demands.specs.Wanted.{SomeUnwanted, WantedRange}
use Rattle.demands.specs.Demand.{Given, record_of, writing, lone_top, remainder, Restores, Difference}
use Rattle.demands.proofs.Demanded.Difference as Differed
use Rattle.demands.proofs.Demanded.Wanted as Wanted
use Rattle.demands.proofs.Demanded.Before.{differing-before, never-unwanted}
use Rattle.demands.proofs.Demanded.Itself.{itself}

module _ (n : ℕ) (t a b : List ℕ) (g s : List (Row Label)) (given : Given n t a b g s) (out : List ℕ) where
  -- 13 is given exactly where s is below g and some node of s has no wanted type.
  pub unwanted-exact : ((differing n t a b out).reply ≡ NoWantedType) ↔
      (Below (table_labels n t) (graph_of_rows s) (graph_of_rows g) × SomeUnwanted n t (graph_of_rows s) (graph_of_rows g))
  unwanted-exact = Differed.unwanted-reply-exact n t a b g s given by-number-order (Differed.plain-parts n t a b given out)

  -- Every node of s has a wanted range, where s is below g.
  pub range-wanted : Below (table_labels n t) (graph_of_rows s) (graph_of_rows g) → (v : ℕ) → Reached (graph_of_rows s) v →
      (lowest highest : ℕ) × WantedRange (graph_of_rows s) (graph_of_rows g) v lowest highest
  range-wanted =
      Wanted.range-wanted n t (opened-accepted n t (opened n t) refl given.opens) g s (accepted-rules n a g given.first)
      (accepted-rules n b s given.second)

  -- 12 is checked before 13: it is given wherever s is not below g.
  pub unwanted-after-below : ((differing n t a b out).reply ≡ NotBelow) ↔ (Below (table_labels n t) (graph_of_rows s) (graph_of_rows g) → ⊥)
  unwanted-after-below = Differed.not-below-exact n t a b g s given by-number-order (Differed.plain-parts n t a b given out)

  -- Over every accepted table, where s is below g: either 13 is given because some node of s has no wanted type, or the call writes the
  -- difference, which restores s and is most general among graphs of any size.
  pub restored-or-unwanted : Below (table_labels n t) (graph_of_rows s) (graph_of_rows g) →
      (((differing n t a b out).reply ≡ NoWantedType) × SomeUnwanted n t (graph_of_rows s) (graph_of_rows g)) ⊎
      (Restores n t (remainder by_number n t g s) (graph_of_rows g) (graph_of_rows s) × (differing n t a b out ≡ writing (record_of eqb (remainder by_number n t g s)) out))
  restored-or-unwanted = Differed.unwanted-or-restored n t a b g s given by-number-order (Differed.plain-parts n t a b given out)

  -- The record that is written, combined with a, restores b byte for byte, and no more general record does.
  pub restored-bytes : (l : ℕ) → (differing n t a b out).reply ≡ Length l → Difference n t a b g s (take l (differing n t a b out).output)
  restored-bytes = Differed.written-difference n t a b g s given by-number-order (Differed.plain-parts n t a b given out)

-- Where the table admits differences, every call for a difference gives the reply and output of document 01 without Paper 6, whatever is handed
-- in beside the table.
pub admitted-as-before : (n : ℕ) (t : List ℕ) → types.admits n t ≡ true → (a b out : List ℕ) →
    differing n t a b out ≡ differing_before n t a b out
admitted-as-before = differing-before

-- Over a table that admits differences, 13 is never given.
pub admitted-wanted : (n : ℕ) (t : List ℕ) → types.admits n t ≡ true → (a b out : List ℕ) → (differing n t a b out).reply ≡ NoWantedType → ⊥
admitted-wanted n t differ a b out = never-unwanted n t differ out a b

-- Over every accepted table, a graph's difference from itself is a lone top: the call writes its record, or answers 8 where the output is
-- shorter.
pub itself-lone-top : (n : ℕ) (t a : List ℕ) (s : List (Row Label)) → opened n t ≡ Ok tt → reading n a ≡ accepted s → (out : List ℕ) →
    differing n t a a out ≡ result_of (fitted (lone_top n) out)
itself-lone-top = itself
