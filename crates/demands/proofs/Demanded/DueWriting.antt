-- Writing a graph of any size over an accepted table replies 11, 8 or the length of the graph's record, each exactly where it is due.
use mathlib.Core.Path.{◌≡◌, refl, sym, ◌∙◌, ap}
use mathlib.Core.Bool.{Bool, true, false, cond}
use mathlib.Core.List.{List, ◌++◌}
use mathlib.Core.Option.{Option, none, some}
use Prim.Native.Nat.{ℕ}
use borrow.Author.Tests.{leb-true, leb-false, le-leb, lt-leb}
use lib.Dec.{leb, eqb}
use lib.ListN.{length, drop}
use Rattle.std.specs.Prelude.{Ok, Err}
use Rattle.graphs.specs.Graph.{Graph, TellsApart}
use Rattle.graphs.proofs.Below.{same-sym}
use Rattle.graphs.proofs.Lists.{tells-eqb}
use Rattle.lattice.specs.Label.{Label}
use Rattle.lattice.specs.Labels.{OfAnySize}
use Rattle.acceptance.specs.Reply.{opened}
use Rattle.encode.specs.declared.Unwritten.TheVariants as unwritten
use Rattle.encode.specs.Encode.{fitted, yielding}
use Rattle.record.specs.Read.{graph_of_rows}
use Rattle.record.proofs.Theorems.{accepted-of-any-size}
use Rattle.replies.specs.Replies.{Reply}
use Rattle.replies.specs.Replies.{TooLarge}
use Rattle.replies.specs.Reply.{Result, result_of}
use Rattle.demands.specs.Demand.{WrittenRecord, RecordOf, Large, form_bytes, record_of, writing}
use Rattle.demands.specs.Due.{RoomDue}
use Rattle.demands.specs.Due as due
use Rattle.demands.proofs.Demanded.Recorded.{record-none, record-means, record-exact}

module _ (n : ℕ) (t : List ℕ) (opens : opened n t ≡ Ok tt) {C : Type 0} (same : C → C → Bool) (tells : TellsApart same) (k : Graph Label C)
    (size : OfAnySize n t k) where
  -- A graph has one record.
  pub record_is : (new : List ℕ) → RecordOf n t k new → record_of same k ≡ some new
  record_is new is =
      let one : WrittenRecord n new = is.is-written in
      let own : record_of eqb (graph_of_rows one.form) ≡ some new = ap form_bytes one.own ∙ ap some (sym one.bytes-are) in
      (record-exact n t opens eqb tells-eqb (graph_of_rows one.form) (accepted-of-any-size n new one.form one.reads t) new own same tells k size).0
      (same-sym is.means)

  module _ (out : List ℕ) where
    abbrev pub call : Result
    call = writing (record_of same k) out

    -- the record of new bytes, by whether it fits
    abbrev fitted_by : List ℕ → Bool → Result
    fitted_by new b = result_of (cond b (yielding (Ok (length new)) (new ++ drop (length new) out)) (yielding (Err unwritten.NoRoom) out))

    pub large-replies : Large k → call.reply ≡ TooLarge
    large-replies large = ap (λ (o : Option (List ℕ)). (writing o out).reply) ((record-none n t opens same tells k size).1 large)

    pub room-replies : {r : Reply} → RoomDue n t k (length out) r → call.reply ≡ r
    unfolding fitted
    room-replies (due.no_room new is less) =
        ap (λ (o : Option (List ℕ)). (writing o out).reply) (record_is new is) ∙
        ap (λ (b : Bool). (fitted_by new b).reply) (lt-leb (length new) (length out) less)
    room-replies (due.fits new is fit) =
        ap (λ (o : Option (List ℕ)). (writing o out).reply) (record_is new is) ∙
        ap (λ (b : Bool). (fitted_by new b).reply) (le-leb (length new) (length out) fit)

    pub data WriteDue : Reply → Type 0 where
      too_large : Large k → WriteDue TooLarge
      written : {r : Reply} → RoomDue n t k (length out) r → WriteDue r

    pub write-due : WriteDue call.reply
    unfolding fitted
    write-due = go (record_of same k) refl
      where
        room : (new : List ℕ) → RecordOf n t k new → (b : Bool) → leb (length new) (length out) ≡ b → WriteDue (fitted_by new b).reply
        room new is true e = written (due.fits new is (leb-true (length new) (length out) e))
        room new is false e = written (due.no_room new is (leb-false (length new) (length out) e))

        go : (o : Option (List ℕ)) → record_of same k ≡ o → WriteDue (writing o out).reply
        go none e = too_large ((record-none n t opens same tells k size).0 e)
        go (some new) e = room new (record-means n t opens same tells k size new e) (leb (length new) (length out)) refl
