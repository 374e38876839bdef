-- What a call answers, by what the parts of the state, its table and its records answer.
use mathlib.Core.Path.{◌≡◌, refl, sym, ◌∙◌, ap, ap₂}
use mathlib.Core.Bool.{Bool, cond}
use mathlib.Core.List.{List, []}
use mathlib.Core.Option.{Option, none, some}
use Prim.Native.Nat.{ℕ, ◌-◌}
use native.Mathlib.Omega.{arith}
use borrow.Author.Tests.{ne_eqb}
use lib.ListN.{take, drop}
use Rattle.std.specs.Prelude.{Ok, Err}
use Rattle.graphs.specs.Rows.{Row}
use Rattle.lattice.specs.Label.{Label}
use Rattle.layout.specs.Layout.{rows_of}
use Rattle.acceptance.specs.declared.TableFault.{TableFault}
use Rattle.acceptance.specs.Reply.{opened, TableAnswer}
use Rattle.record.specs.declared.GraphFault.{GraphFault}
use Rattle.record.specs.Read.{Reading, reading}
use Rattle.record.specs.Reads.{Loaded, Reads, ReadsAs, Verdict}
use Rattle.replies.specs.declared.Side.TheVariants.{First, Second}
use Rattle.replies.specs.Replies.{Table, Graph, NothingGathered}
use Rattle.replies.specs.Reply.{resulting, refusing}
use Rattle.pairs.specs.Pair.{read_both}
use Rattle.pairs.proofs.Readings.{told-refused, told-accepted, told-loaded, tells-plain}
use Rattle.orders.specs.Ordering.{ordered}
use Rattle.engine.specs.Rewriting.{rewritten_rows}
use Rattle.engine.specs.Generalizing.{generalized}
use Rattle.calls.specs.Calls.{checked, ordering}
use Rattle.gathering.specs.declared.parts.Parts.{Parts}
use Rattle.gathering.specs.Gathering.{types_in, table_in, room_in, first_of, gathered_in, nothing_after, compared_with, comparing, written_from, finished_with, finishing}
use Rattle.gathering.specs.Parts.{Span, PartsOf}
use Rattle.gathering.specs.Joined.{joined_rows}

-- Facts on a record that is read.

-- The words of an accepted record are `Loaded`.
pub reads-loaded : (n : ℕ) (bytes : List ℕ) {v : Verdict} {ws : List ℕ} → Reads n bytes v ws → v ≡ Ok tt → Loaded n ws
reads-loaded n bytes tells e = told-loaded n [] [] bytes (told-accepted (tells-plain n [] [] bytes refl tells) e)

module _ {n : ℕ} {o : Reading} {v : Verdict} {ws : List ℕ} (tells : ReadsAs n o v ws) where
  pub nothing-refused : (fault : GraphFault) → v ≡ Err fault → Graph fault First ≡ nothing_after o
  nothing-refused fault e = sym (ap nothing_after (told-refused tells fault e))

  pub nothing-accepted : v ≡ Ok tt → NothingGathered ≡ nothing_after o
  nothing-accepted e = sym (ap nothing_after (told-accepted tells e).is)

  module _ (out : List ℕ) where
    pub write-refused : (fault : GraphFault) → v ≡ Err fault → resulting (Graph fault Second) out ≡ written_from o out
    write-refused fault e = sym (ap (λ (i : Reading). written_from i out) (told-refused tells fault e))

    pub write-accepted : v ≡ Ok tt → rewritten_rows out (rows_of ws) ≡ written_from o out
    write-accepted e = sym (ap (λ (i : Reading). written_from i out) (told-accepted tells e).is)

-- The calls, by the parts of a state and by what opening its table answers.
module _ {state : List ℕ} {p : Parts} (parts : PartsOf state p) where
  none-gathered : p.gathered ≡ 0 → gathered_in state ≡ none
  none-gathered e = ap (λ (l : ℕ). first_of l (room_in state)) (sym parts.gathered-is ∙ e)

  some-gathered : (p.gathered ≡ 0 → ⊥) → gathered_in state ≡ some (take (p.last - p.room) (drop p.room state))
  some-gathered h =
      ap (λ (l : ℕ). first_of l (room_in state)) (sym parts.gathered-is) ∙
      ap (λ (b : Bool). cond b none (some (take p.gathered (room_in state)))) (ne_eqb p.gathered 0 h) ∙
      ap some (sym parts.first-is)

  module _ {answer : TableAnswer} (told : answer ≡ opened p.types (take (p.end - p.start) (drop p.start state))) where
    pub table-told : opened (types_in state) (table_in state) ≡ answer
    table-told = sym (told ∙ ap₂ opened parts.types_are parts.table_is)

    -- Finishing.
    module _ (out : List ℕ) where
      finish-checked : finishing state out ≡ checked (λ r. refusing r out) answer (finished_with (types_in state) (gathered_in state) out)
      unfolding finishing
      finish-checked = ap (λ (o : TableAnswer). checked (λ r. refusing r out) o (finished_with (types_in state) (gathered_in state) out)) table-told

      pub finish-refused : (fault : TableFault) → answer ≡ Err fault → resulting (Table fault) out ≡ finishing state out
      finish-refused fault e =
          sym (finish-checked ∙ ap (λ (o : TableAnswer). checked (λ r. refusing r out) o (finished_with (types_in state) (gathered_in state) out)) e)

      finish-accepted : answer ≡ Ok tt → finishing state out ≡ finished_with (types_in state) (gathered_in state) out
      finish-accepted e =
          finish-checked ∙ ap (λ (o : TableAnswer). checked (λ r. refusing r out) o (finished_with (types_in state) (gathered_in state) out)) e

      pub finish-none : answer ≡ Ok tt → p.gathered ≡ 0 → resulting NothingGathered out ≡ finishing state out
      finish-none e h = sym (finish-accepted e ∙ ap (λ (o : Option (List ℕ)). finished_with (types_in state) o out) (none-gathered h))

      pub finish-some : answer ≡ Ok tt → (p.gathered ≡ 0 → ⊥) →
          written_from (reading p.types (take (p.last - p.room) (drop p.room state))) out ≡ finishing state out
      finish-some e h =
          sym (finish-accepted e ∙ ap₂ (λ (k : ℕ) (o : Option (List ℕ)). finished_with k o out) (sym parts.types_are) (some-gathered h))

    -- The order.
    module _ (bytes : List ℕ) where
      compare-parts : (o : Option (List ℕ)) → gathered_in state ≡ o →
          comparing state bytes ≡ compared_with p.types (take (p.end - p.start) (drop p.start state)) o bytes
      unfolding comparing
      compare-parts o e =
          ap₂ (λ (k : ℕ) (q : Option (List ℕ)). compared_with k (table_in state) q bytes) (sym parts.types_are) e ∙
          ap (λ (t : List ℕ). compared_with p.types t o bytes) (sym parts.table_is)

      -- the table's 1 to 3 come first, whatever is gathered
      compare-refused : (o : Option (List ℕ)) (fault : TableFault) → answer ≡ Err fault →
          compared_with p.types (take (p.end - p.start) (drop p.start state)) o bytes ≡ Table fault
      unfolding ordering
      compare-refused none fault e =
          ap (λ (q : TableAnswer). checked (λ r. r) q (nothing_after (reading p.types bytes))) (sym told ∙ e)
      compare-refused (some part) fault e =
          let t : List ℕ = take (p.end - p.start) (drop p.start state) in
          ap (λ (q : TableAnswer). checked (λ r. r) q (read_both (λ r. r) (reading p.types bytes) (reading p.types part) (ordered p.types t)))
          (sym told ∙ e)

      pub order-refused : (fault : TableFault) → answer ≡ Err fault → Table fault ≡ comparing state bytes
      order-refused fault e = sym (compare-parts (gathered_in state) refl ∙ compare-refused (gathered_in state) fault e)

      pub order-none : answer ≡ Ok tt → p.gathered ≡ 0 → nothing_after (reading p.types bytes) ≡ comparing state bytes
      order-none e h =
          sym (compare-parts none (none-gathered h) ∙
          ap (λ (q : TableAnswer). checked (λ r. r) q (nothing_after (reading p.types bytes))) (sym told ∙ e))

      pub order-some : answer ≡ Ok tt → (p.gathered ≡ 0 → ⊥) →
          read_both (λ r. r) (reading p.types bytes) (reading p.types (take (p.last - p.room) (drop p.room state)))
          (ordered p.types (take (p.end - p.start) (drop p.start state))) ≡ comparing state bytes
      unfolding ordering
      order-some e h =
          let t : List ℕ = take (p.end - p.start) (drop p.start state) in
          let part : List ℕ = take (p.last - p.room) (drop p.room state) in
          sym (compare-parts (some part) (some-gathered h) ∙
          ap (λ (q : TableAnswer). checked (λ r. r) q (read_both (λ r. r) (reading p.types bytes) (reading p.types part) (ordered p.types t)))
          (sym told ∙ e))

-- An addition, by the part of the room that is read.
module _ {room : List ℕ} {gathered end : ℕ} (span : Span room 0 gathered end) {n : ℕ} {v : Verdict} {ws : List ℕ} (tells : Reads n (take end room) v ws) where
  first-same : take gathered room ≡ take end room
  first-same =
      let none : end ≡ end - 0 = omega arith in
      sym (ap (λ (k : ℕ). take k room) none ∙ span.takes)

  pub join-refused : (t : List ℕ) (rows : List (Row Label)) (fault : GraphFault) → v ≡ Err fault →
      resulting (Graph fault Second) room ≡ joined_rows n t room rows (reading n (take gathered room))
  join-refused t rows fault e =
      sym (ap (λ (o : Reading). joined_rows n t room rows o) (ap (reading n) first-same ∙ told-refused tells fault e))

  pub join-accepted : (t : List ℕ) (rows : List (Row Label)) → v ≡ Ok tt →
      generalized n t room rows (rows_of ws) ≡ joined_rows n t room rows (reading n (take gathered room))
  join-accepted t rows e = sym (ap (λ (o : Reading). joined_rows n t room rows o) (ap (reading n) first-same ∙ (told-accepted tells e).is))
