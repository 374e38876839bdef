-- Each reply of a call on a gathering is given exactly where it is due.
use mathlib.Core.Path.{◌≡◌, refl, sym, ◌∙◌, ap, subst}
use mathlib.Core.Bool.{Bool, true, false, cond}
use mathlib.Core.List.{List, [], ◌∷◌, ◌++◌}
use mathlib.Core.Logic.{◌↔◌}
use mathlib.Core.Option.{Option, none, some}
use Prim.Native.Nat.{ℕ, ◌+◌, ◌*◌, ◌≤◌, ◌<◌}
use native.Mathlib.Omega.{arith}
use borrow.Author.Tests.{leb-true, leb-false, le-leb, lt-leb}
use lib.Dec.{leb, eqb}
use lib.ListN.{length, drop, length-append, length-drop}
use Rattle.std.specs.Prelude.{Ok, Err}
use Rattle.graphs.specs.Graph.{Graph, TellsApart}
use Rattle.graphs.specs.Rows.{Row}
use Rattle.graphs.specs.OfRows.{same_pair}
use Rattle.graphs.proofs.Below.{same-sym}
use Rattle.graphs.proofs.Lists.{tells-eqb}
use Rattle.lattice.specs.Label.{Label}
use Rattle.lattice.specs.Labels.{OfAnySize}
use Rattle.acceptance.specs.declared.TableFault.{TableFault}
use Rattle.acceptance.specs.Reply.{opened, TableAnswer}
use Rattle.encode.specs.declared.Unwritten.TheVariants as unwritten
use Rattle.encode.specs.Encode.{fitted, yielding}
use Rattle.record.specs.declared.GraphFault.{GraphFault}
use Rattle.record.specs.Read.{Reading, refused, accepted, reading, graph_of_rows}
use Rattle.record.proofs.Theorems.{accepted-of-any-size, accepted-fits}
use Rattle.generalize.proofs.Sides.{tells-pair}
use Rattle.replies.specs.declared.Side.TheVariants.{First, Second}
use Rattle.replies.specs.Replies.{Reply}
use Rattle.replies.specs.Replies.{Length, Table, Graph as OfGraph, NoRoom, TooLarge, NothingGathered}
use Rattle.replies.specs.Reply.{Result, resulting, refusing, result_of, length_of}
use Rattle.subsume.specs.Promise.{rows_below}
use Rattle.orders.specs.Ordering.{compared, ordered}
use Rattle.calls.specs.Calls.{checked, rewriting, ordering, generalizing}
use Rattle.demands.specs.Demand.{Given, WrittenRecord, RecordOf, Large, form_bytes, record_of, writing, common}
use Rattle.demands.proofs.Results.{result-record}
use Rattle.demands.proofs.Demanded.Order.{same-exact, under-exact, above-exact, neither-exact}
use Rattle.demands.proofs.Demands.{record-none, record-means, record-of-meaning, rewriting-written, common-part-written, common-part-exists}
use Rattle.gathering.proofs.Beginning.{table-long}
use Rattle.gathering.specs.Gathering.{two_bytes, state_of, begun, types_in, table_in, head_in, room_in, gathered_in, joining, settled, adding, compared_with, comparing, written_from, finished_with, finishing}
use Rattle.gathering.proofs.Told.{none-some}
use Rattle.gathered.specs.Due.{NewPart, BeginDue, AddDue, OrderDue, FinishDue}
use Rattle.gathered.specs.Due as due
use Rattle.gathered.proofs.Mixture.{settled-answer}
use Rattle.gathered.proofs.Records.{rewriting-refused, generalizing-refused}

-- A record that is written where it fits.

module _ (new out : List ℕ) where
  abbrev pub fitted_by : Bool → Result
  fitted_by b = result_of (cond b (yielding (Ok (length new)) (new ++ drop (length new) out)) (yielding (Err unwritten.NoRoom) out))

  pub fitted_short : length out < length new → result_of (fitted new out) ≡ refusing NoRoom out
  unfolding fitted
  fitted_short less = ap fitted_by (lt-leb (length new) (length out) less)

  pub fitted-whole : length new ≤ length out → result_of (fitted new out) ≡ resulting (Length (length new)) (new ++ drop (length new) out)
  unfolding fitted
  fitted-whole fit = ap fitted_by (le-leb (length new) (length out) fit)

-- A graph of any size over an accepted table, as a call's result.
module _ (n : ℕ) (t : List ℕ) {C : Type 0} (k : Graph Label C) where
  -- 11, then 8, then the length of the graph's record
  data WriteDue (room : ℕ) : Reply → Type 0 where
    too_large : Large k → WriteDue room TooLarge
    no_room : (new : List ℕ) → RecordOf n t k new → room < length new → WriteDue room NoRoom
    fits : (new : List ℕ) → RecordOf n t k new → length new ≤ room → WriteDue room (Length (length new))

  module _ (opens : opened n t ≡ Ok tt) (same : C → C → Bool) (tells : TellsApart same) (size : OfAnySize n t k) where
    -- A graph has one record.
    record_is : (new : List ℕ) → RecordOf n t k new → record_of same k ≡ some new
    record_is new is =
        let one : WrittenRecord n new = is.is-written in
        let own : record_of eqb (graph_of_rows one.form) ≡ some new = ap form_bytes one.own ∙ ap some (sym one.bytes-are) in
        (record-of-meaning n t opens eqb tells-eqb (graph_of_rows one.form) (accepted-of-any-size n new one.form one.reads t) new own same tells k size).0
        (same-sym is.means)

    module _ (out : List ℕ) where
      -- Writing a graph that has a record writes that record.
      writing-is : (new : List ℕ) → RecordOf n t k new → writing (record_of same k) out ≡ result_of (fitted new out)
      writing-is new is = ap (λ (o : Option (List ℕ)). writing o out) (record_is new is)

      writing-due : WriteDue (length out) (writing (record_of same k) out).reply
      unfolding fitted
      writing-due = go (record_of same k) refl
        where
          room : (new : List ℕ) → RecordOf n t k new → (b : Bool) → leb (length new) (length out) ≡ b → WriteDue (length out) (fitted_by new out b).reply
          room new is true e = fits new is (leb-true (length new) (length out) e)
          room new is false e = no_room new is (leb-false (length new) (length out) e)

          go : (o : Option (List ℕ)) → record_of same k ≡ o → WriteDue (length out) (writing o out).reply
          go none e = too_large ((record-none n t opens same tells k size).0 e)
          go (some new) e = room new (record-means n t opens same tells k size new e) (leb (length new) (length out)) refl

      writing-large : Large k → writing (record_of same k) out ≡ refusing TooLarge out
      writing-large large = ap (λ (o : Option (List ℕ)). writing o out) ((record-none n t opens same tells k size).1 large)

-- Begin.
module _ (n : ℕ) (t buffer : List ℕ) where
  abbrev begun_by : Bool → Result
  begun_by b = cond b (resulting (Length (3 + 8 * n)) (state_of n t [] (drop (3 + 8 * n) buffer))) (refusing NoRoom buffer)

  begun_opened : opened n t ≡ Ok tt → begun n t buffer ≡ begun_by (leb (1 + 8 * n + 2 + 4854) (length buffer))
  unfolding begun
  begun_opened opens = ap (λ (x : TableAnswer). checked (λ r. refusing r buffer) x (begun_by (leb (1 + 8 * n + 2 + 4854) (length buffer)))) opens

  begin-refused : (fault : TableFault) → opened n t ≡ Err fault → begun n t buffer ≡ refusing (Table fault) buffer
  unfolding begun
  begin-refused fault e = ap (λ (x : TableAnswer). checked (λ r. refusing r buffer) x (begun_by (leb (1 + 8 * n + 2 + 4854) (length buffer)))) e

  begin-short : opened n t ≡ Ok tt → length buffer < 3 + 8 * n + 4854 → begun n t buffer ≡ refusing NoRoom buffer
  begin-short opens less = begun_opened opens ∙ ap begun_by (lt-leb (1 + 8 * n + 2 + 4854) (length buffer) (omega (arith, less)))

  begin-used : opened n t ≡ Ok tt → 3 + 8 * n + 4854 ≤ length buffer →
      begun n t buffer ≡ resulting (Length (3 + 8 * n)) (state_of n t [] (drop (3 + 8 * n) buffer))
  begin-used opens fit = begun_opened opens ∙ ap begun_by (le-leb (1 + 8 * n + 2 + 4854) (length buffer) (omega (arith, fit)))

  begin-due : BeginDue n t (length buffer) (begun n t buffer).reply
  begin-due = table (opened n t) refl
    where
      room : opened n t ≡ Ok tt → (b : Bool) → leb (1 + 8 * n + 2 + 4854) (length buffer) ≡ b → BeginDue n t (length buffer) (begun_by b).reply
      room opens true e = due.used opens (omega (arith, leb-true (1 + 8 * n + 2 + 4854) (length buffer) e))
      room opens false e = due.no_room opens (omega (arith, leb-false (1 + 8 * n + 2 + 4854) (length buffer) e))

      table : (x : TableAnswer) → opened n t ≡ x → BeginDue n t (length buffer) (begun n t buffer).reply
      table (Err fault) e = subst (λ (y : Result). BeginDue n t (length buffer) y.reply) (sym (begin-refused fault e)) (due.table fault e)
      table (Ok tt) e =
          subst (λ (y : Result). BeginDue n t (length buffer) y.reply) (sym (begun_opened e))
          (room e (leb (1 + 8 * n + 2 + 4854) (length buffer)) refl)

  begin-replies : {r : Reply} → BeginDue n t (length buffer) r → (begun n t buffer).reply ≡ r
  begin-replies (due.table fault e) = ap (λ (y : Result). y.reply) (begin-refused fault e)
  begin-replies (due.no_room opens less) = ap (λ (y : Result). y.reply) (begin-short opens less)
  begin-replies (due.used opens fit) = ap (λ (y : Result). y.reply) (begin-used opens fit)

  pub begin-exact : (r : Reply) → ((begun n t buffer).reply ≡ r) ↔ BeginDue n t (length buffer) r
  begin-exact r = (λ e. subst (BeginDue n t (length buffer)) e begin-due, begin-replies)

  -- What a begin that is answered by a length leaves: n, the table, a length of 0, and the other bytes as they were.
  pub begin-leaves : (l : ℕ) → (begun n t buffer).reply ≡ Length l → (l ≡ 3 + 8 * n) ×
      ((begun n t buffer).output ≡ n ∷ (t ++ (0 ∷ 0 ∷ drop l buffer))) × (length (begun n t buffer).output ≡ length buffer)
  unfolding state_of two_bytes
  begin-leaves l e = go l ((begin-exact (Length l)).0 e)
    where
      go : (l : ℕ) → BeginDue n t (length buffer) (Length l) → (l ≡ 3 + 8 * n) ×
          ((begun n t buffer).output ≡ n ∷ (t ++ (0 ∷ 0 ∷ drop l buffer))) × (length (begun n t buffer).output ≡ length buffer)
      go _ (due.used opens fit) =
          let is : (begun n t buffer).output ≡ n ∷ (t ++ (0 ∷ 0 ∷ drop (3 + 8 * n) buffer)) = ap (λ (y : Result). y.output) (begin-used opens fit) in
          let long : length (n ∷ (t ++ (0 ∷ 0 ∷ drop (3 + 8 * n) buffer))) ≡ length buffer =
          omega (arith, fit, table-long n t refl opens, length-append t (0 ∷ 0 ∷ drop (3 + 8 * n) buffer), length-drop (3 + 8 * n) buffer) in
          (refl, is, ap length is ∙ long)

-- Add.
module _ (n : ℕ) (t bytes out : List ℕ) where
  joining-table : (o : Option (List ℕ)) (fault : TableFault) → opened n t ≡ Err fault → joining n t o bytes out ≡ refusing (Table fault) out
  unfolding rewriting generalizing
  joining-table none fault e = rw e
  joining-table (some part) fault e = rw e

  module _ (opens : opened n t ≡ Ok tt) where
    joining-program : (o : Option (List ℕ)) (fault : GraphFault) → reading n bytes ≡ refused fault → joining n t o bytes out ≡ refusing (OfGraph fault First) out
    joining-program none fault e = rewriting-refused n t opens bytes fault e out
    joining-program (some part) fault e = generalizing-refused n t opens bytes part fault e out

    joining-gathered : (part : List ℕ) (rows : List (Row Label)) (fault : GraphFault) → reading n bytes ≡ accepted rows → reading n part ≡ refused fault →
        generalizing n t bytes part out ≡ refusing (OfGraph fault Second) out
    unfolding generalizing
    joining-gathered part rows fault e d = rw (opens, e, d)

    -- An accepted program is not too large.
    program-small : (rows : List (Row Label)) → reading n bytes ≡ accepted rows → Large (graph_of_rows rows) → ⊥
    program-small rows reads large =
        let (form, e) = accepted-fits n bytes rows reads in
        none-some (sym ((record-none n t opens eqb tells-eqb (graph_of_rows rows) (accepted-of-any-size n bytes rows reads t)).1 large) ∙ ap form_bytes e)

    first-due : (rows : List (Row Label)) → reading n bytes ≡ accepted rows → WriteDue n t (graph_of_rows rows) (length out) (rewriting n t bytes out).reply
    first-due rows reads =
        subst (λ (y : Result). WriteDue n t (graph_of_rows rows) (length out) y.reply) (sym (rewriting-written n t bytes rows opens reads out))
        (writing-due n t (graph_of_rows rows) opens eqb tells-eqb (accepted-of-any-size n bytes rows reads t) out)

    later-due : (part : List ℕ) (rows others : List (Row Label)) → Given n t bytes part rows others →
        WriteDue n t (common n t rows others) (length out) (generalizing n t bytes part out).reply
    later-due part rows others given =
        subst (λ (y : Result). WriteDue n t (common n t rows others) (length out) y.reply) (sym (common-part-written n t bytes part rows others given out))
        (writing-due n t (common n t rows others) opens same_pair tells-pair (common-part-exists n t bytes part rows others given).of-any-size out)

    -- An addition with a new common part writes its record.
    pub joining-new : (o : Option (List ℕ)) (new : List ℕ) → NewPart n t o bytes new → joining n t o bytes out ≡ result_of (fitted new out)
    joining-new o new (due.first rows is reads one) =
        ap (λ (p : Option (List ℕ)). joining n t p bytes out) is ∙ rewriting-written n t bytes rows opens reads out ∙
        writing-is n t (graph_of_rows rows) opens eqb tells-eqb (accepted-of-any-size n bytes rows reads t) out new one
    joining-new o new (due.later part rows others is reads second one) =
        let given : Given n t bytes part rows others = record { opens = opens; first = reads; second = second } in
        ap (λ (p : Option (List ℕ)). joining n t p bytes out) is ∙ common-part-written n t bytes part rows others given out ∙
        writing-is n t (common n t rows others) opens same_pair tells-pair (common-part-exists n t bytes part rows others given).of-any-size out new one

  module _ (o : Option (List ℕ)) where
    joining-due : AddDue n t o bytes (length out) (joining n t o bytes out).reply
    joining-due = table (opened n t) refl
      where
        from : {x : Result} → joining n t o bytes out ≡ x → AddDue n t o bytes (length out) x.reply →
            AddDue n t o bytes (length out) (joining n t o bytes out).reply
        from e d = subst (λ (y : Result). AddDue n t o bytes (length out) y.reply) (sym e) d

        wrote-first : opened n t ≡ Ok tt → (rows : List (Row Label)) → o ≡ none → reading n bytes ≡ accepted rows → {r : Reply} →
            WriteDue n t (graph_of_rows rows) (length out) r → AddDue n t o bytes (length out) r
        wrote-first opens rows is reads (too_large large) = absurd (program-small opens rows reads large)
        wrote-first opens rows is reads (no_room new one less) = due.no_room new opens (due.first rows is reads one) less
        wrote-first opens rows is reads (fits new one fit) = due.fits new opens (due.first rows is reads one) fit

        wrote-later : (part : List ℕ) (rows others : List (Row Label)) → o ≡ some part → Given n t bytes part rows others → {r : Reply} →
            WriteDue n t (common n t rows others) (length out) r → AddDue n t o bytes (length out) r
        wrote-later part rows others is given (too_large large) = due.too_large part rows others is given large
        wrote-later part rows others is given (no_room new one less) =
            due.no_room new given.opens (due.later part rows others is given.first given.second one) less
        wrote-later part rows others is given (fits new one fit) =
            due.fits new given.opens (due.later part rows others is given.first given.second one) fit

        second : opened n t ≡ Ok tt → (rows : List (Row Label)) → reading n bytes ≡ accepted rows → (part : List ℕ) → o ≡ some part →
            (x : Reading) → reading n part ≡ x → AddDue n t o bytes (length out) (generalizing n t bytes part out).reply
        second opens rows reads part is (refused fault) e =
            subst (λ (y : Result). AddDue n t o bytes (length out) y.reply) (sym (joining-gathered opens part rows fault reads e))
            (due.gathered part rows fault opens reads is e)
        second opens rows reads part is (accepted others) e =
            let given : Given n t bytes part rows others = record { opens = opens; first = reads; second = e } in
            wrote-later part rows others is given (later-due opens part rows others given)

        held : opened n t ≡ Ok tt → (rows : List (Row Label)) → reading n bytes ≡ accepted rows → (p : Option (List ℕ)) → o ≡ p →
            AddDue n t o bytes (length out) (joining n t p bytes out).reply
        held opens rows reads none is = wrote-first opens rows is reads (first-due opens rows reads)
        held opens rows reads (some part) is = second opens rows reads part is (reading n part) refl

        first : opened n t ≡ Ok tt → (x : Reading) → reading n bytes ≡ x → AddDue n t o bytes (length out) (joining n t o bytes out).reply
        first opens (refused fault) e = from (joining-program opens o fault e) (due.program fault opens e)
        first opens (accepted rows) e = held opens rows e o refl

        table : (x : TableAnswer) → opened n t ≡ x → AddDue n t o bytes (length out) (joining n t o bytes out).reply
        table (Err fault) e = from (joining-table o fault e) (due.table fault e)
        table (Ok tt) e = first e (reading n bytes) refl

    joining-replies : {r : Reply} → AddDue n t o bytes (length out) r → (joining n t o bytes out).reply ≡ r
    joining-replies (due.table fault e) = ap (λ (y : Result). y.reply) (joining-table o fault e)
    joining-replies (due.program fault opens e) = ap (λ (y : Result). y.reply) (joining-program opens o fault e)
    joining-replies (due.gathered part rows fault opens reads is e) =
        ap (λ (p : Option (List ℕ)). (joining n t p bytes out).reply) is ∙ ap (λ (y : Result). y.reply) (joining-gathered opens part rows fault reads e)
    joining-replies (due.too_large part rows others is given large) =
        ap (λ (p : Option (List ℕ)). (joining n t p bytes out).reply) is ∙
        ap (λ (y : Result). y.reply)
        (common-part-written n t bytes part rows others given out ∙
        writing-large n t (common n t rows others) given.opens same_pair tells-pair (common-part-exists n t bytes part rows others given).of-any-size out large)
    joining-replies (due.no_room new opens one less) = ap (λ (y : Result). y.reply) (joining-new opens o new one ∙ fitted_short new out less)
    joining-replies (due.fits new opens one fit) = ap (λ (y : Result). y.reply) (joining-new opens o new one ∙ fitted-whole new out fit)

    pub joining-exact : (r : Reply) → ((joining n t o bytes out).reply ≡ r) ↔ AddDue n t o bytes (length out) r
    joining-exact r = (λ e. subst (AddDue n t o bytes (length out)) e joining-due, joining-replies)

-- An addition, whatever the bytes of the state.
pub add-exact : (state bytes : List ℕ) (r : Reply) →
    ((adding state bytes).reply ≡ r) ↔ AddDue (types_in state) (table_in state) (gathered_in state) bytes (length (room_in state)) r
unfolding adding
add-exact state bytes r =
    let is = settled-answer state (joining (types_in state) (table_in state) (gathered_in state) bytes (room_in state))
    (length_of (joining (types_in state) (table_in state) (gathered_in state) bytes (room_in state)).reply) in
    let (there, back) = joining-exact (types_in state) (table_in state) bytes (room_in state) (gathered_in state) r in
    (λ e. there (sym is ∙ e), λ d. is ∙ back d)

-- What an addition that is answered by a length leaves, whatever the bytes of the state: n and the table, the length, the record of the new
-- common part, and the other bytes as they were.
pub add-leaves : (state bytes : List ℕ) (l : ℕ) → (adding state bytes).reply ≡ Length l →
    (new : List ℕ) × NewPart (types_in state) (table_in state) (gathered_in state) bytes new × (length new ≡ l) ×
    ((adding state bytes).output ≡ head_in state ++ (two_bytes l ++ (new ++ drop l (room_in state))))
unfolding adding
add-leaves state bytes l e = go l ((add-exact state bytes (Length l)).0 e)
  where
    go : (l : ℕ) → AddDue (types_in state) (table_in state) (gathered_in state) bytes (length (room_in state)) (Length l) →
        (new : List ℕ) × NewPart (types_in state) (table_in state) (gathered_in state) bytes new × (length new ≡ l) ×
        ((adding state bytes).output ≡ head_in state ++ (two_bytes l ++ (new ++ drop l (room_in state))))
    go _ (due.fits new opens one fit) = (
      new,
      one,
      refl,
      ap (λ (y : Result). (settled state y).output)
          (joining-new (types_in state) (table_in state) bytes (room_in state) opens (gathered_in state) new one ∙ fitted-whole new (room_in state) fit),
    )

-- Order.
module _ (n : ℕ) (t bytes : List ℕ) where
  compared-table : (o : Option (List ℕ)) (fault : TableFault) → opened n t ≡ Err fault → compared_with n t o bytes ≡ Table fault
  unfolding ordering
  compared-table none fault e = rw e
  compared-table (some part) fault e = rw e

  module _ (opens : opened n t ≡ Ok tt) where
    compared-program : (o : Option (List ℕ)) (fault : GraphFault) → reading n bytes ≡ refused fault → compared_with n t o bytes ≡ OfGraph fault First
    unfolding ordering
    compared-program none fault e = rw (opens, e)
    compared-program (some part) fault e = rw (opens, e)

    compared-nothing : (rows : List (Row Label)) → reading n bytes ≡ accepted rows → compared_with n t none bytes ≡ NothingGathered
    compared-nothing rows e = rw (opens, e)

    compared-gathered : (part : List ℕ) (rows : List (Row Label)) (fault : GraphFault) → reading n bytes ≡ accepted rows → reading n part ≡ refused fault →
        ordering n t bytes part ≡ OfGraph fault Second
    unfolding ordering
    compared-gathered part rows fault e d = rw (opens, e, d)

  compared-both : (part : List ℕ) (rows others : List (Row Label)) → Given n t bytes part rows others →
      ordering n t bytes part ≡ compared (rows_below n t rows others) (rows_below n t others rows)
  unfolding ordering ordered
  compared-both part rows others given = rw (given.opens, given.first, given.second)

  module _ (o : Option (List ℕ)) where
    comparing-due : OrderDue n t o bytes (compared_with n t o bytes)
    comparing-due = table (opened n t) refl
      where
        from : {x y : Reply} → x ≡ y → OrderDue n t o bytes y → OrderDue n t o bytes x
        from e d = subst (OrderDue n t o bytes) (sym e) d

        four : (part : List ℕ) (rows others : List (Row Label)) → o ≡ some part → Given n t bytes part rows others → (x y : Bool) →
            ordering n t bytes part ≡ compared x y → OrderDue n t o bytes (compared x y)
        four part rows others is given true true e =
            let (x, y) = (same-exact n t bytes part rows others given).0 e in due.same part rows others is given x y
        four part rows others is given true false e =
            let (x, y) = (under-exact n t bytes part rows others given).0 e in due.under part rows others is given x y
        four part rows others is given false true e =
            let (y, x) = (above-exact n t bytes part rows others given).0 e in due.above part rows others is given x y
        four part rows others is given false false e =
            let (x, y) = (neither-exact n t bytes part rows others given).0 e in due.neither part rows others is given x y

        second : opened n t ≡ Ok tt → (rows : List (Row Label)) → reading n bytes ≡ accepted rows → (part : List ℕ) → o ≡ some part →
            (x : Reading) → reading n part ≡ x → OrderDue n t o bytes (ordering n t bytes part)
        second opens rows reads part is (refused fault) e =
            from (compared-gathered opens part rows fault reads e) (due.gathered part rows fault opens reads is e)
        second opens rows reads part is (accepted others) e =
            let given : Given n t bytes part rows others = record { opens = opens; first = reads; second = e } in
            let e = compared-both part rows others given in
            from e (four part rows others is given (rows_below n t rows others) (rows_below n t others rows) e)

        held : opened n t ≡ Ok tt → (rows : List (Row Label)) → reading n bytes ≡ accepted rows → (p : Option (List ℕ)) → o ≡ p →
            OrderDue n t o bytes (compared_with n t p bytes)
        held opens rows reads none is = from (compared-nothing opens rows reads) (due.nothing rows opens reads is)
        held opens rows reads (some part) is = second opens rows reads part is (reading n part) refl

        first : opened n t ≡ Ok tt → (x : Reading) → reading n bytes ≡ x → OrderDue n t o bytes (compared_with n t o bytes)
        first opens (refused fault) e = from (compared-program opens o fault e) (due.program fault opens e)
        first opens (accepted rows) e = held opens rows e o refl

        table : (x : TableAnswer) → opened n t ≡ x → OrderDue n t o bytes (compared_with n t o bytes)
        table (Err fault) e = from (compared-table o fault e) (due.table fault e)
        table (Ok tt) e = first e (reading n bytes) refl

    comparing-replies : {r : Reply} → OrderDue n t o bytes r → compared_with n t o bytes ≡ r
    comparing-replies (due.table fault e) = compared-table o fault e
    comparing-replies (due.program fault opens e) = compared-program opens o fault e
    comparing-replies (due.nothing rows opens reads is) =
        ap (λ (p : Option (List ℕ)). compared_with n t p bytes) is ∙ compared-nothing opens rows reads
    comparing-replies (due.gathered part rows fault opens reads is e) =
        ap (λ (p : Option (List ℕ)). compared_with n t p bytes) is ∙ compared-gathered opens part rows fault reads e
    comparing-replies (due.same part rows others is given x y) =
        ap (λ (p : Option (List ℕ)). compared_with n t p bytes) is ∙ (same-exact n t bytes part rows others given).1 (x, y)
    comparing-replies (due.under part rows others is given x y) =
        ap (λ (p : Option (List ℕ)). compared_with n t p bytes) is ∙ (under-exact n t bytes part rows others given).1 (x, y)
    comparing-replies (due.above part rows others is given x y) =
        ap (λ (p : Option (List ℕ)). compared_with n t p bytes) is ∙ (above-exact n t bytes part rows others given).1 (y, x)
    comparing-replies (due.neither part rows others is given x y) =
        ap (λ (p : Option (List ℕ)). compared_with n t p bytes) is ∙ (neither-exact n t bytes part rows others given).1 (x, y)

    pub compared-exact : (r : Reply) → (compared_with n t o bytes ≡ r) ↔ OrderDue n t o bytes r
    compared-exact r = (λ e. subst (OrderDue n t o bytes) e comparing-due, comparing-replies)

-- An order, whatever the bytes of the state.
pub order-exact : (state bytes : List ℕ) (r : Reply) →
    (comparing state bytes ≡ r) ↔ OrderDue (types_in state) (table_in state) (gathered_in state) bytes r
unfolding comparing
order-exact state bytes r = compared-exact (types_in state) (table_in state) bytes (gathered_in state) r

-- Finish.
module _ (n : ℕ) (t out : List ℕ) (o : Option (List ℕ)) where
  abbrev finished_by : TableAnswer → Result
  finished_by x = checked (λ r. refusing r out) x (finished_with n o out)

  finished-nothing : opened n t ≡ Ok tt → o ≡ none → finished_by (opened n t) ≡ refusing NothingGathered out
  finished-nothing opens is = ap finished_by opens ∙ ap (λ (p : Option (List ℕ)). finished_with n p out) is

  finished-gathered : (part : List ℕ) (fault : GraphFault) → opened n t ≡ Ok tt → o ≡ some part → reading n part ≡ refused fault →
      finished_by (opened n t) ≡ refusing (OfGraph fault Second) out
  finished-gathered part fault opens is e =
      ap finished_by opens ∙ ap (λ (p : Option (List ℕ)). finished_with n p out) is ∙ ap (λ (x : Reading). written_from x out) e

  finished-writing : (part : List ℕ) (rows : List (Row Label)) → opened n t ≡ Ok tt → o ≡ some part → reading n part ≡ accepted rows →
      finished_by (opened n t) ≡ writing (record_of eqb (graph_of_rows rows)) out
  finished-writing part rows opens is e =
      ap finished_by opens ∙ ap (λ (p : Option (List ℕ)). finished_with n p out) is ∙ ap (λ (x : Reading). written_from x out) e ∙
      result-record eqb (graph_of_rows rows) out

  -- Finishing writes the record of what is gathered.
  finished-new : (part : List ℕ) (rows : List (Row Label)) (new : List ℕ) → opened n t ≡ Ok tt → o ≡ some part → reading n part ≡ accepted rows →
      RecordOf n t (graph_of_rows rows) new → finished_by (opened n t) ≡ result_of (fitted new out)
  finished-new part rows new opens is e one =
      finished-writing part rows opens is e ∙
      writing-is n t (graph_of_rows rows) opens eqb tells-eqb (accepted-of-any-size n part rows e t) out new one

  finished-due : FinishDue n t o (length out) (finished_by (opened n t)).reply
  finished-due = table (opened n t) refl
    where
      from : {x y : Result} → x ≡ y → FinishDue n t o (length out) y.reply → FinishDue n t o (length out) x.reply
      from e d = subst (λ (z : Result). FinishDue n t o (length out) z.reply) (sym e) d

      wrote : (part : List ℕ) (rows : List (Row Label)) → opened n t ≡ Ok tt → o ≡ some part → reading n part ≡ accepted rows → {r : Reply} →
          WriteDue n t (graph_of_rows rows) (length out) r → FinishDue n t o (length out) r
      wrote part rows opens is e (too_large large) = absurd (program-small n t part out opens rows e large)
      wrote part rows opens is e (no_room new one less) = due.no_room part rows new opens is e one less
      wrote part rows opens is e (fits new one fit) = due.fits part rows new opens is e one fit

      read : opened n t ≡ Ok tt → (part : List ℕ) → o ≡ some part → (x : Reading) → reading n part ≡ x →
          FinishDue n t o (length out) (finished_by (opened n t)).reply
      read opens part is (refused fault) e = from (finished-gathered part fault opens is e) (due.gathered part fault opens is e)
      read opens part is (accepted rows) e =
          from (finished-writing part rows opens is e)
          (wrote part rows opens is e (writing-due n t (graph_of_rows rows) opens eqb tells-eqb (accepted-of-any-size n part rows e t) out))

      held : opened n t ≡ Ok tt → (p : Option (List ℕ)) → o ≡ p → FinishDue n t o (length out) (finished_by (opened n t)).reply
      held opens none is = from (finished-nothing opens is) (due.nothing opens is)
      held opens (some part) is = read opens part is (reading n part) refl

      table : (x : TableAnswer) → opened n t ≡ x → FinishDue n t o (length out) (finished_by (opened n t)).reply
      table (Err fault) e = from (ap finished_by e) (due.table fault e)
      table (Ok tt) e = held e o refl

  finished-replies : {r : Reply} → FinishDue n t o (length out) r → (finished_by (opened n t)).reply ≡ r
  finished-replies (due.table fault e) = ap (λ (x : TableAnswer). (finished_by x).reply) e
  finished-replies (due.nothing opens is) = ap (λ (y : Result). y.reply) (finished-nothing opens is)
  finished-replies (due.gathered part fault opens is e) = ap (λ (y : Result). y.reply) (finished-gathered part fault opens is e)
  finished-replies (due.no_room part rows new opens is e one less) =
      ap (λ (y : Result). y.reply) (finished-new part rows new opens is e one ∙ fitted_short new out less)
  finished-replies (due.fits part rows new opens is e one fit) =
      ap (λ (y : Result). y.reply) (finished-new part rows new opens is e one ∙ fitted-whole new out fit)

  pub finished-exact : (r : Reply) → ((checked (λ r. refusing r out) (opened n t) (finished_with n o out)).reply ≡ r) ↔ FinishDue n t o (length out) r
  finished-exact r = (λ e. subst (FinishDue n t o (length out)) e finished-due, finished-replies)

-- A finish, whatever the bytes of the state.
pub finish-exact : (state out : List ℕ) (r : Reply) →
    ((finishing state out).reply ≡ r) ↔ FinishDue (types_in state) (table_in state) (gathered_in state) (length out) r
unfolding finishing
finish-exact state out r = finished-exact (types_in state) (table_in state) out (gathered_in state) r

-- What a finish that is answered by a length writes, whatever the bytes of the state: the record of what is gathered, with the other bytes as
-- they were.
pub finish-leaves : (state out : List ℕ) (l : ℕ) → (finishing state out).reply ≡ Length l →
    (part : List ℕ) × (rows : List (Row Label)) × (new : List ℕ) × (gathered_in state ≡ some part) × (reading (types_in state) part ≡ accepted rows) ×
    RecordOf (types_in state) (table_in state) (graph_of_rows rows) new × (length new ≡ l) × ((finishing state out).output ≡ new ++ drop l out)
unfolding finishing
finish-leaves state out l e = go l ((finish-exact state out (Length l)).0 e)
  where
    go : (l : ℕ) → FinishDue (types_in state) (table_in state) (gathered_in state) (length out) (Length l) →
        (part : List ℕ) × (rows : List (Row Label)) × (new : List ℕ) × (gathered_in state ≡ some part) × (reading (types_in state) part ≡ accepted rows) ×
        RecordOf (types_in state) (table_in state) (graph_of_rows rows) new × (length new ≡ l) × ((finishing state out).output ≡ new ++ drop l out)
    go _ (due.fits part rows new opens is reads one fit) = (
      part,
      rows,
      new,
      is,
      reads,
      one,
      refl,
      ap (λ (y : Result). y.output)
          (finished-new (types_in state) (table_in state) out (gathered_in state) part rows new opens is reads one ∙ fitted-whole new out fit),
    )
