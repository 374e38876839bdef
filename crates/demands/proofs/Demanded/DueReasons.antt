-- The replies of a difference with its reasons (document 02, Paper 13): 22 is given after 8, exactly where it is due.
use mathlib.Core.Path.{◌≡◌, refl, sym, ◌∙◌, ap, subst}
use mathlib.Core.Bool.{Bool, true, false, cond}
use mathlib.Core.List.{List}
use mathlib.Core.Logic.{◌↔◌}
use mathlib.Core.Option.{none}
use Prim.Native.Nat.{ℕ, ◌≤◌, ◌<◌}
use native.Mathlib.Omega.{arith}
use borrow.Author.Tests.{leb-true, leb-false}
use lib.Dec.{leb, eqb}
use lib.ListN.{length}
use Rattle.graphs.specs.Rows.{Row}
use Rattle.graphs.specs.Large.{links_in}
use Rattle.graphs.specs.Difference.{Link, StrictOrder}
use Rattle.graphs.proofs.Lists.{tells-eqb}
use Rattle.graphs.proofs.Form.Invariant.{same-canonical}
use Rattle.lattice.specs.Label.{Label}
use Rattle.lattice.specs.Labels.{table_labels}
use Rattle.std.specs.Prelude.{Ok, Err}
use Rattle.acceptance.specs.Reply.{opened, TableAnswer}
use Rattle.record.specs.Read.{Reading, refused, accepted, reading, graph_of_rows}
use Rattle.replies.specs.Replies.{Reply}
use Rattle.replies.specs.Replies as replies
use Rattle.replies.specs.Reply.{Result, refusing, length_of}
use Rattle.link_orders.specs.LinkOrders.{is_reading_order}
use Rattle.pairs.specs.Pair.{read_both}
use Rattle.engine.specs.Differing.{parting, reasons_of}
use Rattle.difference.specs.Difference.{differed_rows}
use Rattle.difference.specs.Explained.{Explained, explained_result, with_reasons}
use Rattle.calls.specs.Calls.{checked, checked_list}
use Rattle.demands.specs.Demand.{Given, RecordOf, remainder}
use Rattle.demands.specs.Due.{DifferDue, ExplainDue, PairDue, ByListDue}
use Rattle.demands.specs.Due as due
use Rattle.demands.proofs.Demanded.Reasons.{reasons-count, beside-room, beside-short, beside-refused}
use Rattle.demands.proofs.Demanded.DueChecks.{pair-exact, over-table-exact, by-list-exact}
use Rattle.demands.proofs.Demanded.Due.{differ-exact}

-- A refusal before the difference stays as it is, with both outputs unchanged.
module _ (reasons out old : List ℕ) where
  abbrev refusing_both : Reply → Explained
  refusing_both r = explained_result r out old

  module _ (next : List (Row Label) → List (Row Label) → Result) where
    read-beside : (x y : Reading) →
        with_reasons (read_both (λ r. refusing r out) x y next) reasons out old ≡ read_both refusing_both x y (λ g s. with_reasons (next g s) reasons out old)
    read-beside (refused fault) y = refl
    read-beside (accepted g) (refused fault) = refl
    read-beside (accepted g) (accepted s) = refl

  table_beside : (o : TableAnswer) (next : Result) →
      with_reasons (checked (λ r. refusing r out) o next) reasons out old ≡ checked refusing_both o (with_reasons next reasons out old)
  table_beside (Err fault) next = refl
  table_beside (Ok tt) next = refl

  list-beside : (l : Bool) (next : Result) →
      with_reasons (cond l next (refusing replies.ReadingOrder out)) reasons out old ≡
      cond l (with_reasons next reasons out old) (refusing_both replies.ReadingOrder)
  list-beside true next = refl
  list-beside false next = refl

module _ (n : ℕ) (t a b : List ℕ) {earlier : Link ℕ → Link ℕ → Bool} (strict : StrictOrder earlier) (g s : List (Row Label))
    (given : Given n t a b g s) (out old : List ℕ) where
  abbrev parted : Result
  parted = differed_rows earlier n t out g s

  abbrev reasons : List ℕ
  reasons = reasons_of earlier n t a b

  abbrev explained : Explained
  explained = with_reasons parted reasons out old

  -- There are as many reasons as the difference's record has links.
  counted : (new : List ℕ) (one : RecordOf n t (remainder earlier n t g s) new) → length reasons ≡ links_in one.is-written.form
  counted new one =
      reasons-count n t a b g s given earlier one.is-written.form
      (same-canonical (table_labels n t) eqb eqb tells-eqb tells-eqb (remainder earlier n t g s) (graph_of_rows one.is-written.form) one.means ∙
      one.is-written.own)

  plain-due : DifferDue n t earlier (length out) g s parted.reply
  plain-due = (differ-exact n t a b strict g s given out parted.reply).0 refl

  plain-replies : {r : Reply} → DifferDue n t earlier (length out) g s r → parted.reply ≡ r
  plain-replies {r} = (differ-exact n t a b strict g s given out r).1

  -- A refusal of the difference stays.
  stays : {r : Reply} → parted.reply ≡ r → length_of r ≡ none → explained.reply ≡ r
  stays e none_told =
      ap (λ (x : Explained). x.reply) (beside-refused parted reasons out old (ap (λ (q : Reply). length_of q) e ∙ none_told)) ∙ e

  shorts : (l : ℕ) → parted.reply ≡ replies.Length l → length old < length reasons → explained.reply ≡ replies.NoReasonRoom
  shorts l e h = ap (λ (x : Explained). x.reply) (beside-short parted reasons out old l e h)

  rooms : (l : ℕ) → parted.reply ≡ replies.Length l → length reasons ≤ length old → explained.reply ≡ replies.Length l
  rooms l e h = ap (λ (x : Explained). x.reply) (beside-room parted reasons out old l e h)

  explain-due : ExplainDue n t earlier (length out) (length old) g s explained.reply
  explain-due = go parted.reply refl plain-due
    where
      to : {r : Reply} → explained.reply ≡ r → ExplainDue n t earlier (length out) (length old) g s r →
          ExplainDue n t earlier (length out) (length old) g s explained.reply
      to e d = subst (ExplainDue n t earlier (length out) (length old) g s) (sym e) d

      go : (r : Reply) → parted.reply ≡ r → DifferDue n t earlier (length out) g s r →
          ExplainDue n t earlier (length out) (length old) g s explained.reply
      go _ e (due.not-below never) = to (stays e refl) (due.not-below never)
      go _ e (due.not-wanted below some) = to (stays e refl) (due.not-wanted below some)
      go _ e (due.written below all (due.no_room new one less)) = to (stays e refl) (due.no_room new below all one less)
      go _ e (due.written below all (due.fits new one fit)) = test (leb (length reasons) (length old)) refl
        where
          test : (c : Bool) → leb (length reasons) (length old) ≡ c → ExplainDue n t earlier (length out) (length old) g s explained.reply
          test true q =
              let h = leb-true (length reasons) (length old) q in
              to (rooms (length new) e h) (due.fits new below all one fit (omega (arith, counted new one)))
          test false q =
              let h = leb-false (length reasons) (length old) q in
              to (shorts (length new) e h) (due.no-reason-room new below all one fit (omega (arith, counted new one)))

  explain-replies : {r : Reply} → ExplainDue n t earlier (length out) (length old) g s r → explained.reply ≡ r
  explain-replies (due.not-below never) = stays (plain-replies (due.not-below never)) refl
  explain-replies (due.not-wanted below some) = stays (plain-replies (due.not-wanted below some)) refl
  explain-replies (due.no_room new below all one less) = stays (plain-replies (due.written below all (due.no_room new one less))) refl
  explain-replies (due.no-reason-room new below all one fit short) =
      shorts (length new) (plain-replies (due.written below all (due.fits new one fit))) (omega (arith, counted new one))
  explain-replies (due.fits new below all one fit long) =
      rooms (length new) (plain-replies (due.written below all (due.fits new one fit))) (omega (arith, counted new one))

  explain-exact : (r : Reply) →
      ((with_reasons (differed_rows earlier n t out g s) (reasons_of earlier n t a b) out old).reply ≡ r) ↔
      ExplainDue n t earlier (length out) (length old) g s r
  explain-exact r = (λ e. subst (ExplainDue n t earlier (length out) (length old) g s) e explain-due, explain-replies)

-- The calls with reasons, by any order of links.
module _ (n : ℕ) (t a b : List ℕ) {earlier : Link ℕ → Link ℕ → Bool} (strict : StrictOrder earlier) (out old : List ℕ) where
  abbrev told : List ℕ
  told = reasons_of earlier n t a b

  abbrev next : List (Row Label) → List (Row Label) → Explained
  next g s = with_reasons (differed_rows earlier n t out g s) told out old

  pub call-exact : (r : Reply) →
      ((with_reasons (checked (λ r. refusing r out) (opened n t) (parting earlier n t a b out)) told out old).reply ≡ r) ↔
      PairDue n t a b (ExplainDue n t earlier (length out) (length old)) r
  call-exact r =
      subst (λ (x : Explained). (x.reply ≡ r) ↔ PairDue n t a b (ExplainDue n t earlier (length out) (length old)) r)
      (sym
      (table_beside told out old (opened n t) (parting earlier n t a b out) ∙
      ap (checked (refusing_both told out old) (opened n t)) (read-beside told out old (differed_rows earlier n t out) (reading n a) (reading n b))))
      (pair-exact (λ (x : Explained). x.reply) (refusing_both told out old) (λ r. refl) n t a b next
      (ExplainDue n t earlier (length out) (length old)) (λ g s given. explain-exact n t a b strict g s given out old) r)

  -- The same where a reading order is checked after the table.
  pub listed-call-exact : (list : List ℕ) (r : Reply) →
      ((with_reasons (checked_list n t (is_reading_order list) replies.ReadingOrder out (parting earlier n t a b out)) told out old).reply ≡ r) ↔
      ByListDue n t list (PairDue n t a b (ExplainDue n t earlier (length out) (length old))) r
  listed-call-exact list r =
      subst (λ (x : Explained). (x.reply ≡ r) ↔ ByListDue n t list (PairDue n t a b (ExplainDue n t earlier (length out) (length old))) r)
      (sym
      (table_beside told out old (opened n t)
      (cond (is_reading_order list) (parting earlier n t a b out) (refusing replies.ReadingOrder out)) ∙
      ap (checked (refusing_both told out old) (opened n t))
      (list-beside told out old (is_reading_order list) (parting earlier n t a b out) ∙
      ap (λ (x : Explained). cond (is_reading_order list) x (refusing_both told out old replies.ReadingOrder))
      (read-beside told out old (differed_rows earlier n t out) (reading n a) (reading n b)))))
      (by-list-exact (λ (x : Explained). x.reply) (refusing_both told out old) (λ r. refl) n t list
      (read_both (refusing_both told out old) (reading n a) (reading n b) next)
      (PairDue n t a b (ExplainDue n t earlier (length out) (length old)))
      (λ opens once.
      over-table-exact (λ (x : Explained). x.reply) (refusing_both told out old) (λ r. refl) n t a b next
      (ExplainDue n t earlier (length out) (length old)) (λ g s given. explain-exact n t a b strict g s given out old) opens)
      r)
