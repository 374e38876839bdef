-- The promise of the difference of two records over an accepted table gives the replies of the calls.
use mathlib.Core.Path.{◌≡◌, refl, sym, ◌∙◌, ap}
use mathlib.Core.Bool.{Bool, true, false}
use mathlib.Core.List.{List}
use Prim.Native.Nat.{ℕ}
use Rattle.graphs.specs.Difference.{Link, by_number, by_reading}
use Rattle.acceptance.specs.declared.TableFault.{TableFault}
use Rattle.std.specs.Prelude.{Ok, Err}
use Rattle.acceptance.specs.Reply as table
use Rattle.link_orders.specs.LinkOrders.{is_reading_order}
use Rattle.difference.specs.Explained.{Explained, explained_result, with_reasons_if}
use Rattle.difference.proofs.Answering.{refuses-with-reasons}
use Rattle.replies.specs.Replies.{Reply}
use Rattle.replies.specs.Replies.{Table, ReadingOrder}
use Rattle.replies.specs.Reply.{Result, resulting, refusing}
use Rattle.engine.specs.Differing.{parting, reasons_of}
use Rattle.calls.specs.Calls.{differing}
use Rattle.calls.specs.Explained.{explaining, explaining_by, differing_with, differing_by_with}
use Rattle.calls.proofs.Tables.{table-refused, table-accepted}
use Rattle.calls.proofs.Listed.{table-before-list, list-refused, list-passed, differing-checked}

-- Without reasons, the result is the reply and the output for the record.
pub plain-part : {plain : Result} {old : List ℕ} {r : Reply} {new rest : List ℕ} →
    explained_result r new rest ≡ explained_result plain.reply plain.output old → resulting r new ≡ plain
plain-part e = ap (λ (x : Explained). resulting x.reply x.output) e

-- If the reasons are asked for, the definitions give the calls with reasons.
pub with-explaining : (n : ℕ) (t a b out old : List ℕ) → differing_with true n t a b out old ≡ explaining n t a b out old
unfolding explaining
with-explaining n t a b out old = refl

pub with-explaining-by : (n : ℕ) (t list a b out old : List ℕ) → differing_by_with true n t list a b out old ≡ explaining_by n t list a b out old
unfolding explaining_by
with-explaining-by n t list a b out old = refl

module _ (explained : Bool) (n : ℕ) (t a b out old : List ℕ) where
  -- The difference of two records by an order of links, with its reasons if `explained`.
  abbrev parting_by : (Link ℕ → Link ℕ → Bool) → Explained
  parting_by earlier = with_reasons_if explained (parting earlier n t a b out) (reasons_of earlier n t a b) out old

  -- If the table is refused, the reply is the refusal 1 to 3.
  pub differing-refused : (fault : TableFault) → table.opened n t ≡ Err fault →
      explained_result (Table fault) out old ≡ differing_with explained n t a b out old
  unfolding differing
  differing-refused fault e =
      refuses-with-reasons explained (Table fault) (reasons_of by_number n t a b) out old refl
      (sym (table-refused (λ r. refusing r out) (parting by_number n t a b out) fault e))

  -- If the table is accepted, the result is the difference by document 01's order of links.
  pub differing-accepted : {earlier : Link ℕ → Link ℕ → Bool} {x : Explained} → table.opened n t ≡ Ok tt → earlier ≡ by_number →
      x ≡ parting_by earlier → x ≡ differing_with explained n t a b out old
  unfolding differing
  differing-accepted e same h =
      h ∙ ap parting_by same ∙
      ap (λ (p : Result). with_reasons_if explained p (reasons_of by_number n t a b) out old)
      (sym (table-accepted (λ r. refusing r out) (parting by_number n t a b out) e))

  -- For a call with a list, the list is tested after the table, and the result is the difference by the list's order of links.
  module _ (list : List ℕ) where
    pub differing-by-refused : (fault : TableFault) → table.opened n t ≡ Err fault →
        explained_result (Table fault) out old ≡ differing_by_with explained n t list a b out old
    differing-by-refused fault e =
        refuses-with-reasons explained (Table fault) (reasons_of (by_reading list) n t a b) out old refl
        (table-before-list (differing-checked n t list a b out) fault e)

    module _ (opens : table.opened n t ≡ Ok tt) where
      pub differing-by-list : is_reading_order list ≡ false →
          explained_result ReadingOrder out old ≡ differing_by_with explained n t list a b out old
      differing-by-list e =
          refuses-with-reasons explained ReadingOrder (reasons_of (by_reading list) n t a b) out old refl
          (list-refused (differing-checked n t list a b out) opens e)

      pub differing-by-accepted : {earlier : Link ℕ → Link ℕ → Bool} {x : Explained} → is_reading_order list ≡ true → earlier ≡ by_reading list →
          x ≡ parting_by earlier → x ≡ differing_by_with explained n t list a b out old
      differing-by-accepted listed same h =
          h ∙ ap parting_by same ∙
          ap (λ (p : Result). with_reasons_if explained p (reasons_of (by_reading list) n t a b) out old)
          (list-passed (differing-checked n t list a b out) opens listed)
