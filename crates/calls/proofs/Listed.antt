-- A call with a list checks the table, then the list. The promises of its parts give the reply of the call.
use mathlib.Core.Path.{◌≡◌, refl, sym, ◌∙◌, ap}
use mathlib.Core.Bool.{Bool, true, false, cond}
use mathlib.Core.List.{List}
use mathlib.Core.Logic.{◌↔◌}
use Prim.Native.Nat.{ℕ}
use Rattle.acceptance.specs.declared.TableFault.{TableFault}
use Rattle.acceptance.specs.Reply.{TableAnswer}
use Rattle.std.specs.Prelude.{Ok, Err}
use Rattle.acceptance.specs.Reply as table
use Rattle.graphs.specs.Difference.{by_reading}
use Rattle.link_orders.specs.LinkOrders.{is_reading_order}
use Rattle.record.specs.Appropriate.{list_accepted, reading_appropriate}
use Rattle.replies.specs.Replies.{Reply}
use Rattle.replies.specs.Replies.{Table, TypeList, ReadingOrder}
use Rattle.replies.specs.Reply.{Result, refusing}
use Rattle.pairs.specs.Pair.{read_both}
use Rattle.engine.specs.Rewriting.{rewritten}
use Rattle.engine.specs.Generalizing.{generalized}
use Rattle.calls.specs.Calls.{checked_list, differing_by}
use Rattle.engine.specs.Unifying.{unified_rows}
use Rattle.engine.specs.Differing.{parting}
use Rattle.calls.specs.Appropriate.{rewriting_appropriate, generalizing_appropriate, unifying_appropriate}
use Rattle.calls.proofs.Tables.{table-refused, table-accepted}

-- A call checks the table, then the list, and then goes on with `next`.
pub record Checks (n : ℕ) (t : List ℕ) (listed : Bool) (wrong : Reply) (out : List ℕ) (call next : Result) : Type 0 where
  pub is : call ≡ checked_list n t listed wrong out next

module _ {n : ℕ} {t : List ℕ} {listed : Bool} {wrong : Reply} {out : List ℕ} {call next : Result}
    (checks : Checks n t listed wrong out call next) where
  -- If the table is refused, the reply is the refusal 1 to 3.
  pub table-before-list : (fault : TableFault) → table.opened n t ≡ Err fault → refusing (Table fault) out ≡ call
  table-before-list fault e = sym (checks.is ∙ table-refused (λ r. refusing r out) (cond listed next (refusing wrong out)) fault e)

  module _ (opens : table.opened n t ≡ Ok tt) where
    over-table : call ≡ cond listed next (refusing wrong out)
    over-table = checks.is ∙ table-accepted (λ r. refusing r out) (cond listed next (refusing wrong out)) opens

    -- If the list is not accepted, the reply is the refusal of the list.
    pub list-refused : listed ≡ false → refusing wrong out ≡ call
    list-refused e = sym (over-table ∙ ap (λ (b : Bool). cond b next (refusing wrong out)) e)

    pub list-passed : listed ≡ true → next ≡ call
    list-passed e = sym (over-table ∙ ap (λ (b : Bool). cond b next (refusing wrong out)) e)

  -- The reply is the list's refusal exactly if the table is accepted and the list is not. This holds if neither a table's refusal nor `next` has
  -- that reply.
  pub list-exact : ((fault : TableFault) → Table fault ≡ wrong → ⊥) → (next.reply ≡ wrong → ⊥) →
      (call.reply ≡ wrong) ↔ ((table.opened n t ≡ Ok tt) × (listed ≡ false))
  list-exact other never = (
    λ q. go q (table.opened n t) refl,
    λ (opens, e). ap (λ (r : Result). r.reply) (sym (list-refused opens e)),
  )
    where
      list-tested : call.reply ≡ wrong → (opens : table.opened n t ≡ Ok tt) → (b : Bool) → listed ≡ b →
          (table.opened n t ≡ Ok tt) × (listed ≡ false)
      list-tested q opens true e = absurd (never (ap (λ (r : Result). r.reply) (list-passed opens e) ∙ q))
      list-tested q opens false e = (opens, e)

      go : call.reply ≡ wrong → (o : TableAnswer) → table.opened n t ≡ o → (table.opened n t ≡ Ok tt) × (listed ≡ false)
      go q (Err fault) e = absurd (other fault (ap (λ (r : Result). r.reply) (table-before-list fault e) ∙ q))
      go q (Ok tt) e = list-tested q e listed refl

-- The calls with a list of types for features.
module _ (n : ℕ) (t list out : List ℕ) where
  pub rewriting-checked : (bytes : List ℕ) →
      Checks n t (list_accepted n list) TypeList out (rewriting_appropriate n t list bytes out) (rewritten (reading_appropriate n t list bytes) out)
  unfolding rewriting_appropriate
  rewriting-checked bytes = record { is = refl }

  pub generalizing-checked : (a b : List ℕ) →
      Checks n t (list_accepted n list) TypeList out (generalizing_appropriate n t list a b out)
      (read_both (λ r. refusing r out) (reading_appropriate n t list a) (reading_appropriate n t list b) (generalized n t out))
  unfolding generalizing_appropriate
  generalizing-checked a b = record { is = refl }

  pub unifying-checked : (a b : List ℕ) →
      Checks n t (list_accepted n list) TypeList out (unifying_appropriate n t list a b out)
      (read_both (λ r. refusing r out) (reading_appropriate n t list a) (reading_appropriate n t list b) (unified_rows n t out))
  unfolding unifying_appropriate
  unifying-checked a b = record { is = refl }

-- The difference with a list of features.
pub differing-checked : (n : ℕ) (t list a b out : List ℕ) →
    Checks n t (is_reading_order list) ReadingOrder out (differing_by n t list a b out) (parting (by_reading list) n t a b out)
unfolding differing_by
differing-checked n t list a b out = record { is = refl }
