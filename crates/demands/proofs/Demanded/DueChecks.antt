-- The checks of the table, of a list and of the graphs come before what the graphs give: each refusal is given exactly where it is due, whatever
-- the call goes on with.
use mathlib.Core.Path.{◌≡◌, refl, sym, ◌∙◌, ap, ap₂, subst}
use mathlib.Core.Bool.{Bool, true, false, cond}
use mathlib.Core.List.{List}
use mathlib.Core.Logic.{◌↔◌}
use Prim.Native.Nat.{ℕ}
use Rattle.graphs.specs.Rows.{Row}
use Rattle.graphs.proofs.Search.{true-false, not-true-false}
use Rattle.lattice.specs.Label.{Label}
use Rattle.std.specs.Prelude.{Ok, Err}
use Rattle.acceptance.specs.Reply.{opened, TableAnswer}
use Rattle.record.specs.declared.GraphFault.{GraphFault}
use Rattle.record.specs.declared.GraphFault.TheVariants.{Inappropriate}
use Rattle.record.specs.Read.{Reading, refused, accepted, reading, graph_of_rows}
use Rattle.record.specs.Appropriate.{list_accepted, appropriate, reading_appropriate, Appropriate}
use Rattle.record.proofs.Accepted.{accepted-rules}
use Rattle.record.proofs.Allowed.{list-accepted, list-long, list-entry, refused-appropriate, judged-appropriate}
use Rattle.record.proofs.Obeying.{appropriate-exact}
use Rattle.link_orders.specs.LinkOrders.{is_reading_order, EachOnce}
use Rattle.link_orders.proofs.ReadingOrder.{reading-order}
use Rattle.replies.specs.declared.Side.TheVariants.{First, Second}
use Rattle.replies.specs.Replies.{Reply}
use Rattle.replies.specs.Replies.{Length, Table, Graph as OfGraph, TypeList, ReadingOrder}
use Rattle.replies.specs.Reply.{Result, refusing}
use Rattle.pairs.specs.Pair.{read_both}
use Rattle.calls.specs.Calls.{checked, checked_list, checking}
use Rattle.demands.specs.Demand.{Given}
use Rattle.demands.specs.Due.{CheckDue, LoneDue, PairDue, TypesListed, GraphDue, LoneListedDue, PairListedDue, ByListDue}
use Rattle.demands.specs.Due as due

-- A table alone.
pub check-exact : (n : ℕ) (t : List ℕ) (r : Reply) → (checking n t ≡ r) ↔ CheckDue n t r
unfolding checking
check-exact n t r = (λ e. subst (CheckDue n t) e (go (opened n t) refl), back)
  where
    go : (o : TableAnswer) → opened n t ≡ o → CheckDue n t (checked (λ r. r) o (Length 0))
    go (Err fault) e = due.table fault e
    go (Ok tt) e = due.passes e

    back : {r : Reply} → CheckDue n t r → checked (λ r. r) (opened n t) (Length 0) ≡ r
    back (due.table fault e) = ap (λ (o : TableAnswer). checked (λ r. r) o (Length 0)) e
    back (due.passes e) = ap (λ (o : TableAnswer). checked (λ r. r) o (Length 0)) e

-- A call's result X has a reply, and `refuse` makes a result from a refusal.
module _ {X : Type 0} (reply_in : X → Reply) (refuse : Reply → X) (keeps : (r : Reply) → reply_in (refuse r) ≡ r) (n : ℕ) (t : List ℕ) where
  -- A call with one record: "A lone graph counts as the first." `judge` goes on with what reading the record answers.
  module _ (bytes : List ℕ) (judge : Reading → X) (refuses : (fault : GraphFault) → judge (refused fault) ≡ refuse (OfGraph fault First))
      (Then : List (Row Label) → Reply → Type 0)
      (exact : (rows : List (Row Label)) → opened n t ≡ Ok tt → reading n bytes ≡ accepted rows → (r : Reply) →
      (reply_in (judge (accepted rows)) ≡ r) ↔ Then rows r) where
    abbrev lone : TableAnswer → Reading → X
    lone o x = checked refuse o (judge x)

    first-told : (fault : GraphFault) → reply_in (judge (refused fault)) ≡ OfGraph fault First
    first-told fault = ap reply_in (refuses fault) ∙ keeps (OfGraph fault First)

    lone-due : (o : TableAnswer) (x : Reading) → opened n t ≡ o → reading n bytes ≡ x → LoneDue n t bytes Then (reply_in (lone o x))
    lone-due (Err fault) x i j = subst (LoneDue n t bytes Then) (sym (keeps (Table fault))) (due.table fault i)
    lone-due (Ok tt) (refused fault) i j = subst (LoneDue n t bytes Then) (sym (first-told fault)) (due.graph fault i j)
    lone-due (Ok tt) (accepted rows) i j = due.one rows i j ((exact rows i j (reply_in (judge (accepted rows)))).0 refl)

    lone-replies : {r : Reply} → LoneDue n t bytes Then r → reply_in (lone (opened n t) (reading n bytes)) ≡ r
    lone-replies (due.table fault i) = ap (λ (o : TableAnswer). reply_in (lone o (reading n bytes))) i ∙ keeps (Table fault)
    lone-replies (due.graph fault i j) = ap₂ (λ (o : TableAnswer) (x : Reading). reply_in (lone o x)) i j ∙ first-told fault
    lone-replies {r} (due.one rows i j then) =
        ap₂ (λ (o : TableAnswer) (x : Reading). reply_in (lone o x)) i j ∙ (exact rows i j r).1 then

    pub lone-exact : (r : Reply) → (reply_in (checked refuse (opened n t) (judge (reading n bytes))) ≡ r) ↔ LoneDue n t bytes Then r
    lone-exact r = (λ e. subst (LoneDue n t bytes Then) e (lone-due (opened n t) (reading n bytes) refl refl), lone-replies)

  -- A call with two records that goes on with `next`.
  module _ (a b : List ℕ) (next : List (Row Label) → List (Row Label) → X) (Then : List (Row Label) → List (Row Label) → Reply → Type 0)
      (exact : (s g : List (Row Label)) → Given n t a b s g → (r : Reply) → (reply_in (next s g) ≡ r) ↔ Then s g r) where
    abbrev paired : TableAnswer → Reading → Reading → X
    paired o x y = checked refuse o (read_both refuse x y next)

    pair-due : (o : TableAnswer) (x y : Reading) → opened n t ≡ o → reading n a ≡ x → reading n b ≡ y → PairDue n t a b Then (reply_in (paired o x y))
    pair-due (Err fault) x y i j k = subst (PairDue n t a b Then) (sym (keeps (Table fault))) (due.table fault i)
    pair-due (Ok tt) (refused fault) y i j k = subst (PairDue n t a b Then) (sym (keeps (OfGraph fault First))) (due.first fault i j)
    pair-due (Ok tt) (accepted s) (refused fault) i j k =
        subst (PairDue n t a b Then) (sym (keeps (OfGraph fault Second))) (due.second s fault i j k)
    pair-due (Ok tt) (accepted s) (accepted g) i j k =
        let given : Given n t a b s g = record { opens = i; first = j; second = k } in
        due.both s g given ((exact s g given (reply_in (next s g))).0 refl)

    pair-replies : {r : Reply} → PairDue n t a b Then r → reply_in (paired (opened n t) (reading n a) (reading n b)) ≡ r
    pair-replies (due.table fault i) = ap (λ (o : TableAnswer). reply_in (paired o (reading n a) (reading n b))) i ∙ keeps (Table fault)
    pair-replies (due.first fault i j) =
        ap₂ (λ (o : TableAnswer) (x : Reading). reply_in (paired o x (reading n b))) i j ∙ keeps (OfGraph fault First)
    pair-replies (due.second s fault i j k) =
        ap₂ (λ (o : TableAnswer) (x : Reading). reply_in (paired o x (reading n b))) i j ∙
        ap (λ (y : Reading). reply_in (paired (Ok tt) (accepted s) y)) k ∙ keeps (OfGraph fault Second)
    pair-replies {r} (due.both s g given then) =
        ap₂ (λ (o : TableAnswer) (x : Reading). reply_in (paired o x (reading n b))) given.opens given.first ∙
        ap (λ (y : Reading). reply_in (paired (Ok tt) (accepted s) y)) given.second ∙ (exact s g given r).1 then

    pub pair-exact : (r : Reply) →
        (reply_in (checked refuse (opened n t) (read_both refuse (reading n a) (reading n b) next)) ≡ r) ↔ PairDue n t a b Then r
    pair-exact r = (λ e. subst (PairDue n t a b Then) e (pair-due (opened n t) (reading n a) (reading n b) refl refl refl), pair-replies)

    -- The same over an accepted table, once it is checked.
    pub over-table-exact : opened n t ≡ Ok tt → (r : Reply) →
        (reply_in (read_both refuse (reading n a) (reading n b) next) ≡ r) ↔ PairDue n t a b Then r
    over-table-exact opens r =
        subst (λ (x : X). (reply_in x ≡ r) ↔ PairDue n t a b Then r)
        (ap (λ (o : TableAnswer). paired o (reading n a) (reading n b)) opens) (pair-exact r)

-- Reading a record beside a list of types for features.
module _ (n : ℕ) (t list bytes : List ℕ) where
  pub data BesideDue : Reading → Type 0 where
    not-read : (fault : GraphFault) → GraphDue n t list bytes fault → BesideDue (refused fault)
    obeys : (rows : List (Row Label)) → reading n bytes ≡ accepted rows → Appropriate t list (graph_of_rows rows) → BesideDue (accepted rows)

  judged : (rows : List (Row Label)) → reading n bytes ≡ accepted rows → (b : Bool) → appropriate t list rows ≡ b →
      reading_appropriate n t list bytes ≡ cond b (accepted rows) (refused Inappropriate)
  judged rows reads b e =
      judged-appropriate n t list bytes rows reads ∙ ap (λ (c : Bool). cond c (accepted rows) (refused Inappropriate)) e

  obeying : (rows : List (Row Label)) → reading n bytes ≡ accepted rows → (appropriate t list rows ≡ true) ↔ Appropriate t list (graph_of_rows rows)
  obeying rows reads = appropriate-exact n t list rows (accepted-rules n bytes rows reads)

  pub beside-due : BesideDue (reading_appropriate n t list bytes)
  beside-due = go (reading n bytes) refl
    where
      test : (rows : List (Row Label)) → reading n bytes ≡ accepted rows → (b : Bool) → appropriate t list rows ≡ b →
          BesideDue (cond b (accepted rows) (refused Inappropriate))
      test rows reads true e = obeys rows reads ((obeying rows reads).0 e)
      test rows reads false e =
          not-read Inappropriate (due.forbidden (rows, reads, λ good. true-false ((obeying rows reads).1 good) e))

      go : (x : Reading) → reading n bytes ≡ x → BesideDue (reading_appropriate n t list bytes)
      go (refused fault) e = subst BesideDue (sym (refused-appropriate n t list bytes fault e)) (not-read fault (due.unread fault e))
      go (accepted rows) e =
          subst BesideDue (sym (judged rows e (appropriate t list rows) refl)) (test rows e (appropriate t list rows) refl)

  pub beside-refused : (fault : GraphFault) → GraphDue n t list bytes fault → reading_appropriate n t list bytes ≡ refused fault
  beside-refused _ (due.unread fault e) = refused-appropriate n t list bytes fault e
  beside-refused _ (due.forbidden (rows, reads, never)) =
      judged rows reads false (not-true-false (appropriate t list rows) (λ e. never ((obeying rows reads).0 e)))

  pub beside-accepted : (rows : List (Row Label)) → reading n bytes ≡ accepted rows → Appropriate t list (graph_of_rows rows) →
      reading_appropriate n t list bytes ≡ accepted rows
  beside-accepted rows reads good = judged rows reads true ((obeying rows reads).1 good)

-- The list of types for features.
module _ (n : ℕ) (t list : List ℕ) where
  types-listed : list_accepted n list ≡ true → TypesListed n t list
  types-listed e = record { long = list-long n list e; types = list-entry n list e }

  listed-types : TypesListed n t list → list_accepted n list ≡ true
  listed-types types = list-accepted n list types.long types.types

  not_listed : (TypesListed n t list → ⊥) → list_accepted n list ≡ false
  not_listed none = not-true-false (list_accepted n list) (λ e. none (types-listed e))

  module _ (out : List ℕ) where
    -- A call with a list and one record.
    module _ (bytes : List ℕ) (judge : Reading → Result) (refuses : (fault : GraphFault) → judge (refused fault) ≡ refusing (OfGraph fault First) out)
        (Then : List (Row Label) → Reply → Type 0)
        (exact : (rows : List (Row Label)) → opened n t ≡ Ok tt → reading n bytes ≡ accepted rows → (r : Reply) →
        ((judge (accepted rows)).reply ≡ r) ↔ Then rows r) where
      abbrev alone : TableAnswer → Bool → Reading → Result
      alone o b x = checked (λ r. refusing r out) o (cond b (judge x) (refusing TypeList out))

      alone-due : (o : TableAnswer) (b : Bool) (x : Reading) → opened n t ≡ o → list_accepted n list ≡ b → BesideDue n t list bytes x →
          LoneListedDue n t list bytes Then (alone o b x).reply
      alone-due (Err fault) b x i l j = due.table fault i
      alone-due (Ok tt) false x i l j = due.types i (λ types. true-false (listed-types types) l)
      alone-due (Ok tt) true _ i l (not-read fault d) =
          subst (λ (y : Result). LoneListedDue n t list bytes Then y.reply) (sym (refuses fault))
          (due.graph fault (record { opens = i; listed = types-listed l }) d)
      alone-due (Ok tt) true _ i l (obeys rows reads good) =
          due.one rows (record { opens = i; listed = types-listed l }) reads good ((exact rows i reads (judge (accepted rows)).reply).0 refl)

      alone-is : {b : Bool} {x : Reading} → opened n t ≡ Ok tt → list_accepted n list ≡ b → reading_appropriate n t list bytes ≡ x →
          alone (opened n t) (list_accepted n list) (reading_appropriate n t list bytes) ≡ cond b (judge x) (refusing TypeList out)
      alone-is i l j =
          ap (λ (o : TableAnswer). alone o (list_accepted n list) (reading_appropriate n t list bytes)) i ∙ ap₂ (λ (b : Bool) (x : Reading). alone (Ok tt) b x) l j

      alone-replies : {r : Reply} → LoneListedDue n t list bytes Then r →
          (alone (opened n t) (list_accepted n list) (reading_appropriate n t list bytes)).reply ≡ r
      alone-replies (due.table fault i) = ap (λ (o : TableAnswer). (alone o (list_accepted n list) (reading_appropriate n t list bytes)).reply) i
      alone-replies (due.types i none) = ap (λ (y : Result). y.reply) (alone-is i (not_listed none) refl)
      alone-replies (due.graph fault listing d) =
          ap (λ (y : Result). y.reply)
          (alone-is listing.opens (listed-types listing.listed) (beside-refused n t list bytes fault d) ∙ refuses fault)
      alone-replies {r} (due.one rows listing reads good then) =
          ap (λ (y : Result). y.reply) (alone-is listing.opens (listed-types listing.listed) (beside-accepted n t list bytes rows reads good)) ∙
          (exact rows listing.opens reads r).1 then

      pub lone-listed-exact : (r : Reply) →
          ((checked_list n t (list_accepted n list) TypeList out (judge (reading_appropriate n t list bytes))).reply ≡ r) ↔ LoneListedDue n t list bytes Then r
      lone-listed-exact r = (
        λ e. subst (LoneListedDue n t list bytes Then) e
            (alone-due (opened n t) (list_accepted n list) (reading_appropriate n t list bytes) refl refl (beside-due n t list bytes)),
        alone-replies,
      )

    -- A call with a list and two records.
    module _ (a b : List ℕ) (next : List (Row Label) → List (Row Label) → Result) (Then : List (Row Label) → List (Row Label) → Reply → Type 0)
        (exact : (s g : List (Row Label)) → Given n t a b s g → (r : Reply) → ((next s g).reply ≡ r) ↔ Then s g r) where
      abbrev together : TableAnswer → Bool → Reading → Reading → Result
      together o l x y = checked (λ r. refusing r out) o (cond l (read_both (λ r. refusing r out) x y next) (refusing TypeList out))

      together-due : (o : TableAnswer) (l : Bool) (x y : Reading) → opened n t ≡ o → list_accepted n list ≡ l → BesideDue n t list a x →
          BesideDue n t list b y → PairListedDue n t list a b Then (together o l x y).reply
      together-due (Err fault) l x y i e j k = due.table fault i
      together-due (Ok tt) false x y i e j k = due.types i (λ types. true-false (listed-types types) e)
      together-due (Ok tt) true _ y i e (not-read fault d) k = due.first fault (record { opens = i; listed = types-listed e }) d
      together-due (Ok tt) true _ _ i e (obeys s reads good) (not-read fault d) =
          due.second fault (record { opens = i; listed = types-listed e }) (s, reads, good) d
      together-due (Ok tt) true _ _ i e (obeys s reads good) (obeys g reads' good') =
          let given : Given n t a b s g = record { opens = i; first = reads; second = reads' } in
          due.both s g (types-listed e) given good good' ((exact s g given (next s g).reply).0 refl)

      together-is : {l : Bool} {x y : Reading} → opened n t ≡ Ok tt → list_accepted n list ≡ l → reading_appropriate n t list a ≡ x →
          reading_appropriate n t list b ≡ y →
          together (opened n t) (list_accepted n list) (reading_appropriate n t list a) (reading_appropriate n t list b) ≡
          cond l (read_both (λ r. refusing r out) x y next) (refusing TypeList out)
      together-is {l} i e j k =
          ap₂ (λ (o : TableAnswer) (m : Bool). together o m (reading_appropriate n t list a) (reading_appropriate n t list b)) i e ∙
          ap₂ (λ (x y : Reading). together (Ok tt) l x y) j k

      together-replies : {r : Reply} → PairListedDue n t list a b Then r →
          (together (opened n t) (list_accepted n list) (reading_appropriate n t list a) (reading_appropriate n t list b)).reply ≡ r
      together-replies (due.table fault i) =
          ap (λ (o : TableAnswer). (together o (list_accepted n list) (reading_appropriate n t list a) (reading_appropriate n t list b)).reply) i
      together-replies (due.types i none) = ap (λ (y : Result). y.reply) (together-is i (not_listed none) refl refl)
      together-replies (due.first fault listing d) =
          ap (λ (y : Result). y.reply)
          (together-is listing.opens (listed-types listing.listed) (beside-refused n t list a fault d) refl)
      together-replies (due.second fault listing (s, reads, good) d) =
          ap (λ (y : Result). y.reply)
          (together-is listing.opens (listed-types listing.listed) (beside-accepted n t list a s reads good) (beside-refused n t list b fault d))
      together-replies {r} (due.both s g types given good good' then) =
          ap (λ (y : Result). y.reply)
          (together-is given.opens (listed-types types) (beside-accepted n t list a s given.first good)
          (beside-accepted n t list b g given.second good')) ∙
          (exact s g given r).1 then

      pub pair-listed-exact : (r : Reply) →
          ((checked_list n t (list_accepted n list) TypeList out
          (read_both (λ r. refusing r out) (reading_appropriate n t list a) (reading_appropriate n t list b) next)).reply ≡ r) ↔
          PairListedDue n t list a b Then r
      pair-listed-exact r = (
        λ e. subst (PairListedDue n t list a b Then) e
            (together-due (opened n t) (list_accepted n list) (reading_appropriate n t list a) (reading_appropriate n t list b) refl refl
            (beside-due n t list a) (beside-due n t list b)),
        together-replies,
      )

-- A call with a reading order goes on with `next`.
module _ {X : Type 0} (reply_in : X → Reply) (refuse : Reply → X) (keeps : (r : Reply) → reply_in (refuse r) ≡ r) (n : ℕ) (t list : List ℕ) (next : X)
    (Rest : Reply → Type 0) (exact : opened n t ≡ Ok tt → EachOnce list → (r : Reply) → (reply_in next ≡ r) ↔ Rest r) where
  abbrev ranked : TableAnswer → Bool → X
  ranked o l = checked refuse o (cond l next (refuse ReadingOrder))

  ranked-due : (o : TableAnswer) (l : Bool) → opened n t ≡ o → is_reading_order list ≡ l → ByListDue n t list Rest (reply_in (ranked o l))
  ranked-due (Err fault) l i e = subst (ByListDue n t list Rest) (sym (keeps (Table fault))) (due.table fault i)
  ranked-due (Ok tt) false i e =
      subst (ByListDue n t list Rest) (sym (keeps ReadingOrder)) (due.order i (λ once. true-false ((reading-order list).1 once) e))
  ranked-due (Ok tt) true i e =
      let once : EachOnce list = (reading-order list).0 e in
      due.rest i once ((exact i once (reply_in next)).0 refl)

  ranked-replies : {r : Reply} → ByListDue n t list Rest r → reply_in (ranked (opened n t) (is_reading_order list)) ≡ r
  ranked-replies (due.table fault i) = ap (λ (o : TableAnswer). reply_in (ranked o (is_reading_order list))) i ∙ keeps (Table fault)
  ranked-replies (due.order i never) =
      ap₂ (λ (o : TableAnswer) (l : Bool). reply_in (ranked o l)) i (not-true-false (is_reading_order list) (λ e. never ((reading-order list).0 e))) ∙
      keeps ReadingOrder
  ranked-replies {r} (due.rest i once then) =
      ap₂ (λ (o : TableAnswer) (l : Bool). reply_in (ranked o l)) i ((reading-order list).1 once) ∙ (exact i once r).1 then

  pub by-list-exact : (r : Reply) →
      (reply_in (checked refuse (opened n t) (cond (is_reading_order list) next (refuse ReadingOrder))) ≡ r) ↔ ByListDue n t list Rest r
  by-list-exact r = (λ e. subst (ByListDue n t list Rest) e (ranked-due (opened n t) (is_reading_order list) refl refl), ranked-replies)
