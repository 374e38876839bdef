-- Over a table that admits differences every node has a wanted label, whose type is the residual. So the difference is that by residuals.
use mathlib.Core.Path.{◌≡◌, refl, sym, ◌∙◌, ap, fun_ext}
use mathlib.Core.Bool.{Bool, true, false, cond}
use mathlib.Core.List.{List}
use mathlib.Core.Option.{Option, map, get_or}
use Prim.Native.Nat.{ℕ}
use native.Mathlib.Omega.{arith}
use lib.Dec.{eqb}
use lib.ListN.{length}
use Rattle.graphs.specs.Graph.{Below}
use Rattle.graphs.specs.Rows.{Row, from}
use Rattle.graphs.specs.Number.{canonical}
use Rattle.graphs.specs.Order.{subsumes}
use Rattle.graphs.specs.Difference.{by_number, meet_over, difference}
use Rattle.lattice.specs.Label.{Label, no_label}
use Rattle.std.specs.Prelude.{Ok, Err}
use Rattle.lattice.specs.Table as table
use Rattle.acceptance.specs.Reply.{opened, TableAnswer}
use Rattle.lattice.specs.Labels.{table_labels, wanted_range, wanted_label}
use Rattle.lattice.proofs.Every.{every-all}
use Rattle.lattice.proofs.Lawful.{inside}
use Rattle.lattice.proofs.Laws.{zero-type, residual-exists, wanted-residual}
use Rattle.acceptance.proofs.Acceptance.{opened-accepted}
use Rattle.encoder.specs.Encode.{encoded}
use Rattle.encode.specs.Encode.{Outcome, written_out}
use Rattle.record.specs.Read.{Reading, refused, accepted, graph_of_rows, reading}
use Rattle.record.proofs.Accepted.{Rules, accepted-rules, rules-of-any-size, rules-types, rules-fit}
use Rattle.record.proofs.Theorems.{written-reads}
use Rattle.graphs.proofs.Lists.{tells-eqb}
use Rattle.difference.specs.Promise.{wanted_along, all_wanted_along, difference_along}
use Rattle.replies.specs.Replies.{Reply}
use Rattle.replies.specs.Replies.{NotBelow, NoWantedType}
use Rattle.replies.specs.Reply.{Result, refusal, result_of, refusing}
use Rattle.calls.specs.Calls.{checked, differing}
use Rattle.pairs.specs.Pair.{read_both}
use Rattle.difference.specs.Difference.{over, wanted_at, all_wanted, difference_rows, differed, numbered, differed_rows}
use Rattle.demands.specs.Before.{residual_label, residual_rows, differed_before, differing_before}
use Rattle.record.proofs.Ordered.{order-test}
use Rattle.pairs.proofs.Readings.{both-same}
use Rattle.engine.proofs.Tables.{label-known}
use Rattle.demands.proofs.Demanded.Combination.{other-refusal}
use Rattle.demands.proofs.Demanded.Wanted.{meet-known, label-below}

module _ (n : ℕ) (t : List ℕ) (ok : table.accepted n t ≡ true) (differ : table.admits n t ≡ true) where
  module _ (g s : List (Row Label)) (general : Rules n g) (specific : Rules n s)
      (below : Below (table_labels n t) (graph_of_rows s) (graph_of_rows g)) where
    abbrev meet_at : ℕ → Label
    meet_at v = meet_over (table_labels n t) eqb (graph_of_rows g) (from 0 (length g)) (over s g) v

    -- The type of a node's wanted label is the residual.
    wanted-is : (v : ℕ) → wanted_at n t s g v ≡ residual_label n t ((graph_of_rows s).label v) (meet_at v)
    unfolding wanted_along wanted_label
    wanted-is v =
        ap (map (wanted_range ((graph_of_rows s).label v) (meet_at v)))
        (wanted-residual n t ok differ ((graph_of_rows s).label v).type (meet_at v).type (label-known (zero-type n t ok) specific v).type
        (meet-known n t ok g s general specific below v).type
        (inside n t ((graph_of_rows s).label v) (meet_at v) (label-below n t ok g s general specific below v)).type)

    admits-wanted : all_wanted n t s g ≡ true
    unfolding all_wanted_along
    admits-wanted =
        every-all (λ v. table.found (wanted_at n t s g v)) (length s) λ v _.
        ap table.found
        (wanted-is v ∙
        ap (map (wanted_range ((graph_of_rows s).label v) (meet_at v)))
        (residual-exists n t ok differ ((graph_of_rows s).label v).type (meet_at v).type (label-known (zero-type n t ok) specific v).type
        (meet-known n t ok g s general specific below v).type).1.is)

    residual-rows : difference_rows by_number n t g s ≡ residual_rows n t g s
    unfolding difference_along residual_rows
    residual-rows =
        ap
        (λ (w : ℕ → Label). difference (table_labels n t) eqb eqb by_number (graph_of_rows s) (from 0 (length s)) (graph_of_rows g) (from 0 (length g))
        (over s g) w)
        (fun_ext λ v. ap (λ (o : Option Label). get_or o no_label) (wanted-is v))

  differed-before : (out : List ℕ) (g s : List (Row Label)) → Rules n g → Rules n s → differed by_number n t out g s ≡ differed_before n t out g s
  unfolding differed differed_before
  differed-before out g s general specific = go lies refl ∙ sym (ap before differ)
    where
      lies : Bool
      lies = subsumes (table_labels n t) eqb eqb (graph_of_rows s) (graph_of_rows g) (length g)

      old : Result
      old = result_of (written_out (canonical eqb (residual_rows n t g s)) out)

      before : Bool → Result
      before x = cond x (cond lies old (refusing NotBelow out)) (refusing NoWantedType out)

      new : Result
      new = result_of (written_out (canonical eqb (difference_rows by_number n t g s)) out)

      go : (x : Bool) → lies ≡ x →
          cond lies (cond (all_wanted n t s g) new (refusing NoWantedType out)) (refusing NotBelow out) ≡
          cond lies old (refusing NotBelow out)
      go false q = rw q
      go true q =
          let below = (order-test n t s g general).0 q in
          rw (q, admits-wanted g s general specific below)
          (ap (λ k. result_of (written_out (canonical eqb k) out)) (residual-rows g s general specific below))

  rows_before : (out : List ℕ) (g s : List (Row Label)) → Rules n g → Rules n s →
      differed_rows by_number n t out g s ≡ differed_before n t out g (numbered (canonical eqb (graph_of_rows s)))
  unfolding differed_rows
  rows_before out g s general specific =
      let (form, fits) = rules-fit n s specific in
      let reads = (written-reads n t eqb tells-eqb (graph_of_rows s) (rules-of-any-size n s specific t) form fits (rules-types n s specific)).0 in
      ap (λ c. differed by_number n t out g (numbered c)) fits ∙
      differed-before out g form general (accepted-rules n (encoded form) form reads) ∙
      sym (ap (λ c. differed_before n t out g (numbered c)) fits)

-- Two calls that agree over an accepted table agree over every table, since a refusal of the table comes first.
checked-same : {X : Type 0} (refuse : Reply → X) (o : TableAnswer) (x y : X) → (o ≡ Ok tt → x ≡ y) → checked refuse o x ≡ checked refuse o y
checked-same refuse (Err fault) x y same = refl
checked-same refuse (Ok tt) x y same = same refl

-- Over a table that admits differences, the call gives what it gives by document 01 without Paper 6, whatever else is handed in.
pub differing-before : (n : ℕ) (t : List ℕ) → table.admits n t ≡ true → (a b out : List ℕ) →
    differing n t a b out ≡ differing_before n t a b out
unfolding differing differing_before
differing-before n t differ a b out =
    checked-same (λ r. refusing r out) (opened n t) _ _ λ opens.
    both-same (accepted-rules n a) (accepted-rules n b) (λ r. refusing r out) (differed_rows by_number n t out)
    (λ g s. differed_before n t out g (numbered (canonical eqb (graph_of_rows s))))
    (rows_before n t (opened-accepted n t (opened n t) refl opens) differ out)

-- 13 is no reply of a call over a table that admits differences
module _ (n : ℕ) (t : List ℕ) (differ : table.admits n t ≡ true) (out : List ℕ) where
  abbrev Other : Result → Type 0
  Other r = r.reply ≡ NoWantedType → ⊥

  before-other : (g s : List (Row Label)) → Other (differed_before n t out g s)
  unfolding differed_before
  before-other g s =
      rw differ
      (go (subsumes (table_labels n t) eqb eqb (graph_of_rows s) (graph_of_rows g) (length g)) (written_out (canonical eqb (residual_rows n t g s)) out))
    where
      go : (lies : Bool) (o : Outcome) → Other (cond lies (result_of o) (refusing NotBelow out))
      go false o e = let z : ◌≡◌ {A = ℕ} 0 1 = cc in omega arith
      go true o e = other-refusal o.answer 13 (ap refusal e) (λ z. omega arith) (λ z. omega arith)

  pub never-unwanted : (a b : List ℕ) → (differing n t a b out).reply ≡ NoWantedType → ⊥
  unfolding differing_before
  never-unwanted a b e =
      table-case (opened n t) (ap (λ (r : Result). r.reply) (sym (differing-before n t differ a b out)) ∙ e)
    where
      next : List (Row Label) → List (Row Label) → Result
      next g s = differed_before n t out g (numbered (canonical eqb (graph_of_rows s)))

      read-case : (o p : Reading) → Other (read_both (λ r. refusing r out) o p next)
      read-case (refused fault) p e = let z : ◌≡◌ {A = ℕ} 0 1 = cc in omega arith
      read-case (accepted g) (refused fault) e = let z : ◌≡◌ {A = ℕ} 0 1 = cc in omega arith
      read-case (accepted g) (accepted s) e = before-other g (numbered (canonical eqb (graph_of_rows s))) e

      table-case : (o : TableAnswer) → Other (checked (λ r. refusing r out) o (read_both (λ r. refusing r out) (reading n a) (reading n b) next))
      table-case (Err fault) e = let z : ◌≡◌ {A = ℕ} 0 1 = cc in omega arith
      table-case (Ok tt) e = read-case (reading n a) (reading n b) e
