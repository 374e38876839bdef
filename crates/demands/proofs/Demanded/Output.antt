-- What the calls leave in the output, whatever is handed in: a refusal leaves the output as it was, and beside a length the first bytes are a
-- record that is accepted when it is read. 11 is no reply of the difference or of rewriting.
use mathlib.Core.Path.{◌≡◌, refl, sym, ◌∙◌, ap, subst}
use mathlib.Core.Bool.{Bool, true, false}
use mathlib.Core.List.{List}
use mathlib.Core.Logic.{inl, inr, ⊎_elim}
use mathlib.Core.Option.{some}
use Prim.Native.Nat.{ℕ, ◌≤◌, ◌<◌}
use native.Mathlib.Omega.{arith}
use lib.Dec.{eqb}
use lib.ListN.{length, take}
use Rattle.graphs.specs.Graph.{Graph, TellsApart, Reached}
use Rattle.graphs.specs.Rows.{Row}
use Rattle.graphs.specs.Difference.{Link, StrictOrder, by_number, by_reading}
use Rattle.graphs.specs.OfRows.{same_pair, same_either}
use Rattle.graphs.proofs.Lists.{tells-eqb}
use Rattle.graphs.proofs.Difference.ByNumber.{by-number-order}
use Rattle.graphs.proofs.Difference.ByReading.{by-reading-order}
use Rattle.lattice.specs.Label.{Label}
use Rattle.acceptance.specs.declared.TableFault.{TableFault}
use Rattle.acceptance.specs.Reply.{TableAnswer}
use Rattle.std.specs.Prelude.{Ok, Err}
use Rattle.lattice.specs.Table as types
use Rattle.acceptance.specs.Reply as table
use Rattle.acceptance.proofs.Acceptance.{opened-accepted}
use Rattle.lattice.specs.Labels.{OfAnySize}
use Rattle.encoder.specs.Encode.{encoded}
use Rattle.encoder.proofs.Lengths.{longest}
use Rattle.record.specs.declared.GraphFault.{GraphFault}
use Rattle.record.specs.Read.{Reading, refused, accepted, reading, graph_number, graph_of_rows}
use Rattle.record.proofs.Nodes.{few-nodes, few-links}
use Rattle.record.proofs.Accepted.{rules-linked, accepted-rules}
use Rattle.record.proofs.Rewritten.{written-injective, form-again}
use Rattle.record.proofs.Theorems.{accepted-of-any-size, accepted-types}
use Rattle.link_orders.specs.LinkOrders.{is_reading_order}
use Rattle.generalize.proofs.Sides.{tells-pair}
use Rattle.replies.specs.declared.Side.{Side}
use Rattle.replies.specs.declared.Side.TheVariants.{First, Second}
use Rattle.replies.specs.Replies.{Reply}
use Rattle.replies.specs.Replies as replies
use Rattle.replies.specs.Reply.{Result, refusal, refusing}
use Rattle.calls.specs.Calls.{checked, checked_list, rewriting, generalizing, unifying, differing, differing_by}
use Rattle.pairs.specs.Pair.{read_both}
use Rattle.engine.specs.Rewriting.{rewritten}
use Rattle.engine.specs.Generalizing.{generalized}
use Rattle.engine.specs.Unifying.{unified_rows}
use Rattle.difference.specs.Difference.{differed_rows}
use Rattle.demands.specs.Demand.{Given, Leaves, Large, common, remainder}
use Rattle.demands.proofs.Results.{result_for, result-writes, seven-bits}
use Rattle.demands.proofs.Demanded.CommonPart.{common-part-exists}
use Rattle.demands.proofs.Demanded.Combination.{refused-cycle, refused-clash, written, tells-either, combination-told}
use Rattle.demands.proofs.Demanded.Combination as Combined
use Rattle.demands.proofs.Demanded.Difference.{
  not-wanted,
  not-below,
  differs,
  difference-told,
  remainder-result,
  remainder-restores,
  remainder-small,
}
use Rattle.demands.proofs.Demanded.Difference as Differed

module _ (n : ℕ) (out : List ℕ) where
  -- The record beside a length is accepted, so it is no longer than the longest record.
  pub length-bounded : (r : Result) → Leaves n out r → (l : ℕ) → r.reply ≡ replies.Length l → l ≤ 4854
  length-bounded r leaves l q =
      let record_is = leaves.holds l q in
      let rules = accepted-rules n (take l r.output) record_is.form record_is.reads in
      omega (arith, leaves.length-is l q, ap length record_is.bytes-are, longest record_is.form rules.short rules.links)

  pub refusing-leaves : (r : Reply) (k : ℕ) → refusal r ≡ some k → Leaves n out (refusing r out)
  refusing-leaves r k e =
      record {
        refused = λ _ _. refl;
        holds = λ l q. absurd (none l q);
        length-is = λ l q. absurd (none l q);
        others = λ l q. absurd (none l q);
      }
    where
      none : (l : ℕ) → r ≡ replies.Length l → ⊥
      none l q = let z : ◌≡◌ {A = ℕ} 0 1 = cc (e, ap refusal q) in omega arith

  graph-leaves : (t : List ℕ) {C : Type 0} (same : C → C → Bool) → TellsApart same → (k : Graph Label C) → OfAnySize n t k →
      ((v : C) → Reached k v → (k.label v).type < 128) → Leaves n out (result_for same k out)
  graph-leaves t same tells k size types =
      let writes = result-writes n t same tells k size types out in
      record {
        refused = λ i q.
            ⊎_elim (λ e. writes.unchanged (inl e))
            (λ more.
            ⊎_elim (λ e. writes.unchanged (inr e))
            (λ (l, e). let z : ◌≡◌ {A = ℕ} 0 1 = cc (q, ap refusal e) in absurd (omega arith)) more)
            writes.replies;
        holds = λ l q.
            let wrote = writes.wrote l q in
            record {
              form = wrote.form;
              reads = wrote.reads;
              own = form-again n t same tells k size wrote.form wrote.fits;
              bytes-are = wrote.bytes;
            };
        length-is = λ l q.
            let wrote = writes.wrote l q in
            let (_, (form, e, (is, _))) = (writes.fits l).0 q in
            ap length wrote.bytes ∙ ap (λ (rows : List (Row Label)). length (encoded rows)) (written-injective (sym wrote.fits ∙ e)) ∙ is;
        others = λ l q. (writes.wrote l q).others;
      }

  -- A property holds for a call's result if it holds for every refusal of what is handed in and for the results of accepted records over an
  -- accepted table.
  module _ (t : List ℕ) (P : Result → Type 0) (table-refused : (fault : TableFault) → P (refusing (replies.Table fault) out))
      (graph-refused : (fault : GraphFault) (side : Side) → P (refusing (replies.Graph fault side) out)) where
    pub of_one : (bytes : List ℕ) →
        ((rows : List (Row Label)) → reading n bytes ≡ accepted rows → P (result_for eqb (graph_of_rows rows) out)) →
        P (rewriting n t bytes out)
    unfolding rewriting
    of_one bytes next = go (table.opened n t)
      where
        read : (o : Reading) → reading n bytes ≡ o → P (rewritten o out)
        read (refused fault) e = graph-refused fault First
        read (accepted rows) e = next rows e

        go : (o : TableAnswer) → P (checked (λ r. refusing r out) o (rewritten (reading n bytes) out))
        go (Err fault) = table-refused fault
        go (Ok tt) = read (reading n bytes) refl

    pub of_two : (a b : List ℕ) (next : List (Row Label) → List (Row Label) → Result) → ((g h : List (Row Label)) → Given n t a b g h → P (next g h)) →
        P (checked (λ r. refusing r out) (table.opened n t) (read_both (λ r. refusing r out) (reading n a) (reading n b) next))
    of_two a b next holds = go (table.opened n t) refl
      where
        read : table.opened n t ≡ Ok tt → (o i : Reading) → reading n a ≡ o → reading n b ≡ i →
            P (read_both (λ r. refusing r out) o i next)
        read e (refused fault) i x y = graph-refused fault First
        read e (accepted g) (refused fault) x y = graph-refused fault Second
        read e (accepted g) (accepted h) x y = holds g h (record { opens = e; first = x; second = y })

        go : (o : TableAnswer) → table.opened n t ≡ o →
            P (checked (λ r. refusing r out) o (read_both (λ r. refusing r out) (reading n a) (reading n b) next))
        go (Err fault) e = table-refused fault
        go (Ok tt) e = read e (reading n a) (reading n b) refl refl

    -- For a call with a list, the property must also hold for the refusal of the list.
    pub of-two-listed : (listed : Bool) (wrong : Reply) → P (refusing wrong out) → (a b : List ℕ)
        (next : List (Row Label) → List (Row Label) → Result) → ((g h : List (Row Label)) → Given n t a b g h → P (next g h)) →
        P (checked_list n t listed wrong out (read_both (λ r. refusing r out) (reading n a) (reading n b) next))
    of-two-listed true wrong refuses a b next holds = of_two a b next holds
    of-two-listed false wrong refuses a b next holds = go (table.opened n t)
      where
        go : (o : TableAnswer) → P (checked (λ r. refusing r out) o (refusing wrong out))
        go (Err fault) = table-refused fault
        go (Ok tt) = refuses

-- What a call goes on with, for accepted records over an accepted table.
module _ (n : ℕ) (t a b : List ℕ) {g h : List (Row Label)} (given : Given n t a b g h) (out : List ℕ) where
  unifying-next : unifying n t a b out ≡ unified_rows n t out g h
  unfolding unifying
  unifying-next = rw (given.opens, given.first, given.second)

-- the table is accepted
accepts : {n : ℕ} {t a b : List ℕ} {g h : List (Row Label)} → Given n t a b g h → types.accepted n t ≡ true
accepts {n} {t} given = opened-accepted n t (table.opened n t) refl given.opens

-- Every refusal leaves the output as it was, and beside a length the first bytes are a record.
module _ (n : ℕ) (t : List ℕ) (out : List ℕ) where
  table-leaves : (fault : TableFault) → Leaves n out (refusing (replies.Table fault) out)
  table-leaves fault = refusing-leaves n out (replies.Table fault) (table.table_number fault) refl

  graph-fault-leaves : (fault : GraphFault) (side : Side) → Leaves n out (refusing (replies.Graph fault side) out)
  graph-fault-leaves fault side = refusing-leaves n out (replies.Graph fault side) (graph_number fault) refl

  pub rewriting-leaves : (bytes : List ℕ) → Leaves n out (rewriting n t bytes out)
  rewriting-leaves bytes =
      of_one n out t (Leaves n out) table-leaves graph-fault-leaves bytes
      (λ rows e. graph-leaves n out t eqb tells-eqb (graph_of_rows rows) (accepted-of-any-size n bytes rows e t) (accepted-types n bytes rows e))

  module _ (a b : List ℕ) where
    pub generalizing-leaves : Leaves n out (generalizing n t a b out)
    unfolding generalizing generalized
    generalizing-leaves =
        of_two n out t (Leaves n out) table-leaves graph-fault-leaves a b (generalized n t out)
        (λ g h given.
        let size = (common-part-exists n t a b g h given).of-any-size in
        graph-leaves n out t same_pair tells-pair (common n t g h) size (seven-bits n t (accepts given) (common n t g h) size))

    pub unifying-leaves : Leaves n out (unifying n t a b out)
    unfolding unifying
    unifying-leaves =
        of_two n out t (Leaves n out) table-leaves graph-fault-leaves a b (unified_rows n t out)
        (λ g h given. subst (Leaves n out) (unifying-next n t a b given out) (leaves g h given (combination-told n t a b g h given out)))
      where
        leaves : (g h : List (Row Label)) (given : Given n t a b g h) → Combined.Told n t a b g h given out → Leaves n out (unifying n t a b out)
        leaves g h given (refused-cycle e) = subst (Leaves n out) (sym e) (refusing-leaves n out replies.Cycle 9 refl)
        leaves g h given (refused-clash e) = subst (Leaves n out) (sym e) (refusing-leaves n out replies.Clash 10 refl)
        leaves g h given (written u is best e) =
            subst (Leaves n out) (sym e) (graph-leaves n out t same_either tells-either u best.of-any-size (seven-bits n t (accepts given) u best.of-any-size))

    -- The difference of accepted records, by an order of links, leaves the output so.
    differed-leaves : {earlier : Link ℕ → Link ℕ → Bool} → StrictOrder earlier → (g s : List (Row Label)) → Given n t a b g s →
        Leaves n out (differed_rows earlier n t out g s)
    differed-leaves {earlier} strict g s given = go (difference-told n t a b g s given strict parts)
      where
        parts : Differed.Parts earlier n t out g s (differed_rows earlier n t out g s)
        parts = record { is = refl }

        go : Differed.Told n t a b g s given strict parts → Leaves n out (differed_rows earlier n t out g s)
        go (not-wanted _ _ e) = subst (Leaves n out) (sym e) (refusing-leaves n out replies.NoWantedType 13 refl)
        go (not-below e) = subst (Leaves n out) (sym e) (refusing-leaves n out replies.NotBelow 12 refl)
        go (differs below wants) =
            subst (Leaves n out) (sym (remainder-result n t a b g s given strict parts below wants))
            (let size = (remainder-restores n t a b g s given strict below wants).of-any-size in
            graph-leaves n out t eqb tells-eqb (remainder earlier n t g s) size (seven-bits n t (accepts given) (remainder earlier n t g s) size))

    pub differing-leaves : Leaves n out (differing n t a b out)
    unfolding differing
    differing-leaves =
        of_two n out t (Leaves n out) table-leaves graph-fault-leaves a b (differed_rows by_number n t out) (differed-leaves by-number-order)

    pub differing-by-leaves : (list : List ℕ) → Leaves n out (differing_by n t list a b out)
    unfolding differing_by
    differing-by-leaves list =
        of-two-listed n out t (Leaves n out) table-leaves graph-fault-leaves (is_reading_order list) replies.ReadingOrder
        (refusing-leaves n out replies.ReadingOrder 19 refl) a b (differed_rows (by_reading list) n t out) (differed-leaves (by-reading-order list))

-- 11 does not occur where the result is no larger than an accepted record.
abbrev NotLarge : Result → Type 0
NotLarge r = r.reply ≡ replies.TooLarge → ⊥

module _ (n : ℕ) (t : List ℕ) (out : List ℕ) where
  table-small : (fault : TableFault) → NotLarge (refusing (replies.Table fault) out)
  table-small fault e = let z : ◌≡◌ {A = ℕ} 0 1 = cc in omega arith

  graph-fault-small : (fault : GraphFault) (side : Side) → NotLarge (refusing (replies.Graph fault side) out)
  graph-fault-small fault side e = let z : ◌≡◌ {A = ℕ} 0 1 = cc in omega arith

  graph-small : (k : Graph Label ℕ) → OfAnySize n t k → ((v : ℕ) → Reached k v → (k.label v).type < 128) → (Large k → ⊥) →
      NotLarge (result_for eqb k out)
  graph-small k size types small e = small ((result-writes n t eqb tells-eqb k size types out).too_large.0 e)

  pub rewriting-small : (bytes : List ℕ) → (rewriting n t bytes out).reply ≡ replies.TooLarge → ⊥
  rewriting-small bytes =
      of_one n out t NotLarge table-small graph-fault-small bytes
      (λ rows e.
      let rules = accepted-rules n bytes rows e in
      graph-small (graph_of_rows rows) (accepted-of-any-size n bytes rows e t) (accepted-types n bytes rows e)
      (⊎_elim (few-nodes rows (rules-linked rules) rules.short) (few-links rows rules.links)))

  module _ (a b : List ℕ) where
    differed-small : {earlier : Link ℕ → Link ℕ → Bool} → StrictOrder earlier → (g s : List (Row Label)) → Given n t a b g s →
        NotLarge (differed_rows earlier n t out g s)
    differed-small {earlier} strict g s given = go (difference-told n t a b g s given strict parts)
      where
        parts : Differed.Parts earlier n t out g s (differed_rows earlier n t out g s)
        parts = record { is = refl }

        go : Differed.Told n t a b g s given strict parts → NotLarge (differed_rows earlier n t out g s)
        go (not-wanted _ _ e) = subst NotLarge (sym e) (λ q. let z : ◌≡◌ {A = ℕ} 0 1 = cc in omega arith)
        go (not-below e) = subst NotLarge (sym e) (λ q. let z : ◌≡◌ {A = ℕ} 0 1 = cc in omega arith)
        go (differs below wants) =
            subst NotLarge (sym (remainder-result n t a b g s given strict parts below wants))
            (let size = (remainder-restores n t a b g s given strict below wants).of-any-size in
            graph-small (remainder earlier n t g s) size (seven-bits n t (accepts given) (remainder earlier n t g s) size)
            (remainder-small n t a b g s given strict below wants))

    pub differing-small : (differing n t a b out).reply ≡ replies.TooLarge → ⊥
    unfolding differing
    differing-small =
        of_two n out t NotLarge table-small graph-fault-small a b (differed_rows by_number n t out) (differed-small by-number-order)

    pub differing-by-small : (list : List ℕ) → (differing_by n t list a b out).reply ≡ replies.TooLarge → ⊥
    unfolding differing_by
    differing-by-small list =
        of-two-listed n out t NotLarge table-small graph-fault-small (is_reading_order list) replies.ReadingOrder
        (λ q. let z : ◌≡◌ {A = ℕ} 0 1 = cc in omega arith) a b (differed_rows (by_reading list) n t out) (differed-small (by-reading-order list))
