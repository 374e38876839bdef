-- What the reasons for the links of a difference tell of the two graphs, and how the call with reasons replies beside the plain one (document 02,
-- Paper 13).
use mathlib.Core.Path.{◌≡◌, refl, sym, ◌∙◌, ap, subst}
use mathlib.Core.Bool.{Bool, true, false, cond}
use mathlib.Core.List.{List, [], ◌∷◌, ◌++◌}
use mathlib.Core.Logic.{◌↔◌}
use mathlib.Core.Option
use mathlib.Core.Option.{Option, none, some}
use Prim.Native.Nat.{ℕ, ◌≤◌, ◌<◌}
use native.Mathlib.Omega.{arith}
use borrow.Author.Tests.{le-leb, lt-leb, leb-true, leb-false}
use lib.Dec.{eqb, leb}
use lib.ListN.{length, get_or, take, drop, get_or-append}
use Rattle.graphs.specs.Graph.{Graph, Reached, Below}
use Rattle.graphs.specs.Map.{Exact}
use Rattle.graphs.specs.Rows.{Row}
use Rattle.graphs.specs.Number.{canonical, written}
use Rattle.graphs.specs.Large.{links_in}
use Rattle.graphs.specs.Difference.{Link, StrictOrder, by_number, by_reading}
use Rattle.graphs.specs.Reasons.{along_links, written_order}
use Rattle.graphs.proofs.Walk.{some-injective, none-some, walk-snoc}
use Rattle.graphs.proofs.Lists.{tells-eqb}
use Rattle.graphs.proofs.Reasons.{written-length, written-value}
use Rattle.graphs.proofs.Below.{exact_same}
use Rattle.graphs.proofs.Difference.Reasons.{reason-tells}
use Rattle.graphs.proofs.Difference.Renamed.{walk-to, walk_from, reason-from}
use Rattle.lattice.specs.Label.{Label, no_label}
use Rattle.lattice.specs.Labels.{table_labels}
use Rattle.lattice.specs.Table as types
use Rattle.acceptance.specs.declared.TableFault.{TableFault}
use Rattle.acceptance.specs.Reply.{TableAnswer}
use Rattle.std.specs.Prelude.{Ok, Err}
use Rattle.acceptance.specs.Reply as table
use Rattle.encode.specs.Encode.{Outcome, written_out}
use Rattle.record.specs.declared.GraphFault.{GraphFault}
use Rattle.record.specs.declared.GraphFault.TheVariants as faults
use Rattle.record.specs.Read.{Reading, refused, accepted, reading, graph_of_rows, graph_number}
use Rattle.record.proofs.Accepted.{Rules}
use Rattle.link_orders.specs.LinkOrders.{is_reading_order}
use Rattle.difference.specs.Promise.{reasons_along}
use Rattle.replies.specs.Replies.{Reply}
use Rattle.replies.specs.Replies as replies
use Rattle.replies.specs.declared.answers.Answer.{Answer}
use Rattle.replies.specs.declared.answers.Answer.TheVariants as answer
use Rattle.replies.specs.Reply.{Result, answer_of, refusal, result_of, refusing, length_in, length_of}
use Rattle.subsume.specs.Promise.{rows_below}
use Rattle.calls.specs.Calls.{checked, differing, differing_by}
use Rattle.pairs.specs.Pair.{read_both}
use Rattle.difference.specs.Difference.{wanted_at, all_wanted, numbered, difference_rows, differed, differed_rows}
use Rattle.engine.specs.Differing.{parting, reasons_of}
use Rattle.demands.specs.Demand.{Given, as_written, remainder, WantedNotTop}
use Rattle.difference.specs.Explained.{Explained, explained_result, length_with_reasons, with_reasons}
use Rattle.demands.specs.Explained.{reason_for, LinkReason, written_number, by_written, ReasonsTell}
use Rattle.replies.proofs.Numbers.{answer-injective}
use Rattle.difference.proofs.Over.{over-map}
use Rattle.demands.proofs.Demanded.Combination.{other-refusal}
use Rattle.demands.proofs.Demanded.Difference.{
  Parts,
  accepts,
  general-rules,
  Told,
  not-below,
  not-wanted,
  differs,
  difference-told,
  remainder-writes,
}
use Rattle.demands.proofs.Demanded.Relations.{specific-size, operands, rows-kept, rows-walk, written-exact, written-rules, written_below}
use Rattle.demands.proofs.Demanded.Wanted.{same-wanted}

-- The reasons for the rows of two graphs.
module _ (n : ℕ) (t : List ℕ) (g s : List (Row Label)) (general : Rules n g) (specific : Rules n s)
    (below : Below (table_labels n t) (graph_of_rows s) (graph_of_rows g)) (ok : types.accepted n t ≡ true) (all : all_wanted n t s g ≡ true)
    {earlier : Link ℕ → Link ℕ → Bool} (strict : StrictOrder earlier) where
  abbrev d : Graph Label ℕ
  d = difference_rows earlier n t g s

  rows-reason : (u f v : ℕ) → Reached (graph_of_rows s) u → d.link u f ≡ some v →
      LinkReason earlier n t g s u f v (reason_for earlier n t g s (u, f) v)
  rows-reason u f v r e =
      reason-tells (operands n t g s general specific below) (over-map n t g s general below) earlier strict
      (specific-size n t g s general specific below) (λ w. Option.get_or (wanted_at n t s g w) no_label)
      (WantedNotTop n t (graph_of_rows s) (graph_of_rows g)) (u, f) v ((rows-kept n t g s general specific below ok all strict u f v r).0 e)

  rows_tell : (rows : List (Row Label)) → canonical eqb d ≡ written rows →
      ReasonsTell earlier n t g s rows (along_links d (reason_for earlier n t g s) (written_order eqb d))
  rows_tell rows e i k f h at p a =
      let within = rows-walk n t g s general specific below ok all strict in
      let kept = rows-kept n t g s general specific below ok all strict in
      let (u, v, du, dv, q) = written-value eqb d (reason_for earlier n t g s) tells-eqb narrow no_label rows e i h 0 k f at p a in
      let su = within p u du in
      let (least, _) = (kept u f v (p, su)).0 dv in (
        u,
        v,
        su,
        walk-snoc (graph_of_rows s) p f su ∙ least.0.1,
        subst (LinkReason earlier n t g s u f v) (sym q) (rows-reason u f v (p, su) dv),
      )
    where
      narrow : (v w f : ℕ) → Reached d v → d.link v f ≡ some w → f < 64
      narrow v w f (p, r) l =
          let su = rows-walk n t g s general specific below ok all strict p v r in
          let (least, _) = (rows-kept n t g s general specific below ok all strict v f w (p, su)).0 l in
          (specific-size n t g s general specific below).features v w f (p, su) least.0.1

-- The reasons for two accepted records.
module _ (n : ℕ) (t a b : List ℕ) (g s : List (Row Label)) (given : Given n t a b g s) where
  pub reasons-are : (earlier : Link ℕ → Link ℕ → Bool) → reasons_of earlier n t a b ≡
      along_links (remainder earlier n t g s) (reason_for earlier n t g (as_written s)) (written_order eqb (remainder earlier n t g s))
  unfolding reasons_of reasons_along
  reasons-are earlier = rw (given.first, given.second)

  pub reasons-count : (earlier : Link ℕ → Link ℕ → Bool) (rows : List (Row Label)) → canonical eqb (remainder earlier n t g s) ≡ written rows →
      length (reasons_of earlier n t a b) ≡ links_in rows
  reasons-count earlier rows e =
      ap length (reasons-are earlier) ∙ written-length eqb (remainder earlier n t g s) (reason_for earlier n t g (as_written s)) rows e

  module _ {earlier : Link ℕ → Link ℕ → Bool} (strict : StrictOrder earlier) (below : Below (table_labels n t) (graph_of_rows s) (graph_of_rows g))
      (all : all_wanted n t (as_written s) g ≡ true) where
    pub link-reasons : (u f v : ℕ) → Reached (graph_of_rows (as_written s)) u → (remainder earlier n t g s).link u f ≡ some v →
        LinkReason earlier n t g (as_written s) u f v (reason_for earlier n t g (as_written s) (u, f) v)
    link-reasons =
        rows-reason n t g (as_written s) (general-rules n t a b g s given) (written-rules n t a b g s given below)
        (written_below n t a b g s given below) (accepts n t a b g s given) all strict

    pub reasons-tell : (rows : List (Row Label)) → canonical eqb (remainder earlier n t g s) ≡ written rows →
        ReasonsTell earlier n t g (as_written s) rows (reasons_of earlier n t a b)
    reasons-tell rows e =
        subst (ReasonsTell earlier n t g (as_written s) rows) (sym (reasons-are earlier))
        (rows_tell n t g (as_written s) (general-rules n t a b g s given) (written-rules n t a b g s given below)
        (written_below n t a b g s given below) (accepts n t a b g s given) all strict rows e)

  -- What the reasons tell of s numbered as written, they tell of s as it was handed in.
  own-tell : (earlier : Link ℕ → Link ℕ → Bool) (rows : List (Row Label)) (reasons : List ℕ) →
      ReasonsTell earlier n t g (as_written s) rows reasons → ReasonsTell (by_written earlier s) n t g s rows reasons
  own-tell earlier rows reasons told i k f h at p leads =
      let (u', v', ru, rv, is) = told i k f h at p leads in
      let (u, su, x) = walk_from same (graph_of_rows g) p u' ru in
      let (v, sv, y) = walk_from same (graph_of_rows g) (p ++ (f ∷ [])) v' rv in
      let link = sym (walk-snoc (graph_of_rows s) p f su) ∙ sv in (
        u,
        v,
        su,
        sv,
        reason-from same (graph_of_rows g) earlier wants (u, f) v ((p, su), link) (get_or reasons i 0)
            (subst (λ w. LinkReason earlier n t g (as_written s) (written_number s u) f w (get_or reasons i 0)) (sym y)
            (subst (λ w. LinkReason earlier n t g (as_written s) w f v' (get_or reasons i 0)) (sym x) is)),
      )
    where
      same : Exact (written_number s) (graph_of_rows s) (graph_of_rows (as_written s))
      same = written-exact n t a b g s given

      wants : (v : ℕ) → Reached (graph_of_rows s) v →
          WantedNotTop n t (graph_of_rows (as_written s)) (graph_of_rows g) (written_number s v) → WantedNotTop n t (graph_of_rows s) (graph_of_rows g) v
      wants v (p, e) (c, is, high) = (
        c,
        same-wanted n t (graph_of_rows s) (graph_of_rows (as_written s)) (graph_of_rows g) (exact_same same) p v (written_number s v) e
            (walk-to same (graph_of_rows g) p v e) c is,
        high,
      )

-- The call with reasons beside the plain call, whatever is handed in.
module _ (plain : Result) (reasons out old : List ℕ) where
  lengths : (l : ℕ) → plain.reply ≡ replies.Length l → with_reasons plain reasons out old ≡
      cond (leb (length reasons) (length old)) (explained_result plain.reply plain.output (reasons ++ drop (length reasons) old))
      (explained_result replies.NoReasonRoom out old)
  lengths l e = ap (λ (r : Reply). length_with_reasons (length_of r) plain reasons out old) e

  pub beside-room : (l : ℕ) → plain.reply ≡ replies.Length l → length reasons ≤ length old →
      with_reasons plain reasons out old ≡ explained_result (replies.Length l) plain.output (reasons ++ drop (length reasons) old)
  beside-room l e h =
      lengths l e
      ∙ ap (λ (b : Bool).
      cond b (explained_result plain.reply plain.output (reasons ++ drop (length reasons) old)) (explained_result replies.NoReasonRoom out old))
      (le-leb (length reasons) (length old) h)
      ∙ ap (λ (r : Reply). explained_result r plain.output (reasons ++ drop (length reasons) old)) e

  pub beside-short : (l : ℕ) → plain.reply ≡ replies.Length l → length old < length reasons →
      with_reasons plain reasons out old ≡ explained_result replies.NoReasonRoom out old
  beside-short l e h =
      lengths l e
      ∙ ap (λ (b : Bool).
      cond b (explained_result plain.reply plain.output (reasons ++ drop (length reasons) old)) (explained_result replies.NoReasonRoom out old))
      (lt-leb (length reasons) (length old) h)

  pub beside-refused : length_of plain.reply ≡ none → with_reasons plain reasons out old ≡ explained_result plain.reply out old
  beside-refused e = ap (λ (o : Option ℕ). length_with_reasons o plain reasons out old) e

-- What follows the table's check gives no number above 18.

module _ (earlier : Link ℕ → Link ℕ → Bool) (n : ℕ) (t out : List ℕ) {k : ℕ} (high : 18 < k) where
  low : {m : ℕ} → m ≤ 18 → some m ≡ some k → ⊥
  low l e = omega (arith, some-injective e)

  graph-low : (fault : GraphFault) → graph_number fault ≤ 18
  graph-low faults.Malformed = omega arith
  graph-low faults.OutOfRange = omega arith
  graph-low faults.Cyclic = omega arith
  graph-low faults.Unreached = omega arith
  graph-low faults.Inappropriate = omega arith

  chosen-low : (lies all : Bool) (o : Outcome) →
      refusal (cond lies (cond all (result_of o) (refusing replies.NoWantedType out)) (refusing replies.NotBelow out)).reply ≡ some k → ⊥
  chosen-low true true o e = other-refusal o.answer k e (λ z. omega arith) (λ z. omega arith)
  chosen-low true false o e = low {m = 13} (omega arith) e
  chosen-low false all o e = low {m = 12} (omega arith) e

  read_low : (x y : Reading) → refusal (read_both (λ r. refusing r out) x y (differed_rows earlier n t out)).reply ≡ some k → ⊥
  unfolding differed_rows differed
  read_low (refused fault) y e = low (graph-low fault) e
  read_low (accepted g) (refused fault) e = low (graph-low fault) e
  read_low (accepted g) (accepted s) e =
      let rows = numbered (canonical eqb (graph_of_rows s)) in
      chosen-low (rows_below n t rows g) (all_wanted n t rows g) (written_out (canonical eqb (difference_rows earlier n t g rows)) out) e

  pub parting-low : (a b : List ℕ) → refusal (parting earlier n t a b out).reply ≡ some k → ⊥
  parting-low a b = read_low (reading n a) (reading n b)

-- A reply whose `length_of` is l is `Length l`.
length-told : (r : Reply) (l : ℕ) → length_of r ≡ some l → r ≡ replies.Length l
length-told r l e = answer-injective r (replies.Length l) (go (answer_of r) e)
  where
    go : (k : Answer) → length_in k ≡ some l → k ≡ answer.Length l
    go (answer.Length m) q = ap answer.Length (some-injective q)
    go answer.Same q = none-some q
    go answer.Under q = none-some q
    go answer.Above q = none-some q
    go answer.Neither q = none-some q
    go (answer.Counts nodes rows) q = none-some q
    go answer.End q = none-some q
    go (answer.Refused number) q = none-some q
    go (answer.RefusedGraph number side) q = none-some q

-- Beside a plain call that never gives 22, 22 is given exactly where that call gives a length and the reasons do not fit.
pub no-room-exact : (plain : Result) (reasons out old : List ℕ) → (plain.reply ≡ replies.NoReasonRoom → ⊥) →
    ((with_reasons plain reasons out old).reply ≡ replies.NoReasonRoom) ↔
    ((l : ℕ) × (plain.reply ≡ replies.Length l) × (length old < length reasons))
no-room-exact plain reasons out old never = (
  λ e. there (length_of plain.reply) refl e,
  λ (l, e, h). ap (λ (x : Explained). x.reply) (beside-short plain reasons out old l e h),
)
  where
    fits : (l : ℕ) → plain.reply ≡ replies.Length l → (c : Bool) → leb (length reasons) (length old) ≡ c →
        (with_reasons plain reasons out old).reply ≡ replies.NoReasonRoom → length old < length reasons
    fits l q false c e = leb-false (length reasons) (length old) c
    fits l q true c e =
        let z : ◌≡◌ {A = ℕ} 0 1 =
        cc (sym (ap (λ (x : Explained). x.reply)
        (beside-room plain reasons out old l q (leb-true (length reasons) (length old) c))) ∙ e) in
        absurd (omega arith)

    there : (o : Option ℕ) → length_of plain.reply ≡ o → (with_reasons plain reasons out old).reply ≡ replies.NoReasonRoom →
        (l : ℕ) × (plain.reply ≡ replies.Length l) × (length old < length reasons)
    there none q e = absurd (never (sym (ap (λ (x : Explained). x.reply) (beside-refused plain reasons out old q)) ∙ e))
    there (some l) q e =
        let told = length-told plain.reply l q in
        (l, told, fits l told (leb (length reasons) (length old)) refl e)

-- Where the call with reasons tells a length, the plain call tells the same length, and the reasons fit.
beside-length : (plain : Result) (reasons out old : List ℕ) (l : ℕ) → (with_reasons plain reasons out old).reply ≡ replies.Length l →
    (plain.reply ≡ replies.Length l) × (length reasons ≤ length old)
beside-length plain reasons out old l e = there (length_of plain.reply) refl
  where
    fits : (m : ℕ) → plain.reply ≡ replies.Length m → (c : Bool) → leb (length reasons) (length old) ≡ c →
        (plain.reply ≡ replies.Length l) × (length reasons ≤ length old)
    fits m q true c =
        let h = leb-true (length reasons) (length old) c in
        (q ∙ sym (ap (λ (x : Explained). x.reply) (beside-room plain reasons out old m q h)) ∙ e, h)
    fits m q false c =
        let z : ◌≡◌ {A = ℕ} 0 1 =
        cc (sym (ap (λ (x : Explained). x.reply) (beside-short plain reasons out old m q (leb-false (length reasons) (length old) c))) ∙ e) in
        absurd (omega arith)

    there : (o : Option ℕ) → length_of plain.reply ≡ o → (plain.reply ≡ replies.Length l) × (length reasons ≤ length old)
    there none q =
        none-some
        (sym q ∙ ap (λ (r : Reply). length_of r) (sym (ap (λ (x : Explained). x.reply) (beside-refused plain reasons out old q)) ∙ e))
    there (some m) q = fits m (length-told plain.reply m q) (leb (length reasons) (length old)) refl

-- The bytes beside a record that a call with reasons has written tell of the links of that record.
module _ (n : ℕ) (t a b : List ℕ) (g s : List (Row Label)) (given : Given n t a b g s) {earlier : Link ℕ → Link ℕ → Bool}
    (strict : StrictOrder earlier) {out : List ℕ} {call : Result} (parts : Parts earlier n t out g s call) (old : List ℕ) where
  abbrev reasons : List ℕ
  reasons = reasons_of earlier n t a b

  abbrev explained : Explained
  explained = with_reasons call reasons out old

  pub call-tells : (l : ℕ) → explained.reply ≡ replies.Length l → (rows : List (Row Label)) →
      reading n (take l explained.output) ≡ accepted rows → ReasonsTell (by_written earlier s) n t g s rows explained.reasons
  call-tells l e rows read =
      let (q, fits) = beside-length call reasons out old l e in
      own-tell n t a b g s given earlier rows explained.reasons
      (go q (beside-room call reasons out old l q fits) (difference-told n t a b g s given strict parts))
    where
      go : call.reply ≡ replies.Length l →
          explained ≡ explained_result (replies.Length l) call.output (reasons ++ drop (length reasons) old) →
          Told n t a b g s given strict parts → ReasonsTell earlier n t g (as_written s) rows explained.reasons
      go q same (not-wanted _ _ x) = let z : ◌≡◌ {A = ℕ} 0 1 = cc (q, ap (λ (r : Result). r.reply) x) in absurd (omega arith)
      go q same (not-below x) = let z : ◌≡◌ {A = ℕ} 0 1 = cc (q, ap (λ (r : Result). r.reply) x) in absurd (omega arith)
      go q same (differs below all) =
          let wrote = (remainder-writes n t a b g s given strict parts below all).wrote l q in
          let again : accepted wrote.form ≡ accepted rows =
          sym wrote.reads ∙ ap (λ (x : Explained). reading n (take l x.output)) (sym same) ∙ read in
          let written_as : canonical eqb (remainder earlier n t g s) ≡ written rows = wrote.fits ∙ cc again in
          let count = reasons-count n t a b g s given earlier rows written_as in
          subst (λ (x : Explained). ReasonsTell earlier n t g (as_written s) rows x.reasons) (sym same)
          (λ i k f h at p x.
          let (u, v, su, sv, tells) = reasons-tell n t a b g s given strict below all rows written_as i k f h at p x in (
            u,
            v,
            su,
            sv,
            subst (LinkReason earlier n t g (as_written s) u f v)
                (sym (get_or-append reasons (drop (length reasons) old) 0 i (omega (arith, count)))) tells,
          ))

-- The calls for a difference never give 22.
table-low : (fault : TableFault) → replies.Table fault ≡ replies.NoReasonRoom → ⊥
table-low fault e = let z : ◌≡◌ {A = ℕ} 0 1 = cc in omega arith

pub differing-other : (n : ℕ) (t a b out : List ℕ) → (differing n t a b out).reply ≡ replies.NoReasonRoom → ⊥
unfolding differing
differing-other n t a b out e = go (table.opened n t) e
  where
    go : (o : TableAnswer) → (checked (λ r. refusing r out) o (parting by_number n t a b out)).reply ≡ replies.NoReasonRoom → ⊥
    go (Err fault) q = table-low fault q
    go (Ok tt) q = parting-low by_number n t out {k = 22} (omega arith) a b (ap refusal q)

pub differing-by-other : (n : ℕ) (t list a b out : List ℕ) → (differing_by n t list a b out).reply ≡ replies.NoReasonRoom → ⊥
unfolding differing_by
differing-by-other n t list a b out e = go (table.opened n t) (is_reading_order list) e
  where
    go : (o : TableAnswer) (listed : Bool) →
        (checked (λ r. refusing r out) o (cond listed (parting (by_reading list) n t a b out) (refusing replies.ReadingOrder out))).reply ≡
        replies.NoReasonRoom → ⊥
    go (Err fault) listed q = table-low fault q
    go (Ok tt) true q = parting-low (by_reading list) n t out {k = 22} (omega arith) a b (ap refusal q)
    go (Ok tt) false q = let z : ◌≡◌ {A = ℕ} 0 1 = cc in omega arith
