-- The promises of the order, of the wanted labels and of the kept rows give the promise of the difference, with its reasons and without them.
use mathlib.Core.Path.{◌≡◌, refl, sym, ◌∙◌, ap, ap₂}
use mathlib.Core.Bool.{Bool, true, false, cond}
use mathlib.Core.List.{List, [], ◌++◌}
use mathlib.Core.Option.{Option, none}
use Prim.Native.Nat.{ℕ, ◌≤◌}
use Rattle.std.specs.Prelude.{None, Some, Ok, Err}
use native.Mathlib.Omega.{arith}
use lib.Dec.{eqb, leb}
use lib.ListN.{length, get_or, take, drop, replicate, length-replicate}
use lib.Seq.{length-take-le}
use Rattle.graphs.specs.Number.{Canonical, canonical, many_nodes, many_links, written as canonicalRows}
use Rattle.graphs.specs.Order.{subsumes}
use Rattle.graphs.specs.Difference.{Link}
use Rattle.graphs.specs.Reasons.{written_order}
use Rattle.graphs.proofs.Search.{true-false}
use Rattle.graphs.proofs.Below.{map_below}
use Rattle.lattice.specs.Label.{Label}
use Rattle.lattice.specs.Labels.{table_labels}
use Rattle.lattice.proofs.Laws.{accepted-size}
use Rattle.layout.specs.Layout.{Recorded, graph_in, rows_of}
use Rattle.encoder.specs.Encode.{encoded}
use Rattle.encode.specs.declared.Unwritten.TheVariants as unwritten
use Rattle.encode.specs.declared.Unmarked.{Unmarked}
use Rattle.encode.specs.declared.Unmarked.TheVariants as unmarked
use Rattle.encode.specs.Encode.{fitted, written_out, yielding, Writing}
use Rattle.encode.specs.Marks.{Marking, Noted, noting, fitted_both, marked_out, marks_along}
use Rattle.record.proofs.Accepted.{rules-of-any-size}
use Rattle.record.specs.Reads.{Loaded}
use Rattle.record.proofs.Loaded.{loaded-rules, loaded-reached, loaded-recorded}
use Rattle.record.proofs.Ordered.{order-test}
use Rattle.replies.specs.declared.Refusal.{Refusal}
use Rattle.replies.specs.Replies.{Reply, Length, NotBelow, NoWantedType, NoReasonRoom, told, refusal_of_unmarked}
use Rattle.replies.specs.Reply.{Result, resulting, result_of, reply_of, refusing, length_of}
use Rattle.replies.proofs.Told.{told-unwritten}
use Rattle.subsume.specs.Promise.{Orders}
use Rattle.link_orders.specs.declared.LinkOrder.{LinkOrder}
use Rattle.link_orders.specs.LinkOrders.{earlier_by}
use Rattle.groups.specs.Marks.{Marked as MarkedBy}
use Rattle.groups.proofs.Ordering.{earlier-by-order}
use Rattle.reasons.specs.Explaining.{Made, Explains}
use Rattle.wanting.specs.Asked.{Asked}
use Rattle.wanting.specs.Wanted.{WantsAll}
use Rattle.difference.specs.declared.Options.{Options}
use Rattle.difference.specs.Prepared.{Prepared}
use Rattle.difference.specs.Comparable.{Comparable}
use Rattle.difference.specs.Promise.{all_wanted_along, difference_along}
use Rattle.difference.specs.Difference.{all_wanted, difference_rows, differed}
use Rattle.difference.specs.Explained.{Explained, explained_result, length_with_reasons, with_reasons, with_reasons_if, reasons_rows, differed_words, marked_reply}
use Rattle.difference.specs.Writing.{WritesRows}
use Rattle.difference.proofs.Result.{answers-wanted, made-canonical, made-reasons}
use Rattle.difference.proofs.Along.{all-along, difference-along, reasons-along}

-- Words that hold acceptable rows.

-- Comparable graphs meet what the order requires.
pub comparable-recorded : {n : ℕ} {t g s : List ℕ} → Comparable n t g s → Recorded s × Recorded g
comparable-recorded {n} {t} given =
    let few = (accepted-size n t given.accepts).1 in
    (loaded-recorded few given.specific, loaded-recorded few given.general)

-- Where s is below g, comparable graphs meet what the steps of the difference require.
pub asked-below : (n : ℕ) (t g s : List ℕ) {map : List ℕ} → Comparable n t g s →
    Orders n t (rows_of s) (rows_of g) (Some map) → Asked n t g s map
asked-below n t g s given below =
    let few = (accepted-size n t given.accepts).1 in
    let one = given.general in
    let other = given.specific in
    record {
      ok = given.accepts;
      upper = loaded-recorded few one;
      lower = loaded-recorded few other;
      short = given.short;
      upper-typed = one.typed;
      lower-typed = other.typed;
      upper-reached = loaded-reached one;
      lower-reached = loaded-reached other;
      any-size = (rules-of-any-size n (rows_of s) (loaded-rules other) t).any-size;
      lies = below;
    }

-- With wanted labels and marks, the graphs meet what making the rows requires.
pub prepared-below : (order : LinkOrder) (n : ℕ) (t g s : List ℕ) {map marks labels : List ℕ} {wanted : Bool} → Asked n t g s map →
    WantsAll n t s g map wanted labels → wanted ≡ true → MarkedBy (earlier_by order) s g map marks →
    Prepared (earlier_by order) n t g s map marks labels
prepared-below order n t g s asked wants all marked =
    record { asked = asked; wants = wants.wants all; strict = earlier-by-order order; marked = marked }

module _ (earlier : Link ℕ → Link ℕ → Bool) (n : ℕ) (t out : List ℕ) (g s : List ℕ) (given : Loaded n g) where
  abbrev below : Bool
  below = subsumes (table_labels n t) eqb eqb (graph_in s) (graph_in g) (length (rows_of g))

  abbrev written : Result
  written = result_of (written_out (canonical eqb (difference_rows earlier n t (rows_of g) (rows_of s))) out)

  abbrev chosen : Bool → Bool → Result
  chosen lies all = cond lies (cond all written (refusing NoWantedType out)) (refusing NotBelow out)

  -- The reply is 12 where s is not below g.
  differed-refused : Orders n t (rows_of s) (rows_of g) None → resulting NotBelow out ≡ differed earlier n t out (rows_of g) (rows_of s)
  unfolding differed
  differed-refused never = sym (ap (λ (b : Bool). chosen b (all_wanted n t (rows_of s) (rows_of g))) (go below refl))
    where
      go : (b : Bool) → below ≡ b → b ≡ false
      go false q = refl
      go true q = absurd (never ((order-test n t (rows_of s) (rows_of g) (loaded-rules given)).0 q))

  module _ (map : List ℕ) (lies : Orders n t (rows_of s) (rows_of g) (Some map)) where
    lies-below : below ≡ true
    lies-below = (order-test n t (rows_of s) (rows_of g) (loaded-rules given)).1 (map_below lies)

    chosen-all : (b : Bool) → b ≡ all_wanted_along n t (rows_of s) (rows_of g) (λ y. get_or map y 0) →
        chosen true b ≡ differed earlier n t out (rows_of g) (rows_of s)
    unfolding differed
    chosen-all b all =
        ap (chosen true) (all ∙ all-along n t (rows_of s) (rows_of g) map (loaded-rules given) lies) ∙
        ap (λ (x : Bool). chosen x (all_wanted n t (rows_of s) (rows_of g))) (sym lies-below)

    -- The reply is 13 where a node has no wanted label.
    differed-unwanted : false ≡ all_wanted_along n t (rows_of s) (rows_of g) (λ y. get_or map y 0) →
        resulting NoWantedType out ≡ differed earlier n t out (rows_of g) (rows_of s)
    differed-unwanted = chosen-all false

    -- Else the difference is written, or the reply is 11 or 8.
    differed-same : true ≡ all_wanted_along n t (rows_of s) (rows_of g) (λ y. get_or map y 0) →
        result_of (written_out (canonical eqb (difference_along earlier n t (rows_of s) (rows_of g) (λ y. get_or map y 0))) out) ≡
        differed earlier n t out (rows_of g) (rows_of s)
    differed-same all =
        ap (λ k. result_of (written_out (canonical eqb k) out))
        (difference-along n t (rows_of s) (rows_of g) map (loaded-rules given) lies earlier) ∙
        chosen-all true all

-- The difference with its reasons.

-- A refusal without reasons is the same refusal with reasons.
pub refuses-with-reasons : (explained : Bool) {plain : Result} (r : Reply) (reasons out old : List ℕ) → length_of r ≡ none → resulting r out ≡ plain →
    explained_result r out old ≡ with_reasons_if explained plain reasons out old
refuses-with-reasons true r reasons out old e q =
    ap (λ (o : Option ℕ). length_with_reasons o (resulting r out) reasons out old) (sym e) ∙ ap (λ (p : Result). with_reasons p reasons out old) q
refuses-with-reasons false r reasons out old e q = ap (λ (p : Result). explained_result p.reply p.output old) q

-- The reply of a call that ends in writing with marks: the length is passed on, or the reason as a refusal.
module _ {m : Marking} where
  pub told-marked : {l : ℕ} → m ≡ Ok l → told (Ok l) ≡ marked_reply m
  told-marked e = ap marked_reply (sym e)

  pub told-unmarked : {why : Unmarked} {refusal : Refusal} → m ≡ Err why → refusal ≡ refusal_of_unmarked why → told (Err refusal) ≡ marked_reply m
  told-unmarked {why} e r = ap (λ (q : Refusal). told (Err q)) r ∙ go why ∙ ap marked_reply (sym e)
    where
      go : (x : Unmarked) → told (Err (refusal_of_unmarked x)) ≡ marked_reply (Err x)
      go (unmarked.Unwritten x) = told-unwritten refl refl
      go unmarked.NoMarkRoom = refl

-- The result of writing with marks.
abbrev noted : Noted → Explained
noted o = explained_result (marked_reply o.answer) o.output o.beside

-- Writing with marks has the result of writing, with the marks beside it.
noted-with-reasons : (form : Canonical Label) (marks out old : List ℕ) →
    noted (marked_out form marks out old) ≡ with_reasons (result_of (written_out form out)) marks out old
unfolding marked_out written_out fitted fitted_both
noted-with-reasons many_nodes marks out old = refl
noted-with-reasons many_links marks out old = refl
noted-with-reasons (canonicalRows rows) marks out old = record-fits (leb (length bytes) (length out))
  where
    bytes : List ℕ
    bytes = encoded rows

    marks-fit : (c : Bool) → noted
        (cond c (noting (Ok (length (encoded rows))) (encoded rows ++ drop (length (encoded rows)) out) (marks ++ drop (length marks) old))
        (noting (Err unmarked.NoMarkRoom) out old)) ≡
        cond c (explained_result (Length (length (encoded rows))) (encoded rows ++ drop (length (encoded rows)) out) (marks ++ drop (length marks) old))
        (explained_result NoReasonRoom out old)
    marks-fit true = refl
    marks-fit false = refl

    record-fits : (b : Bool) → noted
        (cond b
        (cond (leb (length marks) (length old))
        (noting (Ok (length (encoded rows))) (encoded rows ++ drop (length (encoded rows)) out) (marks ++ drop (length marks) old))
        (noting (Err unmarked.NoMarkRoom) out old))
        (noting (Err (unmarked.Unwritten unwritten.NoRoom)) out old)) ≡
        with_reasons
        (result_of (cond b (yielding (Ok (length (encoded rows))) (encoded rows ++ drop (length (encoded rows)) out)) (yielding (Err unwritten.NoRoom) out)))
        marks out old
    record-fits true = marks-fit (leb (length marks) (length old))
    record-fits false = refl

module _ {explained : Bool} {s marks words : List ℕ} (out old : List ℕ) where
  -- The record is written without reasons.
  pub plain-written : explained ≡ false → {w : Writing} {r : Reply} {new : List ℕ} → yielding w new ≡ written_out (canonical eqb (graph_in words)) out → r ≡ reply_of w →
      WritesRows explained s marks words out old (explained_result r new old)
  plain-written e {new = new} yields said =
      record {
        held = [];
        explains = λ p. true-false p e;
        is =
            ap (λ (q : Reply). explained_result q new old) said
            ∙ ap (λ (p : Result). explained_result p.reply p.output old) (ap result_of yields)
            ∙ ap (λ (b : Bool). with_reasons_if b (result_of (written_out (canonical eqb (graph_in words)) out)) (marks_along words [] (written_order eqb (graph_in words))) out old) (sym e);
      }

  -- The record is written with its reasons.
  pub marked-written : explained ≡ true → {held : List ℕ} → Explains s marks words held → {m : Marking} {r : Reply} {new reasons : List ℕ} →
      noting m new reasons ≡ marked_out (canonical eqb (graph_in words)) (marks_along words held (written_order eqb (graph_in words))) out old → r ≡ marked_reply m →
      WritesRows explained s marks words out old (explained_result r new reasons)
  marked-written e {held} explains {new = new} {reasons = reasons} yields said =
      record {
        held = held;
        explains = λ _. explains;
        is =
            ap (λ (q : Reply). explained_result q new reasons) said
            ∙ ap noted yields
            ∙ noted-with-reasons (canonical eqb (graph_in words)) (marks_along words held (written_order eqb (graph_in words))) out old
            ∙ ap (λ (b : Bool). with_reasons_if b (result_of (written_out (canonical eqb (graph_in words)) out)) (marks_along words held (written_order eqb (graph_in words))) out old) (sym e);
      }

-- The reply to a call for a difference.

module _ (options : Options) (n : ℕ) (t g s out old : List ℕ) (given : Comparable n t g s) where
  abbrev earlier : Link ℕ → Link ℕ → Bool
  earlier = earlier_by options.order

  -- The reply is 12 where s is not below g.
  pub answers-not-below : Orders n t (rows_of s) (rows_of g) None → explained_result NotBelow out old ≡ differed_words options n t g s out old
  answers-not-below never =
      refuses-with-reasons options.explained NotBelow (reasons_rows earlier n t (rows_of g) (rows_of s)) out old refl
      (differed-refused earlier n t out g s given.general never)

  module _ {map : List ℕ} (below : Orders n t (rows_of s) (rows_of g) (Some map)) {wanted : Bool} {labels : List ℕ} (wants : WantsAll n t s g map wanted labels) where
    is-wanted : wanted ≡ all_wanted_along n t (rows_of s) (rows_of g) (λ y. get_or map y 0)
    is-wanted = answers-wanted (asked-below n t g s given below) wants

    -- The reply is 13 where a node has no wanted label.
    pub answers-unwanted : wanted ≡ false → explained_result NoWantedType out old ≡ differed_words options n t g s out old
    answers-unwanted e =
        refuses-with-reasons options.explained NoWantedType (reasons_rows earlier n t (rows_of g) (rows_of s)) out old refl
        (differed-unwanted earlier n t out g s given.general map below (sym e ∙ is-wanted))

    -- Else the difference is written, with its reasons if they are asked for.
    module _ (all : wanted ≡ true) {marks words : List ℕ} (by : MarkedBy earlier s g map marks) (made : Made n t s marks labels words) where
      prepared : Prepared earlier n t g s map marks labels
      prepared = prepared-below options.order n t g s (asked-below n t g s given below) wants all by

      plain-same : result_of (written_out (canonical eqb (graph_in words)) out) ≡ differed earlier n t out (rows_of g) (rows_of s)
      plain-same =
          ap (λ (k : Canonical Label). result_of (written_out k out)) (sym (made-canonical prepared made))
          ∙ differed-same earlier n t out g s given.general map below (sym all ∙ is-wanted)

      pub answers-written : {x : Explained} → WritesRows options.explained s marks words out old x → x ≡ differed_words options n t g s out old
      answers-written {x} writes = writes.is ∙ go options.explained refl
        where
          go : (b : Bool) → options.explained ≡ b →
              with_reasons_if b (result_of (written_out (canonical eqb (graph_in words)) out))
              (marks_along words writes.held (written_order eqb (graph_in words))) out old ≡
              with_reasons_if b (differed earlier n t out (rows_of g) (rows_of s)) (reasons_rows earlier n t (rows_of g) (rows_of s)) out old
          go false e = ap (λ (p : Result). explained_result p.reply p.output old) plain-same
          go true e =
              ap₂ (λ (p : Result) (rs : List ℕ). with_reasons p rs out old) plain-same
              (sym (made-reasons prepared made (writes.explains e))
              ∙ reasons-along n t (rows_of s) (rows_of g) map (loaded-rules given.general) below earlier)

-- As many fresh bytes for marks are lent as s has words.
pub marks-fresh : (m : ℕ) (s : List ℕ) → length s ≤ m → length {A = ℕ} (take (length s) (replicate m 0)) ≡ length s
marks-fresh m s short = length-take-le (length s) (replicate m 0) (omega (arith, short, length-replicate {A = ℕ} m 0))
