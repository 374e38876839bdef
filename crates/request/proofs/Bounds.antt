-- A record whose length a reply tells fits in the output, so every line is short.
use mathlib.Core.Path.{◌≡◌, refl, sym, ◌∙◌, ap}
use mathlib.Core.Bool.{Bool, true, false, cond}
use mathlib.Core.List.{List, ◌++◌}
use mathlib.Core.Logic.{◌⊎◌}
use mathlib.Core.Option.{Option, none, some}
use Prim.Native.Nat.{ℕ, ◌%◌, ◌≤◌, ◌<◌}
use native.Mathlib.Omega.{arith}
use borrow.Author.Tests.{leb-true}
use lib.Dec.{eqb, leb}
use lib.ListN.{length, drop, replicate, length-append, length-replicate, length-take}
use Rattle.std.specs.Prelude.{Ok, Err}
use Rattle.graphs.specs.Rows.{Row, from}
use Rattle.graphs.specs.Number.{Canonical, canonical, many_nodes, many_links, written}
use Rattle.graphs.specs.Order.{subsumes}
use Rattle.graphs.specs.Difference.{by_number}
use Rattle.graphs.specs.Generalize.{generalization}
use Rattle.graphs.specs.Unify.{Unified, cycle, clash, unified, unification}
use Rattle.graphs.specs.OfRows.{same_pair, same_either}
use Rattle.graphs.proofs.Walk.{none-some}
use Rattle.lattice.specs.Label.{Label}
use Rattle.acceptance.specs.Reply.{TableAnswer}
use Rattle.acceptance.specs.Reply as table
use Rattle.lattice.specs.Labels.{table_labels}
use Rattle.record.specs.Read as graph
use Rattle.encoder.specs.Encode.{encoded}
use Rattle.encode.specs.Encode.{fitted, written_out}
use Rattle.encode.specs.declared.Unwritten.TheVariants as unwritten
use Rattle.replies.specs.declared.Side.{Side}
use Rattle.replies.specs.declared.Side.TheVariants.{First, Second}
use Rattle.replies.specs.declared.answers.Answer.{Answer}
use Rattle.replies.specs.declared.answers.Answer.TheVariants as answer
use Rattle.replies.specs.Replies.{Reply}
use Rattle.replies.specs.Replies.{Table, Graph, NoRoom, Cycle, Clash, TooLarge, NotBelow, NoWantedType}
use Rattle.replies.specs.Reply.{Result, Bounded, answer_of, refusal, refusing, result_of}
use Rattle.subsume.specs.Promise.{rows_below}
use Rattle.calls.specs.Calls.{checked, generalizing, ordering, unifying, differing}
use Rattle.pairs.specs.Pair.{read_both}
use Rattle.engine.specs.Generalizing.{generalized}
use Rattle.orders.specs.Ordering.{compared, ordered}
use Rattle.engine.specs.Unifying.{combined, unified_rows}
use Rattle.difference.specs.Difference.{all_wanted, difference_rows, differed, numbered, differed_rows}
use Rattle.replies.proofs.Numbers.{number_in, number_small, answer-bounded}
use Rattle.request.specs.declared.parse.Operation.{Operation}
use Rattle.request.specs.declared.parse.Operation.TheVariants.{Generalize, Unify, Difference, Order}
use Rattle.request.specs.Request.{Request}
use Rattle.request.specs.Line.{answered, answering, answer_text, counts_text, refused_text, reply_text, side_text}
use Rattle.request.specs.Words.{words_for}
use Rattle.text.proofs.Texts.{decimal-short, length-hexadecimal}

-- A reply's length fits in the output.

-- A refusal tells no length.
refused-bounded : (r : Reply) (number : ℕ) → refusal r ≡ some number → (most : ℕ) → Bounded r most
refused-bounded r number q most l e = absurd (none-some (sym (ap refusal e) ∙ q))

-- A property holds for a call if it holds for every refusal and for what the call does over accepted graphs.
module _ {X : Type 0} (refuse : Reply → X) (good : X → Type 0) (refused-good : (r : Reply) → ((most : ℕ) → Bounded r most) → good (refuse r))
  where
    checked-good : (o : TableAnswer) (next : X) → good next → good (checked refuse o next)
    checked-good (Err fault) next h = refused-good (Table fault) (refused-bounded (Table fault) _ refl)
    checked-good (Ok tt) next h = h

    both-good : (x y : graph.Reading) (next : List (Row Label) → List (Row Label) → X) → ((g h : List (Row Label)) → good (next g h)) →
        good (read_both refuse x y next)
    both-good (graph.refused fault) y next h = refused-good (Graph fault First) (refused-bounded (Graph fault First) _ refl)
    both-good (graph.accepted rows) (graph.refused fault) next h = refused-good (Graph fault Second) (refused-bounded (Graph fault Second) _ refl)
    both-good (graph.accepted rows) (graph.accepted others) next h = h rows others

    call-good : (n : ℕ) (t a b : List ℕ) (next : List (Row Label) → List (Row Label) → X) → ((g h : List (Row Label)) → good (next g h)) →
        good (checked refuse (table.opened n t) (read_both refuse (graph.reading n a) (graph.reading n b) next))
    call-good n t a b next h =
        checked-good (table.opened n t) (read_both refuse (graph.reading n a) (graph.reading n b) next)
        (both-good (graph.reading n a) (graph.reading n b) next h)

fitted-bounded : (bytes out : List ℕ) → Bounded (result_of (fitted bytes out)).reply (length out)
unfolding fitted
fitted-bounded bytes out = go (leb (length bytes) (length out)) refl
  where
    go : (b : Bool) → leb (length bytes) (length out) ≡ b →
        Bounded (result_of (cond b
        (record { answer = Ok (length bytes); output = bytes ++ drop (length bytes) out })
        (record { answer = Err unwritten.NoRoom; output = out }))).reply (length out)
    go true h = λ l e. let same : length bytes ≡ l = cc in omega (arith, leb-true (length bytes) (length out) h)
    go false h = refused-bounded NoRoom 8 refl (length out)

written-bounded : (c : Canonical Label) (out : List ℕ) → Bounded (result_of (written_out c out)).reply (length out)
unfolding written_out
written-bounded many_nodes out = refused-bounded TooLarge 11 refl (length out)
written-bounded many_links out = refused-bounded TooLarge 11 refl (length out)
written-bounded (written rows) out = fitted-bounded (encoded rows) out

cond-bounded : (b : Bool) (x y : Result) (most : ℕ) → Bounded x.reply most → Bounded y.reply most → Bounded (cond b x y).reply most
cond-bounded true x y most h k = h
cond-bounded false x y most h k = k

combined-bounded : (u : Unified Label (ℕ ⊎ ℕ)) (out : List ℕ) → Bounded (combined u out).reply (length out)
combined-bounded cycle out = refused-bounded Cycle 9 refl (length out)
combined-bounded clash out = refused-bounded Clash 10 refl (length out)
combined-bounded (unified u) out = written-bounded (canonical same_either u) out

compared-bounded : (most : ℕ) (x y : Bool) → Bounded (compared x y) most
compared-bounded most true true l e = let z : ◌≡◌ {A = ℕ} 0 1 = cc in absurd (omega arith)
compared-bounded most true false l e = let z : ◌≡◌ {A = ℕ} 0 1 = cc in absurd (omega arith)
compared-bounded most false true l e = let z : ◌≡◌ {A = ℕ} 0 1 = cc in absurd (omega arith)
compared-bounded most false false l e = let z : ◌≡◌ {A = ℕ} 0 1 = cc in absurd (omega arith)

module _ (n : ℕ) (t a b : List ℕ) where
  -- The bound for a call that writes a record.
  writing-bounded : (out : List ℕ) (next : List (Row Label) → List (Row Label) → Result) →
      ((g h : List (Row Label)) → Bounded (next g h).reply (length out)) →
      Bounded (checked (λ r. refusing r out) (table.opened n t) (read_both (λ r. refusing r out) (graph.reading n a) (graph.reading n b) next)).reply (length out)
  writing-bounded out = call-good (λ r. refusing r out) (λ (x : Result). Bounded x.reply (length out)) (λ r h. h (length out)) n t a b

  generalizing-bounded : (out : List ℕ) → Bounded (generalizing n t a b out).reply (length out)
  unfolding generalizing generalized
  generalizing-bounded out = writing-bounded out (generalized n t out) λ g h.
      written-bounded (canonical same_pair (generalization (table_labels n t) (graph.graph_of_rows g) (graph.graph_of_rows h))) out

  unifying-bounded : (out : List ℕ) → Bounded (unifying n t a b out).reply (length out)
  unfolding unifying unified_rows
  unifying-bounded out = writing-bounded out (unified_rows n t out) λ g h.
      combined-bounded
      (unification (table_labels n t) eqb eqb (graph.graph_of_rows g) (from 0 (length g)) (graph.graph_of_rows h) (from 0 (length h))) out

  differing-bounded : (out : List ℕ) → Bounded (differing n t a b out).reply (length out)
  unfolding differing differed_rows differed
  differing-bounded out = writing-bounded out (differed_rows by_number n t out) λ g s.
      let s = numbered (canonical eqb (graph.graph_of_rows s)) in
      cond-bounded (subsumes (table_labels n t) eqb eqb (graph.graph_of_rows s) (graph.graph_of_rows g) (length g))
      (cond (all_wanted n t s g) (result_of (written_out (canonical eqb (difference_rows by_number n t g s)) out)) (refusing NoWantedType out))
      (refusing NotBelow out) (length out)
      (cond-bounded (all_wanted n t s g) (result_of (written_out (canonical eqb (difference_rows by_number n t g s)) out)) (refusing NoWantedType out)
      (length out) (written-bounded (canonical eqb (difference_rows by_number n t g s)) out) (refused-bounded NoWantedType 13 refl (length out)))
      (refused-bounded NotBelow 12 refl (length out))

  ordering-bounded : (most : ℕ) → Bounded (ordering n t a b) most
  unfolding ordering ordered
  ordering-bounded most = call-good (λ r. r) (λ (r : Reply). Bounded r most) (λ r h. h most) n t a b (ordered n t) λ s g.
      compared-bounded most (rows_below n t s g) (rows_below n t g s)

  pub answering-bounded : (operation : Operation) (out : List ℕ) → Bounded (answering operation n t a b out).reply (length out)
  answering-bounded Generalize out = generalizing-bounded out
  answering-bounded Unify out = unifying-bounded out
  answering-bounded Difference out = differing-bounded out
  answering-bounded Order out = ordering-bounded (length out)

answered-bounded : (request : Request) → Bounded (answered request).reply 4854
unfolding answered
answered-bounded q l e =
    omega (arith, answering-bounded q.n q.table q.first q.second q.operation (replicate 4854 0) l e, length-replicate {A = ℕ} 4854 0)

-- Every line is short.

side-short : (which : Side) → length (side_text which) ≤ 7
side-short First = omega arith
side-short Second = omega arith

-- the text of counts has at most sixteen bytes
counts-short : (nodes rows : ℕ) → length (counts_text nodes rows) ≤ 16
counts-short nodes rows = simp length-append (omega (arith, decimal-short (nodes % 10000) (omega arith), decimal-short (rows % 10000) (omega arith)))

-- the text of a refusal has at most twelve bytes
pub refused-short : (number : ℕ) → number < 10000 → length (refused_text number) ≤ 12
refused-short number h = omega (arith, decimal-short number h)

answer-short : (k : Answer) (out : List ℕ) → ((l : ℕ) → k ≡ answer.Length l → l ≤ 4854) → number_in k < 256 → length (answer_text k out) ≤ 9716
answer-short (answer.Length l) out h small =
    simp (length-append, length-hexadecimal, length-take) (omega (arith, h l refl, decimal-short l (omega (arith, h l refl))))
answer-short answer.Same out h small = omega arith
answer-short answer.Under out h small = omega arith
answer-short answer.Above out h small = omega arith
answer-short answer.Neither out h small = omega arith
answer-short (answer.Counts nodes rows) out h small = omega (arith, counts-short nodes rows)
answer-short answer.End out h small = omega arith
answer-short (answer.Refused number) out h small = omega (arith, refused-short number (omega arith))
answer-short (answer.RefusedGraph number which) out h small =
    omega (
      arith,
      length-append (refused_text number) (side_text which),
      refused-short number (omega arith),
      side-short which,
    )

reply-short : (reply : Reply) (out : List ℕ) → Bounded reply 4854 → length (reply_text reply out) ≤ 9716
reply-short reply out h = answer-short (answer_of reply) out (answer-bounded reply h) (number_small reply refl)

pub words-short : (request : Option Request) → length (words_for request) ≤ 9716
words-short none = omega arith
words-short (some q) = reply-short (answered q).reply (answered q).output (answered-bounded q)
