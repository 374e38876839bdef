-- The promises of reading, of renumbering and of the difference give the promise for two records. Renumbering leaves words with the rows of s in
-- written form.
use mathlib.Core.Path.{◌≡◌, refl, sym, ◌∙◌, ap, ap₂, subst}
use mathlib.Core.Bool.{Bool}
use mathlib.Core.List.{List, [], Memᴰ}
use Prim.Native.Nat.{ℕ, ◌<◌}
use native.Mathlib.Omega.{arith}
use lib.Dec.{eqb}
use Rattle.std.specs.Prelude.{Ok, Err}
use Rattle.graphs.specs.Rows.{Row}
use Rattle.graphs.specs.Number.{canonical}
use Rattle.graphs.proofs.Lists.{tells-eqb}
use Rattle.lattice.specs.Label.{Label}
use Rattle.lattice.specs.Labels.{Known}
use Rattle.layout.specs.Layout.{size, label_at, links_at, graph_of_rows, rows_of, graph_in}
use Rattle.layout.proofs.Rows.{rows-member}
use Rattle.encoder.specs.Encode.{encoded}
use Rattle.numbering.specs.Copies.{Renumbers}
use Rattle.record.specs.Read.{reading}
use Rattle.record.specs.Reads.{Acceptable, Loaded}
use Rattle.record.proofs.Accepted.{Rules, accepted-rules, rules-of-any-size, rules-types, rules-fit}
use Rattle.record.proofs.Loaded.{loaded-rules}
use Rattle.record.proofs.Rewritten.{form-rules, rules-read}
use Rattle.link_orders.specs.LinkOrders.{earlier_by}
use Rattle.difference.specs.declared.Options.{Options}
use Rattle.difference.specs.Difference.{differed, differed_rows, numbered}
use Rattle.difference.specs.Explained.{Explained, explained_result, with_reasons_if, reasons_rows, differed_words}
use Rattle.difference.proofs.Answering.{refuses-with-reasons}
use Rattle.replies.specs.declared.Refusal.{Refusal}
use Rattle.replies.specs.Reply.{Result, refusing}
use Rattle.replies.proofs.Told.{refused-no-length}
use Rattle.pairs.specs.Pair.{PairVerdict, ReadsBoth}
use Rattle.pairs.proofs.Readings.{both-next, both-refused}
use Rattle.engine.specs.Differing.{parting_with, reasons_of}

-- The words hold the written form of the graph with these rows, and its record is accepted.
pub record Renumbered (n : ℕ) (rows : List (Row Label)) (ws : List ℕ) : Type 0 where
  pub loaded : Loaded n ws
  pub rows_are : rows_of ws ≡ numbered (canonical eqb (graph_of_rows rows))

-- If the words hold accepted rows, the labels in the words are labels of the table.
rows-typed : {n : ℕ} {form : List (Row Label)} (ws : List ℕ) → Rules n form → rows_of ws ≡ form → (v : ℕ) → v < size ws → Known n (label_at ws v)
rows-typed ws rules same v h =
    (rules.ranged (label_at ws v, links_at ws v)
    (subst (λ (rs : List (Row Label)). Memᴰ {A = Row Label} (label_at ws v, links_at ws v) rs) same
    (rows-member ws (size ws) 0 v v (omega arith) h))).0.1

pub renumbered : (n : ℕ) (g : List ℕ) → Loaded n g → {answer : Bool} {ws : List ℕ} →
    Renumbers (canonical eqb (graph_in g)) answer ws → Renumbered n (rows_of g) ws
renumbered n g given {ws = ws} holds =
    let rules = loaded-rules given in
    let (form, fits) = rules-fit n (rows_of g) rules in
    let is : Acceptable n form =
    rules-read n form (form-rules n [] eqb tells-eqb (graph_in g) (rules-of-any-size n (rows_of g) rules []) form fits
    (rules-types n (rows_of g) rules)) in
    let same = holds.rows_are form fits in
    record {
      loaded =
          record {
            acceptable = subst (Acceptable n) (sym same) is;
            sound = holds.sound form fits;
            small = holds.small form fits;
            typed = λ v h. rows-typed ws (accepted-rules n (encoded form) form is) same v h;
          };
      rows_are = same ∙ sym (ap numbered fits);
    }

module _ (options : Options) (n : ℕ) (t a b out old : List ℕ) {v : PairVerdict} {g s : List ℕ}
    (reads : ReadsBoth n (reading n a) (reading n b) v g s) where
  -- If a record is refused, the reply is the refusal 4 to 7.
  pub parting-refused : (refusal : Refusal) → v ≡ Err refusal →
      explained_result (Err refusal) out old ≡ parting_with options n t a b out old
  parting-refused refusal e =
      refuses-with-reasons options.explained (Err refusal) (reasons_of (earlier_by options.order) n t a b) out old (refused-no-length refusal)
      (sym (both-refused reads (λ r. refusing r out) (differed_rows (earlier_by options.order) n t out) refusal e))

  -- If both records are accepted, the result is that of the difference of the graphs in words.
  pub parting-both : v ≡ Ok tt → (h : List ℕ) → rows_of h ≡ numbered (canonical eqb (graph_of_rows (rows_of s))) → {x : Explained} →
      x ≡ differed_words options n t g h out old → x ≡ parting_with options n t a b out old
  unfolding reasons_of differed_rows
  parting-both both h rows_are e =
      let earlier = earlier_by options.order in
      e ∙ ap₂ (λ (p : Result) (rs : List ℕ). with_reasons_if options.explained p rs out old)
      (ap (differed earlier n t out (rows_of g)) rows_are ∙ sym (both-next reads (λ r. refusing r out) (differed_rows earlier n t out) both))
      (ap (reasons_rows earlier n t (rows_of g)) rows_are ∙
      sym (both-next reads (λ r. []) (λ g s. reasons_rows earlier n t g (numbered (canonical eqb (graph_of_rows s)))) both))
