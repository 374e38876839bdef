-- Export gives each reply exactly where it is due: 1 to 3, 4 to 7 and 8 in this order, else the counts (document 02, Papers 2 and 7).
use mathlib.Core.Path.{◌≡◌, refl, sym, ◌∙◌, ap, ap₂, subst}
use mathlib.Core.Bool.{Bool, true, cond}
use mathlib.Core.List.{List}
use mathlib.Core.Logic.{◌↔◌, ◌⊎◌, inl, inr, ⊎_elim}
use mathlib.Core.Option.{some}
use Prim.Native.Nat.{ℕ, ◌*◌, ◌≤◌, ◌<◌}
use native.Mathlib.Decide.{dec_le}
use native.Mathlib.Omega.{arith}
use borrow.Author.Tests.{le-leb, leb-true}
use lib.Dec.{leb}
use lib.ListN.{length}
use Rattle.graphs.specs.Rows.{Row}
use Rattle.graphs.specs.Large.{links_in}
use Rattle.graphs.specs.Number.{Canonical, written}
use Rattle.graphs.proofs.Search.{both_true, true-both, not-true-false}
use Rattle.lattice.specs.Label.{Label}
use Rattle.acceptance.specs.declared.TableFault.{TableFault}
use Rattle.acceptance.specs.Reply.{TableAnswer}
use Rattle.std.specs.Prelude.{Ok, Err}
use Rattle.acceptance.specs.Reply as table
use Rattle.record.specs.declared.GraphFault.{GraphFault}
use Rattle.record.specs.Read.{Reading, refused, accepted, reading}
use Rattle.record.proofs.Theorems.{accepted-fits}
use Rattle.rows.specs.declared.Row as lent
use Rattle.rows.specs.Rows.{lent_rows, lent_nodes, filled}
use Rattle.rows.proofs.LentRows.{nodes-length}
use Rattle.rows.proofs.Tables.{lent_length}
use Rattle.replies.specs.declared.Side.TheVariants.{First}
use Rattle.replies.specs.Replies.{Reply}
use Rattle.replies.specs.Replies.{Counts, Table, Graph, NoRoom, TooLarge}
use Rattle.replies.specs.Reply.{refusal}
use Rattle.planning.specs.Exportable.{WrittenForm}
use Rattle.planning.specs.Planning.{Exported, exported_as, fits, exported_form, exported_rows, exported, exporting}
use Rattle.planning.proofs.Due.{Grounds, Due}
use Rattle.planning.proofs.Exports.{exporting-refused, exporting-accepted}

-- The test of room says whether rows and node bytes have room for a form.
fits-exact : (form : List (Row Label)) (rows : List lent.Row) (nodes : List ℕ) → (fits form rows nodes ≡ true) ↔ ((links_in form ≤ length rows) × (length form * 3 ≤ length nodes))
unfolding fits
fits-exact form rows nodes = (
  λ e.
      let (a, b) = both_true (leb (length (lent_rows form)) (length rows)) (leb (length (lent_nodes form)) (length nodes)) e in (
        omega (arith, leb-true (length (lent_rows form)) (length rows) a, lent_length form 0),
        omega (arith, leb-true (length (lent_nodes form)) (length nodes) b, nodes-length form),
      ),
  λ (a, b).
      true-both (leb (length (lent_rows form)) (length rows)) (leb (length (lent_nodes form)) (length nodes))
      (le-leb (length (lent_rows form)) (length rows) (omega (arith, lent_length form 0)))
      (le-leb (length (lent_nodes form)) (length nodes) (omega (arith, nodes-length form))),
)

module _ (n : ℕ) (t bytes : List ℕ) (rows : List lent.Row) (nodes : List ℕ) where
  abbrev Opens : Type 0
  Opens = table.opened n t ≡ Ok tt

  -- "Too few rows or types"
  abbrev Few : List (Row Label) → Type 0
  Few form = (length rows < links_in form) ⊎ (length nodes < length form * 3)

  abbrev Room : List (Row Label) → Type 0
  Room form = (links_in form ≤ length rows) × (length form * 3 ≤ length nodes)

  abbrev grounds : Grounds
  grounds =
      record {
        for-length = λ l. ⊥;
        for-counts = λ a b. Opens × ((form : List (Row Label)) × WrittenForm n bytes form × (length form ≡ a) × (links_in form ≡ b) × Room form);
        for-table = λ fault. table.opened n t ≡ Err fault;
        for-graph = λ fault. Opens × (reading n bytes ≡ refused fault);
        for-room = Opens × ((form : List (Row Label)) × WrittenForm n bytes form × Few form);
        for-unknown = ⊥;
        for-twice = ⊥;
      }

  -- One of these cases holds.
  data Told : Type 0 where
    bad-table : (fault : TableFault) → grounds.for-table fault → Told
    bad-graph : (fault : GraphFault) → grounds.for-graph fault → Told
    few : grounds.for-room → Told
    room : Opens → (form : List (Row Label)) → WrittenForm n bytes form → Room form → Told

  told : Told
  told = tabled (table.opened n t) refl
    where
      lent : Opens → (form : List (Row Label)) → WrittenForm n bytes form → Dec (links_in form ≤ length rows) → Dec (length form * 3 ≤ length nodes) → Told
      lent e form f (no h) k = few (e, (form, f, inl (omega arith)))
      lent e form f (yes h) (no k) = few (e, (form, f, inr (omega arith)))
      lent e form f (yes h) (yes k) = room e form f (h, k)

      read : Opens → (o : Reading) → reading n bytes ≡ o → Told
      read e (refused fault) q = bad-graph fault (e, q)
      read e (accepted graph) q =
          let (form, is) = accepted-fits n bytes graph q in
          lent e form (record { graph = graph; reads = q; is = is }) (dec_le (links_in form) (length rows)) (dec_le (length form * 3) (length nodes))

      tabled : (o : TableAnswer) → table.opened n t ≡ o → Told
      tabled (Err fault) e = bad-table fault e
      tabled (Ok tt) e = read e (reading n bytes) refl

  -- What export gives in each case.

  abbrev result : Exported
  result = exporting n t bytes rows nodes

  table-result : (fault : TableFault) → grounds.for-table fault → result ≡ exported_as (Table fault) rows nodes
  table-result fault e = sym (exporting-refused n t bytes nodes rows fault e)

  graph-result : (fault : GraphFault) → grounds.for-graph fault → result ≡ exported_as (Graph fault First) rows nodes
  graph-result fault (e, q) = sym (exporting-accepted n t bytes nodes rows e) ∙ ap (λ (o : Reading). exported o rows nodes) q

  form-result : Opens → (form : List (Row Label)) → WrittenForm n bytes form → result ≡ exported_form (written form) rows nodes
  unfolding exported_rows
  form-result e form f =
      sym (exporting-accepted n t bytes nodes rows e) ∙ ap (λ (o : Reading). exported o rows nodes) f.reads
      ∙ ap (λ (c : Canonical Label). exported_form c rows nodes) f.is

  room-result : grounds.for-room → result ≡ exported_as NoRoom rows nodes
  room-result (e, (form, f, short)) =
      form-result e form f
      ∙ ap (λ (b : Bool). cond b (exported_as (Counts (length form) (length (lent_rows form))) (filled (lent_rows form) rows) (filled (lent_nodes form) nodes)) (exported_as NoRoom rows nodes))
      (not-true-false (fits form rows nodes) (λ q. let (a, b) = (fits-exact form rows nodes).0 q in ⊎_elim (λ (h : length rows < links_in form). omega arith) (λ (h : length nodes < length form * 3). omega arith) short))

  pub counts-result : Opens → (form : List (Row Label)) → WrittenForm n bytes form → Room form →
      result ≡ exported_as (Counts (length form) (links_in form)) (filled (lent_rows form) rows) (filled (lent_nodes form) nodes)
  counts-result e form f enough =
      form-result e form f
      ∙ ap (λ (b : Bool). cond b (exported_as (Counts (length form) (length (lent_rows form))) (filled (lent_rows form) rows) (filled (lent_nodes form) nodes)) (exported_as NoRoom rows nodes))
      ((fits-exact form rows nodes).1 enough)
      ∙ ap (λ (k : ℕ). exported_as (Counts (length form) k) (filled (lent_rows form) rows) (filled (lent_nodes form) nodes)) (lent_length form 0)

  -- Whichever reply is given, it is due.
  export-due : Due grounds result.reply
  export-due = go told
    where
      by : {r : Reply} {x : List lent.Row} {y : List ℕ} → result ≡ exported_as r x y → Due grounds r → Due grounds result.reply
      by e d = subst (Due grounds) (sym (ap (λ (x : Exported). x.reply) e)) d

      go : Told → Due grounds result.reply
      go (bad-table fault g) = by (table-result fault g) g
      go (bad-graph fault g) = by (graph-result fault g) g
      go (few g) = by (room-result g) g
      go (room e form f enough) = by (counts-result e form f enough) (e, (form, f, refl, refl, enough))

  exact : (r : Reply) → (Due grounds r → result.reply ≡ r) → (result.reply ≡ r) ↔ Due grounds r
  exact r back = (λ e. subst (Due grounds) e export-due, back)

  -- 1 to 3 are given exactly where they are due.
  pub table-exact : (fault : TableFault) → (result.reply ≡ Table fault) ↔ (table.opened n t ≡ Err fault)
  table-exact fault = exact (Table fault) (λ g. ap (λ (x : Exported). x.reply) (table-result fault g))

  -- 4 to 7 are given exactly where they are due.
  pub graph-exact : (fault : GraphFault) → (result.reply ≡ Graph fault First) ↔ (Opens × (reading n bytes ≡ refused fault))
  graph-exact fault = exact (Graph fault First) (λ g. ap (λ (x : Exported). x.reply) (graph-result fault g))

  -- 8 is given exactly where it is due.
  pub room-exact : (result.reply ≡ NoRoom) ↔ (Opens × ((form : List (Row Label)) × WrittenForm n bytes form × Few form))
  room-exact = exact NoRoom (λ g. ap (λ (x : Exported). x.reply) (room-result g))

  -- The counts of nodes and rows are given exactly where no refusal is due.
  pub counts-exact : (a b : ℕ) → (result.reply ≡ Counts a b) ↔
      (Opens × ((form : List (Row Label)) × WrittenForm n bytes form × (length form ≡ a) × (links_in form ≡ b) × Room form))
  counts-exact a b =
      exact (Counts a b) (λ (e, (form, f, p, q, enough)). ap (λ (x : Exported). x.reply) (counts-result e form f enough) ∙ ap₂ Counts p q)

  -- 11 is no reply of export.
  pub never-large : result.reply ≡ TooLarge → ⊥
  never-large e = subst (Due grounds) e export-due

  -- A refusal leaves both outputs as they were.
  pub refused-unchanged : (k : ℕ) → refusal result.reply ≡ some k → (result.rows ≡ rows) × (result.nodes ≡ nodes)
  refused-unchanged k q = go told
    where
      kept : {r : Reply} → result ≡ exported_as r rows nodes → (result.rows ≡ rows) × (result.nodes ≡ nodes)
      kept e = (ap (λ (x : Exported). x.rows) e, ap (λ (x : Exported). x.nodes) e)

      go : Told → (result.rows ≡ rows) × (result.nodes ≡ nodes)
      go (bad-table fault g) = kept (table-result fault g)
      go (bad-graph fault g) = kept (graph-result fault g)
      go (few g) = kept (room-result g)
      go (room e form f enough) =
          let z : ◌≡◌ {A = ℕ} 0 1 = cc (q, ap (λ (x : Exported). refusal x.reply) (counts-result e form f enough)) in absurd (omega arith)
