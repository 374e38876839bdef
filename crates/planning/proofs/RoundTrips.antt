-- What export fills, and both ways round (document 02, Paper 2): "Importing what was exported yields the written record", and exporting what was
-- imported gives the rows of its written form.
use mathlib.Core.Path.{◌≡◌, refl, sym, ◌∙◌, ap, ap₂, subst}
use mathlib.Core.Bool.{Bool, true, false, cond}
use mathlib.Core.List.{List, ◌++◌, Memᴰ}
use mathlib.Core.Logic.{◌↔◌}
use mathlib.Core.Option.{some}
use Prim.Native.Nat.{ℕ, ◌+◌, ◌*◌, ◌/◌, ◌≤◌, ◌<◌}
use native.Mathlib.Omega.{arith}
use native.Mathlib.Nat.{mul-div_cancel}
use borrow.Author.Tests.{eqb-true, eq-eqb}
use lib.Dec.{eqb, leb}
use lib.ListN.{length, get_or, take, drop}
use lib.Seq.{take_at, drop_at, get_or-take, length_front, length-take-le}
use Rattle.std.specs.Prelude.{Ok, Err}
use Rattle.graphs.specs.Graph.{SameMeaning}
use Rattle.graphs.specs.Rows.{Row}
use Rattle.graphs.specs.Large.{links_in}
use Rattle.graphs.specs.Number.{Canonical, canonical, written}
use Rattle.graphs.proofs.Search.{both_true, true-both}
use Rattle.lattice.specs.Label.{Label, is_full}
use Rattle.lattice.specs.Labels.{table_labels}
use Rattle.acceptance.specs.Reply as table
use Rattle.encoder.specs.Encode.{encoded}
use Rattle.encode.specs.declared.Unwritten.TheVariants as unwritten
use Rattle.encode.specs.Encode.{written_out, fitted, yielding}
use Rattle.record.specs.Read.{Reading, accepted, reading, graph_of_rows}
use Rattle.record.proofs.Accepted.{Rules, accepted-rules, accepted-injective}
use Rattle.record.proofs.Rewritten.{rules-read, written-injective}
use Rattle.record.proofs.Theorems.{written-accepted}
use Rattle.rows.specs.declared.Row as lent
use Rattle.rows.specs.Rows.{no_row, label_in, nodes_in, table_rows, lent_rows, lent_nodes, filled}
use Rattle.rows.specs.Faults.{Formed, Earlier}
use Rattle.rows.proofs.LentRows.{nodes-length}
use Rattle.rows.proofs.RoundTrip.{label_of}
use Rattle.rows.proofs.LentOnce.{lent-table, lent-once, lent-known}
use Rattle.rows.proofs.Sorted.{lent-sorted}
use Rattle.rows.proofs.Tables.{lent_length}
use Rattle.rows.proofs.Tests.{all-known-exact, once-exact}
use Rattle.replies.specs.Replies.{Length, Counts}
use Rattle.replies.specs.Reply.{Result, result_of}
use Rattle.engine.specs.Rewriting.{rewritten_rows}
use Rattle.engine.proofs.Tables.{few-types}
use Rattle.calls.specs.Calls.{rewriting}
use Rattle.planning.specs.Planning.{importing_rows, Exported, exported_as, exported_form, exported_rows, exported, exporting}
use Rattle.planning.specs.Importable.{table_graph, Importable}
use Rattle.planning.specs.Exportable.{WrittenForm}
use Rattle.planning.proofs.Exports.{exporting-accepted}
use Rattle.planning.proofs.TableGraph.{table-label, table-link, importable-rules, rules-importable}
use Rattle.planning.proofs.ImportDue as import
use Rattle.planning.proofs.ExportDue as export

-- Rewriting an accepted record writes its graph.
rewriting-is : (n : ℕ) (t bytes : List ℕ) (graph : List (Row Label)) → table.opened n t ≡ Ok tt → reading n bytes ≡ accepted graph → (out : List ℕ) →
    rewriting n t bytes out ≡ rewritten_rows out graph
unfolding rewriting
rewriting-is n t bytes graph opens reads out = rw (opens, reads)

fitted-bytes : (bytes old : List ℕ) (l : ℕ) → (result_of (fitted bytes old)).reply ≡ Length l → take l (result_of (fitted bytes old)).output ≡ bytes
unfolding fitted
fitted-bytes bytes old l = go (leb (length bytes) (length old))
  where
    go : (b : Bool) → (result_of (cond b (yielding (Ok (length bytes)) (bytes ++ drop (length bytes) old)) (yielding (Err unwritten.NoRoom) old))).reply ≡ Length l →
        take l (result_of (cond b (yielding (Ok (length bytes)) (bytes ++ drop (length bytes) old)) (yielding (Err unwritten.NoRoom) old))).output ≡ bytes
    go false e = let z : ◌≡◌ {A = ℕ} 0 1 = cc in absurd (omega arith)
    go true e = let same : length bytes ≡ l = cc in take_at bytes (drop (length bytes) old) l same

-- The rows and node bytes of a written form, as a planning table.
module _ (n : ℕ) (t bytes : List ℕ) (form : List (Row Label)) (w : WrittenForm n bytes form) where
  again : (reading n (encoded form) ≡ accepted form) × (canonical eqb (graph_of_rows form) ≡ written form) × SameMeaning (table_labels n t) (graph_of_rows w.graph) (graph_of_rows form)
  again = written-accepted n t bytes w.graph w.reads form w.is

  rules : Rules n form
  rules = accepted-rules n (encoded form) form again.0

  lent-nodes : nodes_in (lent_nodes form) ≡ length form
  lent-nodes = ap (λ (k : ℕ). k / 3) (nodes-length form) ∙ mul-div_cancel (length form) {n = 3} (omega arith)

  states : table_rows (lent_nodes form) (lent_rows form) ≡ form
  states = lent-table form rules.ordered

  lent-formed : Formed (lent_nodes form) (lent_rows form)
  lent-formed =
      record {
        sized = (
          omega (arith, nodes-length form),
          omega (arith, lent-nodes, rules.nonempty),
          omega (arith, lent-nodes, rules.short),
          omega (arith, lent_length form 0, rules.links),
        );
        known = (all-known-exact (nodes_in (lent_nodes form)) (lent_rows form)).0 (lent-known form rules.ordered (λ r m. (rules.ranged r m).1));
        once = (once-exact (lent_rows form)).0 (lent-once form rules.ordered);
      }

  lent-importable : Importable n (lent_nodes form) (lent_rows form)
  lent-importable = rules-importable (lent_nodes form) (lent_rows form) n lent-formed (subst (Rules n) (sym states) rules)

  lent-imported : table.opened n t ≡ Ok tt → (out : List ℕ) → importing_rows n t (lent_rows form) (lent_nodes form) out ≡ rewriting n t bytes out
  lent-imported opens out =
      import.import-is n t (lent_rows form) (lent_nodes form) out opens lent-importable
      ∙ ap (rewritten_rows out) states
      ∙ ap (λ (c : Canonical Label). result_of (written_out c out)) (again.1 ∙ sym w.is)
      ∙ sym (rewriting-is n t bytes w.graph opens w.reads out)

  -- the record that rewriting writes is read as this form
  pub form-written : table.opened n t ≡ Ok tt → (out : List ℕ) (l : ℕ) → (rewriting n t bytes out).reply ≡ Length l →
      reading n (take l (rewriting n t bytes out).output) ≡ accepted form
  unfolding written_out
  form-written opens out l q =
      let e : rewriting n t bytes out ≡ result_of (fitted (encoded form) out) =
      rewriting-is n t bytes w.graph opens w.reads out ∙ ap (λ (c : Canonical Label). result_of (written_out c out)) w.is in
      ap (λ (r : Result). reading n (take l r.output)) e
      ∙ ap (reading n) (fitted-bytes (encoded form) out l (sym (ap (λ (r : Result). r.reply) e) ∙ q)) ∙ again.0

  -- The record that rewriting writes is exported as the given record is.
  pub form-exported : table.opened n t ≡ Ok tt → (out : List ℕ) (l : ℕ) → (rewriting n t bytes out).reply ≡ Length l →
      (rs : List lent.Row) (ns : List ℕ) → exporting n t (take l (rewriting n t bytes out).output) rs ns ≡ exporting n t bytes rs ns
  unfolding exported_rows
  form-exported opens out l q rs ns =
      sym (exporting-accepted n t (take l (rewriting n t bytes out).output) ns rs opens)
      ∙ ap (λ (o : Reading). exported o rs ns) (form-written opens out l q)
      ∙ ap (λ (c : Canonical Label). exported_form c rs ns) (again.1 ∙ sym w.is)
      ∙ sym (ap (λ (o : Reading). exported o rs ns) w.reads)
      ∙ exporting-accepted n t bytes ns rs opens

full-exact : (l : Label) → (is_full l ≡ true) ↔ ((l.lowest ≡ 0) × (l.highest ≡ 255))
unfolding is_full
full-exact l = (
  λ e. let (a, b) = both_true (eqb l.lowest 0) (eqb l.highest 255) e in (eqb-true l.lowest 0 a, eqb-true l.highest 255 b),
  λ (a, b). true-both (eqb l.lowest 0) (eqb l.highest 255) (eq-eqb l.lowest 0 a) (eq-eqb l.highest 255 b),
)

-- A record has one written form.
same-form : (n : ℕ) (bytes : List ℕ) (form other : List (Row Label)) → WrittenForm n bytes form → WrittenForm n bytes other → form ≡ other
same-form n bytes form other w v =
    let e : w.graph ≡ v.graph = accepted-injective (sym w.reads ∙ v.reads) in
    written-injective (sym w.is ∙ ap (λ (g : List (Row Label)). canonical eqb (graph_of_rows g)) e ∙ v.is)

-- What export fills where it answers counts.
module _ (n : ℕ) (t bytes : List ℕ) (rows : List lent.Row) (nodes : List ℕ) (a b : ℕ) (counts : (exporting n t bytes rows nodes).reply ≡ Counts a b)
    (form : List (Row Label)) (w : WrittenForm n bytes form) where
  abbrev result : Exported
  result = exporting n t bytes rows nodes

  pub export-parts : (table.opened n t ≡ Ok tt) × (length form ≡ a) × (links_in form ≡ b) × (links_in form ≤ length rows) × (length form * 3 ≤ length nodes)
  export-parts =
      let (opens, (other, v, p, q, enough)) = (export.counts-exact n t bytes rows nodes a b).0 counts in
      subst
      (λ (x : List (Row Label)).
      (table.opened n t ≡ Ok tt) × (length x ≡ a) × (links_in x ≡ b) × (links_in x ≤ length rows) × (length x * 3 ≤ length nodes))
      (same-form n bytes other form v w) (opens, p, q, enough.0, enough.1)

  is : result ≡ exported_as (Counts (length form) (links_in form)) (filled (lent_rows form) rows) (filled (lent_nodes form) nodes)
  is = export.counts-result n t bytes rows nodes export-parts.0 form w (export-parts.3, export-parts.4)

  long : length (lent_rows form) ≡ b
  long = lent_length form 0 ∙ export-parts.2

  wide : length (lent_nodes form) ≡ a * 3
  wide = nodes-length form ∙ ap (λ (k : ℕ). k * 3) export-parts.1

  rows_are : result.rows ≡ filled (lent_rows form) rows
  rows_are = ap (λ (x : Exported). x.rows) is

  nodes-are : result.nodes ≡ filled (lent_nodes form) nodes
  nodes-are = ap (λ (x : Exported). x.nodes) is

  -- the rows and node bytes that are filled
  pub filled-rows : take b result.rows ≡ lent_rows form
  filled-rows = ap (take b) rows_are ∙ take_at (lent_rows form) (drop (length (lent_rows form)) rows) b long

  pub filled-nodes : take (a * 3) result.nodes ≡ lent_nodes form
  filled-nodes = ap (take (a * 3)) nodes-are ∙ take_at (lent_nodes form) (drop (length (lent_nodes form)) nodes) (a * 3) wide

  -- The rows and node bytes past those that are filled stay as they were.
  pub other-rows : drop b result.rows ≡ drop b rows
  other-rows =
      ap (drop b) rows_are ∙ drop_at (lent_rows form) (drop (length (lent_rows form)) rows) b long ∙ ap (λ (k : ℕ). drop k rows) long

  pub other-nodes : drop (a * 3) result.nodes ≡ drop (a * 3) nodes
  other-nodes =
      ap (drop (a * 3)) nodes-are ∙ drop_at (lent_nodes form) (drop (length (lent_nodes form)) nodes) (a * 3) wide ∙ ap (λ (k : ℕ). drop k nodes) wide

  pub kept-lengths : (length result.rows ≡ length rows) × (length result.nodes ≡ length nodes)
  kept-lengths = (
    ap length rows_are
        ∙ length_front rows (lent_rows form) (length (lent_rows form)) (sym (length-take-le (length (lent_rows form)) rows (omega (arith, long, export-parts.2, export-parts.3)))),
    ap length nodes-are
        ∙ length_front nodes (lent_nodes form) (length (lent_nodes form))
        (sym (length-take-le (length (lent_nodes form)) nodes (omega (arith, nodes-length form, export-parts.4)))),
  )

  -- "sorted by parent and then feature"
  pub filled-sorted : (i j : ℕ) → i < j → j < b → Earlier (get_or result.rows i no_row) (get_or result.rows j no_row)
  filled-sorted i j h k =
      subst (λ (r : lent.Row). Earlier r (get_or result.rows j no_row)) (at i (omega arith))
      (subst (λ (r : lent.Row). Earlier (get_or (lent_rows form) i no_row) r) (at j k)
      (lent-sorted form (λ r m. ((rules n t bytes form w).ordered r m).0) i j h (omega (arith, long))))
    where
      at : (i : ℕ) → i < b → get_or (lent_rows form) i no_row ≡ get_or result.rows i no_row
      at i l = ap (λ (x : List lent.Row). get_or x i no_row) (sym filled-rows) ∙ get_or-take b result.rows i no_row l

  -- a row is filled exactly where the written record has its link
  pub filled-link : (r : lent.Row) → Memᴰ r (take b result.rows) ↔ ((graph_of_rows form).link r.parent r.feature ≡ some r.target)
  filled-link r =
      let (there, back) = table-link (lent_nodes form) (lent_rows form) (lent-formed n t bytes form w) r.parent r.feature r.target in
      let same : (table_graph (lent_nodes form) (lent_rows form)).link r.parent r.feature ≡ (graph_of_rows form).link r.parent r.feature =
      ap (λ (g : List (Row Label)). (graph_of_rows g).link r.parent r.feature) (states n t bytes form w) in (
        λ m. sym same ∙ back (subst (λ (x : List lent.Row). Memᴰ r x) filled-rows m),
        λ e. subst (λ (x : List lent.Row). Memᴰ r x) (sym filled-rows) (there (same ∙ e)),
      )

  -- the bytes of a node are its label in the written record
  pub filled-label : (v : ℕ) → v < a → label_in result.nodes v ≡ (graph_of_rows form).label v
  filled-label v h =
      label_of (at (v * 3) (omega arith)) (at (v * 3 + 1) (omega arith)) (at (v * 3 + 2) (omega arith))
      ∙ sym (table-label (lent_nodes form) (lent_rows form) v (omega (arith, lent-nodes n t bytes form w, export-parts.1)))
      ∙ ap (λ (g : List (Row Label)). (graph_of_rows g).label v) (states n t bytes form w)
    where
      at : (i : ℕ) → i < a * 3 → get_or result.nodes i 0 ≡ get_or (lent_nodes form) i 0
      at i l = sym (get_or-take (a * 3) result.nodes i 0 l) ∙ ap (λ (x : List ℕ). get_or x i 0) filled-nodes

  -- 0 and 255 stand for the full range
  pub filled-full : (v : ℕ) → v < a → (is_full ((graph_of_rows form).label v) ≡ true) ↔ ((get_or result.nodes (v * 3 + 1) 0 ≡ 0) × (get_or result.nodes (v * 3 + 2) 0 ≡ 255))
  filled-full v h =
      subst (λ (l : Label). (is_full l ≡ true) ↔ ((get_or result.nodes (v * 3 + 1) 0 ≡ 0) × (get_or result.nodes (v * 3 + 2) 0 ≡ 255))) (filled-label v h)
      (full-exact (label_in result.nodes v))

  -- the table that is filled means what the record means
  pub filled-means : SameMeaning (table_labels n t) (graph_of_rows w.graph) (table_graph (take (a * 3) result.nodes) (take b result.rows))
  filled-means =
      subst (λ (g : List (Row Label)). SameMeaning (table_labels n t) (graph_of_rows w.graph) (graph_of_rows g))
      (sym (ap₂ table_rows filled-nodes filled-rows ∙ states n t bytes form w)) (again n t bytes form w).2

-- Export, then import: where export answers counts, importing that many rows and nodes gives the reply and output of rewriting the record.
pub export-import : (n : ℕ) (t bytes : List ℕ) (rows : List lent.Row) (nodes : List ℕ) (a b : ℕ) → (exporting n t bytes rows nodes).reply ≡ Counts a b → (out : List ℕ) →
    importing_rows n t (take b (exporting n t bytes rows nodes).rows) (take (a * 3) (exporting n t bytes rows nodes).nodes) out ≡ rewriting n t bytes out
export-import n t bytes rows nodes a b counts out =
    let (opens, (form, w, _, _, _)) = (export.counts-exact n t bytes rows nodes a b).0 counts in
    ap₂ (λ (x : List lent.Row) (y : List ℕ). importing_rows n t x y out) (filled-rows n t bytes rows nodes a b counts form w)
    (filled-nodes n t bytes rows nodes a b counts form w)
    ∙ lent-imported n t bytes form w opens out

-- Facts on an import that answers a length.
module _ (n : ℕ) (t : List ℕ) (rows : List lent.Row) (nodes out : List ℕ) (l : ℕ) (told : (importing_rows n t rows nodes out).reply ≡ Length l) where
  abbrev bytes : List ℕ
  bytes = take l (importing_rows n t rows nodes out).output

  -- Import writes the written record of the planning table's graph.
  pub imported-bytes : (form : List (Row Label)) → canonical eqb (table_graph nodes rows) ≡ written form → bytes ≡ encoded form
  imported-bytes form e =
      let (opens, ok, (other, q, (is, h))) = (import.length-exact n t rows nodes out l).0 told in
      ap (λ (r : Result). take l r.output) (import.length-result n t rows nodes out opens ok other q h)
      ∙ take_at (encoded other) (drop (length (encoded other)) out) l is ∙ ap encoded (written-injective (sym q ∙ e))

  pub imported-form : (form : List (Row Label)) → canonical eqb (table_graph nodes rows) ≡ written form → WrittenForm n bytes form
  imported-form form e =
      let (opens, ok, _) = (import.length-exact n t rows nodes out l).0 told in
      let rules = importable-rules nodes rows n (few-types n t (table.opened n t) refl opens) ok in
      let (reads, again, _) = written-accepted n t (encoded (table_rows nodes rows)) (table_rows nodes rows) (rules-read n (table_rows nodes rows) rules) form e in
      record { graph = form; reads = ap (reading n) (imported-bytes form e) ∙ reads; is = again }

  -- Import, then export: what import wrote is exported as the rows of the planning table's graph, sorted, with the numbers of the written record.
  pub import-export : (rs : List lent.Row) (ns : List ℕ) → exporting n t bytes rs ns ≡ exported_rows (table_rows nodes rows) rs ns
  unfolding exported_rows
  import-export rs ns =
      let (opens, _, (form, e, _)) = (import.length-exact n t rows nodes out l).0 told in
      let w = imported-form form e in
      sym (exporting-accepted n t bytes ns rs opens) ∙ ap (λ (o : Reading). exported o rs ns) w.reads
      ∙ ap (λ (c : Canonical Label). exported_form c rs ns) (w.is ∙ sym e)
