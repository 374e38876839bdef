-- Import writes what rewriting writes for a record with the rows of the planning table's graph, so what is demanded of rewriting holds for import
-- (document 02, Paper 2).
use mathlib.Core.Path.{◌≡◌, refl, sym, ◌∙◌, ap, subst}
use mathlib.Core.List.{List}
use mathlib.Core.Logic.{◌↔◌, ⊎_elim}
use mathlib.Core.Option.{some}
use Prim.Native.Nat.{ℕ, ◌≤◌, ◌<◌}
use lib.Dec.{eqb}
use lib.ListN.{length, take}
use Rattle.graphs.specs.Graph.{Graph, SameMeaning}
use Rattle.graphs.specs.Rows.{Row}
use Rattle.graphs.specs.Number.{canonical, written}
use Rattle.lattice.specs.Label.{Label}
use Rattle.std.specs.Prelude.{Ok}
use Rattle.acceptance.specs.Reply.{opened}
use Rattle.lattice.specs.Labels.{table_labels}
use Rattle.encoder.specs.Encode.{encoded}
use Rattle.record.specs.Read.{reading, accepted, graph_of_rows}
use Rattle.record.proofs.Rewritten.{rules-read}
use Rattle.rows.specs.declared.Row as lent
use Rattle.rows.specs.Rows.{table_rows}
use Rattle.replies.specs.Replies.{Length, NoRoom}
use Rattle.replies.specs.Reply.{Result}
use Rattle.engine.proofs.Tables.{few-types}
use Rattle.calls.specs.Calls.{rewriting}
use Rattle.planning.specs.Planning.{importing_rows}
use Rattle.planning.specs.Importable.{table_graph, Importable}
use Rattle.planning.proofs.TableGraph.{importable-rules}
use Rattle.planning.proofs.ImportDue as due
use Rattle.demands.specs.Lent.{Lent}
use Rattle.demands.specs.Demand.{Given, form_bytes, record_of, writing, RecordOf, Leaves, Rewritten}
use Rattle.demands.proofs.Results.{rewriting-is, result-record, record-form}
use Rattle.demands.proofs.Demanded.Output as Output
use Rattle.demands.proofs.Demanded.Meaning as Meaning

-- A record that has the rows of the planning table's graph.
abbrev table_record : List ℕ → List lent.Row → List ℕ
table_record nodes rows = encoded (table_rows nodes rows)

module _ (n : ℕ) (t nodes : List ℕ) (rows : List lent.Row) (lends : Lent n t nodes rows) where
  reads : reading n (table_record nodes rows) ≡ accepted (table_rows nodes rows)
  reads = rules-read n (table_rows nodes rows) (importable-rules nodes rows n (few-types n t (opened n t) refl lends.opens) lends.importable)

  as-rewriting : (out : List ℕ) → importing_rows n t rows nodes out ≡ rewriting n t (table_record nodes rows) out
  as-rewriting out =
      due.import-is n t rows nodes out lends.opens lends.importable ∙ sym (rewriting-is n t (table_record nodes rows) (table_rows nodes rows) lends.opens reads out)

  -- Import writes the planning table's graph.
  pub import-written : (out : List ℕ) → importing_rows n t rows nodes out ≡ writing (record_of eqb (table_graph nodes rows)) out
  import-written out = due.import-is n t rows nodes out lends.opens lends.importable ∙ result-record eqb (table_graph nodes rows) out

-- What holds for the length of a graph's record holds for the length of its written form's bytes, and the other way round.
module _ (k : Graph Label ℕ) (P : ℕ → Type 0) where
  form-record : (form : List (Row Label)) × (canonical eqb k ≡ written form) × P (length (encoded form)) →
      (bytes : List ℕ) × (record_of eqb k ≡ some bytes) × P (length bytes)
  form-record (form, e, holds) = (encoded form, ap form_bytes e, holds)

  record-length : (bytes : List ℕ) × (record_of eqb k ≡ some bytes) × P (length bytes) →
      (form : List (Row Label)) × (canonical eqb k ≡ written form) × P (length (encoded form))
  record-length (bytes, e, holds) =
      let (form, q, is) = record-form eqb k bytes e in
      (form, q, subst (λ (b : List ℕ). P (length b)) (sym is) holds)

-- 8 and a length are each answered exactly where they are due.
module _ (n : ℕ) (t nodes : List ℕ) (rows : List lent.Row) (out : List ℕ) where
  pub room-exact : ((importing_rows n t rows nodes out).reply ≡ NoRoom) ↔
      ((opened n t ≡ Ok tt) × Importable n nodes rows × ((bytes : List ℕ) × (record_of eqb (table_graph nodes rows) ≡ some bytes) × (length out < length bytes)))
  room-exact =
      let (there, back) = due.room-exact n t rows nodes out in (
        λ q. let (opens, importable, found) = there q in (opens, importable, form-record (table_graph nodes rows) (λ m. length out < m) found),
        λ (opens, importable, found). back (opens, importable, record-length (table_graph nodes rows) (λ m. length out < m) found),
      )

  pub length-exact : (l : ℕ) → ((importing_rows n t rows nodes out).reply ≡ Length l) ↔
      ((opened n t ≡ Ok tt) × Importable n nodes rows ×
      ((bytes : List ℕ) × (record_of eqb (table_graph nodes rows) ≡ some bytes) × ((length bytes ≡ l) × (length bytes ≤ length out))))
  length-exact l =
      let (there, back) = due.length-exact n t rows nodes out l in (
        λ q.
            let (opens, importable, found) = there q in
            (opens, importable, form-record (table_graph nodes rows) (λ m. (m ≡ l) × (m ≤ length out)) found),
        λ (opens, importable, found). back (opens, importable, record-length (table_graph nodes rows) (λ m. (m ≡ l) × (m ≤ length out)) found),
      )

-- A length is answered only for a planning table to which no refusal before 8 applies.
pub length-lent : (n : ℕ) (t nodes : List ℕ) (rows : List lent.Row) (out : List ℕ) (l : ℕ) → (importing_rows n t rows nodes out).reply ≡ Length l → Lent n t nodes rows
length-lent n t nodes rows out l q =
    let (opens, importable, _) = (due.length-exact n t rows nodes out l).0 q in record { opens = opens; importable = importable }

-- What import leaves in the output, whatever is lent.
pub import-leaves : (n : ℕ) (t nodes : List ℕ) (rows : List lent.Row) (out : List ℕ) → Leaves n out (importing_rows n t rows nodes out)
import-leaves n t nodes rows out =
    ⊎_elim (λ (r, k, e, is). subst (Leaves n out) (sym is) (Output.refusing-leaves n out r k e))
    (λ (opens, importable).
    subst (Leaves n out) (sym (as-rewriting n t nodes rows (record { opens = opens; importable = importable }) out)) (Output.rewriting-leaves n t out (table_record nodes rows)))
    (due.refused-or-written n t rows nodes out)

-- the record beside a length
module _ (n : ℕ) (t nodes : List ℕ) (rows : List lent.Row) (out : List ℕ) (l : ℕ) (q : (importing_rows n t rows nodes out).reply ≡ Length l) where
  lends : Lent n t nodes rows
  lends = length-lent n t nodes rows out l q

  is : importing_rows n t rows nodes out ≡ rewriting n t (table_record nodes rows) out
  is = as-rewriting n t nodes rows lends out

  rewritten : Rewritten n t (table_record nodes rows) (table_rows nodes rows) (take l (importing_rows n t rows nodes out).output)
  rewritten =
      subst (λ (r : Result). Rewritten n t (table_record nodes rows) (table_rows nodes rows) (take l r.output)) (sym is)
      (Meaning.written-again n t (table_record nodes rows) (table_rows nodes rows) lends.opens (reads n t nodes rows lends) out l
      (sym (ap (λ (r : Result). r.reply) is) ∙ q))

  pub import-means : RecordOf n t (table_graph nodes rows) (take l (importing_rows n t rows nodes out).output) ×
      ((room : List ℕ) → rewriting n t (take l (importing_rows n t rows nodes out).output) room ≡ importing_rows n t rows nodes room)
  import-means = (
    rewritten.is-record,
    λ room. rewritten.again room ∙ sym (as-rewriting n t nodes rows lends room),
  )

-- Equal meaning of a planning table and an accepted record.
module _ (n : ℕ) (t nodes : List ℕ) (rows : List lent.Row) (lends : Lent n t nodes rows) (a : List ℕ) (g : List (Row Label)) (reads-a : reading n a ≡ accepted g) where
  given : Given n t (table_record nodes rows) a (table_rows nodes rows) g
  given = record { opens = lends.opens; first = reads n t nodes rows lends; second = reads-a }

  pub record-bytes : (out : List ℕ) (l m : ℕ) → (importing_rows n t rows nodes out).reply ≡ Length l → (rewriting n t a out).reply ≡ Length m →
      SameMeaning (table_labels n t) (table_graph nodes rows) (graph_of_rows g) ↔
      (take l (importing_rows n t rows nodes out).output ≡ take m (rewriting n t a out).output)
  record-bytes out l m p q =
      let e = as-rewriting n t nodes rows lends out in
      subst
      (λ (r : Result).
      SameMeaning (table_labels n t) (table_graph nodes rows) (graph_of_rows g) ↔ (take l r.output ≡ take m (rewriting n t a out).output))
      (sym e) (Meaning.bytes-exact n t (table_record nodes rows) a (table_rows nodes rows) g given out l m (sym (ap (λ (r : Result). r.reply) e) ∙ p) q)

  pub record-meaning : SameMeaning (table_labels n t) (table_graph nodes rows) (graph_of_rows g) ↔
      ((out : List ℕ) → importing_rows n t rows nodes out ≡ rewriting n t a out)
  record-meaning =
      let (there, back) = Meaning.meaning-exact n t (table_record nodes rows) a (table_rows nodes rows) g given in (
        λ m out. as-rewriting n t nodes rows lends out ∙ there m out,
        λ all. back (λ out. sym (as-rewriting n t nodes rows lends out) ∙ all out),
      )

-- Equal meaning of two planning tables.
module _ (n : ℕ) (t nodes nodes' : List ℕ) (rows rows' : List lent.Row) (lends : Lent n t nodes rows) (lends' : Lent n t nodes' rows') where
  pub table-bytes : (out : List ℕ) (l m : ℕ) → (importing_rows n t rows nodes out).reply ≡ Length l → (importing_rows n t rows' nodes' out).reply ≡ Length m →
      SameMeaning (table_labels n t) (table_graph nodes rows) (table_graph nodes' rows') ↔
      (take l (importing_rows n t rows nodes out).output ≡ take m (importing_rows n t rows' nodes' out).output)
  table-bytes out l m p q =
      let e = as-rewriting n t nodes' rows' lends' out in
      subst
      (λ (r : Result).
      SameMeaning (table_labels n t) (table_graph nodes rows) (table_graph nodes' rows') ↔ (take l (importing_rows n t rows nodes out).output ≡ take m r.output))
      (sym e)
      (record-bytes n t nodes rows lends (table_record nodes' rows') (table_rows nodes' rows') (reads n t nodes' rows' lends') out l m p
      (sym (ap (λ (r : Result). r.reply) e) ∙ q))

  pub table-meaning : SameMeaning (table_labels n t) (table_graph nodes rows) (table_graph nodes' rows') ↔
      ((out : List ℕ) → importing_rows n t rows nodes out ≡ importing_rows n t rows' nodes' out)
  table-meaning =
      let (there, back) = record-meaning n t nodes rows lends (table_record nodes' rows') (table_rows nodes' rows') (reads n t nodes' rows' lends') in (
        λ m out. there m out ∙ sym (as-rewriting n t nodes' rows' lends' out),
        λ all. back (λ out. all out ∙ as-rewriting n t nodes' rows' lends' out),
      )
