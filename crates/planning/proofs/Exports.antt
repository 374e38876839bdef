-- What export does in each case: a refusal, or the rows and node bytes of the written form.
use mathlib.Core.Path.{◌≡◌, refl, sym, ◌∙◌, ap, ap₂}
use mathlib.Core.Bool.{Bool, true, false, cond, ◌&&◌}
use mathlib.Core.List.{List}
use mathlib.Core.Option.{some}
use Prim.Native.Nat.{ℕ, ◌*◌, ◌≤◌, ◌<◌}
use native.Mathlib.Omega.{arith}
use borrow.Author.Tests.{le-leb, lt-leb}
use lib.Dec.{eqb, leb}
use lib.ListN.{length}
use Rattle.std.specs.Prelude.{Ok, Err}
use Rattle.graphs.specs.Graph.{Reached}
use Rattle.graphs.specs.Rows.{Row}
use Rattle.graphs.specs.Large.{links_in}
use Rattle.graphs.specs.Number.{Canonical, canonical, many_nodes, many_links, written}
use Rattle.graphs.proofs.Lists.{tells-eqb}
use Rattle.graphs.proofs.Form.Rules.{form-links}
use Rattle.graphs.proofs.Search.{true-false}
use Rattle.lattice.specs.Label.{Label}
use Rattle.acceptance.specs.declared.TableFault.{TableFault}
use Rattle.acceptance.specs.Reply as table
use Rattle.layout.specs.Layout.{Sound, size, rows_of, graph_in}
use Rattle.layout.proofs.Places.{link-known}
use Rattle.layout.proofs.Reaching.{reached-inside}
use Rattle.layout.proofs.Rows.{length-rows}
use Rattle.numbering.specs.Copies.{Renumbers}
use Rattle.record.specs.declared.GraphFault.{GraphFault}
use Rattle.record.specs.Read.{Reading, reading}
use Rattle.record.specs.Reads.{ReadsAs, Verdict}
use Rattle.rows.specs.declared.Row as lent
use Rattle.rows.specs.Rows.{filled, lent_rows, lent_nodes}
use Rattle.rows.specs.Lending.{Lendable}
use Rattle.rows.proofs.LentRows.{nodes-length}
use Rattle.rows.proofs.Tables.{lent_length}
use Rattle.replies.specs.declared.Side.TheVariants.{First}
use Rattle.replies.specs.Replies.{Counts, Graph, NoRoom, Table, TooLarge}
use Rattle.pairs.proofs.Readings.{told-accepted, told-refused}
use Rattle.calls.proofs.Tables.{table-refused, table-accepted}
use Rattle.planning.specs.Planning.{Exported, exported_as, fits, exported_form, exported_rows, exported, exporting}

-- The export of a graph in words.
module _ {ws : List ℕ} (sound : Sound ws) {b : Bool} {new : List ℕ} (r : Renumbers (canonical eqb (graph_in ws)) b new) where
  narrow : (v w f : ℕ) → Reached (graph_in ws) v → (graph_in ws).link v f ≡ some w → f < 64
  narrow v w f reached e = (link-known sound v f w (reached-inside sound v reached) e).0

  -- the written form, where there is one
  form : b ≡ true → canonical eqb (graph_in ws) ≡ written (rows_of new)
  form is = go (canonical eqb (graph_in ws)) refl
    where
      go : (c : Canonical Label) → canonical eqb (graph_in ws) ≡ c → canonical eqb (graph_in ws) ≡ written (rows_of new)
      go many_nodes e = true-false is (r.many-nodes e)
      go many_links e = true-false is (r.many-links e)
      go (written rows) e = e ∙ ap (λ (x : List (Row Label)). written x) (sym (r.rows_are rows e))

  pub export-large : b ≡ false → (rows : List lent.Row) (nodes : List ℕ) → exported_as TooLarge rows nodes ≡ exported_rows (rows_of ws) rows nodes
  unfolding exported_rows
  export-large is rows nodes = go (canonical eqb (graph_in ws)) refl
    where
      go : (c : Canonical Label) → canonical eqb (graph_in ws) ≡ c → exported_as TooLarge rows nodes ≡ exported_form (canonical eqb (graph_in ws)) rows nodes
      go many_nodes e = sym (ap (λ (x : Canonical Label). exported_form x rows nodes) e)
      go many_links e = sym (ap (λ (x : Canonical Label). exported_form x rows nodes) e)
      go (written rs) e = true-false (r.answers rs e) is

  module _ (is : b ≡ true) where
    pub lendable : Lendable new
    lendable =
        record {
          sound = r.sound (rows_of new) (form is);
          small = r.small (rows_of new) (form is);
          short = form-links eqb tells-eqb (graph_in ws) narrow (rows_of new) (form is);
        }

    links-are : links_in (rows_of new) ≡ length (lent_rows (rows_of new))
    links-are = sym (lent_length (rows_of new) 0)

    bytes-are : size new * 3 ≡ length (lent_nodes (rows_of new))
    bytes-are = sym (nodes-length (rows_of new) ∙ ap (λ (n : ℕ). n * 3) (length-rows new 0 (size new)))

    module _ (rows : List lent.Row) (nodes : List ℕ) where
      abbrev full : Exported
      full = exported_as (Counts (length (rows_of new)) (length (lent_rows (rows_of new)))) (filled (lent_rows (rows_of new)) rows) (filled (lent_nodes (rows_of new)) nodes)

      fitted : exported_rows (rows_of ws) rows nodes ≡ cond (fits (rows_of new) rows nodes) full (exported_as NoRoom rows nodes)
      unfolding exported_rows
      fitted = ap (λ (x : Canonical Label). exported_form x rows nodes) (form is)

      -- 8 is given where rows or node bytes are too few.
      pub export-few-rows : length rows < links_in (rows_of new) → exported_as NoRoom rows nodes ≡ exported_rows (rows_of ws) rows nodes
      unfolding fits
      export-few-rows h =
          sym (fitted ∙ ap (λ (t : Bool). cond (t && leb (length (lent_nodes (rows_of new))) (length nodes)) full (exported_as NoRoom rows nodes))
          (lt-leb (length (lent_rows (rows_of new))) (length rows) (omega (arith, links-are))))

      pub export-few-bytes : links_in (rows_of new) ≤ length rows → length nodes < size new * 3 → exported_as NoRoom rows nodes ≡ exported_rows (rows_of ws) rows nodes
      unfolding fits
      export-few-bytes k h =
          sym (fitted ∙ ap₂ (λ (t u : Bool). cond (t && u) full (exported_as NoRoom rows nodes))
          (le-leb (length (lent_rows (rows_of new))) (length rows) (omega (arith, links-are)))
          (lt-leb (length (lent_nodes (rows_of new))) (length nodes) (omega (arith, bytes-are))))

      pub export-full : links_in (rows_of new) ≤ length rows → size new * 3 ≤ length nodes → full ≡ exported_rows (rows_of ws) rows nodes
      unfolding fits
      export-full k h =
          sym (fitted ∙ ap₂ (λ (t u : Bool). cond (t && u) full (exported_as NoRoom rows nodes))
          (le-leb (length (lent_rows (rows_of new))) (length rows) (omega (arith, links-are)))
          (le-leb (length (lent_nodes (rows_of new))) (length nodes) (omega (arith, bytes-are))))

    -- Rows and node bytes are filled where there is room.
    pub export-filled : {count links : ℕ} (rows : List lent.Row) {filling : List lent.Row} (nodes : List ℕ) {bytes : List ℕ} → links ≡ links_in (rows_of new) →
        count ≡ size new → links_in (rows_of new) ≤ length rows → size new * 3 ≤ length nodes → filling ≡ filled (lent_rows (rows_of new)) rows →
        bytes ≡ filled (lent_nodes (rows_of new)) nodes → exported_as (Counts count links) filling bytes ≡ exported_rows (rows_of ws) rows nodes
    export-filled {count} {links} rows {filling} nodes {bytes} l c enough room lends fills =
        ap₂ (λ (x y : ℕ). exported_as (Counts x y) filling bytes) (c ∙ sym (length-rows new 0 (size new))) (l ∙ links-are)
        ∙ ap₂ (λ (x : List lent.Row) (y : List ℕ). exported_as (Counts (length (rows_of new)) (length (lent_rows (rows_of new)))) x y) lends fills
        ∙ export-full rows nodes enough room

-- The export of a record.
module _ {n : ℕ} {o : Reading} {v : Verdict} {ws : List ℕ} (tells : ReadsAs n o v ws) (nodes : List ℕ) where
  pub read-refused : (fault : GraphFault) → v ≡ Err fault → (rows : List lent.Row) → exported_as (Graph fault First) rows nodes ≡ exported o rows nodes
  read-refused fault e rows = sym (ap (λ (i : Reading). exported i rows nodes) (told-refused tells fault e))

  pub read-accepted : v ≡ Ok tt → (rows : List lent.Row) → exported_rows (rows_of ws) rows nodes ≡ exported o rows nodes
  read-accepted e rows = sym (ap (λ (i : Reading). exported i rows nodes) (told-accepted tells e).is)

-- The table's 1 to 3 come before that.
module _ (n : ℕ) (t bytes nodes : List ℕ) (rows : List lent.Row) where
  pub exporting-refused : (fault : TableFault) → table.opened n t ≡ Err fault → exported_as (Table fault) rows nodes ≡ exporting n t bytes rows nodes
  unfolding exporting
  exporting-refused fault e = sym (table-refused (λ r. exported_as r rows nodes) (exported (reading n bytes) rows nodes) fault e)

  pub exporting-accepted : table.opened n t ≡ Ok tt → exported (reading n bytes) rows nodes ≡ exporting n t bytes rows nodes
  unfolding exporting
  exporting-accepted e = sym (table-accepted (λ r. exported_as r rows nodes) (exported (reading n bytes) rows nodes) e)
