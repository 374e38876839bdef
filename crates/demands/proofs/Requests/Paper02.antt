-- Paper 2: rows from the planning tool, with Paper 7's three bytes for each node. `rows` and `nodes` are the planning table, its rows and its
-- node bytes: import reads them, and export fills them. `bytes` is the record that is exported. `Faults` of crate `rows` defines what 4, 14 and
-- 15 mean for a planning table, `Importable` of crate `planning` what 5, 6 and 7 mean.
use mathlib.Core.Path.{◌≡◌, refl}
use mathlib.Core.Bool.{true}
use mathlib.Core.List.{List, Memᴰ}
use mathlib.Core.Logic.{◌↔◌, ◌⊎◌}
use mathlib.Core.Option.{some}
use Prim.Native.Nat.{ℕ, ◌+◌, ◌*◌, ◌≤◌, ◌<◌}
use lib.Dec.{eqb}
use lib.ListN.{length, get_or, take, drop}
use Rattle.graphs.specs.Graph.{SameMeaning}
use Rattle.graphs.specs.Rows.{Row}
use Rattle.graphs.specs.Large.{links_in}
use Rattle.graphs.specs.Number.{canonical, written}
use Rattle.acceptance.specs.declared.TableFault.{TableFault}
use Rattle.std.specs.Prelude.{Ok, Err}
use Rattle.lattice.specs.Label.{Label, is_full}
use Rattle.lattice.specs.Labels.{table_labels}
use Rattle.acceptance.specs.Reply.{opened}
use Rattle.record.specs.declared.GraphFault.{GraphFault}
use Rattle.record.specs.declared.GraphFault.TheVariants.{Malformed, OutOfRange, Cyclic, Unreached}
use Rattle.record.specs.Read.{reading, refused, accepted, graph_of_rows}
use Rattle.rows.specs.declared.Row as lent
use Rattle.rows.specs.Rows.{no_row, label_in, nodes_in, table_rows}
use Rattle.rows.specs.Faults.{Sized, Unsized, KnownRow, UnknownRow, Twice, Formed, Earlier}
use Rattle.rows.specs.Reordered.{Reordered, SameMembers}
use Rattle.replies.specs.declared.Side.TheVariants.{First}
use Rattle.replies.specs.Replies.{Length, Counts, Table, Graph as Refusal, NoRoom, TooLarge, RowOutOfRange, RowTwice}
use Rattle.replies.specs.Reply.{refusal}
use Rattle.calls.specs.Calls.{rewriting}
use Rattle.planning.specs.Planning.{importing_rows, exported_rows, exporting}
use Rattle.planning.specs.Importable.{table_graph, OutsideLabel, InsideLabel, Loops, Unreachable, Importable}
use Rattle.planning.specs.Exportable.{WrittenForm}
use Rattle.planning.proofs.Theorems as Order
use Rattle.planning.proofs.TableGraph as Stated
use Rattle.planning.proofs.ImportDue as Import
use Rattle.planning.proofs.ExportDue as Export
use Rattle.planning.proofs.RoundTrips as Trips
use Rattle.demands.specs.Lent.{Lent}
use Rattle.demands.specs.Demand.{record_of, writing, RecordOf, Leaves}
use Rattle.demands.proofs.Demanded.Imported as Imported

-- The graph of a planning table.

module _ (nodes : List ℕ) (rows : List lent.Row) where
  -- Node 0 is the root: "the root being node 0".
  pub table-root : (table_graph nodes rows).root ≡ 0
  table-root = refl

  -- The three bytes of a node are its label: "each node's type becomes three bytes, type, lowest and highest".
  pub table-label : (v : ℕ) → v < nodes_in nodes →
      (table_graph nodes rows).label v ≡ record { type = get_or nodes (v * 3) 0; lowest = get_or nodes (v * 3 + 1) 0; highest = get_or nodes (v * 3 + 2) 0 }
  table-label = Stated.table-label nodes rows

  -- Node v has a link by f to w exactly when some row says so: "its links as a table of rows, each a parent, a feature and a target".
  pub table-link : Formed nodes rows → (v f w : ℕ) →
      ((table_graph nodes rows).link v f ≡ some w) ↔ Memᴰ (record { parent = v; feature = f; target = w }) rows
  table-link = Stated.table-link nodes rows

-- "Import writes the written record of that graph": what demand 2 says of rewriting holds for import.

module _ (n : ℕ) (t nodes : List ℕ) (rows : List lent.Row) (lends : Lent n t nodes rows) where
  -- Import writes the record of the graph, or answers 8 where the output is shorter.
  pub import-written : (out : List ℕ) → importing_rows n t rows nodes out ≡ writing (record_of eqb (table_graph nodes rows)) out
  import-written = Imported.import-written n t nodes rows lends

  module _ (a : List ℕ) (g : List (Row Label)) (reads : reading n a ≡ accepted g) where
    -- A planning table and an accepted record mean the same exactly when importing the table and rewriting the record give equal bytes.
    pub import-bytes : (out : List ℕ) (l m : ℕ) → (importing_rows n t rows nodes out).reply ≡ Length l → (rewriting n t a out).reply ≡ Length m →
        SameMeaning (table_labels n t) (table_graph nodes rows) (graph_of_rows g) ↔
        (take l (importing_rows n t rows nodes out).output ≡ take m (rewriting n t a out).output)
    import-bytes = Imported.record-bytes n t nodes rows lends a g reads

    -- A planning table and an accepted record mean the same exactly when importing the table and rewriting the record give the same reply and
    -- output, whatever output is lent.
    pub import-meaning : SameMeaning (table_labels n t) (table_graph nodes rows) (graph_of_rows g) ↔
        ((out : List ℕ) → importing_rows n t rows nodes out ≡ rewriting n t a out)
    import-meaning = Imported.record-meaning n t nodes rows lends a g reads

  module _ (nodes' : List ℕ) (rows' : List lent.Row) (lends' : Lent n t nodes' rows') where
    -- Two planning tables mean the same exactly when importing them gives equal bytes, and exactly when it gives the same reply and output.
    pub imports-bytes : (out : List ℕ) (l m : ℕ) → (importing_rows n t rows nodes out).reply ≡ Length l → (importing_rows n t rows' nodes' out).reply ≡ Length m →
        SameMeaning (table_labels n t) (table_graph nodes rows) (table_graph nodes' rows') ↔
        (take l (importing_rows n t rows nodes out).output ≡ take m (importing_rows n t rows' nodes' out).output)
    imports-bytes = Imported.table-bytes n t nodes nodes' rows rows' lends lends'

    pub imports-meaning : SameMeaning (table_labels n t) (table_graph nodes rows) (table_graph nodes' rows') ↔
        ((out : List ℕ) → importing_rows n t rows nodes out ≡ importing_rows n t rows' nodes' out)
    imports-meaning = Imported.table-meaning n t nodes nodes' rows rows' lends lends'

module _ (n : ℕ) (t nodes : List ℕ) (rows : List lent.Row) (out : List ℕ) where
  -- Whatever is lent, a refusal leaves the output as it was. Beside a length, the first bytes are a record in written form, and the other bytes
  -- are unchanged.
  pub import-leaves : Leaves n out (importing_rows n t rows nodes out)
  import-leaves = Imported.import-leaves n t nodes rows out

  module _ (l : ℕ) (told : (importing_rows n t rows nodes out).reply ≡ Length l) where
    -- Where import answers a length, none of 1 to 7, 14 and 15 applies.
    pub import-lent : Lent n t nodes rows
    import-lent = Imported.length-lent n t nodes rows out l told

    -- The record that import writes is accepted when it is read, is its own written form and means what the planning table means; rewriting it
    -- gives what import gives.
    pub import-means : RecordOf n t (table_graph nodes rows) (take l (importing_rows n t rows nodes out).output) ×
        ((room : List ℕ) → rewriting n t (take l (importing_rows n t rows nodes out).output) room ≡ importing_rows n t rows nodes room)
    import-means = Imported.import-means n t nodes rows out l told

-- Import takes "rows in any order".

module _ (n : ℕ) (t nodes out : List ℕ) {xs ys : List lent.Row} where
  -- A planning table gives one reply and one output, in whatever order its rows are lent.
  pub import-any : Reordered xs ys → importing_rows n t xs nodes out ≡ importing_rows n t ys nodes out
  import-any = Order.import-any n t nodes out

  -- Two planning tables with the same rows, and as many of them, give one reply and one output.
  pub import-members : SameMembers xs ys → length xs ≡ length ys → importing_rows n t xs nodes out ≡ importing_rows n t ys nodes out
  import-members = Order.import-members n t nodes out

  -- Two planning tables with the same rows give one reply and one output, where neither has two rows with one parent and feature.
  pub import-members-once : SameMembers xs ys → (Twice xs → ⊥) → (Twice ys → ⊥) → importing_rows n t xs nodes out ≡ importing_rows n t ys nodes out
  import-members-once = Order.import-members-once n t nodes out

-- What import refuses: each number is given exactly where it is due and no number before it is.

module _ (n : ℕ) (t nodes : List ℕ) (rows : List lent.Row) (out : List ℕ) where
  -- 1 to 3 are given exactly where opening the type table gives them.
  pub import-table : (fault : TableFault) → ((importing_rows n t rows nodes out).reply ≡ Table fault) ↔ (opened n t ≡ Err fault)
  import-table = Import.table-exact n t rows nodes out

  -- "Nodes, counted by the type bytes, are 1 to 255 and rows at most 2,048, else 4", "there a byte count not divisible by 3 is 4".
  pub import-size : ((importing_rows n t rows nodes out).reply ≡ Refusal Malformed First) ↔ ((opened n t ≡ Ok tt) × Unsized nodes (length rows))
  import-size = Import.graph-exact n t rows nodes out Malformed

  -- "afterwards a row with a feature above 63 or a node number outside the count is 14".
  pub import-row : ((importing_rows n t rows nodes out).reply ≡ RowOutOfRange) ↔
      ((opened n t ≡ Ok tt) × Sized nodes (length rows) × ((r : lent.Row) × Memᴰ r rows × UnknownRow (nodes_in nodes) r))
  import-row = Import.unknown-exact n t rows nodes out

  -- "two rows with one parent and feature are 15".
  pub import-twice : ((importing_rows n t rows nodes out).reply ≡ RowTwice) ↔
      ((opened n t ≡ Ok tt) × Sized nodes (length rows) × ((r : lent.Row) → Memᴰ r rows → KnownRow (nodes_in nodes) r) × Twice rows)
  import-twice = Import.row-twice-exact n t rows nodes out

  -- "and then 5 for types", "A lowest level above the highest is 5".
  pub import-label : ((importing_rows n t rows nodes out).reply ≡ Refusal OutOfRange First) ↔
      ((opened n t ≡ Ok tt) × Formed nodes rows × ((v : ℕ) × (v < nodes_in nodes) × OutsideLabel n (label_in nodes v)))
  import-label = Import.graph-exact n t rows nodes out OutOfRange

  -- "a type with bit 7 is 5".
  pub import-bit-seven : opened n t ≡ Ok tt → Formed nodes rows → (v : ℕ) → v < nodes_in nodes → 128 ≤ get_or nodes (v * 3) 0 →
      (importing_rows n t rows nodes out).reply ≡ Refusal OutOfRange First
  import-bit-seven = Import.bit-seven n t rows nodes out

  -- "6, 7 and 8 as for records": 6 is given where a node reaches itself.
  pub import-cyclic : ((importing_rows n t rows nodes out).reply ≡ Refusal Cyclic First) ↔
      ((opened n t ≡ Ok tt) × Formed nodes rows × ((v : ℕ) → v < nodes_in nodes → InsideLabel n (label_in nodes v)) × Loops nodes rows)
  import-cyclic = Import.graph-exact n t rows nodes out Cyclic

  -- 7 is given where the root does not reach some node.
  pub import-unreached : ((importing_rows n t rows nodes out).reply ≡ Refusal Unreached First) ↔
      ((opened n t ≡ Ok tt) × Formed nodes rows × ((v : ℕ) → v < nodes_in nodes → InsideLabel n (label_in nodes v)) × (Loops nodes rows → ⊥) ×
      Unreachable nodes rows)
  import-unreached = Import.graph-exact n t rows nodes out Unreached

  -- 8 is given where the output is shorter than the record.
  pub import-room : ((importing_rows n t rows nodes out).reply ≡ NoRoom) ↔
      ((opened n t ≡ Ok tt) × Importable n nodes rows × ((bytes : List ℕ) × (record_of eqb (table_graph nodes rows) ≡ some bytes) × (length out < length bytes)))
  import-room = Imported.room-exact n t nodes rows out

  -- Where none of these numbers is due, and only there, import answers the record's length.
  pub import-length : (l : ℕ) → ((importing_rows n t rows nodes out).reply ≡ Length l) ↔
      ((opened n t ≡ Ok tt) × Importable n nodes rows ×
      ((bytes : List ℕ) × (record_of eqb (table_graph nodes rows) ≡ some bytes) × ((length bytes ≡ l) × (length bytes ≤ length out))))
  import-length = Imported.length-exact n t nodes rows out

  -- 11 is no reply of import.
  pub import-never-large : (importing_rows n t rows nodes out).reply ≡ TooLarge → ⊥
  import-never-large = Import.never-large n t rows nodes out

  -- Every refusal leaves the output as it was.
  pub import-unchanged : (k : ℕ) → refusal (importing_rows n t rows nodes out).reply ≡ some k → (importing_rows n t rows nodes out).output ≡ out
  import-unchanged = (import-leaves n t nodes rows out).refused

-- What export fills where it answers a nodes and b rows. `form` is the written form of the record.

module _ (n : ℕ) (t bytes : List ℕ) (rows : List lent.Row) (nodes : List ℕ) (a b : ℕ) (counts : (exporting n t bytes rows nodes).reply ≡ Counts a b)
    (form : List (Row Label)) (w : WrittenForm n bytes form) where
  -- The record that rewriting writes is read as `form`, whatever output is lent.
  pub export-form : (out : List ℕ) (l : ℕ) → (rewriting n t bytes out).reply ≡ Length l → reading n (take l (rewriting n t bytes out).output) ≡ accepted form
  export-form = Trips.form-written n t bytes form w (Trips.export-parts n t bytes rows nodes a b counts form w).0

  -- Exporting the record that rewriting writes gives what exporting `bytes` gives, whatever rows and node bytes are lent.
  pub export-rewritten : (out : List ℕ) (l : ℕ) → (rewriting n t bytes out).reply ≡ Length l → (rs : List lent.Row) (ns : List ℕ) →
      exporting n t (take l (rewriting n t bytes out).output) rs ns ≡ exporting n t bytes rs ns
  export-rewritten = Trips.form-exported n t bytes form w (Trips.export-parts n t bytes rows nodes a b counts form w).0

  -- Export "returns the counts of nodes and rows" of the written record.
  pub export-counted : (length form ≡ a) × (links_in form ≡ b)
  export-counted = let parts = Trips.export-parts n t bytes rows nodes a b counts form w in (parts.1, parts.2)

  -- "Export numbers the nodes as the written record does": a row is filled exactly where its parent has, in the written record, a link by its
  -- feature to its target.
  pub export-link : (r : lent.Row) →
      Memᴰ r (take b (exporting n t bytes rows nodes).rows) ↔ ((graph_of_rows form).link r.parent r.feature ≡ some r.target)
  export-link = Trips.filled-link n t bytes rows nodes a b counts form w

  -- The three bytes of a node are its label in the written record.
  pub export-label : (v : ℕ) → v < a → label_in (exporting n t bytes rows nodes).nodes v ≡ (graph_of_rows form).label v
  export-label = Trips.filled-label n t bytes rows nodes a b counts form w

  -- "0 and 255 for the full range": the two level bytes of a node are these exactly where its range is full.
  pub export-full-range : (v : ℕ) → v < a → (is_full ((graph_of_rows form).label v) ≡ true) ↔
      ((get_or (exporting n t bytes rows nodes).nodes (v * 3 + 1) 0 ≡ 0) × (get_or (exporting n t bytes rows nodes).nodes (v * 3 + 2) 0 ≡ 255))
  export-full-range = Trips.filled-full n t bytes rows nodes a b counts form w

  -- "export fills such rows sorted by parent and then feature": of two filled rows, the first has the smaller parent, or the same parent and the
  -- smaller feature.
  pub export-sorted : (i j : ℕ) → i < j → j < b → Earlier (get_or (exporting n t bytes rows nodes).rows i no_row) (get_or (exporting n t bytes rows nodes).rows j no_row)
  export-sorted = Trips.filled-sorted n t bytes rows nodes a b counts form w

  -- Export "does not touch rows and types past those it fills".
  pub export-other-rows : drop b (exporting n t bytes rows nodes).rows ≡ drop b rows
  export-other-rows = Trips.other-rows n t bytes rows nodes a b counts form w

  pub export-other-nodes : drop (a * 3) (exporting n t bytes rows nodes).nodes ≡ drop (a * 3) nodes
  export-other-nodes = Trips.other-nodes n t bytes rows nodes a b counts form w

  -- Export leaves the number of rows and the number of node bytes as they were.
  pub export-lengths : (length (exporting n t bytes rows nodes).rows ≡ length rows) × (length (exporting n t bytes rows nodes).nodes ≡ length nodes)
  export-lengths = Trips.kept-lengths n t bytes rows nodes a b counts form w

  -- The planning table that export fills means what the record means.
  pub export-means : SameMeaning (table_labels n t) (graph_of_rows w.graph)
      (table_graph (take (a * 3) (exporting n t bytes rows nodes).nodes) (take b (exporting n t bytes rows nodes).rows))
  export-means = Trips.filled-means n t bytes rows nodes a b counts form w

-- What export refuses: each number is given exactly where it is due and no number before it is.

module _ (n : ℕ) (t bytes : List ℕ) (rows : List lent.Row) (nodes : List ℕ) where
  -- 1 to 3 are given exactly where opening the type table gives them.
  pub export-table : (fault : TableFault) → ((exporting n t bytes rows nodes).reply ≡ Table fault) ↔ (opened n t ≡ Err fault)
  export-table = Export.table-exact n t bytes rows nodes

  -- 4 to 7 are given exactly where reading the record gives them.
  pub export-graph : (fault : GraphFault) →
      ((exporting n t bytes rows nodes).reply ≡ Refusal fault First) ↔ ((opened n t ≡ Ok tt) × (reading n bytes ≡ refused fault))
  export-graph = Export.graph-exact n t bytes rows nodes

  -- "Too few rows or types lent to export is 8".
  pub export-room : ((exporting n t bytes rows nodes).reply ≡ NoRoom) ↔
      ((opened n t ≡ Ok tt) ×
      ((form : List (Row Label)) × WrittenForm n bytes form × ((length rows < links_in form) ⊎ (length nodes < length form * 3))))
  export-room = Export.room-exact n t bytes rows nodes

  -- Where none of these numbers is due, and only there, export answers the counts.
  pub export_counts : (a b : ℕ) → ((exporting n t bytes rows nodes).reply ≡ Counts a b) ↔
      ((opened n t ≡ Ok tt) ×
      ((form : List (Row Label)) × WrittenForm n bytes form × (length form ≡ a) × (links_in form ≡ b) ×
      ((links_in form ≤ length rows) × (length form * 3 ≤ length nodes))))
  export_counts = Export.counts-exact n t bytes rows nodes

  -- 11 is no reply of export.
  pub export-never-large : (exporting n t bytes rows nodes).reply ≡ TooLarge → ⊥
  export-never-large = Export.never-large n t bytes rows nodes

  -- A refusal leaves rows and node bytes as they were: "both unchanged".
  pub export-unchanged : (k : ℕ) → refusal (exporting n t bytes rows nodes).reply ≡ some k →
      ((exporting n t bytes rows nodes).rows ≡ rows) × ((exporting n t bytes rows nodes).nodes ≡ nodes)
  export-unchanged = Export.refused-unchanged n t bytes rows nodes

-- Import and export, one after the other.

-- "Importing what was exported yields the written record": import then gives the reply and output of rewriting the record, byte for byte.
pub export-import : (n : ℕ) (t bytes : List ℕ) (rows : List lent.Row) (nodes : List ℕ) (a b : ℕ) → (exporting n t bytes rows nodes).reply ≡ Counts a b → (out : List ℕ) →
    importing_rows n t (take b (exporting n t bytes rows nodes).rows) (take (a * 3) (exporting n t bytes rows nodes).nodes) out ≡ rewriting n t bytes out
export-import = Trips.export-import

module _ (n : ℕ) (t nodes : List ℕ) (rows : List lent.Row) (out : List ℕ) (l : ℕ) (told : (importing_rows n t rows nodes out).reply ≡ Length l) where
  -- Exporting what was imported gives the rows of the planning table's graph, numbered as in the written record.
  pub import-export : (rs : List lent.Row) (ns : List ℕ) → exporting n t (take l (importing_rows n t rows nodes out).output) rs ns ≡ exported_rows (table_rows nodes rows) rs ns
  import-export = Trips.import-export n t rows nodes out l told

  -- The written form of the planning table's graph is that of the record that import writes.
  pub import-form : (form : List (Row Label)) → canonical eqb (table_graph nodes rows) ≡ written form →
      WrittenForm n (take l (importing_rows n t rows nodes out).output) form
  import-form = Trips.imported-form n t rows nodes out l told
