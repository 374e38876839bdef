-- When each reply of a call on a gathering is due. n and t are the number of types and the table, o is what is gathered so far, bytes is the
-- program that is handed in, and room is the number of bytes that the result may take. The cases stand in the order of the checks.
use Rattle.std.specs.Prelude.{◌≡◌, List, [], ◌∷◌, ℕ, ◌+◌, ◌*◌, ◌≤◌, ◌<◌, length, Ok, Err}
use Rattle.std.proofs.Math.Option.{Option, none, some}
use Rattle.graphs.specs.Graph.{Below}
use Rattle.graphs.specs.Rows.{Row}
use Rattle.lattice.specs.Label.{Label}
use Rattle.lattice.specs.Labels.{table_labels}
use Rattle.acceptance.specs.declared.TableFault.{TableFault}
use Rattle.acceptance.specs.Reply.{opened}
use Rattle.record.specs.declared.GraphFault.{GraphFault}
use Rattle.record.specs.Read.{reading, accepted, refused, graph_of_rows}
use Rattle.replies.specs.declared.Side.TheVariants.{First, Second}
use Rattle.replies.specs.Replies.{Reply}
use Rattle.replies.specs.Replies.{Length, Same, Under, Above, Neither, Table, Graph, NoRoom, TooLarge, NothingGathered}
use Rattle.demands.specs.Demand.{Given, RecordOf, Large, common}

-- The graph of the first rows lies below that of the others.
abbrev pub RowsBelow : ℕ → List ℕ → List (Row Label) → List (Row Label) → Type 0
RowsBelow n t s g = Below (table_labels n t) (graph_of_rows s) (graph_of_rows g)

-- The record of what is gathered once a program is added: a written record that means the same as the program where nothing was gathered, else
-- one that means the same as the common part of the program and what was gathered.
pub data NewPart (n : ℕ) (t : List ℕ) (o : Option (List ℕ)) (bytes new : List ℕ) : Type 0 where
  first : (rows : List (Row Label)) → o ≡ none → reading n bytes ≡ accepted rows → RecordOf n t (graph_of_rows rows) new → NewPart n t o bytes new
  later : (part : List ℕ) (rows others : List (Row Label)) → o ≡ some part → reading n bytes ≡ accepted rows → reading n part ≡ accepted others →
      RecordOf n t (common n t rows others) new → NewPart n t o bytes new

module _ (n : ℕ) (t : List ℕ) where
  -- The replies of a begin for which `lent` bytes are lent.
  pub data BeginDue (lent : ℕ) : Reply → Type 0 where
    -- 1 to 3: "A gathering is begun with one accepted table".
    table : (fault : TableFault) → opened n t ≡ Err fault → BeginDue lent (Table fault)
    -- 8: "A gathering can hold the longest record".
    no_room : opened n t ≡ Ok tt → lent < 3 + 8 * n + 4854 → BeginDue lent NoRoom
    -- the used length
    used : opened n t ≡ Ok tt → 3 + 8 * n + 4854 ≤ lent → BeginDue lent (Length (3 + 8 * n))

  module _ (o : Option (List ℕ)) where
    -- The replies of an addition, whatever the bytes of the state.
    pub data AddDue (bytes : List ℕ) (room : ℕ) : Reply → Type 0 where
      -- 1 to 3 of the table in the state
      table : (fault : TableFault) → opened n t ≡ Err fault → AddDue bytes room (Table fault)
      -- 4 to 7 of the program, as the first graph
      program : (fault : GraphFault) → opened n t ≡ Ok tt → reading n bytes ≡ refused fault → AddDue bytes room (Graph fault First)
      -- 4 to 7 of what is gathered, as the second
      gathered : (part : List ℕ) (rows : List (Row Label)) (fault : GraphFault) → opened n t ≡ Ok tt → reading n bytes ≡ accepted rows →
          o ≡ some part → reading n part ≡ refused fault → AddDue bytes room (Graph fault Second)
      -- 11: "result over 255 nodes or 2,048 links".
      too_large : (part : List ℕ) (rows others : List (Row Label)) → o ≡ some part → Given n t bytes part rows others →
          Large (common n t rows others) → AddDue bytes room TooLarge
      -- 8: "the result exists and the output is shorter".
      no_room : (new : List ℕ) → opened n t ≡ Ok tt → NewPart n t o bytes new → room < length new → AddDue bytes room NoRoom
      -- the length of the new common part's record
      fits : (new : List ℕ) → opened n t ≡ Ok tt → NewPart n t o bytes new → length new ≤ room → AddDue bytes room (Length (length new))

    -- The replies of an addition to a gathering that was begun: "an addition is refused by 4 to 7 or 11 alone".
    pub data AddedDue (bytes : List ℕ) : Reply → Type 0 where
      -- 4 to 7 of the program, as the first graph
      program : (fault : GraphFault) → reading n bytes ≡ refused fault → AddedDue bytes (Graph fault First)
      -- 11
      too_large : (part : List ℕ) (rows others : List (Row Label)) → o ≡ some part → reading n bytes ≡ accepted rows →
          reading n part ≡ accepted others → Large (common n t rows others) → AddedDue bytes TooLarge
      -- the length of the new common part's record
      added : (new : List ℕ) → NewPart n t o bytes new → AddedDue bytes (Length (length new))

    -- The replies of an order, whatever the bytes of the state.
    pub data OrderDue (bytes : List ℕ) : Reply → Type 0 where
      -- 1 to 3 of the table in the state
      table : (fault : TableFault) → opened n t ≡ Err fault → OrderDue bytes (Table fault)
      -- 4 to 7 of the program, "as first graph"
      program : (fault : GraphFault) → opened n t ≡ Ok tt → reading n bytes ≡ refused fault → OrderDue bytes (Graph fault First)
      -- 16: "Order or finish before the first addition is 16, checked after the graph's 4 to 7".
      nothing : (rows : List (Row Label)) → opened n t ≡ Ok tt → reading n bytes ≡ accepted rows → o ≡ none → OrderDue bytes NothingGathered
      -- 4 to 7 of what is gathered, as the second
      gathered : (part : List ℕ) (rows : List (Row Label)) (fault : GraphFault) → opened n t ≡ Ok tt → reading n bytes ≡ accepted rows →
          o ≡ some part → reading n part ≡ refused fault → OrderDue bytes (Graph fault Second)
      -- "one of four: same, under, above, neither, seen from the first graph" (Paper 3)
      same : (part : List ℕ) (rows others : List (Row Label)) → o ≡ some part → Given n t bytes part rows others →
          RowsBelow n t rows others → RowsBelow n t others rows → OrderDue bytes Same
      under : (part : List ℕ) (rows others : List (Row Label)) → o ≡ some part → Given n t bytes part rows others →
          RowsBelow n t rows others → (RowsBelow n t others rows → ⊥) → OrderDue bytes Under
      above : (part : List ℕ) (rows others : List (Row Label)) → o ≡ some part → Given n t bytes part rows others →
          (RowsBelow n t rows others → ⊥) → RowsBelow n t others rows → OrderDue bytes Above
      neither : (part : List ℕ) (rows others : List (Row Label)) → o ≡ some part → Given n t bytes part rows others →
          (RowsBelow n t rows others → ⊥) → (RowsBelow n t others rows → ⊥) → OrderDue bytes Neither

    -- The replies of a finish, whatever the bytes of the state.
    pub data FinishDue (room : ℕ) : Reply → Type 0 where
      -- 1 to 3 of the table in the state
      table : (fault : TableFault) → opened n t ≡ Err fault → FinishDue room (Table fault)
      -- 16: "Order or finish before the first addition is 16, checked .. before 8".
      nothing : opened n t ≡ Ok tt → o ≡ none → FinishDue room NothingGathered
      -- 4 to 7 of what is gathered, as the second graph
      gathered : (part : List ℕ) (fault : GraphFault) → opened n t ≡ Ok tt → o ≡ some part → reading n part ≡ refused fault →
          FinishDue room (Graph fault Second)
      -- 8: "the result exists and the output is shorter".
      no_room : (part : List ℕ) (rows : List (Row Label)) (new : List ℕ) → opened n t ≡ Ok tt → o ≡ some part → reading n part ≡ accepted rows →
          RecordOf n t (graph_of_rows rows) new → room < length new → FinishDue room NoRoom
      -- "Finishing writes the common part": the length of its record.
      fits : (part : List ℕ) (rows : List (Row Label)) (new : List ℕ) → opened n t ≡ Ok tt → o ≡ some part → reading n part ≡ accepted rows →
          RecordOf n t (graph_of_rows rows) new → length new ≤ room → FinishDue room (Length (length new))

-- The replies of a finish of a gathering that was begun.
pub data FinishedDue (o : Option (List ℕ)) (room : ℕ) : Reply → Type 0 where
  -- 16
  nothing : o ≡ none → FinishedDue o room NothingGathered
  -- 8
  no_room : (part : List ℕ) → o ≡ some part → room < length part → FinishedDue o room NoRoom
  -- the length of the record that is gathered
  fits : (part : List ℕ) → o ≡ some part → length part ≤ room → FinishedDue o room (Length (length part))

-- "folded in their order": the first program gives a new common part, and the further ones are folded with it.
pub data Folds (n : ℕ) (t : List ℕ) : Option (List ℕ) → List (List ℕ) → Option (List ℕ) → Type 0 where
  end : (o : Option (List ℕ)) → Folds n t o [] o
  next : (o : Option (List ℕ)) (bytes new : List ℕ) (more : List (List ℕ)) (last : Option (List ℕ)) → NewPart n t o bytes new →
      Folds n t (some new) more last → Folds n t o (bytes ∷ more) last
