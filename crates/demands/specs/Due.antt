-- When each reply of a call is due (document 01, "Returned by a call"; document 02, Papers 3, 6, 9, 10, 13 and 14). n and t are the number of types
-- and the table; bytes, a and b are the records that are handed in; room is the number of bytes that are lent for the record. The cases of each
-- type stand in the order of the checks: "1, 2, 3; first graph 4 to 7; second graph 4 to 7; then 13, 12, 9, 10, 11, 8", where Paper 6 has 13
-- "checked after 12".
use Rattle.std.specs.Prelude.{◌≡◌, Bool, true, List, [], ◌⊎◌, ℕ, ◌≤◌, ◌<◌, length, get_or, Ok, Err}
use Rattle.graphs.specs.Graph.{Graph, Below}
use Rattle.graphs.specs.Rows.{Row}
use Rattle.graphs.specs.Large.{links_in}
use Rattle.graphs.specs.Unify as unify
use Rattle.graphs.specs.Difference.{Link, by_number, by_reading}
use Rattle.lattice.specs.Label.{Label}
use Rattle.lattice.specs.Labels.{table_labels, OfAnySize, IsCombination, LabelClash}
use Rattle.acceptance.specs.declared.TableFault.{TableFault}
use Rattle.acceptance.specs.Reply.{opened}
use Rattle.record.specs.declared.GraphFault.{GraphFault}
use Rattle.record.specs.declared.GraphFault.TheVariants.{Inappropriate}
use Rattle.record.specs.Read.{reading, accepted, refused, graph_of_rows}
use Rattle.record.specs.Appropriate.{Appropriate}
use Rattle.link_orders.specs.LinkOrders.{EachOnce}
use Rattle.listed.specs.Listing.{precedes, Listed, LeastAbove}
use Rattle.replies.specs.declared.Side.TheVariants.{First, Second}
use Rattle.replies.specs.Replies.{Reply}
use Rattle.replies.specs.Replies.{Length, Same, Under, Above, Neither, Table, Graph as OfGraph, NoRoom, Cycle, Clash, TooLarge, NotBelow, NoWantedType, TypeList, ReadingOrder, NoReasonRoom, FeatureCount, NotListed, End}
use Rattle.demands.specs.Demand.{Given, RecordOf, Large, common, remainder}
use Rattle.demands.specs.Wanted.{SomeUnwanted}
use Rattle.demands.specs.Appropriate.{Breaks, Fits}

-- The graph of the first rows lies below that of the others.
abbrev pub RowsBelow : ℕ → List ℕ → List (Row Label) → List (Row Label) → Type 0
RowsBelow n t s g = Below (table_labels n t) (graph_of_rows s) (graph_of_rows g)

-- The replies that two accepted graphs give, by what is asked of them.

module _ (n : ℕ) (t : List ℕ) where
  -- The replies of writing a graph that is not too large.
  pub data RoomDue {C : Type 0} (k : Graph Label C) (room : ℕ) : Reply → Type 0 where
    -- 8: "the result exists and the output is shorter".
    no_room : (new : List ℕ) → RecordOf n t k new → room < length new → RoomDue k room NoRoom
    -- the length of the graph's record: "the record fits"
    fits : (new : List ℕ) → RecordOf n t k new → length new ≤ room → RoomDue k room (Length (length new))

  -- "one of four: same, under, above, neither, seen from the first graph"
  pub data CompareDue (s g : List (Row Label)) : Reply → Type 0 where
    same : RowsBelow n t s g → RowsBelow n t g s → CompareDue s g Same
    under : RowsBelow n t s g → (RowsBelow n t g s → ⊥) → CompareDue s g Under
    above : (RowsBelow n t s g → ⊥) → RowsBelow n t g s → CompareDue s g Above
    neither : (RowsBelow n t s g → ⊥) → (RowsBelow n t g s → ⊥) → CompareDue s g Neither

  -- The replies for the common part of two graphs.
  pub data CommonDue (room : ℕ) (g h : List (Row Label)) : Reply → Type 0 where
    -- 11: "result over 255 nodes or 2,048 links".
    too_large : Large (common n t g h) → CommonDue room g h TooLarge
    -- 8, or the length
    written : {r : Reply} → RoomDue (common n t g h) room r → CommonDue room g h r

  -- The graph u is the combination of two graphs: it is a graph of any size, and its paths and labels are those of the classes. By
  -- `combination-over-paths` it is the greatest graph of any size below both.
  pub record CombinationOf (g h : List (Row Label)) (u : Graph Label (ℕ ⊎ ℕ)) : Type 0 where
    pub of-any-size : OfAnySize n t u
    pub classes : IsCombination n t (graph_of_rows g) (graph_of_rows h) u

  -- The replies for the combination of two graphs.
  pub data CombineDue (room : ℕ) (g h : List (Row Label)) : Reply → Type 0 where
    -- 9: "combination: loop".
    cycle : unify.Cycle (table_labels n t) (graph_of_rows g) (graph_of_rows h) → CombineDue room g h Cycle
    -- 10: "combination: clash, no loop".
    clash : (unify.Cycle (table_labels n t) (graph_of_rows g) (graph_of_rows h) → ⊥) → LabelClash n t (graph_of_rows g) (graph_of_rows h) →
        CombineDue room g h Clash
    -- 11: "result over 255 nodes or 2,048 links".
    too_large : (u : Graph Label (ℕ ⊎ ℕ)) → CombinationOf g h u → Large u → CombineDue room g h TooLarge
    -- 8, or the length
    written : {r : Reply} (u : Graph Label (ℕ ⊎ ℕ)) → CombinationOf g h u → RoomDue u room r → CombineDue room g h r

  -- The replies for the difference of g and s, with links ordered by `earlier`.
  pub data DifferDue (earlier : Link ℕ → Link ℕ → Bool) (room : ℕ) (g s : List (Row Label)) : Reply → Type 0 where
    -- 12: "difference: s not below g".
    not-below : (RowsBelow n t s g → ⊥) → DifferDue earlier room g s NotBelow
    -- 13: "some node of s has no wanted type", "checked after 12" (Paper 6).
    not-wanted : RowsBelow n t s g → SomeUnwanted n t (graph_of_rows s) (graph_of_rows g) → DifferDue earlier room g s NoWantedType
    -- 8, or the length
    written : {r : Reply} → RowsBelow n t s g → (SomeUnwanted n t (graph_of_rows s) (graph_of_rows g) → ⊥) →
        RoomDue (remainder earlier n t g s) room r → DifferDue earlier room g s r

  -- The replies for the difference of g and s with its reasons; `beside` is the number of bytes that are lent for the reasons.
  pub data ExplainDue (earlier : Link ℕ → Link ℕ → Bool) (room beside : ℕ) (g s : List (Row Label)) : Reply → Type 0 where
    -- 12
    not-below : (RowsBelow n t s g → ⊥) → ExplainDue earlier room beside g s NotBelow
    -- 13
    not-wanted : RowsBelow n t s g → SomeUnwanted n t (graph_of_rows s) (graph_of_rows g) → ExplainDue earlier room beside g s NoWantedType
    -- 8
    no_room : (new : List ℕ) → RowsBelow n t s g → (SomeUnwanted n t (graph_of_rows s) (graph_of_rows g) → ⊥) →
        RecordOf n t (remainder earlier n t g s) new → room < length new → ExplainDue earlier room beside g s NoRoom
    -- 22: "Too few bytes lent for the reasons gives 22, after 8"; there is "one byte for each of its links" (Paper 13).
    no-reason-room : (new : List ℕ) → RowsBelow n t s g → (SomeUnwanted n t (graph_of_rows s) (graph_of_rows g) → ⊥) →
        (one : RecordOf n t (remainder earlier n t g s) new) → length new ≤ room → beside < links_in one.is-written.form →
        ExplainDue earlier room beside g s NoReasonRoom
    -- the length of the difference's record
    fits : (new : List ℕ) → RowsBelow n t s g → (SomeUnwanted n t (graph_of_rows s) (graph_of_rows g) → ⊥) →
        (one : RecordOf n t (remainder earlier n t g s) new) → length new ≤ room → links_in one.is-written.form ≤ beside →
        ExplainDue earlier room beside g s (Length (length new))

-- The replies of the calls. `Then` gives the replies that the two graphs give once the table and both graphs are accepted.

module _ (n : ℕ) (t : List ℕ) where
  -- The replies for a table alone.
  pub data CheckDue : Reply → Type 0 where
    -- 1 to 3
    table : (fault : TableFault) → opened n t ≡ Err fault → CheckDue (Table fault)
    -- "A table is accepted when none of 1 to 3 applies to it."
    passes : opened n t ≡ Ok tt → CheckDue (Length 0)

  -- The replies of a call with one record.
  pub data LoneDue (bytes : List ℕ) (Then : List (Row Label) → Reply → Type 0) : Reply → Type 0 where
    -- 1 to 3
    table : (fault : TableFault) → opened n t ≡ Err fault → LoneDue bytes Then (Table fault)
    -- 4 to 7: "A lone graph counts as the first."
    graph : (fault : GraphFault) → opened n t ≡ Ok tt → reading n bytes ≡ refused fault → LoneDue bytes Then (OfGraph fault First)
    one : {r : Reply} (rows : List (Row Label)) → opened n t ≡ Ok tt → reading n bytes ≡ accepted rows → Then rows r → LoneDue bytes Then r

  -- The replies of a call with two records.
  pub data PairDue (a b : List ℕ) (Then : List (Row Label) → List (Row Label) → Reply → Type 0) : Reply → Type 0 where
    -- 1 to 3
    table : (fault : TableFault) → opened n t ≡ Err fault → PairDue a b Then (Table fault)
    -- "first graph 4 to 7"
    first : (fault : GraphFault) → opened n t ≡ Ok tt → reading n a ≡ refused fault → PairDue a b Then (OfGraph fault First)
    -- "second graph 4 to 7"
    second : (rows : List (Row Label)) (fault : GraphFault) → opened n t ≡ Ok tt → reading n a ≡ accepted rows → reading n b ≡ refused fault →
        PairDue a b Then (OfGraph fault Second)
    both : {r : Reply} (s g : List (Row Label)) → Given n t a b s g → Then s g r → PairDue a b Then r

  -- Rewriting: 1 to 3, 4 to 7, 8.
  abbrev pub RewriteDue : List ℕ → ℕ → Reply → Type 0
  RewriteDue bytes room = LoneDue bytes (λ rows. RoomDue n t (graph_of_rows rows) room)

  -- Order: 1 to 3, first and second 4 to 7, one of four.
  abbrev pub OrderDue : List ℕ → List ℕ → Reply → Type 0
  OrderDue a b = PairDue a b (CompareDue n t)

  -- Common part: 1 to 3, first and second 4 to 7, 11, 8.
  abbrev pub GeneralizeDue : List ℕ → List ℕ → ℕ → Reply → Type 0
  GeneralizeDue a b room = PairDue a b (CommonDue n t room)

  -- Combination: 1 to 3, first and second 4 to 7, 9, 10, 11, 8.
  abbrev pub UnifyDue : List ℕ → List ℕ → ℕ → Reply → Type 0
  UnifyDue a b room = PairDue a b (CombineDue n t room)

  -- Difference: 1 to 3, first and second 4 to 7, 12, 13, 8.
  abbrev pub DifferenceDue : List ℕ → List ℕ → ℕ → Reply → Type 0
  DifferenceDue a b room = PairDue a b (DifferDue n t by_number room)

  -- Difference with its reasons: 1 to 3, first and second 4 to 7, 12, 13, 8, 22.
  abbrev pub ExplainedDue : List ℕ → List ℕ → ℕ → ℕ → Reply → Type 0
  ExplainedDue a b room beside = PairDue a b (ExplainDue n t by_number room beside)

-- The replies of the calls with a list of types for features (Paper 9).

module _ (n : ℕ) (t list : List ℕ) where
  -- The list is not refused by 17: it has 64 bytes, and each entry is a type.
  pub record TypesListed : Type 0 where
    pub long : length list ≡ 64
    pub types : (f : ℕ) → f < 64 → get_or list f 0 < n

  -- The table and the list are accepted.
  pub record Listing : Type 0 where
    pub opens : opened n t ≡ Ok tt
    pub listed : TypesListed

  -- A graph's 4 to 7, and 18 "straight after that graph's 7".
  pub data GraphDue (bytes : List ℕ) : GraphFault → Type 0 where
    unread : (fault : GraphFault) → reading n bytes ≡ refused fault → GraphDue bytes fault
    forbidden : Breaks n t list bytes → GraphDue bytes Inappropriate

  -- The replies of a call with one record and a list.
  pub data LoneListedDue (bytes : List ℕ) (Then : List (Row Label) → Reply → Type 0) : Reply → Type 0 where
    -- 1 to 3
    table : (fault : TableFault) → opened n t ≡ Err fault → LoneListedDue bytes Then (Table fault)
    -- 17: "A list entry of n or more, or a list not of 64 bytes, is 17, after the table".
    types : opened n t ≡ Ok tt → (TypesListed → ⊥) → LoneListedDue bytes Then TypeList
    -- 4 to 7, 18
    graph : (fault : GraphFault) → Listing → GraphDue bytes fault → LoneListedDue bytes Then (OfGraph fault First)
    one : {r : Reply} (rows : List (Row Label)) → Listing → reading n bytes ≡ accepted rows → Appropriate t list (graph_of_rows rows) → Then rows r →
        LoneListedDue bytes Then r

  -- The replies of a call with two records and a list.
  pub data PairListedDue (a b : List ℕ) (Then : List (Row Label) → List (Row Label) → Reply → Type 0) : Reply → Type 0 where
    -- 1 to 3
    table : (fault : TableFault) → opened n t ≡ Err fault → PairListedDue a b Then (Table fault)
    -- 17
    types : opened n t ≡ Ok tt → (TypesListed → ⊥) → PairListedDue a b Then TypeList
    -- the first graph's 4 to 7, 18
    first : (fault : GraphFault) → Listing → GraphDue a fault → PairListedDue a b Then (OfGraph fault First)
    -- the second graph's 4 to 7, 18
    second : (fault : GraphFault) → Listing → Fits n t list a → GraphDue b fault → PairListedDue a b Then (OfGraph fault Second)
    both : {r : Reply} (s g : List (Row Label)) → TypesListed → Given n t a b s g → Appropriate t list (graph_of_rows s) →
        Appropriate t list (graph_of_rows g) → Then s g r → PairListedDue a b Then r

  -- Rewriting with a list: 1 to 3, 17, 4 to 7, 18, 8.
  abbrev pub RewriteListedDue : List ℕ → ℕ → Reply → Type 0
  RewriteListedDue bytes room = LoneListedDue bytes (λ rows. RoomDue n t (graph_of_rows rows) room)

  -- Common part with a list: 1 to 3, 17, first and second 4 to 7 and 18, 11, 8.
  abbrev pub GeneralizeListedDue : List ℕ → List ℕ → ℕ → Reply → Type 0
  GeneralizeListedDue a b room = PairListedDue a b (CommonDue n t room)

  -- Combination with a list: 1 to 3, 17, first and second 4 to 7 and 18, 9, 10, 11, 8.
  abbrev pub UnifyListedDue : List ℕ → List ℕ → ℕ → Reply → Type 0
  UnifyListedDue a b room = PairListedDue a b (CombineDue n t room)

-- The replies of the calls with a reading order (Paper 10).

module _ (n : ℕ) (t list : List ℕ) where
  -- The replies of a call with two records and a list of features. `Rest` gives the replies of the call once the list is accepted.
  pub data ByListDue (Rest : Reply → Type 0) : Reply → Type 0 where
    -- 1 to 3
    table : (fault : TableFault) → opened n t ≡ Err fault → ByListDue Rest (Table fault)
    -- 19: "A list that is anything else is 19, after the table."
    order : opened n t ≡ Ok tt → (EachOnce list → ⊥) → ByListDue Rest ReadingOrder
    rest : {r : Reply} → opened n t ≡ Ok tt → EachOnce list → Rest r → ByListDue Rest r

  -- Difference by a reading order: 1 to 3, 19, first and second 4 to 7, 12, 13, 8.
  abbrev pub DifferenceByDue : List ℕ → List ℕ → ℕ → Reply → Type 0
  DifferenceByDue a b room = ByListDue (PairDue n t a b (DifferDue n t (by_reading list) room))

  -- The same with its reasons, and 22 after 8.
  abbrev pub ExplainedByDue : List ℕ → List ℕ → ℕ → ℕ → Reply → Type 0
  ExplainedByDue a b room beside = ByListDue (PairDue n t a b (ExplainDue n t (by_reading list) room beside))

-- The replies of a call of the listing (Paper 14). F is the number of features.

module _ (n : ℕ) (t : List ℕ) (F : ℕ) (bytes : List ℕ) where
  -- The table is accepted and F is 1 or 2, and the call has "no record, that is one of no bytes", or a listed one.
  pub record Stepping : Type 0 where
    pub opens : opened n t ≡ Ok tt
    pub features : (F ≡ 1) ⊎ (F ≡ 2)
    pub begun : (bytes ≡ []) ⊎ Listed n F bytes

  pub data StepDue (room : ℕ) : Reply → Type 0 where
    -- 1 to 3
    table : (fault : TableFault) → opened n t ≡ Err fault → StepDue room (Table fault)
    -- 4 to 7, where there is a record
    graph : (fault : GraphFault) → opened n t ≡ Ok tt → (bytes ≡ [] → ⊥) → reading n bytes ≡ refused fault → StepDue room (OfGraph fault First)
    -- 23: "F outside 1 and 2 is 23", "after the table and the record's own 4 to 7".
    features : opened n t ≡ Ok tt → (bytes ≡ []) ⊎ ((rows : List (Row Label)) × (reading n bytes ≡ accepted rows)) → ((F ≡ 1) ⊎ (F ≡ 2) → ⊥) →
        StepDue room FeatureCount
    -- 24: "a record that is read but not listed is 24".
    not_listed : (rows : List (Row Label)) → opened n t ≡ Ok tt → (F ≡ 1) ⊎ (F ≡ 2) → (bytes ≡ [] → ⊥) → reading n bytes ≡ accepted rows →
        (Listed n F bytes → ⊥) → StepDue room NotListed
    -- "the next or the end": no listed record is above the given one.
    end : Stepping → ((s : List ℕ) → Listed n F s → precedes bytes s ≡ true → ⊥) → StepDue room End
    -- 8
    no_room : (new : List ℕ) → Stepping → LeastAbove n F bytes new → room < length new → StepDue room NoRoom
    -- the length of the next listed record, which is the first where there is no record
    fits : (new : List ℕ) → Stepping → LeastAbove n F bytes new → length new ≤ room → StepDue room (Length (length new))
