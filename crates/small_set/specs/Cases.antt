-- Document 01's small set ("Fittings to check", cases 1 to 12): one table of calls on bytes, each with what it replies and leaves in the output.
-- Cases of document 02 stand beside it.
use Rattle.std.specs.Prelude.{◌≡◌, Bool, true, false, List, [], ◌∷◌, ◌++◌, map, ℕ, ◌+◌, length, drop, replicate}
use Rattle.std.proofs.Math.Option.{Option, some}
use Rattle.graphs.specs.Rows.{Row, from}
use Rattle.lattice.specs.Label.{Label}
use Rattle.lattice.specs.Table.{upto}
use Rattle.bounds.specs.Sets.{distributive, set_of}
use Rattle.record.specs.Read.{reading, accepted}
use Rattle.replies.specs.Replies.{Length, Same, Under, Above, Neither, End, NoWantedType, ReadingOrder, NoReasonRoom, FeatureCount, NotListed}
use Rattle.replies.specs.Replies.{Reply}
use Rattle.replies.specs.Reply.{Result, refusal, resulting, refusing, result_of}
use Rattle.calls.specs.Calls.{rewriting, generalizing, ordering, unifying, differing, differing_by}
use Rattle.calls.specs.Appropriate.{rewriting_appropriate, generalizing_appropriate}
use Rattle.difference.specs.Explained.{explained_result}
use Rattle.calls.specs.Explained.{explaining, explaining_by}
use Rattle.listed.specs.Listing.{listing}
use Rattle.listing.specs.Call.{stepping}
use Rattle.demands.specs.Demand.{lone_top}
use Rattle.encode.specs.Encode.{fitted}

-- a type table and its number of types
pub record Types : Type 0 where
  pub count : ℕ
  pub table : List ℕ

-- rows with these first bytes, and "the rest zero"
abbrev pub rows : List ℕ → List ℕ
rows [] = []
rows (b ∷ bs) = (b ∷ replicate 7 0) ++ rows bs

-- "The diamond used below: n = 4, first bytes of the rows 01 03 05 0F, the rest zero."
abbrev pub diamond : Types
diamond = record { count = 4; table = rows (0x01 ∷ 0x03 ∷ 0x05 ∷ 0x0F ∷ []) }

-- "Types 1 and 2 are called a and b; 3 is top."
abbrev pub a : ℕ
a = 1

abbrev pub b : ℕ
b = 2

abbrev pub top : ℕ
top = 3

-- "Three middle types between least and top, mutually unordered": 1, 2 and 3 between 0 and 4
abbrev pub three_middles : Types
three_middles = record { count = 5; table = rows (0x01 ∷ 0x03 ∷ 0x05 ∷ 0x09 ∷ 0x1F ∷ []) }

-- Paper 6: "six types, 0 below 1, 1 below 2, 3 and 4, which are mutually unordered, and 5 top".
abbrev pub three_over_one : Types
three_over_one = record { count = 6; table = rows (0x01 ∷ 0x03 ∷ 0x07 ∷ 0x0B ∷ 0x13 ∷ 0x3F ∷ []) }

-- Case 13, which is not in the small set: "Types 1, 2 both under 3 and 4, which are unordered, and 5 top".
abbrev pub two_over_two : Types
two_over_two = record { count = 6; table = rows (0x01 ∷ 0x03 ∷ 0x05 ∷ 0x0F ∷ 0x17 ∷ 0x3F ∷ []) }

-- a node in a record: its type, the byte of its features 0 to 7, and the nodes they lead to
abbrev pub node : ℕ → ℕ → List ℕ → List ℕ
node type standing targets = type ∷ standing ∷ replicate 7 0 ++ targets

-- a node without links
abbrev pub leaf : ℕ → List ℕ
leaf type = node type 0x00 []

-- a graph of one node
abbrev pub lone : ℕ → List ℕ
lone type = 1 ∷ leaf type

-- a node without links, with a range: "bit 7 says that two bytes follow it, lowest and highest level"
abbrev pub ranged : ℕ → ℕ → ℕ → List ℕ
ranged type lowest highest = (128 + type) ∷ lowest ∷ highest ∷ replicate 8 0

-- "P = top[0: X top, 1: X]"
abbrev pub P : List ℕ
P = 2 ∷ node top 0x03 (1 ∷ 1 ∷ []) ++ leaf top

-- "Q = top[0: top, 1: top]"
abbrev pub Q : List ℕ
Q = 3 ∷ node top 0x03 (1 ∷ 2 ∷ []) ++ leaf top ++ leaf top

-- "R = top[0: X a, 1: X]"
abbrev pub R : List ℕ
R = 2 ∷ node top 0x03 (1 ∷ 1 ∷ []) ++ leaf a

-- a call on two records that lends an output
abbrev pub Call : Type 0
Call = ℕ → List ℕ → List ℕ → List ℕ → List ℕ → Result

-- Rewriting the first record. The second record is not looked at.
abbrev pub rewriting_first : Call
rewriting_first n t first second out = rewriting n t first out

-- Rewriting and the common part, beside a list that gives for each feature the broadest type that may have it.
abbrev pub rewriting_beside : List ℕ → Call
rewriting_beside list n t first second out = rewriting_appropriate n t list first out

abbrev pub generalizing_beside : List ℕ → Call
generalizing_beside list n t first second out = generalizing_appropriate n t list first second out

-- Paper 9: feature 0 belongs to a, the others to every type.
abbrev pub zero_of_a : List ℕ
zero_of_a = a ∷ replicate 63 top

-- what a call gives: a record, or a refusal by its number
pub data Answer : Type 0 where
  gives : List ℕ → Answer
  refuses : ℕ → Answer

-- "its first bytes are the record, the others unchanged"; on a refusal, "unchanged"
abbrev pub Answers : List ℕ → Answer → Result → Type 0
Answers out (gives bytes) r = r ≡ record { reply = Length (length bytes); output = bytes ++ drop (length bytes) out }
Answers out (refuses number) r = ◌≡◌ {A = Option ℕ × List ℕ} (refusal r.reply, r.output) (some number, out)

-- A case: a call, what is handed to it, and what it gives.
pub record Case : Type 0 where
  pub call : Call
  pub types : Types
  pub first : List ℕ
  pub second : List ℕ
  pub answer : Answer

-- the output lent to each case
abbrev pub lent : List ℕ
lent = replicate 40 0xEE

-- The call of the case gives the answer of the case, in the lent output.
abbrev pub Holds : Case → Type 0
Holds c = Answers lent c.answer (c.call c.types.count c.types.table c.first c.second lent)

-- Each case of a list holds.
infixr 1 ◌and◌
pub data AllHold : List Case → Type 0 where
  none_left : AllHold []
  ◌and◌ : {c : Case} {cs : List Case} → Holds c → AllHold cs → AllHold (c ∷ cs)

-- A case over the diamond. "The difference takes g first, s second."
abbrev pub over_diamond : Call → List ℕ → List ℕ → Answer → Case
over_diamond call first second answer =
    record { call = call; types = diamond; first = first; second = second; answer = answer }

-- a case over three middle types
abbrev pub over_three_middles : Call → List ℕ → List ℕ → Answer → Case
over_three_middles call first second answer =
    record { call = call; types = three_middles; first = first; second = second; answer = answer }

-- "Cases 1 to 12 are the small set." Case 12 and a new case are as Paper 6 has them; cases of Papers 7 and 9 follow.
abbrev pub cases : List Case
cases =
    -- 1. Common part of a[0: b] and b: a lone top, 01 03 and eight 00.
    over_diamond generalizing (2 ∷ node a 0x01 (1 ∷ []) ++ leaf b) (lone b) (gives (0x01 ∷ 0x03 ∷ replicate 8 0x00))
    -- 2. Combine a with b: 10.
    ∷ over_diamond unifying (lone a) (lone b) (refuses 10)
    -- 3. Combine P with top[0: a, 1: top]: R.
    ∷ over_diamond unifying P (3 ∷ node top 0x03 (1 ∷ 2 ∷ []) ++ leaf a ++ leaf top) (gives R)
    -- 4. Combine P with top[0: a, 1: b]: 10.
    ∷ over_diamond unifying P (3 ∷ node top 0x03 (1 ∷ 2 ∷ []) ++ leaf a ++ leaf b) (refuses 10)
    -- 5. Combine P with top[0: Z a, 1: b[0: Z]]: 9, though a and b clash too.
    ∷ over_diamond unifying P (3 ∷ node top 0x03 (1 ∷ 2 ∷ []) ++ leaf a ++ node b 0x01 (1 ∷ [])) (refuses 9)
    -- 6. Common part of P and Q: Q.
    ∷ over_diamond generalizing P Q (gives Q)
    -- 7. Difference of g = P, s = R: top[0: a].
    ∷ over_diamond differing P R (gives (2 ∷ node top 0x01 (1 ∷ []) ++ leaf a))
    -- 8. Difference of g = Q, s = R: R.
    ∷ over_diamond differing Q R (gives R)
    -- 9. Difference of a graph from itself: a lone top.
    ∷ over_diamond differing R R (gives (lone top))
    ∷ over_diamond differing P P (gives (lone top))
    -- 10. Difference of g = P, s = Q: 12.
    ∷ over_diamond differing P Q (refuses 12)
    -- 11. s = top[0: X top, 1: X, 2: X]; g the same with 0 and 1 shared, 2 apart, all top: top[0: X top, 2: X].
    ∷ over_diamond differing
    (3 ∷ node top 0x07 (1 ∷ 1 ∷ 2 ∷ []) ++ leaf top ++ leaf top)
    (2 ∷ node top 0x07 (1 ∷ 1 ∷ 1 ∷ []) ++ leaf top)
    (gives (2 ∷ node top 0x05 (1 ∷ 1 ∷ []) ++ leaf top))
    -- 12. Three middle types between least and top, mutually unordered: accepted (a common part is given), no difference gives 13, and a
    -- graph's difference from itself is a lone top.
    ∷ over_three_middles generalizing (lone 1) (lone 2) (gives (lone 4))
    ∷ over_three_middles differing (lone 1) (lone 1) (gives (lone 4))
    ∷ over_three_middles differing (lone 4) (lone 1) (gives (lone 1))
    ∷ over_three_middles differing (lone 1) (lone 2) (refuses 12)
    -- Paper 6: "with g a lone 2 and s a lone 1, the types 1, 3 and 4 all restore and none is the greatest, so 13".
    ∷ record { call = differing; types = three_over_one; first = lone 2; second = lone 1; answer = refuses 13 }
    -- Paper 7, with ranges behind the types: combine a{10..100} with top{50..200}: a{50..100}.
    ∷ over_diamond unifying (1 ∷ ranged a 10 100) (1 ∷ ranged top 50 200) (gives (1 ∷ ranged a 50 100))
    -- Combine a{10..50} with a{60..70}: 10, "an empty overlap is a clash".
    ∷ over_diamond unifying (1 ∷ ranged a 10 50) (1 ∷ ranged a 60 70) (refuses 10)
    -- Common part of a{10..50} and b{60..70}: top{10..70}.
    ∷ over_diamond generalizing (1 ∷ ranged a 10 50) (1 ∷ ranged b 60 70) (gives (1 ∷ ranged top 10 70))
    -- Common part of a{0..50} and a{40..255}: a.
    ∷ over_diamond generalizing (1 ∷ ranged a 0 50) (1 ∷ ranged a 40 255) (gives (lone a))
    -- Difference of g = top[0: a{0..20}], s = top[0: a{10..20}]: top[0: top{10..255}], "a node is also kept when it is not full".
    ∷ over_diamond differing (2 ∷ node top 0x01 (1 ∷ []) ++ ranged a 0 20) (2 ∷ node top 0x01 (1 ∷ []) ++ ranged a 10 20)
    (gives (2 ∷ node top 0x01 (1 ∷ []) ++ ranged top 10 255))
    -- The full range spelled out, a{0..255}, and rewritten: a.
    ∷ over_diamond rewriting_first (1 ∷ ranged a 0 255) [] (gives (lone a))
    -- A lowest level above the highest: 5.
    ∷ over_diamond rewriting_first (1 ∷ ranged a 20 10) [] (refuses 5)
    -- Paper 9, with a list by which feature 0 belongs to a: "A difference need not obey it". The difference of g = a, s = a[0: b] is top[0: b],
    -- which the list refuses by 18, though s obeys the list. The plain call combines it with g to s.
    ∷ over_diamond (rewriting_beside zero_of_a) (2 ∷ node a 0x01 (1 ∷ []) ++ leaf b) [] (gives (2 ∷ node a 0x01 (1 ∷ []) ++ leaf b))
    ∷ over_diamond differing (lone a) (2 ∷ node a 0x01 (1 ∷ []) ++ leaf b) (gives (2 ∷ node top 0x01 (1 ∷ []) ++ leaf b))
    ∷ over_diamond (rewriting_beside zero_of_a) (2 ∷ node top 0x01 (1 ∷ []) ++ leaf b) [] (refuses 18)
    ∷ over_diamond unifying (2 ∷ node top 0x01 (1 ∷ []) ++ leaf b) (lone a) (gives (2 ∷ node a 0x01 (1 ∷ []) ++ leaf b))
    -- The second graph's 18 comes after the first's 4 to 7.
    ∷ over_diamond (generalizing_beside zero_of_a) (lone a) (2 ∷ node top 0x01 (1 ∷ []) ++ leaf b) (refuses 18)
    ∷ over_diamond (generalizing_beside zero_of_a) (lone 0) (2 ∷ node top 0x01 (1 ∷ []) ++ leaf b) (refuses 5)
    -- A list of 63 bytes is 17, and so is a list with an entry of n.
    ∷ over_diamond (rewriting_beside (replicate 63 top)) (lone a) [] (refuses 17)
    ∷ over_diamond (rewriting_beside (4 ∷ replicate 63 top)) (lone a) [] (refuses 17)
    ∷ []

-- No difference of two graphs accepted over a table gives 13, whatever output is lent.
abbrev pub NeverUnwanted : Types → Type 0
NeverUnwanted types =
    (first second out : List ℕ) (g s : List (Row Label)) →
    reading types.count first ≡ accepted g →
    reading types.count second ≡ accepted s →
    (differing types.count types.table first second out).reply ≡ NoWantedType → ⊥

-- "a graph's difference from itself is a lone top", for every graph accepted over a table: the call writes its record, or gives 8 where the
-- output is shorter.
abbrev pub ItselfTop : Types → Type 0
ItselfTop types =
    (bytes out : List ℕ) (s : List (Row Label)) →
    reading types.count bytes ≡ accepted s →
    differing types.count types.table bytes bytes out ≡ result_of (fitted (lone_top types.count) out)

-- The small set: every case of the table holds. For case 12, over all graphs, no difference gives 13, and a graph's difference from itself is a
-- lone top.
pub record SmallSet : Type 0 where
  pub all_hold : AllHold cases
  pub never-unwanted : NeverUnwanted three_middles
  pub itself-top : ItselfTop three_middles

-- the order of two graphs over the diamond
abbrev pub Orders : List ℕ → List ℕ → Reply → Type 0
Orders first second answer = ordering diamond.count diamond.table first second ≡ answer

-- The order's four answers, seen from the first graph.
pub record FourAnswers : Type 0 where
  pub itself : Orders P P Same
  pub unshared : Orders P Q Under
  pub shared : Orders Q P Above
  pub typed : Orders R P Under
  pub untyped : Orders P R Above
  pub apart : Orders (lone a) (lone b) Neither

-- the output lent for reasons
abbrev pub lent_beside : List ℕ
lent_beside = replicate 4 0xDD

-- The difference over the diamond gives this record and these reasons for its links.
abbrev pub Explains : List ℕ → List ℕ → List ℕ → List ℕ → Type 0
Explains general specific bytes reasons =
    explaining diamond.count diamond.table general specific lent lent_beside ≡
    explained_result (Length (length bytes)) (bytes ++ drop (length bytes) lent) (reasons ++ drop (length reasons) lent_beside)

-- Paper 13: cases 7, 8 and 11 with their reasons, a link that nothing of the general graph lies over, and too few bytes for the reasons.
pub record Reasons : Type 0 where
  -- One link keeps the shared node, for its type.
  pub wanted : Explains P R (2 ∷ node top 0x01 (1 ∷ []) ++ leaf a) (3 ∷ [])
  -- In R over Q the shared node has two groups.
  pub shared : Explains Q R R (2 ∷ 2 ∷ [])
  pub rejoined : Explains (3 ∷ node top 0x07 (1 ∷ 1 ∷ 2 ∷ []) ++ leaf top ++ leaf top) (2 ∷ node top 0x07 (1 ∷ 1 ∷ 1 ∷ []) ++ leaf top)
      (2 ∷ node top 0x05 (1 ∷ 1 ∷ []) ++ leaf top) (2 ∷ 2 ∷ [])
  pub added : Explains (lone top) (2 ∷ node top 0x01 (1 ∷ []) ++ leaf top) (2 ∷ node top 0x01 (1 ∷ []) ++ leaf top) (1 ∷ [])
  pub no_room : explaining diamond.count diamond.table Q R lent (0xDD ∷ []) ≡ explained_result NoReasonRoom lent (0xDD ∷ [])

-- Lists of features: in their own order, with 1 before 0, and with 0 twice.
abbrev pub zero_first : List ℕ
zero_first = from 0 64

abbrev pub one_first : List ℕ
one_first = 1 ∷ 0 ∷ from 2 62

abbrev pub zero_twice : List ℕ
zero_twice = 0 ∷ 0 ∷ from 2 62

-- A graph with a node that two paths lead to: feature 1, and feature 0 twice.
abbrev pub deeper : ℕ → List ℕ
deeper type = 3 ∷ node top 0x03 (1 ∷ 2 ∷ []) ++ node top 0x01 (2 ∷ []) ++ leaf type

-- The difference over the diamond by a list gives this record.
abbrev pub DiffersBy : List ℕ → List ℕ → List ℕ → List ℕ → Type 0
DiffersBy list general specific bytes =
    differing_by diamond.count diamond.table list general specific lent ≡
    resulting (Length (length bytes)) (bytes ++ drop (length bytes) lent)

-- Paper 10: which link leads its group, by two lists and without a list.
pub record ReadingOrders : Type 0 where
  -- Both links have one parent: the link whose feature the list names first leads.
  pub zero-first : DiffersBy zero_first P R (2 ∷ node top 0x01 (1 ∷ []) ++ leaf a)
  pub one-first : DiffersBy one_first P R (2 ∷ node top 0x02 (1 ∷ []) ++ leaf a)
  -- The links have two parents. A list of the features in their own order is not document 01's order, where the parent comes first.
  pub feature-first : DiffersBy zero_first (deeper top) (deeper a) (3 ∷ node top 0x01 (1 ∷ []) ++ node top 0x01 (2 ∷ []) ++ leaf a)
  pub parent-first : differing diamond.count diamond.table (deeper top) (deeper a) lent ≡
      resulting (Length (length (2 ∷ node top 0x02 (1 ∷ []) ++ leaf a)))
      ((2 ∷ node top 0x02 (1 ∷ []) ++ leaf a) ++ drop (length (2 ∷ node top 0x02 (1 ∷ []) ++ leaf a)) lent)
  -- The reasons beside the difference by a list.
  pub explained : explaining_by diamond.count diamond.table zero_first (deeper top) (deeper a) lent lent_beside ≡
      explained_result (Length (length (3 ∷ node top 0x01 (1 ∷ []) ++ node top 0x01 (2 ∷ []) ++ leaf a)))
      ((3 ∷ node top 0x01 (1 ∷ []) ++ node top 0x01 (2 ∷ []) ++ leaf a) ++
      drop (length (3 ∷ node top 0x01 (1 ∷ []) ++ node top 0x01 (2 ∷ []) ++ leaf a)) lent)
      (3 ∷ 3 ∷ 0xDD ∷ 0xDD ∷ [])
  -- "A list that is anything else is 19"
  pub twice : differing_by diamond.count diamond.table zero_twice P R lent ≡ refusing ReadingOrder lent

-- whether the meet spreads over the join in a table
abbrev pub spreads : Types → Bool
spreads types = distributive types.count types.table

-- the sets of the types of a table, in the order of their numbers
abbrev pub sets_of : Types → List ℕ
sets_of types = map (set_of types.count types.table) (upto types.count)

-- Paper 12: the meet spreads over the join in the diamond, but not in the tables with three rival types. The bits of a type's set are the
-- irreducible types below or equal to it. In the diamond these are 1 and 2, whose join is top; with three rivals over a type, that type is
-- irreducible too.
pub record AsSets : Type 0 where
  pub diamond-spreads : spreads diamond ≡ true
  pub rivals-do-not : spreads three_middles ≡ false
  pub raised-rivals-do-not : spreads three_over_one ≡ false
  pub diamond-sets : sets_of diamond ≡ 0 ∷ 2 ∷ 4 ∷ 6 ∷ []
  pub rival-sets : sets_of three_middles ≡ 0 ∷ 2 ∷ 4 ∷ 8 ∷ 14 ∷ []
  pub raised-rival-sets : sets_of three_over_one ≡ 0 ∷ 2 ∷ 6 ∷ 10 ∷ 18 ∷ 30 ∷ []

-- Paper 14: "a two-type table".
abbrev pub two_types : Types
two_types = record { count = 2; table = rows (0x01 ∷ 0x03 ∷ []) }

-- chains of two and of three nodes by one feature
abbrev pub two_chain : List ℕ
two_chain = 2 ∷ node 1 0x01 (1 ∷ []) ++ leaf 1

abbrev pub three_chain : List ℕ
three_chain = 3 ∷ node 1 0x01 (1 ∷ []) ++ node 1 0x01 (2 ∷ []) ++ leaf 1

-- What a call over two types with F features gives for a record.
abbrev pub steps_over : ℕ → List ℕ → Result
steps_over F bytes = stepping two_types.count two_types.table F bytes lent

-- With F of 1, the call gives `next` for this record.
abbrev pub Follows : List ℕ → List ℕ → Type 0
Follows bytes next = steps_over 1 bytes ≡ resulting (Length (length next)) (next ++ drop (length next) lent)

-- Paper 14: "Over a two-type table with F of 1 the list has three records: chains of one, two and three nodes." With F of 2 it has twenty.
pub record Chains : Type 0 where
  pub list : listing two_types.count 1 ≡ lone 1 ∷ two_chain ∷ three_chain ∷ []
  pub more : length (listing two_types.count 2) ≡ 20
  pub first : Follows [] (lone 1)
  pub second : Follows (lone 1) two_chain
  pub third : Follows two_chain three_chain
  -- "or the end, the output then unchanged"
  pub end : steps_over 1 three_chain ≡ refusing End lent
  -- "F outside 1 and 2 is 23", whether the record is listed or not
  pub no-feature : steps_over 0 [] ≡ refusing FeatureCount lent
  pub three-features : steps_over 3 (2 ∷ node 1 0x02 (1 ∷ []) ++ leaf 1) ≡ refusing FeatureCount lent
  -- "a record that is read but not listed is 24": one with feature 1, and one that spells out a full range.
  pub other-feature : steps_over 1 (2 ∷ node 1 0x02 (1 ∷ []) ++ leaf 1) ≡ refusing NotListed lent
  pub spelled_out : steps_over 1 (1 ∷ ranged 1 0 255) ≡ refusing NotListed lent
