-- The three demands on the calls: one theorem for each sentence. The theorems are about the definitions that the calls are proved equal to:
-- `rewriting`, `ordering`, `generalizing`, `unifying` and `differing`. The other words of the statements are defined in `Demand`; the proofs are
-- cited. n and t are the table, out is the output lent; a and b are the records.
use mathlib.Core.Path.{◌≡◌, refl, ◌∙◌}
use mathlib.Core.Bool.{Bool, true}
use mathlib.Core.List.{List, Memᴰ}
use mathlib.Core.Logic.{◌↔◌, ◌⊎◌}
use mathlib.Core.Option.{none, some}
use Prim.Native.Nat.{ℕ, ◌≤◌, ◌<◌}
use lib.Dec.{eqb}
use lib.ListN.{length, take}
use Rattle.graphs.specs.Graph.{Graph, TellsApart, Reached, Below, SameMeaning}
use Rattle.graphs.specs.Rows.{Row, from}
use Rattle.graphs.specs.LeastPath.{Earlier, LeastPath}
use Rattle.graphs.specs.Generalize.{IsGeneralization}
use Rattle.graphs.specs.Unify as unify
use Rattle.graphs.specs.Difference.{Link, by_number, group_of}
use Rattle.graphs.specs.Relations.{Into, LiesOver, Grouped, KeptLink}
use Rattle.graphs.specs.OfRows.{same_pair}
use Rattle.graphs.proofs.Difference.ByNumber.{by-number-order}
use Rattle.lattice.specs.Label.{Label}
use Rattle.std.specs.Prelude.{Ok}
use Rattle.lattice.specs.Table.{admits}
use Rattle.acceptance.specs.Reply.{opened}
use Rattle.lattice.specs.Labels.{table_labels, OfAnySize, LeastOfAnySize, GreatestOfAnySize, IsCombination, LabelClash, WantedAt}
use Rattle.acceptance.proofs.Acceptance.{opened-accepted}
use Rattle.lattice.proofs.AnySize.{combination-greatest}
use Rattle.encode.specs.Encode.{fitted}
use Rattle.record.specs.Read.{reading, accepted, graph_of_rows}
use Rattle.replies.specs.Replies.{Length, Same, Cycle, Clash, TooLarge, NotBelow, NoWantedType}
use Rattle.replies.specs.Reply.{Result, result_of}
use Rattle.difference.specs.Difference.{over}
use Rattle.calls.specs.Calls.{rewriting, ordering, generalizing, unifying, differing}
use Rattle.demands.specs.Wanted.{SomeUnwanted}
use Rattle.demands.specs.Demand.{
  Given,
  RefusedAfterReading,
  BothAccepted,
  AnswersBelow,
  AnswersNotBelow,
  WrittenRecord,
  Leaves,
  Large,
  record_of,
  writing,
  RecordOf,
  Rewritten,
  common,
  CommonPart,
  NoneBelow,
  Combination,
  as_written,
  remainder,
  WantedNotTop,
  Restores,
  Difference,
}
use Rattle.demands.proofs.Results.{rewriting-is, result-record}
use Rattle.demands.proofs.Demanded.Output as Output
use Rattle.demands.proofs.Demanded.Recorded as Recorded
use Rattle.demands.proofs.Demanded.Accepted as After
use Rattle.demands.proofs.Demanded.Meaning as Meaning
use Rattle.demands.proofs.Demanded.Numbering as Numbering
use Rattle.demands.proofs.Demanded.Order as Order
use Rattle.demands.proofs.Demanded.CommonPart as Common
use Rattle.demands.proofs.Demanded.Combination as Combined
use Rattle.demands.proofs.Demanded.Difference as Differed
use Rattle.demands.proofs.Demanded.Whole as Whole
use Rattle.demands.proofs.Demanded.Relations as Related

-- Demand 1: what is handed in determines the reply and each byte of the output. Each call's promise is an equation with its definition. Whatever
-- is handed in, a refusal leaves the output as it was. Beside a length, the first bytes are a record that is accepted when it is read and is its
-- own written form, and the other bytes are unchanged.

module _ (n : ℕ) (t out : List ℕ) where
  pub rewriting-leaves : (bytes : List ℕ) → Leaves n out (rewriting n t bytes out)
  rewriting-leaves bytes = Output.rewriting-leaves n t out bytes

  pub generalizing-leaves : (a b : List ℕ) → Leaves n out (generalizing n t a b out)
  generalizing-leaves a b = Output.generalizing-leaves n t out a b

  pub unifying-leaves : (a b : List ℕ) → Leaves n out (unifying n t a b out)
  unifying-leaves a b = Output.unifying-leaves n t out a b

  pub differing-leaves : (a b : List ℕ) → Leaves n out (differing n t a b out)
  differing-leaves a b = Output.differing-leaves n t out a b

  -- "The longest record becomes 4,854 bytes": a length is at most that, so it is told apart from every other reply's code.
  pub length-bounded : (r : Result) → Leaves n out r → (l : ℕ) → r.reply ≡ Length l → l ≤ 4854
  length-bounded = Output.length-bounded n out

  -- 11 is no reply of rewriting or of the difference: what they write is no larger than an accepted record.
  pub rewriting-never-large : (bytes : List ℕ) → (rewriting n t bytes out).reply ≡ TooLarge → ⊥
  rewriting-never-large bytes = Output.rewriting-small n t out bytes

  pub differing-never-large : (a b : List ℕ) → (differing n t a b out).reply ≡ TooLarge → ⊥
  differing-never-large a b = Output.differing-small n t out a b

  -- 8 to 13 are answered only over an accepted table and accepted graphs: "A table is accepted when none of 1 to 3 applies to it, a graph when
  -- none of 4 to 7 does." So demand 3, which is about accepted records, covers every such reply.
  pub rewriting-accepted : (a : List ℕ) → RefusedAfterReading (rewriting n t a out).reply →
      (opened n t ≡ Ok tt) × ((rows : List (Row Label)) × (reading n a ≡ accepted rows))
  rewriting-accepted a = After.rewriting-accepted n t out a

  pub generalizing-accepted : (a b : List ℕ) → RefusedAfterReading (generalizing n t a b out).reply → BothAccepted n t a b
  generalizing-accepted a b = After.generalizing-accepted n t out a b

  pub unifying-accepted : (a b : List ℕ) → RefusedAfterReading (unifying n t a b out).reply → BothAccepted n t a b
  unifying-accepted a b = After.unifying-accepted n t out a b

  pub differing-accepted : (a b : List ℕ) → RefusedAfterReading (differing n t a b out).reply → BothAccepted n t a b
  differing-accepted a b = After.differing-accepted n t out a b

-- Demand 2: bytes and meaning.

-- A graph has no record exactly where it is too large. A graph's record means the same as the graph, and graphs have the same record exactly
-- where they mean the same.
module _ (n : ℕ) (t : List ℕ) (opens : opened n t ≡ Ok tt) {C : Type 0} (same : C → C → Bool) (tells : TellsApart same) (k : Graph Label C)
    (size : OfAnySize n t k) where
  pub record-none : (record_of same k ≡ none) ↔ Large k
  record-none = Recorded.record-none n t opens same tells k size

  module _ (bytes : List ℕ) (is : record_of same k ≡ some bytes) where
    pub record-means : RecordOf n t k bytes
    record-means = Recorded.record-means n t opens same tells k size bytes is

    pub record-of-meaning : {D : Type 0} (other : D → D → Bool) → TellsApart other → (m : Graph Label D) → OfAnySize n t m →
        SameMeaning (table_labels n t) k m ↔ (record_of other m ≡ some bytes)
    record-of-meaning = Recorded.record-exact n t opens same tells k size bytes is

-- Rewriting an accepted record writes the record of its graph.
module _ (n : ℕ) (t a : List ℕ) (rows : List (Row Label)) (opens : opened n t ≡ Ok tt) (reads : reading n a ≡ accepted rows) (out : List ℕ) where
  pub rewriting-written : rewriting n t a out ≡ writing (record_of eqb (graph_of_rows rows)) out
  rewriting-written = rewriting-is n t a rows opens reads out ∙ result-record eqb (graph_of_rows rows) out

  -- What is written is accepted, is its own written form and means the same as the record a.
  pub rewriting-means : (l : ℕ) → (rewriting n t a out).reply ≡ Length l → Rewritten n t a rows (take l (rewriting n t a out).output)
  rewriting-means = Meaning.written-again n t a rows opens reads out

module _ (n : ℕ) (t a b : List ℕ) (s g : List (Row Label)) (given : Given n t a b s g) where
  -- Two accepted records mean the same exactly when rewriting gives equal bytes.
  pub meaning-bytes : (out : List ℕ) (l m : ℕ) → (rewriting n t a out).reply ≡ Length l → (rewriting n t b out).reply ≡ Length m →
      SameMeaning (table_labels n t) (graph_of_rows s) (graph_of_rows g) ↔
      (take l (rewriting n t a out).output ≡ take m (rewriting n t b out).output)
  meaning-bytes = Meaning.bytes-exact n t a b s g given

  -- Two accepted records mean the same exactly when rewriting gives the same reply and output, whatever output is lent.
  pub meaning-rewriting : SameMeaning (table_labels n t) (graph_of_rows s) (graph_of_rows g) ↔
      ((out : List ℕ) → rewriting n t a out ≡ rewriting n t b out)
  meaning-rewriting = Meaning.meaning-exact n t a b s g given

  -- Two accepted records mean the same exactly when the order answers same.
  pub meaning-order : (ordering n t a b ≡ Same) ↔ SameMeaning (table_labels n t) (graph_of_rows s) (graph_of_rows g)
  meaning-order = Meaning.order_same n t a b s g given

-- One form: every record that a call wrote is a `WrittenRecord`, as its `Leaves` says.
module _ (n : ℕ) (t a : List ℕ) (one : WrittenRecord n a) where
  -- Over an accepted table, rewriting a written record gives its own bytes and leaves the other bytes of the output unchanged, or gives 8 where
  -- the output is shorter.
  pub written-own-bytes : opened n t ≡ Ok tt → (out : List ℕ) → rewriting n t a out ≡ result_of (fitted a out)
  written-own-bytes = Meaning.own-bytes n t a one

  -- Two written records mean the same exactly when they are equal bytes.
  pub written-one-form : (b : List ℕ) (other : WrittenRecord n b) →
      SameMeaning (table_labels n t) (graph_of_rows one.form) (graph_of_rows other.form) ↔ (a ≡ b)
  written-one-form = Meaning.one_form n t a one

-- "Written records number the nodes by first visit, from the root, lowest feature first, following links downward .. All that hangs below a link
-- is numbered before the node's next link is followed": among the paths that lead to a node there is a least one. A path comes before the paths
-- that extend it; where two paths part, the one with the lower feature comes first.
module _ (n : ℕ) (a : List ℕ) (one : WrittenRecord n a) where
  pub least-path-exists : (v : ℕ) → v < length one.form → (p : List ℕ) × LeastPath (graph_of_rows one.form) p v
  least-path-exists = Numbering.least-path-exists n a one

  -- The nodes' numbers ascend with their least paths.
  pub numbered-by-least-path : (v w : ℕ) (p q : List ℕ) → LeastPath (graph_of_rows one.form) p v → LeastPath (graph_of_rows one.form) q w →
      (v < w) ↔ Earlier p q
  numbered-by-least-path = Numbering.numbered-by-least-path n a one

-- Demand 3, the order: it answers same or under exactly where the first graph is below the second, and above or neither exactly where it is not.

module _ (n : ℕ) (t a b : List ℕ) (s g : List (Row Label)) (given : Given n t a b s g) where
  pub order-exact : (AnswersBelow n t a b ↔ Below (table_labels n t) (graph_of_rows s) (graph_of_rows g)) ×
      (AnswersNotBelow n t a b ↔ (Below (table_labels n t) (graph_of_rows s) (graph_of_rows g) → ⊥))
  order-exact = Order.order-exact n t a b s g given

-- Demand 3, the common part.

module _ (n : ℕ) (t a b : List ℕ) (g h : List (Row Label)) (given : Given n t a b g h) where
  -- The common part, also where it is too large to be written, has "the paths in both, each with the join of its two types, two sharing exactly
  -- when they share in both".
  pub common-part-paths : IsGeneralization (table_labels n t) (graph_of_rows g) (graph_of_rows h) (common n t g h)
  common-part-paths = Common.common-part-paths n t a b g h given

  -- The common part is the least graph of any size above both, so there always is such a graph.
  pub common-part-exists : LeastOfAnySize n t (graph_of_rows g) (graph_of_rows h) (common n t g h)
  common-part-exists = Common.common-part-exists n t a b g h given

  module _ (out : List ℕ) where
    -- The call writes the common part.
    pub common-part-written : generalizing n t a b out ≡ writing (record_of same_pair (common n t g h)) out
    common-part-written = Common.common-part-result n t a b g h given out ∙ result-record same_pair (common n t g h) out

    -- What is written is the common part over paths, is the least graph of any size above both, and the order agrees.
    pub common-part : (l : ℕ) → (generalizing n t a b out).reply ≡ Length l → CommonPart n t a b g h (take l (generalizing n t a b out).output)
    common-part = Common.common-part n t a b g h given out

-- Demand 3, the combination.

-- "order and combination of such graphs go by the same rules, over paths": for graphs of any size, what the classes of paths give is the greatest
-- graph of any size below both.
pub combination-over-paths : (n : ℕ) (t : List ℕ) → opened n t ≡ Ok tt → {A B C : Type 0} (g : Graph Label A) (h : Graph Label B) (u : Graph Label C) →
    OfAnySize n t g → OfAnySize n t h → OfAnySize n t u → IsCombination n t g h u → GreatestOfAnySize n t g h u
combination-over-paths n t opens g h u a b =
    combination-greatest n t (opened-accepted n t (opened n t) refl opens) g h a b u

module _ (n : ℕ) (t a b : List ℕ) (g h : List (Row Label)) (given : Given n t a b g h) (out : List ℕ) where
  -- 9 is answered exactly where a class reaches itself.
  pub combination-cycle : ((unifying n t a b out).reply ≡ Cycle) ↔ unify.Cycle (table_labels n t) (graph_of_rows g) (graph_of_rows h)
  combination-cycle = Combined.cycle-exact n t a b g h given out

  -- 10 is answered exactly where no class reaches itself and the meet of some class is a contradiction: type 0, or an empty range.
  pub combination-clash : ((unifying n t a b out).reply ≡ Clash) ↔
      ((unify.Cycle (table_labels n t) (graph_of_rows g) (graph_of_rows h) → ⊥) × LabelClash n t (graph_of_rows g) (graph_of_rows h))
  combination-clash = Combined.clash-exact n t a b g h given out

  -- 9 or 10 is answered exactly where no graph of any size lies below both.
  pub combination-none : (((unifying n t a b out).reply ≡ Cycle) ⊎ ((unifying n t a b out).reply ≡ Clash)) ↔ NoneBelow n t g h
  combination-none = Combined.none-exact n t a b g h given out

  -- Where neither 9 nor 10 is answered, the classes of paths give a graph, the greatest of any size below both, also where it is too large to be
  -- written.
  pub combination-exists : (((unifying n t a b out).reply ≡ Cycle) ⊎ ((unifying n t a b out).reply ≡ Clash) → ⊥) →
      (u : Graph Label (ℕ ⊎ ℕ)) × IsCombination n t (graph_of_rows g) (graph_of_rows h) u × GreatestOfAnySize n t (graph_of_rows g) (graph_of_rows h) u
  combination-exists = Combined.exists n t a b g h given out

  -- Every graph that is the greatest of any size below both is what the call writes.
  pub combination-written : {C : Type 0} (same : C → C → Bool) → TellsApart same → (u : Graph Label C) →
      GreatestOfAnySize n t (graph_of_rows g) (graph_of_rows h) u → unifying n t a b out ≡ writing (record_of same u) out
  combination-written same tells u best = Combined.greatest-result n t a b g h given out same tells u best ∙ result-record same u out

  -- What is written is the greatest graph of any size below both, and the order agrees.
  pub combination : (l : ℕ) → (unifying n t a b out).reply ≡ Length l → Combination n t a b g h (take l (unifying n t a b out).output)
  combination = Combined.written-combination n t a b g h given out

-- Demand 3, the difference of a, the general record, and b, the specific one.

-- Over a table that admits differences, where b is below a, there is one record that every call for the difference writes; the call answers 8
-- where the output is shorter. This record, combined with a, restores b byte for byte, and nothing strictly more general of any size does.
pub difference-demanded : (n : ℕ) (t a b : List ℕ) (g s : List (Row Label)) → Given n t a b g s → admits n t ≡ true → AnswersBelow n t b a →
    (bytes : List ℕ) × WrittenRecord n bytes × ((out : List ℕ) → differing n t a b out ≡ result_of (fitted bytes out)) ×
    Difference n t a b g s bytes
difference-demanded = Whole.difference-whole

module _ (n : ℕ) (t a b : List ℕ) (g s : List (Row Label)) (given : Given n t a b g s) where
  -- Where s is below g and no node of s is without a wanted type, the difference restores s with g and nothing more general does.
  pub difference-restores : Below (table_labels n t) (graph_of_rows s) (graph_of_rows g) →
      (SomeUnwanted n t (graph_of_rows s) (graph_of_rows g) → ⊥) → Restores n t (remainder by_number n t g s) (graph_of_rows g) (graph_of_rows s)
  difference-restores below all = Differed.remainder-restores n t a b g s given by-number-order below (Differed.all_wanted_lem n t a b g s given below all)

  -- The difference is that of document 01, as the relations state it over the paths and links of the two graphs, with s numbered as written.
  -- `over` gives the node of s that a node of g lies over.
  module _ (below : Below (table_labels n t) (graph_of_rows s) (graph_of_rows g)) where
    pub over-exact : (y v : ℕ) →
        LiesOver (graph_of_rows (as_written s)) (graph_of_rows g) y v ↔ (Reached (graph_of_rows g) y × (over (as_written s) g y ≡ v))
    over-exact = Related.over-exact n t a b g s given below

    -- `group_of` gives the links that are in one group with l.
    pub group-exact : (v : ℕ) (l m : Link ℕ) → Into (graph_of_rows (as_written s)) v l →
        Memᴰ m
        (group_of eqb eqb (graph_of_rows (as_written s)) (from 0 (length (as_written s))) (graph_of_rows g) (from 0 (length g)) (over (as_written s) g) v l) ↔
        Grouped (graph_of_rows (as_written s)) (graph_of_rows g) v l m
    group-exact = Related.group-exact n t a b g s given below

    -- The links of the difference are the kept links, and the label of a node is its wanted label.
    module _ (all : SomeUnwanted n t (graph_of_rows s) (graph_of_rows g) → ⊥) where
      pub keep-exact : (u f v : ℕ) → Reached (graph_of_rows (as_written s)) u → ((remainder by_number n t g s).link u f ≡ some v) ↔
          KeptLink (graph_of_rows (as_written s)) (graph_of_rows g) by_number (WantedNotTop n t (graph_of_rows (as_written s)) (graph_of_rows g)) u f v
      keep-exact = Related.keep-exact n t a b g s given below (Differed.all_wanted_lem n t a b g s given below all) by-number-order

      pub label-exact : (v : ℕ) → WantedAt n t (graph_of_rows (as_written s)) (graph_of_rows g) v ((remainder by_number n t g s).label v)
      label-exact = Related.label-exact n t a b g s given below (Differed.all_wanted_lem n t a b g s given below all) by-number-order

  module _ (out : List ℕ) where
    -- 12 is answered exactly where s is not below g.
    pub difference-not-below : ((differing n t a b out).reply ≡ NotBelow) ↔ (Below (table_labels n t) (graph_of_rows s) (graph_of_rows g) → ⊥)
    difference-not-below = Differed.not-below-exact n t a b g s given by-number-order (Differed.plain-parts n t a b given out)

    -- 13 is answered exactly where s is below g and some node of s has no wanted type.
    pub difference-not-wanted : ((differing n t a b out).reply ≡ NoWantedType) ↔
        (Below (table_labels n t) (graph_of_rows s) (graph_of_rows g) × SomeUnwanted n t (graph_of_rows s) (graph_of_rows g))
    difference-not-wanted = Differed.unwanted-reply-exact n t a b g s given by-number-order (Differed.plain-parts n t a b given out)

    -- Where s is below g and no node of s is without a wanted type, the call writes the difference.
    pub difference-written : Below (table_labels n t) (graph_of_rows s) (graph_of_rows g) →
        (SomeUnwanted n t (graph_of_rows s) (graph_of_rows g) → ⊥) → differing n t a b out ≡ writing (record_of eqb (remainder by_number n t g s)) out
    difference-written below all = Differed.remainder-written n t a b g s given by-number-order (Differed.plain-parts n t a b given out) below (Differed.all_wanted_lem n t a b g s given below all)

    -- What is written, combined with a, restores b byte for byte; nothing more general does; and the order agrees.
    pub difference : (l : ℕ) → (differing n t a b out).reply ≡ Length l → Difference n t a b g s (take l (differing n t a b out).output)
    difference = Differed.written-difference n t a b g s given by-number-order (Differed.plain-parts n t a b given out)
