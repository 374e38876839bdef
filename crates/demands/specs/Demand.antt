-- Definitions for the theorems on the three demands, over an accepted table and accepted records: what a call leaves in its output, how a graph
-- is written, and which graph a common part, a combination or a difference is among all graphs of any size. n and t are the table, a and b the
-- records.
use Rattle.std.specs.Prelude.{◌≡◌, Bool, false, List, ◌∷◌, ◌⊎◌, ℕ, ◌-◌, ◌≤◌, eqb, length, take, drop, replicate, Ok}
use Rattle.std.proofs.Math.Option.{Option, none, some}
use Rattle.graphs.specs.Graph.{Graph, TellsApart, Below, SameMeaning}
use Rattle.graphs.specs.Rows.{Row}
use Rattle.graphs.specs.Number.{Canonical, many_nodes, many_links, written, canonical}
use Rattle.graphs.specs.Large.{ManyNodes, ManyLinks}
use Rattle.graphs.specs.Generalize.{IsGeneralization, generalization_by}
use Rattle.graphs.specs.Difference.{Link}
use Rattle.lattice.specs.Label.{Label}
use Rattle.acceptance.specs.Reply.{opened}
use Rattle.lattice.specs.Labels.{table_labels, OfAnySize, LeastOfAnySize, GreatestOfAnySize, IsCombination, WantedAt}
use Rattle.encoder.specs.Encode.{encoded}
use Rattle.encode.specs.Encode.{fitted}
use Rattle.record.specs.Read.{reading, accepted, graph_of_rows}
use Rattle.replies.specs.Replies.{Reply}
use Rattle.replies.specs.Replies.{Length, Same, Under, Above, Neither, TooLarge}
use Rattle.replies.specs.Reply.{Result, refusal, refusing, result_of}
use Rattle.calls.specs.Calls.{ordering, rewriting, unifying}
use Rattle.difference.specs.Difference.{numbered, difference_rows}

-- An accepted table, and two accepted records with their rows.
pub record Given (n : ℕ) (t a b : List ℕ) (s g : List (Row Label)) : Type 0 where
  pub opens : opened n t ≡ Ok tt
  pub first : reading n a ≡ accepted s
  pub second : reading n b ≡ accepted g

-- The reply is one of the refusals 8 to 13.
abbrev pub RefusedAfterReading : Reply → Type 0
RefusedAfterReading reply = (k : ℕ) × (8 ≤ k) × (k ≤ 13) × (refusal reply ≡ some k)

-- "A table is accepted when none of 1 to 3 applies to it, a graph when none of 4 to 7 does": both records are accepted, over an accepted table.
abbrev pub BothAccepted : ℕ → List ℕ → List ℕ → List ℕ → Type 0
BothAccepted n t a b = (s : List (Row Label)) × (g : List (Row Label)) × Given n t a b s g

-- The order answers "same or under": the first record is below the second.
abbrev pub AnswersBelow : ℕ → List ℕ → List ℕ → List ℕ → Type 0
AnswersBelow n t a b = (ordering n t a b ≡ Same) ⊎ (ordering n t a b ≡ Under)

-- The order answers above or neither: the first record is not below the second.
abbrev pub AnswersNotBelow : ℕ → List ℕ → List ℕ → List ℕ → Type 0
AnswersNotBelow n t a b = (ordering n t a b ≡ Above) ⊎ (ordering n t a b ≡ Neither)

-- The bytes are a record that is accepted when it is read and is its own written form.
pub record WrittenRecord (n : ℕ) (bytes : List ℕ) : Type 0 where
  pub form : List (Row Label)
  pub reads : reading n bytes ≡ accepted form
  pub own : canonical eqb (graph_of_rows form) ≡ written form
  pub bytes-are : bytes ≡ encoded form

-- What a call leaves in its output. A refusal leaves the output as it was. Beside a length "its first bytes are the record, the others
-- unchanged", and the length is that of the record.
pub record Leaves (n : ℕ) (out : List ℕ) (r : Result) : Type 0 where
  pub refused : (k : ℕ) → refusal r.reply ≡ some k → r.output ≡ out
  pub holds : (l : ℕ) → r.reply ≡ Length l → WrittenRecord n (take l r.output)
  pub length-is : (l : ℕ) → r.reply ≡ Length l → length (take l r.output) ≡ l
  pub others : (l : ℕ) → r.reply ≡ Length l → drop l r.output ≡ drop l out

-- "result over 255 nodes or 2,048 links"
abbrev pub Large : {C : Type 0} → Graph Label C → Type 0
Large k = ManyNodes k ⊎ ManyLinks k

-- The bytes of a written form. A graph that is too large has none.
abbrev pub form_bytes : Canonical Label → Option (List ℕ)
form_bytes many_nodes = none
form_bytes many_links = none
form_bytes (written form) = some (encoded form)

-- a graph's record, if it has one
abbrev pub record_of : {C : Type 0} → (C → C → Bool) → Graph Label C → Option (List ℕ)
record_of same k = form_bytes (canonical same k)

-- A call that writes a graph answers 11 where the graph has no record, 8 where "the result exists and the output is shorter", and else the
-- record's length, with the record in the output.
abbrev pub writing : Option (List ℕ) → List ℕ → Result
writing none out = refusing TooLarge out
writing (some bytes) out = result_of (fitted bytes out)

-- The bytes are a written record that means the same as the graph.
pub record RecordOf (n : ℕ) (t : List ℕ) {C : Type 0} (k : Graph Label C) (bytes : List ℕ) : Type 0 where
  pub is-written : WrittenRecord n bytes
  pub means : SameMeaning (table_labels n t) k (graph_of_rows is-written.form)

-- What rewriting the record a writes beside a length: the bytes are a written record that means the same as a, and rewriting these bytes gives
-- what rewriting a gives.
pub record Rewritten (n : ℕ) (t a : List ℕ) (rows : List (Row Label)) (bytes : List ℕ) : Type 0 where
  pub is-record : RecordOf n t (graph_of_rows rows) bytes
  pub again : (room : List ℕ) → rewriting n t bytes room ≡ rewriting n t a room

-- the common part of two graphs, of whatever size
abbrev pub common : ℕ → List ℕ → List (Row Label) → List (Row Label) → Graph Label (ℕ × ℕ)
common n t s g = generalization_by (table_labels n t).join (graph_of_rows s) (graph_of_rows g)

-- What the common part of the records a and b writes beside a length. The bytes are read as "the paths in both, each with the join of its two
-- types, two sharing exactly when they share in both", which is the least graph of any size above both. The order agrees: both records are below
-- the bytes, and the bytes are below every accepted record that both are below.
pub record CommonPart (n : ℕ) (t a b : List ℕ) (s g : List (Row Label)) (bytes : List ℕ) : Type 1 where
  pub form : List (Row Label)
  pub reads : reading n bytes ≡ accepted form
  pub paths : IsGeneralization (table_labels n t) (graph_of_rows s) (graph_of_rows g) (graph_of_rows form)
  pub least : LeastOfAnySize n t (graph_of_rows s) (graph_of_rows g) (graph_of_rows form)
  pub first_below : AnswersBelow n t a bytes
  pub second_below : AnswersBelow n t b bytes
  pub below-upper : (c : List ℕ) (m : List (Row Label)) → reading n c ≡ accepted m → AnswersBelow n t a c → AnswersBelow n t b c →
      AnswersBelow n t bytes c

-- no graph of any size lies below both
abbrev pub NoneBelow : ℕ → List ℕ → List (Row Label) → List (Row Label) → Type 1
NoneBelow n t g h =
    (C : Type 0) (k : Graph Label C) → OfAnySize n t k → Below (table_labels n t) k (graph_of_rows g) → Below (table_labels n t) k (graph_of_rows h) → ⊥

-- What the combination of the records a and b writes beside a length. The bytes are read as the graph that the classes of paths give, which is
-- the greatest graph of any size below both. The order agrees: the bytes are below both records, and every accepted record that is below both is
-- below the bytes.
pub record Combination (n : ℕ) (t a b : List ℕ) (g h : List (Row Label)) (bytes : List ℕ) : Type 1 where
  pub form : List (Row Label)
  pub reads : reading n bytes ≡ accepted form
  pub classes : IsCombination n t (graph_of_rows g) (graph_of_rows h) (graph_of_rows form)
  pub greatest : GreatestOfAnySize n t (graph_of_rows g) (graph_of_rows h) (graph_of_rows form)
  pub below-first : AnswersBelow n t bytes a
  pub below-second : AnswersBelow n t bytes b
  pub above_lower : (c : List ℕ) (m : List (Row Label)) → reading n c ≡ accepted m → AnswersBelow n t c a → AnswersBelow n t c b →
      AnswersBelow n t c bytes

-- "strictly more general when s is not above g": e lies above d, and d does not lie above e.
abbrev pub MoreGeneral : ℕ → List ℕ → {A B : Type 0} → Graph Label A → Graph Label B → Type 0
MoreGeneral n t e d = Below (table_labels n t) d e × (Below (table_labels n t) e d → ⊥)

-- the record of "a lone top": one node of type n - 1, no link
abbrev pub lone_top : ℕ → List ℕ
lone_top n = 1 ∷ (n - 1) ∷ replicate 8 0

-- "Number s as written": the rows of s in written form
abbrev pub as_written : List (Row Label) → List (Row Label)
as_written s = numbered (canonical eqb (graph_of_rows s))

-- The difference of g and s, for s below g: s is numbered as written, and `earlier` orders the links.
abbrev pub remainder : (Link ℕ → Link ℕ → Bool) → ℕ → List ℕ → List (Row Label) → List (Row Label) → Graph Label ℕ
remainder earlier n t g s = difference_rows earlier n t g (as_written s)

-- the wanted label of the node v of s, over paths, is not top: "the wanted type is not top", or the wanted range "is not full"
abbrev pub WantedNotTop : {A B : Type 0} → ℕ → List ℕ → Graph Label A → Graph Label B → A → Type 0
WantedNotTop n t s g v = (c : Label) × WantedAt n t s g v c × ((table_labels n t).le (table_labels n t).top c ≡ false)

-- d combined with g restores s, and nothing more general does: if a graph e of any size is strictly more general than d, then the greatest graph
-- of any size below e and g is strictly more general than s. Where the nodes of e can be told apart, the classes of paths give this greatest
-- graph; for any node type, its non-existence is contradictory.
pub record Restores (n : ℕ) (t : List ℕ) (d g s : Graph Label ℕ) : Type 1 where
  pub of-any-size : OfAnySize n t d
  pub restores : GreatestOfAnySize n t d g s
  pub most-general : {E C : Type 0} (e : Graph Label E) → OfAnySize n t e → MoreGeneral n t e d → (u : Graph Label C) →
      GreatestOfAnySize n t e g u → MoreGeneral n t u s
  pub combines : {E : Type 0} (same : E → E → Bool) → TellsApart same → (e : Graph Label E) → OfAnySize n t e → MoreGeneral n t e d →
      (u : Graph Label (E ⊎ ℕ)) × IsCombination n t e g u × GreatestOfAnySize n t e g u
  pub not_none : {E : Type 0} (e : Graph Label E) → OfAnySize n t e → MoreGeneral n t e d →
      ((C : Type 0) (u : Graph Label C) → GreatestOfAnySize n t e g u → ⊥) → ⊥

-- What the difference of the records a and b writes beside a length. The bytes are read as a graph for which `Restores` holds. Combined with a,
-- from either side, the bytes give the written record of b byte for byte, whatever output is lent. The order agrees: b is below the bytes, and an
-- accepted record that is strictly above the bytes, combined with a, gives a record that is strictly above b.
pub record Difference (n : ℕ) (t a b : List ℕ) (g s : List (Row Label)) (bytes : List ℕ) : Type 1 where
  pub form : List (Row Label)
  pub reads : reading n bytes ≡ accepted form
  pub restores : Restores n t (graph_of_rows form) (graph_of_rows g) (graph_of_rows s)
  pub combined-first : (out : List ℕ) → unifying n t bytes a out ≡ rewriting n t b out
  pub combined-second : (out : List ℕ) → unifying n t a bytes out ≡ rewriting n t b out
  pub second_below : AnswersBelow n t b bytes
  pub more-general : (c : List ℕ) (m : List (Row Label)) → reading n c ≡ accepted m → ordering n t c bytes ≡ Above →
      (out : List ℕ) (l : ℕ) → (unifying n t c a out).reply ≡ Length l → ordering n t (take l (unifying n t c a out).output) b ≡ Above
