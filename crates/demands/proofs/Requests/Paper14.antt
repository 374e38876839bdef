-- Paper 14: all small graphs, in order. F is the number of features, `bytes` is the record that is given.
use mathlib.Core.Path.{◌≡◌, refl, sym}
use mathlib.Core.Bool.{Bool, true}
use mathlib.Core.List.{List, [], ◌++◌, Memᴰ}
use mathlib.Core.Logic.{◌↔◌, ◌⊎◌}
use mathlib.Core.Option.{none, some}
use Prim.Native.Nat.{ℕ, suc, ◌+◌, ◌*◌, ◌-◌, ◌≤◌, ◌<◌}
use lib.Dec.{eqb}
use lib.ListN.{length, drop}
use Rattle.graphs.specs.Graph.{Graph, TellsApart, Reached}
use Rattle.graphs.specs.Rows.{Row}
use Rattle.graphs.specs.Number.{canonical, written}
use Rattle.acceptance.specs.declared.TableFault.{TableFault}
use Rattle.std.specs.Prelude.{Ok, Err}
use Rattle.lattice.specs.Label.{Label, is_full}
use Rattle.lattice.specs.Labels.{OfAnySize}
use Rattle.acceptance.specs.Reply.{opened}
use Rattle.lattice.proofs.Laws.{accepted-size}
use Rattle.acceptance.proofs.Acceptance.{opened-accepted}
use Rattle.encoder.specs.Encode.{encoded}
use Rattle.encode.specs.Encode.{fitted}
use Rattle.record.specs.declared.GraphFault.{GraphFault}
use Rattle.record.specs.Read.{reading, refused, accepted, graph_of_rows}
use Rattle.replies.specs.declared.Side.TheVariants.{First}
use Rattle.replies.specs.Replies.{Length, End, Table, Graph as Refusal, FeatureCount, NotListed}
use Rattle.replies.specs.Reply.{resulting, result_of, refusing}
use Rattle.listed.specs.Listing.{precedes, Listed, LeastAbove, features_below, unranged_rows, listing, calls}
use Rattle.listed.proofs.Order.{Ascends}
use Rattle.listed.proofs.Stated.{Counts}
use Rattle.listed.proofs.Theorems as Lists
use Rattle.listing.specs.Call.{delivered, stepping}
use Rattle.listing.proofs.Theorems as Steps

-- "at most 3 nodes .. written records without ranges that use features below F": a record is listed when it is accepted, its bytes are its own
-- written form, and it has at most 3 nodes, features below F and no range.
pub listed-words : (n F : ℕ) (t bytes : List ℕ) → Listed n F bytes ↔
    ((rows : List (Row Label)) × (reading n bytes ≡ accepted rows) ×
    ((form : List (Row Label)) × (canonical eqb (graph_of_rows rows) ≡ written form) × (bytes ≡ encoded form)) × (length rows ≤ 3) ×
    (features_below F rows ≡ true) × (unranged_rows rows ≡ true))
listed-words = Steps.listed-exactly

module _ (n : ℕ) (t : List ℕ) (opens : opened n t ≡ Ok tt) (F : ℕ) (count : Counts F) where
  size : (2 ≤ n) × (n ≤ 64) × (length t ≡ 8 * n)
  size = accepted-size n t (opened-accepted n t (Ok tt) (sym opens) refl)

  -- "list all": the list has the listed records and no others.
  pub list-has : (bytes : List ℕ) → Memᴰ bytes (listing n F) ↔ Listed n F bytes
  list-has = Lists.listing-exactly n F size.0 size.1 count

  -- The list is "in the order of their bytes".
  pub list-ascends : Ascends (listing n F)
  list-ascends = Lists.listing-ascends n F size.0 size.1 count

  module _ (out : List ℕ) where
    -- "A call with no record, that is one of no bytes, gives the first", the least listed record, or 8 where the output is shorter.
    pub first-record : (r : List ℕ) → Listed n F r → ((s : List ℕ) → Listed n F s → (s ≡ r) ⊎ (precedes r s ≡ true)) →
        stepping n t F [] out ≡ result_of (fitted r out)
    first-record = Steps.first-given n t F out opens count

    -- "with a listed record the next": the call gives the least listed record above the given one, or 8 where the output is shorter.
    pub next-record : (bytes : List ℕ) → Steps.Begun n F bytes → (r : List ℕ) → LeastAbove n F bytes r → stepping n t F bytes out ≡ result_of (fitted r out)
    next-record bytes = Steps.next-given n t F bytes out opens count

    -- 32 bytes are room for each listed record: "its first bytes are the record, the others unchanged".
    pub next-in-room : 32 ≤ length out → (bytes : List ℕ) → Steps.Begun n F bytes → (r : List ℕ) → LeastAbove n F bytes r →
        stepping n t F bytes out ≡ resulting (Length (length r)) (r ++ drop (length r) out)
    next-in-room = Steps.next-written n t F out opens count

    -- "or the end, the output then unchanged": the call gives the end where no listed record is above the given one.
    pub last-record : (bytes : List ℕ) → Steps.Begun n F bytes → ((s : List ℕ) → Listed n F s → precedes bytes s ≡ true → ⊥) →
        stepping n t F bytes out ≡ refusing End out
    last-record bytes = Steps.end-given n t F bytes out opens count

    -- "Every such graph comes up once": `calls n F k` is the record that the call numbered k gives, where the first call has no record and each
    -- later call has the record that the call before it gave.
    pub goes-on-first : stepping n t F [] out ≡ delivered (calls n F 0) out
    goes-on-first = Steps.call-first n t F out opens count

    pub goes_on : (k : ℕ) (bytes : List ℕ) → calls n F k ≡ some bytes → stepping n t F bytes out ≡ delivered (calls n F (suc k)) out
    goes_on = Steps.call_next n t F out opens count

  -- Each record that comes up is listed.
  pub comes-up : (k : ℕ) (bytes : List ℕ) → calls n F k ≡ some bytes → Listed n F bytes
  comes-up = Steps.calls-listed n t F [] opens count

  -- Each listed record comes up at one call and no other.
  pub comes-up-once : (bytes : List ℕ) → Listed n F bytes → (k : ℕ) × (calls n F k ≡ some bytes) × ((j : ℕ) → calls n F j ≡ some bytes → j ≡ k)
  comes-up-once = Steps.calls-once n t F [] opens count

  -- The end comes after the last listed record, and not before.
  pub comes-to-end : (calls n F (length (listing n F)) ≡ none) × ((j : ℕ) → j < length (listing n F) → (bytes : List ℕ) × (calls n F j ≡ some bytes))
  comes-to-end = Steps.calls-end n t F [] opens count

  -- A graph of any size with at most three nodes, features below F and no range is the meaning of one listed record and no other.
  pub graph-comes-up : {A : Type 0} (same : A → A → Bool) → TellsApart same → (g : Graph Label A) → OfAnySize n t g →
      (nodes : List A) → ((v : A) → Reached g v → Memᴰ v nodes) → length nodes ≤ 3 →
      ((v w : A) (f : ℕ) → Reached g v → g.link v f ≡ some w → f < F) → ((v : A) → Reached g v → is_full (g.label v) ≡ true) → Steps.OneListed n F t g
  graph-comes-up same tells g any = Steps.graph-once n F t same tells g any size.1

  -- The graph of an accepted record with at most three nodes, features below F and no range, however it is numbered, is the meaning of one listed
  -- record and no other.
  pub record-comes-up : (bytes : List ℕ) (rows : List (Row Label)) → reading n bytes ≡ accepted rows → length rows ≤ 3 →
      features_below F rows ≡ true → unranged_rows rows ≡ true → Steps.OneListed n F t (graph_of_rows rows)
  record-comes-up = Steps.record-once n F t

module _ (n : ℕ) (t : List ℕ) (F : ℕ) (bytes out : List ℕ) where
  -- Whatever is handed in, the output stays as it was where the reply is not a length.
  pub output-kept : ((l : ℕ) → (stepping n t F bytes out).reply ≡ Length l → ⊥) → (stepping n t F bytes out).output ≡ out
  output-kept = Steps.output-kept n t F bytes out

  -- The end is the reply exactly where the table is accepted, F is 1 or 2, and no listed record is above the given one, which is listed or has no
  -- bytes.
  pub end-exact : ((stepping n t F bytes out).reply ≡ End) ↔
      ((opened n t ≡ Ok tt) × Counts F × Steps.Begun n F bytes × ((s : List ℕ) → Listed n F s → precedes bytes s ≡ true → ⊥))
  end-exact = Steps.end-exactly n t F bytes out

  -- "F outside 1 and 2 is 23": 23 is given exactly there, after the table and the record are accepted.
  pub feature-count-exact : ((stepping n t F bytes out).reply ≡ FeatureCount) ↔ ((opened n t ≡ Ok tt) × Steps.Read n bytes × (Counts F → ⊥))
  feature-count-exact = Steps.count-exactly n t F bytes out

  -- "a record that is read but not listed is 24": 24 is given exactly there, after the table and F are accepted.
  pub not-listed-exact : ((stepping n t F bytes out).reply ≡ NotListed) ↔
      ((rows : List (Row Label)) × (opened n t ≡ Ok tt) × Counts F × (bytes ≡ [] → ⊥) × (reading n bytes ≡ accepted rows) × (Listed n F bytes → ⊥))
  not-listed-exact = Steps.unlisted-exactly n t F bytes out

  -- "both after the table": the table's refusals come first.
  pub table-first : (fault : TableFault) → opened n t ≡ Err fault → stepping n t F bytes out ≡ refusing (Table fault) out
  table-first = Steps.table-refused n t F bytes out

  -- "and the record's own 4 to 7": over an accepted table, the record's refusals come before 23 and 24.
  pub record-first : opened n t ≡ Ok tt → (fault : GraphFault) → (bytes ≡ [] → ⊥) → reading n bytes ≡ refused fault →
      stepping n t F bytes out ≡ refusing (Refusal fault First) out
  record-first = Steps.record-refused n t F bytes out

-- The number of listed records. With m types besides the contradiction there are m + m² + m³ for F of 1. Over a two-type table these are three,
-- "chains of one, two and three nodes", as the small set computes.
pub list-of-one : (n : ℕ) → 2 ≤ n → length (listing n 1) ≡ (n - 1) + ((n - 1) * (n - 1) + (n - 1) * ((n - 1) * (n - 1)))
list-of-one = Steps.amount-one

-- With m types besides the contradiction there are m + 3 m² + 16 m³ listed records for F of 2.
pub list-of-two : (n : ℕ) → 2 ≤ n → length (listing n 2) ≡ (n - 1) + (3 * ((n - 1) * (n - 1)) + 16 * ((n - 1) * ((n - 1) * (n - 1))))
list-of-two = Steps.amount-two
