-- This file states the theorems about records in one place, each with a line that cites its proof. The text beside it is document 01,
-- "Graph record" and "Returned by a call", and document 02, Paper 7, for ranges of levels. A record is a list of bytes, read over a table
-- with n types; its rows are a label and links for each node, and `graph_of_rows rows` is the graph that they state. Nothing here asks that
-- the types are a lattice.
use mathlib.Core.Path.{◌≡◌, sym, ◌∙◌, ap}
use mathlib.Core.Bool.{Bool, true, false, not}
use mathlib.Core.List.{List, ◌∷◌, Memᴰ}
use mathlib.Core.Logic.{◌↔◌}
use mathlib.Core.Option.{none, some}
use Prim.Native.Nat.{ℕ, ◌≤◌, ◌<◌}
use lib.Dec.{eqb}
use lib.ListN.{length, get_or}
use Rattle.graphs.specs.Graph.{Graph, TellsApart, follow, Reached, SameMeaning}
use Rattle.graphs.specs.Rows.{Row, from}
use Rattle.graphs.specs.Number.{canonical, written}
use Rattle.graphs.specs.Large.{links_in, Ascending}
use Rattle.graphs.proofs.Lists.{tells-eqb}
use Rattle.lattice.specs.Label.{Label}
use Rattle.record.specs.declared.GraphFault.TheVariants.{Malformed, OutOfRange, Cyclic, Unreached}
use Rattle.lattice.specs.Labels.{table_labels, Known, OfAnySize}
use Rattle.decode.specs.Decode.{AreBytes, decoded}
use Rattle.encoder.specs.Encode.{is_full, encoded}
use Rattle.record.specs.Read.{graph_of_rows, in_range, cyclic, reaches_all, judged, reading, accepted, refused}
use Rattle.record.specs.Spelled.{Statable, Spells}
use Rattle.record.proofs.Readings.{reading-says, in-range}
use Rattle.decode.proofs.Decoded.{decoded-says, decoded-short, decoded-label, decoded-target}
use Rattle.record.proofs.RoundTrip.{encoded-spelled, not-full-written}
use Rattle.record.proofs.Spelled as Spelled
use Rattle.record.proofs.Nodes.{Linked, decoded-linked}
use Rattle.record.proofs.Reaching.{cyclic-exact, reaches-exact}
use Rattle.record.proofs.Accepted.{accepted-rules, rules-of-any-size, rules-types, rules-nodes, rules-fit}
use Rattle.record.proofs.Rewritten as Rewritten

module _ (n : ℕ) (bytes : List ℕ) where
  -- 1. What is accepted and what is refused: "A table is accepted when none of 1 to 3 applies to it, a graph when none of 4 to 7 does". Each
  -- refusal says that those before it do not apply.

  pub accepted-exactly : (rows : List (Row Label)) →
      (reading n bytes ≡ accepted rows) ↔
      ((decoded bytes ≡ some rows) × (in_range n rows ≡ true) × (cyclic rows ≡ false) × (reaches_all rows ≡ true))
  accepted-exactly rows = reading-says n bytes (accepted rows)

  pub malformed-exactly : (reading n bytes ≡ refused Malformed) ↔ (decoded bytes ≡ none)
  malformed-exactly = reading-says n bytes (refused Malformed)

  pub out-of-range-exactly : (reading n bytes ≡ refused OutOfRange) ↔
      ((rows : List (Row Label)) × (decoded bytes ≡ some rows) × (in_range n rows ≡ false))
  out-of-range-exactly = reading-says n bytes (refused OutOfRange)

  pub cyclic-exactly : (reading n bytes ≡ refused Cyclic) ↔
      ((rows : List (Row Label)) × (decoded bytes ≡ some rows) × (in_range n rows ≡ true) × (cyclic rows ≡ true))
  cyclic-exactly = reading-says n bytes (refused Cyclic)

  pub unreached-exactly : (reading n bytes ≡ refused Unreached) ↔
      ((rows : List (Row Label)) × (decoded bytes ≡ some rows) × (in_range n rows ≡ true) × (cyclic rows ≡ false) × (reaches_all rows ≡ false))
  unreached-exactly = reading-says n bytes (refused Unreached)

  -- the test for 5: no "type that is 0 or at least n", no "lowest level above the highest", no "target at least N"
  pub range-exact : (rows : List (Row Label)) →
      (in_range n rows ≡ true) ↔
      ((r : Row Label) → Memᴰ r rows →
      ((0 < r.0.type) × Known n r.0 × (r.0.lowest ≤ r.0.highest)) ×
      ((l : ℕ × ℕ) → Memᴰ l r.1 → l.1 < length rows))
  range-exact rows = in-range n rows

  module _ (rows : List (Row Label)) (parsed : decoded bytes ≡ some rows) where
    -- "Byte 0 is the node count N .. feature f, 0 to 63 .. lowest feature first .. At most 2,048 links in all"
    pub well-formed : (0 < length rows) ×
        (length rows ≡ get_or bytes 0 0) ×
        (links_in rows ≤ 2048) ×
        ((r : Row Label) → Memᴰ r rows → Ascending r.1 × ((l : ℕ × ℕ) → Memᴰ l r.1 → l.0 < 64))
    well-formed = let says = decoded-says bytes rows parsed in (says.nonempty, says.count, says.few-links, says.ordered)

    -- "1 to 255 .. Bits 0 to 6 of the type byte are the type .. lowest and highest level, 0 to 255 .. one target byte"
    pub in_bytes : AreBytes bytes →
        (length rows ≤ 255) ×
        ((r : Row Label) → Memᴰ r rows → Known 128 r.0 × ((l : ℕ × ℕ) → Memᴰ l r.1 → l.1 < 256))
    in_bytes small =
        let says = decoded-says bytes rows parsed in
        (decoded-short bytes rows says small, λ r m. (decoded-label bytes rows says small r m, decoded-target bytes rows says small r m))

    module _ (ranged : in_range n rows ≡ true) where
      linked : Linked rows
      linked = decoded-linked (decoded-says bytes rows parsed) ((in-range n rows).0 ranged)

      -- 2. The test for 6: "a node reaches itself", one that the root reaches or not.

      pub cycle-exact : (cyclic rows ≡ true) ↔
          ((v : ℕ) ×
          (v < length rows) ×
          (f : ℕ) ×
          (p : List ℕ) ×
          (follow (graph_of_rows rows).link (some v) (f ∷ p) ≡ some v))
      cycle-exact = cyclic-exact rows linked

      -- 3. The test for 7: not "a node the root does not reach".

      pub reach-exact : length rows ≤ 255 → (reaches_all rows ≡ true) ↔ ((v : ℕ) → v < length rows → Reached (graph_of_rows rows) v)
      reach-exact short = (λ q. ((reaches-exact rows linked).0 q).1, λ all. (reaches-exact rows linked).1 (short, all))

module _ (n : ℕ) (bytes : List ℕ) (rows : List (Row Label)) (ok : reading n bytes ≡ accepted rows) where
  -- 4. "A graph of any size keeps every rule of an accepted record but the counts of nodes and links": an accepted record states one.

  pub accepted-of-any-size : (t : List ℕ) → OfAnySize n t (graph_of_rows rows)
  accepted-of-any-size t = rules-of-any-size n rows (accepted-rules n bytes rows ok) t

  pub accepted-nodes : (t : List ℕ) → (accepted-of-any-size t).any-size.nodes ≡ from 0 (length rows)
  unfolding accepted-of-any-size
  accepted-nodes t = rules-nodes n rows (accepted-rules n bytes rows ok) t

  -- its types are those that a type byte states
  pub accepted-types : (v : ℕ) → Reached (graph_of_rows rows) v → ((graph_of_rows rows).label v).type < 128
  accepted-types = rules-types n rows (accepted-rules n bytes rows ok)

  -- 5. An accepted record fits: 11 never applies to it.

  pub accepted-fits : (form : List (Row Label)) × (canonical eqb (graph_of_rows rows) ≡ written form)
  accepted-fits = rules-fit n rows (accepted-rules n bytes rows ok)

-- 6. Accepted records have equal meaning exactly when they are written as equal bytes.

pub meaning-exact : (n : ℕ) (t : List ℕ) (bytes bytes' : List ℕ) (rows rows' : List (Row Label)) →
    reading n bytes ≡ accepted rows → reading n bytes' ≡ accepted rows' → (form form' : List (Row Label)) →
    canonical eqb (graph_of_rows rows) ≡ written form → canonical eqb (graph_of_rows rows') ≡ written form' →
    SameMeaning (table_labels n t) (graph_of_rows rows) (graph_of_rows rows') ↔ (encoded form ≡ encoded form')
meaning-exact n t bytes bytes' rows rows' ok ok' form form' e e' =
    Rewritten.meaning-by-bytes n t rows rows' (accepted-rules n bytes rows ok)
    (accepted-rules n bytes' rows' ok') form form' e e'

-- 7. What is written of a graph of any size, whose types have seven bits, is accepted, and means what was written.

pub written-reads : (n : ℕ) (t : List ℕ) {A : Type 0} (same : A → A → Bool) → TellsApart same → (g : Graph Label A) → OfAnySize n t g →
    (form : List (Row Label)) → canonical same g ≡ written form → ((v : A) → Reached g v → (g.label v).type < 128) →
    (reading n (encoded form) ≡ accepted form) × SameMeaning (table_labels n t) g (graph_of_rows form)
written-reads n t same tells g size form e types = Rewritten.written-reads n t same tells g size form e types

-- 8. A written record is accepted, is its own written record, and means what was written.

pub written-accepted : (n : ℕ) (t : List ℕ) (bytes : List ℕ) (rows : List (Row Label)) →
    reading n bytes ≡ accepted rows → (form : List (Row Label)) → canonical eqb (graph_of_rows rows) ≡ written form →
    (reading n (encoded form) ≡ accepted form) ×
    (canonical eqb (graph_of_rows form) ≡ written form) ×
    SameMeaning (table_labels n t) (graph_of_rows rows) (graph_of_rows form)
written-accepted n t bytes rows ok form e =
    let size = accepted-of-any-size n bytes rows ok t in
    let (read, means) = written-reads n t eqb tells-eqb (graph_of_rows rows) size form e (accepted-types n bytes rows ok) in
    (read, Rewritten.form-again n t eqb tells-eqb (graph_of_rows rows) size form e, means)

-- 9. The parser is the inverse of spelling: bytes are parsed to rows exactly where they spell them, with each range written or left out.

pub parsed-exactly : (bytes : List ℕ) → AreBytes bytes → (rows : List (Row Label)) →
    (decoded bytes ≡ some rows) ↔ ((writes : ℕ → Bool) × Spells bytes rows writes)
parsed-exactly bytes small rows = (Spelled.decoded-spells bytes small rows, λ s. Spelled.spells-decoded s.1)

-- Bytes tell their rows and which ranges they write.
pub spelled-once : (bytes : List ℕ) (rows rows' : List (Row Label)) (writes writes' : ℕ → Bool) → Spells bytes rows writes → Spells bytes rows' writes' →
    (rows ≡ rows') × ((v : ℕ) → v < length rows → writes v ≡ writes' v)
spelled-once bytes rows rows' writes writes' one other = Spelled.spells-unique one other

-- Bytes that spell the same rows are read alike.
pub spelled-alike : (n : ℕ) (bytes bytes' : List ℕ) (rows : List (Row Label)) (writes writes' : ℕ → Bool) → Spells bytes rows writes →
    Spells bytes' rows writes' → reading n bytes ≡ reading n bytes'
unfolding reading
spelled-alike n bytes bytes' rows writes writes' one other = ap (judged n) (Spelled.spells-decoded one ∙ sym (Spelled.spells-decoded other))

-- The bytes that rows are encoded as write the ranges that are not full, and no others.
pub encoded-spells : (rows : List (Row Label)) → Statable rows → Spells (encoded rows) rows (λ v. not (is_full ((graph_of_rows rows).label v)))
encoded-spells rows can = record { statable = can; bytes-are = encoded-spelled rows; ranges = not-full-written rows }
