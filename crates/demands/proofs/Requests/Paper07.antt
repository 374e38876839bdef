-- Paper 7: level ranges on a node, in records, in the order and in the results. Records without ranges give the bytes that the calls over types
-- alone give.
use mathlib.Core.Path.{◌≡◌}
use mathlib.Core.Bool.{Bool, true, not}
use mathlib.Core.List.{List}
use mathlib.Core.Logic.{◌↔◌, ◌⊎◌}
use mathlib.Core.Option.{some}
use Prim.Native.Nat.{ℕ, ◌≤◌, ◌<◌}
use lib.ListN.{length}
use Rattle.graphs.specs.Rows.{Row}
use Rattle.lattice.specs.Label.{Label, is_full}
use Rattle.lattice.specs.Table.{below}
use Rattle.lattice.specs.Labels.{type_labels, table_labels, LevelIn, NonEmpty, RangeInside}
use Rattle.lattice.proofs.Ranges as Ranges
use Rattle.decode.specs.Decode.{AreBytes, decoded}
use Rattle.record.specs.Read.{reading, graph_of_rows}
use Rattle.record.specs.Spelled.{Spells}
use Rattle.record.specs.Unranged.{unranged}
use Rattle.record.proofs.Theorems as records
use Rattle.replies.specs.Replies.{Length}
use Rattle.calls.specs.Calls.{rewriting, ordering, generalizing, unifying, differing}
use Rattle.demands.specs.Demand.{WrittenRecord}
use Rattle.demands.specs.Unranged.{rewriting_types, ordering_types, generalizing_types, unifying_types, differing_types, WritesUnranged}
use Rattle.demands.proofs.Unranged as Unranged
use Rattle.demands.proofs.Demanded.Longest as Longest
use Rattle.demands.proofs.Demanded.Spelling as Spelling

-- "Records without ranges must give the bytes they gave before". A record is without ranges where no type byte has bit 7. What a call gave before
-- is defined by the calls over types alone, without ranges in labels and rows.
pub unranged-rewriting : (n : ℕ) (t a : List ℕ) → unranged a ≡ true → (out : List ℕ) → rewriting n t a out ≡ rewriting_types n t a out
unranged-rewriting = Unranged.rewriting-unranged

module _ (n : ℕ) (t a b : List ℕ) (first : unranged a ≡ true) (second : unranged b ≡ true) where
  pub unranged-order : ordering n t a b ≡ ordering_types n t a b
  unranged-order = Unranged.ordering-unranged n t a b first second

  module _ (out : List ℕ) where
    pub unranged-common-part : generalizing n t a b out ≡ generalizing_types n t a b out
    unranged-common-part = Unranged.generalizing-unranged n t a b first second out

    pub unranged-combination : unifying n t a b out ≡ unifying_types n t a b out
    unranged-combination = Unranged.unifying-unranged n t a b first second out

    pub unranged-difference : differing n t a b out ≡ differing_types n t a b out
    unranged-difference = Unranged.differing-unranged n t a b first second out

    -- What a call writes for records without ranges is without ranges too.
    pub unranged-results : WritesUnranged (rewriting n t a out) ×
        WritesUnranged (generalizing n t a b out) ×
        WritesUnranged (unifying n t a b out) ×
        WritesUnranged (differing n t a b out)
    unranged-results = (
      Unranged.rewritten-unranged n t out a first,
      Unranged.generalized-unranged n t out a b first second,
      Unranged.unified-unranged n t out a b first second,
      Unranged.differed-unranged n t out a b first second,
    )

-- The parser is the inverse of the encoder: bytes are parsed to rows exactly where they are a record of these rows. Such a record writes every
-- range that is not full, and may write a full one or leave it out.
pub parsed-exactly : (bytes : List ℕ) → AreBytes bytes → (rows : List (Row Label)) →
    (decoded bytes ≡ some rows) ↔ ((writes : ℕ → Bool) × Spells bytes rows writes)
parsed-exactly = records.parsed-exactly

-- "A written record never writes the full range": its bytes spell its rows, and the range of a node is written exactly where it is not full.
pub full-range-unwritten : (n : ℕ) (bytes : List ℕ) (one : WrittenRecord n bytes) →
    Spells bytes one.form (λ v. not (is_full ((graph_of_rows one.form).label v)))
full-range-unwritten = Spelling.written-spells

-- Whatever rows the bytes of a written record spell, the range of a node is written exactly where it is not full.
pub full-range-nowhere : (n : ℕ) (bytes : List ℕ) → WrittenRecord n bytes → (rows : List (Row Label)) (writes : ℕ → Bool) → Spells bytes rows writes →
    (v : ℕ) → v < length rows → writes v ≡ not (is_full ((graph_of_rows rows).label v))
full-range-nowhere = Spelling.full-range-unwritten

-- "and a read one may": records of the same rows are read alike, whichever full ranges they write.
pub spelled-alike : (n : ℕ) (a a' : List ℕ) (rows : List (Row Label)) (writes writes' : ℕ → Bool) → Spells a rows writes → Spells a' rows writes' →
    reading n a ≡ reading n a'
spelled-alike = records.spelled-alike

-- Records of the same rows give the same replies and outputs, whichever full ranges they write.
pub spelled-out-same : (n : ℕ) (t a a' b b' : List ℕ) (s g : List (Row Label)) (writes writes' also also' : ℕ → Bool) → Spells a s writes →
    Spells a' s writes' → Spells b g also → Spells b' g also' → (out : List ℕ) →
    (rewriting n t a out ≡ rewriting n t a' out) ×
    (ordering n t a b ≡ ordering n t a' b') ×
    (generalizing n t a b out ≡ generalizing n t a' b' out) ×
    (unifying n t a b out ≡ unifying n t a' b' out) ×
    (differing n t a b out ≡ differing n t a' b' out)
spelled-out-same n t a a' b b' s g writes writes' also also' one other one-also other-also out =
    let first = records.spelled-alike n a a' s writes writes' one other in
    let second = records.spelled-alike n b b' g also also' one-also other-also in (
      Unranged.rewriting-alike n t a a' first out,
      Unranged.ordering-alike n t a a' b b' first second,
      Unranged.generalizing-alike n t a a' b b' first second out,
      Unranged.unifying-alike n t a a' b b' first second out,
      Unranged.differing-alike n t a a' b b' first second out,
    )

-- "The longest record becomes 4,854 bytes": no record is longer (`length-bounded`), and over some table a record of that length is written.
pub longest-reached : (n : ℕ) × (t : List ℕ) × (a : List ℕ) × ((out : List ℕ) → 4854 ≤ length out → (rewriting n t a out).reply ≡ Length 4854)
longest-reached = Longest.longest-rewritten

-- The labels over a table: a label is a type with a range, and a range is the set of its levels.
module _ (n : ℕ) (t : List ℕ) (x y : Label) where
  -- "Below now also asks that the range lies inside".
  pub range-below : NonEmpty x → ((table_labels n t).le x y ≡ true) ↔ ((below t x.type y.type ≡ true) × RangeInside x y)
  range-below = Ranges.below-range (type_labels n t) x y

  -- "the common part takes the smallest range holding both".
  pub range-join : NonEmpty x → NonEmpty y →
      (RangeInside x ((table_labels n t).join x y) × RangeInside y ((table_labels n t).join x y)) ×
      ((z : Label) → RangeInside x z → RangeInside y z → RangeInside ((table_labels n t).join x y) z)
  range-join some-x some-y = (Ranges.join-range-holds (type_labels n t) x y, Ranges.join-range-smallest (type_labels n t) x y some-x some-y)

  -- "the combination the overlap": a level is inside the meet exactly where it is inside both.
  pub range-meet : (l : ℕ) → LevelIn ((table_labels n t).meet x y) l ↔ (LevelIn x l × LevelIn y l)
  range-meet = Ranges.meet-range (type_labels n t) x y

  -- "and an empty overlap is a clash": the meet is a contradiction exactly where its type is 0 or no level is inside both.
  pub range-clash : ((table_labels n t).contradiction ((table_labels n t).meet x y) ≡ true) ↔
      ((((table_labels n t).meet x y).type ≡ 0) ⊎ ((l : ℕ) → LevelIn x l → LevelIn y l → ⊥))
  range-clash = Spelling.range-clash n t x y
