-- This file shows what a reading says: for an acceptance and for each refusal, which tests pass and which fail, in the order 4, 5, 6, 7
-- (document 01, "Returned by a call"). The claim is one statement over all readings, so that both directions are proved once. The file
-- also shows what the range test says about each row.
use mathlib.Core.Path.{◌≡◌, refl, subst}
use mathlib.Core.Bool.{Bool, true, false, cond, ◌&&◌}
use mathlib.Core.List.{List, Memᴰ}
use mathlib.Core.Logic.{◌↔◌}
use mathlib.Core.Option.{Option, none, some}
use Prim.Native.Nat.{ℕ, suc, ◌<◌}
use borrow.Author.Tests.{leb-true, le-leb}
use lib.Dec.{leb}
use lib.ListN.{length}
use Rattle.graphs.specs.Rows.{Row}
use Rattle.peeling.specs.Range.{label_in_range}
use Rattle.peeling.proofs.Range.{LabelInRange, label-in-range}
use Rattle.record.specs.declared.GraphFault.TheVariants.{Malformed, OutOfRange, Cyclic, Unreached, Inappropriate}
use Rattle.decode.specs.Decode.{decoded}
use Rattle.graphs.specs.Order.{all_of}
use Rattle.graphs.proofs.Order.{all_of-true, true-all_of}
use Rattle.graphs.proofs.Search.{both_true, true-both}
use Rattle.lattice.specs.Label.{Label}
use Rattle.record.specs.Read.{Reading, refused, accepted, judged, reading, in_range, cyclic, reaches_all}

-- the tests behind each reading
abbrev pub Stands : ℕ → List ℕ → Reading → Type 0
Stands n bytes (refused Malformed) = decoded bytes ≡ none
Stands n bytes (refused OutOfRange) = (rows : List (Row Label)) × (decoded bytes ≡ some rows) × (in_range n rows ≡ false)
Stands n bytes (refused Cyclic) =
    (rows : List (Row Label)) × (decoded bytes ≡ some rows) × (in_range n rows ≡ true) × (cyclic rows ≡ true)
Stands n bytes (refused Unreached) =
    (rows : List (Row Label)) ×
    (decoded bytes ≡ some rows) ×
    (in_range n rows ≡ true) ×
    (cyclic rows ≡ false) ×
    (reaches_all rows ≡ false)
Stands n bytes (refused Inappropriate) = ⊥
Stands n bytes (accepted rows) =
    (decoded bytes ≡ some rows) × (in_range n rows ≡ true) × (cyclic rows ≡ false) × (reaches_all rows ≡ true)

module _ (n : ℕ) (bytes : List ℕ) where
  reading-stands : Stands n bytes (reading n bytes)
  unfolding reading
  reading-stands = parsed (decoded bytes) refl
    where
      reached : (rows : List (Row Label)) → decoded bytes ≡ some rows → in_range n rows ≡ true → cyclic rows ≡ false →
          (t : Bool) → reaches_all rows ≡ t → Stands n bytes (cond t (accepted rows) (refused Unreached))
      reached rows e i c true a = (e, i, c, a)
      reached rows e i c false a = (rows, e, i, c, a)

      acyclic : (rows : List (Row Label)) → decoded bytes ≡ some rows → in_range n rows ≡ true → (t : Bool) → cyclic rows ≡ t →
          Stands n bytes (cond t (refused Cyclic) (cond (reaches_all rows) (accepted rows) (refused Unreached)))
      acyclic rows e i true c = (rows, e, i, c)
      acyclic rows e i false c = reached rows e i c (reaches_all rows) refl

      ranged : (rows : List (Row Label)) → decoded bytes ≡ some rows → (t : Bool) → in_range n rows ≡ t →
          Stands n bytes
          (cond t
          (cond (cyclic rows) (refused Cyclic) (cond (reaches_all rows) (accepted rows) (refused Unreached)))
          (refused OutOfRange))
      ranged rows e true i = acyclic rows e i (cyclic rows) refl
      ranged rows e false i = (rows, e, i)

      parsed : (o : Option (List (Row Label))) → decoded bytes ≡ o → Stands n bytes (judged n o)
      parsed none e = e
      parsed (some rows) e = ranged rows e (in_range n rows) refl

  stands-reading : (r : Reading) → Stands n bytes r → reading n bytes ≡ r
  unfolding reading
  stands-reading (refused Malformed) e = rw e
  stands-reading (refused OutOfRange) (rows, e, i) = rw (e, i)
  stands-reading (refused Cyclic) (rows, e, i, c) = rw (e, i, c)
  stands-reading (refused Unreached) (rows, e, i, c, a) = rw (e, i, c, a)
  stands-reading (refused Inappropriate) never = absurd never
  stands-reading (accepted rows) (e, i, c, a) = rw (e, i, c, a)

  -- a record is read as r exactly where the tests behind r pass and fail as they should
  pub reading-says : (r : Reading) → (reading n bytes ≡ r) ↔ Stands n bytes r
  reading-says r = (λ e. subst (Stands n bytes) e reading-stands, stands-reading r)

-- Every label is in range, and no target is "at least N".
abbrev pub InRange : ℕ → List (Row Label) → Type 0
InRange n rows = (r : Row Label) → Memᴰ r rows →
    LabelInRange n r.0 × ((l : ℕ × ℕ) → Memᴰ l r.1 → l.1 < length rows)

pub in-range : (n : ℕ) (rows : List (Row Label)) → (in_range n rows ≡ true) ↔ InRange n rows
unfolding in_range
in-range n rows = (
  λ e r m.
      let (label, targets) = both_true (label_in_range n r.0) (all_of r.1 targeted) (all_of-true rows tested e r m) in
      ((label-in-range n r.0).0 label, λ l i. leb-true (suc l.1) (length rows) (all_of-true r.1 targeted targets l i)),
  λ all.
      true-all_of rows tested λ r m.
      let (label, targets) = all r m in
      true-both (label_in_range n r.0) (all_of r.1 targeted) ((label-in-range n r.0).1 label)
      (true-all_of r.1 targeted (λ l i. le-leb (suc l.1) (length rows) (targets l i))),
)
  where
    targeted : ℕ × ℕ → Bool
    targeted l = leb (suc l.1) (length rows)

    tested : Row Label → Bool
    tested r = label_in_range n r.0 && all_of r.1 targeted
