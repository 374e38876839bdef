-- Paper 5: marks of one byte. The call's promise is an equation with `generalizing`, in which no mark occurs: "every reply stays as it was".
use mathlib.Core.Path.{◌≡◌}
use mathlib.Core.List.{List}
use mathlib.Core.Logic.{◌↔◌}
use Prim.Native.Nat.{ℕ, ◌<◌}
use native.Mathlib.Omega.{arith}
use lib.ListN.{length}
use Rattle.graphs.specs.Rows.{Row}
use Rattle.graphs.specs.Number.{canonical, written}
use Rattle.graphs.specs.OfRows.{same_pair}
use Rattle.graphs.proofs.Form.Rules.{form-short}
use Rattle.lattice.specs.Label.{Label}
use Rattle.generalize.proofs.Sides.{tells-pair}
use Rattle.replies.specs.Replies.{TooLarge}
use Rattle.calls.specs.Calls.{generalizing}
use Rattle.demands.specs.Demand.{Given, Large, common}
use Rattle.demands.proofs.Demanded.CommonPart as Common

module _ (n : ℕ) (t a b : List ℕ) (g h : List (Row Label)) (given : Given n t a b g h) where
  -- "A result node has a number from 0 to 254, so one byte serves with 255 as clear".
  pub result-number : (form : List (Row Label)) → canonical same_pair (common n t g h) ≡ written form → (v : ℕ) → v < length form → v < 255
  result-number form e v l =
      omega (arith, form-short same_pair tells-pair (common n t g h) (Common.common-part-exists n t a b g h given).of-any-size.any-size.features form e)

  -- "11 included": 11 is answered exactly where the common part has more than 255 nodes or 2,048 links.
  pub large-exact : (out : List ℕ) → ((generalizing n t a b out).reply ≡ TooLarge) ↔ Large (common n t g h)
  large-exact out = (Common.common-part-writes n t a b g h given out).too_large
