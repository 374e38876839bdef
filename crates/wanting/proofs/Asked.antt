-- Two graphs for which wanted labels are searched meet what `meet_over` requires: each node of g lies over a node of s.
use mathlib.Core.List.{List}
use Prim.Native.Nat.{ℕ, ◌<◌}
use lib.ListN.{get_or}
use Rattle.graphs.proofs.Below.{walk-map}
use Rattle.lattice.proofs.Laws.{accepted-size}
use Rattle.layout.specs.Layout.{size, Sound}
use Rattle.layout.proofs.Reaching.{reached-inside}
use Rattle.wanting.specs.Asked.{Asked}
use Rattle.wanting.specs.Wanted.{LabelsOver}

module _ {n : ℕ} {t gw sw map : List ℕ} (asked : Asked n t gw sw map) where
  abbrev over : ℕ → ℕ
  over y = get_or map y 0

  abbrev s-sound : Sound sw
  s-sound = asked.lower.sound

  abbrev g-sound : Sound gw
  g-sound = asked.upper.sound

  pub over-inside : (y : ℕ) → y < size gw → over y < size sw
  over-inside y h =
      let r = asked.upper-reached y h in
      reached-inside s-sound (over y) (r.0, walk-map asked.lies r.0 y r.1)

  -- The two graphs meet what `meet_over` requires.
  pub asked-labels : LabelsOver n (size sw) gw map
  asked-labels =
      let size = accepted-size n t asked.ok in
      record {
        two = size.0;
        few = size.1;
        small = asked.lower.small;
        sound = g-sound;
        upper-small = asked.upper.small;
        mapped = over-inside;
        known = asked.upper-typed;
      }
