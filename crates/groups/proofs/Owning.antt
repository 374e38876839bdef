-- Owners and classes of links that lie over each other, as marking asks for them.
use mathlib.Core.List.{List}
use Prim.Native.Nat.{ℕ}
use lib.ListN.{get_or}
use Rattle.layout.specs.Layout.{size}
use Rattle.classes.specs.Forest.{Flat}
use Rattle.cover.specs.Cover.{Lying, Grouping}
use Rattle.cover.proofs.Covering.{owner-low}
use Rattle.groups.specs.Marks.{Owned}

module _ {s g map : List ℕ} (lying : Lying s g map) where
  -- `Grouping` gives what marking asks of owners and classes.
  pub grouping-owned : {bound : ℕ} {owner parent : List ℕ} → Grouping s g map bound owner parent → Flat (size g) parent →
      Owned s owner parent
  grouping-owned group flat =
      record {
        shaped = lying.lower.sound.shaped;
        short = lying.short;
        long = group.owner-long;
        nodes = size g;
        few = lying.upper.small;
        flat = flat;
        low = owner-low lying group;
        linked = λ j h d. let (i, l, o, e) = group.owned j h d in (get_or map o.node 0, o.under);
      }
