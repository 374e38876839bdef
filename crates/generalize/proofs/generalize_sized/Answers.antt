-- `generalize_sized` meets its contract: its words are as many as it is told.
use Prim.Native.Nat.{ℕ}
use lib.ListN.{length-replicate}
use Rattle.generalize.proofs.generalize_sized.Goals as goal

pub generalize_in-requires : goal.generalize_in-requires
generalize_in-requires g c =
    let p = c.requires in
    record {
      recorded = p.recorded;
      recorded_2 = p.recorded_2;
      joinable = p.joinable;
      seekable = p.seekable;
      in_bounds = rw (length-replicate {A = ℕ} g.row.WORDS 0) p.in_bounds;
    }

pub returns : goal.returns
returns g c = rw (length-replicate {A = ℕ} g.row.WORDS 0) at c.generalize_in.ensures
