-- `merge_sized` meets its contract: its arrays have the places that it is told are enough.
use Prim.Native.Nat.{ℕ}
use lib.ListN.{length-replicate}
use Rattle.unify.proofs.merge_sized.Goals as goal

pub merge_within-requires : goal.merge_within-requires
merge_within-requires g c =
    let p = c.requires in
    record {
      n_nonzero = p.n_nonzero;
      meeting = p.meeting;
      operand = p.operand;
      operand_2 = p.operand_2;
      spacious = rw (length-replicate {A = ℕ} g.row.POOL 0, length-replicate {A = ℕ} g.row.WAITING 0) p.spacious;
    }
