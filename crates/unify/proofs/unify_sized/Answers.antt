-- `unify_sized` meets its contract: its words have room for the graph of the classes.
use Prim.Native.Nat.{ℕ}
use lib.ListN.{length-replicate}
use Rattle.unify.proofs.Sharing.{class-sound}
use Rattle.unify.proofs.unify_sized.Goals as goal

pub merge-requires : goal.merge-requires
merge-requires g c =
    let p = c.requires in
    record {
      n_nonzero = p.n_nonzero;
      meeting = p.meeting;
      operand = p.operand;
      operand_2 = p.operand_2;
      holding = rw (length-replicate {A = ℕ} g.row.WORDS 0) p.holding;
    }

pub tell-requires : goal.tell-requires
tell-requires g c = class-sound c.requires.operand c.requires.operand_2 c.merge.ensures

pub returns : goal.returns
returns g c = c.tell.ensures _ _ _ _ c.requires.operand c.requires.operand_2 c.merge.ensures
