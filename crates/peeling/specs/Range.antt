-- This file says which labels are in range (document 01, "Returned by a call", refusal 5; document 02, Paper 7).
use Rattle.std.specs.Prelude.{Bool, not, ◌&&◌, ℕ, suc, eqb, leb}
use Rattle.lattice.specs.Label.{Label}

-- The type is not "0 or at least n", the levels are "0 to 255", and the lowest is not "above the highest" (document 02, Paper 7).
unfoldable pub label_in_range : ℕ → Label → Bool
label_in_range n l =
    not (eqb l.type 0) && leb (suc l.type) n && leb l.lowest l.highest && leb l.highest 255
