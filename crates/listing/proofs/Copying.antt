-- How a record is stored.
use mathlib.Core.Path.{◌≡◌, sym, ◌∙◌, ap}
use mathlib.Core.Bool.{Bool, cond}
use mathlib.Core.List.{List, ◌++◌}
use Prim.Native.Nat.{ℕ, ◌≤◌, ◌<◌}
use native.Mathlib.Omega.{arith}
use borrow.Author.Tests.{le-leb}
use lib.ListN.{length, get_or, drop}
use lib.Seq.{ext_get_or}
use Rattle.std.specs.Prelude.{Ok, Err}
use Rattle.encode.specs.declared.Unwritten.TheVariants as unwritten
use Rattle.encode.specs.Encode.{yielding, fitted}
use Rattle.encode.proofs.Outcomes.{fitted_short}
use Rattle.replies.specs.Replies.{Length, NoRoom}
use Rattle.replies.specs.Reply.{resulting, result_of}

module _ (bytes old : List ℕ) where
  -- The first bytes of the output are those of the record, and the others are as they were.
  pub stored-whole : (items : List ℕ) (n : ℕ) → n ≡ length bytes → n ≤ length old → length items ≡ length bytes →
      ((k : ℕ) → k < length items → get_or items k 0 ≡ get_or bytes k 0) → resulting (Length n) (items ++ drop n old) ≡ result_of (fitted bytes old)
  unfolding fitted
  stored-whole items n long room size same =
      let full : items ≡ bytes = ext_get_or 0 items bytes size same in
      ap (λ (k : ℕ). resulting (Length k) (items ++ drop k old)) long
      ∙ ap (λ (l : List ℕ). resulting (Length (length bytes)) (l ++ drop (length bytes) old)) full
      ∙ sym
      (ap
      (λ (t : Bool). result_of (cond t (yielding (Ok (length bytes)) (bytes ++ drop (length bytes) old)) (yielding (Err unwritten.NoRoom) old)))
      (le-leb (length bytes) (length old) (omega arith)))

  pub no_room : length old < length bytes → resulting NoRoom old ≡ result_of (fitted bytes old)
  no_room h = ap result_of (sym (fitted_short bytes old h))
