-- No two replies tell the same, so what a reply tells determines the reply; and the number of a refusal is small.
use mathlib.Core.Path.{◌≡◌, refl, sym, ◌∙◌, ap, subst}
use mathlib.Core.Bool.{true, cond}
use mathlib.Core.List.{List, [], ◌∷◌}
use Prim.Native.Nat.{ℕ, ◌-◌, ◌≤◌, ◌<◌}
use borrow.Author.Tests.{ltb-true}
use lib.Dec.{eqb, ltb}
use lib.ListN.{get_or}
use Rattle.acceptance.specs.declared.TableFault.TheVariants.{Size, Order, Bounds}
use Rattle.record.specs.declared.GraphFault.{GraphFault}
use Rattle.record.specs.declared.GraphFault.TheVariants.{Malformed, OutOfRange, Cyclic, Unreached, Inappropriate}
use Rattle.replies.specs.declared.answers.Answer.{Answer}
use Rattle.replies.specs.declared.answers.Answer.TheVariants as answer
use Rattle.replies.specs.Replies.{Reply}
use Rattle.replies.specs.Replies.{Length, Same, Under, Above, Neither, Counts, End, Table, Graph, NoRoom, Cycle, Clash, TooLarge, NotBelow, NoWantedType, RowOutOfRange, RowTwice, NothingGathered, TypeList, ReadingOrder, WrongVersion, NoStoreRoom, NoReasonRoom, FeatureCount, NotListed}
use Rattle.replies.specs.Reply.{answer_of, Bounded, Counted}

-- The refusals by their numbers. 0, 4 to 7 and 18 are not among them.
refusals : List Reply
refusals =
    Neither ∷ Table Size ∷ Table Order ∷ Table Bounds ∷ Neither ∷ Neither ∷ Neither ∷ Neither ∷ NoRoom ∷ Cycle ∷ Clash ∷ TooLarge ∷ NotBelow ∷ NoWantedType ∷
    RowOutOfRange ∷ RowTwice ∷ NothingGathered ∷ TypeList ∷ Neither ∷ ReadingOrder ∷ WrongVersion ∷ NoStoreRoom ∷ NoReasonRoom ∷ FeatureCount ∷ NotListed ∷ []

-- The faults of a graph with the numbers 4 to 7.
faults : List GraphFault
faults = Malformed ∷ OutOfRange ∷ Cyclic ∷ Unreached ∷ []

-- The fault of a graph with a number from 4 to 7, or 18.
fault_in : ℕ → GraphFault
fault_in number = cond (eqb number 18) Inappropriate (get_or faults (number - 4) Malformed)

-- The reply that tells the answer.
reply_in : Answer → Reply
reply_in (answer.Length l) = Length l
reply_in answer.Same = Same
reply_in answer.Under = Under
reply_in answer.Above = Above
reply_in answer.Neither = Neither
reply_in (answer.Counts nodes rows) = Counts nodes rows
reply_in answer.End = End
reply_in (answer.Refused number) = get_or refusals number Neither
reply_in (answer.RefusedGraph number side) = Graph (fault_in number) side

-- the number of a refusal, or 0
abbrev pub number_in : Answer → ℕ
number_in (answer.Length l) = 0
number_in answer.Same = 0
number_in answer.Under = 0
number_in answer.Above = 0
number_in answer.Neither = 0
number_in (answer.Counts nodes rows) = 0
number_in answer.End = 0
number_in (answer.Refused number) = number
number_in (answer.RefusedGraph number side) = number

tells : (r : Reply) → (reply_in (answer_of r) ≡ r) × (ltb (number_in (answer_of r)) 256 ≡ true)
unfolding reply_in refusals faults fault_in
tells (Length l) = (refl, refl)
tells Same = (refl, refl)
tells Under = (refl, refl)
tells Above = (refl, refl)
tells Neither = (refl, refl)
tells (Counts nodes rows) = (refl, refl)
tells End = (refl, refl)
tells (Table Size) = (refl, refl)
tells (Table Order) = (refl, refl)
tells (Table Bounds) = (refl, refl)
tells (Graph Malformed side) = (refl, refl)
tells (Graph OutOfRange side) = (refl, refl)
tells (Graph Cyclic side) = (refl, refl)
tells (Graph Unreached side) = (refl, refl)
tells (Graph Inappropriate side) = (refl, refl)
tells NoRoom = (refl, refl)
tells Cycle = (refl, refl)
tells Clash = (refl, refl)
tells TooLarge = (refl, refl)
tells NotBelow = (refl, refl)
tells NoWantedType = (refl, refl)
tells RowOutOfRange = (refl, refl)
tells RowTwice = (refl, refl)
tells NothingGathered = (refl, refl)
tells TypeList = (refl, refl)
tells ReadingOrder = (refl, refl)
tells WrongVersion = (refl, refl)
tells NoStoreRoom = (refl, refl)
tells NoReasonRoom = (refl, refl)
tells FeatureCount = (refl, refl)
tells NotListed = (refl, refl)

-- Different replies tell different answers.
pub answer-injective : (r q : Reply) → answer_of r ≡ answer_of q → r ≡ q
answer-injective r q e = sym (tells r).0 ∙ ap reply_in e ∙ (tells q).0

pub number_small : (r : Reply) {k : Answer} → answer_of r ≡ k → number_in k < 256
number_small r e = subst (λ (k : Answer). number_in k < 256) e (ltb-true (number_in (answer_of r)) 256 (tells r).1)

-- A length that a reply tells is within the bound of the reply.
pub answer-bounded : (r : Reply) {most : ℕ} → Bounded r most → (l : ℕ) → answer_of r ≡ answer.Length l → l ≤ most
answer-bounded r bounded l e = bounded l (answer-injective r (Length l) e)

-- Counts that a reply tells are within the bounds of the reply.
pub answer-counted : (r : Reply) {most many : ℕ} → Counted r most many → (nodes rows : ℕ) → answer_of r ≡ answer.Counts nodes rows →
    (nodes ≤ most) × (rows ≤ many)
answer-counted r counted nodes rows e = counted nodes rows (answer-injective r (Counts nodes rows) e)
