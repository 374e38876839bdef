-- When each reply of import and export is due. No other reply is ever due, so no other reply is given.
use Prim.Native.Nat.{ℕ}
use Rattle.acceptance.specs.declared.TableFault.{TableFault}
use Rattle.record.specs.declared.GraphFault.{GraphFault}
use Rattle.replies.specs.declared.Side.TheVariants.{First, Second}
use Rattle.replies.specs.Replies.{Reply}
use Rattle.replies.specs.Replies.{Length, Same, Under, Above, Neither, Counts, End, Table, Graph, NoRoom, Cycle, Clash, TooLarge, NotBelow, NoWantedType, RowOutOfRange, RowTwice, NothingGathered, TypeList, ReadingOrder, WrongVersion, NoStoreRoom, NoReasonRoom, FeatureCount, NotListed}

pub record Grounds : Type 1 where
  pub for-length : ℕ → Type 0
  pub for-counts : ℕ → ℕ → Type 0
  -- The grounds of 1 to 3, of 4 to 7 of the first graph, of 8, 14 and 15.
  pub for-table : TableFault → Type 0
  pub for-graph : GraphFault → Type 0
  pub for-room : Type 0
  pub for-unknown : Type 0
  pub for-twice : Type 0

abbrev pub Due : Grounds → Reply → Type 0
Due g (Length l) = g.for-length l
Due g Same = ⊥
Due g Under = ⊥
Due g Above = ⊥
Due g Neither = ⊥
Due g (Counts a b) = g.for-counts a b
Due g End = ⊥
Due g (Table fault) = g.for-table fault
Due g (Graph fault First) = g.for-graph fault
Due g (Graph fault Second) = ⊥
Due g NoRoom = g.for-room
Due g Cycle = ⊥
Due g Clash = ⊥
Due g TooLarge = ⊥
Due g NotBelow = ⊥
Due g NoWantedType = ⊥
Due g RowOutOfRange = g.for-unknown
Due g RowTwice = g.for-twice
Due g NothingGathered = ⊥
Due g TypeList = ⊥
Due g ReadingOrder = ⊥
Due g WrongVersion = ⊥
Due g NoStoreRoom = ⊥
Due g NoReasonRoom = ⊥
Due g FeatureCount = ⊥
Due g NotListed = ⊥
