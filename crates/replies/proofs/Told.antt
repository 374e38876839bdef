-- The reply of a call that ends in writing: it tells the answer of the writing, where the call passes on the length or the refusal of its reason.
use mathlib.Core.Path.{◌≡◌, refl, sym, ◌∙◌, ap}
use mathlib.Core.Option.{none}
use Prim.Native.Nat.{ℕ}
use Rattle.std.specs.Prelude.{Ok, Err}
use Rattle.encode.specs.declared.Unwritten.{Unwritten}
use Rattle.encode.specs.declared.Unwritten.TheVariants as unwritten
use Rattle.encode.specs.Encode.{Writing}
use Rattle.replies.specs.declared.Refusal.{Refusal}
use Rattle.replies.specs.declared.Refusal.TheVariants as refusal
use Rattle.replies.specs.Replies.{told, refusal_of}
use Rattle.replies.specs.Reply.{length_of, reply_of}

-- A refusal tells no length.
pub refused-no-length : (why : Refusal) → length_of (Err why) ≡ none
refused-no-length (refusal.Table fault) = refl
refused-no-length (refusal.Graph fault side) = refl
refused-no-length refusal.NoRoom = refl
refused-no-length refusal.Cycle = refl
refused-no-length refusal.Clash = refl
refused-no-length refusal.TooLarge = refl
refused-no-length refusal.NotBelow = refl
refused-no-length refusal.NoWantedType = refl
refused-no-length refusal.RowOutOfRange = refl
refused-no-length refusal.RowTwice = refl
refused-no-length refusal.NothingGathered = refl
refused-no-length refusal.TypeList = refl
refused-no-length refusal.ReadingOrder = refl
refused-no-length refusal.WrongVersion = refl
refused-no-length refusal.NoStoreRoom = refl
refused-no-length refusal.NoReasonRoom = refl
refused-no-length refusal.FeatureCount = refl
refused-no-length refusal.NotListed = refl

-- The reason of an unwritten record, as a reply.
refused-as : (why : Unwritten) → told (Err (refusal_of why)) ≡ reply_of (Err why)
refused-as unwritten.TooLarge = refl
refused-as unwritten.NoRoom = refl

module _ {w : Writing} where
  -- The length is passed on.
  pub told-written : {l : ℕ} → w ≡ Ok l → told (Ok l) ≡ reply_of w
  told-written e = ap reply_of (sym e)

  -- The reason is passed on as a refusal.
  pub told-unwritten : {why : Unwritten} {given : Refusal} → w ≡ Err why → given ≡ refusal_of why → told (Err given) ≡ reply_of w
  told-unwritten {why} e r = ap (λ (q : Refusal). told (Err q)) r ∙ refused-as why ∙ ap reply_of (sym e)
