-- Which byte is which mark.
use mathlib.Core.Path.{◌≡◌, ◌∙◌, ap}
use mathlib.Core.Bool.{Bool, cond}
use Prim.Native.Nat.{ℕ}
use native.Mathlib.Decide.{ℕ_discrete}
use borrow.Author.Tests.{ne_eqb}
use lib.Dec.{eqb}
use Rattle.groups.specs.LinkMarks.{link_mark_of}
use Rattle.groups.specs.declared.LinkMark.{LinkMark}
use Rattle.groups.specs.declared.LinkMark.TheVariants.{Follows, Leads, Bare}
use Rattle.groups.proofs.Apart.{follows-leads, follows-bare, leads-bare}

-- The mark of each byte.

module _ {byte : ℕ} where
  pub zero-follows : byte ≡ 0 → link_mark_of byte ≡ Follows
  unfolding link_mark_of
  zero-follows e = ap link_mark_of e

  pub two-bare : byte ≡ 2 → link_mark_of byte ≡ Bare
  unfolding link_mark_of
  two-bare e = ap link_mark_of e

  pub other-leads : (byte ≡ 0 → ⊥) → (byte ≡ 2 → ⊥) → link_mark_of byte ≡ Leads
  unfolding link_mark_of
  other-leads n m =
      ap (λ (b : Bool). cond b Follows (cond (eqb byte 2) Bare Leads)) (ne_eqb byte 0 n)
      ∙ ap (λ (b : Bool). cond b Bare Leads) (ne_eqb byte 2 m)

-- The bytes of each mark.

module _ {mark : LinkMark} {byte : ℕ} (is : mark ≡ link_mark_of byte) where
  pub follows-zero : mark ≡ Follows → byte ≡ 0
  follows-zero e = go (ℕ_discrete byte 0) (ℕ_discrete byte 2)
    where
      go : Dec (byte ≡ 0) → Dec (byte ≡ 2) → byte ≡ 0
      go (yes z) d = z
      go (no n) (yes t) = absurd (follows-bare e (is ∙ two-bare t))
      go (no n) (no m) = absurd (follows-leads e (is ∙ other-leads n m))

  pub bare-two : mark ≡ Bare → byte ≡ 2
  bare-two e = go (ℕ_discrete byte 0) (ℕ_discrete byte 2)
    where
      go : Dec (byte ≡ 0) → Dec (byte ≡ 2) → byte ≡ 2
      go (yes z) d = absurd (follows-bare (is ∙ zero-follows z) e)
      go (no n) (yes t) = t
      go (no n) (no m) = absurd (leads-bare (is ∙ other-leads n m) e)

  pub leads-not-zero : mark ≡ Leads → byte ≡ 0 → ⊥
  leads-not-zero e z = follows-leads (is ∙ zero-follows z) e

  pub leads-not-two : mark ≡ Leads → byte ≡ 2 → ⊥
  leads-not-two e t = leads-bare e (is ∙ two-bare t)

  pub bare-not-zero : mark ≡ Bare → byte ≡ 0 → ⊥
  bare-not-zero e z = follows-bare (is ∙ zero-follows z) e
