-- The three marks of links differ.
use mathlib.Core.Path.{◌≡◌}
use Prim.Native.Nat.{ℕ}
use native.Mathlib.Omega.{arith}
use Rattle.groups.specs.declared.LinkMark.{LinkMark}
use Rattle.groups.specs.declared.LinkMark.TheVariants as link_mark

module _ {mark : LinkMark} where
  pub follows-leads : mark ≡ link_mark.Follows → mark ≡ link_mark.Leads → ⊥
  follows-leads p q = let z : ◌≡◌ {A = ℕ} 0 1 = cc in omega arith

  pub follows-bare : mark ≡ link_mark.Follows → mark ≡ link_mark.Bare → ⊥
  follows-bare p q = let z : ◌≡◌ {A = ℕ} 0 1 = cc in omega arith

  pub leads-bare : mark ≡ link_mark.Leads → mark ≡ link_mark.Bare → ⊥
  leads-bare p q = let z : ◌≡◌ {A = ℕ} 0 1 = cc in omega arith
