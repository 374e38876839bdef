-- What a test of a span tells of its ends.
use mathlib.Core.Path.{◌≡◌, sym, ◌∙◌}
use mathlib.Core.Bool.{Bool, true, false, not}
use mathlib.Core.Logic.{◌↔◌}
use Prim.Native.Nat.{ℕ, ◌≤◌}
use native.Mathlib.Omega.{arith}
use borrow.Author.Tests.{not-true, not-false}
use Rattle.listed.proofs.Order.{false-true}
use Rattle.listed.proofs.Within.{Between}
use Rattle.listing.specs.declared.spans.Span.{Span}
use Rattle.listing.specs.Numbers.{Ends}

module _ {b : Bool} {s : Span} {x : ℕ} (tells : (b ≡ true) ↔ ((s.low ≤ x) × (x ≤ s.high))) {ends : ℕ × ℕ} (are : Ends s ends) where
  pub inside : b ≡ true → Between ends x
  inside e = let p = tells.0 e in (omega (arith, p.0, are.0), omega (arith, p.1, are.1))

  pub told-inside : Between ends x → b ≡ true
  told-inside p = tells.1 (omega (arith, p.0, are.0), omega (arith, p.1, are.1))

  pub kept-inside : not b ≡ false → Between ends x
  kept-inside e = inside (not-false b e)

  pub outside : not b ≡ true → Between ends x → ⊥
  outside e p = false-true (sym (not-true b e) ∙ told-inside p)
