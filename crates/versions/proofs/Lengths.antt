-- Replies that tell no length stop what follows; every other reply tells one length.
use mathlib.Core.Path.{◌≡◌, sym, ◌∙◌, ap}
use mathlib.Core.List.{List}
use mathlib.Core.Option.{Option, none}
use Prim.Native.Nat.{ℕ, ◌≤◌}
use native.Mathlib.Omega.{arith}
use Rattle.replies.specs.Replies.{Reply}
use Rattle.replies.specs.Replies.{Length}
use Rattle.replies.specs.Reply.{resulting, length_of, Bounded}
use Rattle.gathering.proofs.Told.{none-some}
use Rattle.versions.specs.State.{Made, stopped, taken_by, taken}
use Rattle.versions.specs.Promise.{onward_by, onward}

module _ (r : Reply) (no : length_of r ≡ none) where
  pub none-bounded : (most : ℕ) → Bounded r most
  none-bounded most l e = none-some (sym no ∙ ap length_of e)

  pub none-taken : (out : List ℕ) → taken (resulting r out) ≡ stopped r
  none-taken out = ap (λ (o : Option ℕ). taken_by o (resulting r out)) no

  pub none-onward : (next : ℕ → Made) → onward r next ≡ stopped r
  none-onward next = ap (λ (o : Option ℕ). onward_by o r next) no

-- Equal replies tell equal lengths.
pub length-same : {l k : ℕ} → Length l ≡ Length k → l ≡ k
length-same e = cc

pub length-bounded : (l most : ℕ) → l ≤ most → Bounded (Length l) most
length-bounded l most h k e = omega (arith, h, length-same e)
