-- `own` meets its contract: the first node becomes the owner, and the class of each later node becomes one with the owner's.
use native.Mathlib.Omega.{arith}
use mathlib.Core.Path.{refl}
use Rattle.cover.proofs.own.Goals as goal

pub overflow_cast-x : goal.overflow_cast-x
overflow_cast-x c = let f = c.requires.by_index in omega (arith, f.3 (λ e. omega (arith, c.if-x.false, e)), f.1.few)

pub unite-requires : goal.unite-requires
unite-requires c = let f = c.requires.by_index in (f.0, f.1, f.3 (λ e. omega (arith, c.if-x.false, e)), f.2)

pub returns-then-x : goal.returns-then-x
returns-then-x c = record { first = λ e. (refl, refl); later = λ d. absurd (d c.if-x.true) }

pub returns-else-x : goal.returns-else-x
returns-else-x c = record { first = λ e. absurd (omega (arith, c.if-x.false, e)); later = λ d. (refl, c.unite.ensures) }
