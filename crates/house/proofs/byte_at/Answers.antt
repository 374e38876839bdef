use Prim.Native.Nat.{ℕ, ◌<◌, ◌^◌}
use mathlib.Core.Path.{sym, subst}
use native.Mathlib.Omega.{arith}
use borrow.Author.Rules.{rules}
use Rattle.lattice.proofs.WordLaws.{word_none, word_below, next_word, word-done}
use Rattle.house.proofs.Filling.{byte_fits}
use Rattle.house.proofs.byte_at.Invariants.{stands_at}
use Rattle.house.proofs.byte_at.Goals as goal

pub loop-j-init : goal.loop-j-init
loop-j-init c = (search rules, sym (word_none _))

pub with_bit-word-requires : goal.with_bit-word-requires
with_bit-word-requires c =
    let turn = c.loop-j in
    (search rules, subst (λ (w : ℕ). w < 2 ^ turn.j) (sym turn.invariant.1) (word_below turn.j _))

pub loop-j-preserved : goal.loop-j-preserved
loop-j-preserved c =
    let turn = c.loop-j in
    (search rules, next_word _ turn.j _ _ _ turn.invariant.1 c.is_below-stands.ensures c.with_bit-word.ensures)

pub overflow_cast-result : goal.overflow_cast-result
overflow_cast-result c =
    let turn = c.loop-j in
    omega (arith, byte_fits (stands_at c.args.k) turn.word turn.j (search rules) (search rules) turn.invariant.1)

pub returns : goal.returns
returns c =
    let turn = c.loop-j in
    word-done _ turn.j 8 _ (search rules) (search rules) turn.invariant.1
