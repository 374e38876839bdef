use Prim.Native.Nat.{ℕ, ◌+◌, ◌*◌}
use mathlib.Core.Path.{◌≡◌, sym, ap}
use mathlib.Core.List.{List}
use lib.ListN.{get_or}
use native.Mathlib.Omega.{arith}
use Rattle.lattice.proofs.WordLaws.{word_none}
use Rattle.lattice.proofs.Bits.{next-byte, byte_fits, row-end}
use Rattle.lattice.proofs.words.read_row.Goals as goal

at_row : (row : List ℕ) (k : ℕ) → get_or row k 0 ≡ get_or row (8 * 0 + k) 0
at_row row k = let e : k ≡ 8 * 0 + k = omega arith in ap (λ (x : ℕ). get_or row x 0) e

pub loop-k-init : goal.loop-k-init
loop-k-init c = sym (word_none _)

pub overflow_add-word : goal.overflow_add-word
overflow_add-word c =
    let turn = c.loop-k in
    record {
      fits = byte_fits c.args.row.now 0 turn.k _ _ (omega (arith, c.requires, c.loop-k-test.true)) turn.invariant (at_row c.args.row.now turn.k)
          (omega (arith, c.type_inv.row turn.k));
    }

pub loop-k-preserved : goal.loop-k-preserved
loop-k-preserved c =
    let turn = c.loop-k in
    next-byte c.args.row.now 0 turn.k _ _ (omega (arith, c.requires, c.loop-k-test.true)) turn.invariant (at_row c.args.row.now turn.k)
    (omega (arith, c.type_inv.row turn.k))

pub returns : goal.returns
returns c = row-end c.args.row.now c.loop-k.k _ c.loop-k-test.false (omega (arith, c.requires, c.loop-k.auto.k-end)) c.loop-k.invariant
