use Prim.Native.Nat.{ℕ}
use native.Mathlib.Omega.{arith}
use lib.ListN.{replicate, length-replicate, get_or-replicate}
use Rattle.keeping.proofs.Keeping.{node-known}
use Rattle.reasons.proofs.Explaining.{rows-begin, rows_more, rows-explained}
use Rattle.reasons.proofs.explain_links.Goals as goal

pub keep_entered-requires : goal.keep_entered-requires
keep_entered-requires c = c.requires.by_index _ (length-replicate {A = ℕ} 255 0)

pub bounds-s-0 : goal.bounds-s-0
bounds-s-0 c =
    let ready = c.requires.by_index (replicate 255 0) (length-replicate {A = ℕ} 255 0) in
    omega (arith, (node-known ready 0 ready.sound.shaped.nonempty).node.listed)

pub overflow_cast-nodes : goal.overflow_cast-nodes
overflow_cast-nodes c = let ready = c.requires.by_index (replicate 255 0) (length-replicate {A = ℕ} 255 0) in omega (arith, ready.small)

pub loop-v-init : goal.loop-v-init
loop-v-init c = rows-begin (c.requires.by_index _ c.keep_entered.ensures.long) c.requires.copied.0 c.requires.copied.1

pub explain_row-requires : goal.explain_row-requires
explain_row-requires c =
    let turn = c.loop-v.invariant in
    (record { markable = (turn.ready, turn.copied, c.loop-v-test.true); reasons_len = turn.long })

pub loop-v-smaller : goal.loop-v-smaller
loop-v-smaller c = omega (arith, c.loop-v-test.true)

pub loop-v-preserved : goal.loop-v-preserved
loop-v-preserved c = rows_more c.loop-v.invariant c.loop-v-test.true c.explain_row.ensures

pub returns : goal.returns
returns c =
    rows-explained c.loop-v.invariant c.loop-v-test.false c.keep_entered.ensures (λ u h. get_or-replicate {A = ℕ} 255 u 0 0 h)
