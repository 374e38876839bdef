use native.Mathlib.Omega.{arith}
use Rattle.visits.proofs.Colouring.{whites-bound}
use Rattle.peeling.proofs.Counting.{queued-none, queued-source, queued-over, queued-done}
use borrow.Author.Rules.{rules}
use Rattle.peeling.proofs.find_sources.Goals as goal
use Rattle.peeling.proofs.find_sources.Goals.{then-incoming-v-eq0, else-incoming-v-eq0}

pub loop-v-init : goal.loop-v-init
loop-v-init c = (search rules, queued-none _ _ c.requires.incoming_len.1)

pub offset_bounds-queue-count : goal.offset_bounds-queue-count
offset_bounds-queue-count c =
    omega (arith, c.loop-v.invariant.1.filled, whites-bound c.loop-v.v c.args.incoming.now)

pub bounds-queue-count : goal.bounds-queue-count
bounds-queue-count c =
    omega (arith, c.loop-v.invariant.1.filled, whites-bound c.loop-v.v c.args.incoming.now)

pub overflow_add-count : goal.overflow_add-count
overflow_add-count c =
    omega (arith, c.loop-v.invariant.1.filled, whites-bound c.loop-v.v c.args.incoming.now)

pub loop-v-preserved : goal.loop-v-preserved
loop-v-preserved c = (
  omega arith,
  elim c.if-incoming-v-eq0.branch [
    | then-incoming-v-eq0 w ↦
        rw (w.queue-is, w.count-is) (queued-source c.loop-v.invariant.1 c.requires.incoming_len.0 (omega arith) w.if-incoming-v-eq0.true)
    | else-incoming-v-eq0 w ↦
        rw (w.queue-is, w.count-is) (queued-over c.loop-v.invariant.1 c.requires.incoming_len.0 (omega arith) w.if-incoming-v-eq0.false)
  ],
)

pub returns : goal.returns
returns c = queued-done c.loop-v.invariant.1 c.loop-v.invariant.0 c.loop-v-test.false
