use mathlib.Core.Path.{ap}
use native.Mathlib.Omega.{arith}
use Rattle.std.specs.Prelude.{option_map}
use Rattle.layout.specs.Builder.{stated}
use lib.ListN.{length-replicate}
use Rattle.wanting.specs.declared.Meet.{Meet}
use Rattle.wanting.specs.Wanted.{no_meet}
use Rattle.lattice.specs.Label.{Label}
use Rattle.lattice.proofs.Laws.{accepted-size}
use Rattle.wanting.proofs.Wanting.{wants-start, wants-next, wants-none, wants-done}
use Rattle.wanting.proofs.Asked.{asked-labels}
use Rattle.wanting.proofs.wanted_labels.Goals as goal

pub bounds-s-0 : goal.bounds-s-0
bounds-s-0 c =
    let shaped = c.requires.0.lower.sound.shaped in omega (arith, (shaped.node 0 shaped.nonempty).listed)

pub overflow_cast-nodes : goal.overflow_cast-nodes
overflow_cast-nodes c = omega (arith, c.requires.0.lower.small)

pub read_words-down-requires : goal.read_words-down-requires
read_words-down-requires c =
    (accepted-size c.args.n c.args.table.now c.requires.0.ok).1

pub meet_over-requires : goal.meet_over-requires
meet_over-requires c =
    (asked-labels c.requires.0, length-replicate {A = Meet} 255 no_meet)

pub loop-v-init : goal.loop-v-init
loop-v-init c =
    let asked = c.requires in
    let words = c.read_words-down.ensures in
    wants-start asked.0 asked.1 words (c.meet_over.ensures _ asked.0.ok words)

pub label_at-p-requires : goal.label_at-p-requires
label_at-p-requires c = (c.loop-v.invariant.shaped, c.loop-v-test.true)

pub wanted_label-requires : goal.wanted_label-requires
wanted_label-requires c =
    let turn = c.loop-v in
    (turn.invariant.few, omega (arith, ap (λ (l : Label). l.type) c.label_at-p.ensures, (turn.invariant.known turn.v c.loop-v-test.true).type))

pub returns-in_default : goal.returns-in_default
returns-in_default c =
    let turn = c.loop-v in
    wants-none turn.invariant c.loop-v-test.true c.label_at-p.ensures c.wanted_label.ensures (ap (option_map stated) c.in_default.is) _

pub overflow_mul-v : goal.overflow_mul-v
overflow_mul-v c = omega (arith, c.loop-v-test.true, c.loop-v.invariant.small)

pub put_label-requires : goal.put_label-requires
put_label-requires c =
    let turn = c.loop-v in
    omega (arith, c.loop-v-test.true, turn.invariant.small, turn.invariant.wants.long)

pub loop-v-smaller : goal.loop-v-smaller
loop-v-smaller c = omega (arith, c.loop-v-test.true)

pub loop-v-preserved : goal.loop-v-preserved
loop-v-preserved c =
    let turn = c.loop-v in
    wants-next turn.invariant c.loop-v-test.true c.label_at-p.ensures c.wanted_label.ensures (ap (option_map stated) c.in-Some.is)
    c.put_label.ensures

pub returns : goal.returns
returns c = wants-done c.loop-v.invariant c.loop-v-test.false
