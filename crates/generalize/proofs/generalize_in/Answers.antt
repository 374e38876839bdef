use mathlib.Core.Path.{◌∙◌, sym, ap, ap₂, refl}
use mathlib.Core.Logic.{inl, inr}
use Prim.Native.Nat.{ℕ}
use native.Mathlib.Omega.{arith}
use lib.ListN.{length, length-set, replicate, length-replicate, get_or-replicate}
use Rattle.graphs.specs.Number.{Canonical}
use Rattle.lattice.specs.Label.{Label}
use Rattle.lattice.specs.Labels.{join_ranged}
use Rattle.bounds.specs.Sets.{join_in}
use Rattle.layout.specs.Builder.{put_label}
use Rattle.layout.proofs.Builder.{length-put}
use Rattle.encode.specs.Encode.{written_out}
use Rattle.generalize.proofs.Building.{build-start, build-long, build-step}
use Rattle.generalize.proofs.Result.{found-written, found-too-few, too_large, many-pairs, many-links, build-sound, build-canonical}
use Rattle.generalize.proofs.generalize_in.Goals as goal

pub bounds-words-1 : goal.bounds-words-1
bounds-words-1 c = omega (arith, c.requires.in_bounds.0)

pub loop-head-init : goal.loop-head-init
loop-head-init c = (build-start (join_in c.args.n c.args.sets.now c.args.cells.now) c.requires.recorded c.requires.recorded_2 (c.args.n, c.requires.joinable) (replicate 65025 255) (replicate 255 0) c.args.words.now (length-replicate {A = ℕ} 65025 255) (λ p h. get_or-replicate {A = ℕ} 65025 p 255 0 h) (length-replicate {A = ℕ} 255 0) (get_or-replicate {A = ℕ} 255 0 0 0 (omega arith)) c.requires.in_bounds.0 c.requires.in_bounds.1, omega arith, refl)

pub overflow_add-at : goal.overflow_add-at
overflow_add-at c = omega (arith, c.loop-head-test.true, c.loop-head.invariant.0.marked.few, c.loop-head.invariant.1)

pub shape_of-words-then-words-at : goal.shape_of-words-then-words-at
shape_of-words-then-words-at c = c.loop-head.invariant.2 ∙ length-set {A = ℕ} c.args.words.now 1 257

pub returns-then-words-at : goal.returns-then-words-at
returns-then-words-at c = found-too-few (omega (arith, c.if-words-at.true, c.loop-head-test.true, c.loop-head.invariant.0.marked.few, c.loop-head.invariant.1, c.loop-head.invariant.2, length-set {A = ℕ} c.args.words.now 1 257))

pub offset_bounds-queue-head : goal.offset_bounds-queue-head
offset_bounds-queue-head c = omega (arith, c.loop-head-test.true, c.loop-head.invariant.0.marked.few)

pub bounds-queue-head : goal.bounds-queue-head
bounds-queue-head c = omega (arith, c.loop-head-test.true, c.loop-head.invariant.0.marked.few)

pub overflow_cast-pair : goal.overflow_cast-pair
overflow_cast-pair c = omega (arith, c.loop-head.invariant.0.marked.inside c.loop-head.head c.loop-head-test.true)

pub label_at-requires : goal.label_at-requires
label_at-requires c = (c.loop-head.invariant.0.left.sound.shaped, (c.loop-head.invariant.0.inside c.loop-head.head c.loop-head-test.true).0)

pub label_at-requires-in-loop-head : goal.label_at-requires-in-loop-head
label_at-requires-in-loop-head c = (c.loop-head.invariant.0.right.sound.shaped, (c.loop-head.invariant.0.inside c.loop-head.head c.loop-head-test.true).1)

pub join-label-requires : goal.join-label-requires
join-label-requires c = let able = c.requires.joinable in let turn = c.loop-head in let inside = turn.invariant.0.inside turn.head c.loop-head-test.true in record { kind_lt_n = (omega (arith, ap (λ (l : Label). l.type) c.label_at.ensures, (able.left _ inside.0).type), omega (arith, ap (λ (l : Label). l.type) c.label_at-in-loop-head.ensures, (able.right _ inside.1).type), able.few); seekable = c.requires.seekable }

pub put_label-requires : goal.put_label-requires
put_label-requires c = omega (arith, c.if-words-at.false)

pub overflow_add-known : goal.overflow_add-known
overflow_add-known c = omega (arith, c.loop-head-test.true, c.loop-head.invariant.0.marked.few, c.loop-head.invariant.1)

pub pair_links-requires : goal.pair_links-requires
pair_links-requires c = let s = c.loop-head.invariant.0 in let same = ap length c.put_label.ensures ∙ length-put c.loop-head.words c.loop-head.at _ in record { recorded = s.left; recorded_2 = s.right; u_bound = s.inside c.loop-head.head c.loop-head-test.true; marked = s.marked; at_in_bounds = (omega (arith, same, c.if-words-at.false), omega (arith, same, s.long)) }

pub shape_of-words-in_default : goal.shape_of-words-in_default
shape_of-words-in_default c = c.pair_links.auto.words ∙ ap length c.put_label.ensures ∙ length-put c.loop-head.words c.loop-head.at _ ∙ c.loop-head.invariant.2 ∙ length-set {A = ℕ} c.args.words.now 1 257

pub returns-in_default : goal.returns-in_default
returns-in_default c = let s = c.loop-head.invariant.0 in found-written (sym (too_large (join_in c.args.n c.args.sets.now c.args.cells.now) s.left s.right c.args.out.now (inl (many-pairs s c.loop-head-test.true c.in_default.ensures))))

pub overflow_cast-words-in-loop-head : goal.overflow_cast-words-in-loop-head
overflow_cast-words-in-loop-head c = omega (arith, c.in-Some.ensures.short, c.loop-head-test.true, c.loop-head.invariant.0.marked.few, c.loop-head.invariant.1)

pub overflow_add-words : goal.overflow_add-words
overflow_add-words c = omega (arith, c.loop-head-test.true, c.loop-head.invariant.0.marked.few)

pub offset_bounds-words-head : goal.offset_bounds-words-head
offset_bounds-words-head c = omega (arith, c.loop-head-test.true, c.loop-head.invariant.0.marked.few)

pub bounds-words-head : goal.bounds-words-head
bounds-words-head c = let same = ap length c.put_label.ensures ∙ length-put c.loop-head.words c.loop-head.at _ in omega (arith, same, c.in-Some.ensures.long, c.loop-head-test.true, c.loop-head.invariant.0.marked.few, c.loop-head.invariant.0.built.low, c.if-words-at.false)

pub overflow_add-head : goal.overflow_add-head
overflow_add-head c = omega (arith, c.loop-head-test.true, c.loop-head.invariant.0.marked.few)

pub overflow_mul-head : goal.overflow_mul-head
overflow_mul-head c = omega (arith, c.loop-head-test.true, c.loop-head.invariant.0.marked.few)

pub overflow_add-head-in-loop-head : goal.overflow_add-head-in-loop-head
overflow_add-head-in-loop-head c = omega (arith, c.loop-head-test.true, c.loop-head.invariant.0.marked.few)

pub overflow_add-head-in-loop-head-2 : goal.overflow_add-head-in-loop-head-2
overflow_add-head-in-loop-head-2 c = omega (arith, c.loop-head-test.true, c.loop-head.invariant.0.marked.few)

pub shape_of-words-then-head-at : goal.shape_of-words-then-head-at
shape_of-words-then-head-at c = build-long c.loop-head.invariant.0 c.loop-head-test.true (omega (arith, c.if-words-at.false)) _ refl _ (c.put_label.ensures ∙ ap (put_label c.loop-head.words c.loop-head.at) (c.join-label.ensures ∙ ap₂ (join_ranged (join_in c.args.n c.args.sets.now c.args.cells.now)) c.label_at.ensures c.label_at-in-loop-head.ensures)) _ _ _ _ c.in-Some.ensures ∙ c.loop-head.invariant.2 ∙ length-set {A = ℕ} c.args.words.now 1 257

pub returns-then-head-at : goal.returns-then-head-at
returns-then-head-at c = let s = c.loop-head.invariant.0 in found-written (sym (too_large (join_in c.args.n c.args.sets.now c.args.cells.now) s.left s.right c.args.out.now (inr (many-links (build-step c.loop-head.invariant.0 c.loop-head-test.true (omega (arith, c.if-words-at.false)) _ refl _ (c.put_label.ensures ∙ ap (put_label c.loop-head.words c.loop-head.at) (c.join-label.ensures ∙ ap₂ (join_ranged (join_in c.args.n c.args.sets.now c.args.cells.now)) c.label_at.ensures c.label_at-in-loop-head.ensures)) _ _ _ _ c.in-Some.ensures) (omega (arith, c.if-head-at.true))))))

pub loop-head-smaller : goal.loop-head-smaller
loop-head-smaller c = omega (arith, c.loop-head-test.true, c.loop-head.invariant.0.marked.few)

pub loop-head-preserved : goal.loop-head-preserved
loop-head-preserved c = (build-step c.loop-head.invariant.0 c.loop-head-test.true (omega (arith, c.if-words-at.false)) _ refl _ (c.put_label.ensures ∙ ap (put_label c.loop-head.words c.loop-head.at) (c.join-label.ensures ∙ ap₂ (join_ranged (join_in c.args.n c.args.sets.now c.args.cells.now)) c.label_at.ensures c.label_at-in-loop-head.ensures)) _ _ _ _ c.in-Some.ensures, omega (arith, c.if-head-at.false), build-long c.loop-head.invariant.0 c.loop-head-test.true (omega (arith, c.if-words-at.false)) _ refl _ (c.put_label.ensures ∙ ap (put_label c.loop-head.words c.loop-head.at) (c.join-label.ensures ∙ ap₂ (join_ranged (join_in c.args.n c.args.sets.now c.args.cells.now)) c.label_at.ensures c.label_at-in-loop-head.ensures)) _ _ _ _ c.in-Some.ensures ∙ c.loop-head.invariant.2)

pub overflow_cast-words-2 : goal.overflow_cast-words-2
overflow_cast-words-2 c = omega (arith, c.loop-head.invariant.0.marked.few)

pub bounds-words-0 : goal.bounds-words-0
bounds-words-0 c = omega (arith, c.loop-head.invariant.2, length-set {A = ℕ} c.args.words.now 1 257, c.requires.in_bounds.0)

pub write-requires : goal.write-requires
write-requires c = build-sound c.loop-head.invariant.0 (omega (arith, c.loop-head-test.false))

pub shape_of-words : goal.shape_of-words
shape_of-words c = length-set {A = ℕ} c.loop-head.words 0 c.loop-head.count ∙ c.loop-head.invariant.2 ∙ length-set {A = ℕ} c.args.words.now 1 257

pub returns : goal.returns
returns c = let e = sym (build-canonical c.loop-head.invariant.0 (omega (arith, c.loop-head-test.false))) in let out = c.args.out.now in found-written (c.write.ensures ∙ ap (λ (k : Canonical Label). written_out k out) e)
