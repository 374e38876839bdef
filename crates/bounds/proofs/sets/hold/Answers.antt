use Prim.Native.Nat.{ℕ, ◌+◌, ◌-◌, ◌<◌}
use mathlib.Core.Path.{◌≡◌, refl, sym, ap, subst, ◌∙◌}
use mathlib.Core.Bool.{Bool, true, false}
use native.Mathlib.Nat.{not-suc-le-zero}
use native.Mathlib.Omega.{arith}
use mathlib.Core.List.{List}
use lib.ListN.{length, get_or, set, length-set}
use lib.Seq.{get_or-set_same}
use lib.Bits.{bit_and}
use Rattle.lattice.specs.Words.{word}
use Rattle.bounds.specs.Primes.{word_irreducible}
use Rattle.bounds.specs.Sets.{Sets, SoughtBy}
use Rattle.lattice.proofs.Every.{true-not-false}
use Rattle.bounds.proofs.Held.{sets_more}
use borrow.Author.Rules.{rules}
use Rattle.bounds.proofs.sets.hold.Goals.{then-up, else-up}
use Rattle.bounds.proofs.sets.hold.Goals as goal

-- one type more
again : {up : Bool} (n : ℕ) {ws sets new : List ℕ} {k v : ℕ} (w : ℕ) → length sets ≡ 128 → Sets up n ws sets k → k < 64 →
    v ≡ bit_and (get_or ws k 0) (word n (word_irreducible n ws)) → SoughtBy up n ws k w → new ≡ set (set sets k v) (64 + k) w →
    (length new ≡ 128) × Sets up n ws new (k + 1)
again {up} n {ws} {sets} {new} {k} {v} w long s l e f q = (
  ap length q ∙ length-set (set sets k v) (64 + k) w ∙ length-set sets k v ∙ long,
  subst (λ (l : List ℕ). Sets up n ws l (k + 1)) (sym q) (sets_more s long l v w e f),
)

pub returns-in_default : goal.returns-in_default
returns-in_default c =
    record {
      value = sym c.in_default.ensures;
      sets = λ e. absurd (true-not-false false e refl);
      n_after = λ e. get_or-set_same c.args.sets.now (c.args.n - 1) 0 0 (omega (arith, c.requires.sets_len, c.requires.n_nonzero));
    }

pub loop-a-init : goal.loop-a-init
loop-a-init c =
    (search rules, c.requires.sets_len, record { set = λ i l. absurd (not-suc-le-zero l); sought = λ i l. absurd (not-suc-le-zero l) })

pub loop-a-preserved : goal.loop-a-preserved
loop-a-preserved c =
    let turn = c.loop-a in
    let found = c.in-Some.ensures in
    let n = c.args.n in
    let ws = c.args.down.now in
    let value = ap (bit_and (get_or ws turn.a 0)) found.types in
    elim c.if-up.branch [
      | then-up came ↦
          let w = get_or c.in-Some.found.above turn.a 0 in
          let sought = subst (λ (b : Bool). SoughtBy b n ws turn.a w) (sym came.if-up.true) (found.above turn.a (search rules)) in
          let next = again n w turn.invariant.1 turn.invariant.2 (search rules) value sought came.sets-is in (search rules, next.0, next.1)
      | else-up came ↦
          let w = get_or ws turn.a 0 in
          let sought = subst (λ (b : Bool). SoughtBy b n ws turn.a w) (sym came.if-up.false) refl in
          let next = again n w turn.invariant.1 turn.invariant.2 (search rules) value sought came.sets-is in (search rules, next.0, next.1)
    ]

pub returns : goal.returns
returns c =
    let turn = c.loop-a in
    let n = c.args.n in
    let done : turn.a ≡ n = search rules in
    record {
      value = sym c.in-Some.ensures.primes;
      sets = λ e. subst (Sets c.args.up n c.args.down.now _) done turn.invariant.2;
      n_after = λ e. absurd (true-not-false true refl e);
    }
