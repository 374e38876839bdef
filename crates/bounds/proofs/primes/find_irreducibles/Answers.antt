use mathlib.Core.Path.{ap}
use mathlib.Core.Bool.{not}
use Prim.Native.Nat.{ℕ, ◌+◌, ◌^◌, ◌<◌}
use mathlib.Core.Path.{◌≡◌, sym, subst, ◌∙◌}
use mathlib.Core.List.{List}
use native.Mathlib.Nat.{not-suc-le-zero}
use lib.ListN.{length-replicate}
use native.Mathlib.Omega.{arith}
use Rattle.bounds.specs.Primes.{word_irreducible, word_splits, word_prime}
use Rattle.lattice.proofs.Every.{refuted, held, every-none, every_more, every-done}
use Rattle.lattice.proofs.WordLaws.{word_none, word_below, next_word, word-done}
use Rattle.bounds.proofs.Held.{Kept, kept_more, kept-past, prime-split, prime-past, finds-fault}
use borrow.Author.Rules.{rules}
use Rattle.bounds.proofs.primes.find_irreducibles.Goals.{then-stands+else-not-is_prime, else-stands}
use Rattle.bounds.proofs.primes.find_irreducibles.Goals as goal

pub loop-j-init : goal.loop-j-init
loop-j-init c = (search rules, every-none _, sym (word_none _), record { long = length-replicate {A = ℕ} 64 0; stand = λ i l. absurd (not-suc-le-zero l) })

pub returns-then-not-is_prime : goal.returns-then-not-is_prime
returns-then-not-is_prime c =
    let turn = c.loop-j in
    let n = c.args.n in
    let ws = c.args.down.now in
    let stands = sym c.is_irreducible-stands.ensures ∙ c.if-stands.true in
    finds-fault n ws turn.j _ (search rules) stands c.turn_word-up.ensures
    (refuted {p = word_splits n ws _} c.is_prime.ensures (ap not c.if-not-is_prime.true))

pub with_bit-types-requires : goal.with_bit-types-requires
with_bit-types-requires c =
    let turn = c.loop-j in
    (search rules, subst (λ (w : ℕ). w < 2 ^ turn.j) (sym turn.invariant.2) (word_below turn.j _))

pub loop-j-preserved : goal.loop-j-preserved
loop-j-preserved c =
    let turn = c.loop-j in
    let n = c.args.n in
    let ws = c.args.down.now in
    let is = c.is_irreducible-stands.ensures in
    elim c.if-stands.branch [
      | then-stands+else-not-is_prime w ↦
          let splits = held {p = word_splits n ws _} w.is_prime.ensures (ap not w.if-not-is_prime.false) in (
            search rules,
            every_more (word_prime n ws) turn.j turn.invariant.1 (prime-split n ws turn.j _ w.turn_word-up.ensures splits),
            next_word (word_irreducible n ws) turn.j turn.types _ _ turn.invariant.2 is c.with_bit-types.ensures,
            subst (λ (l : List ℕ). Kept n ws l (turn.j + 1)) (sym w.above-is) (kept_more turn.invariant.3 _ (search rules) w.turn_word-up.ensures),
          )
      | else-stands w ↦
          let stands = sym is ∙ w.if-stands.false in (
            search rules,
            every_more (word_prime n ws) turn.j turn.invariant.1 (prime-past n ws turn.j stands),
            next_word (word_irreducible n ws) turn.j turn.types _ _ turn.invariant.2 is c.with_bit-types.ensures,
            subst (λ (l : List ℕ). Kept n ws l (turn.j + 1)) (sym w.above-is) (kept-past turn.invariant.3 stands),
          )
    ]

pub returns : goal.returns
returns c =
    let turn = c.loop-j in
    let n = c.args.n in
    let ws = c.args.down.now in
    let done : turn.j ≡ n = search rules in
    record {
      primes = sym (every-done _ turn.j n (search rules) (search rules) turn.invariant.1);
      types = word-done (word_irreducible n ws) turn.j n _ (search rules) (search rules) turn.invariant.2;
      above = λ i l. turn.invariant.3.stand i (omega (arith, done));
    }
