-- Different replies have different codes.
use mathlib.Core.Path.{◌≡◌, refl, sym, ◌∙◌, ap, ap₂}
use mathlib.Core.Bool.{Bool, cond}
use Prim.Native.Nat.{ℕ, ◌-◌, ◌/◌, ◌%◌, ◌≤◌, ◌<◌}
use native.Mathlib.Omega.{arith}
use borrow.Author.Tests.{lt-ltb, le-ltb}
use lib.Dec.{eqb, ltb}
use Rattle.replies.specs.declared.Side.TheVariants.{First, Second}
use Rattle.replies.specs.declared.answers.Answer.{Answer}
use Rattle.replies.specs.declared.answers.Answer.TheVariants.{Length, Same, Under, Above, Neither, Counts, End, Refused, RefusedGraph}
use Rattle.replies.specs.Replies.{Reply}
use Rattle.replies.specs.Reply.{answer_of, Bounded, Counted}
use Rattle.replies.proofs.Numbers.{number_in, number_small, answer-injective, answer-bounded, answer-counted}
use Rattle.record_engine.specs.Code.{code_for, code_of, counts_code}

-- What a code tells, by its range: counts; the order's answers and the end; a refusal of the second graph, of the first, of no graph; else a
-- length.

abbrev from_counts : ℕ → Answer
from_counts c = Counts ((c - 17179869184) / 65536) ((c - 17179869184) % 65536)

abbrev four_or_end : ℕ → Answer
four_or_end c =
    cond (eqb c 8589934592) Same (cond (eqb c 8589934593) Under (cond (eqb c 8589934594) Above (cond (eqb c 8589934595) Neither End)))

abbrev from_same : ℕ → Answer
from_same c = cond (ltb c 17179869184) (four_or_end c) (from_counts c)

abbrev from_second : ℕ → Answer
from_second c = cond (ltb c 8589934592) (RefusedGraph (c - 4294967808) Second) (from_same c)

abbrev from_first : ℕ → Answer
from_first c = cond (ltb c 4294967808) (RefusedGraph (c - 4294967552) First) (from_second c)

abbrev from_number : ℕ → Answer
from_number c = cond (ltb c 4294967552) (Refused (c - 4294967296)) (from_first c)

abbrev told : ℕ → Answer
told c = cond (ltb c 4294967296) (Length c) (from_number c)

refusal-told : (c : ℕ) → 4294967296 ≤ c → told c ≡ from_number c
refusal-told c low = ap (λ (b : Bool). cond b (Length c) (from_number c)) (le-ltb c 4294967296 low)

number-told : (c : ℕ) → 4294967296 ≤ c → c < 4294967552 → told c ≡ Refused (c - 4294967296)
number-told c low high =
    refusal-told c low ∙ ap (λ (b : Bool). cond b (Refused (c - 4294967296)) (from_first c)) (lt-ltb c 4294967552 high)

graph-told : (c : ℕ) → 4294967552 ≤ c → told c ≡ from_first c
graph-told c low =
    refusal-told c (omega arith) ∙ ap (λ (b : Bool). cond b (Refused (c - 4294967296)) (from_first c)) (le-ltb c 4294967552 low)

first-told : (c : ℕ) → 4294967552 ≤ c → c < 4294967808 → told c ≡ RefusedGraph (c - 4294967552) First
first-told c low high =
    graph-told c low ∙ ap (λ (b : Bool). cond b (RefusedGraph (c - 4294967552) First) (from_second c)) (lt-ltb c 4294967808 high)

second-told : (c : ℕ) → 4294967808 ≤ c → c < 8589934592 → told c ≡ RefusedGraph (c - 4294967808) Second
second-told c low high =
    graph-told c (omega arith)
    ∙ ap (λ (b : Bool). cond b (RefusedGraph (c - 4294967552) First) (from_second c)) (le-ltb c 4294967808 low)
    ∙ ap (λ (b : Bool). cond b (RefusedGraph (c - 4294967808) Second) (from_same c)) (lt-ltb c 8589934592 high)

counts-told : (c : ℕ) → 17179869184 ≤ c → told c ≡ from_counts c
counts-told c low =
    graph-told c (omega arith)
    ∙ ap (λ (b : Bool). cond b (RefusedGraph (c - 4294967552) First) (from_second c)) (le-ltb c 4294967808 (omega arith))
    ∙ ap (λ (b : Bool). cond b (RefusedGraph (c - 4294967808) Second) (from_same c)) (le-ltb c 8589934592 (omega arith))
    ∙ ap (λ (b : Bool). cond b (four_or_end c) (from_counts c)) (le-ltb c 17179869184 low)

-- the counts in a code of small ones
counts-apart : (nodes rows : ℕ) → nodes ≤ 255 → rows ≤ 2048 →
    ((counts_code nodes rows - 17179869184) / 65536 ≡ nodes) × ((counts_code nodes rows - 17179869184) % 65536 ≡ rows)
counts-apart nodes rows most many = (omega arith, omega arith)

-- the code of a short length, of small counts or of a refusal by a small number tells which it is
code-told : (k : Answer) → ((l : ℕ) → k ≡ Length l → l ≤ 16384) →
    ((nodes rows : ℕ) → k ≡ Counts nodes rows → (nodes ≤ 255) × (rows ≤ 2048)) → number_in k < 256 → told (code_for k) ≡ k
code-told (Length l) short few small =
    ap (λ (b : Bool). cond b (Length l) (from_number l)) (lt-ltb l 4294967296 (omega (arith, short l refl)))
code-told Same short few small = refl
code-told Under short few small = refl
code-told Above short few small = refl
code-told Neither short few small = refl
code-told (Counts nodes rows) short few small =
    let limits = few nodes rows refl in
    let parts = counts-apart nodes rows limits.0 limits.1 in
    counts-told (counts_code nodes rows) (omega arith) ∙ ap₂ Counts parts.0 parts.1
code-told End short few small = refl
code-told (Refused number) short few small =
    number-told (code_for (Refused number)) (omega arith) (omega arith) ∙ ap Refused (omega arith)
code-told (RefusedGraph number First) short few small =
    first-told (code_for (RefusedGraph number First)) (omega arith) (omega arith) ∙ ap (λ (m : ℕ). RefusedGraph m First) (omega arith)
code-told (RefusedGraph number Second) short few small =
    second-told (code_for (RefusedGraph number Second)) (omega arith) (omega arith) ∙ ap (λ (m : ℕ). RefusedGraph m Second) (omega arith)

-- Two replies with one code are one reply, if their lengths are at most 16,384 and their counts at most 255 nodes and 2,048 rows.
pub codes-differ : (r q : Reply) → Bounded r 16384 → Bounded q 16384 → Counted r 255 2048 → Counted q 255 2048 → code_of r ≡ code_of q → r ≡ q
codes-differ r q short brief few scarce e =
    answer-injective r q
    (sym (code-told (answer_of r) (answer-bounded r short) (answer-counted r few) (number_small r refl))
    ∙ ap told e
    ∙ code-told (answer_of q) (answer-bounded q brief) (answer-counted q scarce) (number_small q refl))
