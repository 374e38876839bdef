-- A call that writes into room for the longest record writes a written record. A difference, combined with the common part, gives the program.
use mathlib.Core.Path.{◌≡◌, refl, sym, ◌∙◌, ap, subst}
use mathlib.Core.List.{List}
use mathlib.Core.Option.{Option, none, some}
use Prim.Native.Nat.{ℕ, ◌≤◌}
use native.Mathlib.Omega.{arith}
use lib.Dec.{eqb}
use lib.ListN.{length, take}
use Rattle.graphs.specs.Number.{canonical, written}
use Rattle.graphs.specs.Rows.{Row}
use Rattle.lattice.specs.Label.{Label}
use Rattle.std.specs.Prelude.{Ok}
use Rattle.acceptance.specs.Reply.{opened}
use Rattle.encoder.specs.Encode.{encoded}
use Rattle.encode.specs.Encode.{fitted}
use Rattle.record.specs.Read.{reading, accepted, graph_of_rows}
use Rattle.record.proofs.Theorems.{accepted-fits, written-accepted}
use Rattle.difference.specs.Difference.{numbered}
use Rattle.replies.specs.Replies.{Reply}
use Rattle.replies.specs.Replies.{Length}
use Rattle.replies.specs.Reply.{Result, result_of, length_of}
use Rattle.calls.specs.Calls.{generalizing, unifying, differing}
use Rattle.demands.specs.Demand.{WrittenRecord, Leaves}
use Rattle.demands.proofs.Demands.{generalizing-leaves, unifying-leaves, differing-leaves, difference, written-own-bytes}
use Rattle.gathering.proofs.Told.{none-some, length-told}
use Rattle.gathered.specs.Calls.{taken as gatheredTaken, taken_by as gatheredBy}
use Rattle.gathered.proofs.Records.{length-blank, written-short, taken-fitted as gathered-fitted}
use Rattle.versions.specs.State.{made, stopped, taken_by, taken, blank, common_part, combination, difference_of}

pub made-injective : {a b : List ℕ} → made a ≡ made b → a ≡ b
made-injective e = cc

pub stopped-made : {X : Type 0} {r : Reply} {b : List ℕ} → stopped r ≡ made b → X
stopped-made e = let z : ◌≡◌ {A = ℕ} 0 1 = cc in absurd (omega arith)

-- The bytes that are taken of a result stand beside a length.
pub taken_made : (r : Result) (b : List ℕ) → taken r ≡ made b → (l : ℕ) × (r.reply ≡ Length l) × (take l r.output ≡ b)
taken_made r b e = go (length_of r.reply) refl e
  where
    go : (o : Option ℕ) → length_of r.reply ≡ o → taken_by o r ≡ made b → (l : ℕ) × (r.reply ≡ Length l) × (take l r.output ≡ b)
    go none q d = stopped-made d
    go (some l) q d = (l, length-told r.reply l q, made-injective d)

taken-written : (n : ℕ) (out : List ℕ) (r : Result) (b : List ℕ) → Leaves n out r → taken r ≡ made b → WrittenRecord n b
taken-written n out r b leaves e =
    let (l, q, d) = taken_made r b e in
    subst (WrittenRecord n) d (leaves.holds l q)

-- A record that a gathering takes is taken here too.
taken-some : (r : Result) (p : List ℕ) → gatheredTaken r ≡ some p → taken r ≡ made p
taken-some r p e = go (length_of r.reply) refl e
  where
    go : (o : Option ℕ) → length_of r.reply ≡ o → gatheredBy o r ≡ some p → taken_by o r ≡ made p
    go none q d = none-some d
    go (some l) q d = let i : take l r.output ≡ p = cc in ap made i

-- A record that fits is taken whole.
taken-fitted : (p out : List ℕ) → length p ≤ length out → taken (result_of (fitted p out)) ≡ made p
taken-fitted p out h = taken-some (result_of (fitted p out)) p (gathered-fitted p out h)

-- The written record of an accepted program is a `WrittenRecord`.
pub program-written : (n : ℕ) (t bytes : List ℕ) (rows : List (Row Label)) → reading n bytes ≡ accepted rows →
    WrittenRecord n (encoded (numbered (canonical eqb (graph_of_rows rows))))
program-written n t bytes rows reads = go (accepted-fits n bytes rows reads)
  where
    go : (form : List (Row Label)) × (canonical eqb (graph_of_rows rows) ≡ written form) →
        WrittenRecord n (encoded (numbered (canonical eqb (graph_of_rows rows))))
    go (form, e) =
        let (read, own, _) = written-accepted n t bytes rows reads form e in
        subst (λ c. WrittenRecord n (encoded (numbered c))) (sym e)
        (record { form = form; reads = read; own = own; bytes-are = refl })

module _ (n : ℕ) (t a b c : List ℕ) where
  pub common-written : common_part n t a b ≡ made c → WrittenRecord n c
  unfolding common_part
  common-written e = taken-written n blank (generalizing n t a b blank) c (generalizing-leaves n t blank a b) e

  pub combination-written : combination n t a b ≡ made c → WrittenRecord n c
  unfolding combination
  combination-written e = taken-written n blank (unifying n t a b blank) c (unifying-leaves n t blank a b) e

  pub difference-written : difference_of n t a b ≡ made c → WrittenRecord n c
  unfolding difference_of
  difference-written e = taken-written n blank (differing n t a b blank) c (differing-leaves n t blank a b) e

-- A difference that is made, combined with the common part, gives the program.
pub difference-restored : (n : ℕ) (t part p d : List ℕ) → opened n t ≡ Ok tt → WrittenRecord n part → WrittenRecord n p →
    difference_of n t part p ≡ made d → combination n t d part ≡ made p
unfolding difference_of combination
difference-restored n t part p d opens one other e =
    let (l, q, is) = taken_made (differing n t part p blank) d e in
    let told = difference n t part p one.form other.form (record { opens = opens; first = one.reads; second = other.reads }) blank l q in
    let whole : unifying n t d part blank ≡ result_of (fitted p blank) =
    ap (λ (x : List ℕ). unifying n t x part blank) (sym is) ∙ told.combined-first blank ∙ written-own-bytes n t p other opens blank in
    ap taken whole ∙ taken-fitted p blank (omega (arith, length-blank, written-short n p other))
