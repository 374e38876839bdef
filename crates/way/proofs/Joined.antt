-- How a program joins the common part so far: it is the first program, the new common part is too large, or the new common part is put.
use mathlib.Core.Path.{◌≡◌, refl, sym, ◌∙◌, ap}
use mathlib.Core.Bool.{true}
use mathlib.Core.List.{List}
use mathlib.Core.Option.{Option, none, some}
use Prim.Native.Nat.{ℕ, ◌+◌, ◌-◌, ◌≤◌}
use native.Mathlib.Omega.{arith}
use lib.ListN.{length, take, drop, replicate, length-replicate}
use Rattle.lattice.specs.Table.{accepted}
use Rattle.acceptance.specs.Reply.{TableAnswer}
use Rattle.acceptance.proofs.Acceptance.{accepted-opened}
use Rattle.replies.specs.Replies.{Reply}
use Rattle.replies.specs.Replies.{Length}
use Rattle.replies.specs.Reply.{resulting, refusing, length_of, Bounded}
use Rattle.engine.specs.Generalizing.{generalized_beside}
use Rattle.calls.specs.Calls.{checked, generalizing}
use Rattle.calls.proofs.Beside.{generalizing-plain}
use Rattle.gathering.specs.Gathering.{length_at}
use Rattle.gathering.proofs.Told.{none-some}
use Rattle.versions.specs.State.{Made, made, taken, blank, common_part, joined}
use Rattle.versions.specs.Slots.{measured_in, Parted}
use Rattle.versions.specs.Promise.{Puts}
use Rattle.versions.proofs.SlotLaws.{measured-none, measured-some, part_length, part-parted, part-measured}
use Rattle.versions.proofs.Written.{Fitting, generalizing-fits, taken-least, taken-most, taken-long, taken-length}
use Rattle.versions.proofs.Lengths.{none-taken, length-same}
use Rattle.way.specs.Promise.{Joins}

-- A record is put, and its length and its bytes are read back.
module _ {p old new : List ℕ} (parted : Parted old) (short : length p ≤ 4854) (some_bytes : 1 ≤ length p) (puts : Puts p 0 old new) where
  bytes_read : take (length p) (drop 2 new) ≡ p
  bytes_read =
      let long : length_at new ≡ length p = part_length parted short puts in
      let read : some (take (length_at new) (drop 2 new)) ≡ some p =
      sym (measured-some new (λ e. omega (arith, e, long, some_bytes))) ∙ part-measured parted short puts some_bytes in
      let same : take (length_at new) (drop 2 new) ≡ p = cc in
      ap (λ (k : ℕ). take k (drop 2 new)) (sym long) ∙ same

  joins-put : {m : Made} (l : ℕ) → l ≡ length p → m ≡ made p → Joins m (Length l) new
  joins-put l e is =
      record {
        parted = part-parted parted short puts;
        joins = ap (λ (k : ℕ). made (take k (drop 2 new))) e ∙ ap made bytes_read ∙ sym is;
        tells = λ k d. (part_length parted short puts ∙ sym e ∙ length-same d, omega (arith, length-same d, e, some_bytes));
      }

-- the first program
pub joins-first : (n : ℕ) (t : List ℕ) {p old new : List ℕ} {l : ℕ} → l ≡ length_at old → l ≡ 0 → Parted old → length p ≤ 4854 → 1 ≤ length p → Puts p 0 old new →
    Joins (joined n t (measured_in old) p) (Length (length p)) new
joins-first n t {p} {old} is e parted short some_bytes puts =
    joins-put parted short some_bytes puts (length p) refl (ap (λ (o : Option (List ℕ)). joined n t o p) (measured-none old (sym is ∙ e)))

-- The common part of two records, as the call replies and leaves it.
pub record Common (n : ℕ) (t old p : List ℕ) (r : Reply) (out : List ℕ) : Type 0 where
  pub parted : Parted old
  pub tells : joined n t (measured_in old) p ≡ taken (resulting r out)
  pub least : (l : ℕ) → r ≡ Length l → 1 ≤ l
  pub short : Bounded r 4854
  pub is-long : (l : ℕ) → r ≡ Length l → length (take l out) ≡ l
  pub long : length out ≡ 4854

generalized-call : (n : ℕ) (t list a b out : List ℕ) → accepted n t ≡ true → length list ≡ 0 → generalized_beside n t list a b out ≡ generalizing n t a b out
generalized-call n t list a b out ok empty =
    sym (ap (λ (o : TableAnswer). checked (λ r. refusing r out) o (generalized_beside n t list a b out)) (accepted-opened n t ok)) ∙
    generalizing-plain n t list empty out a b

pub common-part : (n : ℕ) (t list old p : List ℕ) (l : ℕ) (r : Reply) (out : List ℕ) → accepted n t ≡ true → length list ≡ 0 → Parted old →
    l ≡ length_at old → (l ≡ 0 → ⊥) → resulting r out ≡ generalized_beside n t list (take (2 + l - 2) (drop 2 old)) p (replicate 4854 0) →
    Common n t old p r out
unfolding common_part blank
common-part n t list old p l r out ok empty parted is there e =
    let size : 2 + l - 2 ≡ length_at old = omega (arith, is) in
    let part : List ℕ = take (length_at old) (drop 2 old) in
    let told : resulting r out ≡ generalizing n t part p (replicate 4854 0) =
    e ∙ ap (λ (k : ℕ). generalized_beside n t list (take k (drop 2 old)) p (replicate 4854 0)) size ∙
    generalized-call n t list part p (replicate 4854 0) ok empty in
    let fits : Fitting (replicate 4854 0) (generalizing n t part p (replicate 4854 0)) = generalizing-fits (replicate 4854 0) n t part p in
    record {
      parted = parted;
      tells = ap (λ (o : Option (List ℕ)). joined n t o p) (measured-some old (λ z. there (is ∙ z))) ∙ ap taken (sym told);
      least = taken-least told fits;
      short = λ k h. omega (arith, taken-most told fits k h, length-replicate {A = ℕ} 4854 0);
      is-long = taken-length told fits;
      long = taken-long told fits ∙ length-replicate {A = ℕ} 4854 0;
    }

module _ {n : ℕ} {t old p : List ℕ} {r : Reply} {out : List ℕ} (common : Common n t old p r out) where
  pub joins-refused : length_of r ≡ none → Joins (joined n t (measured_in old) p) r old
  joins-refused refused =
      record {
        parted = common.parted;
        joins = none-taken r refused (drop 2 old) ∙ sym (common.tells ∙ none-taken r refused out);
        tells = λ l e. none-some (sym refused ∙ ap length_of e);
      }

  module _ (l : ℕ) (e : r ≡ Length l) where
    pub common-fits : l ≤ length out
    common-fits = omega (arith, common.short l e, common.long)

    pub common-short : length (take l out) ≤ 4854
    common-short = omega (arith, common.short l e, common.is-long l e)

    pub joins-common : {new : List ℕ} → Puts (take l out) 0 old new → Joins (joined n t (measured_in old) p) (Length l) new
    joins-common puts =
        joins-put common.parted common-short (omega (arith, common.least l e, common.is-long l e)) puts l (sym (common.is-long l e))
        (common.tells ∙ ap (λ (q : Reply). taken (resulting q out)) e)
