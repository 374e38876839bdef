-- How a program is restored: the common part combined with a difference is put into the slot of its version.
use mathlib.Core.Path.{◌≡◌, refl, sym, ◌∙◌, ap}
use mathlib.Core.Bool.{true, false}
use mathlib.Core.List.{List}
use Prim.Native.Nat.{ℕ, ◌*◌, ◌≤◌, ◌<◌}
use native.Mathlib.Omega.{arith}
use lib.ListN.{length, take, replicate}
use Rattle.graphs.proofs.Search.{true-false}
use Rattle.lattice.specs.Table.{accepted}
use Rattle.acceptance.specs.Reply.{TableAnswer}
use Rattle.acceptance.proofs.Acceptance.{accepted-opened}
use Rattle.replies.specs.Replies.{Reply}
use Rattle.replies.specs.Replies.{Length}
use Rattle.replies.specs.Reply.{resulting, refusing}
use Rattle.engine.specs.Unifying.{unified_beside}
use Rattle.calls.specs.Calls.{checked, unifying}
use Rattle.calls.proofs.Beside.{unifying-plain}
use Rattle.versions.specs.State.{record_in, blank, combination}
use Rattle.versions.specs.Slots.{Absent}
use Rattle.versions.specs.Promise.{Puts, Restores}
use Rattle.versions.proofs.SlotLaws.{put-slot, put-absent}
use Rattle.versions.proofs.Written.{length-blank, unifying-fits, taken_made, taken-stopped, taken-least, taken-most, taken-long, taken-length}

-- Over an accepted table and without a list, combining two records is the call `unifying`.
unified-call : (n : ℕ) (t list a b out : List ℕ) → accepted n t ≡ true → length list ≡ 0 → unified_beside n t list a b out ≡ unifying n t a b out
unified-call n t list a b out ok empty =
    sym (ap (λ (o : TableAnswer). checked (λ r. refusing r out) o (unified_beside n t list a b out)) (accepted-opened n t ok)) ∙
    unifying-plain n t list empty out a b

module _ (n : ℕ) (t list a b : List ℕ) {reply : Reply} {new : List ℕ} (ok : accepted n t ≡ true) (empty : length list ≡ 0)
    (is : resulting reply new ≡ unified_beside n t list a b (replicate 4854 0)) where
  combines : resulting reply new ≡ unifying n t a b blank
  unfolding blank
  combines = is ∙ unified-call n t list a b (replicate 4854 0) ok empty

  pub restored-least : (l : ℕ) → reply ≡ Length l → 1 ≤ l
  restored-least = taken-least combines (unifying-fits blank n t a b)

  pub restored-most : (l : ℕ) → reply ≡ Length l → l ≤ 4854
  restored-most l e = omega (arith, taken-most combines (unifying-fits blank n t a b) l e, length-blank)

  pub restored-inside : (l : ℕ) → reply ≡ Length l → l ≤ length new
  restored-inside l e = omega (arith, restored-most l e, taken-long combines (unifying-fits blank n t a b), length-blank)

  pub restored-length : (l : ℕ) → reply ≡ Length l → length (take l new) ≡ l
  restored-length = taken-length combines (unifying-fits blank n t a b)

  module _ {v : ℕ} {slots : List ℕ} (absent : Absent slots v) where
    pub not-restored : ((l : ℕ) → reply ≡ Length l → ⊥) → Restores (combination n t a b) v slots false slots
    unfolding combination
    not-restored other =
        record {
          slotted = absent.slotted;
          restores = λ e. true-false e refl;
          fails = λ e. ap record_in (taken-stopped combines other);
        }

    pub is-restored : v < 16 → (l : ℕ) → reply ≡ Length l → {after : List ℕ} → Puts (take l new) (v * 4856) slots after →
        Restores (combination n t a b) v slots true after
    unfolding combination
    is-restored inside l e puts =
        let short : length (take l new) ≤ 4854 = omega (arith, restored-length l e, restored-most l e) in
        let put = put-slot absent.slotted inside short puts (omega (arith, restored-length l e, restored-least l e)) in
        record {
          slotted = put.0;
          restores = λ d. (take l new, taken_made combines l e, put.1, put-absent absent.slotted inside short puts absent);
          fails = λ d. true-false refl d;
        }
