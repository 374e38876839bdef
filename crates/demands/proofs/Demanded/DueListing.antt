-- The replies of a call of the listing (document 02, Paper 14), each exactly where it is due.
use mathlib.Core.Path.{◌≡◌, refl, sym, ◌∙◌, ap, subst}
use mathlib.Core.Bool.{Bool, true, false, cond}
use mathlib.Core.List.{List, ◌++◌}
use mathlib.Core.Logic.{◌↔◌}
use Prim.Native.Nat.{ℕ, ◌*◌, ◌≤◌}
use borrow.Author.Tests.{leb-true, leb-false, le-leb, lt-leb}
use lib.Dec.{leb}
use lib.ListN.{length, drop}
use Rattle.std.specs.Prelude.{Ok, Err}
use Rattle.lattice.proofs.Laws.{accepted-size}
use Rattle.acceptance.specs.Reply.{opened}
use Rattle.acceptance.proofs.Acceptance.{opened-accepted}
use Rattle.encode.specs.declared.Unwritten.TheVariants as unwritten
use Rattle.encode.specs.Encode.{fitted, yielding}
use Rattle.replies.specs.Replies.{Reply}
use Rattle.replies.specs.Reply.{Result, result_of}
use Rattle.listed.proofs.Theorems as Lists
use Rattle.listing.specs.Call.{stepping}
use Rattle.listing.proofs.Theorems as Steps
use Rattle.demands.specs.Due.{Stepping, StepDue}
use Rattle.demands.specs.Due as due

module _ (n : ℕ) (t : List ℕ) (F : ℕ) (bytes out : List ℕ) where
  size : opened n t ≡ Ok tt → (2 ≤ n) × (n ≤ 64) × (length t ≡ 8 * n)
  size opens = accepted-size n t (opened-accepted n t (Ok tt) (sym opens) refl)

  -- the record of new bytes, by whether it fits
  abbrev fitted_by : List ℕ → Bool → Result
  fitted_by new b = result_of (cond b (yielding (Ok (length new)) (new ++ drop (length new) out)) (yielding (Err unwritten.NoRoom) out))

  step-due : StepDue n t F bytes (length out) (stepping n t F bytes out).reply
  unfolding fitted
  step-due = go (Steps.told n t F bytes out)
    where
      to : {x : Result} → stepping n t F bytes out ≡ x → StepDue n t F bytes (length out) x.reply →
          StepDue n t F bytes (length out) (stepping n t F bytes out).reply
      to e d = subst (λ (y : Result). StepDue n t F bytes (length out) y.reply) (sym e) d

      go : Steps.Told n t F bytes out → StepDue n t F bytes (length out) (stepping n t F bytes out).reply
      go (Steps.bad-table fault i e) = to e (due.table fault i)
      go (Steps.bad-record fault opens some_byte reads e) = to e (due.graph fault opens some_byte reads)
      go (Steps.bad-count opens read other e) = to e (due.features opens read other)
      go (Steps.not_listed rows opens count some_byte reads never e) = to e (due.not_listed rows opens count some_byte reads never)
      go (Steps.at-end opens count begun ends e) =
          to e
          (due.end (record { opens = opens; features = count; begun = begun })
          ((Lists.following-end n F (size opens).0 (size opens).1 count bytes).0 ends))
      go (Steps.at-record new opens count begun follows e) = to e (room (leb (length new) (length out)) refl)
        where
          steps : Stepping n t F bytes
          steps = record { opens = opens; features = count; begun = begun }

          room : (b : Bool) → leb (length new) (length out) ≡ b → StepDue n t F bytes (length out) (fitted_by new b).reply
          room true q =
              due.fits new steps ((Lists.following-least n F (size opens).0 (size opens).1 count bytes new).0 follows)
              (leb-true (length new) (length out) q)
          room false q =
              due.no_room new steps ((Lists.following-least n F (size opens).0 (size opens).1 count bytes new).0 follows)
              (leb-false (length new) (length out) q)

  step-replies : {r : Reply} → StepDue n t F bytes (length out) r → (stepping n t F bytes out).reply ≡ r
  unfolding fitted
  step-replies (due.table fault i) = ap (λ (y : Result). y.reply) (Steps.table-refused n t F bytes out fault i)
  step-replies (due.graph fault opens some_byte reads) =
      ap (λ (y : Result). y.reply) (Steps.record-refused n t F bytes out opens fault some_byte reads)
  step-replies (due.features opens read other) = ap (λ (y : Result). y.reply) (Steps.count-refused n t F bytes out opens read other)
  step-replies (due.not_listed rows opens count some_byte reads never) =
      ap (λ (y : Result). y.reply) (Steps.unlisted-refused n t F bytes out opens count rows reads some_byte never)
  step-replies (due.end steps ends) =
      ap (λ (y : Result). y.reply) (Steps.end-given n t F bytes out steps.opens steps.features steps.begun ends)
  step-replies (due.no_room new steps least less) =
      ap (λ (y : Result). y.reply) (Steps.next-given n t F bytes out steps.opens steps.features steps.begun new least) ∙
      ap (λ (b : Bool). (fitted_by new b).reply) (lt-leb (length new) (length out) less)
  step-replies (due.fits new steps least fit) =
      ap (λ (y : Result). y.reply) (Steps.next-given n t F bytes out steps.opens steps.features steps.begun new least) ∙
      ap (λ (b : Bool). (fitted_by new b).reply) (le-leb (length new) (length out) fit)

  pub step-exact : (r : Reply) → ((stepping n t F bytes out).reply ≡ r) ↔ StepDue n t F bytes (length out) r
  step-exact r = (λ e. subst (StepDue n t F bytes (length out)) e step-due, step-replies)
