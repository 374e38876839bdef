-- The queue of pairs: a pair without a number gets the next one and a mark, and a pair with a number keeps it.
use mathlib.Core.Path.{◌≡◌, refl, sym, ◌∙◌, ap}
use mathlib.Core.List.{List}
use Prim.Native.Nat.{ℕ, ◌+◌, ◌<◌}
use native.Mathlib.Decide.{ℕ_discrete}
use native.Mathlib.Omega.{arith}
use lib.ListN.{length, get_or, set, length-set}
use lib.Seq.{get_or-set_same, get_or-set_other}
use Rattle.layout.proofs.Numbering.{number-next}
use Rattle.product.specs.Queue.{clear, Marked, Enlisted}

-- The queue with the first pair alone.
pub mark-root : (marks queue : List ℕ) → length marks ≡ 65025 → length queue ≡ 255 → get_or queue 0 0 ≡ 0 →
    ((p : ℕ) → p < 65025 → get_or marks p 0 ≡ clear) → Marked (set marks 0 0) queue 1
mark-root marks queue marks-long queue_long root none =
    record {
      marks-long = length-set marks 0 0 ∙ marks-long;
      queue_long = queue_long;
      few = omega arith;
      inside = λ i h. let e : i ≡ 0 = omega arith in omega (arith, ap (λ (n : ℕ). get_or queue n 0) e);
      placed = λ i h.
          let e : i ≡ 0 = omega arith in
          ap (λ (n : ℕ). get_or (set marks 0 0) (get_or queue n 0) 0) e ∙ ap (λ (n : ℕ). get_or (set marks 0 0) n 0) root ∙ here ∙ sym e;
      queued = λ p h stands. queued p h stands (ℕ_discrete p 0);
    }
  where
    here : get_or (set marks 0 0) 0 0 ≡ 0
    here = get_or-set_same marks 0 0 0 (omega arith)

    queued : (p : ℕ) → p < 65025 → (get_or (set marks 0 0) p 0 ≡ clear → ⊥) → Dec (p ≡ 0) →
        (get_or (set marks 0 0) p 0 < 1) × (get_or queue (get_or (set marks 0 0) p 0) 0 ≡ p)
    queued p h stands (yes e) =
        let q : get_or (set marks 0 0) p 0 ≡ 0 = ap (λ (n : ℕ). get_or (set marks 0 0) n 0) e ∙ here in
        (omega arith, ap (λ (n : ℕ). get_or queue n 0) q ∙ root ∙ sym e)
    queued p h stands (no d) = absurd (stands (get_or-set_other marks 0 p 0 0 d ∙ none p h))

module _ (marks queue : List ℕ) (pair count : ℕ) (m : Marked marks queue count) (inside : pair < 65025) where
  -- A pair that has a number keeps it.
  pub enlist-old : (get_or marks pair 0 ≡ clear → ⊥) → Enlisted queue pair count marks queue count
  enlist-old stands =
      record {
        after = m;
        least = omega arith;
        kept = λ i h. refl;
        fresh = λ i low high. absurd (omega arith);
        numbered = (m.queued pair inside stands).0;
        found = (m.queued pair inside stands).1;
      }

  -- A pair that has no number gets the next one.
  pub enlist-new : get_or marks pair 0 ≡ clear → count < 255 → Enlisted queue pair count (set marks pair count) (set queue count pair) (count + 1)
  enlist-new free room =
      record {
        after = record {
          marks-long = length-set marks pair count ∙ m.marks-long;
          queue_long = length-set queue count pair ∙ m.queue_long;
          few = omega arith;
          inside = λ i h. inside-at i h (ℕ_discrete i count);
          placed =
              number-next marks queue pair count (omega (arith, m.marks-long)) (omega (arith, m.queue_long)) (λ h. omega (arith, free)) m.placed;
          queued = λ p h stands. queued p h stands (ℕ_discrete p pair);
        };
        least = omega arith;
        kept = λ i h. queue-kept i (λ e. omega arith);
        fresh = λ i low high. let e : i ≡ count = omega arith in ap (λ (n : ℕ). get_or (set queue count pair) n 0) e ∙ queue-here;
        numbered = omega (arith, mark-here);
        found = ap (λ (n : ℕ). get_or (set queue count pair) n 0) mark-here ∙ queue-here;
      }
    where
      mark-here : get_or (set marks pair count) pair 0 ≡ count
      mark-here = get_or-set_same marks pair count 0 (omega (arith, m.marks-long))

      queue-here : get_or (set queue count pair) count 0 ≡ pair
      queue-here = get_or-set_same queue count pair 0 (omega (arith, m.queue_long))

      queue-kept : (i : ℕ) → (i ≡ count → ⊥) → get_or (set queue count pair) i 0 ≡ get_or queue i 0
      queue-kept i d = get_or-set_other queue count i pair 0 d

      mark-kept : (p : ℕ) → (p ≡ pair → ⊥) → get_or (set marks pair count) p 0 ≡ get_or marks p 0
      mark-kept p d = get_or-set_other marks pair p count 0 d

      inside-at : (i : ℕ) → i < count + 1 → Dec (i ≡ count) → get_or (set queue count pair) i 0 < 65025
      inside-at i h (yes e) = omega (arith, ap (λ (n : ℕ). get_or (set queue count pair) n 0) e, queue-here)
      inside-at i h (no d) = omega (arith, queue-kept i d, m.inside i (omega arith))

      queued : (p : ℕ) → p < 65025 → (get_or (set marks pair count) p 0 ≡ clear → ⊥) → Dec (p ≡ pair) →
          (get_or (set marks pair count) p 0 < count + 1) × (get_or (set queue count pair) (get_or (set marks pair count) p 0) 0 ≡ p)
      queued p h stands (yes e) =
          let q : get_or (set marks pair count) p 0 ≡ count = ap (λ (n : ℕ). get_or (set marks pair count) n 0) e ∙ mark-here in
          (omega arith, ap (λ (n : ℕ). get_or (set queue count pair) n 0) q ∙ queue-here ∙ sym e)
      queued p h stands (no d) =
          let q : get_or (set marks pair count) p 0 ≡ get_or marks p 0 = mark-kept p d in
          let (low, back) = m.queued p h (λ z. stands (q ∙ z)) in (
            omega arith,
            ap (λ (n : ℕ). get_or (set queue count pair) n 0) q ∙ queue-kept (get_or marks p 0) (λ z. omega arith) ∙ back,
          )
