-- The reasons at the places of links, one link after another and one row after another. The feature of a kept link finds its place in s.
use mathlib.Core.Path.{◌≡◌, refl, sym, ◌∙◌, ap, subst}
use mathlib.Core.Bool.{Bool, cond}
use mathlib.Core.List.{List}
use mathlib.Core.Logic.{⊎_elim}
use Prim.Native.Nat.{ℕ, ◌+◌, ◌≤◌, ◌<◌}
use native.Mathlib.Decide.{ℕ_discrete, dec_lt}
use native.Mathlib.Nat.{lt_irrefl, lt_trans}
use native.Mathlib.Omega.{arith}
use borrow.Author.Tests.{eq-eqb, ne_eqb}
use lib.Dec.{eqb}
use lib.ListN.{length, get_or, set, length-set}
use lib.Seq.{get_or-set_same, get_or-set_other}
use Rattle.layout.specs.Layout.{longest, size, links_from, row_end, feature_at, Place, rows_end}
use Rattle.layout.specs.Builder.{Same}
use Rattle.layout.proofs.Order.{earlier-row, one-feature, place-rises}
use Rattle.subsume.specs.Following.{Sought}
use Rattle.keeping.specs.Keeping.{Cause, Grown, Markable}
use Rattle.reasons.specs.Explaining.{Copied, Explains, ExplainsRow, RowExplained, reason_by, reason_of}
use Rattle.keeping.proofs.Thinning.{copied-feature}
use Rattle.keeping.proofs.Keeping.{PlaceKnown, place-known}

-- The number of a reason.

module _ (mark meeting : ℕ) where
  pub reason-one : mark ≡ 2 → reason_of mark meeting ≡ 1
  unfolding reason_of
  reason-one e = ap (λ (b : Bool). cond b 1 (cond (eqb meeting 1) 2 3)) (eq-eqb mark 2 e)

  module _ (other : mark ≡ 2 → ⊥) where
    pub reason-two : meeting ≡ 1 → reason_of mark meeting ≡ 2
    unfolding reason_of
    reason-two e =
        ap (λ (b : Bool). cond b 1 (cond (eqb meeting 1) 2 3)) (ne_eqb mark 2 other)
        ∙ ap (λ (b : Bool). cond b 2 3) (eq-eqb meeting 1 e)

    pub reason-three : (meeting ≡ 1 → ⊥) → reason_of mark meeting ≡ 3
    unfolding reason_of
    reason-three d =
        ap (λ (b : Bool). cond b 1 (cond (eqb meeting 1) 2 3)) (ne_eqb mark 2 other)
        ∙ ap (λ (b : Bool). cond b 2 3) (ne_eqb meeting 1 d)

-- One row.

-- At place k of v's row. The places of v's row in s before j are passed.
pub record Turning (s marks meeting words : List ℕ) (v : ℕ) (old reasons : List ℕ) (j k : ℕ) : Type 0 where
  pub ready : Markable s marks meeting
  pub copied : Copied s words
  pub inside : v < size s
  pub s-low : links_from s v ≤ j
  pub s-high : j ≤ row_end s v
  pub low : links_from words v ≤ k
  pub high : k ≤ row_end words v
  pub passed : (m : ℕ) → links_from s v ≤ m → m < j → k < row_end words v → feature_at s m < feature_at words k
  pub long : length reasons ≡ longest
  pub kept : Same old reasons 0 (links_from words v)
  pub row : RowExplained s marks meeting words v k reasons

in_words : {s words : List ℕ} {v : ℕ} → Copied s words → v < size s → v < size words
in_words c h = omega (arith, c.sized)

module _ {s marks meeting words : List ℕ} {v : ℕ} where
  pub explain-start : {reasons : List ℕ} → Markable s marks meeting → Copied s words → v < size s → length reasons ≡ longest →
      Turning s marks meeting words v reasons reasons (links_from s v) (links_from words v)
  explain-start r c h l =
      record {
        ready = r;
        copied = c;
        inside = h;
        s-low = omega arith;
        s-high = (r.sound.shaped.node v h).begun;
        low = omega arith;
        high = (c.sound.shaped.node v (in_words c h)).begun;
        passed = λ m a b. absurd (omega arith);
        long = l;
        kept = λ i a b. refl;
        row = λ i j p b. absurd (omega (arith, p.low));
      }

  module _ {old reasons : List ℕ} {j k : ℕ} (t : Turning s marks meeting words v old reasons j k) where
    pub explain-done : row_end words v ≤ k → ExplainsRow s marks meeting words v old reasons
    explain-done h =
        record { long = t.long; kept = t.kept; row = λ i j p l. t.row i j p (omega (arith, p.high)) }

    module _ (more : k < row_end words v) where
      here : Place words v k
      here = record { inside = in_words t.copied t.inside; low = t.low; high = more }

      pub explain-room : k < longest
      explain-room =
          omega (arith, t.copied.long, (t.copied.sound.shaped.node v here.inside).ended, t.ready.short)

      pub explain-inside : k < length words
      explain-inside = omega (arith, (t.copied.sound.shaped.node v here.inside).ended)

      pub explain-known : feature_at words k < 64
      explain-known = t.copied.sound.shaped.known v k here.inside t.low more

      module _ {r : ℕ} (sought : Sought s j (row_end s v) (feature_at words k) r) where
        -- The place that is found in s is the place from which the link is copied.
        is-source : (p : ℕ) → Place s v p → feature_at s p ≡ feature_at words k → r ≡ p
        is-source p place e = go (dec_lt p j) (dec_lt p r) (dec_lt r p)
          where
            go : Dec (p < j) → Dec (p < r) → Dec (r < p) → r ≡ p
            go (yes h) x y = absurd (lt_irrefl (feature_at words k) (subst (λ (f : ℕ). f < feature_at words k) e (t.passed p place.low h more)))
            go (no h) (yes x) y =
                absurd (lt_irrefl (feature_at words k) (subst (λ (f : ℕ). f < feature_at words k) e (sought.before p (omega arith) x)))
            go (no h) (no x) (yes y) =
                let low : Place s v r =
                record { inside = t.inside; low = omega (arith, t.s-low, sought.low); high = omega (arith, place.high) } in
                absurd (below-not (sought.found (omega (arith, place.high))) (rises (place-rises t.ready.sound.shaped low place y)))
              where
                below-not : {a b : ℕ} → a ≤ b → b < a → ⊥
                below-not h l = omega arith

                rises : feature_at s r < feature_at s p → feature_at s r < feature_at words k
                rises l = subst (λ (f : ℕ). feature_at s r < f) e l
            go (no h) (no x) (no y) = omega arith

        source : Place s v r × (get_or words k 0 ≡ get_or s r 0)
        source =
            let (p, place, e) = t.copied.from-s v k here in
            let q = is-source p place (sym (copied-feature e)) in
            (subst (Place s v) (sym q) place, e ∙ ap (λ (i : ℕ). get_or s i 0) (sym q))

        pub explain-place : PlaceKnown s v r
        explain-place = place-known t.ready t.inside source.0.low source.0.high

        pub explain-more : {new : List ℕ} → new ≡ set reasons k (reason_by s marks meeting r) →
            Turning s marks meeting words v old new r (k + 1)
        explain-more e =
            subst (λ (new : List ℕ). Turning s marks meeting words v old new r (k + 1)) (sym e)
            (record {
              ready = t.ready;
              copied = t.copied;
              inside = t.inside;
              s-low = source.0.low;
              s-high = omega (arith, source.0.high);
              low = omega (arith, t.low);
              high = omega arith;
              passed = λ m a b h.
                  lt_trans
                  (rises (place-rises t.ready.sound.shaped (record { inside = t.inside; low = a; high = omega (arith, source.0.high) }) source.0 b))
                  (t.copied.sound.shaped.ascending v k here.inside t.low h);
              long = length-set reasons k (reason_by s marks meeting r) ∙ t.long;
              kept = λ i a b.
                  get_or-set_other reasons k i (reason_by s marks meeting r) 0 (λ q. omega (arith, t.low)) ∙ t.kept i a b;
              row = λ i p a b place q. row i p a b place q (ℕ_discrete i k);
            })
          where
            rises : {f : ℕ} → f < feature_at s r → f < feature_at words k
            rises {f} l = subst (λ (x : ℕ). f < x) (sym (copied-feature source.1)) l

            row : (i p : ℕ) → Place words v i → i < k + 1 → Place s v p → get_or words i 0 ≡ get_or s p 0 → Dec (i ≡ k) →
                get_or (set reasons k (reason_by s marks meeting r)) i 0 ≡ reason_by s marks meeting p
            row i p a b place q (yes z) =
                ap (λ (x : ℕ). get_or (set reasons k (reason_by s marks meeting r)) x 0) z
                ∙ get_or-set_same reasons k (reason_by s marks meeting r) 0 (omega (arith, t.long, explain-room))
                ∙ ap (reason_by s marks meeting)
                (one-feature t.ready.sound.shaped source.0 place
                (copied-feature (sym source.1 ∙ ap (λ (x : ℕ). get_or words x 0) (sym z) ∙ q)))
            row i p a b place q (no d) =
                get_or-set_other reasons k i (reason_by s marks meeting r) 0 d ∙ t.row i p a (omega arith) place q

-- All rows.

-- The rows before v have their reasons.
pub record Explaining (s marks meeting words : List ℕ) (v : ℕ) (reasons : List ℕ) : Type 0 where
  pub ready : Markable s marks meeting
  pub copied : Copied s words
  pub high : v ≤ size s
  pub long : length reasons ≡ longest
  pub each : (u : ℕ) → u < v → RowExplained s marks meeting words u (row_end words u) reasons

module _ {s marks meeting words : List ℕ} where
  pub rows-begin : {reasons : List ℕ} → Markable s marks meeting → Copied s words → length reasons ≡ longest →
      Explaining s marks meeting words 0 reasons
  rows-begin r c l =
      record { ready = r; copied = c; high = omega arith; long = l; each = λ u h. absurd (omega arith) }

  pub rows_more : {v : ℕ} {reasons new : List ℕ} → Explaining s marks meeting words v reasons → v < size s →
      ExplainsRow s marks meeting words v reasons new → Explaining s marks meeting words (v + 1) new
  rows_more {v} {reasons} {new} t h x =
      record { ready = t.ready; copied = t.copied; high = omega arith; long = x.long; each = λ u l. each u l (ℕ_discrete u v) }
    where
      each : (u : ℕ) → u < v + 1 → Dec (u ≡ v) → RowExplained s marks meeting words u (row_end words u) new
      each u l (yes e) = subst (λ (w : ℕ). RowExplained s marks meeting words w (row_end words w) new) (sym e) x.row
      each u l (no d) = λ i j p b place q.
          x.kept i (omega arith)
          (omega (arith, earlier-row t.copied.sound.shaped u v i (omega arith) (omega (arith, t.copied.sized)) b))
          ∙ t.each u (omega arith) i j p b place q

  pub rows-explained : {v : ℕ} {none reasons : List ℕ} → Explaining s marks meeting words v reasons → size s ≤ v →
      Grown (Cause s marks (rows_end s)) none meeting → ((u : ℕ) → u < 255 → get_or none u 0 ≡ 0) → Explains s marks words reasons
  rows-explained {none = none} t h grown empty =
      record {
        long = t.long;
        meeting = meeting;
        meets = λ u l. (
          λ e. ⊎_elim (λ (z : get_or none u 0 ≡ 1). absurd (omega (arith, empty u l))) (λ (x : Cause s marks (rows_end s) u). x) (grown.why u l e),
          λ x. grown.found u l x,
        );
        each = λ v i j p place q. t.each v (omega (arith, place.inside)) i j p p.high place q;
      }
