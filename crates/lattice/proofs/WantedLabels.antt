-- The wanted label of p over q, for p below q, is the greatest label of the table whose meet with q is p. Its type, lowest and highest level
-- are found apart, and there is always a wanted level.
use Prim.Native.Nat.{ℕ, ◌-◌, ◌<◌, ◌≤◌, min, max}
use mathlib.Core.Path.{◌≡◌, refl, sym, ap, subst, ◌∙◌}
use mathlib.Core.Bool.{Bool, true, false, cond}
use mathlib.Core.List.{List}
use mathlib.Core.Logic.{◌↔◌, ◌⊎◌, inl, inr, ⊎_elim}
use mathlib.Core.Option.{Option, none, some, map}
use native.Mathlib.Omega.{arith}
use lib.Dec.{eqb}
use borrow.Author.Tests.{eqb-true, eqb-false}
use Rattle.graphs.specs.Graph.{Graph}
use Rattle.graphs.specs.Difference.{IsWanted}
use Rattle.graphs.proofs.Walk.{some-injective, none-some}
use Rattle.lattice.specs.Label.{Label, plain}
use Rattle.lattice.specs.Table.{accepted, meet, cell, wanted}
use Rattle.lattice.specs.Labels.{table_labels, Known, wanted_level, wanted_range, wanted_label, MeetOver, WantedAt}
use Rattle.lattice.proofs.Laws.{Wanted, wanted-sound, wanted-unique, wanted-by-top}
use Rattle.lattice.proofs.Lawful.{
  KnownLabel,
  label-path,
  label-parts,
  inside,
  inside-le,
  type-meet,
  lawful,
  meet-label,
  le-antisymmetric,
}

-- c is the greatest label of the table whose meet with q is p
pub record IsWantedLabel (n : ℕ) (t : List ℕ) (p q c : Label) : Type 0 where
  pub known : Known n c
  pub restores : (table_labels n t).meet c q ≡ p
  pub greatest : (d : Label) → Known n d → (table_labels n t).meet d q ≡ p → (table_labels n t).le d c ≡ true

-- Levels.

level-cases : (widest p q : ℕ) → ((p ≡ q) × (wanted_level widest p q ≡ widest)) ⊎ ((p ≡ q → ⊥) × (wanted_level widest p q ≡ p))
level-cases widest p q = go (eqb p q) refl
  where
    go : (b : Bool) → eqb p q ≡ b → ((p ≡ q) × (cond b widest p ≡ widest)) ⊎ ((p ≡ q → ⊥) × (cond b widest p ≡ p))
    go true e = inl (eqb-true p q e, refl)
    go false e = inr (eqb-false p q e, refl)

-- a wanted level is one of both
level-most : (widest p q m : ℕ) → widest ≤ m → p ≤ m → wanted_level widest p q ≤ m
level-most widest p q m a b =
    ⊎_elim (λ (_, e). subst (λ (x : ℕ). x ≤ m) (sym e) a) (λ (_, e). subst (λ (x : ℕ). x ≤ m) (sym e) b) (level-cases widest p q)

-- the wanted lowest level restores, and is the least that does
lowest-restores : (p q : ℕ) → q ≤ p → max (wanted_level 0 p q) q ≡ p
lowest-restores p q l =
    ⊎_elim (λ (e, w). ap (λ (x : ℕ). max x q) w ∙ omega arith) (λ (_, w). ap (λ (x : ℕ). max x q) w ∙ omega arith) (level-cases 0 p q)

lowest-least : (p q d : ℕ) → max d q ≡ p → wanted_level 0 p q ≤ d
lowest-least p q d e =
    ⊎_elim (λ (_, w). subst (λ (x : ℕ). x ≤ d) (sym w) (omega arith)) (λ (f, w). subst (λ (x : ℕ). x ≤ d) (sym w) (omega arith))
    (level-cases 0 p q)

-- the wanted highest level restores, and is the greatest that does
highest-restores : (p q : ℕ) → p ≤ q → p ≤ 255 → min (wanted_level 255 p q) q ≡ p
highest-restores p q l m =
    ⊎_elim (λ (e, w). ap (λ (x : ℕ). min x q) w ∙ omega arith) (λ (_, w). ap (λ (x : ℕ). min x q) w ∙ omega arith)
    (level-cases 255 p q)

highest-greatest : (p q d : ℕ) → d ≤ 255 → min d q ≡ p → d ≤ wanted_level 255 p q
highest-greatest p q d l e =
    ⊎_elim (λ (_, w). subst (λ (x : ℕ). d ≤ x) (sym w) l) (λ (f, w). subst (λ (x : ℕ). d ≤ x) (sym w) (omega arith))
    (level-cases 255 p q)

module _ (n : ℕ) (t : List ℕ) (ok : accepted n t ≡ true) where
  module _ (p q : Label) (k : Known n p) (l : Known n q) (under : (table_labels n t).le p q ≡ true) where
    restores-of-type : (c : ℕ) → meet n t c q.type ≡ some p.type → (table_labels n t).meet (wanted_range p q c) q ≡ p
    restores-of-type c e =
        let i = inside n t p q under in
        label-parts (ap cell e) (lowest-restores p.lowest q.lowest i.lowest)
        (highest-restores p.highest q.highest i.highest k.highest)

    known-of-type : (c : ℕ) → c < n → Known n (wanted_range p q c)
    known-of-type c s =
        record {
          type = s;
          lowest = level-most 0 p.lowest q.lowest 255 (omega arith) k.lowest;
          highest = level-most 255 p.highest q.highest 255 (omega arith) k.highest;
        }

    type-restores : (d : Label) → Known n d → (table_labels n t).meet d q ≡ p → meet n t d.type q.type ≡ some p.type
    type-restores d m e = (type-meet n t ok d q m l).is ∙ ap (λ (x : Label). some x.type) e

    wanted-of-type : (c : ℕ) → wanted n t p.type q.type ≡ some c → IsWantedLabel n t p q (wanted_range p q c)
    wanted-of-type c e =
        let w : Wanted n t p.type q.type c = wanted-sound n t ok p.type q.type c l.type e in
        record {
          known = known-of-type c w.type;
          restores = restores-of-type c w.exact;
          greatest = λ d m f.
              inside-le n t d (wanted_range p q c)
              (record {
                type = w.greatest d.type m.type (type-restores d m f);
                lowest = lowest-least p.lowest q.lowest d.lowest (ap (λ (x : Label). x.lowest) f);
                highest = highest-greatest p.highest q.highest d.highest m.highest (ap (λ (x : Label). x.highest) f);
              });
        }

    -- The wanted label is the greatest label whose meet with q is p.
    pub wanted-label : (c : Label) → (wanted_label n t p q ≡ some c) ↔ IsWantedLabel n t p q c
    unfolding wanted_label
    wanted-label c = (go (wanted n t p.type q.type) refl, back)
      where
        go : (o : Option ℕ) → wanted n t p.type q.type ≡ o → map (wanted_range p q) o ≡ some c → IsWantedLabel n t p q c
        go none e f = none-some f
        go (some a) e f = subst (IsWantedLabel n t p q) (some-injective f) (wanted-of-type a e)

        back : IsWantedLabel n t p q c → map (wanted_range p q) (wanted n t p.type q.type) ≡ some c
        back w =
            let e : wanted n t p.type q.type ≡ some c.type =
            wanted-unique n t ok p.type q.type c.type l.type w.known.type (type-restores c w.known w.restores)
            (λ d s f. (inside n t (wanted_range p q d) c (w.greatest (wanted_range p q d) (known-of-type d s) (restores-of-type d f))).type) in
            let i = wanted-of-type c.type e in
            ap (map (wanted_range p q)) e ∙
            ap some
            (le-antisymmetric n t ok (wanted_range p q c.type) c i.known w.known (w.greatest (wanted_range p q c.type) i.known i.restores)
            (i.greatest c w.known w.restores))

  -- where q is the greatest label, the wanted label is p
  pub wanted-label-by-top : (p : Label) → Known n p → wanted_label n t p (plain (n - 1)) ≡ some p
  unfolding wanted_label
  wanted-label-by-top p k =
      ap (map (wanted_range p (plain (n - 1)))) (wanted-by-top n t ok p.type k.type) ∙
      ap some (label-parts refl (same 0 p.lowest) (same 255 p.highest))
    where
      same : (widest a : ℕ) → wanted_level widest a widest ≡ a
      same widest a = ⊎_elim (λ (e, w). w ∙ sym e) (λ (_, w). w) (level-cases widest a widest)

  -- the wanted label of a table is that of its lattice of labels
  pub lawful-wanted : (q p c : KnownLabel n) → (table_labels n t).le p.0 q.0 ≡ true → wanted_label n t p.0 q.0 ≡ some c.0 →
      IsWanted (lawful n t ok) q p c
  lawful-wanted q p c under e =
      let w = (wanted-label p.0 q.0 p.1 q.1 under c.0).0 e in
      record {
        restores = label-path (meet-label n t ok c q ∙ w.restores);
        greatest = λ d f. w.greatest d.0 d.1 (sym (meet-label n t ok d q) ∙ ap (λ (x : KnownLabel n). x.0) f);
      }

  -- The wanted label of a node, by the meet over it.
  module _ {A B : Type 0} (s : Graph Label A) (g : Graph Label B) (v : A) where
    -- there is one meet over a node
    pub meet-over-unique : (q r : Label) → MeetOver n t s g v q → MeetOver n t s g v r → q ≡ r
    meet-over-unique q r a b =
        le-antisymmetric n t ok q r a.known b.known (b.greatest q a.known a.under) (a.greatest r b.known b.under)

    pub wanted-at : (q : Label) → MeetOver n t s g v q → Known n (s.label v) → (table_labels n t).le (s.label v) q ≡ true → (c : Label) →
        (wanted_label n t (s.label v) q ≡ some c) ↔ WantedAt n t s g v c
    wanted-at q is k under c = (
      λ e.
          let w = (wanted-label (s.label v) q k is.known under c).0 e in
          record { over = q; is-over = is; known = w.known; restores = w.restores; greatest = w.greatest },
      λ w.
          let same : w.over ≡ q = meet-over-unique w.over q w.is-over is in
          (wanted-label (s.label v) q k is.known under c).1
          (subst (λ (r : Label). IsWantedLabel n t (s.label v) r c) same
          (record { known = w.known; restores = w.restores; greatest = w.greatest })),
    )
