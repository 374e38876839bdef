-- This file is about graphs that a relation of their nodes shows to be alike: related nodes have equal labels, and equal features lead to
-- related nodes or to none. Such graphs have the same meaning, and graphs of the same meaning are related so, by the nodes that one path
-- leads to. A relation serves where no map can be had: it asks nothing of nodes that no path reaches.
use mathlib.Core.Path.{◌≡◌, refl, sym, ◌∙◌, ap, subst}
use mathlib.Core.List.{List, [], ◌∷◌, ◌++◌}
use mathlib.Core.Option.{Option, none, some}
use Prim.Native.Nat.{ℕ}
use Rattle.graphs.specs.Label.{Labels}
use Rattle.graphs.specs.Graph.{Graph, step, follow, walk, Corefer, SameMeaning}
use Rattle.graphs.specs.Relations.{LiesOver}
use Rattle.graphs.proofs.Walk.{some-injective, none-some, follow-snoc, follow-nil}

-- both missing, or both there and related
pub data Alike {A B : Type 0} (R : A → B → Type 0) : Option A → Option B → Type 0 where
  absent : Alike R none none
  present : {v : A} {w : B} → R v w → Alike R (some v) (some w)

pub record Bisimilar {L A B : Type 0} (R : A → B → Type 0) (g : Graph L A) (h : Graph L B) : Type 0 where
  pub root : R g.root h.root
  pub labels : (v : A) (w : B) → R v w → g.label v ≡ h.label w
  pub links : (v : A) (w : B) (f : ℕ) → R v w → Alike R (g.link v f) (h.link w f)
  pub forth : (v v' : A) (w w' : B) → R v w → R v' w' → v ≡ v' → w ≡ w'
  pub back : (v v' : A) (w w' : B) → R v w → R v' w' → w ≡ w' → v ≡ v'

-- what is there on one side is there on the other, and related
pub alike-left : {A B : Type 0} {R : A → B → Type 0} {x : Option A} {y : Option B} {v : A} → Alike R x y → x ≡ some v →
    (w : B) × (y ≡ some w) × R v w
alike-left absent e = none-some e
alike-left {R = R} (present {w = w} r) e = (w, refl, subst (λ u. R u w) (some-injective e) r)

pub alike_right : {A B : Type 0} {R : A → B → Type 0} {x : Option A} {y : Option B} {w : B} → Alike R x y → y ≡ some w →
    (v : A) × (x ≡ some v) × R v w
alike_right absent e = none-some e
alike_right {R = R} (present {v = v} r) e = (v, refl, subst (λ u. R v u) (some-injective e) r)

module _ {L A B : Type 0} (R : A → B → Type 0) (g : Graph L A) (h : Graph L B) (b : Bisimilar R g h) where
  alike-step : (x : Option A) (y : Option B) (f : ℕ) → Alike R x y → Alike R (step g.link x f) (step h.link y f)
  alike-step none (some w) f x3 = elim x3 [ ]
  alike-step (some v) none f x4 = elim x4 [ ]
  alike-step none none f absent = absent
  alike-step (some v) (some w) f (present r) = b.links v w f r

  alike-follow : (p : List ℕ) (x : Option A) (y : Option B) → Alike R x y → Alike R (follow g.link x p) (follow h.link y p)
  unfolding follow
  alike-follow [] x y r = r
  alike-follow (f ∷ p) x y r = alike-follow p (step g.link x f) (step h.link y f) (alike-step x y f r)

  pub alike-walk : (p : List ℕ) → Alike R (walk g p) (walk h p)
  alike-walk p = alike-follow p (some g.root) (some h.root) (present b.root)

  corefer-forth : (p q : List ℕ) → Corefer g p q → Corefer h p q
  corefer-forth p q c =
      let (w, hp, r) = alike-left (alike-walk p) c.1 in
      let (w', hq, r') = alike-left (alike-walk q) c.2 in
      (w, hp, hq ∙ ap some (sym (b.forth c.0 c.0 w w' r r' refl)))

  corefer-back : (p q : List ℕ) → Corefer h p q → Corefer g p q
  corefer-back p q c =
      let (v, gp, r) = alike_right (alike-walk p) c.1 in
      let (v', gq, r') = alike_right (alike-walk q) c.2 in
      (v, gp, gq ∙ ap some (sym (b.back v v' c.0 c.0 r r' refl)))

-- Graphs that are alike have the same meaning.
pub bisimilar-same : (𝓛 : Labels) {A B : Type 0} (R : A → B → Type 0) (g : Graph 𝓛.L A) (h : Graph 𝓛.L B) →
    Bisimilar R g h → SameMeaning 𝓛 g h
bisimilar-same 𝓛 R g h b =
    record {
      there = λ p v e. let (w, hp, r) = alike-left (alike-walk R g h b p) e in (w, hp, b.labels v w r);
      back = λ p w e. let (v, gp, r) = alike_right (alike-walk R g h b p) e in (v, gp, b.labels v w r);
      corefers = λ p q. (corefer-forth R g h b p q, corefer-back R g h b p q);
    }

module _ (𝓛 : Labels) {A B : Type 0} (g : Graph 𝓛.L A) (h : Graph 𝓛.L B) (m : SameMeaning 𝓛 g h) where
  over-labels : (v : A) (w : B) → LiesOver h g v w → g.label v ≡ h.label w
  over-labels v w (p, gp, hp) =
      let (w', hp', e) = m.there p v gp in
      e ∙ ap h.label (some-injective (sym hp' ∙ hp))

  over-links : (v : A) (w : B) (f : ℕ) → LiesOver h g v w → Alike (LiesOver h g) (g.link v f) (h.link w f)
  over-links v w f (p, gp, hp) = go (g.link v f) (h.link w f) refl refl
    where
      gstep : walk g (p ++ (f ∷ [])) ≡ g.link v f
      gstep = follow-snoc g.link (some g.root) p f ∙ ap (λ x. step g.link x f) gp

      hstep : walk h (p ++ (f ∷ [])) ≡ h.link w f
      hstep = follow-snoc h.link (some h.root) p f ∙ ap (λ x. step h.link x f) hp

      go : (x : Option A) (y : Option B) → g.link v f ≡ x → h.link w f ≡ y → Alike (LiesOver h g) x y
      go none none ex ey = absent
      go none (some w') ex ey =
          let (v', gp', e) = m.back (p ++ (f ∷ [])) w' (hstep ∙ ey) in
          none-some (sym (gstep ∙ ex) ∙ gp')
      go (some v') none ex ey =
          let (w', hp', e) = m.there (p ++ (f ∷ [])) v' (gstep ∙ ex) in
          none-some (sym (hstep ∙ ey) ∙ hp')
      go (some v') (some w') ex ey = present (p ++ (f ∷ []), gstep ∙ ex, hstep ∙ ey)

  over-forth : (v v' : A) (w w' : B) → LiesOver h g v w → LiesOver h g v' w' → v ≡ v' → w ≡ w'
  over-forth v v' w w' (p, gp, hp) (q, gq, hq) e =
      let (x, xp, xq) = (m.corefers p q).0 (v, gp, gq ∙ ap some (sym e)) in
      some-injective (sym hp ∙ xp ∙ sym xq ∙ hq)

  over-back : (v v' : A) (w w' : B) → LiesOver h g v w → LiesOver h g v' w' → w ≡ w' → v ≡ v'
  over-back v v' w w' (p, gp, hp) (q, gq, hq) e =
      let (x, xp, xq) = (m.corefers p q).1 (w, hp, hq ∙ ap some (sym e)) in
      some-injective (sym gp ∙ xp ∙ sym xq ∙ gq)

  -- Graphs of the same meaning are alike, by the nodes that one path leads to.
  pub same-bisimilar : Bisimilar (LiesOver h g) g h
  same-bisimilar =
      record {
        root = ([], follow-nil g.link (some g.root), follow-nil h.link (some h.root));
        labels = over-labels;
        links = over-links;
        forth = over-forth;
        back = over-back;
      }
