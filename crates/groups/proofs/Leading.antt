-- The marks say which links of s lead their groups. A link has the mark 1 or 2 exactly where it is the least of its group, and 2 exactly
-- where nothing of g lies over it.
use mathlib.Core.Path.{◌≡◌, refl, sym, ◌∙◌, ap, subst}
use mathlib.Core.Bool.{Bool, true, false}
use mathlib.Core.List.{List}
use mathlib.Core.Logic.{◌⊎◌, inl, inr, ⊎_elim}
use mathlib.Core.Option.{some}
use Prim.Native.Nat.{ℕ, ◌<◌}
use native.Mathlib.Omega.{arith}
use lib.Dec.{eqb}
use lib.ListN.{length, get_or}
use Rattle.graphs.specs.Graph.{Graph}
use Rattle.graphs.specs.Map.{NodeMap}
use Rattle.graphs.specs.Rows.{from}
use Rattle.graphs.specs.Difference.{Link, StrictOrder, lead}
use Rattle.graphs.specs.Relations.{Into, Grouped, itself, touching, chain}
use Rattle.graphs.proofs.Walk.{some-unique}
use Rattle.graphs.proofs.Search.{true-false}
use Rattle.graphs.proofs.Lists.{from_member, from-range}
use Rattle.graphs.proofs.Unification.Beside.{Operands}
use Rattle.graphs.proofs.Difference.Laws.{Leader, Enters}
use Rattle.graphs.proofs.Difference.Kept.{enters-into, enters-grouped, grouped-into, grouped-flip, link-over}
use Rattle.graphs.proofs.Difference.Lead.{lead-least, lead-unique}
use Rattle.lattice.specs.Labels.{table_labels}
use Rattle.lattice.specs.Label.{Label}
use Rattle.layout.specs.Layout.{size, feature_at, target_at, graph_in, Sound, Place, rows_end}
use Rattle.layout.proofs.Places.{link-at, link-place}
use Rattle.layout.proofs.Order.{place-before, one-row, one-feature}
use Rattle.cover.specs.Cover.{Lying, Covers, Tied, same, shared, back, next, Grouping}
use Rattle.groups.specs.Marks.{Earlier, Together, Mark, follows, leads, bare, Marked}
use Rattle.cover.proofs.Covering.{owner-low}
pub use Rattle.groups.specs.Marks.{At}

-- Places of one graph.

module _ {ws : List ℕ} (sound : Sound ws) where
  -- A link stands at one place, and one link stands at a place.
  pub at_one : (j k : ℕ) (l : Link ℕ) → At ws j l → At ws k l → j ≡ k
  at_one j k l a b = one-feature sound.shaped a.place b.place (a.feature ∙ sym b.feature)

  pub one_at : (k : ℕ) (l m : Link ℕ) → At ws k l → At ws k m → l.0 ≡ m.0
  one_at k l m a b = one-row sound.shaped a.place b.place

  one_link : (k : ℕ) (l m : Link ℕ) → At ws k l → At ws k m → l ≡ m
  one_link k l m a b =
      let p : l.0 ≡ m.0 = one_at k l m a b in
      let q : l.1 ≡ m.1 = sym a.feature ∙ b.feature in
      λ i. (p i, q i)

  pub at-link : (k : ℕ) (l : Link ℕ) → At ws k l → (graph_in ws).link l.0 l.1 ≡ some (target_at ws k)
  at-link k l a =
      ap ((graph_in ws).link l.0) (sym a.feature) ∙
      link-at sound l.0 k a.place.inside a.place.low a.place.high

  pub link-stands : (l : Link ℕ) (w : ℕ) → l.0 < size ws → (graph_in ws).link l.0 l.1 ≡ some w →
      (k : ℕ) × At ws k l × (target_at ws k ≡ w)
  link-stands l w h e =
      let (k, low, high, f, t) = link-place sound l.0 l.1 w h e in
      (k, record { place = record { inside = h; low = low; high = high }; feature = f }, t)

-- Links and their places, for two graphs of which g lies over s.
module _ (n : ℕ) (t : List ℕ) {sw gw map : List ℕ} (lying : Lying sw gw map)
    (operands : Operands eqb eqb (graph_in sw) (from 0 (size sw)) (graph_in gw) (from 0 (size gw)))
    (lies : NodeMap (table_labels n t) (graph_in sw) (graph_in gw) (λ y. get_or map y 0)) where
  abbrev s : Graph Label ℕ
  s = graph_in sw

  abbrev g : Graph Label ℕ
  g = graph_in gw

  abbrev s-sound : Sound sw
  s-sound = lying.lower.sound

  abbrev g-sound : Sound gw
  g-sound = lying.upper.sound

  abbrev over : ℕ → ℕ
  over y = get_or map y 0

  abbrev Joins : ℕ → Link ℕ → Link ℕ → Type 0
  Joins v l m = Grouped s g v l m

  abbrev Goes : ℕ → Link ℕ → Type 0
  Goes z l = Enters {L = Label} g over z l

  into-inside : (v : ℕ) (l : Link ℕ) → Into s v l → l.0 < size sw
  into-inside v l (r, e) = omega (arith, from-range 0 (size sw) l.0 ((operands.lists-left.listed l.0).0 r))

  into-at : (v : ℕ) (l : Link ℕ) → Into s v l → (k : ℕ) × At sw k l × (target_at sw k ≡ v)
  into-at v l i = link-stands s-sound l v (into-inside v l i) i.1

  covers_at : {j z : ℕ} → Covers sw gw map (rows_end gw) j z → (l : Link ℕ) × At sw j l
  covers_at {j} (i, h, o, e) =
      ((over o.node, feature_at sw j), record { place = o.under; feature = refl })

  covers-enters : {j z : ℕ} (l : Link ℕ) → At sw j l → Covers sw gw map (rows_end gw) j z → Goes z l
  covers-enters {j} {z} l a (i, h, o, e) =
      let b : At sw j (over o.node, feature_at sw j) =
      record { place = o.under; feature = refl } in (
        o.node,
        (operands.lists-right.listed o.node).1 (from_member 0 (size gw) o.node (omega arith) (omega (arith, o.place.inside))),
        one_at s-sound j (over o.node, feature_at sw j) l b a,
        ap (g.link o.node) (sym a.feature ∙ o.feature) ∙ link-at g-sound o.node i o.place.inside o.place.low o.place.high ∙ ap some e,
      )

  enters-covers : {j z : ℕ} (l : Link ℕ) → At sw j l → Goes z l → Covers sw gw map (rows_end gw) j z
  enters-covers {j} {z} l a (y, r, o, e) =
      let h : y < size gw = omega (arith, from-range 0 (size gw) y ((operands.lists-right.listed y).0 r)) in
      let (i, low, high, f, w) = link-place g-sound y l.1 z h e in
      let p : Place gw y i = record { inside = h; low = low; high = high } in (
        i,
        place-before g-sound.shaped p,
        record { node = y; place = p; under = subst (λ (u : ℕ). Place sw u j) (sym o) a.place; feature = a.feature ∙ sym f },
        w,
      )

  -- Two tied nodes of g are one, or links of g that enter them lie over links of one group.

  pub record Meeting (x y : ℕ) : Type 0 where
    pub from-link : Link ℕ
    pub to-link : Link ℕ
    pub from-enters : Goes x from-link
    pub to-enters : Goes y to-link
    pub grouped : Joins (over x) from-link to-link
    pub under : over x ≡ over y

  meets : {x y : ℕ} → Tied sw gw map x y → (x ≡ y) ⊎ Meeting x y
  meets same = inl refl
  meets (shared {x} {y} j a b) =
      let (l, at) = covers_at a in
      let p = covers-enters l at a in
      let q = covers-enters l at b in
      inr (record {
        from-link = l;
        to-link = l;
        from-enters = p;
        to-enters = q;
        grouped = itself (enters-into lies x l p);
        under = some-unique (enters-into lies x l p).1 (enters-into lies y l q).1;
      })
  meets (back {x} {y} c) =
      ⊎_elim (λ (e : x ≡ y). inl (sym e))
      (λ (m : Meeting x y).
      inr (record {
        from-link = m.to-link;
        to-link = m.from-link;
        from-enters = m.to-enters;
        to-enters = m.from-enters;
        grouped = subst (λ v. Joins v m.to-link m.from-link) m.under (grouped-flip m.grouped);
        under = sym m.under;
      }))
      (meets c)
  meets (next {x} {y} {z} c d) =
      ⊎_elim (λ (e : x ≡ y). subst (λ u. (u ≡ z) ⊎ Meeting u z) (sym e) (meets d))
      (λ (m : Meeting x y).
      ⊎_elim (λ (e : y ≡ z). subst (λ u. (x ≡ u) ⊎ Meeting x u) e (inr m))
      (λ (o : Meeting y z).
      inr (record {
        from-link = m.from-link;
        to-link = o.to-link;
        from-enters = m.from-enters;
        to-enters = o.to-enters;
        grouped =
            chain m.grouped
            (chain (enters-grouped lies (over x) y m.to-link o.from-link (sym m.under) m.to-enters o.from-enters)
            (subst (λ v. Joins v o.from-link o.to-link) (sym m.under) o.grouped));
        under = m.under ∙ o.under;
      }))
      (meets d))
      (meets c)

  module _ {owner parent : List ℕ} (grouping : Grouping sw gw map (rows_end gw) owner parent) where
    abbrev Beside : ℕ → ℕ → Type 0
    Beside j k = Together owner parent j k

    within : (k : ℕ) (l : Link ℕ) → At sw k l → k < length owner
    within k l a =
        omega (arith, a.place.high, (s-sound.shaped.node l.0 a.place.inside).ended, grouping.owner-long)

    -- Links at places with owners of one class are in one group.
    together-grouped : (j k : ℕ) (l m : Link ℕ) → At sw j l → At sw k m → Beside j k → Joins (target_at sw j) l m
    together-grouped j k l m a b t =
        let hx = owner-low lying grouping j (within j l a) t.left in
        let hy = owner-low lying grouping k (within k m b) t.right in
        go (meets (grouping.tied (get_or owner j 0) (get_or owner k 0) hx hy t.class))
      where
        x : ℕ
        x = get_or owner j 0

        y : ℕ
        y = get_or owner k 0

        p : Goes x l
        p = covers-enters l a (grouping.owned j (within j l a) t.left)

        q : Goes y m
        q = covers-enters m b (grouping.owned k (within k m b) t.right)

        u : over x ≡ target_at sw j
        u = some-unique (enters-into lies x l p).1 (at-link s-sound j l a)

        go : (x ≡ y) ⊎ Meeting x y → Joins (target_at sw j) l m
        go (inl e) = enters-grouped lies (target_at sw j) x l m u p (subst (λ z. Goes z m) (sym e) q)
        go (inr c) =
            subst (λ v. Joins v l m) u
            (chain (enters-grouped lies (over x) x l c.from-link refl p c.from-enters)
            (chain c.grouped (enters-grouped lies (over x) y c.to-link m (sym c.under) c.to-enters q)))

    together-sym : {j k : ℕ} → Beside j k → Beside k j
    together-sym t = record { left = t.right; right = t.left; class = sym t.class }

    -- Links of one group stand at one place, or at places with owners of one class.
    grouped-together : (v : ℕ) (j k : ℕ) {l m : Link ℕ} → Joins v l m → At sw j l → At sw k m → (j ≡ k) ⊎ Beside j k
    grouped-together v j k (itself {l} _) a b = inl (at_one s-sound j k l a b)
    grouped-together v j k (touching {l} {m} _ _ (z, p, q)) a b =
        let (x, e) = grouping.covered j z (enters-covers l a ((link-over lies z l).0 p)) in
        let (y, d) = grouping.covered k z (enters-covers m b ((link-over lies z m).0 q)) in
        inr (record { left = x; right = y; class = e ∙ sym d })
    grouped-together v j k (chain {m = m} c d) a b =
        let (h, at, _) = into-at v m (grouped-into c).1 in
        ⊎_elim (λ (e : j ≡ h). subst (λ x. (x ≡ k) ⊎ Beside x k) (sym e) (grouped-together v h k d at b))
        (λ (x : Beside j h).
        ⊎_elim (λ (e : h ≡ k). inr (subst (Beside j) e x))
        (λ (y : Beside h k). inr (record { left = x.left; right = y.right; class = x.class ∙ y.class }))
        (grouped-together v h k d at b))
        (grouped-together v j h c a at)

    module _ {earlier : Link ℕ → Link ℕ → Bool} (strict : StrictOrder earlier) where
      abbrev first : ℕ → Link ℕ → Link ℕ
      first v l = lead eqb eqb s (from 0 (size sw)) g (from 0 (size gw)) over earlier v l

      -- A link leads its group if no earlier link stands at a place whose owner is of the same class.
      place-leads : (k : ℕ) (l : Link ℕ) → At sw k l → Into s (target_at sw k) l →
          ((j : ℕ) → j < length owner → Earlier earlier sw j k → Beside j k → ⊥) → first (target_at sw k) l ≡ l
      place-leads k l a i alone =
          sym (lead-unique operands lies earlier strict (target_at sw k) l l i (itself i) λ m c. go m c (earlier m l) refl)
        where
          go : (m : Link ℕ) → Joins (target_at sw k) l m → (b : Bool) → earlier m l ≡ b → earlier m l ≡ false
          go m c false e = e
          go m c true e =
              let (j, at, _) = into-at (target_at sw k) m (grouped-into c).1 in
              ⊎_elim
              (λ (z : k ≡ j).
              let here : At sw k m = subst (λ (x : ℕ). At sw x m) (sym z) at in
              ap (λ (x : Link ℕ). earlier x l) (one_link s-sound k m l here a) ∙ strict.irreflexive l)
              (λ (t : Beside k j). absurd (alone j (within j m at) (m, l, at, a, e) (together-sym t)))
              (grouped-together (target_at sw k) k j c a at)

      -- A link does not lead its group if an earlier link stands at a place whose owner is of the same class.
      place-follows : (j k : ℕ) (l : Link ℕ) → At sw k l → Into s (target_at sw k) l → Earlier earlier sw j k → Beside j k →
          first (target_at sw k) l ≡ l → ⊥
      place-follows j k l a i (m, l', b, a', less) t e =
          true-false (ap (earlier m) (one_link s-sound k l l' a a') ∙ less)
          (ap (earlier m) (sym e) ∙
          lead-least operands lies earlier strict (target_at sw k) l m i (together-grouped k j l m a b (together-sym t)))

  module _ {earlier : Link ℕ → Link ℕ → Bool} (strict : StrictOrder earlier) {marks : List ℕ} (marked : Marked earlier sw gw map marks)
      (k : ℕ) (l : Link ℕ) (at : At sw k l) where
    into : Into s (target_at sw k) l
    into = ((operands.lists-left.listed l.0).1 (from_member 0 (size sw) l.0 (omega arith) (omega (arith, at.place.inside))), at-link s-sound k l at)

    -- What the mark of a place says of the link there.
    pub data Says : Type 0 where
      follows-it : get_or marks k 0 ≡ 0 → (lead eqb eqb s (from 0 (size sw)) g (from 0 (size gw)) over earlier (target_at sw k) l ≡ l → ⊥) → Says
      leads-covered : get_or marks k 0 ≡ 1 → Leader s (lead eqb eqb s (from 0 (size sw)) g (from 0 (size gw)) over earlier) (target_at sw k) l →
          (z : ℕ) → Goes z l → Says
      leads_bare : get_or marks k 0 ≡ 2 → Leader s (lead eqb eqb s (from 0 (size sw)) g (from 0 (size gw)) over earlier) (target_at sw k) l →
          ((z : ℕ) → Goes z l → ⊥) → Says

    pub mark-says : Says
    mark-says = go (marked.stands.each l.0 k at.place)
      where
        grouping : Grouping sw gw map (rows_end gw) marked.owner marked.parent
        grouping = marked.grouping

        go : Mark marked.owner marked.parent (Earlier earlier sw) k (get_or marks k 0) → Says
        go (follows e j h w t) = follows-it e (place-follows grouping strict j k l at into w t)
        go (leads e o alone) =
            leads-covered e (into, place-leads grouping strict k l at into alone) (get_or marked.owner k 0)
            (covers-enters l at (grouping.owned k (within grouping k l at) o))
        go (bare e o) =
            leads_bare e (into, place-leads grouping strict k l at into (λ j h w t. t.right o))
            (λ z p. (grouping.covered k z (enters-covers l at p)).0 o)
