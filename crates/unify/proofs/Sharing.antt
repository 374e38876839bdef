-- The classes in the array are those of the graphs' nodes: two nodes have one class exactly when they are related. The graph of the classes in
-- words has the links of the classes' nodes.
use mathlib.Core.Path.{◌≡◌, refl, sym, ◌∙◌, ap, subst}
use mathlib.Core.Bool.{Bool, true, false, cond}
use mathlib.Core.List.{List}
use mathlib.Core.Logic.{◌⊎◌, inl, inr}
use mathlib.Core.Option.{some}
use Prim.Native.Nat.{ℕ, zero, suc, ◌+◌, ◌-◌, ◌/◌, ◌%◌, ◌≤◌, ◌<◌}
use native.Mathlib.Decide.{dec_lt, ℕ_discrete}
use native.Mathlib.Omega.{arith}
use borrow.Author.Tests.{eq-eqb, ne_eqb}
use lib.Dec.{eqb}
use lib.ListN.{get_or}
use Rattle.graphs.proofs.Unification.Related.{roots, back, next, feat, related-constant}
use Rattle.graphs.proofs.Unification.Beside.{link_beside, RelatedBeside, leads-related, related-reached}
use Rattle.lattice.specs.Labels.{Known}
use Rattle.layout.specs.Layout.{Sound, scale, size, links_from, row_end, feature_at, target_at, link_word, graph_in}
use Rattle.layout.proofs.Places.{link-at, link-place}
use Rattle.visits.specs.Walks.{Leads}
use Rattle.classes.specs.Merge.{Span}
use Rattle.classes.specs.Classes as classes
use Rattle.classes.specs.Classes.{At, Same}
use Rattle.classes.proofs.Merging.{feature-same, target-same}
use Rattle.merging.specs.Rows.{Operand, Merges}
use Rattle.unify.proofs.Sides.{Inside, number, inside-reached, reached-in, number_in, number-one, node_of, link-in, link-of}

-- The features of a row ascend, so a feature stands at one place.
span-rises : {ws : List ℕ} {used start end : ℕ} → Span ws used start end → (n j k : ℕ) → k ≡ j + suc n → start ≤ j → k < end →
    feature_at ws j < feature_at ws k
span-rises {ws} s zero j k e low high =
    let q : suc j ≡ k = omega arith in
    subst (λ (i : ℕ). feature_at ws j < feature_at ws i) q (s.ascending j low (omega arith))
span-rises s (suc n) j k e low high =
    omega (arith, s.ascending j low (omega arith), span-rises s n (suc j) k (omega arith) (omega arith) high)

span-one : {ws : List ℕ} {used start end : ℕ} → Span ws used start end → (j k : ℕ) → start ≤ j → j < end → start ≤ k → k < end →
    feature_at ws j ≡ feature_at ws k → j ≡ k
span-one s j k j-low j-high k-low k-high e = go (dec_lt j k) (dec_lt k j)
  where
    go : Dec (j < k) → Dec (k < j) → j ≡ k
    go (yes l) d = absurd (omega (arith, span-rises s (k - suc j) j k (omega arith) j-low k-high))
    go (no n) (yes l) = absurd (omega (arith, span-rises s (j - suc k) k j (omega arith) k-low j-high))
    go (no n) (no m) = omega arith

-- The feature and the target of a link between classes.
word-parts : (f t : ℕ) → t < scale → (link_word (f, t) / scale ≡ f) × (link_word (f, t) % scale ≡ t)
word-parts f t h = (omega arith, omega arith)

module _ {n : ℕ} {meets : ℕ → ℕ → ℕ} {a b graph : List ℕ} (left : Operand n a) (right : Operand n b) (m : Merges n meets a b graph) where
  abbrev class : List ℕ
  class = m.class

  abbrev Alike : ℕ → ℕ → Type 0
  Alike = Same (size a + size b) (size a) m.start m.end m.pool

  -- the class of a node
  abbrev pub class_of : ℕ ⊎ ℕ → ℕ
  class_of x = get_or class (number (size a) x) 0

  root-a : Inside left right (inl 0)
  root-a = left.recorded.sound.shaped.nonempty

  root-b : Inside left right (inr 0)
  root-b = right.recorded.sound.shaped.nonempty

  alike-in : {i j : ℕ} → Alike i j → (i < size a + size b) × (j < size a + size b)
  alike-in classes.roots = (omega (arith, root-a), omega (arith, root-b))
  alike-in (classes.itself h) = (h, h)
  alike-in (classes.back c) = let (p, q) = alike-in c in (q, p)
  alike-in (classes.next c d) = ((alike-in c).0, (alike-in d).1)
  alike-in (classes.down {x} {y} {j} {k} c x-in y-in x-at y-at e) = (go x j x-in x-at, go y k y-in y-at)
    where
      go : (x j : ℕ) → x < size a + size b → At m.start m.end x j → target_at m.pool j < size a + size b
      go x j h place =
          let (v, v-in, q) = node_of left right x h in
          let (w, w-in, _, n) = link-of left right m.first m.second v j v-in (subst (λ (i : ℕ). At m.start m.end i j) (sym q) place) in
          subst (λ (i : ℕ). i < size a + size b) n (number_in left right w w-in)

  -- Numbers that are the same by the links are the numbers of related nodes.
  alike-related : {i j : ℕ} → Alike i j → (x y : ℕ ⊎ ℕ) → Inside left right x → Inside left right y → number (size a) x ≡ i →
      number (size a) y ≡ j → RelatedBeside (graph_in a) (graph_in b) x y
  alike-related classes.roots x y p q d e =
      subst (λ z. RelatedBeside (graph_in a) (graph_in b) z y) (number-one left right (inl 0) x root-a p (sym d))
      (subst (λ z. RelatedBeside (graph_in a) (graph_in b) (inl 0) z) (number-one left right (inr 0) y root-b q (omega (arith, e))) roots)
  alike-related (classes.itself h) x y p q d e =
      subst (λ z. RelatedBeside (graph_in a) (graph_in b) x z) (number-one left right x y p q (d ∙ sym e))
      (let r = inside-reached left right x p in leads-related (graph_in a) (graph_in b) r.0 x r.1)
  alike-related (classes.back c) x y p q d e = back (alike-related c y x q p e d)
  alike-related (classes.next c f) x y p q d e =
      let (z, z-in, z-is) = node_of left right _ (alike-in c).1 in
      next (alike-related c x z p z-in d z-is) (alike-related f z y z-in q z-is e)
  alike-related (classes.down {x = v} {y = w} {j = j} {k = k} c v-in w-in v-at w_at same) x y p q d e =
      let (v', v'-in, v'-is) = node_of left right v v-in in
      let (w', w'-in, w'-is) = node_of left right w w-in in
      let (t, t-in, t-link, t-is) = link-of left right m.first m.second v' j v'-in (subst (λ (i : ℕ). At m.start m.end i j) (sym v'-is) v-at) in
      let (u, u-in, u-link, u-is) = link-of left right m.first m.second w' k w'-in (subst (λ (i : ℕ). At m.start m.end i k) (sym w'-is) w_at) in
      subst (λ z. RelatedBeside (graph_in a) (graph_in b) z y) (number-one left right t x t-in p (t-is ∙ sym d))
      (subst (λ z. RelatedBeside (graph_in a) (graph_in b) t z) (number-one left right u y u-in q (u-is ∙ sym e))
      (feat (feature_at m.pool j) (alike-related c v' w' v'-in w'-in v'-is w'-is) t-link
      (ap (λ (f : ℕ). link_beside (graph_in a) (graph_in b) w' f) same ∙ u-link)))

  class-in : (x : ℕ) → x < size a + size b → get_or class x 0 < size a + size b
  class-in x h = omega (arith, m.closed.lowest x h)

  -- nodes of one class are related
  pub one-related : (x y : ℕ ⊎ ℕ) → Inside left right x → Inside left right y → class_of x ≡ class_of y →
      RelatedBeside (graph_in a) (graph_in b) x y
  one-related x y p q e =
      let (c, c-in, c-is) = node_of left right (class_of x) (class-in (number (size a) x) (number_in left right x p)) in
      next (alike-related (m.closed.related (number (size a) x) (number_in left right x p)) x c p c-in refl c-is)
      (back (alike-related (m.closed.related (number (size a) y) (number_in left right y q)) y c q c-in refl (c-is ∙ e)))

  -- related nodes have one class
  pub related-one : {x y : ℕ ⊎ ℕ} → RelatedBeside (graph_in a) (graph_in b) x y → class_of x ≡ class_of y
  related-one = related-constant class_of start down
    where
      start : class_of (inl 0) ≡ class_of (inr 0)
      start = let e : size a ≡ size a + 0 = omega arith in m.closed.together ∙ ap (λ (i : ℕ). get_or class i 0) e

      down : (x y v w : ℕ ⊎ ℕ) (f : ℕ) → RelatedBeside (graph_in a) (graph_in b) x y → class_of x ≡ class_of y →
          link_beside (graph_in a) (graph_in b) x f ≡ some v → link_beside (graph_in a) (graph_in b) y f ≡ some w → class_of v ≡ class_of w
      down x y v w f c e x-link y-link =
          let (x-reached, y-reached) = related-reached (graph_in a) (graph_in b) c in
          let x-in = reached-in left right x x-reached in
          let y-in = reached-in left right y y-reached in
          let (_, (j, j-at, j-feature, j-target)) = link-in left right m.first m.second x v f x-in x-link in
          let (_, (k, k-at, k-feature, k-target)) = link-in left right m.first m.second y w f y-in y-link in
          let (p, p-at, p-feature, p-target) = m.closed.kept (number (size a) x) j (number_in left right x x-in) j-at in
          let (q, q-at, q-feature, q-target) = m.closed.kept (number (size a) y) k (number_in left right y y-in) k-at in
          let q-at' = subst (λ (i : ℕ). At m.start' m.end' i q) (sym e) q-at in
          let same : p ≡ q = span-one (m.closed.rows.span (class_of x) (class-in (number (size a) x) (number_in left right x x-in))) p q
          p-at.0 p-at.1 q-at'.0 q-at'.1 (p-feature ∙ j-feature ∙ sym (q-feature ∙ k-feature)) in
          ap (λ (i : ℕ). get_or class i 0) (sym j-target) ∙ sym p-target ∙
          ap (λ (i : ℕ). get_or class (target_at m.pool' i) 0) same ∙ q-target ∙ ap (λ (i : ℕ). get_or class i 0) k-target

  -- The graph of the classes.

  inside-graph : {x : ℕ} → x < size graph → x < size a + size b
  inside-graph h = omega (arith, h, m.built.sized)

  row-length : (x : ℕ) → x < size a + size b → (t : Bool) → eqb (get_or class x 0) x ≡ t →
      row_end graph x ≡ links_from graph x + cond t (get_or m.end' x 0 - get_or m.start' x 0) 0
  row-length x h t e =
      m.built.rows.lengths x h ∙
      ap (λ (s : Bool). links_from graph x + cond s (get_or m.end' x 0 - get_or m.start' x 0) 0) e

  -- A place in a node's row is a place in the row of the class that the node represents.
  row-place : (x i : ℕ) → x < size a + size b → links_from graph x + i < row_end graph x →
      (get_or class x 0 ≡ x) × (get_or m.start' x 0 + i < get_or m.end' x 0)
  row-place x i h inside = go (ℕ_discrete (get_or class x 0) x)
    where
      go : Dec (get_or class x 0 ≡ x) → (get_or class x 0 ≡ x) × (get_or m.start' x 0 + i < get_or m.end' x 0)
      go (yes e) = (e, omega (arith, row-length x h true (eq-eqb (get_or class x 0) x e)))
      go (no d) = absurd (omega (arith, row-length x h false (ne_eqb (get_or class x 0) x d)))

  -- A place in the row of a class is a place in the row of the node that represents it.
  place-row : (x i : ℕ) → x < size a + size b → get_or class x 0 ≡ x → get_or m.start' x 0 + i < get_or m.end' x 0 →
      links_from graph x + i < row_end graph x
  place-row x i h own inside = omega (arith, row-length x h true (eq-eqb (get_or class x 0) x own))

  -- the link at a place of the classes' rows, in the graph
  module _ (x i : ℕ) (h : x < size a + size b) (own : get_or class x 0 ≡ x) (inside : get_or m.start' x 0 + i < get_or m.end' x 0) where
    target-in : get_or class (target_at m.pool' (get_or m.start' x 0 + i)) 0 < size a + size b
    target-in =
        class-in (target_at m.pool' (get_or m.start' x 0 + i))
        (m.closed.rows.within x (get_or m.start' x 0 + i) h (omega arith, inside))

    target_small : get_or class (target_at m.pool' (get_or m.start' x 0 + i)) 0 < scale
    target_small = omega (arith, target-in, m.closed.rows.few)

    feature-is : feature_at graph (links_from graph x + i) ≡ feature_at m.pool' (get_or m.start' x 0 + i)
    feature-is =
        feature-same (m.built.rows.words_are x i h own inside) ∙
        (word-parts (feature_at m.pool' (get_or m.start' x 0 + i)) (get_or class (target_at m.pool' (get_or m.start' x 0 + i)) 0)
        target_small).0

    target_is : target_at graph (links_from graph x + i) ≡ get_or class (target_at m.pool' (get_or m.start' x 0 + i)) 0
    target_is =
        target-same (m.built.rows.words_are x i h own inside) ∙
        (word-parts (feature_at m.pool' (get_or m.start' x 0 + i)) (get_or class (target_at m.pool' (get_or m.start' x 0 + i)) 0)
        target_small).1

  -- Place k of node x's row, by the row of its class.
  record Stands (x k : ℕ) : Type 0 where
    own : get_or class x 0 ≡ x
    place : ℕ
    at : At m.start' m.end' x place
    feature : feature_at graph k ≡ feature_at m.pool' place
    target : target_at graph k ≡ get_or class (target_at m.pool' place) 0

  stands : (x k : ℕ) → x < size a + size b → links_from graph x ≤ k → k < row_end graph x → Stands x k
  stands x k h low high =
      let e : links_from graph x + (k - links_from graph x) ≡ k = omega arith in
      let (own, inside) = row-place x (k - links_from graph x) h (omega (arith, e, high)) in
      record {
        own = own;
        place = get_or m.start' x 0 + (k - links_from graph x);
        at = (omega arith, inside);
        feature = ap (feature_at graph) (sym e) ∙ feature-is x (k - links_from graph x) h own inside;
        target = ap (target_at graph) (sym e) ∙ target_is x (k - links_from graph x) h own inside;
      }

  pub class-sound : Sound graph
  class-sound =
      record {
        shaped = record {
          nonempty = omega (arith, m.built.sized, m.closed.rows.some);
          few = omega (arith, m.built.sized, m.closed.rows.few);
          behind = omega (arith, m.built.sized, m.built.begun 0 m.closed.rows.some);
          node = λ x h.
              record {
                inside = h;
                listed =
                    omega (
                      arith,
                      inside-graph h,
                      m.built.begun x (inside-graph h),
                      m.built.rows.lengths x (inside-graph h),
                      m.built.ended x (inside-graph h),
                    );
                begun = omega (arith, m.built.rows.lengths x (inside-graph h));
                ended = m.built.ended x (inside-graph h);
              };
          labelled = λ x h.
              let i = inside-graph h in
              subst (Known 128) (sym (m.built.rows.labels-are x i))
              (m.below (get_or class x 0) (omega (arith, class-in x i, m.closed.rows.few)));
          known = λ x k h low high.
              let i = inside-graph h in
              let s = stands x k i low high in
              subst (λ (f : ℕ). f < 64) (sym s.feature) ((m.closed.rows.span x i).known s.place s.at.0 s.at.1);
          ascending = λ x k h low high. ascending x k (inside-graph h) low high;
        };
        targets = λ x k h low high.
            let i = inside-graph h in
            let s = stands x k i low high in
            omega (
              arith,
              s.target,
              m.built.sized,
              class-in (target_at m.pool' s.place) (m.closed.rows.within x s.place i s.at),
            );
      }
    where
      ascending : (x k : ℕ) → x < size a + size b → links_from graph x ≤ k → k + 1 < row_end graph x → feature_at graph k < feature_at graph (k + 1)
      ascending x k h low high =
          let e : links_from graph x + (k - links_from graph x) ≡ k = omega arith in
          let d : links_from graph x + suc (k - links_from graph x) ≡ k + 1 = omega arith in
          let q : get_or m.start' x 0 + suc (k - links_from graph x) ≡ suc (get_or m.start' x 0 + (k - links_from graph x)) = omega arith in
          let (own, inside) = row-place x (suc (k - links_from graph x)) h (omega (arith, d, high)) in
          let here : feature_at graph k ≡ feature_at m.pool' (get_or m.start' x 0 + (k - links_from graph x)) =
          ap (feature_at graph) (sym e) ∙ feature-is x (k - links_from graph x) h own (omega (arith, inside)) in
          let there : feature_at graph (k + 1) ≡ feature_at m.pool' (suc (get_or m.start' x 0 + (k - links_from graph x))) =
          ap (feature_at graph) (sym d) ∙ feature-is x (suc (k - links_from graph x)) h own inside ∙ ap (feature_at m.pool') q in
          subst (λ (f : ℕ). f < feature_at graph (k + 1)) (sym here)
          (subst (λ (f : ℕ). feature_at m.pool' (get_or m.start' x 0 + (k - links_from graph x)) < f) (sym there)
          ((m.closed.rows.span x h).ascending (get_or m.start' x 0 + (k - links_from graph x)) (omega arith) (omega (arith, inside))))

  -- a link of a node is a link of its class
  pub class-link : (x y : ℕ ⊎ ℕ) (f : ℕ) → Inside left right x → link_beside (graph_in a) (graph_in b) x f ≡ some y →
      (graph_in graph).link (class_of x) f ≡ some (class_of y)
  class-link x y f x-in e =
      let (_, (j, j-at, j-feature, j-target)) = link-in left right m.first m.second x y f x-in e in
      let (k, k-at, k-feature, k-target) = m.closed.kept (number (size a) x) j (number_in left right x x-in) j-at in
      let c-in = class-in (number (size a) x) (number_in left right x x-in) in
      let own = m.closed.itself (number (size a) x) (number_in left right x x-in) in
      let d : get_or m.start' (class_of x) 0 + (k - get_or m.start' (class_of x) 0) ≡ k = omega (arith, k-at.0) in
      let inside : get_or m.start' (class_of x) 0 + (k - get_or m.start' (class_of x) 0) < get_or m.end' (class_of x) 0 = omega (arith, k-at.1) in
      let place = links_from graph (class_of x) + (k - get_or m.start' (class_of x) 0) in
      let feature = feature-is (class_of x) (k - get_or m.start' (class_of x) 0) c-in own inside ∙
      ap (feature_at m.pool') d ∙ k-feature ∙ j-feature in
      let target = target_is (class_of x) (k - get_or m.start' (class_of x) 0) c-in own inside ∙
      ap (λ (i : ℕ). get_or class (target_at m.pool' i) 0) d ∙ k-target ∙ ap (λ (i : ℕ). get_or class i 0) j-target in
      ap ((graph_in graph).link (class_of x)) (sym feature) ∙
      link-at class-sound (class_of x) place (omega (arith, c-in, m.built.sized)) (omega arith)
      (place-row (class_of x) (k - get_or m.start' (class_of x) 0) c-in own inside) ∙
      ap some target

  -- a link of a class is a link of one of its nodes
  pub class-source : (c d f : ℕ) → c < size a + size b → (graph_in graph).link c f ≡ some d →
      (x : ℕ ⊎ ℕ) × (y : ℕ ⊎ ℕ) × Inside left right x × Inside left right y × (class_of x ≡ c) ×
      (link_beside (graph_in a) (graph_in b) x f ≡ some y) × (class_of y ≡ d)
  class-source c d f h e =
      let (p, low, high, feature, target) = link-place class-sound c f d (omega (arith, h, m.built.sized)) e in
      let s = stands c p h low high in
      let (x, j, x-in, x-at, like, word) = m.closed.source c s.place h s.at in
      let (v, v-in, v-is) = node_of left right x x-in in
      let (u, u-in, u-is) = node_of left right c h in
      let (w, w-in, w-link, w-is) = link-of left right m.first m.second v j v-in (subst (λ (i : ℕ). At m.start m.end i j) (sym v-is) x-at) in (
        v,
        w,
        v-in,
        w-in,
        sym (related-one (alike-related like u v u-in v-in u-is v-is)) ∙ ap (λ (i : ℕ). get_or class i 0) u-is ∙ s.own,
        ap (link_beside (graph_in a) (graph_in b) v) (sym (feature-same word ∙ sym s.feature ∙ feature)) ∙ w-link,
        ap (λ (i : ℕ). get_or class i 0) (w-is ∙ target-same word) ∙ sym s.target ∙ target,
      )

  -- a node with a link represents its class
  pub leads-own : (v w : ℕ) → Leads graph v w → get_or m.class v 0 ≡ v
  leads-own v w l = (stands v l.place (inside-graph l.inside) l.low l.high).own
