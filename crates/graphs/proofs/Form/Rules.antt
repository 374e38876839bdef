-- This file has the laws of a written form, all that a reader of records asks of it. The form has 1 to 255 rows, one for each reached
-- node, the root's first, and at most 2,048 links. In each row features are below 64 and ascend, and targets are rows.
use mathlib.Core.Path.{◌≡◌, refl, sym, ◌∙◌, ap, subst}
use mathlib.Core.Bool.{Bool}
use mathlib.Core.List.Memᴰ
use mathlib.Core.List.{List, [], ◌∷◌, ◌++◌, map, reverse, reverse-cons, Memᴰ}
use mathlib.Core.Logic.{◌↔◌}
use mathlib.Core.Option
use mathlib.Core.Option.{Option, some, map-eq-some_iff}
use Prim.Native.Nat.{ℕ, ◌+◌, ◌≤◌, ◌<◌}
use native.Mathlib.Omega.{arith}
use lib.ListN.{length, length-map, length-reverse}
use Rattle.graphs.specs.Graph.{Graph, TellsApart, Reached}
use Rattle.graphs.specs.Rows.{Row, features}
use Rattle.graphs.specs.Number.{canonical, index_of, link_count, row_of, visit, written}
use Rattle.graphs.specs.Large.{Distinct, links_in, Ascending}
use Rattle.graphs.proofs.Walk.{reached-root, reached-link}
use Rattle.graphs.proofs.Lists.{features-small, mem-reverse, mem-unreverse, reverse_snoc, index-within}
use Rattle.graphs.proofs.Rows.{links_of-length, links_of-source, links_of-ascending}
use Rattle.graphs.proofs.Form.Visited.{visit-first}
use Rattle.graphs.proofs.Form.Canonical.{canonical-written, seen-reached, reached-seen, seen-distinct, seen-short}

-- The count of links does not depend on the order of the nodes.

link_count-append : {A : Type 0} (link : A → ℕ → Option A) (vs ws : List A) →
    link_count link (vs ++ ws) ≡ link_count link vs + link_count link ws
unfolding link_count
link_count-append link [] ws = omega arith
link_count-append link (v ∷ vs) ws = omega (arith, link_count-append link vs ws)

link_count-reverse : {A : Type 0} (link : A → ℕ → Option A) (vs : List A) → link_count link (reverse vs) ≡ link_count link vs
unfolding link_count
link_count-reverse link [] = refl
link_count-reverse link (v ∷ vs) =
    omega (arith, ap (link_count link) (reverse-cons v vs), link_count-append link (reverse vs) (v ∷ []), link_count-reverse link vs)

module _ {L A : Type 0} (same : A → A → Bool) (g : Graph L A) where
  -- the rows have the links of the nodes
  links_in-rows : (nodes vs : List A) → links_in (map (row_of same g nodes) vs) ≡ link_count g.link vs
  unfolding links_in link_count row_of
  links_in-rows nodes [] = refl
  links_in-rows nodes (v ∷ vs) =
      omega (arith, links_of-length g.link (λ w. index_of same w nodes) v features, links_in-rows nodes vs)

  -- a row's link is a link of its node
  row-link : (nodes : List A) (v : A) (l : ℕ × ℕ) → Memᴰ l (row_of same g nodes v).1 →
      (l.0 < 64) × ((w : A) × (g.link v l.0 ≡ some w) × (index_of same w nodes ≡ l.1))
  unfolding row_of
  row-link nodes v l m =
      let (k, q) = links_of-source (λ f. Option.map (λ w. index_of same w nodes) (g.link v f)) features l m in
      (features-small l.0 k, (map-eq-some_iff (λ w. index_of same w nodes) (g.link v l.0)).0 q)

  row-ascending : (nodes : List A) (v : A) → Ascending (row_of same g nodes v).1
  unfolding row_of
  row-ascending nodes v = links_of-ascending (λ f. Option.map (λ w. index_of same w nodes) (g.link v f)) 0 64

  row_label : (nodes : List A) (v : A) → (row_of same g nodes v).0 ≡ g.label v
  unfolding row_of
  row_label nodes v = refl

module _ {L A : Type 0} (same : A → A → Bool) (tells : TellsApart same) (g : Graph L A)
    (narrow : (v w : A) (f : ℕ) → Reached g v → g.link v f ≡ some w → f < 64) (form : List (Row L))
    (e : canonical same g ≡ written form) where
  form-length : (now : List A) → map (row_of same g (reverse now)) (reverse now) ≡ form → length form ≡ length now
  form-length now q = sym (ap length q) ∙ length-map (reverse now) (row_of same g (reverse now)) ∙ length-reverse now

  -- a written form has as many rows as the graph has nodes
  pub form-nodes : (nodes : List A) × Distinct nodes × ((v : A) → Reached g v ↔ Memᴰ v nodes) × (length form ≡ length nodes)
  form-nodes =
      let (now, h, _, q) = canonical-written same g form e in (
        now,
        seen-distinct same tells g narrow now h,
        λ v. (reached-seen same tells g narrow now h v, seen-reached same tells g narrow now h v),
        form-length now q,
      )

  pub form-short : length form ≤ 255
  form-short =
      let (now, h, _, q) = canonical-written same g form e in
      omega (arith, form-length now q, seen-short same tells g narrow now h)

  pub form-links : links_in form ≤ 2048
  form-links =
      let (now, _, few, q) = canonical-written same g form e in
      omega (arith, ap links_in q, links_in-rows same g (reverse now) (reverse now), link_count-reverse g.link now)

  -- the root's row is the first
  pub form-root : (r : Row L) × (rest : List (Row L)) × (form ≡ r ∷ rest) × (r.0 ≡ g.label g.root)
  form-root =
      let (now, h, _, q) = canonical-written same g form e in
      let (xs, k) = visit-first same tells g.link (Reached g) (λ v w f r l. reached-link g f r l) narrow g.root now (reached-root g) h in
      let nodes = reverse now in (
        row_of same g nodes g.root,
        map (row_of same g nodes) (reverse xs),
        sym q ∙ ap (map (row_of same g nodes)) (ap reverse k ∙ reverse_snoc xs g.root),
        row_label same g nodes g.root,
      )

  pub form-nonempty : 0 < length form
  form-nonempty = let (r, rest, q, _) = form-root in omega (arith, ap length q)

  -- a row is that of a reached node
  form-row : (now : List A) → visit same g.link 255 g.root [] ≡ some now →
      map (row_of same g (reverse now)) (reverse now) ≡ form → (r : Row L) → Memᴰ r form →
      (v : A) × Reached g v × (row_of same g (reverse now) v ≡ r)
  form-row now h q r m =
      let (v, i, k) = Memᴰ.of_map (row_of same g (reverse now)) (reverse now) (subst (λ (rs : List (Row L)). Memᴰ r rs) (sym q) m) in
      (v, seen-reached same tells g narrow now h v (mem-unreverse i), k)

  pub form-labels : (r : Row L) → Memᴰ r form → (v : A) × Reached g v × (r.0 ≡ g.label v)
  form-labels r m =
      let (now, h, _, q) = canonical-written same g form e in
      let (v, reached, k) = form-row now h q r m in
      (v, reached, ap (λ (r : Row L). r.0) (sym k) ∙ row_label same g (reverse now) v)

  pub form-ascending : (r : Row L) → Memᴰ r form → Ascending r.1
  form-ascending r m =
      let (now, h, _, q) = canonical-written same g form e in
      let (v, _, k) = form-row now h q r m in
      subst (λ (r : Row L). Ascending r.1) k (row-ascending same g (reverse now) v)

  pub form-features : (r : Row L) → Memᴰ r form → (l : ℕ × ℕ) → Memᴰ l r.1 → l.0 < 64
  form-features r m l i =
      let (now, h, _, q) = canonical-written same g form e in
      let (v, _, k) = form-row now h q r m in
      (row-link same g (reverse now) v l (subst (λ (r : Row L). Memᴰ l r.1) (sym k) i)).0

  pub form-targets : (r : Row L) → Memᴰ r form → (l : ℕ × ℕ) → Memᴰ l r.1 → l.1 < length form
  form-targets r m l i =
      let (now, h, _, q) = canonical-written same g form e in
      let (v, reached, k) = form-row now h q r m in
      let (_, (w, n, at)) = row-link same g (reverse now) v l (subst (λ (r : Row L). Memᴰ l r.1) (sym k) i) in
      let listed = mem-reverse (reached-seen same tells g narrow now h w (reached-link g l.0 reached n)) in
      omega (arith, at, index-within same tells w (reverse now) listed, length-reverse now, form-length now q)
