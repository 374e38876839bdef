-- The written form has the meaning of the graph that was written: node v of the graph and row `index_of v` of its form are alike. So
-- graphs that fit have equal meaning exactly when they have equal forms, and a form is written again as it is.
use mathlib.Core.Path.{◌≡◌, refl, sym, ◌∙◌, ap, subst}
use mathlib.Core.Bool.{Bool, true, false, cond}
use mathlib.Core.List.Memᴰ
use mathlib.Core.List.{
  List,
  [],
  ◌∷◌,
  ◌++◌,
  map,
  map-id,
  reverse,
  Memᴰ,
}
use mathlib.Core.Logic.{◌↔◌, ⊎_elim}
use mathlib.Core.Option
use mathlib.Core.Option.{Option, none, some, map-eq-some_iff}
use Prim.Native.Nat.{ℕ, ◌≤◌, ◌<◌}
use native.Mathlib.Omega.{arith}
use borrow.Author.Tests.{leb-true}
use lib.Dec.{eqb, leb}
use lib.ListN.{length, get_or}
use Rattle.graphs.specs.Label.{Labels}
use Rattle.graphs.specs.Graph.{Graph, TellsApart, walk, Reached, SameMeaning}
use Rattle.graphs.specs.Map.{Exact}
use Rattle.graphs.specs.Rows.{Row, target, graph_of}
use Rattle.graphs.specs.Number.{canonical, counted, index_of, link_count, many_links, row_of, visit, written}
use Rattle.graphs.specs.Large.{Distinct}
use Rattle.graphs.specs.Reasons.{order_in, written_order}
use Rattle.graphs.proofs.Walk.{some-injective, reached-root, reached-link, snoc-induction, follow-last, follow-nil}
use Rattle.graphs.proofs.Lists.{mem-reverse, mem-unreverse, reverse_snoc, get_or-index, index-injective, index-first, tells-eqb}
use Rattle.graphs.proofs.Rows.{target-links_of}
use Rattle.graphs.proofs.Below.{exact-walk, same-sym, same-trans}
use Rattle.graphs.proofs.Form.Bisimilar.{Alike, absent, present, Bisimilar, alike-left, alike-walk, bisimilar-same}
use Rattle.graphs.proofs.Form.Invariant.{bisimilar-canonical, same-canonical}
use Rattle.graphs.proofs.Form.Visited.{Grown, visit-all, visit-first}

module _ {L A : Type 0} (same : A → A → Bool) (g : Graph L A) where
  -- What a written form was made of.
  pub canonical-written : (form : List (Row L)) → canonical same g ≡ written form →
      (now : List A) ×
      (visit same g.link 255 g.root [] ≡ some now) ×
      (link_count g.link now ≤ 2048) ×
      (map (row_of same g (reverse now)) (reverse now) ≡ form)
  unfolding canonical
  canonical-written form e = go (visit same g.link 255 g.root []) refl e
    where
      fits : (now : List A) (t : Bool) → leb (link_count g.link now) 2048 ≡ t →
          cond t (written (map (row_of same g (reverse now)) (reverse now))) many_links ≡ written form →
          (link_count g.link now ≤ 2048) × (map (row_of same g (reverse now)) (reverse now) ≡ form)
      fits now true h q = (leb-true (link_count g.link now) 2048 h, cc)
      fits now false h q = let z : ◌≡◌ {A = ℕ} 0 1 = cc in absurd (omega arith)

      go : (o : Option (List A)) → visit same g.link 255 g.root [] ≡ o → counted same g o ≡ written form →
          (now : List A) ×
          (visit same g.link 255 g.root [] ≡ some now) ×
          (link_count g.link now ≤ 2048) ×
          (map (row_of same g (reverse now)) (reverse now) ≡ form)
      go none h q = let z : ◌≡◌ {A = ℕ} 0 1 = cc in absurd (omega arith)
      go (some now) h q = let (few, r) = fits now (leb (link_count g.link now) 2048) refl q in (now, h, few, r)

module _ {L A : Type 0} (same : A → A → Bool) (tells : TellsApart same) (g : Graph L A)
    (narrow : (v w : A) (f : ℕ) → Reached g v → g.link v f ≡ some w → f < 64) where
  onto : (v w : A) (f : ℕ) → Reached g v → g.link v f ≡ some w → Reached g w
  onto v w f r e = reached-link g f r e

  grown : (now : List A) → visit same g.link 255 g.root [] ≡ some now → Grown same tells g.link (Reached g) onto narrow [] now
  grown now e = (visit-all same tells g.link (Reached g) onto narrow g.root now (reached-root g) e).0

  -- what was seen was added
  mem-new : (now : List A) (gr : Grown same tells g.link (Reached g) onto narrow [] now) (v : A) → Memᴰ v now →
      Memᴰ v gr.new
  mem-new now gr v m =
      ⊎_elim (λ n. n) (λ n. absurd (Memᴰ.not-nil n))
      (Memᴰ.append_cases gr.new (subst (λ (l : List A). Memᴰ v l) gr.joined m))

  pub seen-reached : (now : List A) → visit same g.link 255 g.root [] ≡ some now → (v : A) → Memᴰ v now → Reached g v
  seen-reached now e v m = let gr = grown now e in gr.with v (mem-new now gr v m)

  pub reached-seen : (now : List A) → visit same g.link 255 g.root [] ≡ some now → (v : A) → Reached g v → Memᴰ v now
  reached-seen now e v (p, w) =
      snoc-induction (λ q. (u : A) → walk g q ≡ some u → Memᴰ u now) base further p v w
    where
      gr : Grown same tells g.link (Reached g) onto narrow [] now
      gr = grown now e

      base : (u : A) → walk g [] ≡ some u → Memᴰ u now
      base u h =
          subst (λ (x : A). Memᴰ x now) (some-injective (sym (follow-nil g.link (some g.root)) ∙ h))
          (visit-all same tells g.link (Reached g) onto narrow g.root now (reached-root g) e).1

      further : (q : List ℕ) (f : ℕ) → ((u : A) → walk g q ≡ some u → Memᴰ u now) → (u : A) → walk g (q ++ (f ∷ [])) ≡ some u →
          Memᴰ u now
      further q f ih u h =
          let (t, ht, l) = follow-last g.link (some g.root) q f u h in
          gr.closed t (mem-new now gr t (ih t ht)) f u l

  pub seen-distinct : (now : List A) → visit same g.link 255 g.root [] ≡ some now → Distinct now
  seen-distinct now e = (grown now e).distinct tt

  pub seen-short : (now : List A) → visit same g.link 255 g.root [] ≡ some now → length now ≤ 255
  seen-short now e = (grown now e).short (omega arith)

  module _ (d : L) (now : List A) (e : visit same g.link 255 g.root [] ≡ some now) where
    nodes : List A
    nodes = reverse now

    Numbered : A → ℕ → Type 0
    Numbered v i = Memᴰ v nodes × (index_of same v nodes ≡ i)

    rows : List (Row L)
    rows = map (row_of same g nodes) nodes

    reached-listed : (v : A) → Reached g v → Memᴰ v nodes
    unfolding nodes
    reached-listed v r = mem-reverse (reached-seen now e v r)

    listed-reached : (v : A) → Memᴰ v nodes → Reached g v
    unfolding nodes
    listed-reached v m = seen-reached now e v (mem-unreverse m)

    row-at : (v : A) → Memᴰ v nodes → get_or rows (index_of same v nodes) (d, []) ≡ row_of same g nodes v
    unfolding rows
    row-at v m = get_or-index same tells (row_of same g nodes) (d, []) v nodes m

    numbered-root : Numbered g.root 0
    unfolding Numbered nodes
    numbered-root =
        let (xs, q) = visit-first same tells g.link (Reached g) onto narrow g.root now (reached-root g) e in (
          reached-listed g.root (reached-root g),
          ap (λ (l : List A). index_of same g.root (reverse l)) q
              ∙ ap (index_of same g.root) (reverse_snoc xs g.root)
              ∙ index-first same tells g.root (reverse xs),
        )

    numbered-labels : (v : A) (i : ℕ) → Numbered v i → g.label v ≡ (graph_of d rows).label i
    unfolding Numbered row_of
    numbered-labels v i (m, q) = sym (ap (λ (j : ℕ). (get_or rows j (d, [])).0) (sym q) ∙ ap (λ (r : Row L). r.0) (row-at v m))

    numbered_target : (v : A) (f : ℕ) → Memᴰ v nodes →
        (graph_of d rows).link (index_of same v nodes) f ≡ Option.map (λ w. index_of same w nodes) (g.link v f)
    unfolding row_of
    numbered_target v f m = ap (λ (r : Row L). target r.1 f) (row-at v m) ∙ target-links_of next next-narrow f
      where
        next : ℕ → Option ℕ
        next f' = Option.map (λ w. index_of same w nodes) (g.link v f')

        next-narrow : (f' w : ℕ) → next f' ≡ some w → f' < 64
        next-narrow f' w h = let (u, l, _) = (map-eq-some_iff (λ x. index_of same x nodes) (g.link v f')).0 h in narrow v u f' (listed-reached v m) l

    numbered-links : (v : A) (i f : ℕ) → Numbered v i → Alike Numbered (g.link v f) ((graph_of d rows).link i f)
    unfolding Numbered
    numbered-links v i f (m, q) =
        subst (λ (o : Option ℕ). Alike Numbered (g.link v f) o)
        (sym (ap (λ (j : ℕ). (graph_of d rows).link j f) (sym q) ∙ numbered_target v f m)) (go (g.link v f) refl)
      where
        go : (o : Option A) → g.link v f ≡ o → Alike Numbered o (Option.map (λ w. index_of same w nodes) o)
        go none l = absent
        go (some w) l = present (reached-listed w (onto v w f (listed-reached v m) l), refl)

    -- a node and its row are alike
    written-bisimilar : Bisimilar Numbered g (graph_of d rows)
    unfolding Numbered
    written-bisimilar =
        record {
          root = numbered-root;
          labels = numbered-labels;
          links = numbered-links;
          forth = λ v v' i i' (m, q) (n, r) h. sym q ∙ ap (λ (x : A). index_of same x nodes) h ∙ r;
          back = λ v v' i i' (m, q) (n, r) h. index-injective same tells v v' nodes m n (q ∙ h ∙ sym r);
        }

    -- The graph with its nodes renamed to their numbers is that of the rows.
    numbered-exact : Exact (λ v. index_of same v nodes) g (graph_of d rows)
    unfolding Numbered
    numbered-exact =
        record {
          root = numbered-root.1;
          links = λ v f r. numbered_target v f (reached-listed v r);
          labels = λ v r. sym (numbered-labels v (index_of same v nodes) (reached-listed v r, refl));
          injective = λ v w r q. index-injective same tells v w nodes (reached-listed v r) (reached-listed w q);
        }

  module _ (d : L) (form : List (Row L)) (e : canonical same g ≡ written form) where
    pub form-exact : Exact (λ v. index_of same v (written_order same g)) g (graph_of d form)
    unfolding rows nodes written_order
    form-exact =
        let (now, h, _, q) = canonical-written same g form e in
        subst (λ (o : Option (List A)). Exact (λ v. index_of same v (order_in o)) g (graph_of d form)) (sym h)
        (subst (λ (r : List (Row L)). Exact (λ v. index_of same v (reverse now)) g (graph_of d r)) q (numbered-exact d now h))

    written_listed : (v : A) → Reached g v → Memᴰ v (written_order same g)
    unfolding nodes written_order
    written_listed v r =
        let (now, h, _, _) = canonical-written same g form e in
        subst (λ (o : Option (List A)). Memᴰ v (order_in o)) (sym h) (reached-listed d now h v r)

    -- A path of the rows leads, in the graph, to the node that stands at the number of its row.
    pub form-walk : (o : A) (p : List ℕ) (k : ℕ) → walk (graph_of d form) p ≡ some k → walk g p ≡ some (get_or (written_order same g) k o)
    form-walk o p k a =
        let (v, b, at) = (map-eq-some_iff (λ x. index_of same x (written_order same g)) (walk g p)).0 (sym (exact-walk form-exact p) ∙ a) in
        b ∙ ap some (sym (ap (λ (j : ℕ). get_or (written_order same g) j o) (sym at)
        ∙ ap (λ (l : List A). get_or l (index_of same v (written_order same g)) o) (sym (map-id (written_order same g)))
        ∙ get_or-index same tells (λ x. x) o v (written_order same g) (written_listed v (p, b))))

  -- A path leads in the rows to the number of the node that it leads to.
  pub form-numbers : (d : L) (form : List (Row L)) → canonical same g ≡ written form →
      (now : List A) ×
      (visit same g.link 255 g.root [] ≡ some now) ×
      ((p : List ℕ) (v : A) → walk g p ≡ some v → walk (graph_of d form) p ≡ some (index_of same v (reverse now)))
  unfolding rows nodes Numbered
  form-numbers d form e =
      let (now, h, _, q) = canonical-written same g form e in (
        now,
        h,
        λ p v to.
            let (i, at, (_, is)) = alike-left (alike-walk (Numbered d now h) g (graph_of d (rows d now h)) (written-bisimilar d now h) p) to in
            subst (λ (r : List (Row L)). walk (graph_of d r) p ≡ some (index_of same v (reverse now))) q (at ∙ ap some (sym is)),
      )

  -- The rows, written again, are the rows.
  pub canonical-idempotent : (d : L) (form : List (Row L)) → canonical same g ≡ written form →
      canonical eqb (graph_of d form) ≡ written form
  unfolding rows nodes
  canonical-idempotent d form e =
      let (now, h, _, q) = canonical-written same g form e in
      sym
      (subst (λ (r : List (Row L)). canonical same g ≡ canonical eqb (graph_of d r)) q
      (bisimilar-canonical same eqb tells tells-eqb (Numbered d now h) g (graph_of d (rows d now h)) (written-bisimilar d now h)))
      ∙ e

module _ (𝓛 : Labels) {A : Type 0} (same : A → A → Bool) (tells : TellsApart same) (g : Graph 𝓛.L A)
    (narrow : (v w : A) (f : ℕ) → Reached g v → g.link v f ≡ some w → f < 64) where
  -- The written form has the meaning of the graph.
  pub canonical-meaning : (form : List (Row 𝓛.L)) → canonical same g ≡ written form → SameMeaning 𝓛 g (graph_of 𝓛.top form)
  unfolding rows nodes
  canonical-meaning form e =
      let (now, h, _, q) = canonical-written same g form e in
      subst (λ (r : List (Row 𝓛.L)). SameMeaning 𝓛 g (graph_of 𝓛.top r)) q
      (bisimilar-same 𝓛 (Numbered same tells g narrow 𝓛.top now h) g (graph_of 𝓛.top (rows same tells g narrow 𝓛.top now h))
      (written-bisimilar same tells g narrow 𝓛.top now h))

-- Of graphs that fit, equal meaning is exactly an equal written form.
pub canonical-exact : (𝓛 : Labels) {A B : Type 0} (sameA : A → A → Bool) (sameB : B → B → Bool) → TellsApart sameA → TellsApart sameB →
    (g : Graph 𝓛.L A) (h : Graph 𝓛.L B) → ((v w : A) (f : ℕ) → Reached g v → g.link v f ≡ some w → f < 64) →
    ((v w : B) (f : ℕ) → Reached h v → h.link v f ≡ some w → f < 64) → (form : List (Row 𝓛.L)) → canonical sameA g ≡ written form →
    SameMeaning 𝓛 g h ↔ (canonical sameB h ≡ written form)
canonical-exact 𝓛 sameA sameB tells_a tells_b g h narrowA narrowB form e = (
  λ m. sym (same-canonical 𝓛 sameA sameB tells_a tells_b g h m) ∙ e,
  λ q. same-trans (canonical-meaning 𝓛 sameA tells_a g narrowA form e) (same-sym (canonical-meaning 𝓛 sameB tells_b h narrowB form q)),
)
