-- This file shows when a graph is too large to be written: the written form says so exactly where 256 different nodes are reached, or else
-- 2,049 different links leave reached nodes. The visit lists every reached node once, and the links of the nodes listed are
-- counted once each; a list without repetition inside another is no longer than the other.
use mathlib.Core.Path.{◌≡◌, refl, sym, ◌∙◌, ap, subst}
use mathlib.Core.Bool.{Bool, true, false, cond}
use mathlib.Core.List.Memᴰ
use mathlib.Core.List.{
  List,
  [],
  ◌∷◌,
  map,
  flat_map,
  Memᴰ,
}
use mathlib.Core.Logic.{◌↔◌}
use mathlib.Core.Option
use mathlib.Core.Option.{Option, none, some, map-eq-some_iff}
use Prim.Native.Nat.{ℕ, ◌<◌}
use native.Mathlib.Omega.{arith}
use borrow.Author.Tests.{leb-true, leb-false}
use lib.Dec.{leb}
use lib.ListN.{length, length-append, length-map}
use Rattle.graphs.specs.Graph.{Graph, TellsApart, Reached}
use Rattle.graphs.specs.Rows.{Row, features, links_of}
use Rattle.graphs.specs.Number.{Canonical, canonical, counted, link_count, many_links, many_nodes, visit, written}
use Rattle.graphs.specs.Large.{Distinct, ManyNodes, ManyLinks, Ascending}
use Rattle.graphs.proofs.Walk.{reached-root, reached-link}
use Rattle.graphs.proofs.Lists.{mem-features, flat_map-member, flat_map-source, distinct-bound, distinct-flat_map}
use Rattle.graphs.proofs.Rows.{links_of-length, links_of-source, links_of-member, links_of-ascending}
use Rattle.graphs.proofs.Form.Visited.{visit-many}
use Rattle.graphs.proofs.Form.Canonical.{seen-reached, reached-seen, seen-distinct, seen-short}

-- Links of nodes that are listed.

-- features of one node, in order, make different links
ascending-distinct : {A : Type 0} (v : A) (ls : List (ℕ × ℕ)) → Ascending ls → Distinct {A = A × ℕ} (map (λ l. (v, l.0)) ls)
ascending-distinct v [] a = tt
ascending-distinct {A} v (l ∷ ls) a = (
  λ m. let (k, i, e) = Memᴰ.of_map {B = A × ℕ} (λ l. (v, l.0)) ls m in omega (arith, a.0 k i, ap (λ (x : A × ℕ). x.1) e),
  ascending-distinct v ls a.1,
)

module _ {A : Type 0} (link : A → ℕ → Option A) where
  -- the features of a node; the targets do not matter here, and each is 0
  row_links : A → List (ℕ × ℕ)
  row_links v = links_of (λ f. Option.map (λ _. 0) (link v f)) features

  -- the links of a node, by its features
  leaving : A → List (A × ℕ)
  leaving v = map (λ l. (v, l.0)) (row_links v)

  leaving-member : (v w : A) (f : ℕ) → f < 64 → link v f ≡ some w → Memᴰ (v, f) (leaving v)
  unfolding leaving row_links
  leaving-member v w f h e =
      Memᴰ.map {B = A × ℕ} (λ l. (v, l.0))
      (links_of-member (λ f. Option.map (λ _. 0) (link v f)) (mem-features f h) (ap (Option.map (λ _. 0)) e))

  leaving-source : (v : A) (l : A × ℕ) → Memᴰ l (leaving v) → (v ≡ l.0) × ((w : A) × (link l.0 l.1 ≡ some w))
  unfolding leaving row_links
  leaving-source v l m =
      let (k, i, e) = Memᴰ.of_map {B = A × ℕ} (λ l. (v, l.0)) (row_links v) m in
      let (_, q) = links_of-source (λ f. Option.map (λ _. 0) (link v f)) features k i in
      let (w, h, _) = (map-eq-some_iff {B = ℕ} (λ _. 0) (link v k.0)).0 q in
      (ap (λ (x : A × ℕ). x.0) e, (w, ap (λ (x : A × ℕ). link x.0 x.1) (sym e) ∙ h))

  distinct-leaving : (vs : List A) → Distinct vs → Distinct (flat_map leaving vs)
  unfolding leaving row_links
  distinct-leaving vs d =
      distinct-flat_map leaving vs d
      (λ v. ascending-distinct v (row_links v) (links_of-ascending (λ f. Option.map (λ _. 0) (link v f)) 0 64))
      (λ v w l m n. (leaving-source v l m).0 ∙ sym (leaving-source w l n).0)

  leaving-length : (vs : List A) → length (flat_map leaving vs) ≡ link_count link vs
  unfolding flat_map link_count leaving row_links
  leaving-length [] = refl
  leaving-length (v ∷ vs) =
      omega (
        arith,
        length-append (leaving v) (flat_map leaving vs),
        length-map {B = A × ℕ} (row_links v) (λ l. (v, l.0)),
        links_of-length link (λ _. 0) v features,
        leaving-length vs,
      )

-- where nodes are listed, the answer is not that they are too many
listed-few : {L : Type 0} (t : Bool) (rows : List (Row L)) → cond t (written rows) many_links ≡ many_nodes → ⊥
listed-few true rows e = let z : ◌≡◌ {A = ℕ} 0 1 = cc in omega arith
listed-few false rows e = let z : ◌≡◌ {A = ℕ} 0 1 = cc in omega arith

module _ {L A : Type 0} (same : A → A → Bool) (tells : TellsApart same) (g : Graph L A)
    (narrow : (v w : A) (f : ℕ) → Reached g v → g.link v f ≡ some w → f < 64) where
  -- a visit that gives nothing has met too many nodes
  none_seen : visit same g.link 255 g.root [] ≡ none → ManyNodes g
  none_seen e = visit-many same tells g.link (Reached g) (λ v w f r l. reached-link g f r l) narrow g.root (reached-root g) e

  -- a visit that lists nodes lists all of them, so that no more are reached
  some-seen : (now : List A) → visit same g.link 255 g.root [] ≡ some now → ManyNodes g → ⊥
  some-seen now e (xs, d, all, h) =
      let short = distinct-bound xs now d (λ x m. reached-seen same tells g narrow now e x (all x m)) in
      omega (arith, seen-short same tells g narrow now e)

  -- the links counted are those of reached nodes, each once
  many-seen : (now : List A) → visit same g.link 255 g.root [] ≡ some now → ManyLinks g ↔ (2048 < link_count g.link now)
  many-seen now e = (there, back)
    where
      listed : (l : A × ℕ) → Reached g l.0 × ((w : A) × (g.link l.0 l.1 ≡ some w)) →
          Memᴰ l (flat_map (leaving g.link) now)
      listed l (r, (w, k)) =
          flat_map-member (leaving g.link) (reached-seen same tells g narrow now e l.0 r)
          (leaving-member g.link l.0 w l.1 (narrow l.0 w l.1 r k) k)

      there : ManyLinks g → 2048 < link_count g.link now
      there (ls, d, all, h) =
          let short = distinct-bound ls (flat_map (leaving g.link) now) d (λ l m. listed l (all l m)) in
          omega (arith, leaving-length g.link now)

      back : 2048 < link_count g.link now → ManyLinks g
      back h = (
        flat_map (leaving g.link) now,
        distinct-leaving g.link now (seen-distinct same tells g narrow now e),
        λ l m.
            let (v, i, n) = flat_map-source (leaving g.link) now m in
            let (q, k) = leaving-source g.link v l n in
            (subst (Reached g) q (seen-reached same tells g narrow now e v i), k),
        omega (arith, leaving-length g.link now),
      )

  -- "result over 255 nodes"
  pub canonical-many-nodes : (canonical same g ≡ many_nodes) ↔ ManyNodes g
  unfolding canonical
  canonical-many-nodes = go (visit same g.link 255 g.root []) refl
    where
      go : (o : Option (List A)) → visit same g.link 255 g.root [] ≡ o → (counted same g o ≡ many_nodes) ↔ ManyNodes g
      go none e = (λ q. none_seen e, λ m. refl)
      go (some now) e = (λ q. absurd (listed-few (leb (link_count g.link now) 2048) _ q), λ m. absurd (some-seen now e m))

  -- "or 2,048 links"
  pub canonical-many-links : (canonical same g ≡ many_links) ↔ ((ManyNodes g → ⊥) × ManyLinks g)
  unfolding canonical
  canonical-many-links = go (visit same g.link 255 g.root []) refl
    where
      Said : Canonical L → Type 0
      Said c = (c ≡ many_links) ↔ ((ManyNodes g → ⊥) × ManyLinks g)

      at : (now : List A) → visit same g.link 255 g.root [] ≡ some now → (t : Bool) →
          leb (link_count g.link now) 2048 ≡ t → (rows : List (Row L)) → Said (cond t (written rows) many_links)
      at now e true h rows = (
        λ q. let z : ◌≡◌ {A = ℕ} 0 1 = cc in absurd (omega arith),
        λ (few, many). absurd (omega (arith, (many-seen now e).0 many, leb-true (link_count g.link now) 2048 h)),
      )
      at now e false h rows = (λ q. (some-seen now e, (many-seen now e).1 (leb-false (link_count g.link now) 2048 h)), λ m. refl)

      go : (o : Option (List A)) → visit same g.link 255 g.root [] ≡ o → Said (counted same g o)
      go none e = (
        λ q. let z : ◌≡◌ {A = ℕ} 0 1 = cc in absurd (omega arith),
        λ (few, many). absurd (few (none_seen e)),
      )
      go (some now) e = at now e (leb (link_count g.link now) 2048) refl _

  -- A graph is written exactly where it has neither too many nodes nor too many links.
  pub canonical-fits : ((ManyNodes g → ⊥) × (ManyLinks g → ⊥)) ↔ ((form : List (Row L)) × (canonical same g ≡ written form))
  canonical-fits = (there (canonical same g) refl, back)
    where
      there : (c : Canonical L) → canonical same g ≡ c → (ManyNodes g → ⊥) × (ManyLinks g → ⊥) →
          (form : List (Row L)) × (canonical same g ≡ written form)
      there many_nodes e (nodes, links) = absurd (nodes (canonical-many-nodes.0 e))
      there many_links e (nodes, links) = absurd (links (canonical-many-links.0 e).1)
      there (written form) e no_more = (form, e)

      back : (form : List (Row L)) × (canonical same g ≡ written form) → (ManyNodes g → ⊥) × (ManyLinks g → ⊥)
      back (form, e) = (few, λ m. few-links (canonical-many-links.1 (few, m)))
        where
          few : ManyNodes g → ⊥
          few m =
              let h : canonical same g ≡ many_nodes = canonical-many-nodes.1 m in
              let z : ◌≡◌ {A = ℕ} 0 1 = cc in
              omega arith

          few-links : canonical same g ≡ many_links → ⊥
          few-links h = let z : ◌≡◌ {A = ℕ} 0 1 = cc in omega arith
