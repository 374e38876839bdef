-- This file has the laws of values along links (`along_links`): the values depend on the links of the nodes alone, there is one for each
-- link, and each stands at the place of its link in record order.
use mathlib.Core.Path.{◌≡◌, refl, sym, ◌∙◌, ap, ap₂, subst}
use mathlib.Core.Bool.{Bool, true, false, cond}
use mathlib.Core.List.{List, [], ◌∷◌, ◌++◌, map, reverse}
use mathlib.Core.Option
use mathlib.Core.Option.{Option, none, some}
use Prim.Native.Nat.{ℕ, suc, ◌+◌, ◌<◌}
use native.Mathlib.Omega.{arith}
use lib.Dec.{leb}
use lib.ListN.{length, get_or, length-map, length-append}
use Rattle.graphs.specs.Graph.{Graph, TellsApart, Reached, walk}
use Rattle.graphs.specs.Rows.{Row, features, links_of, add_link, graph_of}
use Rattle.graphs.specs.Number.{canonical, counted, index_of, link_count, many_links, row_of, visit, written}
use Rattle.graphs.specs.Large.{links_in}
use Rattle.graphs.specs.Difference.{Link}
use Rattle.graphs.specs.Reasons.{along_links, links_from_row, links_in_order, order_in, written_order}
use Rattle.graphs.proofs.Walk.{option-same}
use Rattle.graphs.proofs.Rows.{links_of-length}
use Rattle.graphs.proofs.Form.Invariant.{Pointwise, empty, more, pointwise-length, pointwise-append, pointwise-at, links_of-cong}
use Rattle.graphs.proofs.Form.Canonical.{canonical-written, form-walk}

-- graphs with the same links at nodes where P holds have the same values along these nodes
pub along-same : {L M X : Type 0} (P : ℕ → Type 0) (d : Graph L ℕ) (e : Graph M ℕ) (value : Link ℕ → ℕ → X) →
    ((v f : ℕ) → P v → d.link v f ≡ e.link v f) → {vs ws : List ℕ} → Pointwise (λ x y. P x × (x ≡ y)) vs ws →
    along_links d value vs ≡ along_links e value ws
unfolding along_links
along-same P d e value same empty = refl
along-same {X = X} P d e value same (more {v = v} {w = w} r rs) =
    ap₂ (λ (xs ys : List X). xs ++ ys)
    (ap (λ (ls : List (ℕ × ℕ)). map {B = X} (λ l. value (v, l.0) l.1) ls)
    (links_of-cong (d.link v) (e.link v) (λ f. same v f r.0) features)
    ∙ ap (λ (u : ℕ). map {B = X} (λ l. value (u, l.0) l.1) (links_of (e.link u) features)) r.1)
    (along-same P d e value same rs)

module _ {L X : Type 0} (same : ℕ → ℕ → Bool) (d : Graph L ℕ) (value : Link ℕ → ℕ → X) where
  row-length : (nodes : List ℕ) (v : ℕ) → length (map (λ l. value (v, l.0) l.1) (links_of (d.link v) features)) ≡ length (row_of same d nodes v).1
  unfolding row_of
  row-length nodes v =
      length-map (links_of (d.link v) features) (λ l. value (v, l.0) l.1)
      ∙ ap length (links_of-cong (d.link v) (λ f. Option.map (λ x. x) (d.link v f)) (λ f. option-same (d.link v f)) features)
      ∙ links_of-length d.link (λ x. x) v features
      ∙ sym (links_of-length d.link _ v features)

  rows-length : (nodes vs : List ℕ) → length (along_links d value vs) ≡ links_in (map (row_of same d nodes) vs)
  unfolding along_links links_in
  rows-length nodes [] = refl
  rows-length nodes (v ∷ vs) =
      length-append (map (λ l. value (v, l.0) l.1) (links_of (d.link v) features)) (along_links d value vs)
      ∙ ap₂ (λ (m n : ℕ). m + n) (row-length nodes v) (rows-length nodes vs)

  -- one value for each link of the written form
  pub written-length : (rows : List (Row L)) → canonical same d ≡ written rows →
      length (along_links d value (written_order same d)) ≡ links_in rows
  unfolding canonical written_order
  written-length rows e = found (visit same d.link 255 d.root []) e
    where
      found : (o : Option (List ℕ)) → counted same d o ≡ written rows → length (along_links d value (order_in o)) ≡ links_in rows
      found none q = let z : ◌≡◌ {A = ℕ} 0 1 = cc in absurd (omega arith)
      found (some seen) q = chosen (leb (link_count d.link seen) 2048) q
        where
          chosen : (b : Bool) → cond b (written (map (row_of same d (reverse seen)) (reverse seen))) many_links ≡ written rows →
              length (along_links d value (reverse seen)) ≡ links_in rows
          chosen true p = rows-length (reverse seen) (reverse seen) ∙ ap links_in (let z : map (row_of same d (reverse seen)) (reverse seen) ≡ rows = cc in z)
          chosen false p = let z : ◌≡◌ {A = ℕ} 0 1 = cc in absurd (omega arith)

  -- x is the value of the link l of the written form, whose nodes are given in their order
  abbrev ValueOf : List ℕ → X → Link ℕ → Type 0
  ValueOf nodes x l = (w : ℕ) × (d.link (get_or nodes l.0 0) l.1 ≡ some w) × (x ≡ value (get_or nodes l.0 0, l.1) w)

  -- the links of v by the features given, with the numbers of the nodes that they enter
  abbrev numbered : List ℕ → ℕ → List ℕ → List (ℕ × ℕ)
  numbered nodes v fs = links_of (λ f. Option.map (λ w. index_of same w nodes) (d.link v f)) fs

  row-values : (nodes : List ℕ) (k v : ℕ) → get_or nodes k 0 ≡ v → (fs : List ℕ) →
      Pointwise (ValueOf nodes) (map (λ l. value (v, l.0) l.1) (links_of (d.link v) fs)) (map (λ l. (k, l.0)) (numbered nodes v fs))
  unfolding links_of
  row-values nodes k v e [] = empty
  row-values nodes k v e (f ∷ fs) = go (d.link v f) refl (row-values nodes k v e fs)
    where
      go : (o : Option ℕ) → d.link v f ≡ o →
          Pointwise (ValueOf nodes) (map (λ l. value (v, l.0) l.1) (links_of (d.link v) fs)) (map (λ l. (k, l.0)) (numbered nodes v fs)) →
          Pointwise (ValueOf nodes) (map (λ l. value (v, l.0) l.1) (add_link f o (links_of (d.link v) fs)))
          (map (λ l. (k, l.0)) (add_link f (Option.map (λ w. index_of same w nodes) o) (numbered nodes v fs)))
      go none l later = later
      go (some w) l later = more (w, ap (λ (u : ℕ). d.link u f) e ∙ l, ap (λ (u : ℕ). value (u, f) w) (sym e)) later

  rows-values : (nodes : List ℕ) (k : ℕ) (vs : List ℕ) → ((j : ℕ) → get_or nodes (k + j) 0 ≡ get_or vs j 0) →
      Pointwise (ValueOf nodes) (along_links d value vs) (links_from_row k (map (row_of same d nodes) vs))
  unfolding along_links links_from_row row_of
  rows-values nodes k [] at = empty
  rows-values nodes k (v ∷ vs) at =
      pointwise-append (row-values nodes k v (ap (λ (j : ℕ). get_or nodes j 0) (omega arith) ∙ at 0) features)
      (rows-values nodes (suc k) vs (λ j. ap (λ (i : ℕ). get_or nodes i 0) (omega arith) ∙ at (suc j)))

  written-rows : (rows : List (Row L)) → canonical same d ≡ written rows →
      map (row_of same d (written_order same d)) (written_order same d) ≡ rows
  unfolding written_order
  written-rows rows e =
      let (now, h, _, q) = canonical-written same d rows e in
      ap (λ (o : Option (List ℕ)). map (row_of same d (order_in o)) (order_in o)) h ∙ q

  written-values : (rows : List (Row L)) → canonical same d ≡ written rows →
      Pointwise (ValueOf (written_order same d)) (along_links d value (written_order same d)) (links_in_order rows)
  written-values rows e =
      subst (λ (r : List (Row L)). Pointwise (ValueOf (written_order same d)) (along_links d value (written_order same d)) (links_from_row 0 r))
      (written-rows rows e)
      (rows-values (written_order same d) 0 (written_order same d) (λ j. ap (λ (i : ℕ). get_or (written_order same d) i 0) (omega arith)))

  -- The value at place i is that of the link at place i in record order: every path that leads to the link's node in the written form
  -- leads, in the graph, to the node that the link leaves.
  pub written-value : TellsApart same → ((v w f : ℕ) → Reached d v → d.link v f ≡ some w → f < 64) → (past : L) (rows : List (Row L)) →
      canonical same d ≡ written rows → (i : ℕ) → i < links_in rows → (x : X) (k f : ℕ) →
      ◌≡◌ {A = Link ℕ} (get_or (links_in_order rows) i (0, 0)) (k, f) → (p : List ℕ) → walk (graph_of past rows) p ≡ some k →
      (u : ℕ) × (w : ℕ) × (walk d p ≡ some u) × (d.link u f ≡ some w) ×
      (get_or (along_links d value (written_order same d)) i x ≡ value (u, f) w)
  written-value tells narrow past rows e i h x k f at p a =
      let all = written-values rows e in
      let inside : i < length (links_in_order rows) = omega (arith, written-length rows e, pointwise-length all) in
      let (w, l, q) =
      subst (ValueOf (written_order same d) (get_or (along_links d value (written_order same d)) i x)) at (pointwise-at all i inside x (0, 0)) in
      (get_or (written_order same d) k 0, w, form-walk same tells d narrow past rows e 0 p k a, l, q)
