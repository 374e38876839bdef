-- This file is about graphs that obey a list (document 02, Paper 9). The test of rows is the condition over paths. For every list over an
-- accepted table, common parts and combinations of graphs of any size that obey the list obey it too.
use mathlib.Core.Path.{◌≡◌, refl, sym, ◌∙◌, ap, subst}
use mathlib.Core.Bool.{Bool, true, false}
use mathlib.Core.List.Memᴰ
use mathlib.Core.List.{List, [], ◌∷◌, ◌++◌, Memᴰ}
use mathlib.Core.Logic.{◌↔◌, ⊎_elim}
use mathlib.Core.Option.{Option, some}
use Prim.Native.Nat.{ℕ, suc, ◌<◌}
use native.Mathlib.Omega.{arith}
use native.Mathlib.Decide.{dec_lt}
use lib.Dec.{eqb}
use lib.ListN.{length, get_or, get_or-eq_default}
use Rattle.graphs.specs.Graph.{Graph, SameMeaning, walk}
use Rattle.graphs.specs.Rows.{Row, target}
use Rattle.graphs.specs.Generalize.{IsGeneralization, generalization}
use Rattle.graphs.specs.Unify.{Joined, left, right, flip, chain, down}
use Rattle.graphs.proofs.Walk.{follow-last, walk-snoc}
use Rattle.graphs.proofs.Lists.{tells-eqb}
use Rattle.graphs.proofs.Search.{true-false}
use Rattle.graphs.proofs.Order.{all_of-true, true-all_of}
use Rattle.graphs.proofs.Below.{same_refl}
use Rattle.graphs.proofs.Decided.{refute-on-numbers}
use Rattle.graphs.proofs.Product.{product-is-generalization}
use Rattle.lattice.specs.Label.{Label, no_label}
use Rattle.lattice.specs.Labels.{table_labels, OfAnySize, LeastOfAnySize, GreatestOfAnySize, IsCombination}
use Rattle.lattice.specs.Table as types
use Rattle.lattice.proofs.Laws.{zero-type, below-transitive, join-exists}
use Rattle.lattice.proofs.Lawful.{inside}
use Rattle.lattice.proofs.Relabel.{same-below-right}
use Rattle.lattice.proofs.Transfer.{same-of-any-size}
use Rattle.lattice.proofs.AnySize.{below_both, generalization-least, greatest-unique, greatest-sides, same-greatest, unification-exists, unification-combination, unification-greatest}
use Rattle.encode.proofs.Links.{target-member}
use Rattle.record.specs.Read.{graph_of_rows}
use Rattle.record.specs.Appropriate.{list_accepted, allowed, row_appropriate, appropriate, Appropriate}
use Rattle.record.proofs.Nodes.{target-source, node_row, reached-inside}
use Rattle.record.proofs.Accepted.{Rules, rules-linked}
use Rattle.record.proofs.Allowed.{list-long, list-entry}

-- The rows of an accepted record.

-- a row among rows is that of a node
row-node : (rows : List (Row Label)) (r : Row Label) → Memᴰ r rows → (v : ℕ) × (v < length rows) × (get_or rows v (no_label, []) ≡ r)
row-node [] r m = absurd (Memᴰ.not-nil m)
row-node (x ∷ rows) r m =
    ⊎_elim (λ (e : r ≡ x). (0, omega arith, sym e))
    (λ i. let (v, h, e) = row-node rows r i in (suc v, omega arith, e)) (Memᴰ.cases_cons m)

module _ (n : ℕ) (t list : List ℕ) (rows : List (Row Label)) (rules : Rules n rows) where
  -- the test is the condition over paths
  pub appropriate-exact : (appropriate t list rows ≡ true) ↔ Appropriate t list (graph_of_rows rows)
  unfolding appropriate row_appropriate
  appropriate-exact = (
    λ e p v w f d l.
        let row : Row Label = get_or rows v (no_label, []) in
        all_of-true row.1 (λ l. allowed t list row.0.type l.0)
        (all_of-true rows (row_appropriate t list) e row (node_row rows v (reached-inside rows (rules-linked rules) v (p, d)))) (f, w)
        (target-source row.1 f w l),
    λ all.
        true-all_of rows (row_appropriate t list) λ r m.
        true-all_of r.1 (λ l. allowed t list r.0.type l.0) λ l i.
        let (v, h, e) = row-node rows r m in
        let (p, d) = rules.reached v h in
        ap (λ (x : Row Label). allowed t list x.0.type l.0) (sym e) ∙
        all p v l.1 l.0 d
        (ap (λ (x : Row Label). target x.1 l.0) e ∙ target-member l r.1 (rules.ordered r m).0 i),
  )

-- graphs of one meaning obey the same lists
pub appropriate-same : (n : ℕ) (t list : List ℕ) {A B : Type 0} (g : Graph Label A) (h : Graph Label B) → SameMeaning (table_labels n t) g h →
    Appropriate t list g → Appropriate t list h
appropriate-same n t list g h same obeys p v w f e l =
    let (x, d, k) = same.back p v e in
    let (y, c, _) = same.back (p ++ (f ∷ [])) w (walk-snoc h p f e ∙ l) in
    ap (λ (a : Label). allowed t list a.type f) (sym k) ∙ obeys p x y f d (sym (walk-snoc g p f d) ∙ c)

-- A list with one element at the end.
snoc-parts : (p q : List ℕ) (f k : ℕ) → p ++ (f ∷ []) ≡ q ++ (k ∷ []) → (p ≡ q) × (f ≡ k)
snoc-parts [] [] f k e = let h : f ≡ k = cc in (refl, h)
snoc-parts [] (y ∷ []) f k e = let z : ◌≡◌ {A = List ℕ} [] (k ∷ []) = cc in let x : ◌≡◌ {A = ℕ} 0 1 = cc in absurd (omega arith)
snoc-parts [] (y ∷ z ∷ q) f k e = let x : ◌≡◌ {A = ℕ} 0 1 = cc in absurd (omega arith)
snoc-parts (x ∷ []) [] f k e = let z : ◌≡◌ {A = ℕ} 0 1 = cc in absurd (omega arith)
snoc-parts (x ∷ z ∷ p) [] f k e = let z : ◌≡◌ {A = ℕ} 0 1 = cc in absurd (omega arith)
snoc-parts (x ∷ p) (y ∷ q) f k e =
    let h : x ≡ y = cc in
    let rest : p ++ (f ∷ []) ≡ q ++ (k ∷ []) = cc in
    let (a, b) = snoc-parts p q f k rest in
    (ap (λ (l : List ℕ). x ∷ l) a ∙ ap (λ (i : ℕ). i ∷ q) h, b)

module _ {L A B : Type 0} (g : Graph L A) (h : Graph L B) where
  -- a path that shares with p goes on by f in one of the graphs
  data Goes (p : List ℕ) (f : ℕ) : Type 0 where
    first : (q : List ℕ) (v w : A) → Joined g h p q → walk g q ≡ some v → g.link v f ≡ some w → Goes p f
    second : (q : List ℕ) (v w : B) → Joined g h p q → walk h q ≡ some v → h.link v f ≡ some w → Goes p f

  -- where a path with a last feature lies in a class, its start goes on by that feature
  abbrev Ends : List ℕ → Type 0
  Ends a = (p : List ℕ) (f : ℕ) → a ≡ p ++ (f ∷ []) → Goes p f

  goes-joined : {p q : List ℕ} (f : ℕ) → Joined g h q p → Goes p f → Goes q f
  goes-joined f j (first r v w k d l) = first r v w (chain j k) d l
  goes-joined f j (second r v w k d l) = second r v w (chain j k) d l

  ends-left : (a : List ℕ) (x : A) → walk g a ≡ some x → Ends a
  ends-left a x e p f q =
      let (v, d, l) = follow-last g.link (some g.root) p f x (ap (walk g) (sym q) ∙ e) in
      first p v x (left (v, d, d)) d l

  ends-right : (a : List ℕ) (x : B) → walk h a ≡ some x → Ends a
  ends-right a x e p f q =
      let (v, d, l) = follow-last h.link (some h.root) p f x (ap (walk h) (sym q) ∙ e) in
      second p v x (right (v, d, d)) d l

  joined-ends : {a b : List ℕ} → Joined g h a b → Ends a × Ends b
  joined-ends {a} {b} (left (x, d, e)) = (ends-left a x d, ends-left b x e)
  joined-ends {a} {b} (right (x, d, e)) = (ends-right a x d, ends-right b x e)
  joined-ends (flip j) = let (x, y) = joined-ends j in (y, x)
  joined-ends (chain j k) = ((joined-ends j).0, (joined-ends k).1)
  joined-ends (down {p} {q} f j self) = (
    (joined-ends self).0,
    λ r k e.
        let (same, feature) = snoc-parts q r f k e in
        subst (λ (i : ℕ). Goes r i) feature
        (subst (λ (s : List ℕ). Goes s f) same (goes-joined f (flip j) ((joined-ends self).0 p f refl))),
  )

module _ (n : ℕ) (t : List ℕ) (ok : types.accepted n t ≡ true) (list : List ℕ) (listed : list_accepted n list ≡ true) where
  -- an entry is a type, and behind the list stands 0
  entry-type : (f : ℕ) → get_or list f 0 < n
  entry-type f = go (dec_lt f 64)
    where
      go : Dec (f < 64) → get_or list f 0 < n
      go (yes h) = list-entry n list listed f h
      go (no d) =
          subst (λ (i : ℕ). i < n) (sym (get_or-eq_default list 0 (omega (arith, list-long n list listed)))) (zero-type n t ok)

  module _ {A B : Type 0} (g : Graph Label A) (h : Graph Label B) (a : OfAnySize n t g) (b : OfAnySize n t h) (x : Appropriate t list g)
      (y : Appropriate t list h) where
    -- The common part obeys the list: its paths are paths of both, and the join of two types below an entry is below the entry.
    pub common-obeys : {C : Type 0} (k : Graph Label C) → IsGeneralization (table_labels n t) g h k → Appropriate t list k
    common-obeys k is p v w f e l =
        let (i, j, d, c, q) = is.there p v e in
        let (i', j', d', c', _) = is.there (p ++ (f ∷ [])) w (walk-snoc k p f e ∙ l) in
        let one = x p i i' f d (sym (walk-snoc g p f d) ∙ d') in
        let other = y p j j' f c (sym (walk-snoc h p f c) ∙ c') in
        let (m, joins) = join-exists n t ok (g.label i).type (h.label j).type (a.typed i (p, d)).type (b.typed j (p, c)).type in
        ap (λ (s : Label). allowed t list s.type f) q ∙ ap (λ (o : Option ℕ). types.below t (types.cell o) (get_or list f 0)) joins.is ∙
        joins.least (get_or list f 0) (entry-type f) one other

    -- The least graph of any size above both obeys the list.
    pub least-obeys : {C : Type 0} (k : Graph Label C) → LeastOfAnySize n t g h k → Appropriate t list k
    least-obeys k best =
        let product = generalization (table_labels n t) g h in
        let least = generalization-least n t ok g h a b in
        appropriate-same n t list product k
        ((below_both n t ok product k least.of-any-size best.of-any-size).1 (
          least.least k best.of-any-size best.left best.right,
          best.least product least.of-any-size least.left least.right,
        ))
        (common-obeys product (product-is-generalization (table_labels n t) g h))

    -- The combination obeys the list: a class goes on by a feature where one of its paths does, and its type is below the type there.
    pub combination-obeys : {C : Type 0} (u : Graph Label C) → IsCombination n t g h u → Appropriate t list u
    combination-obeys u is p v w f e l =
        let ends : walk u (p ++ (f ∷ [])) ≡ some w = walk-snoc u p f e ∙ l in
        go ((joined-ends g h ((is.corefers (p ++ (f ∷ [])) (p ++ (f ∷ []))).0 (w, ends, ends))).0 p f refl)
      where
        go : Goes g h p f → allowed t list (u.label v).type f ≡ true
        go (first q i j k d m) =
            below-transitive n t ok (u.label v).type (g.label i).type (get_or list f 0) (is.labels p v e).known.type
            (a.typed i (q, d)).type (entry-type f) (inside n t (u.label v) (g.label i) ((is.labels p v e).under.first q i k d)).type (x q i j f d m)
        go (second q i j k d m) =
            below-transitive n t ok (u.label v).type (h.label i).type (get_or list f 0) (is.labels p v e).known.type
            (b.typed i (q, d)).type (entry-type f) (inside n t (u.label v) (h.label i) ((is.labels p v e).under.second q i k d)).type (y q i j f d m)

  -- The greatest graph of any size below both obeys the list, whatever its nodes are.
  pub greatest-obeys : {A B C : Type 0} (g : Graph Label A) (h : Graph Label B) → OfAnySize n t g → OfAnySize n t h → Appropriate t list g →
      Appropriate t list h → (u : Graph Label C) → GreatestOfAnySize n t g h u → Appropriate t list u
  greatest-obeys g h a b x y u best p v w f e l = go (allowed t list (u.label v).type f) refl
    where
      go : (o : Bool) → allowed t list (u.label v).type f ≡ o → o ≡ true
      go true q = refl
      go false q =
          absurd
          (refute-on-numbers g a.any-size λ i same.
          refute-on-numbers h b.any-size λ j means.
          let one = same-of-any-size n t ok g i same a in
          let two = same-of-any-size n t ok h j means b in
          let (z, answers) =
          unification-exists n t ok eqb eqb tells-eqb tells-eqb i j one two u best.of-any-size (same-below-right same best.left)
          (same-below-right means best.right) in
          let (size, is) = unification-combination n t ok eqb eqb tells-eqb tells-eqb i j one two z answers in
          let found = unification-greatest n t ok eqb eqb tells-eqb tells-eqb i j one two z answers in
          let half = same-greatest n t ok g h u i u same (same_refl u) best in
          let whole = greatest-sides n t ok j i u (same-greatest n t ok h i u j u means (same_refl u) (greatest-sides n t ok i h u half)) in
          true-false
          (appropriate-same n t list z u (greatest-unique n t ok i j z u found whole)
          (combination-obeys i j one two (appropriate-same n t list g i same x) (appropriate-same n t list h j means y) z is) p v w f e l)
          q)
