-- "Every such graph comes up once": the written form of an accepted record with at most three nodes, features below F and no range is listed,
-- and it is the only listed record with that meaning.
use mathlib.Core.Path.{◌≡◌, refl, sym, ◌∙◌, ap, subst}
use mathlib.Core.Bool.{Bool, true, false, cond}
use mathlib.Core.List.Memᴰ
use mathlib.Core.List.{List, [], ◌∷◌, map, reverse, Memᴰ}
use mathlib.Core.Logic.{⊎_elim}
use mathlib.Core.Option
use mathlib.Core.Option.{Option, none, some}
use Prim.Native.Nat.{ℕ, zero, suc, ◌≤◌, ◌<◌}
use native.Mathlib.Omega.{arith}
use borrow.Author.Tests.{eqb-true, ltb-true, lt-ltb}
use lib.Dec.{eqb, leb, ltb}
use lib.ListN.{length, get_or, length-map, length-reverse}
use Rattle.graphs.specs.Graph.{Graph, TellsApart, Reached, SameMeaning}
use Rattle.graphs.specs.Rows.{Row, from, target, add_link, links_of}
use Rattle.graphs.specs.Number.{many_links, written, canonical, counted, visit, row_of, link_count, index_of}
use Rattle.graphs.specs.Order.{all_of}
use Rattle.graphs.specs.Unify.{holds}
use Rattle.graphs.proofs.Lists.{tells-eqb, mem-unreverse}
use Rattle.graphs.proofs.Order.{all_of-true, true-all_of}
use Rattle.graphs.proofs.Form.Canonical.{canonical-written, canonical-exact, seen-reached}
use Rattle.graphs.proofs.Form.Rules.{form-labels}
use Rattle.lattice.specs.Label.{Label, is_full, no_label}
use Rattle.lattice.specs.Labels.{table_labels, OfAnySize}
use Rattle.encoder.specs.Encode.{encoded}
use Rattle.record.specs.Read.{reading, accepted, graph_of_rows, reaches_all}
use Rattle.record.proofs.Readings.{reading-says}
use Rattle.record.proofs.Nodes.{narrow}
use Rattle.record.proofs.Accepted.{accepted-rules, rules-linked}
use Rattle.record.proofs.Rewritten.{written-injective, form-again}
use Rattle.record.proofs.Theorems.{written-reads, written-accepted, meaning-exact}
use Rattle.listed.specs.Listing.{Listed, features_below, unranged_rows}
use Rattle.listed.proofs.Order.{false-true, map_source}

-- The written form of rows: it has the rows of all nodes, renumbered.
form-rows : (rows form : List (Row Label)) → reaches_all rows ≡ true → canonical eqb (graph_of_rows rows) ≡ written form →
    (nodes : List ℕ) × (form ≡ map (row_of eqb (graph_of_rows rows) nodes) nodes) × (length form ≡ length rows)
unfolding canonical reaches_all
form-rows rows form all e = go (visit eqb (graph_of_rows rows).link 255 0 []) all e
  where
    go : (o : Option (List ℕ)) → holds (λ seen. eqb (length seen) (length rows)) o ≡ true → counted eqb (graph_of_rows rows) o ≡ written form →
        (nodes : List ℕ) × (form ≡ map (row_of eqb (graph_of_rows rows) nodes) nodes) × (length form ≡ length rows)
    go none h q = false-true h
    go (some seen) h q = few (leb (link_count (graph_of_rows rows).link seen) 2048) q
      where
        few : (b : Bool) → cond b (written (map (row_of eqb (graph_of_rows rows) (reverse seen)) (reverse seen))) many_links ≡ written form →
            (nodes : List ℕ) × (form ≡ map (row_of eqb (graph_of_rows rows) nodes) nodes) × (length form ≡ length rows)
        few true q =
            let same : form ≡ map (row_of eqb (graph_of_rows rows) (reverse seen)) (reverse seen) = sym (written-injective q) in
            (reverse seen, same, ap length same ∙ length-map (reverse seen) (row_of eqb (graph_of_rows rows) (reverse seen)) ∙ length-reverse seen ∙ eqb-true (length seen) (length rows) h)
        few false q = let z : ◌≡◌ {A = ℕ} 0 1 = cc in absurd (omega arith)

-- A property of every row, and of the empty row, holds for the row at each number.
row-of : (P : Row Label → Type 0) (rows : List (Row Label)) → ((r : Row Label) → Memᴰ r rows → P r) → P (no_label, []) → (v : ℕ) → P (get_or rows v (no_label, []))
row-of P [] h d v = d
row-of P (r ∷ rows) h d zero = h r (Memᴰ.head refl)
row-of P (r ∷ rows) h d (suc v) = row-of P rows (λ s m. h s (Memᴰ.tail m)) d v

target_below : (F : ℕ) (ls : List (ℕ × ℕ)) → ((l : ℕ × ℕ) → Memᴰ l ls → l.0 < F) → (f w : ℕ) → target ls f ≡ some w → f < F
unfolding target
target_below F [] h f w e = let z : ◌≡◌ {A = ℕ} 0 1 = cc in absurd (omega arith)
target_below F (l ∷ ls) h f w e = go (eqb l.0 f) refl e (target_below F ls (λ k m. h k (Memᴰ.tail m)) f w)
  where
    go : (b : Bool) → eqb l.0 f ≡ b → cond b (some l.1) (target ls f) ≡ some w → (target ls f ≡ some w → f < F) → f < F
    go true t q rest = let a = h l (Memᴰ.head refl) in let s = eqb-true l.0 f t in omega arith
    go false t q rest = rest q

links-below : (F : ℕ) (next : ℕ → Option ℕ) → ((f w : ℕ) → next f ≡ some w → f < F) → (fs : List ℕ) (l : ℕ × ℕ) → Memᴰ l (links_of next fs) → l.0 < F
unfolding links_of
links-below F next h [] l m = absurd (Memᴰ.not-nil m)
links-below F next h (f ∷ fs) l m = go (next f) refl m (links-below F next h fs l)
  where
    go : (o : Option ℕ) → next f ≡ o → Memᴰ l (add_link f o (links_of next fs)) → (Memᴰ l (links_of next fs) → l.0 < F) → l.0 < F
    go none e n rest = rest n
    go (some w) e n rest = ⊎_elim (λ (q : l ≡ (f, w)). let a = h f w e in let s : l.0 ≡ f = ap (λ (k : ℕ × ℕ). k.0) q in omega arith) rest (Memᴰ.cases_cons n)

mapped : (o : Option ℕ) (g : ℕ → ℕ) (w : ℕ) → Option.map g o ≡ some w → (v : ℕ) × (o ≡ some v)
mapped none g w e = let z : ◌≡◌ {A = ℕ} 0 1 = cc in absurd (omega arith)
mapped (some v) g w e = (v, refl)

module _ (n F : ℕ) (t bytes : List ℕ) (rows : List (Row Label)) (ok : reading n bytes ≡ accepted rows) (few : length rows ≤ 3)
    (low : features_below F rows ≡ true) (full : unranged_rows rows ≡ true) where
  -- The written form is listed and means the same.
  pub graph-listed : (form : List (Row Label)) → canonical eqb (graph_of_rows rows) ≡ written form →
      (l : Listed n F (encoded form)) × SameMeaning (table_labels n t) (graph_of_rows rows) (graph_of_rows l.form)
  unfolding features_below unranged_rows row_of is_full
  graph-listed form e =
      let (reads, own, means) = written-accepted n t bytes rows ok form e in
      let (nodes, is, long) = form-rows rows form ((reading-says n bytes (accepted rows)).0 ok).3 e in (
        record {
          form = form;
          reads = reads;
          own = own;
          bytes-are = refl;
          few = omega (arith, long);
          features = true-all_of form (λ r. all_of r.1 λ l. ltb l.0 F) (λ r m. true-all_of r.1 (λ l. ltb l.0 F) (λ l i. lt-ltb l.0 F (below nodes is r m l i)));
          unranged = true-all_of form (λ r. is_full r.0) (λ r m. plainly nodes is r m);
        },
        means,
      )
    where
      plainly : (nodes : List ℕ) → form ≡ map (row_of eqb (graph_of_rows rows) nodes) nodes → (r : Row Label) → Memᴰ r form → is_full r.0 ≡ true
      plainly nodes is r m =
          let (v, i, q) = map_source (row_of eqb (graph_of_rows rows) nodes) nodes (subst (λ (l : List (Row Label)). Memᴰ r l) is m) in
          subst (λ (x : Row Label). is_full x.0 ≡ true) (sym q)
          (row-of (λ x. is_full x.0 ≡ true) rows (λ x k. all_of-true rows (λ y. is_full y.0) full x k) refl v)

      below : (nodes : List ℕ) → form ≡ map (row_of eqb (graph_of_rows rows) nodes) nodes → (r : Row Label) → Memᴰ r form → (l : ℕ × ℕ) → Memᴰ l r.1 → l.0 < F
      below nodes is r m l i =
          let (v, j, q) = map_source (row_of eqb (graph_of_rows rows) nodes) nodes (subst (λ (x : List (Row Label)). Memᴰ r x) is m) in
          let next : ℕ → Option ℕ = λ f. Option.map (λ w. index_of eqb w nodes) ((graph_of_rows rows).link v f) in
          links-below F next
          (λ f w s. let (u, k) = mapped ((graph_of_rows rows).link v f) (λ w. index_of eqb w nodes) w s in
          target_below F (get_or rows v (no_label, [])).1
          (row-of (λ x. (k : ℕ × ℕ) → Memᴰ k x.1 → k.0 < F) rows
          (λ x y k z. ltb-true k.0 F (all_of-true x.1 (λ k. ltb k.0 F) (all_of-true rows (λ r. all_of r.1 λ l. ltb l.0 F) low x y) k z))
          (λ k z. absurd (Memᴰ.not-nil z)) v) f u k)
          (from 0 64) l (subst (λ (x : Row Label). Memᴰ l x.1) q i)

  -- No other listed record means the same.
  pub graph-once : (form : List (Row Label)) → canonical eqb (graph_of_rows rows) ≡ written form → (other : List ℕ) (listed : Listed n F other) →
      SameMeaning (table_labels n t) (graph_of_rows rows) (graph_of_rows listed.form) → other ≡ encoded form
  graph-once form e other listed means =
      listed.bytes-are ∙ sym ((meaning-exact n t bytes other rows listed.form ok listed.reads form listed.form e listed.own).0 means)

-- Theorems on a graph of any size, on nodes of any type: its written form has at most three nodes, each link of a reached node has a feature
-- below F, and no reached node has a range.
module _ (n F : ℕ) (t : List ℕ) {A : Type 0} (same : A → A → Bool) (tells : TellsApart same) (g : Graph Label A) (size : OfAnySize n t g)
    (small : n ≤ 64) (form : List (Row Label)) (e : canonical same g ≡ written form) (few : length form ≤ 3)
    (low : (v w : A) (f : ℕ) → Reached g v → g.link v f ≡ some w → f < F) (full : (v : A) → Reached g v → is_full (g.label v) ≡ true) where
  narrow-any : (v w : A) (f : ℕ) → Reached g v → g.link v f ≡ some w → f < 64
  narrow-any = size.any-size.features

  low_any : (r : Row Label) → Memᴰ r form → (l : ℕ × ℕ) → Memᴰ l r.1 → l.0 < F
  unfolding row_of
  low_any r m l i =
      let (seen, h, _, q) = canonical-written same g form e in
      let (v, j, k) = map_source (row_of same g (reverse seen)) (reverse seen) (subst (λ (x : List (Row Label)). Memᴰ r x) (sym q) m) in
      let reached : Reached g v = seen-reached same tells g narrow-any seen h v (mem-unreverse j) in
      let next : ℕ → Option ℕ = λ f. Option.map (λ w. index_of same w (reverse seen)) (g.link v f) in
      links-below F next
      (λ f w s. let (u, x) = mapped-any (g.link v f) (λ w. index_of same w (reverse seen)) w s in low v u f reached x)
      (from 0 64) l (subst (λ (x : Row Label). Memᴰ l x.1) k i)
    where
      mapped-any : (o : Option A) (h : A → ℕ) (w : ℕ) → Option.map h o ≡ some w → (v : A) × (o ≡ some v)
      mapped-any none h w q = let z : ◌≡◌ {A = ℕ} 0 1 = cc in absurd (omega arith)
      mapped-any (some v) h w q = (v, refl)

  full-any : (r : Row Label) → Memᴰ r form → is_full r.0 ≡ true
  full-any r m =
      let (v, reached, label) = form-labels same tells g narrow-any form e r m in
      subst (λ (x : Label). is_full x ≡ true) (sym label) (full v reached)

  read-any : (reading n (encoded form) ≡ accepted form) × SameMeaning (table_labels n t) g (graph_of_rows form)
  read-any = written-reads n t same tells g size form e (λ v r. let k = (size.typed v r).type in omega arith)

  -- The graph is the meaning of a listed record.
  pub any-listed : (l : Listed n F (encoded form)) × SameMeaning (table_labels n t) g (graph_of_rows l.form)
  unfolding features_below unranged_rows
  any-listed = (
    record {
      form = form;
      reads = read-any.0;
      own = form-again n t same tells g size form e;
      bytes-are = refl;
      few = few;
      features = true-all_of form (λ r. all_of r.1 λ l. ltb l.0 F) (λ r m. true-all_of r.1 (λ l. ltb l.0 F) (λ l i. lt-ltb l.0 F (low_any r m l i)));
      unranged = true-all_of form (λ r. is_full r.0) full-any;
    },
    read-any.1,
  )

  -- The graph is the meaning of no other listed record.
  pub any-once : (other : List ℕ) (listed : Listed n F other) → SameMeaning (table_labels n t) g (graph_of_rows listed.form) → other ≡ encoded form
  any-once other listed means =
      let rules = accepted-rules n other listed.form listed.reads in
      let is : canonical eqb (graph_of_rows listed.form) ≡ written form =
      (canonical-exact (table_labels n t) same eqb tells tells-eqb g (graph_of_rows listed.form) narrow-any
      (narrow listed.form (rules-linked rules)) form e).0 means in
      listed.bytes-are ∙ ap encoded (written-injective (sym listed.own ∙ is))
