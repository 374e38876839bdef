-- The written form depends on meaning alone: graphs that are alike are visited alike, so they have equal rows, and are too large
-- together.
use mathlib.Core.Path.{◌≡◌, refl, sym, ◌∙◌, ap, ap₂, subst}
use mathlib.Core.Bool.{Bool, true, false, cond, ◌||◌}
use mathlib.Core.List.Memᴰ
use mathlib.Core.List.{List, [], ◌∷◌, ◌++◌, map, reverse, reverse_aux, Memᴰ}
use mathlib.Core.Logic.{⊎_elim}
use mathlib.Core.Option
use mathlib.Core.Option.{Option, none, some, bind}
use Prim.Native.Nat.{ℕ, zero, suc, ◌+◌, ◌<◌}
use native.Mathlib.Omega.{arith}
use lib.Dec.{leb}
use lib.ListN.{length, get_or}
use Rattle.graphs.specs.Label.{Labels}
use Rattle.graphs.specs.Graph.{Graph, TellsApart, SameMeaning}
use Rattle.graphs.specs.Rows.{Row, features, links_of, add_link}
use Rattle.graphs.specs.Number.{canonical, counted, count_some, each, enter, index_of, link_count, member, otherwise, out_degree, row_of, visit, written, many_links}
use Rattle.graphs.specs.Reasons.{order_in, written_order}
use Rattle.graphs.specs.Relations.{LiesOver}
use Rattle.graphs.proofs.Form.Bisimilar.{Alike, absent, present, Bisimilar, same-bisimilar}
use Rattle.graphs.proofs.Search.{same_test}

-- lists of related elements
pub data Pointwise {A B : Type 0} (R : A → B → Type 0) : List A → List B → Type 0 where
  empty : Pointwise R [] []
  more : {v : A} {w : B} {vs : List A} {ws : List B} → R v w → Pointwise R vs ws → Pointwise R (v ∷ vs) (w ∷ ws)

pub pointwise-length : {A B : Type 0} {R : A → B → Type 0} {vs : List A} {ws : List B} → Pointwise R vs ws → length vs ≡ length ws
pointwise-length empty = refl
pointwise-length (more r rs) = ap suc (pointwise-length rs)

pub pointwise-append : {A B : Type 0} {R : A → B → Type 0} {vs xs : List A} {ws ys : List B} → Pointwise R vs ws → Pointwise R xs ys →
    Pointwise R (vs ++ xs) (ws ++ ys)
pointwise-append empty q = q
pointwise-append (more r rs) q = more r (pointwise-append rs q)

pub pointwise-at : {A B : Type 0} {R : A → B → Type 0} {vs : List A} {ws : List B} → Pointwise R vs ws → (i : ℕ) → i < length ws →
    (a : A) (b : B) → R (get_or vs i a) (get_or ws i b)
pointwise-at empty i h a b = absurd (omega arith)
pointwise-at (more r rs) zero h a b = r
pointwise-at (more r rs) (suc i) h a b = pointwise-at rs i (omega arith) a b

-- where two lists are equal element by element and P holds at each, P holds of all that the second holds
pub pointwise-listed : {A : Type 0} {P : A → Type 0} {vs ws : List A} → Pointwise (λ x y. P x × (x ≡ y)) vs ws →
    (w : A) → Memᴰ w ws → P w
pointwise-listed empty w m = absurd (Memᴰ.not-nil m)
pointwise-listed {P = P} (more r rs) w m =
    ⊎_elim (λ e. subst P (r.1 ∙ sym e) r.0) (λ n. pointwise-listed rs w n) (Memᴰ.cases_cons m)

pointwise-reverse_aux : {A B : Type 0} {R : A → B → Type 0} {vs xs : List A} {ws ys : List B} → Pointwise R vs ws →
    Pointwise R xs ys → Pointwise R (reverse_aux vs xs) (reverse_aux ws ys)
pointwise-reverse_aux empty q = q
pointwise-reverse_aux (more r rs) q = pointwise-reverse_aux rs (more r q)

pointwise-reverse : {A B : Type 0} {R : A → B → Type 0} {vs : List A} {ws : List B} → Pointwise R vs ws →
    Pointwise R (reverse vs) (reverse ws)
pointwise-reverse q = pointwise-reverse_aux q empty

alike-bind : {A B X Y : Type 0} {R : A → B → Type 0} {S : X → Y → Type 0} {x : Option A} {y : Option B} {k : A → Option X}
    {l : B → Option Y} → Alike R x y → ((v : A) (w : B) → R v w → Alike S (k v) (l w)) → Alike S (bind x k) (bind y l)
unfolding bind
alike-bind absent next = absent
alike-bind (present {v = v} {w = w} r) next = next v w r

alike-otherwise : {X Y : Type 0} {S : X → Y → Type 0} (a b : Bool) {x : Option X} {y : Option Y} (k : Unit {0} → Option X)
    (l : Unit {0} → Option Y) → a ≡ b → Alike S x y → Alike S (k tt) (l tt) → Alike S (otherwise a x k) (otherwise b y l)
alike-otherwise true true k l e r q = r
alike-otherwise false false k l e r q = q
alike-otherwise true false k l e r q = let z : ◌≡◌ {A = ℕ} 0 1 = cc in absurd (omega arith)
alike-otherwise false true k l e r q = let z : ◌≡◌ {A = ℕ} 0 1 = cc in absurd (omega arith)

pub links_of-cong : (next onto : ℕ → Option ℕ) → ((f : ℕ) → next f ≡ onto f) → (fs : List ℕ) → links_of next fs ≡ links_of onto fs
unfolding links_of
links_of-cong next onto e [] = refl
links_of-cong next onto e (f ∷ fs) = ap₂ (add_link f) (e f) (links_of-cong next onto e fs)

module _ {L A B : Type 0} (sameA : A → A → Bool) (sameB : B → B → Bool) (tells_a : TellsApart sameA) (tells_b : TellsApart sameB)
    (R : A → B → Type 0) (g : Graph L A) (h : Graph L B) (b : Bisimilar R g h) where
  related_same : (v v' : A) (w w' : B) → R v w → R v' w' → sameA v v' ≡ sameB w w'
  related_same v v' w w' r r' =
      same_test (sameA v v') (sameB w w')
      (λ e. (tells_b w w').1 (b.forth v v' w w' r r' ((tells_a v v').0 e)))
      (λ e. (tells_a v v').1 (b.back v v' w w' r r' ((tells_b w w').0 e)))

  related-member : {v : A} {w : B} {vs : List A} {ws : List B} → R v w → Pointwise R vs ws →
      member sameA v vs ≡ member sameB w ws
  unfolding member
  related-member r empty = refl
  related-member {v} {w} r (more {v = v'} {w = w'} r' rs) = ap₂ ◌||◌ (related_same v v' w w' r r') (related-member r rs)

  related-index : {v : A} {w : B} {vs : List A} {ws : List B} → R v w → Pointwise R vs ws →
      index_of sameA v vs ≡ index_of sameB w ws
  unfolding index_of
  related-index r empty = refl
  related-index {v} {w} r (more {v = v'} {w = w'} r' rs) =
      ap₂ (λ (t : Bool) (i : ℕ). cond t 0 (suc i)) (related_same v v' w w' r r') (related-index r rs)

  related-count : {x : Option A} {y : Option B} → Alike R x y → count_some x ≡ count_some y
  related-count absent = refl
  related-count (present r) = refl

  related-out_degree : (v : A) (w : B) → R v w → (fs : List ℕ) → out_degree g.link v fs ≡ out_degree h.link w fs
  unfolding out_degree
  related-out_degree v w r [] = refl
  related-out_degree v w r (f ∷ fs) = ap₂ ◌+◌ (related-count (b.links v w f r)) (related-out_degree v w r fs)

  related-link_count : {vs : List A} {ws : List B} → Pointwise R vs ws → link_count g.link vs ≡ link_count h.link ws
  unfolding link_count
  related-link_count empty = refl
  related-link_count (more {v = v} {w = w} r rs) = ap₂ ◌+◌ (related-out_degree v w r features) (related-link_count rs)

  related-map : {x : Option A} {y : Option B} {vs : List A} {ws : List B} → Alike R x y → Pointwise R vs ws →
      Option.map (λ u. index_of sameA u vs) x ≡ Option.map (λ u. index_of sameB u ws) y
  related-map absent rs = refl
  related-map (present r) rs = ap some (related-index r rs)

  related-row : (v : A) (w : B) {vs : List A} {ws : List B} → R v w → Pointwise R vs ws → row_of sameA g vs v ≡ row_of sameB h ws w
  unfolding row_of
  related-row v w {vs} {ws} r rs =
      ap₂ {C = Row L} (λ l ls. (l, ls)) (b.labels v w r)
      (links_of-cong (λ f. Option.map (λ u. index_of sameA u vs) (g.link v f)) (λ f. Option.map (λ u. index_of sameB u ws) (h.link w f))
      (λ f. related-map (b.links v w f r) rs) features)

  related-rows : {vs xs : List A} {ws ys : List B} → Pointwise R vs ws → Pointwise R xs ys →
      map (row_of sameA g vs) xs ≡ map (row_of sameB h ws) ys
  related-rows rs empty = refl
  related-rows rs (more {v = v} {w = w} q qs) = ap₂ {C = List (Row L)} (λ r s. r ∷ s) (related-row v w q rs) (related-rows rs qs)

  Goes : (A → List A → Option (List A)) → (B → List B → Option (List B)) → Type 0
  Goes go goes = (v : A) (w : B) (vs : List A) (ws : List B) → R v w → Pointwise R vs ws → Alike (Pointwise R) (go v vs) (goes w ws)

  related-enter : (go : A → List A → Option (List A)) (goes : B → List B → Option (List B)) → Goes go goes →
      {x : Option A} {y : Option B} {vs : List A} {ws : List B} → Alike R x y → Pointwise R vs ws →
      Alike (Pointwise R) (enter go x vs) (enter goes y ws)
  unfolding Goes
  related-enter go goes k absent rs = present rs
  related-enter go goes k {vs = vs} {ws = ws} (present {v = v} {w = w} r) rs = k v w vs ws r rs

  related-each : (go : A → List A → Option (List A)) (goes : B → List B → Option (List B)) → Goes go goes →
      (v : A) (w : B) → R v w → (fs : List ℕ) (vs : List A) (ws : List B) → Pointwise R vs ws →
      Alike (Pointwise R) (each g.link go v fs vs) (each h.link goes w fs ws)
  unfolding bind each
  related-each go goes k v w r [] vs ws rs = present rs
  related-each go goes k v w r (f ∷ fs) vs ws rs =
      alike-bind (related-enter go goes k (b.links v w f r) rs) (λ vs' ws' rs'. related-each go goes k v w r fs vs' ws' rs')

  related-visit : (d : ℕ) → Goes (visit sameA g.link d) (visit sameB h.link d)
  unfolding Goes visit
  related-visit zero v w vs ws r rs =
      alike-otherwise (member sameA v vs) (member sameB w ws) (λ _. none) (λ _. none) (related-member r rs) (present rs) absent
  related-visit (suc d) v w vs ws r rs =
      alike-otherwise (member sameA v vs) (member sameB w ws)
      (λ _. otherwise (leb 255 (length vs)) none λ _. each g.link (visit sameA g.link d) v features (v ∷ vs))
      (λ _. otherwise (leb 255 (length ws)) none λ _. each h.link (visit sameB h.link d) w features (w ∷ ws))
      (related-member r rs) (present rs)
      (alike-otherwise (leb 255 (length vs)) (leb 255 (length ws))
      (λ _. each g.link (visit sameA g.link d) v features (v ∷ vs))
      (λ _. each h.link (visit sameB h.link d) w features (w ∷ ws))
      (ap (leb 255) (pointwise-length rs)) absent
      (related-each (visit sameA g.link d) (visit sameB h.link d) (related-visit d) v w r features (v ∷ vs) (w ∷ ws) (more r rs)))

  related-counted : {x : Option (List A)} {y : Option (List B)} → Alike (Pointwise R) x y → counted sameA g x ≡ counted sameB h y
  related-counted absent = refl
  related-counted (present rs) =
      ap₂ (λ (n : ℕ) (rows : List (Row L)). cond (leb n 2048) (written rows) many_links) (related-link_count rs)
      (related-rows (pointwise-reverse rs) (pointwise-reverse rs))

  -- Graphs that are alike have one written form.
  pub bisimilar-canonical : canonical sameA g ≡ canonical sameB h
  unfolding canonical Goes
  bisimilar-canonical = related-counted (related-visit 255 g.root h.root [] [] b.root empty)

  related-order : {x : Option (List A)} {y : Option (List B)} → Alike (Pointwise R) x y → Pointwise R (order_in x) (order_in y)
  related-order absent = empty
  related-order (present rs) = pointwise-reverse rs

  -- Graphs that are alike have their nodes numbered alike.
  pub bisimilar-order : Pointwise R (written_order sameA g) (written_order sameB h)
  unfolding written_order Goes
  bisimilar-order = related-order (related-visit 255 g.root h.root [] [] b.root empty)

-- Graphs of the same meaning have one written form, and are too large together.
pub same-canonical : (𝓛 : Labels) {A B : Type 0} (sameA : A → A → Bool) (sameB : B → B → Bool) → TellsApart sameA → TellsApart sameB →
    (g : Graph 𝓛.L A) (h : Graph 𝓛.L B) → SameMeaning 𝓛 g h → canonical sameA g ≡ canonical sameB h
same-canonical 𝓛 sameA sameB tells_a tells_b g h m =
    bisimilar-canonical sameA sameB tells_a tells_b (LiesOver h g) g h (same-bisimilar 𝓛 g h m)
