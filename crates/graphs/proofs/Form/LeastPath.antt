-- Written records number the nodes by their least paths. A visit of a node along a path finds its new nodes in the order of their least
-- paths, which all begin with that path: what earlier paths lead to was seen before, since in a graph without cycles everything below a
-- node is seen once the node's visit has ended.
use mathlib.Core.Path.{◌≡◌, refl, sym, ◌∙◌, ap, ap₂, subst}
use mathlib.Core.Bool.{Bool, true, false, cond}
use mathlib.Core.List.Memᴰ
use mathlib.Core.List.{
  List,
  [],
  ◌∷◌,
  ◌++◌,
  reverse,
  reverse-cons,
  append_assoc,
  append-nil,
  Memᴰ,
}
use mathlib.Core.Logic.{◌↔◌, ◌⊎◌, inl, inr, ⊎_elim}
use mathlib.Core.Option.{Option, none, some, bind}
use Prim.Native.Nat.{ℕ, zero, suc, ◌≤◌, ◌<◌}
use native.Mathlib.Decide.{ℕ_discrete, dec_le}
use native.Mathlib.Omega.{arith}
use lib.Dec.{eqb, leb}
use lib.ListN.{length}
use Rattle.graphs.specs.Graph.{Graph, TellsApart, follow, walk, Reached}
use Rattle.graphs.specs.Rows.{Row, from, features, graph_of}
use Rattle.graphs.specs.Number.{canonical, each, enter, index_of, member, otherwise, visit, written}
use Rattle.graphs.specs.LeastPath.{Earlier, LeastPath}
use Rattle.graphs.proofs.Walk.{some-injective, none-some, snoc-induction, follow-none, follow-nil, follow-last, walk-append, walk-snoc, reached-link}
use Rattle.graphs.proofs.Lists.{member-false, mem-reverse, mem-unreverse, tells-eqb}
use Rattle.graphs.proofs.Form.Visited.{Grown, mem-grown, visit-grows}
use Rattle.graphs.proofs.Form.Canonical.{form-numbers, reached-seen}

-- Paths: a strict order in which any two different paths are comparable.

earlier-asymmetric : (p q : List ℕ) → Earlier p q → Earlier q p → ⊥
earlier-asymmetric p [] e d = e
earlier-asymmetric [] (h ∷ q) e d = d
earlier-asymmetric (f ∷ p) (h ∷ q) (inl l) (inl m) = omega arith
earlier-asymmetric (f ∷ p) (h ∷ q) (inl l) (inr (s, d)) = omega arith
earlier-asymmetric (f ∷ p) (h ∷ q) (inr (s, e)) (inl m) = omega arith
earlier-asymmetric (f ∷ p) (h ∷ q) (inr (s, e)) (inr (t, d)) = earlier-asymmetric p q e d

earlier-total : (p q : List ℕ) → Earlier p q ⊎ ((p ≡ q) ⊎ Earlier q p)
earlier-total [] [] = inr (inl refl)
earlier-total [] (h ∷ q) = inl tt
earlier-total (f ∷ p) [] = inr (inr tt)
earlier-total (f ∷ p) (h ∷ q) = go (ℕ_discrete f h) (dec_le f h) (earlier-total p q)
  where
    go : Dec (f ≡ h) → Dec (f ≤ h) → Earlier p q ⊎ ((p ≡ q) ⊎ Earlier q p) →
        Earlier (f ∷ p) (h ∷ q) ⊎ (((f ∷ p) ≡ (h ∷ q)) ⊎ Earlier (h ∷ q) (f ∷ p))
    go (yes s) _ (inl e) = inl (inr (s, e))
    go (yes s) _ (inr (inl e)) = inr (inl (ap₂ (λ (x : ℕ) (l : List ℕ). x ∷ l) s e))
    go (yes s) _ (inr (inr e)) = inr (inr (inr (sym s, e)))
    go (no d) (yes l) _ = inl (inl (omega arith))
    go (no d) (no l) _ = inr (inr (inl (omega arith)))

-- a path is earlier than one that goes on from its end
earlier-below : (p : List ℕ) (h : ℕ) (r : List ℕ) → Earlier p (p ++ (h ∷ r))
earlier-below [] h r = tt
earlier-below (f ∷ p) h r = inr (refl, earlier-below p h r)

-- of two paths that part, the one by the lower feature is earlier
earlier-fork : (p : List ℕ) (f h : ℕ) (r s : List ℕ) → f < h → Earlier (p ++ (f ∷ r)) (p ++ (h ∷ s))
earlier-fork [] f h r s l = inl l
earlier-fork (a ∷ p) f h r s l = inr (refl, earlier-fork p f h r s l)

-- what is earlier than the first link that leaves the end of p
earlier-first : (q p : List ℕ) → Earlier q (p ++ (0 ∷ [])) → Earlier q p ⊎ (q ≡ p)
earlier-first [] [] e = inr refl
earlier-first (h ∷ q) [] (inl l) = absurd (omega arith)
earlier-first (h ∷ q) [] (inr (_, e)) = absurd e
earlier-first [] (a ∷ p) e = inl tt
earlier-first (h ∷ q) (a ∷ p) (inl l) = inl (inl l)
earlier-first (h ∷ q) (a ∷ p) (inr (s, e)) =
    ⊎_elim (λ d. inl (inr (s, d))) (λ d. inr (ap₂ (λ (x : ℕ) (l : List ℕ). x ∷ l) s d)) (earlier-first q p e)

-- what is earlier than the next feature: it is earlier than this one, or goes by it
earlier-next : (q p : List ℕ) (f : ℕ) → Earlier q (p ++ (suc f ∷ [])) → Earlier q (p ++ (f ∷ [])) ⊎ ((r : List ℕ) × (q ≡ p ++ (f ∷ r)))
earlier-next [] [] f e = inl tt
earlier-next (h ∷ q) [] f (inl l) = go (ℕ_discrete h f)
  where
    go : Dec (h ≡ f) → Earlier (h ∷ q) (f ∷ []) ⊎ ((r : List ℕ) × (h ∷ q ≡ f ∷ r))
    go (yes s) = inr (q, ap (λ (x : ℕ). x ∷ q) s)
    go (no d) = inl (inl (omega arith))
earlier-next (h ∷ q) [] f (inr (_, e)) = absurd e
earlier-next [] (a ∷ p) f e = inl tt
earlier-next (h ∷ q) (a ∷ p) f (inl l) = inl (inl l)
earlier-next (h ∷ q) (a ∷ p) f (inr (s, e)) =
    ⊎_elim (λ d. inl (inr (s, d))) (λ (r, d). inr (r, ap₂ (λ (x : ℕ) (l : List ℕ). x ∷ l) s d)) (earlier-next q p f e)

-- A node has one least path at most.
pub least-unique : {L A : Type 0} {g : Graph L A} {p q : List ℕ} {v : A} → LeastPath g p v → LeastPath g q v → p ≡ q
least-unique {p = p} {q = q} a b =
    ⊎_elim (λ e. absurd (b.least p a.leads e)) (⊎_elim (λ e. e) (λ e. absurd (a.least q b.leads e))) (earlier-total p q)

module _ {L A : Type 0} (g : Graph L A) where
  -- the least path to x is earlier than that to y
  pub record Before (x y : A) : Type 0 where
    pub to-first : List ℕ
    pub to-second : List ℕ
    pub first-least : LeastPath g to-first x
    pub second-least : LeastPath g to-second y
    pub earlier : Earlier to-first to-second

  -- in a list with the last first, each node comes after those behind it
  abbrev Ordered : List A → Type 0
  Ordered [] = Unit {0}
  Ordered (y ∷ ys) = ((x : A) → Memᴰ x ys → Before x y) × Ordered ys

  -- in a list with the first first, each node comes before those behind it
  abbrev Forward : List A → Type 0
  Forward [] = Unit {0}
  Forward (x ∷ xs) = ((y : A) → Memᴰ y xs → Before x y) × Forward xs

  ordered-append : (later sooner : List A) → Ordered later → Ordered sooner →
      ((x y : A) → Memᴰ x sooner → Memᴰ y later → Before x y) → Ordered (later ++ sooner)
  ordered-append [] sooner a b across = b
  ordered-append (y ∷ ys) sooner (h, a) b across = (
    λ x m. ⊎_elim (h x) (λ n. across x y n (Memᴰ.head refl)) (Memᴰ.append_cases ys m),
    ordered-append ys sooner a b (λ x z m n. across x z m (Memᴰ.tail n)),
  )

  forward-snoc : (xs : List A) (y : A) → Forward xs → ((x : A) → Memᴰ x xs → Before x y) → Forward (xs ++ (y ∷ []))
  forward-snoc [] y f last = (λ z m. absurd (Memᴰ.not-nil m), tt)
  forward-snoc (x ∷ xs) y (h, f) last = (
    λ z m.
        ⊎_elim (h z) (λ n. subst (Before x) (sym (Memᴰ.eq_of_singleton n)) (last x (Memᴰ.head refl)))
        (Memᴰ.append_cases xs m),
    forward-snoc xs y f (λ z m. last z (Memᴰ.tail m)),
  )

  ordered-forward : (ys : List A) → Ordered ys → Forward (reverse ys)
  ordered-forward [] o = tt
  ordered-forward (y ∷ ys) (h, o) =
      subst Forward (sym (reverse-cons y ys)) (forward-snoc (reverse ys) y (ordered-forward ys o) (λ x m. h x (mem-unreverse m)))

  module _ (same : A → A → Bool) (tells : TellsApart same) where
    -- the place of the sooner is less
    forward-places : (v w : A) (xs : List A) → Forward xs → Memᴰ v xs → Memᴰ w xs → index_of same v xs < index_of same w xs → Before v w
    unfolding index_of
    forward-places v w [] f m n l = absurd (Memᴰ.not-nil m)
    forward-places v w (x ∷ xs) (h, f) m n l =
        go (same v x) (same w x) refl refl l (Memᴰ.cases_cons m) (Memᴰ.cases_cons n) (forward-places v w xs f)
      where
        go : (a b : Bool) → same v x ≡ a → same w x ≡ b → cond a 0 (suc (index_of same v xs)) < cond b 0 (suc (index_of same w xs)) →
            (v ≡ x) ⊎ Memᴰ v xs → (w ≡ x) ⊎ Memᴰ w xs →
            (Memᴰ v xs → Memᴰ w xs → index_of same v xs < index_of same w xs → Before v w) → Before v w
        go a true p q k m n later = absurd (omega arith)
        go true false p q k m (inl e) later = different q e
          where
            different : same w x ≡ false → w ≡ x → Before v w
            different q e = let h : same w x ≡ true = (tells w x).1 e in let z : ◌≡◌ {A = ℕ} 0 1 = cc in absurd (omega arith)
        go true false p q k m (inr n) later = subst (λ (u : A). Before u w) (sym ((tells v x).0 p)) (h w n)
        go false false p q k (inl e) n later =
            let h : same v x ≡ true = (tells v x).1 e in
            let z : ◌≡◌ {A = ℕ} 0 1 = cc in
            absurd (omega arith)
        go false false p q k (inr m) (inl e) later =
            let h : same w x ≡ true = (tells w x).1 e in
            let z : ◌≡◌ {A = ℕ} 0 1 = cc in
            absurd (omega arith)
        go false false p q k (inr m) (inr n) later = later m n (omega arith)

module _ {L A : Type 0} (same : A → A → Bool) (tells : TellsApart same) (g : Graph L A)
    (narrow : (v w : A) (f : ℕ) → Reached g v → g.link v f ≡ some w → f < 64)
    (acyclic : (v : A) (f : ℕ) (p : List ℕ) → Reached g v → follow g.link (some v) (f ∷ p) ≡ some v → ⊥) where
  onto : (v w : A) (f : ℕ) → Reached g v → g.link v f ≡ some w → Reached g w
  onto v w f r e = reached-link g f r e

  abbrev Grows : List A → List A → Type 0
  Grows old now = Grown same tells g.link (Reached g) onto narrow old now

  -- what the paths before p lead to is seen
  abbrev Complete : List A → List ℕ → Type 0
  Complete seen p = (q : List ℕ) (x : A) → walk g q ≡ some x → Earlier q p → Memᴰ x seen

  -- the links of x lead to what is seen
  abbrev Closed : List A → A → Type 0
  Closed seen x = (f : ℕ) (y : A) → g.link x f ≡ some y → Memᴰ y seen

  -- the links of every node that is seen and that v reaches lead to what is seen
  abbrev Settled : A → List A → Type 0
  Settled v seen = (q : List ℕ) (x : A) → follow g.link (some v) q ≡ some x → Memᴰ x seen → Closed seen x

  -- the links of every node that is seen and that a link of v reaches lead to what is seen
  abbrev SettledBelow : A → List A → Type 0
  SettledBelow v seen = (f : ℕ) (q : List ℕ) (x : A) → follow g.link (some v) (f ∷ q) ≡ some x → Memᴰ x seen → Closed seen x

  grown-closed : {old now : List A} → Grows old now → (x : A) → (Memᴰ x old → Closed old x) → Memᴰ x now → Closed now x
  grown-closed {old} {now} gr x before m f y e =
      ⊎_elim (λ n. gr.closed x n f y e) (λ n. mem-grown same tells g.link (Reached g) onto narrow gr y (before n f y e))
      (Memᴰ.append_cases gr.new (subst (λ (l : List A). Memᴰ x l) gr.joined m))

  -- once v is visited, all that it reaches is seen
  reaches-seen : (v : A) {old now : List A} → Settled v old → Grows old now → Memᴰ v now → (q : List ℕ) (x : A) →
      follow g.link (some v) q ≡ some x → Memᴰ x now
  reaches-seen v {old} {now} settled gr m =
      snoc-induction (λ q. (x : A) → follow g.link (some v) q ≡ some x → Memᴰ x now)
      (λ x e. subst (λ (u : A). Memᴰ u now) (some-injective (sym (follow-nil g.link (some v)) ∙ e)) m)
      (λ q f ih x e.
      let (t, to, l) = follow-last g.link (some v) q f x e in
      grown-closed gr t (λ n. settled q t to n) (ih t to) f x l)

  -- New nodes with Q, in the order of their least paths.
  record Added (Q : A → Type 0) (old now : List A) : Type 0 where
    new : List A
    joined : now ≡ new ++ old
    with : (x : A) → Memᴰ x new → Q x
    ordered : Ordered g new

  added_none : (Q : A → Type 0) (old : List A) → Added Q old old
  added_none Q old = record { new = []; joined = refl; with = λ x m. absurd (Memᴰ.not-nil m); ordered = tt }

  added_more : {P Q : A → Type 0} (R : A → Type 0) {old mid now : List A} → Added P old mid → Added Q mid now → ((x : A) → P x → R x) →
      ((x : A) → Q x → R x) → ((x y : A) → P x → Q y → Before g x y) → Added R old now
  added_more R {old} {mid} {now} a b first second across =
      record {
        new = b.new ++ a.new;
        joined = b.joined ∙ ap (λ (l : List A). b.new ++ l) a.joined ∙ sym (append_assoc b.new a.new old);
        with = λ x m. ⊎_elim (λ n. second x (b.with x n)) (λ n. first x (a.with x n)) (Memᴰ.append_cases b.new m);
        ordered = ordered-append g b.new a.new b.ordered a.ordered (λ x y m n. across x y (a.with x m) (b.with y n));
      }

  added-weaker : {Q : A → Type 0} (R : A → Type 0) {old now : List A} → Added Q old now → ((x : A) → Q x → R x) → Added R old now
  added-weaker R a weaker = record { new = a.new; joined = a.joined; with = λ x m. weaker x (a.with x m); ordered = a.ordered }

  -- the least path to x begins with p
  abbrev Under : List ℕ → A → Type 0
  Under p x = (r : List ℕ) × LeastPath g (p ++ r) x

  -- the least path to x begins with p and goes on by a feature from f on
  abbrev UnderFrom : List ℕ → ℕ → A → Type 0
  UnderFrom p f x = (h : ℕ) × (f ≤ h) × ((r : List ℕ) × LeastPath g (p ++ (h ∷ r)) x)

  under-feature : (p : List ℕ) (f : ℕ) (x : A) → Under (p ++ (f ∷ [])) x → UnderFrom p f x
  under-feature p f x (r, least) = (f, omega arith, (r, subst (λ (q : List ℕ). LeastPath g q x) (append_assoc p (f ∷ []) r) least))

  under-later : (p : List ℕ) (f : ℕ) (x : A) → UnderFrom p (suc f) x → UnderFrom p f x
  under-later p f x (h, l, least) = (h, omega arith, least)

  -- what lies below one feature comes before what lies below the later ones
  under-fork : (p : List ℕ) (f : ℕ) (x y : A) → Under (p ++ (f ∷ [])) x → UnderFrom p (suc f) y → Before g x y
  under-fork p f x y (r, least) (h, l, (s, also)) =
      record {
        to-first = p ++ (f ∷ r);
        to-second = p ++ (h ∷ s);
        first-least = subst (λ (q : List ℕ). LeastPath g q x) (append_assoc p (f ∷ []) r) least;
        second-least = also;
        earlier = earlier-fork p f h r s l;
      }

  -- What a visitor along a path finds.
  abbrev Adds : (A → List A → Option (List A)) → Type 0
  Adds go = (v : A) (old now : List A) (p : List ℕ) → walk g p ≡ some v → Settled v old → Complete old p → go v old ≡ some now →
      Added (Under p) old now

  abbrev Goes : (A → List A → Option (List A)) → Type 0
  Goes go = (v : A) (old now : List A) → Reached g v → go v old ≡ some now → Grows old now × Memᴰ v now

  -- the features from f on, at the end of the path p
  each-adds : (go : A → List A → Option (List A)) → Goes go → Adds go → (v : A) (p : List ℕ) → walk g p ≡ some v → (k f : ℕ)
      (old now : List A) → SettledBelow v old → Complete old (p ++ (f ∷ [])) → each g.link go v (from f k) old ≡ some now →
      Added (UnderFrom p f) old now
  unfolding bind follow each from
  each-adds go goes adds v p to zero f old now below complete e =
      subst (Added (UnderFrom p f) old) (some-injective e) (added_none (UnderFrom p f) old)
  each-adds go goes adds v p to (suc k) f old now below complete e =
      at (g.link v f) refl e (each-adds go goes adds v p to k (suc f))
    where
      Later : Type 0
      Later = (mid now : List A) → SettledBelow v mid → Complete mid (p ++ (suc f ∷ [])) →
          each g.link go v (from (suc f) k) mid ≡ some now → Added (UnderFrom p (suc f)) mid now

      -- where all that the link f leads to is seen, the next feature may come
      next : (mid : List A) → ((x : A) → Memᴰ x old → Memᴰ x mid) →
          ((r : List ℕ) (x : A) → follow g.link (g.link v f) r ≡ some x → Memᴰ x mid) → Complete mid (p ++ (suc f ∷ []))
      next mid keeps reached q x w l =
          ⊎_elim (λ sooner. keeps x (complete q x w sooner))
          (λ (r, is). reached r x (sym (walk-append g p (f ∷ r) to) ∙ ap (walk g) (sym is) ∙ w)) (earlier-next q p f l)

      through : (w : A) → g.link v f ≡ some w → (o : Option (List A)) → go w old ≡ o → bind o (each g.link go v (from (suc f) k)) ≡ some now →
          Later → Added (UnderFrom p f) old now
      through w l none h q later = none-some q
      through w l (some mid) h q later =
          let (gr, m) = goes w old mid (onto v w f (p, to) l) h in
          let settled : Settled w old = λ r x e. below f r x (ap (λ (o : Option A). follow g.link o r) l ∙ e) in
          let first : Added (Under (p ++ (f ∷ []))) old mid = adds w old mid (p ++ (f ∷ [])) (walk-snoc g p f to ∙ l) settled complete h in
          let rest : Added (UnderFrom p (suc f)) mid now =
          later mid now (λ h r x e. grown-closed gr x (below h r x e))
          (next mid (mem-grown same tells g.link (Reached g) onto narrow gr)
          (λ r x e. reaches-seen w settled gr m r x (sym (ap (λ (o : Option A). follow g.link o r) l) ∙ e))) q in
          added_more (UnderFrom p f) first rest (under-feature p f) (under-later p f) (under-fork p f)

      at : (o : Option A) → g.link v f ≡ o → bind (enter go o old) (each g.link go v (from (suc f) k)) ≡ some now → Later →
          Added (UnderFrom p f) old now
      at none l q later =
          added-weaker (UnderFrom p f)
          (later old now below
          (next old (λ x m. m)
          (λ r x e. none-some (sym (follow-none g.link r) ∙ sym (ap (λ (o : Option A). follow g.link o r) l) ∙ e))) q)
          (under-later p f)
      at (some w) l q later = through w l (go w old) refl q later

  -- a fresh node, and what its links lead to
  added-fresh : (v : A) (old now : List A) (p : List ℕ) → walk g p ≡ some v → Complete old p → (Memᴰ v old → ⊥) →
      Added (UnderFrom p 0) (v ∷ old) now → Added (Under p) old now
  added-fresh v old now p to complete fresh a =
      record {
        new = a.new ++ (v ∷ []);
        joined = a.joined ∙ sym (append_assoc a.new (v ∷ []) old);
        with = λ x m.
            ⊎_elim (λ n. let (h, _, (r, least)) = a.with x n in (h ∷ r, least))
            (λ n. ([], subst (λ (u : A). LeastPath g (p ++ []) u) (sym (Memᴰ.eq_of_singleton n)) (subst (λ (q : List ℕ). LeastPath g q v) (sym (append-nil p)) own)))
            (Memᴰ.append_cases a.new m);
        ordered = ordered-append g a.new (v ∷ []) a.ordered (λ x m. absurd (Memᴰ.not-nil m), tt)
            (λ x y m n.
            let (h, _, (r, least)) = a.with y n in
            subst (λ (u : A). Before g u y) (sym (Memᴰ.eq_of_singleton m))
            (record {
              to-first = p;
              to-second = p ++ (h ∷ r);
              first-least = own;
              second-least = least;
              earlier = earlier-below p h r;
            }));
      }
    where
      own : LeastPath g p v
      own = record { leads = to; least = λ q e sooner. fresh (complete q v e sooner) }

  visit-adds : (d : ℕ) → Adds (visit same g.link d)
  unfolding visit
  visit-adds zero v old now p to settled complete e = at (member same v old) e
    where
      at : (t : Bool) → otherwise t (some old) (λ _. none) ≡ some now → Added (Under p) old now
      at true q = subst (Added (Under p) old) (some-injective q) (added_none (Under p) old)
      at false q = none-some q
  visit-adds (suc d) v old now p to settled complete e =
      at (member same v old) refl e
      (λ fresh q.
      added-fresh v old now p to complete fresh
      (each-adds (visit same g.link d) (visit-grows same tells g.link (Reached g) onto narrow d) (visit-adds d) v p to 64 0 (v ∷ old) now
      (λ f r x e m.
      ⊎_elim (λ is. absurd (acyclic v f r (p, to) (e ∙ ap some is)))
      (λ n h y l. Memᴰ.tail (settled (f ∷ r) x e n h y l)) (Memᴰ.cases_cons m))
      (λ q x w l.
      ⊎_elim (λ sooner. Memᴰ.tail (complete q x w sooner))
      (λ is. Memᴰ.head (some-injective (sym w ∙ ap (walk g) is ∙ to))) (earlier-first q p l)) q))
    where
      inner : Unit {0} → Option (List A)
      inner _ = each g.link (visit same g.link d) v features (v ∷ old)

      Rest : Type 0
      Rest = (Memᴰ v old → ⊥) → each g.link (visit same g.link d) v features (v ∷ old) ≡ some now → Added (Under p) old now

      room : (t : Bool) → otherwise t none inner ≡ some now → (Memᴰ v old → ⊥) → Rest → Added (Under p) old now
      room true q fresh rest = none-some q
      room false q fresh rest = rest fresh q

      at : (t : Bool) → member same v old ≡ t → otherwise t (some old) (λ _. otherwise (leb 255 (length old)) none inner) ≡ some now →
          Rest → Added (Under p) old now
      at true h q rest = subst (Added (Under p) old) (some-injective q) (added_none (Under p) old)
      at false h q rest = room (leb 255 (length old)) q (member-false same tells v old h) rest

  -- A visit from the root finds the nodes in the order of their least paths, and each has one.
  visited-ordered : (now : List A) → visit same g.link 255 g.root [] ≡ some now →
      Ordered g now × ((v : A) → Memᴰ v now → (p : List ℕ) × LeastPath g p v)
  visited-ordered now e =
      let a = visit-adds 255 g.root [] now [] (follow-nil g.link (some g.root)) (λ q x f m. absurd (Memᴰ.not-nil m)) (λ q x w l. absurd l) e in (
        subst (Ordered g) (sym (a.joined ∙ append-nil a.new)) a.ordered,
        λ v m. a.with v (subst (λ (l : List A). Memᴰ v l) (a.joined ∙ append-nil a.new) m),
      )

-- Rows that are their own written form: a node's number is its place in the visit.
module _ {L : Type 0} (d : L) (rows : List (Row L))
    (narrow : (v w : ℕ) (f : ℕ) → Reached (graph_of d rows) v → (graph_of d rows).link v f ≡ some w → f < 64)
    (acyclic : (v : ℕ) (f : ℕ) (p : List ℕ) → Reached (graph_of d rows) v → follow (graph_of d rows).link (some v) (f ∷ p) ≡ some v → ⊥)
    (own : canonical eqb (graph_of d rows) ≡ written rows) where
  sooner : (v w : ℕ) → Reached (graph_of d rows) v → Reached (graph_of d rows) w → v < w → Before (graph_of d rows) v w
  sooner v w (p, to) (q, onto) l =
      let (now, visited, places) = form-numbers eqb tells-eqb (graph_of d rows) narrow d rows own in
      let (ordered, _) = visited-ordered eqb tells-eqb (graph_of d rows) narrow acyclic now visited in
      let first : index_of eqb v (reverse now) ≡ v = some-injective (sym (places p v to) ∙ to) in
      let second : index_of eqb w (reverse now) ≡ w = some-injective (sym (places q w onto) ∙ onto) in
      forward-places (graph_of d rows) eqb tells-eqb v w (reverse now) (ordered-forward (graph_of d rows) now ordered)
      (mem-reverse (reached-seen eqb tells-eqb (graph_of d rows) narrow now visited v (p, to)))
      (mem-reverse (reached-seen eqb tells-eqb (graph_of d rows) narrow now visited w (q, onto))) (omega arith)

  -- Every node has a least path.
  pub least-path : (v : ℕ) → Reached (graph_of d rows) v → (p : List ℕ) × LeastPath (graph_of d rows) p v
  least-path v r =
      let (now, visited, _) = form-numbers eqb tells-eqb (graph_of d rows) narrow d rows own in
      (visited-ordered eqb tells-eqb (graph_of d rows) narrow acyclic now visited).1 v
      (reached-seen eqb tells-eqb (graph_of d rows) narrow now visited v r)

  -- The numbers ascend with the least paths.
  pub numbered-by-least-path : (v w : ℕ) (p q : List ℕ) → LeastPath (graph_of d rows) p v → LeastPath (graph_of d rows) q w → (v < w) ↔ Earlier p q
  numbered-by-least-path v w p q a b = (ahead v w p q a b, back (ℕ_discrete v w) (dec_le v w))
    where
      ahead : (v w : ℕ) (p q : List ℕ) → LeastPath (graph_of d rows) p v → LeastPath (graph_of d rows) q w → v < w → Earlier p q
      ahead v w p q a b l =
          let before = sooner v w (p, a.leads) (q, b.leads) l in
          subst (Earlier p) (least-unique before.second-least b)
          (subst (λ (r : List ℕ). Earlier r before.to-second) (least-unique before.first-least a) before.earlier)

      back : Dec (v ≡ w) → Dec (v ≤ w) → Earlier p q → v < w
      back (yes s) _ e = absurd (b.least p (a.leads ∙ ap some s) e)
      back (no d) (yes l) e = omega arith
      back (no d) (no l) e = absurd (earlier-asymmetric p q e (ahead w v q p b a (omega arith)))
