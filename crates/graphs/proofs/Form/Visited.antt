-- This file shows what a visit finds. A visit adds nodes that are reached, each once, and all that their links lead to; so from the root it
-- finds every reached node. Where it gives none there are 256 different reached nodes.
use mathlib.Core.Path.{◌≡◌, refl, sym, ◌∙◌, ap, subst}
use mathlib.Core.Bool.{Bool, true, false}
use mathlib.Core.List.Memᴰ
use mathlib.Core.List.{
  List,
  [],
  ◌∷◌,
  ◌++◌,
  append_assoc,
  Memᴰ,
}
use mathlib.Core.Logic.{⊎_elim}
use mathlib.Core.Option.{Option, none, some, bind}
use Prim.Native.Nat.{ℕ, zero, suc, ◌+◌, ◌≤◌, ◌<◌}
use native.Mathlib.Omega.{arith}
use borrow.Author.Tests.{leb-true, leb-false}
use lib.Dec.{leb}
use lib.ListN.{length, length-append}
use Rattle.graphs.specs.Graph.{TellsApart}
use Rattle.graphs.specs.Rows.{features}
use Rattle.graphs.specs.Number.{each, enter, member, otherwise, visit}
use Rattle.graphs.specs.Large.{Distinct}
use Rattle.graphs.proofs.Walk.{some-injective, none-some}
use Rattle.graphs.proofs.Lists.{mem-features, member-true, member-false}

module _ {A : Type 0} (same : A → A → Bool) (tells : TellsApart same) (link : A → ℕ → Option A) (P : A → Type 0)
    (onto : (v w : A) (f : ℕ) → P v → link v f ≡ some w → P w) (narrow : (v w : A) (f : ℕ) → P v → link v f ≡ some w → f < 64) where
  -- What was seen grows: by nodes with P, each once, all of whose links lead to what is seen then.
  pub record Grown (old now : List A) : Type 0 where
    pub new : List A
    pub joined : now ≡ new ++ old
    pub with : (x : A) → Memᴰ x new → P x
    pub closed : (x : A) → Memᴰ x new → (f : ℕ) (y : A) → link x f ≡ some y → Memᴰ y now
    pub distinct : Distinct old → Distinct now
    pub short : length old ≤ 255 → length now ≤ 255

  grown-none : (vs : List A) → Grown vs vs
  grown-none vs =
      record {
        new = [];
        joined = refl;
        with = λ x m. absurd (Memᴰ.not-nil m);
        closed = λ x m f y e. absurd (Memᴰ.not-nil m);
        distinct = λ d. d;
        short = λ h. h;
      }

  pub mem-grown : {old now : List A} → Grown old now → (x : A) → Memᴰ x old → Memᴰ x now
  mem-grown {old} gr x m = subst (λ (l : List A). Memᴰ x l) (sym gr.joined) (Memᴰ.append_right gr.new m)

  grown-trans : {old mid now : List A} → Grown old mid → Grown mid now → Grown old now
  grown-trans {old} {mid} {now} a b =
      record {
        new = b.new ++ a.new;
        joined = b.joined ∙ ap (λ (l : List A). b.new ++ l) a.joined ∙ sym (append_assoc b.new a.new old);
        with = λ x m. ⊎_elim (b.with x) (a.with x) (Memᴰ.append_cases b.new m);
        closed = λ x m f y e. ⊎_elim (λ n. b.closed x n f y e) (λ n. mem-grown b y (a.closed x n f y e)) (Memᴰ.append_cases b.new m);
        distinct = λ d. b.distinct (a.distinct d);
        short = λ h. b.short (a.short h);
      }

  -- what a visitor of nodes with P finds
  Finds : (A → List A → Option (List A)) → Type 0
  Finds go = (v : A) (old now : List A) → P v → go v old ≡ some now → Grown old now × Memᴰ v now

  EachFinds : A → List ℕ → List A → List A → Type 0
  EachFinds v fs old now = Grown old now × ((f : ℕ) (y : A) → Memᴰ f fs → link v f ≡ some y → Memᴰ y now)

  each-finds : (go : A → List A → Option (List A)) → Finds go → (v : A) → P v → (fs : List ℕ) (old now : List A) →
      each link go v fs old ≡ some now → EachFinds v fs old now
  unfolding bind each Finds EachFinds
  each-finds go k v p [] old now e =
      (subst (λ (l : List A). Grown old l) (some-injective e) (grown-none old), λ f y m q. absurd (Memᴰ.not-nil m))
  each-finds go k v p (f ∷ fs) old now e = at (link v f) refl e (λ mid q. each-finds go k v p fs mid now q)
    where
      Later : Type 0
      Later = (mid : List A) → each link go v fs mid ≡ some now → EachFinds v fs mid now

      later : (mid : List A) → Grown old mid → ((y : A) → link v f ≡ some y → Memᴰ y mid) → EachFinds v fs mid now →
          EachFinds v (f ∷ fs) old now
      later mid gr here (rest, there) = (
        grown-trans gr rest,
        λ f' y m q.
            ⊎_elim
            (λ e'. mem-grown rest y (here y (ap (link v) (sym e') ∙ q)))
            (λ n. there f' y n q)
            (Memᴰ.cases_cons m),
      )

      through : (w : A) → link v f ≡ some w → (x : Option (List A)) → go w old ≡ x → bind x (each link go v fs) ≡ some now →
          Later → EachFinds v (f ∷ fs) old now
      through w l none h q ih = none-some q
      through w l (some mid) h q ih =
          let (gr, m) = k w old mid (onto v w f p l) h in
          later mid gr (λ y l'. subst (λ (u : A). Memᴰ u mid) (some-injective (sym l ∙ l')) m) (ih mid q)

      at : (x : Option A) → link v f ≡ x → bind (enter go x old) (each link go v fs) ≡ some now → Later →
          EachFinds v (f ∷ fs) old now
      at none l q ih = later old (grown-none old) (λ y l'. none-some (sym l ∙ l')) (ih old q)
      at (some w) l q ih = through w l (go w old) refl q ih

  -- a fresh node, and what its links lead to
  grown-fresh : (v : A) (old now : List A) → P v → (Memᴰ v old → ⊥) → length old < 255 → EachFinds v features (v ∷ old) now →
      Grown old now × Memᴰ v now
  unfolding EachFinds
  grown-fresh v old now p fresh room (gr, links) = (
    record {
      new = gr.new ++ (v ∷ []);
      joined = gr.joined ∙ sym (append_assoc gr.new (v ∷ []) old);
      with = λ x m. ⊎_elim (gr.with x) (λ n. subst P (sym (Memᴰ.eq_of_singleton n)) p) (Memᴰ.append_cases gr.new m);
      closed = λ x m f y e.
          ⊎_elim (λ n. gr.closed x n f y e)
          (λ n. own f y (ap (λ (u : A). link u f) (sym (Memᴰ.eq_of_singleton n)) ∙ e))
          (Memᴰ.append_cases gr.new m);
      distinct = λ d. gr.distinct (fresh, d);
      short = λ h. gr.short (omega arith);
    },
    mem-grown gr v (Memᴰ.head refl),
  )
    where
      own : (f : ℕ) (y : A) → link v f ≡ some y → Memᴰ y now
      own f y e = links f y (mem-features f (narrow v y f p e)) e

  visit-finds : (d : ℕ) → Finds (visit same link d)
  unfolding Finds visit
  visit-finds zero v old now p e = at (member same v old) refl e
    where
      at : (t : Bool) → member same v old ≡ t → otherwise t (some old) (λ _. none) ≡ some now → Grown old now × Memᴰ v now
      at true h q =
          subst (λ (l : List A). Grown old l × Memᴰ v l) (some-injective q) (grown-none old, member-true same tells v old h)
      at false h q = none-some q
  visit-finds (suc d) v old now p e = at (member same v old) refl e (each-finds (visit same link d) (visit-finds d) v p features (v ∷ old) now)
    where
      inner : Unit {0} → Option (List A)
      inner _ = each link (visit same link d) v features (v ∷ old)

      Rest : Type 0
      Rest = each link (visit same link d) v features (v ∷ old) ≡ some now → EachFinds v features (v ∷ old) now

      room : (t : Bool) → leb 255 (length old) ≡ t → otherwise t none inner ≡ some now → (Memᴰ v old → ⊥) → Rest →
          Grown old now × Memᴰ v now
      room true h q fresh rest = none-some q
      room false h q fresh rest = grown-fresh v old now p fresh (leb-false 255 (length old) h) (rest q)

      at : (t : Bool) → member same v old ≡ t → otherwise t (some old) (λ _. otherwise (leb 255 (length old)) none inner) ≡ some now →
          Rest → Grown old now × Memᴰ v now
      at true h q rest =
          subst (λ (l : List A). Grown old l × Memᴰ v l) (some-injective q) (grown-none old, member-true same tells v old h)
      at false h q rest = room (leb 255 (length old)) refl q (member-false same tells v old h) rest

  -- 256 different nodes with P
  abbrev pub Many : Type 0
  Many = (xs : List A) × Distinct xs × ((x : A) → Memᴰ x xs → P x) × (255 < length xs)

  -- a visitor that has room for d nodes more at the least, where it gives nothing
  Fails : ℕ → (A → List A → Option (List A)) → Type 0
  Fails d go = (v : A) (old : List A) → P v → Distinct old → ((x : A) → Memᴰ x old → P x) → 255 ≤ length old + d →
      go v old ≡ none → Many

  with-grown : {old now : List A} → Grown old now → ((x : A) → Memᴰ x old → P x) → (x : A) → Memᴰ x now → P x
  with-grown gr all x m = ⊎_elim (gr.with x) (all x) (Memᴰ.append_cases gr.new (subst (λ (l : List A). Memᴰ x l) gr.joined m))

  length-grown : {old now : List A} → Grown old now → length old ≤ length now
  length-grown {old} gr = omega (arith, ap length gr.joined, length-append gr.new old)

  fresh-many : (v : A) (old : List A) → P v → Distinct old → ((x : A) → Memᴰ x old → P x) → (Memᴰ v old → ⊥) →
      255 ≤ length old → Many
  fresh-many v old p d all fresh h =
      (v ∷ old, (fresh, d), λ x m. ⊎_elim (λ e. subst P (sym e) p) (all x) (Memᴰ.cases_cons m), omega arith)

  each-fails : (d : ℕ) (go : A → List A → Option (List A)) → Finds go → Fails d go → (v : A) → P v → (fs : List ℕ) (old : List A) →
      Distinct old → ((x : A) → Memᴰ x old → P x) → 255 ≤ length old + d → each link go v fs old ≡ none → Many
  unfolding bind each Finds Fails
  each-fails d go k n v p [] old di all h e = none-some (sym e)
  each-fails d go k n v p (f ∷ fs) old di all h e = at (link v f) refl e (each-fails d go k n v p fs)
    where
      Later : Type 0
      Later = (mid : List A) → Distinct mid → ((x : A) → Memᴰ x mid → P x) → 255 ≤ length mid + d →
          each link go v fs mid ≡ none → Many

      through : (w : A) → link v f ≡ some w → (x : Option (List A)) → go w old ≡ x → bind x (each link go v fs) ≡ none →
          Later → Many
      through w l none q r later = n w old (onto v w f p l) di all h q
      through w l (some mid) q r later =
          let (gr, m) = k w old mid (onto v w f p l) q in
          later mid (gr.distinct di) (with-grown gr all) (omega (arith, length-grown gr)) r

      at : (x : Option A) → link v f ≡ x → bind (enter go x old) (each link go v fs) ≡ none → Later → Many
      at none l r later = later old di all h r
      at (some w) l r later = through w l (go w old) refl r later

  visit-fails : (d : ℕ) → Fails d (visit same link d)
  unfolding Fails visit
  visit-fails zero v old p di all h e = at (member same v old) refl e
    where
      at : (t : Bool) → member same v old ≡ t → otherwise t (some old) (λ _. none) ≡ none → Many
      at true q r = none-some (sym r)
      at false q r = fresh-many v old p di all (member-false same tells v old q) (omega arith)
  visit-fails (suc d) v old p di all h e =
      at (member same v old) refl e
      (λ fresh. each-fails d (visit same link d) (visit-finds d) (visit-fails d) v p features (v ∷ old) (fresh, di)
      (λ x m. ⊎_elim (λ q. subst P (sym q) p) (all x) (Memᴰ.cases_cons m)) (omega arith))
    where
      inner : Unit {0} → Option (List A)
      inner _ = each link (visit same link d) v features (v ∷ old)

      Rest : Type 0
      Rest = (Memᴰ v old → ⊥) → each link (visit same link d) v features (v ∷ old) ≡ none → Many

      room : (t : Bool) → leb 255 (length old) ≡ t → otherwise t none inner ≡ none → (Memᴰ v old → ⊥) → Rest → Many
      room true q r fresh rest = fresh-many v old p di all fresh (leb-true 255 (length old) q)
      room false q r fresh rest = rest fresh r

      at : (t : Bool) → member same v old ≡ t → otherwise t (some old) (λ _. otherwise (leb 255 (length old)) none inner) ≡ none → Rest →
          Many
      at true q r rest = none-some (sym r)
      at false q r rest = room (leb 255 (length old)) refl r (member-false same tells v old q) rest

  -- a visit from a node with P
  pub visit-grows : (d : ℕ) (v : A) (old now : List A) → P v → visit same link d v old ≡ some now → Grown old now × Memᴰ v now
  unfolding Finds
  visit-grows = visit-finds

  -- one that starts with nothing seen
  pub visit-all : (v : A) (now : List A) → P v → visit same link 255 v [] ≡ some now → Grown [] now × Memᴰ v now
  visit-all v now = visit-grows 255 v [] now

  pub visit-many : (v : A) → P v → visit same link 255 v [] ≡ none → Many
  unfolding Fails
  visit-many v p e = visit-fails 255 v [] p tt (λ x m. absurd (Memᴰ.not-nil m)) (omega arith) e

  -- the first node seen is the one where the visit starts
  pub visit-first : (v : A) (now : List A) → P v → visit same link 255 v [] ≡ some now → (xs : List A) × (now ≡ xs ++ (v ∷ []))
  unfolding visit member EachFinds
  visit-first v now p e =
      let (gr, _) = each-finds (visit same link 254) (visit-finds 254) v p features (v ∷ []) now e in
      (gr.new, gr.joined)
