-- This file is about the groups of links as they are computed. The tests `covers` and `touch` say what they should. As many rounds as
-- there are links close a group, since each round that changes anything adds a link. So the computed group of a link holds just the
-- links that are grouped with it.
use mathlib.Core.Path.{◌≡◌, refl, sym, ◌∙◌, ap, subst, fst_path, snd_path}
use mathlib.Core.Bool.{Bool, true, false, not, ◌&&◌, ◌||◌}
use mathlib.Core.List.Memᴰ
use mathlib.Core.List.{List, Memᴰ}
use mathlib.Core.Logic.{◌↔◌, ◌⊎◌, inl, inr, ⊎_elim}
use mathlib.Core.Option.{some}
use Prim.Native.Nat.{ℕ, zero, suc, ◌+◌, ◌≤◌, ◌<◌}
use native.Mathlib.Omega.{arith}
use lib.Dec.{eqb}
use lib.ListN.{length}
use borrow.Author.Tests.{eqb-true, eq-eqb, not-true, not-false}
use Rattle.graphs.specs.Graph.{Graph, TellsApart}
use Rattle.graphs.specs.Unify.{any_of, holds}
use Rattle.graphs.specs.Difference.{Link, select, links_from, same_link, incoming, covers, bare, touch, spread}
use Rattle.graphs.specs.Relations.{Into}
use Rattle.graphs.proofs.Walk.{reached-link}
use Rattle.graphs.proofs.Search.{
  true-false,
  both_true,
  true-both,
  either_true,
  true-left,
  true-right,
  holds-some,
  some_holds,
  any_of-true,
  any_of-finds,
  select-listed,
  select-length,
  select-fewer-strict,
}
use Rattle.graphs.proofs.Difference.Links.{links_from-source, links_from-listed}
use Rattle.graphs.proofs.Unification.Beside.{Operands}
use Rattle.graphs.proofs.Difference.Laws.{Enters}

module _ {L A B : Type 0} {sameA : A → A → Bool} {sameB : B → B → Bool} {s : Graph L A} {ss : List A} {g : Graph L B}
    {gs : List B} (operands : Operands sameA sameB s ss g gs) (over : B → A) where
  tells_a : TellsApart sameA
  tells_a = operands.tells-left

  tells_b : TellsApart sameB
  tells_b = operands.tells-right

  abbrev same : Link A → Link A → Bool
  same l m = same_link sameA sameB s ss g gs over l m

  abbrev entering : A → List (Link A)
  entering v = incoming sameA sameB s ss g gs over v

  abbrev covers_over : B → Link A → Bool
  covers_over z l = covers sameA sameB s ss g gs over z l

  abbrev is_bare : Link A → Bool
  is_bare l = bare sameA sameB s ss g gs over l

  abbrev touches : Link A → Link A → Bool
  touches l m = touch sameA sameB s ss g gs over l m

  abbrev spreads : ℕ → List (Link A) → List (Link A) → List (Link A)
  spreads k links group = spread sameA sameB s ss g gs over k links group

  -- Tests.
  pub same-link : (l m : Link A) → (same l m ≡ true) ↔ (l ≡ m)
  same-link l m = (
    λ e.
        let (a, b) = both_true (sameA l.0 m.0) (eqb l.1 m.1) e in
        λ i. ((tells_a l.0 m.0).0 a i, eqb-true l.1 m.1 b i),
    λ e.
        true-both (sameA l.0 m.0) (eqb l.1 m.1) ((tells_a l.0 m.0).1 (fst_path e))
        (eq-eqb l.1 m.1 (snd_path e)),
  )

  -- m is in the group
  inside : List (Link A) → Link A → Bool
  inside group m = any_of group λ l. same l m

  inside-listed : (group : List (Link A)) (m : Link A) → (inside group m ≡ true) ↔ Memᴰ m group
  unfolding inside
  inside-listed group m = (
    λ e. let (l, i, a) = any_of-true (λ l. same l m) group e in Memᴰ.cast (sym ((same-link l m).0 a)) i,
    λ i. any_of-finds (λ l. same l m) group m i ((same-link m m).1 refl),
  )

  -- m is in the group or touches it
  abbrev joins : List (Link A) → Link A → Bool
  joins group m = any_of group λ l. same l m || touches l m

  joins_true : (group : List (Link A)) (m : Link A) → joins group m ≡ true →
      (l : Link A) × Memᴰ l group × ((l ≡ m) ⊎ (touches l m ≡ true))
  joins_true group m e =
      let (l, i, a) = any_of-true (λ l. same l m || touches l m) group e in (
        l,
        i,
        ⊎_elim (λ (b : same l m ≡ true). inl ((same-link l m).0 b))
            (λ (b : touches l m ≡ true). inr b) (either_true (same l m) (touches l m) a),
      )

  joins-listed : (group : List (Link A)) (m : Link A) → Memᴰ m group → joins group m ≡ true
  joins-listed group m i =
      any_of-finds (λ l. same l m || touches l m) group m i
      (true-left (same m m) (touches m m) ((same-link m m).1 refl))

  joins-touch : (group : List (Link A)) (l m : Link A) → Memᴰ l group → touches l m ≡ true → joins group m ≡ true
  joins-touch group l m i e =
      any_of-finds (λ l. same l m || touches l m) group l i
      (true-right (same l m) (touches l m) e)

  -- Rounds.
  module _ (links : List (Link A)) where
    abbrev grown : List (Link A) → List (Link A)
    grown group = select (joins group) links

    -- what touches the group is in it
    abbrev pub Closed : List (Link A) → Type 0
    Closed group = (l m : Link A) → Memᴰ l group → Memᴰ m links → touches l m ≡ true → Memᴰ m group

    grown-listed : (group : List (Link A)) (m : Link A) → Memᴰ m links → Memᴰ m group → Memᴰ m (grown group)
    grown-listed group m i j = (select-listed (joins group) links m).1 (i, joins-listed group m j)

    closed-grown : (group : List (Link A)) → Closed group → Closed (grown group)
    closed-grown group closed l m i j e =
        let (k, t) = (select-listed (joins group) links l).0 i in
        let (n, o, a) = joins_true group l t in
        grown-listed group m j (closed l m
        (⊎_elim (λ (b : n ≡ l). Memᴰ.cast (sym b) o) (λ (b : touches n l ≡ true). closed n l o k b) a) j e)

    closed-spread : (k : ℕ) (group : List (Link A)) → Closed group → Closed (spreads k links group)
    unfolding spread
    closed-spread zero group closed = closed
    closed-spread (suc k) group closed = closed-spread k (grown group) (closed-grown group closed)

    pub spread-keeps : (k : ℕ) (group : List (Link A)) (m : Link A) → Memᴰ m links → Memᴰ m group →
        Memᴰ m (spreads k links group)
    unfolding spread
    spread-keeps zero group m i j = j
    spread-keeps (suc k) group m i j = spread-keeps k (grown group) m i (grown-listed group m i j)

    -- what holds in a group and passes along touching links holds in the rounds
    pub spread-within : (P : Link A → Type 0) → ((l m : Link A) → P l → touches l m ≡ true → P m) →
        (k : ℕ) (group : List (Link A)) → ((m : Link A) → Memᴰ m group → P m) →
        (m : Link A) → Memᴰ m (spreads k links group) → P m
    unfolding spread
    spread-within P pass zero group all m i = all m i
    spread-within P pass (suc k) group all m i = spread-within P pass k (grown group) more m i
      where
        more : (m : Link A) → Memᴰ m (grown group) → P m
        more m i =
            let (l, j, a) = joins_true group m ((select-listed (joins group) links m).0 i).1 in
            ⊎_elim (λ (e : l ≡ m). subst P e (all l j)) (λ (e : touches l m ≡ true). pass l m (all l j) e) a

    -- how many of the links are in the group
    pub count : List (Link A) → ℕ
    count group = length (select (inside group) links)

    -- a link that is new in the next round
    fresh : List (Link A) → Link A → Bool
    fresh group m = joins group m && not (inside group m)

    fresh-more : (group : List (Link A)) → any_of links (fresh group) ≡ true → count group < count (grown group)
    unfolding fresh count
    fresh-more group e =
        let (m, i, a) = any_of-true (fresh group) links e in
        let (b, c) = both_true (joins group m) (not (inside group m)) a in
        select-fewer-strict (inside group) (inside (grown group)) links
        (λ x j d. (inside-listed (grown group) x).1 (grown-listed group x j ((inside-listed group x).0 d)))
        m i ((inside-listed (grown group) m).1 ((select-listed (joins group) links m).1 (i, b))) (not-true (inside group m) c)

    fresh-none : (group : List (Link A)) → any_of links (fresh group) ≡ false → Closed group
    unfolding fresh
    fresh-none group e l m i j a = go (inside group m) refl
      where
        go : (b : Bool) → inside group m ≡ b → Memᴰ m group
        go true b = (inside-listed group m).0 b
        go false b =
            true-false
            (any_of-finds (fresh group) links m j
            (true-both (joins group m) (not (inside group m)) (joins-touch group l m i a) (ap not b))) e

    count-all : (group : List (Link A)) → length links ≤ count group → Closed group
    unfolding count
    count-all group h l m i j e = go (inside group m) refl
      where
        go : (b : Bool) → inside group m ≡ b → Memᴰ m group
        go true a = (inside-listed group m).0 a
        go false a =
            let x = select-fewer-strict (inside group) (λ _. true) links (λ _ _ _. refl) m j refl a in
            let y = select-length {X = Link A} (λ _. true) links in
            absurd (omega arith)

    -- each round that changes anything adds a link, so as many rounds as links are enough
    pub spread-closed : (k : ℕ) (group : List (Link A)) → length links ≤ count group + k → Closed (spreads k links group)
    unfolding spread
    spread-closed zero group h = count-all group (omega arith)
    spread-closed (suc k) group h = go (any_of links (fresh group)) refl (spread-closed k (grown group))
      where
        go : (b : Bool) → any_of links (fresh group) ≡ b →
            (length links ≤ count (grown group) + k → Closed (spreads k links (grown group))) →
            Closed (spreads k links (grown group))
        go true e later = let x = fresh-more group e in later (omega arith)
        go false e later = closed-spread k (grown group) (closed-grown group (fresh-none group e))

  -- What the tests say.

  pub covers-enters : (z : B) (l : Link A) → (covers_over z l ≡ true) ↔ Enters g over z l
  unfolding covers
  covers-enters z l = (there, back)
    where
      there : covers_over z l ≡ true → Enters g over z l
      there e =
          let (y, i, a) = any_of-true (λ y. sameA (over y) l.0 && holds (sameB z) (g.link y l.1)) gs e in
          let (b, c) = both_true (sameA (over y) l.0) (holds (sameB z) (g.link y l.1)) a in
          let (x, d, f) = holds-some (sameB z) (g.link y l.1) c in
          (y, (operands.lists-right.listed y).1 i, (tells_a (over y) l.0).0 b, d ∙ ap some (sym ((tells_b z x).0 f)))

      back : Enters g over z l → covers_over z l ≡ true
      back (y, r, o, e) =
          any_of-finds (λ y. sameA (over y) l.0 && holds (sameB z) (g.link y l.1)) gs y
          ((operands.lists-right.listed y).0 r)
          (true-both (sameA (over y) l.0) (holds (sameB z) (g.link y l.1)) ((tells_a (over y) l.0).1 o)
          (some_holds (sameB z) (g.link y l.1) z e ((tells_b z z).1 refl)))

  enters-listed : (z : B) (l : Link A) → Enters g over z l → Memᴰ z gs
  enters-listed z l (y, r, _, e) = (operands.lists-right.listed z).0 (reached-link g l.1 r e)

  pub bare-enters : (l : Link A) → is_bare l ≡ true → (z : B) → Enters g over z l → ⊥
  unfolding bare
  bare-enters l e z t =
      true-false
      (any_of-finds (λ z. covers_over z l) gs z (enters-listed z l t) ((covers-enters z l).1 t))
      (not-true (any_of gs λ z. covers_over z l) e)

  pub not-bare-enters : (l : Link A) → is_bare l ≡ false → (z : B) × Enters g over z l
  unfolding bare
  not-bare-enters l e =
      let (z, _, a) = any_of-true (λ z. covers_over z l) gs (not-false (any_of gs λ z. covers_over z l) e) in
      (z, (covers-enters z l).0 a)

  pub touch-enters : (l m : Link A) → (touches l m ≡ true) ↔ ((z : B) × Enters g over z l × Enters g over z m)
  unfolding touch
  touch-enters l m = (there, back)
    where
      there : touches l m ≡ true → (z : B) × Enters g over z l × Enters g over z m
      there e =
          let (z, _, a) = any_of-true (λ z. covers_over z l && covers_over z m) gs e in
          let (b, c) = both_true (covers_over z l) (covers_over z m) a in
          (z, (covers-enters z l).0 b, (covers-enters z m).0 c)

      back : (z : B) × Enters g over z l × Enters g over z m → touches l m ≡ true
      back (z, a, b) =
          any_of-finds (λ z. covers_over z l && covers_over z m) gs z (enters-listed z l a)
          (true-both (covers_over z l) (covers_over z m) ((covers-enters z l).1 a) ((covers-enters z m).1 b))

  pub incoming-into : (v : A) (l : Link A) → Memᴰ l (entering v) ↔ Into s v l
  unfolding incoming
  incoming-into v l = (there, back)
    where
      there : Memᴰ l (entering v) → Into s v l
      there i =
          let (j, a) = (select-listed (λ l. holds (sameA v) (s.link l.0 l.1)) (links_from ss) l).0 i in
          let (w, b, c) = holds-some (sameA v) (s.link l.0 l.1) a in
          ((operands.lists-left.listed l.0).1 (links_from-source ss l j), b ∙ ap some (sym ((tells_a v w).0 c)))

      back : Into s v l → Memᴰ l (entering v)
      back (r, e) =
          (select-listed (λ l. holds (sameA v) (s.link l.0 l.1)) (links_from ss) l).1 (
            links_from-listed ss l ((operands.lists-left.listed l.0).0 r) (operands.lists-left.features l.0 v l.1 r e),
            some_holds (sameA v) (s.link l.0 l.1) v e ((tells_a v v).1 refl),
          )
