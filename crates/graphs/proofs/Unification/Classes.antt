-- The classes of nodes that unification computes are those of `Related`. Each merge keeps names related to what they name, and
-- takes one node from those that name a class; so the rounds that `close` has are enough. Then nothing is unsettled,
-- and two listed nodes have one name exactly when they are related (`close-classes`, with `named`).
use mathlib.Core.Path.{◌≡◌, refl, sym, ◌∙◌, ap, subst}
use mathlib.Core.Bool.{Bool, true, false, cond}
use mathlib.Core.List.{List, Memᴰ}
use mathlib.Core.Logic.{◌⊎◌, inl, inr}
use mathlib.Core.Option.{Option, none, some}
use Prim.Native.Nat.{ℕ, zero, suc, ◌≤◌, ◌<◌}
use native.Mathlib.Omega.{arith}
use lib.ListN.{length}
use Rattle.graphs.specs.Graph.{TellsApart}
use Rattle.graphs.specs.Generalize.{both}
use Rattle.graphs.specs.Rows.{features}
use Rattle.graphs.specs.Unify.{first_of, merge, apart, settle, unsettled, close}
use Rattle.graphs.specs.Difference.{select}
use Rattle.graphs.proofs.Walk.{some-injective, none-some}
use Rattle.graphs.proofs.Lists.{mem-features}
use Rattle.graphs.proofs.Search.{
  true-false,
  not-true-false,
  true-or-false,
  cond-some,
  listed-length,
  first_of-some,
  first_of-none,
  select-listed,
  select-length,
  select-fewer-strict,
}
use Rattle.graphs.proofs.Product.{both_some}
use Rattle.graphs.proofs.Unification.Related.{Related, roots, back, next, feat, Listing, Classes, related-constant, related-listed}

-- Merges.

module _ {N : Type 0} {same : N → N → Bool} (tells : TellsApart same) where
  apart-false : (x y : N) → (x ≡ y → ⊥) → same x y ≡ false
  apart-false x y h = not-true-false (same x y) (λ e. h ((tells x y).0 e))

  false-apart : (x y : N) → same x y ≡ false → x ≡ y → ⊥
  false-apart x y h e = true-false ((tells x y).1 e) h

  equal-or-apart : (x y : N) → (x ≡ y) ⊎ (x ≡ y → ⊥)
  equal-or-apart x y = go (true-or-false (same x y))
    where
      go : (same x y ≡ true) ⊎ (same x y ≡ false) → (x ≡ y) ⊎ (x ≡ y → ⊥)
      go (inl e) = inl ((tells x y).0 e)
      go (inr e) = inr (false-apart x y e)

  module _ (name : N → N) where
    -- a merge takes the class of x to that of y, and leaves the others
    merge-joins : (x y z : N) → name z ≡ name x → merge same name x y z ≡ name y
    unfolding merge
    merge-joins x y z e = ap (λ b. cond b (name y) (name z)) ((tells (name z) (name x)).1 e)

    merge-stays : (x y z : N) → (name z ≡ name x → ⊥) → merge same name x y z ≡ name z
    unfolding merge
    merge-stays x y z d = ap (λ b. cond b (name y) (name z)) (apart-false (name z) (name x) d)

    merge-one : (x y : N) → merge same name x y x ≡ merge same name x y y
    merge-one x y = merge-joins x y x refl ∙ sym (go (equal-or-apart (name y) (name x)))
      where
        go : (name y ≡ name x) ⊎ (name y ≡ name x → ⊥) → merge same name x y y ≡ name y
        go (inl e) = merge-joins x y y e
        go (inr d) = merge-stays x y y d

    -- a merge keeps what has one name
    merge_keeps : (x y v w : N) → name v ≡ name w → merge same name x y v ≡ merge same name x y w
    unfolding merge
    merge_keeps x y v w e = ap (λ c. cond (same c (name x)) (name y) c) e

    apart_some : (o : Option (N × N)) (v w : N) → apart same name o ≡ some (v, w) → (o ≡ some (v, w)) × (name v ≡ name w → ⊥)
    unfolding apart
    apart_some none v w e = none-some e
    apart_some (some xy) v w e = go (same (name xy.0) (name xy.1)) refl e
      where
        go : (b : Bool) → same (name xy.0) (name xy.1) ≡ b → cond b none (some xy) ≡ some (v, w) →
            (◌≡◌ {A = Option (N × N)} (some xy) (some (v, w))) × (name v ≡ name w → ⊥)
        go true h e = none-some e
        go false h e =
            let d = some-injective e in
            (e, λ q. false-apart _ _ h (ap (λ z. name z.0) d ∙ q ∙ sym (ap (λ z. name z.1) d)))

    apart_none : (v w : N) → apart same name (some (v, w)) ≡ none → name v ≡ name w
    unfolding apart
    apart_none v w e = go (same (name v) (name w)) refl e
      where
        go : (b : Bool) → same (name v) (name w) ≡ b → cond {A = Option (N × N)} b none (some (v, w)) ≡ none → name v ≡ name w
        go true h e = (tells _ _).0 h
        go false h e = none-some (sym e)

-- What is unsettled.

module _ {N : Type 0} {same : N → N → Bool} (tells : TellsApart same) (link : N → ℕ → Option N) (nodes : List N) (name : N → N) where
  -- the targets that one feature of x and y leads to, where they lie in different classes
  abbrev split : N → N → Option (N × N)
  split x y = first_of features λ f. apart same name (both (link x f) (link y f))

  abbrev split_of_one : N → N → Option (N × N)
  split_of_one x y = cond (same (name x) (name y)) (split x y) none

  -- two nodes of different classes, the targets by one feature of two nodes of one class
  record Unsettled (v w : N) : Type 0 where
    x : N
    y : N
    f : ℕ
    x-listed : Memᴰ x nodes
    y-listed : Memᴰ y nodes
    one_class : name x ≡ name y
    x-link : link x f ≡ some v
    y-link : link y f ≡ some w
    two-classes : name v ≡ name w → ⊥

  unsettled-some : (v w : N) → unsettled same link nodes name ≡ some (v, w) → Unsettled v w
  unfolding unsettled
  unsettled-some v w e =
      let (x, m, e1) = first_of-some (λ x. first_of nodes λ y. split_of_one x y) nodes (v, w) e in
      let (y, n, e2) = first_of-some (λ y. split_of_one x y) nodes (v, w) e1 in
      let (q, e3) = cond-some (same (name x) (name y)) (split x y) (v, w) e2 in
      let (f, k, e4) = first_of-some (λ f. apart same name (both (link x f) (link y f))) features (v, w) e3 in
      let (e5, d) = apart_some tells name (both (link x f) (link y f)) v w e4 in
      let (a, b) = both_some (link x f) (link y f) e5 in
      record {
        x = x;
        y = y;
        f = f;
        x-listed = m;
        y-listed = n;
        one_class = (tells (name x) (name y)).0 q;
        x-link = a;
        y-link = b;
        two-classes = d;
      }

  -- where nothing is unsettled, equal features of one class lead to one class
  settled : unsettled same link nodes name ≡ none → (x y v w : N) (f : ℕ) → Memᴰ x nodes → Memᴰ y nodes →
      name x ≡ name y → f < 64 → link x f ≡ some v → link y f ≡ some w → name v ≡ name w
  unfolding unsettled
  settled e x y v w f m n q k a b =
      let e1 = first_of-none (λ x. first_of nodes λ y. split_of_one x y) nodes e x m in
      let e2 = first_of-none (λ y. split_of_one x y) nodes e1 y n in
      let e3 : split x y ≡ none = sym (ap (λ c. cond c (split x y) none) ((tells (name x) (name y)).1 q)) ∙ e2 in
      let e4 = first_of-none (λ f. apart same name (both (link x f) (link y f))) features e3 f (mem-features f k) in
      apart_none tells name v w (rw (a, b) at e4)

-- Rounds.

-- Names on the way: a node is related to its name, and a name names itself.
record Names {N : Type 0} (link : N → ℕ → Option N) (r s : N) (nodes : List N) (name : N → N) : Type 0 where
  related : (x : N) → Memᴰ x nodes → Related link r s x (name x)
  itself : (x : N) → Memᴰ x nodes → name (name x) ≡ name x

-- the nodes that name a class
names : {N : Type 0} → (N → N → Bool) → List N → (N → N) → List N
names same nodes name = select (λ x. same (name x) x) nodes

module _ {N : Type 0} {same : N → N → Bool} (tells : TellsApart same) {link : N → ℕ → Option N} {r s : N} {nodes : List N}
    (listing : Listing link r s nodes) where
  abbrev Rel : N → N → Type 0
  Rel = Related link r s

  module _ (name : N → N) (ok : Names link r s nodes name) where
    name-listed : (x : N) → Memᴰ x nodes → Memᴰ (name x) nodes
    name-listed x m = (related-listed listing (ok.related x m)).1

    module _ (x y : N) where
      abbrev merged : N → N
      merged = merge same name x y

      merge-related : Rel x y → (z : N) → Memᴰ z nodes → Rel z (merged z)
      merge-related c z m = go (equal-or-apart tells (name z) (name x))
        where
          over : Rel (name x) (name y)
          over =
              let (a, b) = related-listed listing c in
              next (back (ok.related x a)) (next c (ok.related y b))

          go : (name z ≡ name x) ⊎ (name z ≡ name x → ⊥) → Rel z (merged z)
          go (inl e) = subst (Rel z) (sym (merge-joins tells name x y z e)) (next (subst (Rel z) e (ok.related z m)) over)
          go (inr d) = subst (Rel z) (sym (merge-stays tells name x y z d)) (ok.related z m)

      -- a name that is left still names itself
      merge-fixed : (z : N) → Memᴰ z nodes → (name z ≡ name x → name z ≡ name y) → merged (name z) ≡ name z
      merge-fixed z m h = go (equal-or-apart tells (name (name z)) (name x))
        where
          go : (name (name z) ≡ name x) ⊎ (name (name z) ≡ name x → ⊥) → merged (name z) ≡ name z
          go (inl e) = merge-joins tells name x y (name z) e ∙ sym (h (sym (ok.itself z m) ∙ e))
          go (inr d) = merge-stays tells name x y (name z) d ∙ ok.itself z m

      merge-itself : Memᴰ y nodes → (z : N) → Memᴰ z nodes → merged (merged z) ≡ merged z
      merge-itself n z m = go (equal-or-apart tells (name z) (name x))
        where
          at : (v : N) → merged z ≡ v → merged v ≡ v → merged (merged z) ≡ merged z
          at v e h = ap merged e ∙ h ∙ sym e

          go : (name z ≡ name x) ⊎ (name z ≡ name x → ⊥) → merged (merged z) ≡ merged z
          go (inl e) = at (name y) (merge-joins tells name x y z e) (merge-fixed y n (λ h. refl))
          go (inr d) = at (name z) (merge-stays tells name x y z d) (merge-fixed z m (λ h. absurd (d h)))

      merge-names : Rel x y → Names link r s nodes merged
      merge-names c = record { related = merge-related c; itself = merge-itself (related-listed listing c).1 }

      -- a merge of two classes leaves fewer names
      merge-fewer : Memᴰ x nodes → Memᴰ y nodes → (name x ≡ name y → ⊥) →
          length (names same nodes merged) < length (names same nodes name)
      unfolding names
      merge-fewer m n d =
          select-fewer-strict (λ z. same (merged z) z) (λ z. same (name z) z) nodes still (name x) (name-listed x m)
          ((tells (name (name x)) (name x)).1 (ok.itself x m))
          (apart-false tells (merged (name x)) (name x)
          (λ e. d (sym e ∙ merge-joins tells name x y (name x) (ok.itself x m))))
        where
          still : (z : N) → Memᴰ z nodes → same (merged z) z ≡ true → same (name z) z ≡ true
          still z k e = go ((tells (merged z) z).0 e) (equal-or-apart tells (name z) (name x))
            where
              go : merged z ≡ z → (name z ≡ name x) ⊎ (name z ≡ name x → ⊥) → same (name z) z ≡ true
              go e (inl q) =
                  let a : name y ≡ z = sym (merge-joins tells name x y z q) ∙ e in
                  (tells (name z) z).1 (ap name (sym a) ∙ ok.itself y n ∙ a)
              go e (inr q) = (tells (name z) z).1 (sym (merge-stays tells name x y z q) ∙ e)

    -- two nodes that are unsettled are related
    unsettled-related : (v w : N) → Unsettled tells link nodes name v w → Rel v w
    unsettled-related v w u =
        let c = subst (Rel u.x) u.one_class (ok.related u.x u.x-listed) in
        feat u.f (next c (back (ok.related u.y u.y-listed))) u.x-link u.y-link

    -- a round keeps names, and leaves fewer of them if anything was unsettled
    settle-names : (o : Option (N × N)) → unsettled same link nodes name ≡ o → Names link r s nodes (settle same name o)
    settle-names none e = ok
    settle-names (some (v, w)) e = merge-names v w (unsettled-related v w (unsettled-some tells link nodes name v w e))

    settle-fewer : (v w : N) → unsettled same link nodes name ≡ some (v, w) →
        length (names same nodes (merge same name v w)) < length (names same nodes name)
    settle-fewer v w e =
        let u = unsettled-some tells link nodes name v w e in
        let (m, n) = related-listed listing (unsettled-related v w u) in
        merge-fewer v w m n u.two-classes

    -- the name of a root names a class
    some-name : 0 < length (names same nodes name)
    unfolding names
    some-name =
        listed-length
        ((select-listed (λ x. same (name x) x) nodes (name r)).1
        (name-listed r listing.first, (tells (name (name r)) (name r)).1 (ok.itself r listing.first)))

  abbrev closed : ℕ → (N → N) → N → N
  closed = close same link nodes

  close-names : (k : ℕ) (name : N → N) → Names link r s nodes name → Names link r s nodes (closed k name)
  unfolding close
  close-names zero name ok = ok
  close-names (suc k) name ok =
      let o = unsettled same link nodes name in
      close-names k (settle same name o) (settle-names name ok o refl)

  close-keeps : (k : ℕ) (name : N → N) (v w : N) → name v ≡ name w → closed k name v ≡ closed k name w
  unfolding close
  close-keeps zero name v w e = e
  close-keeps (suc k) name v w e =
      let o = unsettled same link nodes name in
      close-keeps k (settle same name o) v w (go o)
    where
      go : (o : Option (N × N)) → settle same name o v ≡ settle same name o w
      go none = e
      go (some (x, y)) = merge_keeps tells name x y v w e

  close-stays : (k : ℕ) (name : N → N) → unsettled same link nodes name ≡ none → closed k name ≡ name
  unfolding close
  close-stays zero name e = refl
  close-stays (suc k) name e = ap (λ o. closed k (settle same name o)) e ∙ close-stays k name e

  -- as many rounds as there are names are enough
  close-settles : (k : ℕ) (name : N → N) → Names link r s nodes name → length (names same nodes name) ≤ k →
      unsettled same link nodes (closed k name) ≡ none
  unfolding close
  close-settles zero name ok h = absurd (omega (arith, some-name name ok))
  close-settles (suc k) name ok h = go (unsettled same link nodes name) refl (close-settles k)
    where
      go : (o : Option (N × N)) → unsettled same link nodes name ≡ o →
          ((name : N → N) → Names link r s nodes name → length (names same nodes name) ≤ k →
          unsettled same link nodes (closed k name) ≡ none) →
          unsettled same link nodes (closed k (settle same name o)) ≡ none
      go none e later = ap (unsettled same link nodes) (close-stays k name e) ∙ e
      go (some (v, w)) e later =
          later (merge same name v w) (settle-names name ok (some (v, w)) e) (omega (arith, settle-fewer name ok v w e))

  -- What is computed from the roots joined names the classes.
  pub close-classes : Classes link r s nodes (close same link nodes (length nodes) (merge same (λ x. x) r s))
  unfolding names
  close-classes =
      record {
        related = (close-names n start ok).related;
        one = related-constant (closed n start) (close-keeps n start r s (merge-one tells (λ x. x) r s)) λ x y v w f c e a b.
            let (i, j) = related-listed listing c in
            settled tells link nodes (closed n start)
            (close-settles n start ok (select-length (λ x. same (start x) x) nodes)) x y v w f i j e
            (listing.onwards x v f i a).1 a b;
      }
    where
      n : ℕ
      n = length nodes

      start : N → N
      start = merge same (λ x. x) r s

      ok : Names link r s nodes start
      ok = merge-names (λ x. x) (record { related = listing.reached; itself = λ x m. refl }) r s roots
