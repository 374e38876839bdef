-- This file is about a row's links. `links_of` lists those of the features given that have a target, each with its target, and `target`
-- finds the target there again. The features stay in order, so the row of a node is ascending.
use mathlib.Core.Path.{◌≡◌, refl, sym, ◌∙◌, ap, subst}
use mathlib.Core.Bool.{Bool, true, false, cond}
use mathlib.Core.List.Memᴰ
use mathlib.Core.List.{
  List,
  [],
  ◌∷◌,
  Memᴰ,
}
use mathlib.Core.Logic.{⊎_elim}
use mathlib.Core.Option.{Option, none, some, map}
use Prim.Native.Nat.{ℕ, zero, suc, ◌+◌, ◌<◌}
use native.Mathlib.Omega.{arith}
use borrow.Author.Tests.{eq-eqb, ne_eqb, leb-true, leb-false}
use lib.Dec.{leb}
use lib.ListN.{length}
use Rattle.graphs.specs.Rows.{from, features, target, links_of, add_link}
use Rattle.graphs.specs.Number.{count_some, out_degree}
use Rattle.graphs.specs.Large.{Distinct, Ascending}
use Rattle.graphs.proofs.Lists.{mem-features, features-small, from-range, distinct_from}

-- a row has as many links as the node has by the features given
pub links_of-length : {A : Type 0} (link : A → ℕ → Option A) (name : A → ℕ) (v : A) (fs : List ℕ) →
    length (links_of (λ f. map name (link v f)) fs) ≡ out_degree link v fs
unfolding links_of out_degree
links_of-length link name v [] = refl
links_of-length {A} link name v (f ∷ fs) = go (link v f) (links_of-length link name v fs)
  where
    go : (o : Option A) → length (links_of (λ f. map name (link v f)) fs) ≡ out_degree link v fs →
        length (add_link f (map name o) (links_of (λ f. map name (link v f)) fs)) ≡ count_some o + out_degree link v fs
    go none e = omega arith
    go (some w) e = omega arith

module _ (next : ℕ → Option ℕ) where
  -- a link of the row is a feature given, with its target
  pub links_of-source : (fs : List ℕ) (l : ℕ × ℕ) → Memᴰ l (links_of next fs) →
      Memᴰ l.0 fs × (next l.0 ≡ some l.1)
  unfolding links_of
  links_of-source [] l m = absurd (Memᴰ.not-nil m)
  links_of-source (f ∷ fs) l m = go (next f) refl m (links_of-source fs l)
    where
      Source : List ℕ → Type 0
      Source gs = Memᴰ l.0 gs × (next l.0 ≡ some l.1)

      older : Source fs → Source (f ∷ fs)
      older (k, q) = (Memᴰ.tail k, q)

      go : (o : Option ℕ) → next f ≡ o → Memᴰ l (add_link f o (links_of next fs)) →
          (Memᴰ l (links_of next fs) → Source fs) → Source (f ∷ fs)
      go none e m later = older (later m)
      go (some w) e m later =
          ⊎_elim
          (λ (h : ◌≡◌ {A = ℕ × ℕ} l (f, w)).
          (Memᴰ.head (ap (λ x. x.0) h), ap (λ x. next x.0) h ∙ e ∙ ap (λ x. some x.1) (sym h)))
          (λ n. older (later n))
          (Memᴰ.cases_cons m)

  pub links_of-member : {f w : ℕ} {fs : List ℕ} → Memᴰ f fs → next f ≡ some w → Memᴰ (f, w) (links_of next fs)
  unfolding links_of
  links_of-member {f} {w} (Memᴰ.head {x = x} {xs = xs} e) q =
      subst (λ (o : Option ℕ). Memᴰ (f, w) (add_link x o (links_of next xs))) (sym q ∙ ap next e)
      (Memᴰ.head (ap {B = ℕ × ℕ} (λ y. (y, w)) e))
  links_of-member {f} {w} (Memᴰ.tail {x = x} {xs = xs} m) q = go (next x) (links_of-member m q)
    where
      go : (o : Option ℕ) → Memᴰ (f, w) (links_of next xs) → Memᴰ (f, w) (add_link x o (links_of next xs))
      go none n = n
      go (some y) n = Memᴰ.tail n

  pub links_of-ascending : (k n : ℕ) → Ascending (links_of next (from k n))
  unfolding from links_of
  links_of-ascending k zero = tt
  links_of-ascending k (suc n) = go (next k) (links_of-ascending (suc k) n)
    where
      go : (o : Option ℕ) → Ascending (links_of next (from (suc k) n)) → Ascending (add_link k o (links_of next (from (suc k) n)))
      go none a = a
      go (some w) a = (λ m i. (from-range (suc k) n m.0 (links_of-source (from (suc k) n) m i).0).0, a)

  target-missing : (fs : List ℕ) (f : ℕ) → (Memᴰ f fs → ⊥) → target (links_of next fs) f ≡ none
  unfolding links_of target
  target-missing [] f missing = refl
  target-missing (k ∷ fs) f missing = go (next k) (target-missing fs f (λ m. missing (Memᴰ.tail m)))
    where
      go : (o : Option ℕ) → target (links_of next fs) f ≡ none → target (add_link k o (links_of next fs)) f ≡ none
      go none e = e
      go (some w) e =
          ap (λ (t : Bool). cond t (some w) (target (links_of next fs) f)) (ne_eqb k f (λ h. missing (Memᴰ.head (sym h)))) ∙ e

  target-listed : {f : ℕ} {fs : List ℕ} → Distinct fs → Memᴰ f fs → target (links_of next fs) f ≡ next f
  unfolding links_of target
  target-listed {f} d (Memᴰ.head {x = k} {xs = fs} e) = go (next k) refl
    where
      go : (o : Option ℕ) → next k ≡ o → target (add_link k o (links_of next fs)) f ≡ next f
      go none q = target-missing fs f (λ m. d.0 (Memᴰ.cast (sym e) m)) ∙ sym (ap next e ∙ q)
      go (some w) q =
          ap (λ (t : Bool). cond t (some w) (target (links_of next fs) f)) (eq-eqb k f (sym e)) ∙ sym (ap next e ∙ q)
  target-listed {f} d (Memᴰ.tail {x = k} {xs = fs} m) = go (next k) (target-listed d.1 m)
    where
      go : (o : Option ℕ) → target (links_of next fs) f ≡ next f → target (add_link k o (links_of next fs)) f ≡ next f
      go none h = h
      go (some w) h =
          ap (λ (t : Bool). cond t (some w) (target (links_of next fs) f)) (ne_eqb k f (λ q. d.0 (Memᴰ.cast q m))) ∙ h

  -- the links of a row are those that it was made of
  pub target-links_of : ((f w : ℕ) → next f ≡ some w → f < 64) → (f : ℕ) → target (links_of next features) f ≡ next f
  target-links_of narrow f = go (leb 64 f) refl (next f) refl
    where
      go : (t : Bool) → leb 64 f ≡ t → (o : Option ℕ) → next f ≡ o → target (links_of next features) f ≡ next f
      go false e o q = target-listed (distinct_from 0 64) (mem-features f (leb-false 64 f e))
      go true e none q =
          target-missing features f (λ m. omega (arith, features-small f m, leb-true 64 f e)) ∙ sym q
      go true e (some w) q = absurd (omega (arith, leb-true 64 f e, narrow f w q))
