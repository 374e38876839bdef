-- The least link of a list, in a strict order of links: it is in the list, none of the list comes before it, and lists with
-- the same elements have one least link.
use mathlib.Core.Path.{◌≡◌, refl, ◌∙◌, ap}
use mathlib.Core.Bool.{Bool, true, false, cond}
use mathlib.Core.List.Memᴰ
use mathlib.Core.List.{
  List,
  [],
  ◌∷◌,
  Memᴰ,
}
use mathlib.Core.Logic.{◌⊎◌, ⊎_elim}
use Rattle.graphs.specs.Difference.{Link, StrictOrder, least_of}
use Rattle.graphs.proofs.Search.{true-false}

module _ {A : Type 0} (earlier : Link A → Link A → Bool) (order : StrictOrder earlier) where
  -- no link of the list comes before l
  abbrev pub Least : Link A → List (Link A) → Type 0
  Least l ms = (m : Link A) → Memᴰ m ms → earlier m l ≡ false

  not-earlier-trans : (l m n : Link A) → earlier n m ≡ false → earlier m l ≡ false → earlier n l ≡ false
  not-earlier-trans l m n a b = go (earlier n l) refl
    where
      go : (c : Bool) → earlier n l ≡ c → earlier n l ≡ false
      go false e = e
      go true e =
          ⊎_elim (λ (x : earlier n m ≡ true). true-false x a)
          (λ (x : (earlier m n ≡ true) ⊎ (n ≡ m)).
          ⊎_elim (λ (y : earlier m n ≡ true). true-false (order.transitive m n l y e) b)
          (λ (y : n ≡ m). true-false e (ap (λ t. earlier t l) y ∙ b)) x)
          (order.total n m)

  pub least_of-listed : (l : Link A) (ms : List (Link A)) → Memᴰ (least_of earlier l ms) (l ∷ ms)
  unfolding least_of
  least_of-listed l [] = Memᴰ.head refl
  least_of-listed l (m ∷ ms) = go (earlier m l) (least_of-listed (cond (earlier m l) m l) ms)
    where
      go : (c : Bool) → Memᴰ (least_of earlier (cond c m l) ms) (cond c m l ∷ ms) →
          Memᴰ (least_of earlier (cond c m l) ms) (l ∷ m ∷ ms)
      go true h =
          ⊎_elim (λ (e : least_of earlier m ms ≡ m). Memᴰ.tail (Memᴰ.head e))
          (λ (i : Memᴰ (least_of earlier m ms) ms). Memᴰ.tail (Memᴰ.tail i)) (Memᴰ.cases_cons h)
      go false h =
          ⊎_elim (λ (e : least_of earlier l ms ≡ l). Memᴰ.head e)
          (λ (i : Memᴰ (least_of earlier l ms) ms). Memᴰ.tail (Memᴰ.tail i)) (Memᴰ.cases_cons h)

  pub least_of-least : (l : Link A) (ms : List (Link A)) → Least (least_of earlier l ms) (l ∷ ms)
  unfolding least_of
  least_of-least l [] n i = ap (λ x. earlier x l) (Memᴰ.eq_of_singleton i) ∙ order.irreflexive l
  least_of-least l (m ∷ ms) n i = go (earlier m l) refl (least_of-least (cond (earlier m l) m l) ms)
    where
      later : (k : Link A) → earlier l k ≡ false → earlier m k ≡ false → Least k ms → earlier n k ≡ false
      later k a b c =
          ⊎_elim (λ (e : n ≡ l). ap (λ x. earlier x k) e ∙ a)
          (λ (j : Memᴰ n (m ∷ ms)). ⊎_elim (λ (e : n ≡ m). ap (λ x. earlier x k) e ∙ b) (c n) (Memᴰ.cases_cons j))
          (Memᴰ.cases_cons i)

      behind : earlier m l ≡ true → earlier l m ≡ false
      behind e = after (earlier l m) refl
        where
          after : (c : Bool) → earlier l m ≡ c → earlier l m ≡ false
          after false d = d
          after true d = true-false (order.transitive l m l d e) (order.irreflexive l)

      go : (c : Bool) → earlier m l ≡ c → Least (least_of earlier (cond c m l) ms) (cond c m l ∷ ms) →
          earlier n (least_of earlier (cond c m l) ms) ≡ false
      go true e h =
          let k = least_of earlier m ms in
          let b = h m (Memᴰ.head refl) in
          later k (not-earlier-trans k m l (behind e) b) b (λ x j. h x (Memᴰ.tail j))
      go false e h =
          let k = least_of earlier l ms in
          let b = h l (Memᴰ.head refl) in
          later k b (not-earlier-trans k l m e b) (λ x j. h x (Memᴰ.tail j))

  -- two links, neither before the other, are one
  pub earlier-one : (l m : Link A) → earlier l m ≡ false → earlier m l ≡ false → l ≡ m
  earlier-one l m a b =
      ⊎_elim (λ (x : earlier l m ≡ true). true-false x a)
      (λ (x : (earlier m l ≡ true) ⊎ (l ≡ m)). ⊎_elim (λ (y : earlier m l ≡ true). true-false y b) (λ (y : l ≡ m). y) x)
      (order.total l m)

  -- lists with the same elements have one least link
  pub least_of-one : (l m : Link A) (ls ms : List (Link A)) → ((n : Link A) → Memᴰ n (l ∷ ls) → Memᴰ n (m ∷ ms)) →
      ((n : Link A) → Memᴰ n (m ∷ ms) → Memᴰ n (l ∷ ls)) → least_of earlier l ls ≡ least_of earlier m ms
  least_of-one l m ls ms there back =
      earlier-one (least_of earlier l ls) (least_of earlier m ms)
      (least_of-least m ms (least_of earlier l ls) (there (least_of earlier l ls) (least_of-listed l ls)))
      (least_of-least l ls (least_of earlier m ms) (back (least_of earlier m ms) (least_of-listed m ms)))
