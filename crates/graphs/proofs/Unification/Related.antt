-- This file defines the relation of nodes behind unification, over one type of nodes with two roots: the smallest equivalence on reached
-- nodes that relates the roots and passes down equal features. A map is constant on related nodes as soon as it is constant on the roots
-- and passes down features (`related-constant`). So classes that are computed in any way can be compared with the relation.
use mathlib.Core.Path.{◌≡◌, sym, ◌∙◌, subst}
use mathlib.Core.List.{List, Memᴰ}
use mathlib.Core.Logic.{◌↔◌}
use mathlib.Core.Option.{Option, some}
use Prim.Native.Nat.{ℕ, ◌<◌}

module _ {N : Type 0} (link : N → ℕ → Option N) (r s : N) where
  -- Two nodes are of one class. A node is related to itself exactly when a root reaches it: the roots are, by `roots`, `back` and `next`,
  -- and `feat` passes this down.
  pub data Related : N → N → Type 0 where
    roots : Related r s
    back : {x y : N} → Related x y → Related y x
    next : {x y z : N} → Related x y → Related y z → Related x z
    feat : {x y v w : N} (f : ℕ) → Related x y → link x f ≡ some v → link y f ≡ some w → Related v w

  -- The list holds the nodes that the roots reach and no other, and their features are below 64.
  pub record Listing (nodes : List N) : Type 0 where
    pub reached : (x : N) → Memᴰ x nodes → Related x x
    pub first : Memᴰ r nodes
    pub second : Memᴰ s nodes
    pub onwards : (x y : N) (f : ℕ) → Memᴰ x nodes → link x f ≡ some y → Memᴰ y nodes × (f < 64)

  -- `name` names the classes: a node is related to its name, and related nodes have one name.
  pub record Classes (nodes : List N) (name : N → N) : Type 0 where
    pub related : (x : N) → Memᴰ x nodes → Related x (name x)
    pub one : {x y : N} → Related x y → name x ≡ name y

module _ {N : Type 0} {link : N → ℕ → Option N} {r s : N} where
  pub related-constant : {C : Type 0} (to : N → C) → to r ≡ to s →
      ((x y v w : N) (f : ℕ) → Related link r s x y → to x ≡ to y → link x f ≡ some v → link y f ≡ some w → to v ≡ to w) →
      {x y : N} → Related link r s x y → to x ≡ to y
  related-constant to e down roots = e
  related-constant to e down (back c) = sym (related-constant to e down c)
  related-constant to e down (next c d) = related-constant to e down c ∙ related-constant to e down d
  related-constant to e down (feat {x} {y} {v} {w} f c a b) = down x y v w f c (related-constant to e down c) a b

  pub related-listed : {nodes : List N} → Listing link r s nodes → {x y : N} → Related link r s x y →
      Memᴰ x nodes × Memᴰ y nodes
  related-listed l roots = (l.first, l.second)
  related-listed l (back c) = let m = related-listed l c in (m.1, m.0)
  related-listed l (next c d) = ((related-listed l c).0, (related-listed l d).1)
  related-listed l (feat {x} {y} {v} {w} f c e d) =
      let m = related-listed l c in
      ((l.onwards x v f m.0 e).0, (l.onwards y w f m.1 d).0)

  -- two nodes have one name exactly when they are related
  pub named : {nodes : List N} {name : N → N} → Classes link r s nodes name → (x y : N) → Memᴰ x nodes → Memᴰ y nodes →
      (name x ≡ name y) ↔ Related link r s x y
  named classes x y m n =
      (λ e. next (subst (Related link r s x) e (classes.related x m)) (back (classes.related y n)), λ c. classes.one c)
