-- The loops over the nodes' labels: they make the labels of classes, and look for a contradiction.
use Rattle.std.proofs.Common.{◌≡◌, ℕ, suc, ◌+◌, ◌-◌, ◌*◌, ◌<◌, ◌≤◌, Bool, true, false, cond, ◌||◌, List, [], ◌∷◌, length, get_or, replicate, sym, ap, ◌∙◌, subst, add-one, arith, eq-eqb, ne_eqb}
use mathlib.Core.List.{foldr}
use native.Mathlib.Decide.{ℕ_discrete, dec_lt}
use lib.ListN.{get_or-replicate}
use Rattle.graphs.specs.Rows.{from}
use Rattle.graphs.specs.Unify.{any_of}
use Rattle.lattice.specs.Label.{Label, plain}
use Rattle.lattice.specs.Labels.{Known, meet_ranged}
use Rattle.lattice.proofs.Lawful.{plain_known}
use Rattle.layout.specs.Layout.{header, size, label_at}
use Rattle.layout.specs.Builder.{Same, put_label}
use Rattle.layout.proofs.Builder.{length-put, put-before, put-behind, label-put, label_same}
use Rattle.merging.specs.Lowered.{MeetsBelow, label_of_class, label_words, lower_by, Below, Lowerable}

pub from_cons : (x n : ℕ) → x < n → from x (n - x) ≡ x ∷ from (suc x) (n - suc x)
unfolding from
from_cons x n h =
    let e : n - x ≡ suc (n - suc x) = omega arith in
    ap (from x) e

from_empty : (n : ℕ) → from n (n - n) ≡ []
unfolding from
from_empty n = let e : n - n ≡ 0 = omega arith in ap (from n) e

-- The meet of two labels over n types is a label over n types.
pub meet-known : (n : ℕ) (meets : ℕ → ℕ → ℕ) → MeetsBelow n meets → (x y : Label) → Known n x → Known n y →
    Known n (meet_ranged meets x y)
meet-known n meets below x y k l =
    record {
      type = below x.type y.type k.type l.type;
      lowest = omega (arith, k.lowest, l.lowest);
      highest = omega (arith, k.highest, l.highest);
    }

-- A stored label is read back, and the other labels stay.
pub class-put : (labels : List ℕ) (c : ℕ) (l : Label) → length labels ≡ label_words → c < 510 → l.highest ≤ 255 →
    label_of_class (put_label labels (header * c) l) c ≡ l
class-put labels c l long h high = label-put labels (header * c) l (omega arith) high

pub class-kept : (labels : List ℕ) (c : ℕ) (l : Label) (d : ℕ) → (d ≡ c → ⊥) →
    label_of_class (put_label labels (header * c) l) d ≡ label_of_class labels d
class-kept labels c l d other =
    label_same labels (put_label labels (header * c) l) (header * d) (go (dec_lt d c))
  where
    go : Dec (d < c) → Same labels (put_label labels (header * c) l) (header * d) (header * d + header)
    go (yes before) = put-before labels (header * c) l (header * d) (header * d + header) (omega arith)
    go (no behind) = put-behind labels (header * c) l (header * d) (header * d + header) (omega arith)

-- The nodes from v on have lowered the labels of their classes.
pub record Lowering (meets : ℕ → ℕ → ℕ) (ws class : List ℕ) (shift : ℕ) (labels₀ labels : List ℕ) (v : ℕ) : Type 0 where
  pub most : v ≤ size ws
  pub long : length labels ≡ label_words
  pub below : (n : ℕ) → Lowerable n meets ws labels₀ → Below n labels
  pub is : (c : ℕ) → c < 510 →
      label_of_class labels c ≡ foldr (lower_by meets ws class shift c) (label_of_class labels₀ c) (from v (size ws - v))

pub lower-start : (meets : ℕ → ℕ → ℕ) (ws class : List ℕ) (shift : ℕ) (labels : List ℕ) → length labels ≡ label_words →
    Lowering meets ws class shift labels labels (size ws)
lower-start meets ws class shift labels long =
    record {
      most = omega arith;
      long = long;
      below = λ n given. given.below;
      is = λ c h. sym (ap (foldr (lower_by meets ws class shift c) (label_of_class labels c)) (from_empty (size ws)));
    }

module _ {meets : ℕ → ℕ → ℕ} {ws class : List ℕ} {shift : ℕ} {labels₀ labels : List ℕ} {v : ℕ}
    (s : Lowering meets ws class shift labels₀ labels v) where
  pub lower-done : v ≡ 0 → (c : ℕ) → c < 510 →
      label_of_class labels c ≡ foldr (lower_by meets ws class shift c) (label_of_class labels₀ c) (from 0 (size ws))
  lower-done e c h =
      let all : size ws - 0 ≡ size ws = omega arith in
      s.is c h ∙
      ap (λ (u : ℕ). foldr (lower_by meets ws class shift c) (label_of_class labels₀ c) (from u (size ws - u))) e ∙
      ap (λ (k : ℕ). foldr (lower_by meets ws class shift c) (label_of_class labels₀ c) (from 0 k)) all

  -- the labels of a node and of its class
  module _ {n : ℕ} (able : Lowerable n meets ws labels₀) (some : 0 < v) (placed : get_or class (shift + (v - 1)) 0 < 510) where
    pub node-known : Known n (label_at ws (v - 1))
    node-known = able.labelled (v - 1) (omega (arith, s.most))

    pub class-known : Known n (label_of_class labels (get_or class (shift + (v - 1)) 0))
    class-known = s.below n able (get_or class (shift + (v - 1)) 0) placed

  pub lower-step : {n : ℕ} → Lowerable n meets ws labels₀ → 0 < v → get_or class (shift + (v - 1)) 0 < 510 → {labels' : List ℕ} →
      labels' ≡ put_label labels (header * get_or class (shift + (v - 1)) 0)
      (meet_ranged meets (label_at ws (v - 1)) (label_of_class labels (get_or class (shift + (v - 1)) 0))) →
      Lowering meets ws class shift labels₀ labels' (v - 1)
  lower-step {n} able some placed {labels'} put =
      subst (λ (l : List ℕ). Lowering meets ws class shift labels₀ l (v - 1)) (sym put)
      record {
        most = omega (arith, s.most);
        long = length-put labels (header * c₀) new ∙ s.long;
        below = λ n given c h. below n given c h (ℕ_discrete c c₀);
        is = λ c h. is c h (ℕ_discrete c c₀);
      }
    where
      c₀ : ℕ
      c₀ = get_or class (shift + (v - 1)) 0

      new : Label
      new = meet_ranged meets (label_at ws (v - 1)) (label_of_class labels (get_or class (shift + (v - 1)) 0))

      new-known : (n : ℕ) → Lowerable n meets ws labels₀ → Known n new
      new-known n given =
          meet-known n meets given.meets-below (label_at ws (v - 1)) (label_of_class labels c₀) (node-known given some placed) (class-known given some placed)

      here : (c : ℕ) → c ≡ c₀ → label_of_class (put_label labels (header * c₀) new) c ≡ new
      here c e =
          ap (label_of_class (put_label labels (header * c₀) new)) e ∙ class-put labels c₀ new s.long placed (new-known n able).highest

      elsewhere : (c : ℕ) → (c ≡ c₀ → ⊥) → label_of_class (put_label labels (header * c₀) new) c ≡ label_of_class labels c
      elsewhere c d = class-kept labels c₀ new c d

      below : (n : ℕ) → Lowerable n meets ws labels₀ → (c : ℕ) → c < 510 → Dec (c ≡ c₀) →
          Known n (label_of_class (put_label labels (header * c₀) new) c)
      below n given c h (yes e) = subst (Known n) (sym (here c e)) (new-known n given)
      below n given c h (no d) = subst (Known n) (sym (elsewhere c d)) (s.below n given c h)

      -- The fold over one more node.
      unfolded : (c : ℕ) →
          foldr (lower_by meets ws class shift c) (label_of_class labels₀ c) (from (v - 1) (size ws - (v - 1))) ≡
          lower_by meets ws class shift c (v - 1) (foldr (lower_by meets ws class shift c) (label_of_class labels₀ c) (from v (size ws - v)))
      unfolded c =
          ap (foldr (lower_by meets ws class shift c) (label_of_class labels₀ c)) (from_cons (v - 1) (size ws) (omega (arith, s.most))) ∙
          ap
          (λ (w : ℕ).
          lower_by meets ws class shift c (v - 1)
          (foldr (lower_by meets ws class shift c) (label_of_class labels₀ c) (from w (size ws - w))))
          next
        where
          next : suc (v - 1) ≡ v
          next = omega arith

      is : (c : ℕ) → c < 510 → Dec (c ≡ c₀) →
          label_of_class (put_label labels (header * c₀) new) c ≡
          foldr (lower_by meets ws class shift c) (label_of_class labels₀ c) (from (v - 1) (size ws - (v - 1)))
      is c h (yes e) =
          here c e ∙
          ap (λ (i : ℕ). meet_ranged meets (label_at ws (v - 1)) (label_of_class labels i)) (sym e) ∙
          sym
          (unfolded c ∙ ap (lower_by meets ws class shift c (v - 1)) (sym (s.is c h)) ∙
          ap (λ (t : Bool). cond t (meet_ranged meets (label_at ws (v - 1)) (label_of_class labels c)) (label_of_class labels c))
          (eq-eqb c₀ c (sym e)))
      is c h (no d) =
          elsewhere c d ∙
          sym
          (unfolded c ∙ ap (lower_by meets ws class shift c (v - 1)) (sym (s.is c h)) ∙
          ap (λ (t : Bool). cond t (meet_ranged meets (label_at ws (v - 1)) (label_of_class labels c)) (label_of_class labels c))
          (ne_eqb c₀ c (λ q. d (sym q))))

-- Words of zeros are labels over n types.
pub blank-below : {n : ℕ} → 0 < n → Below n (replicate label_words 0)
blank-below {n} some c h =
    let a : ◌≡◌ {A = ℕ} (get_or (replicate label_words 0) (header * c) 0) 0 = get_or-replicate {A = ℕ} label_words (header * c) 0 0 (omega arith) in
    let b : ◌≡◌ {A = ℕ} (get_or (replicate label_words 0) (header * c + 1) 0) 0 = get_or-replicate {A = ℕ} label_words (header * c + 1) 0 0 (omega arith) in
    record { type = omega arith; lowest = omega arith; highest = omega arith }

-- The first c classes have the label top.
pub record Cleared (n : ℕ) (labels : List ℕ) (c : ℕ) : Type 0 where
  pub long : length labels ≡ label_words
  pub below : Below n labels
  pub tops : (d : ℕ) → d < c → label_of_class labels d ≡ plain (n - 1)

pub cleared-step : {n : ℕ} {labels : List ℕ} {c : ℕ} → Cleared n labels c → 0 < n → c < 510 → {labels' : List ℕ} →
    labels' ≡ put_label labels (header * c) (plain (n - 1)) → Cleared n labels' (c + 1)
cleared-step {n} {labels} {c} s some h {labels'} put =
    subst (λ (l : List ℕ). Cleared n l (c + 1)) (sym put)
    record {
      long = length-put labels (header * c) (plain (n - 1)) ∙ s.long;
      below = λ d i. below d i (ℕ_discrete d c);
      tops = λ d i. tops d i (ℕ_discrete d c);
    }
  where
    here : (d : ℕ) → d ≡ c → label_of_class (put_label labels (header * c) (plain (n - 1))) d ≡ plain (n - 1)
    here d e =
        ap (label_of_class (put_label labels (header * c) (plain (n - 1)))) e ∙ class-put labels c (plain (n - 1)) s.long h (omega arith)

    below : (d : ℕ) → d < 510 → Dec (d ≡ c) → Known n (label_of_class (put_label labels (header * c) (plain (n - 1))) d)
    below d i (yes e) = subst (Known n) (sym (here d e)) (plain_known n (n - 1) (omega arith))
    below d i (no q) = subst (Known n) (sym (class-kept labels c (plain (n - 1)) d q)) (s.below d i)

    tops : (d : ℕ) → d < c + 1 → Dec (d ≡ c) → label_of_class (put_label labels (header * c) (plain (n - 1))) d ≡ plain (n - 1)
    tops d i (yes e) = here d e
    tops d i (no q) = class-kept labels c (plain (n - 1)) d q ∙ s.tops d (omega arith)

-- A test of numbers in turn.

pub any-start : (test : ℕ → Bool) (n : ℕ) → any_of (from 0 n) test ≡ any_of (from 0 (n - 0)) test
any-start test n = let e : n ≡ n - 0 = omega arith in ap (λ (k : ℕ). any_of (from 0 k) test) e

pub any_next : (test : ℕ → Bool) (x n : ℕ) → x < n → test x ≡ false → any_of (from x (n - x)) test ≡ any_of (from (x + 1) (n - (x + 1))) test
unfolding any_of
any_next test x n h e =
    rw (add-one x)
    (ap (λ (l : List ℕ). any_of l test) (from_cons x n h) ∙ ap (λ (t : Bool). t || any_of (from (suc x) (n - suc x)) test) e)

pub any_here : (test : ℕ → Bool) (x n : ℕ) → x < n → test x ≡ true → any_of (from x (n - x)) test ≡ true
unfolding any_of
any_here test x n h e =
    ap (λ (l : List ℕ). any_of l test) (from_cons x n h) ∙ ap (λ (t : Bool). t || any_of (from (suc x) (n - suc x)) test) e

pub any-end : (test : ℕ → Bool) (x n : ℕ) → x ≡ n → any_of (from x (n - x)) test ≡ false
unfolding any_of
any-end test x n e =
    ap (λ (y : ℕ). any_of (from y (n - y)) test) e ∙ ap (λ (l : List ℕ). any_of l test) (from_empty n)
