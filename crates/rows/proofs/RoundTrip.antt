-- The table that export fills states the rows that it was made of: "Importing what was exported yields the written record."
use mathlib.Core.Bool.{Bool, true, false, cond}
use mathlib.Core.Path.{◌≡◌, refl, sym, ◌∙◌, ap, ap₂}
use mathlib.Core.List.{List, [], ◌∷◌, ◌++◌, map}
use mathlib.Core.Option.{Option, none, some}
use Prim.Native.Nat.{ℕ, zero, suc, ◌+◌, ◌*◌, ◌/◌, ◌<◌}
use native.Mathlib.Nat.{suc-add, add-suc, add-zero, zero-add, mul-div_cancel}
use native.Mathlib.Omega.{arith}
use lib.Dec.{eqb}
use lib.ListN.{length, get_or}
use borrow.Author.Tests.{eq-eqb, ne_eqb}
use Rattle.graphs.specs.Rows.{Row, features, from, target, links_of}
use Rattle.graphs.proofs.Form.Invariant.{links_of-cong}
use Rattle.lattice.specs.Label.{Label, no_label}
use Rattle.rows.specs.declared.Row as lent
use Rattle.rows.specs.Rows.{is_of, target_in, label_in, table_rows, lent_link, lent_from, lent_rows, lent_nodes}
use Rattle.rows.proofs.LentRows.{nodes-length}

-- Lists.

-- a list is the list of what a function gives at each of its places
listed : {X : Type 0} (g : ℕ → X) (d : X) (rs : List X) (v : ℕ) → ((i : ℕ) → i < length rs → g (v + i) ≡ get_or rs i d) → map g (from v (length rs)) ≡ rs
unfolding from
listed g d [] v h = refl
listed {X} g d (r ∷ rs) v h =
    ap₂ (λ (x : X) (xs : List X). x ∷ xs) (ap g (sym (add-zero v)) ∙ h 0 (omega arith)) (listed g d rs (suc v) (λ i l. ap g (suc-add v i ∙ sym (add-suc v i)) ∙ h (suc i) (omega (arith, l))))

-- Targets.

module _ (p f : ℕ) where
  abbrev or_else : Option ℕ → Option ℕ → Option ℕ
  or_else none y = y
  or_else (some x) y = some x

  both : (xs ys : List lent.Row) → target_in (xs ++ ys) p f ≡ or_else (target_in xs p f) (target_in ys p f)
  unfolding target_in
  both [] ys = refl
  both (r ∷ xs) ys = go (is_of p f r) (both xs ys)
    where
      go : (t : Bool) → target_in (xs ++ ys) p f ≡ or_else (target_in xs p f) (target_in ys p f)
          → cond t (some r.target) (target_in (xs ++ ys) p f) ≡ or_else (cond t (some r.target) (target_in xs p f)) (target_in ys p f)
      go true e = refl
      go false e = e

  elsewhere : (v : ℕ) (ls : List (ℕ × ℕ)) → (v ≡ p → ⊥) → target_in (map (lent_link v) ls) p f ≡ none
  unfolding target_in is_of
  elsewhere v [] h = refl
  elsewhere v (l ∷ ls) h = ap (λ (t : Bool). cond (cond t (eqb l.0 f) false) (some l.1) (target_in (map (lent_link v) ls) p f)) (ne_eqb v p h) ∙ elsewhere v ls h

  later : (rs : List (Row Label)) (v : ℕ) → p < v → target_in (lent_from v rs) p f ≡ none
  unfolding target_in lent_from
  later [] v h = refl
  later (r ∷ rs) v h = both (map (lent_link v) r.1) (lent_from (suc v) rs) ∙ ap₂ or_else (elsewhere v r.1 (λ e. omega (arith, h, e))) (later rs (suc v) (omega (arith, h)))

here : (v f : ℕ) (ls : List (ℕ × ℕ)) → target_in (map (lent_link v) ls) v f ≡ target ls f
unfolding target_in is_of target
here v f [] = refl
here v f (l ∷ ls) = ap (λ (t : Bool). cond (cond t (eqb l.0 f) false) (some l.1) (target_in (map (lent_link v) ls) v f)) (eq-eqb v v refl) ∙ ap (λ (o : Option ℕ). cond (eqb l.0 f) (some l.1) o) (here v f ls)

or_none : (p f : ℕ) (o : Option ℕ) → or_else p f o none ≡ o
or_none p f none = refl
or_none p f (some x) = refl

abbrev no_row : Row Label
no_row = (no_label, [])

-- the targets of node v + i are those of row i
targets : (f : ℕ) (rs : List (Row Label)) (v i : ℕ) → i < length rs → target_in (lent_from v rs) (v + i) f ≡ target (get_or rs i no_row).1 f
unfolding lent_from
targets f [] v i h = absurd (omega (arith, h))
targets f (r ∷ rs) v zero h =
    ap (λ (p : ℕ). target_in (map (lent_link v) r.1 ++ lent_from (suc v) rs) p f) (add-zero v) ∙ both v f (map (lent_link v) r.1) (lent_from (suc v) rs)
    ∙ ap₂ (or_else v f) (here v f r.1) (later v f rs (suc v) (omega arith)) ∙ or_none v f (target r.1 f)
targets f (r ∷ rs) v (suc i) h =
    both (v + suc i) f (map (lent_link v) r.1) (lent_from (suc v) rs) ∙ ap (λ (o : Option ℕ). or_else (v + suc i) f o (target_in (lent_from (suc v) rs) (v + suc i) f)) (elsewhere (v + suc i) f v r.1 (λ e. omega (arith, e)))
    ∙ ap (λ (p : ℕ). target_in (lent_from (suc v) rs) p f) (add-suc v i ∙ sym (suc-add v i)) ∙ targets f rs (suc v) i (omega (arith, h))

-- Labels.

past : (a b c : ℕ) (ts : List ℕ) (m k : ℕ) → m ≡ suc (suc (suc k)) → get_or (a ∷ b ∷ c ∷ ts) m 0 ≡ get_or ts k 0
past a b c ts m k e = ap (λ (n : ℕ). get_or (a ∷ b ∷ c ∷ ts) n 0) e

pub label_of : {t t' l l' h h' : ℕ} → t ≡ t' → l ≡ l' → h ≡ h' → ◌≡◌ {A = Label} (record { type = t; lowest = l; highest = h }) (record { type = t'; lowest = l'; highest = h' })
label_of a b c = λ j. record { type = a j; lowest = b j; highest = c j }

labels : (rs : List (Row Label)) (i : ℕ) → i < length rs → label_in (lent_nodes rs) i ≡ (get_or rs i no_row).0
unfolding lent_nodes
labels [] i h = absurd (omega (arith, h))
labels (r ∷ rs) zero h = refl
labels (r ∷ rs) (suc i) h =
    label_of (past r.0.type r.0.lowest r.0.highest (lent_nodes rs) (suc i * 3) (i * 3) (omega arith))
    (past r.0.type r.0.lowest r.0.highest (lent_nodes rs) (suc i * 3 + 1) (i * 3 + 1) (omega arith))
    (past r.0.type r.0.lowest r.0.highest (lent_nodes rs) (suc i * 3 + 2) (i * 3 + 2) (omega arith)) ∙ labels rs i (omega (arith, h))

-- Rows whose links stand lowest feature first are what the table of them states.
pub table-of-lent : (rs : List (Row Label)) → ((i : ℕ) → i < length rs → links_of (target (get_or rs i no_row).1) features ≡ (get_or rs i no_row).1) → table_rows (lent_nodes rs) (lent_rows rs) ≡ rs
unfolding table_rows
table-of-lent rs tidy =
    ap (λ (n : ℕ). map {B = Row Label} (λ v. (label_in (lent_nodes rs) v, links_of (target_in (lent_rows rs) v) features)) (from 0 n)) (ap (λ (n : ℕ). n / 3) (nodes-length rs) ∙ mul-div_cancel (length rs) {n = 3} (omega arith))
    ∙ listed {X = Row Label} (λ v. (label_in (lent_nodes rs) v, links_of (target_in (lent_rows rs) v) features)) no_row rs 0 (λ i h.
    ap₂ {C = Row Label} (λ (l : Label) (ls : List (ℕ × ℕ)). (l, ls)) (ap (label_in (lent_nodes rs)) (zero-add i) ∙ labels rs i h)
    (links_of-cong (target_in (lent_rows rs) (0 + i)) (target (get_or rs i no_row).1) (λ f. targets f rs 0 i h) features ∙ tidy i h))
