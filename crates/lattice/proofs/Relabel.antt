-- This file is about graphs with other labels: they have one root and the same links, hence the same paths and the same numbering, and
-- their written forms differ in the labels alone. The file also carries the order along equal meaning, which asks no law of the labels.
use mathlib.Core.Path.{◌≡◌, refl, sym, ap, ◌∙◌}
use mathlib.Core.Bool.{Bool, true, false, cond}
use mathlib.Core.List.{List, [], map, map-map, reverse}
use mathlib.Core.Logic.{◌↔◌}
use mathlib.Core.Option.{Option, none, some}
use Prim.Native.Nat.{ℕ}
use native.Mathlib.Omega.{arith}
use lib.Dec.{leb}
use Rattle.graphs.specs.Label.{Labels}
use Rattle.graphs.specs.Graph.{Graph, Corefer, Below, SameMeaning}
use Rattle.graphs.specs.Rows.{Row}
use Rattle.graphs.specs.Number.{Canonical, many_nodes, many_links, written, canonical, counted, row_of, link_count, visit}
use Rattle.graphs.specs.Unify.{Joined, left, right, flip, chain, down, Unified, cycle, clash, unified}

-- a graph with other labels
abbrev pub relabel : {K L A : Type 0} → (K → L) → Graph K A → Graph L A
relabel f g = record { root = g.root; label = λ v. f (g.label v); link = g.link }

-- rows and forms with other labels
abbrev pub relabel_row : {K L : Type 0} → (K → L) → Row K → Row L
relabel_row f r = (f r.0, r.1)

abbrev pub relabel_form : {K L : Type 0} → (K → L) → Canonical K → Canonical L
relabel_form f many_nodes = many_nodes
relabel_form f many_links = many_links
relabel_form f (written rows) = written (map (relabel_row f) rows)

-- the written form of a graph with other labels is its written form with other labels
pub canonical-relabel : {K L A : Type 0} (f : K → L) (same : A → A → Bool) (g : Graph K A) →
    canonical same (relabel f g) ≡ relabel_form f (canonical same g)
unfolding canonical row_of
canonical-relabel {K} {L} {A} f same g = go (visit same g.link 255 g.root [])
  where
    fits : (now : List A) (few : Bool) →
        cond few (written (map (row_of same (relabel f g) (reverse now)) (reverse now))) many_links ≡
        relabel_form f (cond few (written (map (row_of same g (reverse now)) (reverse now))) many_links)
    fits now true = ap written (sym (map-map (relabel_row f) (row_of same g (reverse now)) (reverse now)))
    fits now false = refl

    go : (o : Option (List A)) → counted same (relabel f g) o ≡ relabel_form f (counted same g o)
    go none = refl
    go (some now) = fits now (leb (link_count g.link now) 2048)

-- what unification gives, with other labels
abbrev pub relabel_unified : {K L N : Type 0} → (K → L) → Unified K N → Unified L N
relabel_unified f cycle = cycle
relabel_unified f clash = clash
relabel_unified f (unified u) = unified (relabel f u)

module _ {K L N : Type 0} (f : K → L) where
  pub relabel-cycle : (o : Unified K N) → (relabel_unified f o ≡ cycle) ↔ (o ≡ cycle)
  relabel-cycle cycle = (λ _. refl, λ _. refl)
  relabel-cycle clash = (λ e. let z : ◌≡◌ {A = ℕ} 0 1 = cc in absurd (omega arith), λ e. ap (relabel_unified f) e)
  relabel-cycle (unified u) = (λ e. let z : ◌≡◌ {A = ℕ} 0 1 = cc in absurd (omega arith), λ e. ap (relabel_unified f) e)

  pub relabel-clash : (o : Unified K N) → (relabel_unified f o ≡ clash) ↔ (o ≡ clash)
  relabel-clash cycle = (λ e. let z : ◌≡◌ {A = ℕ} 0 1 = cc in absurd (omega arith), λ e. ap (relabel_unified f) e)
  relabel-clash clash = (λ _. refl, λ _. refl)
  relabel-clash (unified u) = (λ e. let z : ◌≡◌ {A = ℕ} 0 1 = cc in absurd (omega arith), λ e. ap (relabel_unified f) e)

-- Which paths are joined depends on which corefer, and on no label.
module _ {K L A B C D : Type 0} (g : Graph K A) (h : Graph K B) (k : Graph L C) (m : Graph L D)
    (first : (p q : List ℕ) → Corefer g p q → Corefer k p q) (second : (p q : List ℕ) → Corefer h p q → Corefer m p q) where
  pub joined-carried : {p q : List ℕ} → Joined g h p q → Joined k m p q
  joined-carried {p} {q} (left c) = left (first p q c)
  joined-carried {p} {q} (right c) = right (second p q c)
  joined-carried (flip i) = flip (joined-carried i)
  joined-carried (chain i j) = chain (joined-carried i) (joined-carried j)
  joined-carried (down f i j) = down f (joined-carried i) (joined-carried j)

-- Equal meaning carries the order, whatever the labels.
module _ {𝓛 : Labels} {A B C : Type 0} {s : Graph 𝓛.L A} {g : Graph 𝓛.L B} {h : Graph 𝓛.L C} where
  pub same-below-left : SameMeaning 𝓛 s g → Below 𝓛 s h → Below 𝓛 g h
  same-below-left m b =
      record {
        paths = λ p v e.
            let (w, d, l) = b.paths p v e in
            let (x, c, q) = m.there p w d in
            (x, c, ap (λ a. 𝓛.le a (h.label v)) (sym q) ∙ l);
        corefers = λ p q c. (m.corefers p q).0 (b.corefers p q c);
      }

  pub same-below-right : SameMeaning 𝓛 g h → Below 𝓛 s g → Below 𝓛 s h
  same-below-right m b =
      record {
        paths = λ p v e.
            let (x, c, q) = m.back p v e in
            let (w, d, l) = b.paths p x c in
            (w, d, ap (λ a. 𝓛.le (s.label w) a) (sym q) ∙ l);
        corefers = λ p q c. b.corefers p q ((m.corefers p q).1 c);
      }
