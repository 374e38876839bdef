-- A row's links by feature are its links, where these ascend.
use mathlib.Core.Path.{◌≡◌, refl, sym, ◌∙◌, ap, ap₂}
use mathlib.Core.Bool.{Bool, true, false, cond}
use mathlib.Core.List.Memᴰ
use mathlib.Core.List.{List, [], ◌∷◌, map, Memᴰ}
use mathlib.Core.Logic.{⊎_elim}
use mathlib.Core.Option
use mathlib.Core.Option.{Option, some}
use Prim.Native.Nat.{ℕ, zero, suc, ◌<◌}
use native.Mathlib.Decide.{ℕ_discrete}
use native.Mathlib.Omega.{arith}
use borrow.Author.Tests.{eqb-true}
use lib.Dec.{eqb}
use Rattle.graphs.specs.Rows.{from, target, links_of, add_link}
use Rattle.graphs.specs.Large.{Ascending}
use Rattle.encoder.proofs.FeatureMap.{Within, target-absent, target_first, target-later}

pub target-source : (links : List (ℕ × ℕ)) (f w : ℕ) → target links f ≡ some w → Memᴰ {A = ℕ × ℕ} (f, w) links
unfolding target
target-source [] f w e = let z : ◌≡◌ {A = ℕ} 0 1 = cc in absurd (omega arith)
target-source (l ∷ ls) f w e = go (eqb l.0 f) refl e (target-source ls f w)
  where
    go : (t : Bool) → eqb l.0 f ≡ t → cond t (some l.1) (target ls f) ≡ some w →
        (target ls f ≡ some w → Memᴰ {A = ℕ × ℕ} (f, w) ls) → Memᴰ {A = ℕ × ℕ} (f, w) (l ∷ ls)
    go true q h rest =
        let s : l.1 ≡ w = cc in
        Memᴰ.head (ap₂ {C = ℕ × ℕ} (λ (x y : ℕ). (x, y)) (sym (eqb-true l.0 f q)) (sym s))
    go false q h rest = Memᴰ.tail (rest h)

-- of ascending links each is found
pub target-member : (l : ℕ × ℕ) (links : List (ℕ × ℕ)) → Ascending links → Memᴰ l links → target links l.0 ≡ some l.1
target-member l links up (Memᴰ.head {x = x} {xs = ls} e) =
    target_first l.0 x ls (sym (ap (λ (m : ℕ × ℕ). m.0) e)) ∙ ap (λ (m : ℕ × ℕ). some m.1) (sym e)
target-member l links up (Memᴰ.tail {x = x} {xs = ls} m) =
    target-later l.0 x ls (λ (e : x.0 ≡ l.0). omega (arith, up.0 l m)) ∙ target-member l ls up.1 m

module _ (name : ℕ → ℕ) where
  abbrev pub renamed : List (ℕ × ℕ) → List (ℕ × ℕ)
  renamed links = map {B = ℕ × ℕ} (λ l. (l.0, name l.1)) links

  abbrev next : List (ℕ × ℕ) → ℕ → Option ℕ
  next links f = Option.map name (target links f)

  -- features past a link do not see it
  links_of-later : (l : ℕ × ℕ) (ls : List (ℕ × ℕ)) (f k : ℕ) → l.0 < f → links_of (next (l ∷ ls)) (from f k) ≡ links_of (next ls) (from f k)
  unfolding links_of from
  links_of-later l ls f zero h = refl
  links_of-later l ls f (suc k) h =
      ap₂ (λ (o : Option ℕ) (ms : List (ℕ × ℕ)). add_link f (Option.map name o) ms) (target-later f l ls (λ (e : l.0 ≡ f). omega arith))
      (links_of-later l ls (suc f) k (omega arith))

  pub links_of-links : (links : List (ℕ × ℕ)) (f k : ℕ) → Ascending links → Within f k links →
      links_of (next links) (from f k) ≡ renamed links
  unfolding links_of from target
  links_of-links [] f zero up inside = refl
  links_of-links (l ∷ ls) f zero up inside = absurd (omega (arith, inside l (Memᴰ.head refl)))
  links_of-links [] f (suc k) up inside = links_of-links [] (suc f) k tt (λ l m. absurd (Memᴰ.not-nil m))
  links_of-links (l ∷ ls) f (suc k) up inside =
      go (ℕ_discrete l.0 f) (links_of-links ls (suc f) k up.1) (links_of-links (l ∷ ls) (suc f) k up)
    where
      After : List (ℕ × ℕ) → Type 0
      After ms = Within (suc f) k ms → links_of (next ms) (from (suc f) k) ≡ renamed ms

      go : Dec (l.0 ≡ f) → After ls → After (l ∷ ls) →
          add_link f (next (l ∷ ls) f) (links_of (next (l ∷ ls)) (from (suc f) k)) ≡ renamed (l ∷ ls)
      go (yes e) rest whole =
          ap₂ (λ (o : Option ℕ) (ms : List (ℕ × ℕ)). add_link f (Option.map name o) ms) (target_first f l ls e)
          (links_of-later l ls (suc f) k (omega arith) ∙ rest (λ m i. omega (arith, up.0 m i, inside m (Memᴰ.tail i))))
          ∙ ap (λ (g : ℕ). (g, name l.1) ∷ renamed ls) (sym e)
      go (no d) rest whole =
          let low : f < l.0 = omega (arith, inside l (Memᴰ.head refl)) in
          let above : (m : ℕ × ℕ) → Memᴰ m (l ∷ ls) → f < m.0 =
          λ m i. ⊎_elim (λ (e : m ≡ l). omega (arith, ap (λ (x : ℕ × ℕ). x.0) e)) (λ n. omega (arith, up.0 m n)) (Memᴰ.cases_cons i) in
          ap (λ (o : Option ℕ). add_link f (Option.map name o) (links_of (next (l ∷ ls)) (from (suc f) k)))
          (target-absent f (l ∷ ls) (λ m i (e : m.0 ≡ f). omega (arith, above m i)))
          ∙ whole (λ m i. omega (arith, above m i, inside m i))
