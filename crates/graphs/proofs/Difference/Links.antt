-- This file says which links are among those that leave the nodes of a list.
use mathlib.Core.Path.{◌≡◌, sym, fst_path}
use mathlib.Core.List.Memᴰ
use mathlib.Core.List.{List, [], ◌∷◌, map, Memᴰ}
use mathlib.Core.Logic.{⊎_elim}
use Prim.Native.Nat.{◌<◌}
use Rattle.graphs.specs.Rows.{features}
use Rattle.graphs.specs.Difference.{Link, links_from}
use Rattle.graphs.proofs.Lists.{mem-features}

module _ {A : Type 0} where
  pub links_from-source : (us : List A) (l : Link A) → Memᴰ l (links_from us) → Memᴰ l.0 us
  unfolding links_from
  links_from-source [] l m = absurd (Memᴰ.not-nil m)
  links_from-source (u ∷ us) l m =
      ⊎_elim
      (λ (n : Memᴰ l (map (λ f. (u, f)) features)). Memᴰ.head (sym (fst_path (Memᴰ.of_map (λ f. (u, f)) features n).2)))
      (λ (n : Memᴰ l (links_from us)). Memᴰ.tail (links_from-source us l n))
      (Memᴰ.append_cases (map (λ f. (u, f)) features) m)

  pub links_from-listed : (us : List A) (l : Link A) → Memᴰ l.0 us → l.1 < 64 → Memᴰ l (links_from us)
  unfolding links_from
  links_from-listed [] l m h = absurd (Memᴰ.not-nil m)
  links_from-listed (u ∷ us) l m h =
      ⊎_elim
      (λ (e : l.0 ≡ u).
      Memᴰ.append_left (links_from us) (Memᴰ.cast (λ i. (e i, l.1)) (Memᴰ.map (λ f. (u, f)) (mem-features l.1 h))))
      (λ (n : Memᴰ l.0 us). Memᴰ.append_right (map (λ f. (u, f)) features) (links_from-listed us l n h))
      (Memᴰ.cases_cons m)
