-- This file is about the rows that words hold, by number, and about the words that they depend on.
use mathlib.Core.Path.{◌≡◌, refl, sym, ◌∙◌, ap, ap₂}
use mathlib.Core.List.Memᴰ
use mathlib.Core.List.{List, [], ◌∷◌, ◌++◌, Memᴰ}
use mathlib.Core.Logic.{⊎_elim}
use Prim.Native.Nat.{ℕ, zero, suc, ◌+◌, ◌≤◌, ◌<◌}
use native.Mathlib.Nat.{add-zero}
use native.Mathlib.Omega.{arith}
use lib.ListN.{length, get_or}
use Rattle.graphs.specs.Rows.{Row}
use Rattle.lattice.specs.Label.{Label}
use Rattle.layout.specs.Layout.{label_at, links_at, rows_from}

pub row-at : (ws : List ℕ) (k u i v : ℕ) (d : Row Label) → u + i ≡ v → i < k →
    get_or (rows_from ws u k) i d ≡ (label_at ws v, links_at ws v)
unfolding rows_from
row-at ws zero u i v d e h = absurd (omega arith)
row-at ws (suc k) u zero v d e h =
    let q : u ≡ v = omega arith in
    ap (λ (n : ℕ). (label_at ws n, links_at ws n)) q
row-at ws (suc k) u (suc i) v d e h = row-at ws k (suc u) i v d (omega arith) (omega arith)

pub length-rows : (ws : List ℕ) (u k : ℕ) → length (rows_from ws u k) ≡ k
unfolding rows_from
length-rows ws u zero = refl
length-rows ws u (suc k) = ap suc (length-rows ws (suc u) k)

-- k + 1 rows are k rows and one row more
pub rows_more : (ws : List ℕ) (k u : ℕ) → rows_from ws u (suc k) ≡ rows_from ws u k ++ ((label_at ws (u + k), links_at ws (u + k)) ∷ [])
unfolding rows_from
rows_more ws zero u = ap (λ (n : ℕ). (label_at ws n, links_at ws n) ∷ []) (sym (add-zero u))
rows_more ws (suc k) u =
    let e : suc u + k ≡ u + suc k = omega arith in
    ap (λ (rs : List (Row Label)). (label_at ws u, links_at ws u) ∷ rs)
    (rows_more ws k (suc u) ∙ ap (λ (n : ℕ). rows_from ws (suc u) k ++ ((label_at ws n, links_at ws n) ∷ [])) e)

-- words whose rows are alike one by one hold the same rows
pub rows_alike : (ws ws' : List ℕ) (k u : ℕ) →
    ((v : ℕ) → u ≤ v → v < u + k → ◌≡◌ {A = Row Label} (label_at ws' v, links_at ws' v) (label_at ws v, links_at ws v)) →
    rows_from ws' u k ≡ rows_from ws u k
unfolding rows_from
rows_alike ws ws' zero u same = refl
rows_alike ws ws' (suc k) u same =
    ap₂ (λ (r : Row Label) (rs : List (Row Label)). r ∷ rs) (same u (omega arith) (omega arith))
    (rows_alike ws ws' k (suc u) (λ v low high. same v (omega arith) (omega arith)))

-- the row of a node is among them
pub rows-member : (ws : List ℕ) (k u i v : ℕ) → u + i ≡ v → i < k → Memᴰ {A = Row Label} (label_at ws v, links_at ws v) (rows_from ws u k)
unfolding rows_from
rows-member ws zero u i v e h = absurd (omega arith)
rows-member ws (suc k) u zero v e h =
    let q : v ≡ u = omega arith in
    Memᴰ.head (ap {B = Row Label} (λ (n : ℕ). (label_at ws n, links_at ws n)) q)
rows-member ws (suc k) u (suc i) v e h = Memᴰ.tail (rows-member ws k (suc u) i v (omega arith) (omega arith))

-- a row among the rows is that of a node
pub rows-source : (ws : List ℕ) (k u : ℕ) (r : Row Label) → Memᴰ r (rows_from ws u k) →
    (v : ℕ) × (v < u + k) × (r ≡ (label_at ws v, links_at ws v))
unfolding rows_from
rows-source ws zero u r m = absurd (Memᴰ.not-nil m)
rows-source ws (suc k) u r m =
    ⊎_elim (λ (e : ◌≡◌ {A = Row Label} r (label_at ws u, links_at ws u)). (u, omega arith, e))
    (λ i. let (v, h, e) = rows-source ws k (suc u) r i in (v, omega arith, e))
    (Memᴰ.cases_cons m)
