-- Roots in a forest: what a step up keeps, and what moving a node below another leaves. A function that every step up keeps has one value on a
-- tree (`root-constant`), so such a function gives the roots of a changed forest.
use mathlib.Core.Path.{◌≡◌, refl, sym, ◌∙◌, ap, subst}
use mathlib.Core.Bool.{Bool, cond}
use mathlib.Core.List.{List}
use mathlib.Core.Logic.{◌⊎◌, inl, inr}
use Prim.Native.Nat.{ℕ, zero, suc, ◌≤◌, ◌<◌}
use native.Mathlib.Decide.{dec_lt, ℕ_discrete}
use native.Mathlib.Omega.{arith}
use borrow.Author.Tests.{eq-eqb, ne_eqb}
use lib.Dec.{eqb}
use lib.ListN.{length, get_or, set, length-set}
use lib.Seq.{get_or-set_same, get_or-set_other}
use Rattle.classes.specs.Forest.{climb, root_of, Forest, SameRoots, United, Flat}

-- A value that is stored in an array of numbers is read back, and the other values stay.
pub stored : (l : List ℕ) (i a : ℕ) → i < length l → get_or (set l i a) i 0 ≡ a
stored l i a h = get_or-set_same l i a 0 h

pub unstored : (l : List ℕ) (i a k : ℕ) → (k ≡ i → ⊥) → get_or (set l i a) k 0 ≡ get_or l k 0
unstored l i a k d = get_or-set_other l i k a 0 d

module _ {nodes : ℕ} {parent : List ℕ} (forest : Forest nodes parent) where
  climb-fixed : (k x : ℕ) → get_or parent x 0 ≡ x → climb k parent x ≡ x
  unfolding climb
  climb-fixed zero x e = refl
  climb-fixed (suc k) x e = ap (climb k parent) e ∙ climb-fixed k x e

  lowest : 0 < nodes → get_or parent 0 0 ≡ 0
  lowest some = omega (arith, forest.down 0 some)

  climb-root : (k x : ℕ) → x < nodes → x ≤ k → get_or parent (climb k parent x) 0 ≡ climb k parent x
  unfolding climb
  climb-root zero x small h =
      let e : x ≡ 0 = omega arith in
      subst (λ (z : ℕ). get_or parent z 0 ≡ z) (sym e) (lowest (omega arith))
  climb-root (suc k) x small h = go (dec_lt (get_or parent x 0) x) (climb-root k (get_or parent x 0))
    where
      go : Dec (get_or parent x 0 < x) →
          (get_or parent x 0 < nodes → get_or parent x 0 ≤ k →
          get_or parent (climb k parent (get_or parent x 0)) 0 ≡ climb k parent (get_or parent x 0)) →
          get_or parent (climb k parent (get_or parent x 0)) 0 ≡ climb k parent (get_or parent x 0)
      go (yes l) later = later (omega arith) (omega arith)
      go (no n) later =
          let e : get_or parent x 0 ≡ x = omega (arith, forest.down x small) in
          subst (λ (z : ℕ). get_or parent z 0 ≡ z) (sym (ap (climb k parent) e ∙ climb-fixed k x e)) e

  -- Steps beyond the root change nothing.
  climb-stable : (j k x : ℕ) → x < nodes → x ≤ j → x ≤ k → climb j parent x ≡ climb k parent x
  unfolding climb
  climb-stable zero k x small low high =
      let e : x ≡ 0 = omega arith in
      sym (ap (climb k parent) e ∙ climb-fixed k 0 (lowest (omega arith)) ∙ sym e)
  climb-stable (suc j) zero x small low high =
      let e : x ≡ 0 = omega arith in
      ap (climb (suc j) parent) e ∙ climb-fixed (suc j) 0 (lowest (omega arith)) ∙ sym e
  climb-stable (suc j) (suc k) x small low high =
      go (dec_lt (get_or parent x 0) x) (climb-stable j k (get_or parent x 0))
    where
      go : Dec (get_or parent x 0 < x) →
          (get_or parent x 0 < nodes → get_or parent x 0 ≤ j → get_or parent x 0 ≤ k →
          climb j parent (get_or parent x 0) ≡ climb k parent (get_or parent x 0)) →
          climb j parent (get_or parent x 0) ≡ climb k parent (get_or parent x 0)
      go (yes l) later = later (omega arith) (omega arith) (omega arith)
      go (no n) later =
          let e : get_or parent x 0 ≡ x = omega (arith, forest.down x small) in
          ap (climb j parent) e ∙ climb-fixed j x e ∙ sym (ap (climb k parent) e ∙ climb-fixed k x e)

  climb-low : (k x : ℕ) → x < nodes → climb k parent x ≤ x
  unfolding climb
  climb-low zero x small = omega arith
  climb-low (suc k) x small =
      omega (arith, forest.down x small, climb-low k (get_or parent x 0) (omega (arith, forest.down x small)))

  climb-constant : {C : Type 0} (h : ℕ → C) → ((x : ℕ) → x < nodes → h (get_or parent x 0) ≡ h x) → (k x : ℕ) → x < nodes →
      h (climb k parent x) ≡ h x
  unfolding climb
  climb-constant h keeps zero x small = refl
  climb-constant h keeps (suc k) x small =
      climb-constant h keeps k (get_or parent x 0) (omega (arith, forest.down x small)) ∙ keeps x small

  pub root-low : (x : ℕ) → x < nodes → root_of parent x ≤ x
  unfolding root_of
  root-low x small = climb-low x x small

  -- a root is its own parent
  pub root-fixed : (x : ℕ) → x < nodes → get_or parent (root_of parent x) 0 ≡ root_of parent x
  unfolding root_of
  root-fixed x small = climb-root x x small (omega arith)

  pub fixed-root : (x : ℕ) → get_or parent x 0 ≡ x → root_of parent x ≡ x
  unfolding root_of
  fixed-root x e = climb-fixed x x e

  pub root-twice : (x : ℕ) → x < nodes → root_of parent (root_of parent x) ≡ root_of parent x
  root-twice x small = fixed-root (root_of parent x) (root-fixed x small)

  pub root-up : (x : ℕ) → x < nodes → root_of parent (get_or parent x 0) ≡ root_of parent x
  unfolding root_of climb
  root-up x small =
      sym
      (climb-stable x (suc x) x small (omega arith) (omega arith) ∙
      climb-stable x (get_or parent x 0) (get_or parent x 0) (omega (arith, forest.down x small)) (forest.down x small) (omega arith))

  pub root-constant : {C : Type 0} (h : ℕ → C) → ((x : ℕ) → x < nodes → h (get_or parent x 0) ≡ h x) → (x : ℕ) → x < nodes →
      h (root_of parent x) ≡ h x
  unfolding root_of
  root-constant h keeps x small = climb-constant h keeps x x small

-- A function that every step up keeps, and that keeps roots, gives the roots of a changed forest.
roots-by : {nodes : ℕ} {later : List ℕ} → Forest nodes later → (h : ℕ → ℕ) → ((x : ℕ) → x < nodes → h (get_or later x 0) ≡ h x) →
    ((x : ℕ) → x < nodes → get_or later x 0 ≡ x → h x ≡ x) → (x : ℕ) → x < nodes → root_of later x ≡ h x
roots-by {nodes} {later} forest h keeps fixed x small =
    sym (fixed (root_of later x) (omega (arith, root-low forest x small)) (root-fixed forest x small)) ∙
    root-constant forest h keeps x small

-- A forest has the same roots as itself.
pub same_here : {nodes : ℕ} {parent : List ℕ} → Forest nodes parent → SameRoots nodes parent parent
same_here forest = record { forest = forest; same = λ x h. refl }

-- Moving a node up to its parent's parent keeps all roots.
pub halved : {nodes : ℕ} {parent₀ parent : List ℕ} → SameRoots nodes parent₀ parent → (v : ℕ) → v < nodes → get_or parent v 0 < v →
    SameRoots nodes parent₀ (set parent v (get_or parent (get_or parent v 0) 0))
halved {nodes} {parent₀} {parent} s v small less =
    record { forest = forest; same = λ x h. roots-by forest (root_of parent) keeps fixed x h ∙ s.same x h }
  where
    up : ℕ
    up = get_or parent (get_or parent v 0) 0

    lower : get_or parent (get_or parent v 0) 0 ≤ get_or parent v 0
    lower = s.forest.down (get_or parent v 0) (omega arith)

    later : List ℕ
    later = set parent v (get_or parent (get_or parent v 0) 0)

    here : get_or later v 0 ≡ get_or parent (get_or parent v 0) 0
    here = stored parent v (get_or parent (get_or parent v 0) 0) (omega (arith, s.forest.long, s.forest.few))

    elsewhere : (x : ℕ) → (x ≡ v → ⊥) → get_or later x 0 ≡ get_or parent x 0
    elsewhere x d = unstored parent v (get_or parent (get_or parent v 0) 0) x d

    down : (x : ℕ) → x < nodes → Dec (x ≡ v) → get_or later x 0 ≤ x
    down x h (yes e) = omega (arith, ap (λ (z : ℕ). get_or later z 0) e, here, lower)
    down x h (no d) = omega (arith, elsewhere x d, s.forest.down x h)

    forest : Forest nodes later
    forest =
        record {
          few = s.forest.few;
          long = length-set parent v (get_or parent (get_or parent v 0) 0) ∙ s.forest.long;
          down = λ x h. down x h (ℕ_discrete x v);
        }

    keeps : (x : ℕ) → x < nodes → root_of parent (get_or later x 0) ≡ root_of parent x
    keeps x h = go (ℕ_discrete x v)
      where
        go : Dec (x ≡ v) → root_of parent (get_or later x 0) ≡ root_of parent x
        go (yes e) =
            ap (λ (z : ℕ). root_of parent (get_or later z 0)) e ∙ ap (root_of parent) here ∙
            root-up s.forest (get_or parent v 0) (omega arith) ∙ root-up s.forest v small ∙ ap (root_of parent) (sym e)
        go (no d) = ap (root_of parent) (elsewhere x d) ∙ root-up s.forest x h

    fixed : (x : ℕ) → x < nodes → get_or later x 0 ≡ x → root_of parent x ≡ x
    fixed x h q = go (ℕ_discrete x v)
      where
        go : Dec (x ≡ v) → root_of parent x ≡ x
        go (yes e) = absurd (omega (arith, ap (λ (z : ℕ). get_or later z 0) e, here, lower))
        go (no d) = fixed-root s.forest x (sym (elsewhere x d) ∙ q)

-- The class of a node once hi's class has joined lo's.
abbrev pub joined : ℕ → ℕ → ℕ → ℕ
joined lo hi c = cond (eqb c hi) lo c

pub joined-here : (lo hi c : ℕ) → c ≡ hi → joined lo hi c ≡ lo
joined-here lo hi c e = ap (λ (t : Bool). cond t lo c) (eq-eqb c hi e)

pub joined-other : (lo hi c : ℕ) → (c ≡ hi → ⊥) → joined lo hi c ≡ c
joined-other lo hi c d = ap (λ (t : Bool). cond t lo c) (ne_eqb c hi d)

-- One root is put below another.
module _ {nodes : ℕ} {parent : List ℕ} (forest : Forest nodes parent) (lo hi : ℕ) (less : lo < hi) (small : hi < nodes) (lo-root : root_of parent lo ≡ lo)
    (hi-root : root_of parent hi ≡ hi) where
  abbrev hung : List ℕ
  hung = set parent hi lo

  hung-here : get_or hung hi 0 ≡ lo
  hung-here = stored parent hi lo (omega (arith, forest.long, forest.few))

  hung-other : (x : ℕ) → (x ≡ hi → ⊥) → get_or hung x 0 ≡ get_or parent x 0
  hung-other x d = unstored parent hi lo x d

  pub hung-forest : Forest nodes (set parent hi lo)
  hung-forest = record { few = forest.few; long = length-set parent hi lo ∙ forest.long; down = λ x h. down x h (ℕ_discrete x hi) }
    where
      down : (x : ℕ) → x < nodes → Dec (x ≡ hi) → get_or hung x 0 ≤ x
      down x h (yes e) = omega (arith, ap (λ (z : ℕ). get_or hung z 0) e, hung-here)
      down x h (no d) = omega (arith, hung-other x d, forest.down x h)

  pub hung-roots : (x : ℕ) → x < nodes → root_of (set parent hi lo) x ≡ joined lo hi (root_of parent x)
  hung-roots x h = roots-by hung-forest (λ (z : ℕ). joined lo hi (root_of parent z)) keeps fixed x h
    where
      keeps : (x : ℕ) → x < nodes → joined lo hi (root_of parent (get_or hung x 0)) ≡ joined lo hi (root_of parent x)
      keeps x h = go (ℕ_discrete x hi)
        where
          go : Dec (x ≡ hi) → joined lo hi (root_of parent (get_or hung x 0)) ≡ joined lo hi (root_of parent x)
          go (yes e) =
              ap (λ (z : ℕ). joined lo hi (root_of parent (get_or hung z 0))) e ∙
              ap (λ (z : ℕ). joined lo hi (root_of parent z)) hung-here ∙ ap (joined lo hi) lo-root ∙
              joined-other lo hi lo (λ q. omega arith) ∙
              sym (ap (λ (z : ℕ). joined lo hi (root_of parent z)) e ∙ joined-here lo hi (root_of parent hi) hi-root)
          go (no d) = ap (λ (z : ℕ). joined lo hi (root_of parent z)) (hung-other x d) ∙ ap (joined lo hi) (root-up forest x h)

      fixed : (x : ℕ) → x < nodes → get_or hung x 0 ≡ x → joined lo hi (root_of parent x) ≡ x
      fixed x h q = go (ℕ_discrete x hi)
        where
          go : Dec (x ≡ hi) → joined lo hi (root_of parent x) ≡ x
          go (yes e) = absurd (omega (arith, ap (λ (z : ℕ). get_or hung z 0) e, hung-here))
          go (no d) =
              let e : root_of parent x ≡ x = fixed-root forest x (sym (hung-other x d) ∙ q) in
              ap (joined lo hi) e ∙ joined-other lo hi x d

  -- Putting hi below lo unites the classes of a and b.
  module _ (a b : ℕ) (a_small : a < nodes) (b-small : b < nodes) (lo-is : lo ≡ root_of parent a) (hi-is : hi ≡ root_of parent b) where
    pub hung-unites : United nodes parent a b (set parent hi lo)
    hung-unites =
        record {
          forest = hung-forest;
          merged =
              hung-roots a a_small ∙ joined-other lo hi (root_of parent a) (λ q. omega (arith, lo-is)) ∙ sym lo-is ∙
              sym (hung-roots b b-small ∙ joined-here lo hi (root_of parent b) (sym hi-is));
          kept = λ x y h l e. hung-roots x h ∙ ap (joined lo hi) e ∙ sym (hung-roots y l);
          only = λ x y h l e.
              only x y (ℕ_discrete (root_of parent x) hi) (ℕ_discrete (root_of parent y) hi) (sym (hung-roots x h) ∙ e ∙ hung-roots y l);
        }
      where
        only : (x y : ℕ) → Dec (root_of parent x ≡ hi) → Dec (root_of parent y ≡ hi) →
            joined lo hi (root_of parent x) ≡ joined lo hi (root_of parent y) →
            (root_of parent x ≡ root_of parent y) ⊎ ((root_of parent x ≡ root_of parent a) × (root_of parent y ≡ root_of parent b)) ⊎
            ((root_of parent x ≡ root_of parent b) × (root_of parent y ≡ root_of parent a))
        only x y (yes p) (yes q) e = inl (p ∙ sym q)
        only x y (yes p) (no q) e =
            inr
            (inr
            (p ∙ hi-is, sym (joined-other lo hi (root_of parent y) q) ∙ sym e ∙ joined-here lo hi (root_of parent x) p ∙ lo-is))
        only x y (no p) (yes q) e =
            inr
            (inl
            (sym (joined-other lo hi (root_of parent x) p) ∙ e ∙ joined-here lo hi (root_of parent y) q ∙ lo-is, q ∙ hi-is))
        only x y (no p) (no q) e =
            inl (sym (joined-other lo hi (root_of parent x) p) ∙ e ∙ joined-other lo hi (root_of parent y) q)

-- One class of two, in either order, and in a forest with the same roots.

united-back : {nodes : ℕ} {parent later : List ℕ} {a b : ℕ} → United nodes parent b a later → United nodes parent a b later
united-back u =
    record { forest = u.forest; merged = sym u.merged; kept = u.kept; only = λ x y h l e. turn (u.only x y h l e) }
  where
    turn : {P Q R : Type 0} → P ⊎ Q ⊎ R → P ⊎ R ⊎ Q
    turn (inl p) = inl p
    turn (inr (inl q)) = inr (inr q)
    turn (inr (inr r)) = inr (inl r)

module _ {nodes : ℕ} {parent₀ parent : List ℕ} (s : SameRoots nodes parent₀ parent) {a b : ℕ} (a_small : a < nodes) (b-small : b < nodes) where
  united-before : {later : List ℕ} → United nodes parent a b later → United nodes parent₀ a b later
  united-before {later} u =
      record {
        forest = u.forest;
        merged = u.merged;
        kept = λ x y h l e. u.kept x y h l (s.same x h ∙ e ∙ sym (s.same y l));
        only = λ x y h l e. only x y h l (u.only x y h l e);
      }
    where
      to : (x y : ℕ) → x < nodes → y < nodes → root_of parent x ≡ root_of parent y → root_of parent₀ x ≡ root_of parent₀ y
      to x y h l e = sym (s.same x h) ∙ e ∙ s.same y l

      only : (x y : ℕ) → x < nodes → y < nodes →
          (root_of parent x ≡ root_of parent y) ⊎ ((root_of parent x ≡ root_of parent a) × (root_of parent y ≡ root_of parent b)) ⊎
          ((root_of parent x ≡ root_of parent b) × (root_of parent y ≡ root_of parent a)) →
          (root_of parent₀ x ≡ root_of parent₀ y) ⊎ ((root_of parent₀ x ≡ root_of parent₀ a) × (root_of parent₀ y ≡ root_of parent₀ b)) ⊎
          ((root_of parent₀ x ≡ root_of parent₀ b) × (root_of parent₀ y ≡ root_of parent₀ a))
      only x y h l (inl e) = inl (to x y h l e)
      only x y h l (inr (inl (p, q))) = inr (inl (to x a h a_small p, to y b l b-small q))
      only x y h l (inr (inr (p, q))) = inr (inr (to x b h b-small p, to y a l a_small q))

  united-already : root_of parent₀ a ≡ root_of parent₀ b → United nodes parent₀ a b parent
  united-already e =
      record {
        forest = s.forest;
        merged = s.same a a_small ∙ e ∙ sym (s.same b b-small);
        kept = λ x y h l q. s.same x h ∙ q ∙ sym (s.same y l);
        only = λ x y h l q. inl (sym (s.same x h) ∙ q ∙ s.same y l);
      }

-- The roots x and y of a and b are found, and the greater is put below the lesser.
module _ {nodes : ℕ} {parent₀ parent₁ parent : List ℕ} {a b x y : ℕ} (forest₀ : Forest nodes parent₀) (a_small : a < nodes)
    (b-small : b < nodes) (x-is : x ≡ root_of parent₀ a) (to-x : (n : ℕ) → Forest n parent₀ → a < n → SameRoots n parent₀ parent₁)
    (y-is : y ≡ root_of parent₁ b) (to-y : (n : ℕ) → Forest n parent₁ → b < n → SameRoots n parent₁ parent) where
  first : SameRoots nodes parent₀ parent₁
  first = to-x nodes forest₀ a_small

  second : SameRoots nodes parent₁ parent
  second = to-y nodes first.forest b-small

  both : SameRoots nodes parent₀ parent
  both = record { forest = second.forest; same = λ z h. second.same z h ∙ first.same z h }

  x-root : x ≡ root_of parent a
  x-root = x-is ∙ sym (both.same a a_small)

  y-root : y ≡ root_of parent b
  y-root = y-is ∙ sym (second.same b b-small)

  pub unite-bounds : (x < 510) × (y < 510)
  unite-bounds = (
    omega (arith, x-root, root-low both.forest a a_small, both.forest.few),
    omega (arith, y-root, root-low both.forest b b-small, both.forest.few),
  )

  top-x : root_of parent x ≡ x
  top-x = ap (root_of parent) x-root ∙ root-twice both.forest a a_small ∙ sym x-root

  top-y : root_of parent y ≡ y
  top-y = ap (root_of parent) y-root ∙ root-twice both.forest b b-small ∙ sym y-root

  pub unite-below : x < y → United nodes parent₀ a b (set parent y x)
  unite-below h =
      united-before both a_small b-small
      (hung-unites both.forest x y h (omega (arith, y-root, root-low both.forest b b-small)) top-x top-y a b a_small b-small x-root y-root)

  pub unite-above : y < x → United nodes parent₀ a b (set parent x y)
  unite-above h =
      united-before both a_small b-small
      (united-back (hung-unites both.forest y x h (omega (arith, x-root, root-low both.forest a a_small)) top-y top-x b a b-small a_small y-root x-root))

  pub unite-none : y ≤ x → x ≤ y → United nodes parent₀ a b parent
  unite-none low high =
      let e : x ≡ y = omega arith in
      united-already both a_small b-small (sym x-is ∙ e ∙ y-is ∙ first.same b b-small)

-- Each node is a class of its own.

pub separate-forest : {nodes : ℕ} {parent : List ℕ} → nodes ≤ 510 → length parent ≡ 510 → ((x : ℕ) → x < nodes → get_or parent x 0 ≡ x) → Forest nodes parent
separate-forest few long e = record { few = few; long = long; down = λ x h. omega (arith, e x h) }

pub separate-step : (l : List ℕ) (n : ℕ) → n < length l → ((x : ℕ) → x < n → get_or l x 0 ≡ x) → (x : ℕ) → x < suc n →
    get_or (set l n n) x 0 ≡ x
separate-step l n h all x k = go (ℕ_discrete x n)
  where
    go : Dec (x ≡ n) → get_or (set l n n) x 0 ≡ x
    go (yes e) = ap (λ (z : ℕ). get_or (set l n n) z 0) e ∙ stored l n n h ∙ sym e
    go (no d) = unstored l n n x d ∙ all x (omega arith)

-- The nodes below n are put right below their roots.
pub record Flattening (nodes : ℕ) (parent later : List ℕ) (n : ℕ) : Type 0 where
  pub long : length later ≡ 510
  pub done : (x : ℕ) → x < n → get_or later x 0 ≡ root_of parent x
  pub left : (x : ℕ) → n ≤ x → get_or later x 0 ≡ get_or parent x 0

pub flat_start : {nodes : ℕ} {parent : List ℕ} → Forest nodes parent → Flattening nodes parent parent 0
flat_start forest = record { long = forest.long; done = λ x h. absurd (omega arith); left = λ x h. refl }

pub flat_up : {nodes : ℕ} {parent later : List ℕ} → Forest nodes parent → (n : ℕ) → n < nodes → Flattening nodes parent later n → get_or later n 0 ≤ n
flat_up forest n h f = omega (arith, f.left n (omega arith), forest.down n h)

pub flat_step : {nodes : ℕ} {parent later : List ℕ} → Forest nodes parent → (n : ℕ) → n < nodes → Flattening nodes parent later n →
    Flattening nodes parent (set later n (get_or later (get_or later n 0) 0)) (suc n)
flat_step {nodes} {parent} {later} forest n small f =
    record {
      long = length-set later n (get_or later (get_or later n 0) 0) ∙ f.long;
      done = λ x h. done x h (ℕ_discrete x n);
      left = λ x h. unstored later n (get_or later (get_or later n 0) 0) x (λ q. omega arith) ∙ f.left x (omega arith);
    }
  where
    up : get_or later n 0 ≡ get_or parent n 0
    up = f.left n (omega arith)

    value : Dec (get_or parent n 0 < n) → get_or later (get_or later n 0) 0 ≡ root_of parent n
    value (yes l) =
        ap (λ (z : ℕ). get_or later z 0) up ∙ f.done (get_or parent n 0) l ∙ root-up forest n small
    value (no d) =
        let e : get_or parent n 0 ≡ n = omega (arith, forest.down n small) in
        ap (λ (z : ℕ). get_or later z 0) (up ∙ e) ∙ up ∙ e ∙ sym (fixed-root forest n e)

    done : (x : ℕ) → x < suc n → Dec (x ≡ n) → get_or (set later n (get_or later (get_or later n 0) 0)) x 0 ≡ root_of parent x
    done x h (yes e) =
        ap (λ (z : ℕ). get_or (set later n (get_or later (get_or later n 0) 0)) z 0) e ∙
        stored later n (get_or later (get_or later n 0) 0) (omega (arith, f.long, forest.few)) ∙
        value (dec_lt (get_or parent n 0) n) ∙ ap (root_of parent) (sym e)
    done x h (no d) = unstored later n (get_or later (get_or later n 0) 0) x d ∙ f.done x (omega arith)

-- An array of the roots of a forest is a flat forest with the same roots.
pub flattened : {nodes : ℕ} {parent later : List ℕ} → Forest nodes parent → length later ≡ 510 →
    ((x : ℕ) → x < nodes → get_or later x 0 ≡ root_of parent x) → SameRoots nodes parent later × Flat nodes later
flattened {nodes} {parent} {later} forest long e =
    (record { forest = down; same = same }, record { forest = down; near = λ x h. e x h ∙ sym (same x h) })
  where
    down : Forest nodes later
    down = record { few = forest.few; long = long; down = λ x h. omega (arith, e x h, root-low forest x h) }

    same : (x : ℕ) → x < nodes → root_of later x ≡ root_of parent x
    same x h =
        roots-by down (root_of parent) (λ z l. ap (root_of parent) (e z l) ∙ root-twice forest z l) (λ z l q. sym (e z l) ∙ q) x h

-- The way up from x has come to v, whose parent is `up`.
pub record Climbing (nodes : ℕ) (parent₀ : List ℕ) (x : ℕ) (parent : List ℕ) (v up : ℕ) : Type 0 where
  pub roots : SameRoots nodes parent₀ parent
  pub small : v < nodes
  pub above : up ≡ get_or parent v 0
  pub on-way : root_of parent₀ v ≡ root_of parent₀ x

pub climb-start : {nodes : ℕ} {parent : List ℕ} → Forest nodes parent → (x : ℕ) → x < nodes → Climbing nodes parent x parent x (get_or parent x 0)
climb-start forest x h = record { roots = same_here forest; small = h; above = refl; on-way = refl }

module _ {nodes : ℕ} {parent₀ : List ℕ} {x : ℕ} {parent : List ℕ} {v up : ℕ} (s : Climbing nodes parent₀ x parent v up) where
  pub climb-done : v ≤ up → (v ≡ root_of parent₀ x) × SameRoots nodes parent₀ parent
  climb-done h =
      let e : get_or parent v 0 ≡ v = omega (arith, s.above, s.roots.forest.down v s.small) in
      (sym (fixed-root s.roots.forest v e) ∙ s.roots.same v s.small ∙ s.on-way, s.roots)

  module _ (less : up < v) where
    pub climb-bound : get_or parent up 0 < v
    climb-bound = omega (arith, s.roots.forest.down up (omega (arith, s.small)))

    pub climb-next : Climbing nodes parent₀ x (set parent v (get_or parent up 0)) (get_or parent up 0)
        (get_or (set parent v (get_or parent up 0)) (get_or parent up 0) 0)
    climb-next =
        record {
          roots = subst (λ (u : ℕ). SameRoots nodes parent₀ (set parent v (get_or parent u 0))) (sym s.above)
              (halved s.roots v s.small (omega (arith, s.above)));
          small = omega (arith, climb-bound, s.small);
          above = refl;
          on-way =
              sym (s.roots.same (get_or parent up 0) (omega (arith, climb-bound, s.small))) ∙
              root-up s.roots.forest up (omega (arith, s.small)) ∙ ap (root_of parent) s.above ∙
              root-up s.roots.forest v s.small ∙ s.roots.same v s.small ∙ s.on-way;
        }

    pub climb-next-bound : get_or (set parent v (get_or parent up 0)) (get_or parent up 0) 0 < nodes
    climb-next-bound = omega (arith, climb-next.roots.forest.down (get_or parent up 0) climb-next.small, climb-next.small)
