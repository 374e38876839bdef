-- The feature map as a number is the sum of the powers of two at its features. The eight bytes of this number, lowest first, are the
-- feature map of the row's links.
use mathlib.Core.Path.{◌≡◌, refl, sym, ◌∙◌, ap, ap₂}
use mathlib.Core.Bool.{Bool, true, false, cond}
use mathlib.Core.List.Memᴰ
use mathlib.Core.List.{List, [], ◌∷◌, ◌++◌, map, Memᴰ}
use mathlib.Core.Logic.{⊎_elim}
use mathlib.Core.Option
use mathlib.Core.Option.{Option, none, some}
use Prim.Native.Nat.{ℕ, zero, suc, ◌+◌, ◌*◌, ◌/◌, ◌%◌, ◌^◌, ◌≤◌, ◌<◌}
use native.Mathlib.Decide.{ℕ_discrete}
use native.Mathlib.Nat.{pow-suc, mul-zero, mul-add, mul_assoc, mul-one, one-mul}
use native.Mathlib.Omega.{arith}
use borrow.Author.Tests.{eq-eqb, ne_eqb}
use lib.Dec.{eqb}
use lib.Bits.{bit_or, or_shifted_r}
use lib.Pow.{pow_mono, shl_exact}
use Rattle.graphs.specs.Rows.{from, target}
use Rattle.graphs.specs.Number.{count_some}
use Rattle.graphs.specs.Large.{Ascending}
use Rattle.graphs.proofs.Lists.{count_small}
use Rattle.encoder.specs.Encode.{bits_from}
use Rattle.encoder.specs.NumberedRows.{low_bytes}

-- the sum of the powers of two at the features
unfoldable pub map_of : List ℕ → ℕ
map_of [] = 0
map_of (f ∷ fs) = 2 ^ f + map_of fs

pub map-none : map_of [] ≡ 0
unfolding map_of
map-none = refl

pub map_more : (fs : List ℕ) (f : ℕ) → map_of (fs ++ (f ∷ [])) ≡ map_of fs + 2 ^ f
unfolding map_of
map_more [] f = omega arith
map_more (g ∷ fs) f = omega (arith, map_more fs f)

-- a bit above all others is added
pub or_above : (m f : ℕ) → m < 2 ^ f → f < 64 → bit_or m ((1 * 2 ^ f) % 2 ^ 64) ≡ m + 2 ^ f
or_above m f h k =
    ap (bit_or m) (shl_exact {a = 1} 1 f 64 (omega arith) (omega arith))
    ∙ or_shifted_r 1 f m h
    ∙ omega (arith, one-mul (2 ^ f))

pub above-next : (m f g : ℕ) → m < 2 ^ f → f < g → m + 2 ^ f < 2 ^ g
above-next m f g h k = omega (arith, pow-suc 2 f, pow_mono {i = suc f} {j = g} k)

-- Which features stand.

module _ (f : ℕ) where
  pub target-absent : (links : List (ℕ × ℕ)) → ((l : ℕ × ℕ) → Memᴰ l links → l.0 ≡ f → ⊥) → target links f ≡ none
  unfolding target
  target-absent [] other = refl
  target-absent (l ∷ ls) other =
      ap (λ (t : Bool). cond t (some l.1) (target ls f)) (ne_eqb l.0 f (other l (Memᴰ.head refl)))
      ∙ target-absent ls (λ m i. other m (Memᴰ.tail i))

  pub target_first : (l : ℕ × ℕ) (ls : List (ℕ × ℕ)) → l.0 ≡ f → target (l ∷ ls) f ≡ some l.1
  unfolding target
  target_first l ls e = ap (λ (t : Bool). cond t (some l.1) (target ls f)) (eq-eqb l.0 f e)

  pub target-later : (l : ℕ × ℕ) (ls : List (ℕ × ℕ)) → (l.0 ≡ f → ⊥) → target (l ∷ ls) f ≡ target ls f
  unfolding target
  target-later l ls d = ap (λ (t : Bool). cond t (some l.1) (target ls f)) (ne_eqb l.0 f d)

  -- which features stand does not depend on how targets are named
  pub target-renamed : (name : ℕ → ℕ) (links : List (ℕ × ℕ)) →
      target (map {B = ℕ × ℕ} (λ l. (l.0, name l.1)) links) f ≡ Option.map name (target links f)
  unfolding target
  target-renamed name [] = refl
  target-renamed name (l ∷ ls) = go (eqb l.0 f) (target-renamed name ls)
    where
      go : (t : Bool) → target (map {B = ℕ × ℕ} (λ l. (l.0, name l.1)) ls) f ≡ Option.map name (target ls f) →
          cond t (some (name l.1)) (target (map {B = ℕ × ℕ} (λ l. (l.0, name l.1)) ls) f)
          ≡ Option.map name (cond t (some l.1) (target ls f))
      go true e = refl
      go false e = e

count-renamed : (name : ℕ → ℕ) (o : Option ℕ) → count_some (Option.map name o) ≡ count_some o
count-renamed name none = refl
count-renamed name (some w) = refl

pub bits-renamed : (name : ℕ → ℕ) (links : List (ℕ × ℕ)) (f k : ℕ) →
    bits_from (map {B = ℕ × ℕ} (λ l. (l.0, name l.1)) links) f k ≡ bits_from links f k
unfolding bits_from
bits-renamed name links f zero = refl
bits-renamed name links f (suc k) =
    ap₂ (λ (a b : ℕ). a + 2 * b) (ap count_some (target-renamed f name links) ∙ count-renamed name (target links f))
    (bits-renamed name links (suc f) k)

pub bits_small : (links : List (ℕ × ℕ)) (f k : ℕ) → bits_from links f k < 2 ^ k
unfolding bits_from
bits_small links f zero = omega arith
bits_small links f (suc k) = omega (arith, pow-suc 2 k, count_small (target links f), bits_small links (suc f) k)

-- a link below the features asked sets no bit
bits-later : (l : ℕ × ℕ) (ls : List (ℕ × ℕ)) (f k : ℕ) → l.0 < f → bits_from (l ∷ ls) f k ≡ bits_from ls f k
unfolding bits_from
bits-later l ls f zero h = refl
bits-later l ls f (suc k) h =
    ap₂ (λ (a b : ℕ). a + 2 * b) (ap count_some (target-later f l ls (λ (e : l.0 ≡ f). omega arith)))
    (bits-later l ls (suc f) k (omega arith))

-- the links' features lie from f on, k of them
abbrev pub Within : ℕ → ℕ → List (ℕ × ℕ) → Type 0
Within f k links = (l : ℕ × ℕ) → Memᴰ l links → (f ≤ l.0) × (l.0 < f + k)

shift_none : (f b : ℕ) → 2 ^ suc f * b ≡ 2 ^ f * (0 + 2 * b)
shift_none f b =
    ap (λ (n : ℕ). n * b) (pow-suc 2 f) ∙ mul_assoc (2 ^ f) 2 b ∙ (let e : 2 * b ≡ 0 + 2 * b = omega arith in ap (λ (n : ℕ). 2 ^ f * n) e)

shift_one : (f b : ℕ) → 2 ^ f + 2 ^ suc f * b ≡ 2 ^ f * (1 + 2 * b)
shift_one f b =
    ap₂ (λ (m n : ℕ). m + n) (sym (mul-one (2 ^ f))) (ap (λ (n : ℕ). n * b) (pow-suc 2 f) ∙ mul_assoc (2 ^ f) 2 b)
    ∙ sym (mul-add (2 ^ f) 1 (2 * b))

-- the map of ascending links is the number that says which features stand
map-bits : (links : List (ℕ × ℕ)) (f k : ℕ) → Ascending links → Within f k links →
    map_of (map (λ l. l.0) links) ≡ 2 ^ f * bits_from links f k
unfolding bits_from map_of target
map-bits [] f zero up inside = sym (mul-zero (2 ^ f))
map-bits (l ∷ ls) f zero up inside = absurd (omega (arith, inside l (Memᴰ.head refl)))
map-bits [] f (suc k) up inside =
    map-bits [] (suc f) k tt (λ l m. absurd (Memᴰ.not-nil m)) ∙ shift_none f (bits_from [] (suc f) k)
map-bits (l ∷ ls) f (suc k) up inside = go (ℕ_discrete l.0 f) (map-bits ls (suc f) k up.1) (map-bits (l ∷ ls) (suc f) k up)
  where
    After : List (ℕ × ℕ) → Type 0
    After ms = Within (suc f) k ms → map_of (map (λ l. l.0) ms) ≡ 2 ^ suc f * bits_from ms (suc f) k

    go : Dec (l.0 ≡ f) → After ls → After (l ∷ ls) →
        2 ^ l.0 + map_of (map (λ l. l.0) ls) ≡ 2 ^ f * (count_some (target (l ∷ ls) f) + 2 * bits_from (l ∷ ls) (suc f) k)
    go (yes e) rest whole =
        ap₂ (λ (g n : ℕ). 2 ^ g + n) e (rest (λ m i. omega (arith, up.0 m i, inside m (Memᴰ.tail i))))
        ∙ shift_one f (bits_from ls (suc f) k)
        ∙ ap₂ (λ (a b : ℕ). 2 ^ f * (a + 2 * b)) (sym (ap count_some (target_first f l ls e)))
        (sym (bits-later l ls (suc f) k (omega arith)))
    go (no d) rest whole =
        let low : f < l.0 = omega (arith, inside l (Memᴰ.head refl)) in
        let above : (m : ℕ × ℕ) → Memᴰ m (l ∷ ls) → f < m.0 =
        λ m i. ⊎_elim (λ (e : m ≡ l). omega (arith, ap (λ (x : ℕ × ℕ). x.0) e)) (λ n. omega (arith, up.0 m n)) (Memᴰ.cases_cons i) in
        whole (λ m i. omega (arith, above m i, inside m i))
        ∙ shift_none f (bits_from (l ∷ ls) (suc f) k)
        ∙ ap (λ (a : ℕ). 2 ^ f * (a + 2 * bits_from (l ∷ ls) (suc f) k))
        (sym (ap count_some (target-absent f (l ∷ ls) (λ m i (e : m.0 ≡ f). omega (arith, above m i)))))

-- Eight features to a byte.

abbrev eight_more : ℕ → ℕ
eight_more n = suc (suc (suc (suc (suc (suc (suc (suc n)))))))

bits-eight : (links : List (ℕ × ℕ)) (f k : ℕ) →
    bits_from links f (eight_more k)
    ≡ bits_from links f 8 + 256 * bits_from links (eight_more f) k
unfolding bits_from
bits-eight links f k = omega arith

bits-bytes : (links : List (ℕ × ℕ)) (n j f : ℕ) → f ≡ 8 * j →
    low_bytes n (bits_from links f (8 * n)) ≡ map (λ k. bits_from links (8 * k) 8) (from j n)
unfolding low_bytes from
bits-bytes links zero j f e = refl
bits-bytes links (suc n) j f e =
    let m : 8 * suc n ≡ eight_more (8 * n) = omega arith in
    let split : bits_from links f (8 * suc n) ≡ bits_from links f 8 + 256 * bits_from links (eight_more f) (8 * n) = ap (bits_from links f) m ∙ bits-eight links f (8 * n) in
    let small : bits_from links f 8 < 256 = bits_small links f 8 in
    let low : bits_from links f (8 * suc n) % 256 ≡ bits_from links f 8 = omega arith in
    let high : bits_from links f (8 * suc n) / 256 ≡ bits_from links (eight_more f) (8 * n) = omega arith in
    ap₂ (λ (x : ℕ) (xs : List ℕ). x ∷ xs) (low ∙ ap (λ (g : ℕ). bits_from links g 8) e)
    (ap (low_bytes n) high ∙ bits-bytes links n (suc j) (eight_more f) (omega arith))

-- The bytes of the map of ascending links below 64 are the feature map of their row.
pub map-bytes : (links : List (ℕ × ℕ)) → Ascending links → Within 0 64 links →
    low_bytes 8 (map_of (map (λ l. l.0) links)) ≡ map (λ k. bits_from links (8 * k) 8) (from 0 8)
map-bytes links up inside =
    ap (low_bytes 8) (map-bits links 0 64 up inside ∙ one-mul (bits_from links 0 64)) ∙ bits-bytes links 8 0 0 refl
