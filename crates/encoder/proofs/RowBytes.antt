-- This file is about the bytes of a row and of rows, as they are stored.
use mathlib.Core.Path.{◌≡◌, refl, sym, ◌∙◌, ap, ap₂}
use mathlib.Core.List.{List, [], ◌∷◌, ◌++◌, map, append-nil, append_assoc}
use Prim.Native.Nat.{ℕ, zero, suc, ◌+◌, ◌-◌, ◌/◌, ◌%◌, ◌≤◌, ◌<◌}
use native.Mathlib.Nat.{add-zero}
use native.Mathlib.Omega.{arith}
use lib.ListN.{length, set}
use lib.Seq.{sets}
use Rattle.graphs.specs.Rows.{Row}
use Rattle.lattice.specs.Label.{Label}
use Rattle.encoder.specs.Encode.{encoded_row, encoded_rows}
use Rattle.encoder.specs.NumberedRows.{low_bytes}
use Rattle.graphs.proofs.Stores.{sets-append, sets-comm}

-- The bytes of a number.

pub bytes-start : (out : List ℕ) (at n : ℕ) → sets out at (low_bytes 8 n) ≡ sets out (at + 0) (low_bytes (8 - 0) n)
bytes-start out at n = ap (λ (i : ℕ). sets out i (low_bytes 8 n)) (sym (add-zero at))

pub bytes-step : (out : List ℕ) (at i n : ℕ) → i < 8 →
    sets out (at + i) (low_bytes (8 - i) n) ≡ sets (set out (at + i) (n % 256)) (at + (i + 1)) (low_bytes (8 - (i + 1)) (n / 256))
unfolding low_bytes
bytes-step out at i n h =
    let e : 8 - i ≡ suc (8 - (i + 1)) = omega arith in
    let d : suc (at + i) ≡ at + (i + 1) = omega arith in
    ap (λ (k : ℕ). sets out (at + i) (low_bytes k n)) e
    ∙ ap (λ (k : ℕ). sets (set out (at + i) (n % 256)) k (low_bytes (8 - (i + 1)) (n / 256))) d

pub bytes-end : (out : List ℕ) (at i n : ℕ) → 8 ≤ i → sets out (at + i) (low_bytes (8 - i) n) ≡ out
unfolding low_bytes
bytes-end out at i n h =
    let e : 8 - i ≡ 0 = omega arith in
    ap (λ (k : ℕ). sets out (at + i) (low_bytes k n)) e

pub length-low_bytes : (k n : ℕ) → length (low_bytes k n) ≡ k
unfolding low_bytes
length-low_bytes zero n = refl
length-low_bytes (suc k) n = ap suc (length-low_bytes k (n / 256))

-- Lists by name.

pub map_snoc : {X Y : Type 0} (name : X → Y) (xs : List X) (x : X) → map name (xs ++ (x ∷ [])) ≡ map name xs ++ (name x ∷ [])
map_snoc name [] x = refl
map_snoc {Y = Y} name (y ∷ xs) x = ap (λ (l : List Y). name y ∷ l) (map_snoc name xs x)

pub map-alike : {X Y : Type 0} {f g : X → Y} → ((x : X) → f x ≡ g x) → (xs : List X) → map f xs ≡ map g xs
map-alike e [] = refl
map-alike {Y = Y} e (x ∷ xs) = ap₂ (λ (y : Y) (ys : List Y). y ∷ ys) (e x) (map-alike e xs)

-- A row, and rows.

-- a row is stored in three runs: the label, then the targets behind the place of the map, then the eight bytes of the map
pub row-stored : (out : List ℕ) (at : ℕ) (label bytes numbers : List ℕ) → length bytes ≡ 8 →
    sets (sets (sets out at label) (at + length label + 8) numbers) (at + length label) bytes ≡ sets out at (label ++ bytes ++ numbers)
row-stored out at label bytes numbers e =
    let o : List ℕ = sets out at label in
    let mapAt : ℕ = at + length label in
    sets-comm bytes numbers o mapAt (mapAt + 8) (omega arith)
    ∙ ap (λ (n : ℕ). sets (sets o mapAt bytes) (mapAt + n) numbers) (sym e)
    ∙ sym (sets-append bytes o mapAt numbers)
    ∙ sym (sets-append label out at (bytes ++ numbers))
    ∙ ap (sets out at) (sym (append_assoc label bytes numbers))

pub rows_more : (rs : List (Row Label)) (r : Row Label) → encoded_rows (rs ++ (r ∷ [])) ≡ encoded_rows rs ++ encoded_row r
unfolding encoded_rows
rows_more [] r = append-nil (encoded_row r)
rows_more (x ∷ rs) r =
    ap (λ (l : List ℕ). encoded_row x ++ l) (rows_more rs r) ∙ sym (append_assoc (encoded_row x) (encoded_rows rs) (encoded_row r))
