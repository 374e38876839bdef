-- The text that `house_types` prints (document 02, Paper 8), in ASCII: "one row of 64 numbers a line with single spaces".
use Rattle.std.specs.Prelude.{cond, List, [], ◌∷◌, ◌++◌, ℕ, zero, suc, ◌%◌, eqb, get_or}
use Rattle.text.specs.Text.{decimal}

-- What stands behind entry k: a line end behind the last entry of a row, else a space.
abbrev pub after : ℕ → ℕ
after k = cond (eqb (k % 64) 63) 10 32

-- The first k entries, each with the byte behind it.
unfoldable pub text_to : List ℕ → ℕ → List ℕ
text_to xs zero = []
text_to xs (suc k) = text_to xs k ++ (decimal (get_or xs k 0) ++ (after k ∷ []))

-- the table of 64 lines with 64 numbers each
abbrev pub text_of : List ℕ → List ℕ
text_of xs = text_to xs 4096
