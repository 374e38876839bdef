-- The bytes of a record by the seven numbers that state it, and the numbers by the bytes.
use Rattle.std.specs.Prelude.{cond, not, ◌&&◌, List, [], ◌∷◌, ◌++◌, map, ℕ, ◌+◌, ◌*◌, eqb, leb, length, get_or}
use Rattle.graphs.specs.Rows.{from}
use Rattle.encoder.specs.Encode.{bits_from}
use Rattle.listed.specs.Listing.{link_set, root_span, middle_span}

-- how many links a number states
abbrev pub width : ℕ → ℕ
width c = length (link_set 0 c)

-- a node's bytes behind its type
unfoldable pub link_bytes : ℕ → ℕ → List ℕ
link_bytes v c = map (λ k. bits_from (link_set v c) (8 * k) 8) (from 0 8) ++ map (λ l. l.1) (link_set v c)

-- the bytes of node v
abbrev pub row_bytes : ℕ → ℕ → ℕ → List ℕ
row_bytes v t c = t ∷ link_bytes v c

-- The number of the root's links, which is 4 where the two targets differ.
abbrev pub root_links : List ℕ → ℕ
root_links bytes = cond (eqb (get_or bytes 2 0) 3 && not (eqb (get_or bytes 10 0) (get_or bytes 11 0))) 4 (get_or bytes 2 0)

abbrev behind0 : List ℕ → ℕ
behind0 bytes = 10 + width (root_links bytes)

abbrev middle_links : List ℕ → ℕ
middle_links bytes = cond (leb 2 (get_or bytes 0 0)) (get_or bytes (behind0 bytes + 1) 0) 0

abbrev behind1 : List ℕ → ℕ
behind1 bytes = behind0 bytes + 9 + width (middle_links bytes)

-- The seven numbers that these bytes would have as a listed record.
abbrev pub numbers_of : List ℕ → List ℕ
numbers_of bytes =
    get_or bytes 0 0 ∷ get_or bytes 1 0 ∷ root_links bytes ∷ cond (leb 2 (get_or bytes 0 0)) (get_or bytes (behind0 bytes) 0) 0 ∷ middle_links bytes ∷
    cond (leb 3 (get_or bytes 0 0)) (get_or bytes (behind1 bytes) 0) 0 ∷ cond (leb 3 (get_or bytes 0 0)) (get_or bytes (behind1 bytes + 1) 0) 0 ∷ []

-- The least numbers behind the links of node 1.
abbrev pub least_behind1 : ℕ → List ℕ
least_behind1 N = cond (eqb N 3) 1 0 ∷ 0 ∷ []

-- The least numbers from the links of node 1 on.
abbrev pub least_links1 : ℕ → ℕ → ℕ → List ℕ
least_links1 F N c₀ = (middle_span F N c₀).0 ∷ least_behind1 N

-- The least numbers from the type of node 1 on.
abbrev pub least_type1 : ℕ → ℕ → ℕ → List ℕ
least_type1 F N c₀ = cond (leb 2 N) 1 0 ∷ least_links1 F N c₀

-- The least numbers from the links of the root on.
abbrev pub least_links0 : ℕ → ℕ → List ℕ
least_links0 F N = (root_span F N).0 ∷ least_type1 F N (root_span F N).0
