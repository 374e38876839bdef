-- Paper 12: types as sets. n and t are an accepted table.
use mathlib.Core.Path.{◌≡◌, ◌∙◌, ap}
use mathlib.Core.Bool.{Bool, true, false}
use mathlib.Core.List.{List}
use mathlib.Core.Option.{Option}
use Prim.Native.Nat.{ℕ, ◌<◌}
use lib.Bits.{bit_and, bit_or}
use lib.ListN.{length}
use Rattle.std.specs.Prelude.{Result, Ok}
use Rattle.acceptance.specs.declared.TableFault.{TableFault}
use Rattle.acceptance.specs.Reply.{TableAnswer}
use Rattle.bounds.specs.declared.Form.{Form}
use Rattle.bounds.specs.declared.Form.TheVariants.{Sets, Cells}
use Rattle.bounds.specs.Opening.{Chooses, Opening}
use Rattle.lattice.specs.Words.{Words}
use Rattle.bounds.specs.Primes.{word_prime}
use Rattle.bounds.specs.Sets.{distributive, set_of, set_in, cell_in, meet_in, join_in, Holding}
use Rattle.lattice.specs.Table as types
use Rattle.lattice.proofs.Laws as types-laws
use Rattle.bounds.proofs.Distributive as Sets
use Rattle.bounds.proofs.Types.{meets-known, joins-known}

-- Opening decides by two searches for each type whether "for every three types the meet spreads over the join".
module _ (n : ℕ) (t : List ℕ) (ok : types.accepted n t ≡ true) where
  pub sets-decided : (ws : List ℕ) → Words n t false ws → types.every n (word_prime n ws) ≡ distributive n t
  sets-decided = Sets.primes-distributive n t ok

  -- "Opening such a table then fills neither; other tables use the old form". Where the meet spreads over the join, the lent cells stay as they
  -- were, and the sets are those of the types; else the cells are filled with the meets or the joins.
  module _ (up : Bool) (bound : ℕ → ℕ → Option ℕ) (answer : TableAnswer) (sets : List ℕ) (lent left : List (List ℕ))
      (opening : Opening up n t bound answer sets lent left) where
    pub sets-unfilled : distributive n t ≡ true → left ≡ lent
    sets-unfilled = (opening.holds ok).unfilled

    pub sets-held : distributive n t ≡ true → (x : ℕ) → x < n → set_in sets x ≡ set_of n t x
    sets-held = (opening.holds ok).set

    pub sets-not-held : distributive n t ≡ false → left ≡ types.filled n t bound lent
    sets-not-held = (opening.holds ok).filled-cells

  -- "Opening such a table then fills neither": a common part or a combination over such a table lends no cells at all, since the choice of the
  -- form asks for cells exactly where the meet does not spread over the join.
  module _ (up : Bool) (answer : Result Form TableFault) (sets : List ℕ) (chooses : Chooses up n t answer sets) where
    pub sets-chosen : answer ≡ Ok Sets → distributive n t ≡ true
    sets-chosen e = (chooses.as-sets e).spread

    pub cells-chosen : answer ≡ Ok Cells → distributive n t ≡ false
    cells-chosen e = (chooses.as-cells e).other ok

  -- "Meet is then the overlap of sets and join their union. Show that both are those the 64 by 64 tables would hold at every pair": x and y are
  -- two types, `rows` is any lent table. Two types have different sets.
  module _ (x y : ℕ) (x-type : x < n) (y-type : y < n) where
    pub sets-one-type : set_of n t x ≡ set_of n t y → x ≡ y
    sets-one-type = Sets.sets-apart n t ok x y x-type y-type

    module _ (rows : List (List ℕ)) (long : length rows ≡ 64) where
      pub sets-overlap : bit_and (set_of n t x) (set_of n t y) ≡ set_of n t (cell_in (types.filled n t (types.meet n t) rows) x y)
      sets-overlap =
          Sets.sets-meet n t ok x y x-type y-type ∙
          ap (λ o. set_of n t (types.cell o)) (types-laws.meets-cell n t ok rows long x y x-type y-type).is

      pub sets-union : distributive n t ≡ true →
          bit_or (set_of n t x) (set_of n t y) ≡ set_of n t (cell_in (types.filled n t (types.join n t) rows) x y)
      sets-union spread =
          Sets.sets-join n t ok spread x y x-type y-type ∙
          ap (λ o. set_of n t (types.cell o)) (types-laws.joins-cell n t ok rows long x y x-type y-type).is

    -- "so that all results keep their bytes": in either form a call gets the meets and joins of the table. A table of 64 rows is lent where the
    -- meet does not spread over the join.
    module _ (rows : List (List ℕ)) (long : distributive n t ≡ false → length rows ≡ 64) where
      pub sets-meet-kept : (sets : List ℕ) (cells : List (List ℕ)) → Holding false n t (types.meet n t) sets rows cells →
          meet_in n sets cells x y ≡ types.cell (types.meet n t x y)
      sets-meet-kept sets cells held = (meets-known n t ok sets rows cells long x y x-type y-type held).0

      pub sets-join-kept : (sets : List ℕ) (cells : List (List ℕ)) → Holding true n t (types.join n t) sets rows cells →
          join_in n sets cells x y ≡ types.cell (types.join n t x y)
      sets-join-kept sets cells held = (joins-known n t ok sets rows cells long x y x-type y-type held).0
