-- `row_byte` meets its contract: the array in the code begins with the bytes of the row.
use mathlib.Core.Path.{ap, ◌∙◌}
use mathlib.Core.List.{[], ◌∷◌}
use Prim.Native.Nat.{ℕ}
use native.Mathlib.Omega.{arith}
use lib.ListN.{get_or}
use Rattle.listed.proofs.Places.{row-four, row_plain, width_small}
use Rattle.listing.proofs.numbers.Node.row_byte.Goals as goal

pub offset_bounds-row-at : goal.offset_bounds-row-at
offset_bounds-row-at c = omega (arith, c.requires, width_small c.args.self.links)

pub bounds-row-at : goal.bounds-row-at
bounds-row-at c = omega (arith, c.requires, width_small c.args.self.links)

pub returns-then-self-ge4 : goal.returns-then-self-ge4
returns-then-self-ge4 c = row-four c.args.v c.args.self.kind c.args.at c.args.self.links c.if-self-ge4.true

pub offset_bounds-row-at-2 : goal.offset_bounds-row-at-2
offset_bounds-row-at-2 c = omega (arith, c.requires, width_small c.args.self.links)

pub bounds-row-at-2 : goal.bounds-row-at-2
bounds-row-at-2 c = omega (arith, c.requires, width_small c.args.self.links)

pub returns : goal.returns
returns c =
    ap (λ (h : ℕ). get_or (c.args.self.kind ∷ c.args.self.links ∷ 0 ∷ 0 ∷ 0 ∷ 0 ∷ 0 ∷ 0 ∷ 0 ∷ h ∷ h ∷ []) c.args.at 0) c.heir_of-heir.ensures
    ∙ row_plain c.args.v c.args.self.kind c.args.at c.args.self.links c.if-self-ge4.false c.requires
