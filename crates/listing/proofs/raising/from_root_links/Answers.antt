-- `from_root_links` meets its contract.
use mathlib.Core.Path.{ap, ◌∙◌}
use mathlib.Core.List.{◌∷◌}
use Prim.Native.Nat.{ℕ}
use Rattle.listed.specs.Numbers.{least_type1}
use Rattle.listing.proofs.raising.from_root_links.Goals as goal

pub returns : goal.returns
returns c =
    c.from_middle.ensures
    ∙ ap (λ (l : ℕ). c.args.nodes ∷ c.args.kind ∷ l ∷ least_type1 c.args.features c.args.nodes l) c.root_span-links.ensures.0
