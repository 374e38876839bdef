-- `from_middle_links` meets its contract.
use mathlib.Core.Path.{ap, ◌∙◌}
use mathlib.Core.List.{◌∷◌}
use Prim.Native.Nat.{ℕ}
use Rattle.listed.specs.Numbers.{least_behind1}
use Rattle.listing.proofs.raising.from_middle_links.Goals as goal

pub returns : goal.returns
returns c =
    c.from_last.ensures
    ∙ ap (λ (l : ℕ). c.args.nodes ∷ c.args.root.kind ∷ c.args.root.links ∷ c.args.kind ∷ l ∷ least_behind1 c.args.nodes) c.middle_span-links.ensures.0
