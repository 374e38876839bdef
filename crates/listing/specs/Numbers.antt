-- What the inner functions of the listing promise about the seven numbers that state a record.
use Rattle.std.specs.Prelude.{◌≡◌, List, [], ◌∷◌, ℕ, ◌≤◌, Some, None, Option as Raised}
use Rattle.std.proofs.Math.Option.{Option, none, some}
use Rattle.listing.specs.declared.numbers.Numbers.{Numbers}
use Rattle.listing.specs.declared.spans.Span.{Span}

-- the seven numbers as a list
abbrev pub number_list : Numbers → List ℕ
number_list d = d.nodes ∷ d.root.kind ∷ d.root.links ∷ d.middle.kind ∷ d.middle.links ∷ d.last.kind ∷ d.last.links ∷ []

-- there are one to three nodes
abbrev pub Nodes : Numbers → Type 0
Nodes d = (1 ≤ d.nodes) × (d.nodes ≤ 3)

-- the span has these ends
abbrev pub Ends : Span → ℕ × ℕ → Type 0
Ends s ends = (s.low ≡ ends.0) × (s.high ≡ ends.1)

-- The raised numbers as a list; none where no number can be raised.
abbrev pub raised_list : Raised Numbers → Option (List ℕ)
raised_list None = none
raised_list (Some d) = some (number_list d)
