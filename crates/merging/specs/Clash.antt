-- The labels that clash in a combination.
use Rattle.std.specs.Prelude.{Bool, nat_eq}
use Rattle.lattice.specs.Label.{Label}
use Rattle.lattice.specs.Labels.{contradiction_ranged}

-- The label is a contradiction: it has type 0, or an empty range.
abbrev pub contradicts : Label → Bool
contradicts l = contradiction_ranged (λ a. nat_eq a 0) l
