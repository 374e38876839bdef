-- The outcome of a combination (document 01, "Returned by a call"): 9 for a loop; 10 for a clash and no loop; else the written record, 11 or 8.
use Rattle.std.specs.Prelude.{List, ◌⊎◌, ℕ, ◌-◌, Result, Ok, Err}
use Rattle.graphs.specs.Number.{canonical}
use Rattle.graphs.specs.Unify.{Unified, cycle, clash, unified}
use Rattle.graphs.specs.OfRows.{same_either, combination_of}
use Rattle.lattice.specs.Label.{Label, plain, no_label}
use Rattle.lattice.specs.Labels.{meet_ranged}
use Rattle.layout.specs.Layout.{rows_of}
use Rattle.encode.specs.Encode.{Yield, Writing, Outcome, yielding, written_out}
use Rattle.merging.specs.Clash.{contradicts}
use Rattle.unify.specs.declared.NoCombination.{NoCombination}
use Rattle.unify.specs.declared.NoCombination.TheVariants as uncombined

-- What a combination answers: the record's length, or why there is none.
abbrev pub Combining : Type 0
Combining = Result ℕ NoCombination

-- The answer of writing, as the answer of a combination.
abbrev pub combining : Writing → Combining
combining (Ok l) = Ok l
combining (Err why) = Err (uncombined.Unwritten why)

-- The outcome of writing, as the outcome of a combination.
abbrev pub combined_of : Outcome → Yield Combining
combined_of o = yielding (combining o.answer) o.output

-- "combination: loop" and "combination: clash, no loop" leave the output unchanged; else the result is what writing the combination yields.
unfoldable pub unified_out : Unified Label (ℕ ⊎ ℕ) → List ℕ → Yield Combining
unified_out cycle old = yielding (Err uncombined.Cycle) old
unified_out clash old = yielding (Err uncombined.Clash) old
unified_out (unified u) old = combined_of (written_out (canonical same_either u) old)

-- What combining the graphs that the words hold yields, over n types with the meets given.
abbrev pub unifying_out : ℕ → (ℕ → ℕ → ℕ) → List ℕ → List ℕ → List ℕ → Yield Combining
unifying_out n meets a b old =
    unified_out (combination_of (meet_ranged meets) (plain (n - 1)) contradicts no_label (rows_of a) (rows_of b)) old
