-- The difference of two records over an accepted table (document 01, "Difference"), with its reasons (document 02, Paper 13) or without them. g
-- is the first graph, s the second.
use Rattle.std.specs.Prelude.{Bool, List, [], ℕ, eqb}
use Rattle.graphs.specs.Number.{canonical}
use Rattle.graphs.specs.Difference.{Link}
use Rattle.record.specs.Read.{graph_of_rows, reading}
use Rattle.link_orders.specs.LinkOrders.{earlier_by}
use Rattle.difference.specs.declared.Options.{Options}
use Rattle.difference.specs.Difference.{differed_rows, numbered}
use Rattle.difference.specs.Explained.{Explained, reasons_rows, with_reasons_if}
use Rattle.pairs.specs.Pair.{read_both}
use Rattle.replies.specs.Reply.{Result, refusing}

-- Both graphs' 4 to 7 are checked; then their difference by an order of links is written.
abbrev pub parting : (Link ℕ → Link ℕ → Bool) → ℕ → List ℕ → List ℕ → List ℕ → List ℕ → Result
parting earlier n t a b out = read_both (λ r. refusing r out) (reading n a) (reading n b) (differed_rows earlier n t out)

-- The reasons for the links of the difference of two records, with s numbered as written. There are no reasons where a record is refused.
unfoldable pub reasons_of : (Link ℕ → Link ℕ → Bool) → ℕ → List ℕ → List ℕ → List ℕ → List ℕ
reasons_of earlier n t a b =
    read_both (λ r. []) (reading n a) (reading n b) λ g s. reasons_rows earlier n t g (numbered (canonical eqb (graph_of_rows s)))

-- The difference of two records by the options of a call, with its reasons or without them.
abbrev pub parting_with : Options → ℕ → List ℕ → List ℕ → List ℕ → List ℕ → List ℕ → Explained
parting_with options n t a b out old =
    with_reasons_if options.explained (parting (earlier_by options.order) n t a b out) (reasons_of (earlier_by options.order) n t a b) out old
