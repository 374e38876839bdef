-- What a call of the listing replies and leaves in the output (document 02, Paper 14). The checks are the table's 1 to 3, the record's 4 to 7
-- where there is a record, 23 and 24; then the call gives the end, "the output then unchanged", or the record, or 8.
use Rattle.std.specs.Prelude.{Bool, true, cond, ◌||◌, List, [], ◌∷◌, ℕ, eqb, Ok, Err}
use Rattle.std.proofs.Math.Option.{Option, none, some}
use Rattle.acceptance.specs.Reply.{TableAnswer}
use Rattle.acceptance.specs.Reply as table
use Rattle.encode.specs.Encode.{fitted}
use Rattle.record.specs.Read as graph
use Rattle.replies.specs.declared.Side.TheVariants.{First}
use Rattle.replies.specs.Replies.{End, Table, Graph, FeatureCount, NotListed}
use Rattle.replies.specs.Reply.{Result, result_of, refusing}
use Rattle.listed.specs.Listing.{is_listed, following}

-- The call has no record, or a listed one.
abbrev pub begins : ℕ → ℕ → List ℕ → Bool
begins n F [] = true
begins n F (b ∷ bs) = is_listed n F (b ∷ bs)

-- "the next or the end, the output then unchanged"; 8 where the output is shorter than the next record.
abbrev pub delivered : Option (List ℕ) → List ℕ → Result
delivered none out = refusing End out
delivered (some r) out = result_of (fitted r out)

-- "a record that is read but not listed is 24".
unfoldable pub continued : ℕ → ℕ → List ℕ → List ℕ → Result
continued n F bytes out = cond (begins n F bytes) (delivered (following n F bytes) out) (refusing NotListed out)

-- "F outside 1 and 2 is 23".
unfoldable pub counted : ℕ → Result → List ℕ → Result
counted F next out = cond (eqb F 1 || eqb F 2) next (refusing FeatureCount out)

-- A refused record gives its number; an accepted one lets the call go on.
abbrev pub after_reading : graph.Reading → List ℕ → Result → Result
after_reading (graph.refused fault) out next = refusing (Graph fault First) out
after_reading (graph.accepted rows) out next = next

-- "both after the table and the record's own 4 to 7": a call without a record has no such check.
abbrev pub after_record : ℕ → List ℕ → List ℕ → Result → Result
after_record n [] out next = next
after_record n (b ∷ bs) out next = after_reading (graph.reading n (b ∷ bs)) out next

-- A refused table gives its number; an accepted one lets the call go on.
abbrev pub after_table : TableAnswer → List ℕ → Result → Result
after_table (Err fault) out next = refusing (Table fault) out
after_table (Ok tt) out next = next

-- The call over an accepted table.
unfoldable pub stepped : ℕ → ℕ → List ℕ → List ℕ → Result
stepped n F bytes out = after_record n bytes out (counted F (continued n F bytes out) out)

-- The whole call.
unfoldable pub stepping : ℕ → List ℕ → ℕ → List ℕ → List ℕ → Result
stepping n t F bytes out = after_table (table.opened n t) out (stepped n F bytes out)
