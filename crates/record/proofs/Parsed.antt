-- This file shows that the answers of `reading::read` are right: refusal 4 where parsing fails, and otherwise what judging the words
-- answers, since the words hold the record's rows.
use mathlib.Core.Path.{◌≡◌, refl, sym, ◌∙◌, ap, subst}
use mathlib.Core.Bool.{Bool, true, false, not}
use mathlib.Core.List.{List}
use mathlib.Core.Option.{Option, none, some}
use Prim.Native.Nat.{ℕ, ◌≤◌}
use native.Mathlib.Omega.{arith}
use borrow.Author.Tests.{eqb-true, not-false}
use lib.Dec.{eqb}
use lib.ListN.{length}
use Rattle.std.specs.Prelude.{Err}
use Rattle.graphs.specs.Rows.{Row}
use Rattle.graphs.proofs.Search.{true-false}
use Rattle.lattice.specs.Label.{Label, plain}
use Rattle.layout.specs.Layout.{size, label_at, links_at, rows_of, Shaped}
use Rattle.layout.proofs.Rows.{rows-member}
use Rattle.decode.specs.Decode.{decoded}
use Rattle.decode.specs.Answers.{Held, Parses}
use Rattle.decode.proofs.Decoded.{Decoded, decoded-says}
use Rattle.peeling.specs.Counts.{LevelsOrdered}
use Rattle.record.specs.declared.GraphFault.TheVariants.{Malformed}
use Rattle.record.specs.Read.{Reading, judged, reading}
use Rattle.record.specs.Reads.{Reads, ReadsAs, unranged_length, Verdict}
use Rattle.record.proofs.Judged.{refuses}
use Rattle.record.proofs.Words.{held-length}

-- a reading judges what was decoded
reading-judged : (n : ℕ) (bytes : List ℕ) (o : Option (List (Row Label))) → decoded bytes ≡ o → reading n bytes ≡ judged n o
unfolding reading
reading-judged n bytes o e = ap (judged n) e

module _ {bytes : List ℕ} {ws : List ℕ} {parsed : Bool} (parses : Parses bytes parsed ws) where
  -- 4
  pub malformed : (n : ℕ) → parsed ≡ false → Reads n bytes (Err Malformed) ws
  malformed n no_record = refuses n (reading n bytes) ws Malformed (reading-judged n bytes none (go (decoded bytes) refl))
    where
      go : (o : Option (List (Row Label))) → decoded bytes ≡ o → decoded bytes ≡ none
      go none e = e
      go (some rows) e = true-false (parses.holds rows e).0 no_record

  module _ (found : parsed ≡ true) where
    -- what was parsed
    record Decodes : Type 0 where
      pub is : decoded bytes ≡ some (rows_of ws)
      pub shaped : Shaped ws
      pub small : size ws ≤ 255

    given : Decodes
    given = go (decoded bytes) refl
      where
        go : (o : Option (List (Row Label))) → decoded bytes ≡ o → Decodes
        go none e = true-false found (parses.refuses e)
        go (some rows) e =
            let held : Held rows ws = (parses.holds rows e).1 in
            record { is = e ∙ ap some (sym held.rows_are); shaped = held.shaped; small = held.small }

    pub shaped : Shaped ws
    shaped = given.shaped

    pub small : size ws ≤ 255
    small = given.small

    facts : Decoded bytes (rows_of ws)
    facts = decoded-says bytes (rows_of ws) given.is

    -- a record without bytes for levels states labels with the full range
    pub levels-ordered : {ranged : Bool} → ranged ≡ not (eqb (length bytes) (unranged_length ws)) → ranged ≡ false → LevelsOrdered ws
    levels-ordered e unranged v h =
        let same : length bytes ≡ unranged_length ws =
        eqb-true (length bytes) (unranged_length ws) (not-false (eqb (length bytes) (unranged_length ws)) (sym e ∙ unranged)) in
        let full : label_at ws v ≡ plain (label_at ws v).type =
        facts.unranged (omega (arith, same, held-length ws)) (label_at ws v, links_at ws v) (rows-member ws (size ws) 0 v v (omega arith) h) in
        omega (arith, ap (λ (l : Label). l.lowest) full, ap (λ (l : Label). l.highest) full)

    -- 5 to 7, and acceptance
    pub reads-judged : {n : ℕ} {v : Verdict} → ReadsAs n (judged n (some (rows_of ws))) v ws → Reads n bytes v ws
    reads-judged {n} {v} told = subst (λ (o : Reading). ReadsAs n o v ws) (sym (reading-judged n bytes (some (rows_of ws)) given.is)) told
