-- What a call that writes a record tells and leaves: the record has at least one byte and fits in the output, and the output keeps its length.
-- The file ends with the record that is taken from the output.
use mathlib.Core.Path.{◌≡◌, refl, sym, ◌∙◌, ap, subst}
use mathlib.Core.Bool.{Bool, true, false, cond}
use mathlib.Core.List.{List, ◌++◌}
use mathlib.Core.Logic.{◌⊎◌}
use mathlib.Core.Option.{Option, none, some}
use Prim.Native.Nat.{ℕ, ◌≤◌}
use native.Mathlib.Omega.{arith}
use borrow.Author.Tests.{leb-true}
use lib.Dec.{eqb, leb}
use lib.ListN.{length, take, drop, length-append, length-drop, length-replicate}
use lib.Seq.{length-take-le}
use Rattle.std.specs.Prelude.{Ok, Err}
use Rattle.graphs.specs.Rows.{Row, from}
use Rattle.graphs.specs.Number.{Canonical, canonical, many_nodes, many_links, written}
use Rattle.graphs.specs.Unify.{Unified, cycle, clash, unified, unification}
use Rattle.graphs.specs.Difference.{by_number}
use Rattle.lattice.specs.Label.{Label}
use Rattle.lattice.specs.Labels.{table_labels}
use Rattle.acceptance.specs.Reply.{opened, TableAnswer}
use Rattle.encoder.specs.Encode.{encoded}
use Rattle.encode.specs.declared.Unwritten.TheVariants as unwritten
use Rattle.encode.specs.Encode.{yielding, fitted, written_out}
use Rattle.record.specs.Read.{Reading, refused, accepted, reading, graph_of_rows}
use Rattle.replies.specs.Replies.{Reply}
use Rattle.replies.specs.Replies.{Length, Table, Graph, NoRoom, TooLarge, Cycle, Clash, NotBelow, NoWantedType}
use Rattle.replies.specs.declared.Side.TheVariants.{First, Second}
use Rattle.replies.specs.Reply.{Result, resulting, result_of, refusing, length_of}
use Rattle.subsume.specs.Promise.{rows_below}
use Rattle.difference.specs.Difference.{all_wanted, difference_rows, differed_rows, differed, numbered}
use Rattle.pairs.specs.Pair.{read_both}
use Rattle.engine.specs.Generalizing.{generalized}
use Rattle.engine.specs.Unifying.{combined, unified_rows}
use Rattle.calls.specs.Calls.{checked, generalizing, unifying, differing}
use Rattle.gathering.proofs.Told.{none-some, length-told}
use Rattle.versions.specs.State.{made, stopped, taken, taken_by, blank}

pub length-blank : length blank ≡ 4854
unfolding blank
length-blank = length-replicate {A = ℕ} 4854 0

-- The length that is told, and the output.
pub record Fitting (out : List ℕ) (r : Result) : Type 0 where
  pub least : (l : ℕ) → r.reply ≡ Length l → 1 ≤ l
  pub most : (l : ℕ) → r.reply ≡ Length l → l ≤ length out
  pub long : length r.output ≡ length out

module _ (out : List ℕ) where
  refused-fits : (q : Reply) → length_of q ≡ none → Fitting out (refusing q out)
  refused-fits q h =
      record { least = λ l e. none-some (sym h ∙ ap length_of e); most = λ l e. none-some (sym h ∙ ap length_of e); long = refl }

  fitted-fits : (rows : List (Row Label)) → Fitting out (result_of (fitted (encoded rows) out))
  unfolding fitted encoded
  fitted-fits rows = go (leb (length (encoded rows)) (length out)) refl
    where
      go : (b : Bool) → leb (length (encoded rows)) (length out) ≡ b →
          Fitting out
          (result_of (cond b (yielding (Ok (length (encoded rows))) (encoded rows ++ drop (length (encoded rows)) out)) (yielding (Err unwritten.NoRoom) out)))
      go true e =
          let fits : length (encoded rows) ≤ length out = leb-true (length (encoded rows)) (length out) e in
          record {
            least = λ l d. let is : some (length (encoded rows)) ≡ some l = ap length_of d in let same : length (encoded rows) ≡ l = cc in omega (arith, same);
            most = λ l d. let is : some (length (encoded rows)) ≡ some l = ap length_of d in let same : length (encoded rows) ≡ l = cc in omega (arith, same, fits);
            long = omega (arith, fits, length-append (encoded rows) (drop (length (encoded rows)) out), length-drop (length (encoded rows)) out);
          }
      go false e = refused-fits NoRoom refl

  pub written-fits : (c : Canonical Label) → Fitting out (result_of (written_out c out))
  unfolding written_out
  written-fits many_nodes = refused-fits TooLarge refl
  written-fits many_links = refused-fits TooLarge refl
  written-fits (written rows) = fitted-fits rows

  -- The refusals before the call's operation.
  checked-fits : (o : TableAnswer) (r : Result) → Fitting out r → Fitting out (checked (λ q. refusing q out) o r)
  checked-fits (Err fault) r h = refused-fits (Table fault) refl
  checked-fits (Ok tt) r h = h

  both-fits : (i j : Reading) (next : List (Row Label) → List (Row Label) → Result) → ((g h : List (Row Label)) → Fitting out (next g h)) →
      Fitting out (read_both (λ q. refusing q out) i j next)
  both-fits (refused fault) j next fits = refused-fits (Graph fault First) refl
  both-fits (accepted rows) (refused fault) next fits = refused-fits (Graph fault Second) refl
  both-fits (accepted rows) (accepted others) next fits = fits rows others

  module _ (n : ℕ) (t : List ℕ) where
    unified-fits : (g h : List (Row Label)) → Fitting out (unified_rows n t out g h)
    unfolding unified_rows
    unified-fits g h =
        go (unification (table_labels n t) eqb eqb (graph_of_rows g) (from 0 (length g)) (graph_of_rows h) (from 0 (length h)))
      where
        go : (u : Unified Label (ℕ ⊎ ℕ)) → Fitting out (combined u out)
        go cycle = refused-fits Cycle refl
        go clash = refused-fits Clash refl
        go (unified u) = written-fits _

    differed-fits : (g h : List (Row Label)) → Fitting out (differed_rows by_number n t out g h)
    unfolding differed_rows differed
    differed-fits g h = go (numbered (canonical eqb (graph_of_rows h)))
      where
        go : (s : List (Row Label)) → Fitting out
            (cond (rows_below n t s g)
            (cond (all_wanted n t s g) (result_of (written_out (canonical eqb (difference_rows by_number n t g s)) out)) (refusing NoWantedType out))
            (refusing NotBelow out))
        go s = test (rows_below n t s g) (all_wanted n t s g)
          where
            test : (b w : Bool) → Fitting out
                (cond b (cond w (result_of (written_out (canonical eqb (difference_rows by_number n t g s)) out)) (refusing NoWantedType out)) (refusing NotBelow out))
            test true true = written-fits (canonical eqb (difference_rows by_number n t g s))
            test true false = refused-fits NoWantedType refl
            test false w = refused-fits NotBelow refl

    module _ (a b : List ℕ) where
      pub generalizing-fits : Fitting out (generalizing n t a b out)
      unfolding generalizing generalized
      generalizing-fits = checked-fits (opened n t) _ (both-fits (reading n a) (reading n b) (generalized n t out) (λ g h. written-fits _))

      pub unifying-fits : Fitting out (unifying n t a b out)
      unfolding unifying
      unifying-fits = checked-fits (opened n t) _ (both-fits (reading n a) (reading n b) (unified_rows n t out) unified-fits)

      pub differing-fits : Fitting out (differing n t a b out)
      unfolding differing
      differing-fits = checked-fits (opened n t) _ (both-fits (reading n a) (reading n b) (differed_rows by_number n t out) differed-fits)

-- The record that is taken: `call` is what a call yields, `reply` is what was answered, and `new` is the output.
module _ {call : Result} {reply : Reply} {new : List ℕ} (is : resulting reply new ≡ call) where
  pub taken_made : (l : ℕ) → reply ≡ Length l → taken call ≡ made (take l new)
  taken_made l e = ap taken (sym is) ∙ ap (λ (q : Reply). taken (resulting q new)) e

  pub taken-stopped : ((l : ℕ) → reply ≡ Length l → ⊥) → taken call ≡ stopped reply
  taken-stopped other = ap taken (sym is) ∙ go (length_of reply) refl
    where
      go : (o : Option ℕ) → length_of reply ≡ o → taken (resulting reply new) ≡ stopped reply
      go none e = ap (λ (o : Option ℕ). taken_by o (resulting reply new)) e
      go (some l) e = absurd (other l (length-told reply l e))

  module _ {out : List ℕ} (fits : Fitting out call) where
    abbrev here : Fitting out (resulting reply new)
    here = subst (Fitting out) (sym is) fits

    pub taken-least : (l : ℕ) → reply ≡ Length l → 1 ≤ l
    taken-least l e = here.least l e

    pub taken-most : (l : ℕ) → reply ≡ Length l → l ≤ length out
    taken-most l e = here.most l e

    pub taken-long : length new ≡ length out
    taken-long = here.long

    pub taken-length : (l : ℕ) → reply ≡ Length l → length (take l new) ≡ l
    taken-length l e = length-take-le l new (omega (arith, taken-most l e, taken-long))
