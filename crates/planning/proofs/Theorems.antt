-- What import promises for rows in any order (document 02, Paper 2: "rows in any order and the root being node 0").
use mathlib.Core.Path.{◌≡◌, refl, sym, ◌∙◌, ap, ap₂}
use mathlib.Core.Bool.{Bool, true, false, cond}
use mathlib.Core.List.{List}
use mathlib.Core.Option.{some}
use Prim.Native.Nat.{ℕ}
use lib.ListN.{length}
use Rattle.graphs.specs.Rows.{Row}
use Rattle.lattice.specs.Label.{Label}
use Rattle.acceptance.specs.Reply as table
use Rattle.record.specs.declared.GraphFault.TheVariants.{Malformed}
use Rattle.record.specs.Read.{judged}
use Rattle.rows.specs.declared.Row as lent
use Rattle.rows.specs.Rows.{nodes_in, table_rows, is_sized, has_twice}
use Rattle.rows.specs.Reordered.{Reordered, SameMembers}
use Rattle.rows.specs.Faults.{Twice}
use Rattle.rows.proofs.Tests.{once-exact}
use Rattle.rows.proofs.AnyOrder.{members-known, members-twice, members-length, members-table, members-any, length-any}
use Rattle.replies.specs.declared.Side.TheVariants.{First}
use Rattle.replies.specs.Replies.{Graph, RowOutOfRange, RowTwice}
use Rattle.replies.specs.Reply.{Result, refusing}
use Rattle.engine.specs.Rewriting.{rewritten}
use Rattle.calls.specs.Calls.{checked}
use Rattle.planning.specs.Planning.{imported, importing, importing_rows}
use Rattle.planning.proofs.Imports.{import-whole}

-- Over an accepted table, rows with the same members, and as many, give one reply and one output.
imported-members : (n count : ℕ) (nodes out : List ℕ) {xs ys : List lent.Row} → SameMembers xs ys → length xs ≡ length ys →
    imported n count xs nodes out ≡ imported n count ys nodes out
unfolding imported
imported-members n count nodes out {xs} {ys} members long =
    ap₂ (λ (k : Bool) (x : Result). cond (is_sized nodes count) (cond k x (refusing RowOutOfRange out)) (refusing (Graph Malformed First) out))
    (members-known members (nodes_in nodes)) (once (has_twice xs) refl)
  where
    writes : List (Row Label) → Result
    writes rows = rewritten (judged n (some rows)) out

    same : has_twice xs ≡ has_twice ys
    same = members-twice members long

    once : (b : Bool) → has_twice xs ≡ b → cond (has_twice xs) (refusing RowTwice out) (rewritten (judged n (some (table_rows nodes xs))) out)
        ≡ cond (has_twice ys) (refusing RowTwice out) (rewritten (judged n (some (table_rows nodes ys))) out)
    once true e =
        ap (λ (b : Bool). cond b (refusing RowTwice out) (writes (table_rows nodes xs))) e
        ∙ sym (ap (λ (b : Bool). cond b (refusing RowTwice out) (writes (table_rows nodes ys))) (sym same ∙ e))
    once false e =
        ap (λ (b : Bool). cond b (refusing RowTwice out) (writes (table_rows nodes xs))) e ∙ ap writes (members-table members e (sym same ∙ e) nodes)
        ∙ sym (ap (λ (b : Bool). cond b (refusing RowTwice out) (writes (table_rows nodes ys))) (sym same ∙ e))

-- Rows with the same members: two planning tables that have the same rows, and as many, give one reply and one output.
pub import-members : (n : ℕ) (t nodes out : List ℕ) {xs ys : List lent.Row} → SameMembers xs ys → length xs ≡ length ys →
    importing_rows n t xs nodes out ≡ importing_rows n t ys nodes out
unfolding importing
import-members n t nodes out {xs} {ys} members long =
    import-whole n t xs nodes out
    ∙ ap (checked (λ r. refusing r out) (table.opened n t))
    (imported-members n (length xs) nodes out members long ∙ ap (λ (k : ℕ). imported n k ys nodes out) long)
    ∙ sym (import-whole n t ys nodes out)

-- Two planning tables that have the same rows give one reply and one output, where neither has two rows with one parent and feature.
pub import-members-once : (n : ℕ) (t nodes out : List ℕ) {xs ys : List lent.Row} → SameMembers xs ys → (Twice xs → ⊥) → (Twice ys → ⊥) →
    importing_rows n t xs nodes out ≡ importing_rows n t ys nodes out
import-members-once n t nodes out {xs} {ys} members once once' =
    import-members n t nodes out members (members-length members ((once-exact xs).1 once) ((once-exact ys).1 once'))

-- Rows in any order: two planning tables whose rows are the same in another order give one reply and one output.
pub import-any : (n : ℕ) (t nodes out : List ℕ) {xs ys : List lent.Row} → Reordered xs ys → importing_rows n t xs nodes out ≡ importing_rows n t ys nodes out
import-any n t nodes out r = import-members n t nodes out (members-any r) (length-any r)
