-- Facts for graphs over an accepted table: the labels of accepted rows are labels of the table, and graphs with the same root, labels and links
-- have one written form.
use mathlib.Core.Path.{◌≡◌, refl, sym, ◌∙◌, ap, subst}
use mathlib.Core.Bool.{Bool}
use mathlib.Core.List.{List, []}
use mathlib.Core.Option.{Option, none, some}
use Prim.Native.Nat.{ℕ, ◌≤◌, ◌<◌}
use native.Mathlib.Decide.{dec_le}
use native.Mathlib.Omega.{arith}
use lib.ListN.{length, get_or, get_or-eq_default}
use Rattle.graphs.specs.Graph.{Graph, TellsApart}
use Rattle.graphs.specs.Rows.{Row}
use Rattle.graphs.specs.Number.{canonical}
use Rattle.graphs.proofs.Form.Bisimilar.{Alike, absent, present}
use Rattle.graphs.proofs.Form.Invariant.{bisimilar-canonical}
use Rattle.lattice.specs.Label.{Label, no_label}
use Rattle.lattice.specs.Labels.{Known}
use Rattle.layout.specs.Layout.{graph_of_rows}
use Rattle.std.specs.Prelude.{Ok}
use Rattle.acceptance.specs.Reply.{opened, TableAnswer}
use Rattle.lattice.proofs.Lawful.{plain_known}
use Rattle.lattice.proofs.Laws.{accepted-size}
use Rattle.acceptance.proofs.Acceptance.{opened-accepted}
use Rattle.record.proofs.Nodes.{node_row}
use Rattle.record.proofs.Accepted.{Rules}

-- an accepted table has at most 64 types
pub few-types : (n : ℕ) (t : List ℕ) (answer : TableAnswer) → answer ≡ opened n t → answer ≡ Ok tt → n ≤ 64
few-types n t answer e told = (accepted-size n t (opened-accepted n t answer e told)).1

-- Every label of accepted rows is a label of the table, and so is the label past their end.
pub label-known : {n : ℕ} {rows : List (Row Label)} → 0 < n → Rules n rows → (v : ℕ) → Known n ((graph_of_rows rows).label v)
label-known {n} {rows} types rules v = go (dec_le (length rows) v)
  where
    go : Dec (length rows ≤ v) → Known n ((graph_of_rows rows).label v)
    go (yes past) =
        subst (Known n) (sym (ap (λ (r : Row Label). r.0) (get_or-eq_default rows (no_label, []) past))) (plain_known n 0 types)
    go (no inside) = (rules.ranged (get_or rows v (no_label, [])) (node_row rows v (omega arith))).0.1

alike_self : {A : Type 0} (x : Option A) → Alike (λ v w. v ≡ w) x x
alike_self none = absent
alike_self (some v) = present refl

-- graphs with the same root, labels and links have one written form
pub canonical-same : {L A : Type 0} {same : A → A → Bool} → TellsApart same → (g h : Graph L A) → g.root ≡ h.root →
    ((v : A) → g.label v ≡ h.label v) → ((v : A) (f : ℕ) → g.link v f ≡ h.link v f) → canonical same g ≡ canonical same h
canonical-same {same = same} tells g h root labels links =
    bisimilar-canonical same same tells tells (λ v w. v ≡ w) g h
    (record {
      root = root;
      labels = λ v w e. labels v ∙ ap h.label e;
      links = λ v w f e. subst (Alike (λ v w. v ≡ w) (g.link v f)) (links v f ∙ ap (λ u. h.link u f) e) (alike_self (g.link v f));
      forth = λ v v' w w' p q e. sym p ∙ e ∙ q;
      back = λ v v' w w' p q e. p ∙ e ∙ sym q;
    })
