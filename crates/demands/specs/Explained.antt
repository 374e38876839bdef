-- Definitions for the theorems on reasons: what the byte beside a link of a difference tells of the two graphs (document 02, Paper 13).
use Rattle.std.specs.Prelude.{◌≡◌, Bool, List, [], ◌∷◌, ◌++◌, ℕ, ◌<◌, eqb, length, get_or}
use Rattle.std.proofs.Math.Option.{some}
use Rattle.graphs.specs.Graph.{walk}
use Rattle.graphs.specs.Rows.{Row, from}
use Rattle.graphs.specs.Number.{index_of}
use Rattle.graphs.specs.Large.{links_in}
use Rattle.graphs.specs.Difference.{Link}
use Rattle.graphs.specs.Reasons.{reason_at, written_order, links_in_order, IsReason}
use Rattle.lattice.specs.Label.{Label}
use Rattle.record.specs.Read.{graph_of_rows}
use Rattle.difference.specs.Difference.{over}
use Rattle.demands.specs.Demand.{WantedNotTop}

-- the reason for a link of the difference of g and s that enters v
abbrev pub reason_for : (Link ℕ → Link ℕ → Bool) → ℕ → List ℕ → List (Row Label) → List (Row Label) → Link ℕ → ℕ → ℕ
reason_for earlier n t g s l v = reason_at eqb eqb (graph_of_rows s) (from 0 (length s)) (graph_of_rows g) (from 0 (length g)) (over s g) earlier l v

-- The reason is true, over paths, of the link of s that leaves u by f and enters v.
abbrev pub LinkReason : (Link ℕ → Link ℕ → Bool) → ℕ → List ℕ → List (Row Label) → List (Row Label) → ℕ → ℕ → ℕ → ℕ → Type 0
LinkReason earlier n t g s u f v reason =
    IsReason (graph_of_rows s) (graph_of_rows g) earlier (WantedNotTop n t (graph_of_rows s) (graph_of_rows g)) (u, f) v reason

-- "Number s as written": the number of the node v of s.
abbrev pub written_number : List (Row Label) → ℕ → ℕ
written_number s v = index_of eqb v (written_order eqb (graph_of_rows s))

-- The order `earlier` on links of s, with the parents numbered as written.
abbrev pub by_written : (Link ℕ → Link ℕ → Bool) → List (Row Label) → Link ℕ → Link ℕ → Bool
by_written earlier s l m = earlier (written_number s l.0, l.1) (written_number s m.0, m.1)

-- "Each byte's fact is to be shown true of the two graphs": byte i belongs to link i, "in record order", of the difference, whose rows are
-- `form`. If link i leaves node k by f, every path to k leads in s to a node u, the same path with f behind it leads in s to a node v, and byte i
-- is a true reason for the link of s from u by f.
abbrev pub ReasonsTell : (Link ℕ → Link ℕ → Bool) → ℕ → List ℕ → List (Row Label) → List (Row Label) → List (Row Label) → List ℕ → Type 0
ReasonsTell earlier n t g s form reasons =
    (i k f : ℕ) → i < links_in form → ◌≡◌ {A = Link ℕ} (get_or (links_in_order form) i (0, 0)) (k, f) →
    (p : List ℕ) → walk (graph_of_rows form) p ≡ some k →
    (u : ℕ) × (v : ℕ) × (walk (graph_of_rows s) p ≡ some u) × (walk (graph_of_rows s) (p ++ (f ∷ [])) ≡ some v) ×
    LinkReason earlier n t g s u f v (get_or reasons i 0)
