-- A record of 4,854 bytes is written (document 02, Paper 7): 255 nodes, each with a range that is written, and 2,048 links. Node v is linked to v
-- + 1, v + 2 and so on, by features 0, 1 and so on, so the visit goes straight down and the nodes keep their numbers.
use mathlib.Core.Path.{◌≡◌, refl, sym, ◌∙◌, ap, subst}
use mathlib.Core.Bool.{Bool, true, false, cond}
use mathlib.Core.List.Memᴰ
use mathlib.Core.List.{List, [], ◌∷◌, ◌++◌, map, Memᴰ}
use mathlib.Core.Option.{Option, some, bind}
use Prim.Native.Nat.{ℕ, zero, suc, ◌+◌, ◌-◌, ◌≤◌, ◌<◌, min}
use native.Mathlib.Decide.{dec_le}
use native.Mathlib.Nat.{zero-add}
use native.Mathlib.Omega.{arith}
use borrow.Author.Tests.{eqb-true, le-leb}
use lib.Dec.{eqb}
use lib.ListN.{length, get_or, replicate, length-map, get_or-eq_default}
use Rattle.graphs.specs.Graph.{follow, Reached}
use Rattle.graphs.specs.Rows.{Row, from, target, links_of}
use Rattle.graphs.specs.Number.{canonical, written, visit, each, member, row_of, index_of, link_count, out_degree}
use Rattle.graphs.specs.Large.{links_in, Ascending}
use Rattle.graphs.proofs.Walk.{none-some, some-injective, follow-start, reached-root, reached-link}
use Rattle.graphs.proofs.Lists.{from-range, length_from, get_or-from}
use Rattle.lattice.specs.Label.{Label, no_label}
use Rattle.lattice.specs.Labels.{Known}
use Rattle.lattice.specs.Table.{every, last, below, sized, confined, reflexive, antisymmetric, transitive, least, greatest, ordered, is_meet, is_join, meet, join, bounded}
use Rattle.std.specs.Prelude.{Ok}
use Rattle.acceptance.specs.Reply.{opened}
use Rattle.encoder.specs.Encode.{is_full, encoded_label, encoded_row, encoded_rows, encoded}
use Rattle.encode.specs.Encode.{fitted}
use Rattle.record.specs.Read.{graph_of_rows}
use Rattle.record.proofs.Accepted.{Rules}
use Rattle.record.proofs.Rewritten.{rules-read}
use Rattle.record.proofs.Nodes.{target-source}
use Rattle.replies.specs.Replies.{Length}
use Rattle.replies.specs.Reply.{Result, result_of}
use Rattle.calls.specs.Calls.{rewriting}
use Rattle.demands.specs.Demand.{WrittenRecord}
use Rattle.demands.proofs.Demanded.Meaning.{own-bytes}

-- the number of links that leave the node v: 52 + 246 × 8 + (7 + 6 + .. + 1) = 2,048
many : ℕ → ℕ
many v = cond (eqb v 0) 52 (min 8 (254 - v))

links_from : ℕ → List (ℕ × ℕ)
links_from v = map (λ f. (f, v + 1 + f)) (from 0 (many v))

-- type 1, the greatest of two, and a range that is not full
row_at : ℕ → Row Label
row_at v = (record { type = 1; lowest = 0; highest = 254 }, links_from v)

rows : List (Row Label)
rows = map row_at (from 0 255)

-- the two types
table : List ℕ
table = 1 ∷ replicate 7 0 ++ 3 ∷ replicate 7 0

opens : opened 2 table ≡ Ok tt
unfolding table opened sized ordered confined reflexive antisymmetric transitive least greatest bounded meet is_meet join is_join every last below
opens = refl

-- These facts are computed: the rows are their own written form, and their record has 4,854 bytes.

own : canonical eqb (graph_of_rows rows) ≡ written rows
unfolding rows row_at links_from many canonical visit each member target from row_of links_of index_of link_count out_degree bind
own = refl

node-count : length rows ≡ 255
unfolding rows from
node-count = refl

link-count : links_in rows ≡ 2048
unfolding rows row_at links_from many from links_in
link-count = refl

record-length : length (encoded rows) ≡ 4854
unfolding rows row_at links_from many from encoded encoded_rows encoded_row encoded_label is_full
record-length = refl

-- The rows keep the rules of an accepted record.

many-cases : (v : ℕ) → (many v ≤ 52) × (v < 255 → v + many v < 255) × (v < 254 → 0 < many v)
unfolding many
many-cases v = go (eqb v 0) refl
  where
    go : (b : Bool) → eqb v 0 ≡ b →
        (cond b 52 (min 8 (254 - v)) ≤ 52) × (v < 255 → v + cond b 52 (min 8 (254 - v)) < 255) × (v < 254 → 0 < cond b 52 (min 8 (254 - v)))
    go true e = let z : v ≡ 0 = eqb-true v 0 e in (omega arith, λ h. omega arith, λ h. omega arith)
    go false e = (omega arith, λ h. omega arith, λ h. omega arith)

link-says : (v : ℕ) (l : ℕ × ℕ) → Memᴰ l (links_from v) → (l.0 < many v) × (l.1 ≡ v + 1 + l.0)
unfolding links_from
link-says v l m =
    let (f, i, e) = Memᴰ.of_map {B = ℕ × ℕ} (λ f. (f, v + 1 + f)) (from 0 (many v)) m in
    subst (λ (x : ℕ × ℕ). (x.0 < many v) × (x.1 ≡ v + 1 + x.0)) e (omega (arith, from-range 0 (many v) f i), refl)

ascends : (v k n : ℕ) → Ascending (map (λ f. (f, v + 1 + f)) (from k n))
unfolding from
ascends v k zero = tt
ascends v k (suc n) = (
  λ l m.
      let (f, i, e) = Memᴰ.of_map {B = ℕ × ℕ} (λ f. (f, v + 1 + f)) (from (suc k) n) m in
      subst (λ (x : ℕ × ℕ). k < x.0) e (from-range (suc k) n f i).0,
  ascends v (suc k) n,
)

-- What holds for the row of each node holds for each row.
row-says : (P : Row Label → Type 0) → ((v : ℕ) → v < 255 → P (row_at v)) → (r : Row Label) → Memᴰ r rows → P r
unfolding rows
row-says P all r m = let (v, i, e) = Memᴰ.of_map row_at (from 0 255) m in subst P e (all v (from-range 0 255 v i).1)

row-at : (v : ℕ) → v < 255 → get_or rows v (no_label, []) ≡ row_at v
unfolding rows
row-at v h = get_or-from row_at (no_label, []) 255 0 v h ∙ ap row_at (zero-add v)

row-end : (v : ℕ) → 255 ≤ v → get_or rows v (no_label, []) ≡ (no_label, [])
unfolding rows
row-end v h =
    get_or-eq_default rows (no_label, []) {n = v} (omega (arith, length-map (from 0 255) row_at, length_from 0 255))

-- Links lead to higher numbers.
link_up : (v f w : ℕ) → (graph_of_rows rows).link v f ≡ some w → v < w
unfolding row_at target
link_up v f w e = go (dec_le 255 v)
  where
    go : Dec (255 ≤ v) → v < w
    go (yes h) = none-some (ap (λ (r : Row Label). target r.1 f) (sym (row-end v h)) ∙ e)
    go (no h) =
        let at : target (links_from v) f ≡ some w = ap (λ (r : Row Label). target r.1 f) (sym (row-at v (omega arith))) ∙ e in
        let says = link-says v (f, w) (target-source (links_from v) f w at) in
        omega (arith, says.1)

follow-up : (p : List ℕ) (v w : ℕ) → follow (graph_of_rows rows).link (some v) p ≡ some w → v ≤ w
unfolding follow
follow-up [] v w e = let q : v ≡ w = some-injective e in omega arith
follow-up (f ∷ p) v w e =
    let (u, to) = follow-start (graph_of_rows rows).link ((graph_of_rows rows).link v f) p w e in
    let later : u ≤ w = follow-up p u w (ap (λ (o : Option ℕ). follow (graph_of_rows rows).link o p) (sym to) ∙ e) in
    omega (arith, link_up v f u to)

no-cycle : (v f : ℕ) (p : List ℕ) → follow (graph_of_rows rows).link (some v) (f ∷ p) ≡ some v → ⊥
unfolding follow
no-cycle v f p e =
    let (u, to) = follow-start (graph_of_rows rows).link ((graph_of_rows rows).link v f) p v e in
    let later : u ≤ v = follow-up p u v (ap (λ (o : Option ℕ). follow (graph_of_rows rows).link o p) (sym to) ∙ e) in
    omega (arith, link_up v f u to)

-- Feature 0 leads to the next node.
first-link : (v k : ℕ) → 0 < k → target (map (λ f. (f, v + 1 + f)) (from 0 k)) 0 ≡ some (suc v)
unfolding from target
first-link v zero l = absurd (omega arith)
first-link v (suc k) l = let q : v + 1 + 0 ≡ suc v = omega arith in ap some q

next-node : (v : ℕ) → v < 254 → (graph_of_rows rows).link v 0 ≡ some (suc v)
unfolding row_at links_from
next-node v h = ap (λ (r : Row Label). target r.1 0) (row-at v (omega arith)) ∙ first-link v (many v) ((many-cases v).2 h)

reached : (v : ℕ) → v < 255 → Reached (graph_of_rows rows) v
reached zero h = reached-root (graph_of_rows rows)
reached (suc v) h = reached-link (graph_of_rows rows) 0 (reached v (omega arith)) (next-node v (omega arith))

rules : Rules 2 rows
unfolding row_at links_from
rules =
    record {
      nonempty = omega (arith, node-count);
      short = omega (arith, node-count);
      links = omega (arith, link-count);
      ordered =
          row-says (λ r. Ascending r.1 × ((l : ℕ × ℕ) → Memᴰ l r.1 → l.0 < 64))
          (λ v h. (ascends v 0 (many v), λ l m. omega (arith, (link-says v l m).0, (many-cases v).0)));
      types = row-says (λ r. r.0.type < 128) (λ v h. omega arith);
      ranged =
          row-says
          (λ r.
          ((0 < r.0.type) × Known 2 r.0 × (r.0.lowest ≤ r.0.highest)) × ((l : ℕ × ℕ) → Memᴰ l r.1 → l.1 < length rows))
          (λ v h. (
            (omega arith, record { type = omega arith; lowest = omega arith; highest = omega arith }, omega arith),
            λ l m. omega (arith, node-count, (link-says v l m).0, (link-says v l m).1, (many-cases v).1 h),
          ));
      acyclic = λ (v, _, f, p, e). no-cycle v f p e;
      reached = λ v h. reached v (omega (arith, node-count));
    }

longest-written : WrittenRecord 2 (encoded rows)
longest-written = record { form = rows; reads = rules-read 2 rows rules; own = own; bytes-are = refl }

fits : (bytes out : List ℕ) → length bytes ≤ length out → (result_of (fitted bytes out)).reply ≡ Length (length bytes)
unfolding fitted
fits bytes out h = rw (le-leb (length bytes) (length out) h)

-- The record is written into every output of at least 4,854 bytes.
pub longest-rewritten : (n : ℕ) × (t : List ℕ) × (a : List ℕ) × ((out : List ℕ) → 4854 ≤ length out → (rewriting n t a out).reply ≡ Length 4854)
longest-rewritten = (
  2,
  table,
  encoded rows,
  λ out h.
      ap (λ (r : Result). r.reply) (own-bytes 2 table (encoded rows) longest-written opens out)
      ∙ fits (encoded rows) out (omega (arith, record-length))
      ∙ ap Length record-length,
)
