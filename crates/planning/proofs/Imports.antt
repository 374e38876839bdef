-- What import does in each case: it tests the counts and the rows, and writes the graph of the placed rows.
use mathlib.Core.Path.{◌≡◌, refl, sym, ◌∙◌, ap, subst}
use mathlib.Core.Bool.{Bool, true, false, cond, not}
use mathlib.Core.List.{List, Memᴰ}
use mathlib.Core.Logic.{inr}
use mathlib.Core.Option.{some}
use Prim.Native.Nat.{ℕ, ◌%◌, ◌≤◌, ◌<◌}
use native.Mathlib.Decide.{dec_le, dec_lt}
use native.Mathlib.Omega.{arith}
use borrow.Author.Tests.{eq-eqb, ne_eqb, le-leb, lt-leb}
use lib.Dec.{leb}
use lib.ListN.{length, get_or, take, replicate, get_or-replicate, length-replicate, get_or-eq_default}
use lib.Seq.{take_all}
use Rattle.graphs.specs.Rows.{Row}
use Rattle.graphs.specs.Large.{links_in}
use Rattle.graphs.proofs.Lists.{from_member}
use Rattle.graphs.proofs.Search.{not-true-false}
use Rattle.lattice.specs.Label.{Label}
use Rattle.acceptance.specs.declared.TableFault.{TableFault}
use Rattle.std.specs.Prelude.{Ok, Err}
use Rattle.acceptance.specs.Reply as table
use Rattle.layout.specs.Layout.{rows_of}
use Rattle.record.specs.declared.GraphFault.TheVariants.{Malformed, OutOfRange, Cyclic, Unreached}
use Rattle.record.specs.Read.{refused, accepted, in_range, cyclic, reaches_all, judged}
use Rattle.record.specs.Reads.{ReadsAs, Verdict}
use Rattle.record.proofs.Readings.{in-range}
use Rattle.rows.specs.declared.Row as lent
use Rattle.rows.specs.Rows.{nodes_in, table_rows, is_sized, all_known, has_twice}
use Rattle.rows.specs.Placing.{Placed}
use Rattle.rows.specs.Filling.{placed_row, placed_rows, Labelled, Fillable, Filled}
use Rattle.rows.proofs.Tables.{placed-table, table-links}
use Rattle.rows.proofs.Tests.{sized-exact, unsized-exact}
use Rattle.replies.specs.declared.Side.TheVariants.{First}
use Rattle.replies.specs.Replies.{Table, Graph, RowOutOfRange, RowTwice}
use Rattle.replies.specs.Reply.{Result, resulting, refusing}
use Rattle.engine.specs.Rewriting.{rewritten}
use Rattle.calls.specs.Calls.{checked}
use Rattle.calls.proofs.Tables.{table-refused, table-accepted}
use Rattle.planning.specs.Planning.{imported, importing, importing_rows, Placeable}

-- The counts.
module _ (nodes : List ℕ) (count : ℕ) where
  pub sized-odd : (length nodes % 3 ≡ 0 → ⊥) → false ≡ is_sized nodes count
  unfolding is_sized
  sized-odd h = simp (ne_eqb (length nodes % 3) 0 h)

  pub sized-none : length nodes % 3 ≡ 0 → nodes_in nodes < 1 → false ≡ is_sized nodes count
  unfolding is_sized
  sized-none e h = simp (eq-eqb (length nodes % 3) 0 e, lt-leb 1 (nodes_in nodes) h)

  pub sized-many : length nodes % 3 ≡ 0 → 1 ≤ nodes_in nodes → 255 < nodes_in nodes → false ≡ is_sized nodes count
  unfolding is_sized
  sized-many e h k = simp (eq-eqb (length nodes % 3) 0 e, le-leb 1 (nodes_in nodes) h, lt-leb (nodes_in nodes) 255 k)

  pub sized_rows : length nodes % 3 ≡ 0 → 1 ≤ nodes_in nodes → nodes_in nodes ≤ 255 → leb count 2048 ≡ is_sized nodes count
  unfolding is_sized
  sized_rows e h k = simp (eq-eqb (length nodes % 3) 0 e, le-leb 1 (nodes_in nodes) h, le-leb (nodes_in nodes) 255 k)

  pub sized-parts : is_sized nodes count ≡ true → (1 ≤ nodes_in nodes) × (nodes_in nodes ≤ 255) × (count ≤ 2048)
  sized-parts e = let (whole, some-nodes, few, rows) = (sized-exact nodes count).0 e in (some-nodes, few, rows)

-- The graph of placed rows.
module _ (n : ℕ) (nodes targets : List ℕ) where
  abbrev graph : List (Row Label)
  graph = placed_rows nodes targets (nodes_in nodes)

  -- 5 is given where a type has bit 7.
  pub unstated : n ≤ 64 → Labelled nodes false → (out : List ℕ) → resulting (Graph OutOfRange First) out ≡ rewritten (judged n (some graph)) out
  unstated types labelled out =
      let (v, h, high) = labelled.unknown refl in
      let m : Memᴰ (placed_row nodes targets v) graph = mathlib.Core.List.Memᴰ.map (placed_row nodes targets) (from_member 0 (nodes_in nodes) v (omega arith) (omega arith)) in
      let out_of : in_range n graph ≡ false = not-true-false (in_range n graph) (λ e. omega (arith, ((in-range n graph).0 e (placed_row nodes targets v) m).0.1.type)) in
      sym (ap (λ (b : Bool). rewritten (cond b (cond (cyclic graph) (refused Cyclic) (cond (reaches_all graph) (accepted graph) (refused Unreached))) (refused OutOfRange)) out) out_of)

  pub fillable : Placeable nodes targets → {b : Bool} → Labelled nodes b → b ≡ true → Fillable nodes targets
  fillable p labelled e =
      record { some-nodes = p.some-nodes; few = p.small; labels = labelled.known e; low = p.low; long = p.long; links = p.links }

  pub judged-as : {ws : List ℕ} {v : Verdict} → Filled nodes targets ws → ReadsAs n (judged n (some (rows_of ws))) v ws → ReadsAs n (judged n (some graph)) v ws
  judged-as {ws} {v} f = subst (λ (rows : List (Row Label)). ReadsAs n (judged n (some rows)) v ws) f.rows_are

-- The rows.
module _ (n count : ℕ) (rows : List lent.Row) (nodes out : List ℕ) where
  abbrev written : Result
  written = rewritten (judged n (some (table_rows nodes rows))) out

  abbrev once : Result
  once = cond (has_twice rows) (refusing RowTwice out) written

  abbrev known : Result
  known = cond (all_known (nodes_in nodes) rows) once (refusing RowOutOfRange out)

  -- 4 is given where the counts are not those of a planning table.
  pub import-size : is_sized nodes count ≡ false → resulting (Graph Malformed First) out ≡ imported n count rows nodes out
  unfolding imported
  import-size e = sym (ap (λ (b : Bool). cond b known (refusing (Graph Malformed First) out)) e)

  module _ (sized : is_sized nodes count ≡ true) where
    import-known : imported n count rows nodes out ≡ known
    unfolding imported
    import-known = ap (λ (b : Bool). cond b known (refusing (Graph Malformed First) out)) sized

    -- 14 is given where some row is out of range.
    pub import-unknown : all_known (nodes_in nodes) rows ≡ false → resulting RowOutOfRange out ≡ imported n count rows nodes out
    import-unknown e = sym (import-known ∙ ap (λ (b : Bool). cond b once (refusing RowOutOfRange out)) e)

    module _ (inside : all_known (nodes_in nodes) rows ≡ true) where
      import-once : imported n count rows nodes out ≡ once
      import-once = import-known ∙ ap (λ (b : Bool). cond b once (refusing RowOutOfRange out)) inside

      -- 15 is given where two rows have one parent and feature.
      pub import-twice : has_twice rows ≡ true → resulting RowTwice out ≡ imported n count rows nodes out
      import-twice e = sym (import-once ∙ ap (λ (b : Bool). cond b (refusing RowTwice out) written) e)

      pub import-written : has_twice rows ≡ false → imported n count rows nodes out ≡ written
      import-written e = import-once ∙ ap (λ (b : Bool). cond b (refusing RowTwice out) written) e

-- Rows that are placed make a graph of 1 to 255 nodes and at most 2,048 links.
pub placeable : (nodes targets : List ℕ) (rows : List lent.Row) → is_sized nodes (length rows) ≡ true → Placed rows targets → length targets ≡ 16320 →
    Placeable nodes targets
placeable nodes targets rows sized placed wide =
    let (some-nodes, small, few) = sized-parts nodes (length rows) sized in
    record {
      some-nodes = some-nodes;
      small = small;
      low = placed.low;
      long = wide;
      links = omega (arith, ap links_in (placed-table nodes targets rows small placed), table-links nodes rows);
    }

pub not-not : (b : Bool) {t : Bool} → t ≡ not b → t ≡ true → b ≡ false
not-not true p q = let z : ◌≡◌ {A = ℕ} 0 1 = cc in absurd (omega arith)
not-not false p q = refl

pub not-twice : (b : Bool) {t : Bool} → t ≡ not b → t ≡ false → b ≡ true
not-twice true p q = refl
not-twice false p q = let z : ◌≡◌ {A = ℕ} 0 1 = cc in absurd (omega arith)

pub none-placed : (k : ℕ) → ◌≡◌ {A = ℕ} (get_or (replicate 16320 0) k 0) 0
none-placed k = go (dec_lt k 16320)
  where
    go : Dec (k < 16320) → ◌≡◌ {A = ℕ} (get_or (replicate 16320 0) k 0) 0
    go (yes h) = get_or-replicate 16320 k 0 0 h
    go (no h) = get_or-eq_default (replicate 16320 0) 0 {n = k} (omega (arith, length-replicate {A = ℕ} 16320 0))

-- The table's 1 to 3 come before that.
module _ (n : ℕ) (t : List ℕ) (count : ℕ) (rows : List lent.Row) (nodes out : List ℕ) where
  pub importing-refused : (fault : TableFault) → table.opened n t ≡ Err fault → resulting (Table fault) out ≡ importing n t count rows nodes out
  unfolding importing
  importing-refused fault e = sym (table-refused (λ r. refusing r out) (imported n count rows nodes out) fault e)

  pub importing-accepted : table.opened n t ≡ Ok tt → imported n count rows nodes out ≡ importing n t count rows nodes out
  unfolding importing
  importing-accepted e = sym (table-accepted (λ r. refusing r out) (imported n count rows nodes out) e)

-- Rows past the first 2,048 do not matter, since import then refuses by their count.
pub import-whole : (n : ℕ) (t : List ℕ) (rows : List lent.Row) (nodes out : List ℕ) →
    importing_rows n t rows nodes out ≡ importing n t (length rows) rows nodes out
unfolding importing
import-whole n t rows nodes out = ap (checked (λ r. refusing r out) (table.opened n t)) (go (dec_le (length rows) 2048))
  where
    go : Dec (length rows ≤ 2048) → imported n (length rows) (take 2048 rows) nodes out ≡ imported n (length rows) rows nodes out
    go (yes h) = ap (λ (xs : List lent.Row). imported n (length rows) xs nodes out) (take_all 2048 rows h)
    go (no h) =
        let many : is_sized nodes (length rows) ≡ false = (unsized-exact nodes (length rows)).1 (inr (inr (inr (omega arith)))) in
        sym (import-size n (length rows) (take 2048 rows) nodes out many) ∙ import-size n (length rows) rows nodes out many
