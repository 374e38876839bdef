-- Import gives each reply exactly where it is due: 1 to 3, 4, 14, 15, 5, 6, 7 and 8 in this order, else a length (document 02, Papers 2 and 7).
use mathlib.Core.Path.{◌≡◌, refl, sym, ◌∙◌, ap, subst}
use mathlib.Core.Bool.{Bool, true, false, cond}
use mathlib.Core.List.{List, Memᴰ}
use mathlib.Core.Logic.{◌↔◌, ◌⊎◌, inl, inr, ⊎_elim}
use mathlib.Core.Option.{some}
use Prim.Native.Nat.{ℕ, zero, suc, ◌*◌, ◌≤◌, ◌<◌}
use native.Mathlib.Decide.{ℕ_discrete, dec_le, dec_lt}
use native.Mathlib.Omega.{arith}
use borrow.Author.Tests.{le-leb, lt-leb}
use lib.Dec.{eqb}
use lib.ListN.{length, get_or}
use Rattle.std.specs.Prelude.{Ok, Err}
use Rattle.graphs.specs.Graph.{Reached}
use Rattle.graphs.specs.Rows.{Row}
use Rattle.graphs.specs.Number.{Canonical, canonical, written, member}
use Rattle.graphs.proofs.Lists.{tells-eqb, member-true, member-false}
use Rattle.graphs.proofs.Search.{not-true-false, true-false}
use Rattle.graphs.proofs.Form.Rules.{form-nodes}
use Rattle.graphs.proofs.Form.Large.{canonical-fits}
use Rattle.lattice.specs.Label.{Label}
use Rattle.acceptance.specs.declared.TableFault.{TableFault}
use Rattle.acceptance.specs.Reply.{table_number, TableAnswer}
use Rattle.acceptance.specs.Reply as table
use Rattle.lattice.proofs.Every.{below_suc}
use Rattle.encoder.specs.Encode.{encoded}
use Rattle.encode.specs.declared.Unwritten.TheVariants as unwritten
use Rattle.encode.specs.Encode.{written_out, fitted, yielding}
use Rattle.peeling.proofs.Range.{LabelInRange}
use Rattle.record.specs.declared.GraphFault.{GraphFault}
use Rattle.record.specs.declared.GraphFault.TheVariants.{Malformed, OutOfRange, Cyclic, Unreached, Inappropriate}
use Rattle.record.specs.Read.{Reading, refused, accepted, judged, in_range, cyclic, reaches_all, graph_number}
use Rattle.record.proofs.Readings.{in-range}
use Rattle.record.proofs.Accepted.{rules-fit}
use Rattle.record.proofs.Nodes.{Linked, narrow, few-nodes, few-links}
use Rattle.record.proofs.Reaching.{cyclic-exact, reaches-exact}
use Rattle.rows.specs.declared.Row as lent
use Rattle.rows.specs.Rows.{label_in, nodes_in, table_rows, is_sized, all_known, has_twice, filled}
use Rattle.rows.specs.Faults.{Sized, Unsized, KnownRow, UnknownRow, Twice, Formed}
use Rattle.rows.proofs.Tables.{stated, table-links}
use Rattle.rows.proofs.Tests.{sized-exact, unsized-exact, all-known-exact, some-unknown-exact, twice-exact, once-exact}
use Rattle.replies.specs.declared.Side.TheVariants.{First}
use Rattle.replies.specs.Replies.{Reply}
use Rattle.replies.specs.Replies.{Length, Table, Graph, NoRoom, TooLarge, RowOutOfRange, RowTwice}
use Rattle.replies.specs.Reply.{Result, refusal, resulting, refusing, result_of}
use Rattle.engine.specs.Rewriting.{rewritten, rewritten_rows}
use Rattle.engine.proofs.Tables.{few-types}
use Rattle.planning.specs.Planning.{imported, importing_rows}
use Rattle.planning.specs.Importable.{table_graph, OutsideLabel, InsideLabel, Loops, Unreachable, Importable}
use Rattle.planning.proofs.Due.{Grounds, Due}
use Rattle.planning.proofs.Imports.{import-whole, import-size, import-unknown, import-twice, import-written, importing-refused, importing-accepted}
use Rattle.planning.proofs.TableGraph.{table-length, table-row, table-source, table-linked, inside-range, importable-rules}

-- When 5, 6 and 7 are due: what the tests of the graph decide.

label-decide : (n : ℕ) (l : Label) → OutsideLabel n l ⊎ InsideLabel n l
label-decide n l = go (ℕ_discrete l.type 0) (dec_lt l.type n) (dec_le l.lowest l.highest) (dec_le l.highest 255)
  where
    go : Dec (l.type ≡ 0) → Dec (l.type < n) → Dec (l.lowest ≤ l.highest) → Dec (l.highest ≤ 255) → OutsideLabel n l ⊎ InsideLabel n l
    go (yes a) b c d = inl (inl a)
    go (no a) (no b) c d = inl (inr (inl (omega arith)))
    go (no a) (yes b) (no c) d = inl (inr (inr (inl (omega arith))))
    go (no a) (yes b) (yes c) (no d) = inl (inr (inr (inr (omega arith))))
    go (no a) (yes b) (yes c) (yes d) = inr (omega arith, b, c, d)

label-clash : (n : ℕ) (l : Label) → OutsideLabel n l → InsideLabel n l → ⊥
label-clash n l (inl f) (a, b, c, d) = omega arith
label-clash n l (inr (inl f)) (a, b, c, d) = omega arith
label-clash n l (inr (inr (inl f))) (a, b, c, d) = omega arith
label-clash n l (inr (inr (inr f))) (a, b, c, d) = omega arith

-- If each number has one of two properties, then some number below n has the first, or all have the second.
below-search : (P Q : ℕ → Type 0) → ((v : ℕ) → P v ⊎ Q v) → (n : ℕ) → ((v : ℕ) × (v < n) × P v) ⊎ ((v : ℕ) → v < n → Q v)
below-search P Q decide zero = inr (λ v h. absurd (omega arith))
below-search P Q decide (suc n) = go (decide n) (below-search P Q decide n)
  where
    go : P n ⊎ Q n → ((v : ℕ) × (v < n) × P v) ⊎ ((v : ℕ) → v < n → Q v) → ((v : ℕ) × (v < suc n) × P v) ⊎ ((v : ℕ) → v < suc n → Q v)
    go (inl p) later = inl (n, omega arith, p)
    go (inr q) (inl (v, h, p)) = inl (v, omega arith, p)
    go (inr q) (inr all) = inr (λ v h. below_suc h (λ e. subst Q (sym e) q) (λ l. all v l))

module _ (n : ℕ) (nodes : List ℕ) (rows : List lent.Row) (formed : Formed nodes rows) where
  labels-exact : (in_range n (table_rows nodes rows) ≡ true) ↔ ((v : ℕ) → v < nodes_in nodes → InsideLabel n (label_in nodes v))
  labels-exact = (
    λ e v h.
        let (low, known, up) = ((in-range n (table_rows nodes rows)).0 e (stated nodes rows v) (table-row nodes rows v h)).0 in
        (low, known.type, up, known.highest),
    λ all.
        (in-range n (table_rows nodes rows)).1 (λ r m.
        let (v, h, e) = table-source nodes rows r m in
        (subst (λ (x : Row Label). LabelInRange n x.0) e (inside-range n (label_in nodes v) (all v h)), (table-linked nodes rows formed).targets r m)),
  )

  outside-exact : (in_range n (table_rows nodes rows) ≡ false) ↔ ((v : ℕ) × (v < nodes_in nodes) × OutsideLabel n (label_in nodes v))
  outside-exact = (
    λ e.
        ⊎_elim (λ found. found) (λ all. true-false (labels-exact.1 all) e)
        (below-search (λ v. OutsideLabel n (label_in nodes v)) (λ v. InsideLabel n (label_in nodes v)) (λ v. label-decide n (label_in nodes v)) (nodes_in nodes)),
    λ (v, h, o). not-true-false (in_range n (table_rows nodes rows)) (λ e. label-clash n (label_in nodes v) o (labels-exact.0 e v h)),
  )

module _ (nodes : List ℕ) (rows : List lent.Row) (formed : Formed nodes rows) where
  linked : Linked (table_rows nodes rows)
  linked = table-linked nodes rows formed

  loops-exact : (cyclic (table_rows nodes rows) ≡ true) ↔ Loops nodes rows
  loops-exact =
      let (there, back) = cyclic-exact (table_rows nodes rows) linked in (
        λ e. let (v, h, f, p, w) = there e in (v, omega (arith, table-length nodes rows), f, p, w),
        λ (v, h, f, p, w). back (v, omega (arith, table-length nodes rows), f, p, w),
      )

  loopless-exact : (cyclic (table_rows nodes rows) ≡ false) ↔ (Loops nodes rows → ⊥)
  loopless-exact = (λ e l. true-false (loops-exact.1 l) e, λ h. not-true-false (cyclic (table_rows nodes rows)) (λ e. h (loops-exact.0 e)))

  all-exact : (reaches_all (table_rows nodes rows) ≡ true) ↔ ((v : ℕ) → v < nodes_in nodes → Reached (table_graph nodes rows) v)
  all-exact =
      let (there, back) = reaches-exact (table_rows nodes rows) linked in (
        λ e v h. (there e).1 v (omega (arith, table-length nodes rows)),
        λ all. back (omega (arith, table-length nodes rows, formed.sized.2), λ v h. all v (omega (arith, table-length nodes rows))),
      )

  -- The nodes that are reached are those of the written form, so reaching a node is decided.
  reached-decide : (v : ℕ) → (Reached (table_graph nodes rows) v → ⊥) ⊎ Reached (table_graph nodes rows) v
  reached-decide v =
      let small = narrow (table_rows nodes rows) linked in
      let (form, e) =
      (canonical-fits eqb tells-eqb (table_graph nodes rows) small).0 (
        few-nodes (table_rows nodes rows) linked (omega (arith, table-length nodes rows, formed.sized.2)),
        few-links (table_rows nodes rows) (omega (arith, table-links nodes rows, formed.sized.3)),
      ) in
      let (found, _, listed, _) = form-nodes eqb tells-eqb (table_graph nodes rows) small form e in
      go found (listed v) (member eqb v found) refl
    where
      go : (found : List ℕ) → Reached (table_graph nodes rows) v ↔ Memᴰ v found → (b : Bool) → member eqb v found ≡ b →
          (Reached (table_graph nodes rows) v → ⊥) ⊎ Reached (table_graph nodes rows) v
      go found listed true e = inr (listed.1 (member-true eqb tells-eqb v found e))
      go found listed false e = inl (λ r. member-false eqb tells-eqb v found e (listed.0 r))

  unreachable-exact : (reaches_all (table_rows nodes rows) ≡ false) ↔ Unreachable nodes rows
  unreachable-exact = (
    λ e.
        ⊎_elim (λ found. found) (λ all. true-false (all-exact.1 all) e)
        (below-search (λ v. Reached (table_graph nodes rows) v → ⊥) (λ v. Reached (table_graph nodes rows) v) reached-decide (nodes_in nodes)),
    λ (v, h, off). not-true-false (reaches_all (table_rows nodes rows)) (λ e. off (all-exact.0 e v h)),
  )

-- The refusals of a graph, by the tests.
module _ (n : ℕ) (graph : List (Row Label)) where
  judged-outside : in_range n graph ≡ false → judged n (some graph) ≡ refused OutOfRange
  judged-outside i = rw i

  judged-loops : in_range n graph ≡ true → cyclic graph ≡ true → judged n (some graph) ≡ refused Cyclic
  judged-loops i c = rw (i, c)

  judged-unreached : in_range n graph ≡ true → cyclic graph ≡ false → reaches_all graph ≡ false → judged n (some graph) ≡ refused Unreached
  judged-unreached i c a = rw (i, c, a)

  judged-accepted : in_range n graph ≡ true → cyclic graph ≡ false → reaches_all graph ≡ true → judged n (some graph) ≡ accepted graph
  judged-accepted i c a = rw (i, c, a)

module _ (n : ℕ) (t : List ℕ) (rows : List lent.Row) (nodes out : List ℕ) where
  -- The graph has a record, and P holds for the record's length.
  abbrev RecordLength : (ℕ → Type 0) → Type 0
  RecordLength P = (form : List (Row Label)) × (canonical eqb (table_graph nodes rows) ≡ written form) × P (length (encoded form))

  abbrev Opens : Type 0
  Opens = table.opened n t ≡ Ok tt

  abbrev Labelled : Type 0
  Labelled = (v : ℕ) → v < nodes_in nodes → InsideLabel n (label_in nodes v)

  -- The grounds of 4 to 7.
  abbrev for_graph : GraphFault → Type 0
  for_graph Malformed = Opens × Unsized nodes (length rows)
  for_graph OutOfRange = Opens × Formed nodes rows × ((v : ℕ) × (v < nodes_in nodes) × OutsideLabel n (label_in nodes v))
  for_graph Cyclic = Opens × Formed nodes rows × Labelled × Loops nodes rows
  for_graph Unreached = Opens × Formed nodes rows × Labelled × (Loops nodes rows → ⊥) × Unreachable nodes rows
  for_graph Inappropriate = ⊥

  abbrev grounds : Grounds
  grounds =
      record {
        for-length = λ l. Opens × Importable n nodes rows × RecordLength (λ m. (m ≡ l) × (m ≤ length out));
        for-counts = λ a b. ⊥;
        for-table = λ fault. table.opened n t ≡ Err fault;
        for-graph = for_graph;
        for-room = Opens × Importable n nodes rows × RecordLength (λ m. length out < m);
        for-unknown = Opens × Sized nodes (length rows) × ((r : lent.Row) × Memᴰ r rows × UnknownRow (nodes_in nodes) r);
        for-twice = Opens × Sized nodes (length rows) × ((r : lent.Row) → Memᴰ r rows → KnownRow (nodes_in nodes) r) × Twice rows;
      }

  -- One of these holds: a refusal is due, or the graph is written.
  data Told : Type 0 where
    bad-table : (fault : TableFault) → grounds.for-table fault → Told
    bad-graph : (fault : GraphFault) → for_graph fault → Told
    unknown-row : grounds.for-unknown → Told
    row-twice : grounds.for-twice → Told
    fits : Opens → Importable n nodes rows → Told

  told : Told
  told = tabled (table.opened n t) refl
    where
      reaching : Opens → Formed nodes rows → Labelled → (Loops nodes rows → ⊥) → (b : Bool) → reaches_all (table_rows nodes rows) ≡ b → Told
      reaching e f l loopless true q =
          fits e (record { formed = f; labels = l; loopless = loopless; reached = (all-exact nodes rows f).0 q })
      reaching e f l loopless false q = bad-graph Unreached (e, f, l, loopless, (unreachable-exact nodes rows f).0 q)

      looping : Opens → Formed nodes rows → Labelled → (b : Bool) → cyclic (table_rows nodes rows) ≡ b → Told
      looping e f l true q = bad-graph Cyclic (e, f, l, (loops-exact nodes rows f).0 q)
      looping e f l false q = reaching e f l ((loopless-exact nodes rows f).0 q) (reaches_all (table_rows nodes rows)) refl

      labelled : Opens → Formed nodes rows → (b : Bool) → in_range n (table_rows nodes rows) ≡ b → Told
      labelled e f true q = looping e f ((labels-exact n nodes rows f).0 q) (cyclic (table_rows nodes rows)) refl
      labelled e f false q = bad-graph OutOfRange (e, f, (outside-exact n nodes rows f).0 q)

      once : Opens → Sized nodes (length rows) → ((r : lent.Row) → Memᴰ r rows → KnownRow (nodes_in nodes) r) → (b : Bool) → has_twice rows ≡ b → Told
      once e s k true q = row-twice (e, s, k, (twice-exact rows).0 q)
      once e s k false q =
          labelled e (record { sized = s; known = k; once = (once-exact rows).0 q }) (in_range n (table_rows nodes rows)) refl

      known : Opens → Sized nodes (length rows) → (b : Bool) → all_known (nodes_in nodes) rows ≡ b → Told
      known e s true q = once e s ((all-known-exact (nodes_in nodes) rows).0 q) (has_twice rows) refl
      known e s false q = unknown-row (e, s, (some-unknown-exact (nodes_in nodes) rows).0 q)

      sized : Opens → (b : Bool) → is_sized nodes (length rows) ≡ b → Told
      sized e true q = known e ((sized-exact nodes (length rows)).0 q) (all_known (nodes_in nodes) rows) refl
      sized e false q = bad-graph Malformed (e, (unsized-exact nodes (length rows)).0 q)

      tabled : (o : TableAnswer) → table.opened n t ≡ o → Told
      tabled (Err fault) e = bad-table fault e
      tabled (Ok tt) e = sized e (is_sized nodes (length rows)) refl

  -- What import gives in each case.

  abbrev result : Result
  result = importing_rows n t rows nodes out

  table-result : (fault : TableFault) → grounds.for-table fault → result ≡ refusing (Table fault) out
  table-result fault e = import-whole n t rows nodes out ∙ sym (importing-refused n t (length rows) rows nodes out fault e)

  over : Opens → result ≡ imported n (length rows) rows nodes out
  over e = import-whole n t rows nodes out ∙ sym (importing-accepted n t (length rows) rows nodes out e)

  unknown-result : grounds.for-unknown → result ≡ refusing RowOutOfRange out
  unknown-result (e, s, u) =
      over e
      ∙ sym (import-unknown n (length rows) rows nodes out ((sized-exact nodes (length rows)).1 s) ((some-unknown-exact (nodes_in nodes) rows).1 u))

  twice-result : grounds.for-twice → result ≡ refusing RowTwice out
  twice-result (e, s, k, two) =
      over e
      ∙ sym (import-twice n (length rows) rows nodes out ((sized-exact nodes (length rows)).1 s) ((all-known-exact (nodes_in nodes) rows).1 k) ((twice-exact rows).1 two))

  judged-result : Opens → Formed nodes rows → {o : Reading} → judged n (some (table_rows nodes rows)) ≡ o → result ≡ rewritten o out
  judged-result e f {o} j =
      over e
      ∙ import-written n (length rows) rows nodes out ((sized-exact nodes (length rows)).1 f.sized) ((all-known-exact (nodes_in nodes) rows).1 f.known)
      ((once-exact rows).1 f.once)
      ∙ ap (λ (x : Reading). rewritten x out) j

  graph-result : (fault : GraphFault) → for_graph fault → result ≡ refusing (Graph fault First) out
  graph-result Malformed (e, u) = over e ∙ sym (import-size n (length rows) rows nodes out ((unsized-exact nodes (length rows)).1 u))
  graph-result OutOfRange (e, f, o) = judged-result e f (judged-outside n (table_rows nodes rows) ((outside-exact n nodes rows f).1 o))
  graph-result Cyclic (e, f, l, loops) =
      judged-result e f (judged-loops n (table_rows nodes rows) ((labels-exact n nodes rows f).1 l) ((loops-exact nodes rows f).1 loops))
  graph-result Unreached (e, f, l, loopless, u) =
      judged-result e f
      (judged-unreached n (table_rows nodes rows) ((labels-exact n nodes rows f).1 l) ((loopless-exact nodes rows f).1 loopless) ((unreachable-exact nodes rows f).1 u))
  graph-result Inappropriate never = absurd never

  -- Where no refusal before 8 applies, import writes the planning table's graph.
  pub import-is : Opens → Importable n nodes rows → result ≡ rewritten_rows out (table_rows nodes rows)
  import-is e ok =
      judged-result e ok.formed
      (judged-accepted n (table_rows nodes rows) ((labels-exact n nodes rows ok.formed).1 ok.labels) ((loopless-exact nodes rows ok.formed).1 ok.loopless)
      ((all-exact nodes rows ok.formed).1 ok.reached))

  -- Where the output has room for it, the record is written.
  pub length-result : Opens → Importable n nodes rows → (form : List (Row Label)) → canonical eqb (table_graph nodes rows) ≡ written form →
      length (encoded form) ≤ length out → result ≡ resulting (Length (length (encoded form))) (filled (encoded form) out)
  unfolding written_out fitted
  length-result e ok form q h =
      import-is e ok ∙ ap (λ (c : Canonical Label). result_of (written_out c out)) q
      ∙ ap (λ (b : Bool). result_of (cond b (yielding (Ok (length (encoded form))) (filled (encoded form) out)) (yielding (Err unwritten.NoRoom) out)))
      (le-leb (length (encoded form)) (length out) h)

  room-result : grounds.for-room → result ≡ refusing NoRoom out
  unfolding written_out fitted
  room-result (e, ok, (form, q, h)) =
      import-is e ok ∙ ap (λ (c : Canonical Label). result_of (written_out c out)) q
      ∙ ap (λ (b : Bool). result_of (cond b (yielding (Ok (length (encoded form))) (filled (encoded form) out)) (yielding (Err unwritten.NoRoom) out)))
      (lt-leb (length (encoded form)) (length out) h)

  -- Whichever reply is given, it is due.
  import-due : Due grounds result.reply
  import-due = go told
    where
      by : {r : Reply} {o : List ℕ} → result ≡ resulting r o → Due grounds r → Due grounds result.reply
      by e d = subst (Due grounds) (sym (ap (λ (x : Result). x.reply) e)) d

      room : Opens → Importable n nodes rows → (form : List (Row Label)) → canonical eqb (table_graph nodes rows) ≡ written form →
          Dec (length (encoded form) ≤ length out) → Due grounds result.reply
      room e ok form q (yes h) = by (length-result e ok form q h) (e, ok, (form, q, (refl, h)))
      room e ok form q (no h) =
          let short : length out < length (encoded form) = omega arith in
          by (room-result (e, ok, (form, q, short))) (e, ok, (form, q, short))

      go : Told → Due grounds result.reply
      go (bad-table fault g) = by (table-result fault g) g
      go (bad-graph fault g) = by (graph-result fault g) g
      go (unknown-row g) = by (unknown-result g) g
      go (row-twice g) = by (twice-result g) g
      go (fits e ok) =
          let (form, q) = rules-fit n (table_rows nodes rows) (importable-rules nodes rows n (few-types n t (table.opened n t) refl e) ok) in
          room e ok form q (dec_le (length (encoded form)) (length out))

  exact : (r : Reply) → (Due grounds r → result.reply ≡ r) → (result.reply ≡ r) ↔ Due grounds r
  exact r back = (λ e. subst (Due grounds) e import-due, back)

  -- 1 to 3 are given exactly where they are due.
  pub table-exact : (fault : TableFault) → (result.reply ≡ Table fault) ↔ (table.opened n t ≡ Err fault)
  table-exact fault = exact (Table fault) (λ g. ap (λ (x : Result). x.reply) (table-result fault g))

  -- 4, 5, 6 and 7 are given exactly where they are due.
  pub graph-exact : (fault : GraphFault) → (result.reply ≡ Graph fault First) ↔ for_graph fault
  graph-exact fault = exact (Graph fault First) (λ g. ap (λ (x : Result). x.reply) (graph-result fault g))

  -- "a type with bit 7 is 5", since an accepted table has at most 64 types.
  pub bit-seven : Opens → Formed nodes rows → (v : ℕ) → v < nodes_in nodes → 128 ≤ get_or nodes (v * 3) 0 → result.reply ≡ Graph OutOfRange First
  bit-seven e f v h high = (graph-exact OutOfRange).1 (e, f, (v, h, inr (inl (omega (arith, few-types n t (table.opened n t) refl e)))))

  -- 14 is given exactly where it is due.
  pub unknown-exact : (result.reply ≡ RowOutOfRange) ↔
      (Opens × Sized nodes (length rows) × ((r : lent.Row) × Memᴰ r rows × UnknownRow (nodes_in nodes) r))
  unknown-exact = exact RowOutOfRange (λ g. ap (λ (x : Result). x.reply) (unknown-result g))

  -- 15 is given exactly where it is due.
  pub row-twice-exact : (result.reply ≡ RowTwice) ↔
      (Opens × Sized nodes (length rows) × ((r : lent.Row) → Memᴰ r rows → KnownRow (nodes_in nodes) r) × Twice rows)
  row-twice-exact = exact RowTwice (λ g. ap (λ (x : Result). x.reply) (twice-result g))

  -- 8 is given exactly where it is due.
  pub room-exact : (result.reply ≡ NoRoom) ↔ (Opens × Importable n nodes rows × RecordLength (λ m. length out < m))
  room-exact = exact NoRoom (λ g. ap (λ (x : Result). x.reply) (room-result g))

  -- A length is given exactly where no refusal is due.
  pub length-exact : (l : ℕ) → (result.reply ≡ Length l) ↔ (Opens × Importable n nodes rows × RecordLength (λ m. (m ≡ l) × (m ≤ length out)))
  length-exact l =
      exact (Length l) (λ (e, ok, (form, q, (is, h))). ap (λ (x : Result). x.reply) (length-result e ok form q h) ∙ ap Length is)

  -- 11 is no reply of import.
  pub never-large : result.reply ≡ TooLarge → ⊥
  never-large e = subst (Due grounds) e import-due

  -- Either import is refused and the output stays as it was, or the graph is written.
  pub refused-or-written : ((r : Reply) × (k : ℕ) × (refusal r ≡ some k) × (result ≡ refusing r out)) ⊎ (Opens × Importable n nodes rows)
  refused-or-written = go told
    where
      go : Told → ((r : Reply) × (k : ℕ) × (refusal r ≡ some k) × (result ≡ refusing r out)) ⊎ (Opens × Importable n nodes rows)
      go (bad-table fault g) = inl (Table fault, table_number fault, refl, table-result fault g)
      go (bad-graph fault g) = inl (Graph fault First, graph_number fault, refl, graph-result fault g)
      go (unknown-row g) = inl (RowOutOfRange, 14, refl, unknown-result g)
      go (row-twice g) = inl (RowTwice, 15, refl, twice-result g)
      go (fits e ok) = inr (e, ok)
