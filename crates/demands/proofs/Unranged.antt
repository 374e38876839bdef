-- Records without ranges (document 02, Paper 7): every call gives what it gives over types alone, and what it writes is without ranges.
use mathlib.Core.Path.{◌≡◌, refl, sym, ◌∙◌, ap, ap₂, subst, fun_ext}
use mathlib.Core.Bool.{Bool, true, cond}
use mathlib.Core.List.{List}
use mathlib.Core.Logic.{◌⊎◌}
use mathlib.Core.Option.{Option, none, some, map, get_or}
use Prim.Native.Nat.{ℕ, ◌<◌}
use native.Mathlib.Omega.{arith}
use lib.Dec.{eqb}
use lib.ListN.{length, length-map, take}
use Rattle.graphs.specs.Graph.{Graph, TellsApart, Reached}
use Rattle.graphs.specs.Rows.{Row, from}
use Rattle.graphs.specs.Number.{Canonical, many_nodes, many_links, written, canonical}
use Rattle.graphs.specs.Order.{subsumes}
use Rattle.graphs.specs.Generalize.{generalization}
use Rattle.graphs.specs.Unify.{Unified, cycle, clash, unified, unification}
use Rattle.graphs.specs.Difference.{by_number, meet_over, difference}
use Rattle.graphs.specs.OfRows.{same_pair, same_either}
use Rattle.graphs.proofs.Lists.{tells-eqb}
use Rattle.graphs.proofs.Difference.ByNumber.{by-number-order}
use Rattle.lattice.specs.Label.{Label, plain, no_label}
use Rattle.acceptance.specs.declared.TableFault.{TableFault}
use Rattle.lattice.specs.Table.{every, found}
use Rattle.acceptance.specs.Reply.{opened, table_number}
use Rattle.lattice.specs.Labels.{type_labels, table_labels, OfAnySize, wanted_label}
use Rattle.lattice.proofs.Relabel.{relabel, relabel_form, relabel_unified}
use Rattle.lattice.proofs.AnySize.{unification-combination}
use Rattle.lattice.proofs.Plain.{
  rows-plain,
  canonical-plain,
  subsumes-plain,
  generalization-plain,
  unification-plain,
  meet_over-plain,
  wanted-plain,
  difference-plain,
}
use Rattle.encoder.specs.Encode.{encoded}
use Rattle.encode.specs.Encode.{written_out}
use Rattle.record.specs.declared.GraphFault.{GraphFault}
use Rattle.record.specs.Read.{Reading, refused, accepted, graph_number, graph_of_rows, reading}
use Rattle.record.specs.Unranged.{unranged, plain_rows, reading_types}
use Rattle.record.proofs.Accepted.{Rules, accepted-rules}
use Rattle.record.proofs.Rewritten.{written-injective}
use Rattle.record.proofs.Theorems.{accepted-of-any-size, accepted-nodes, accepted-types}
use Rattle.record.proofs.Unranged.{reading-unranged, reading-plain, written-unranged}
use Rattle.generalize.proofs.Sides.{tells-pair}
use Rattle.difference.specs.Promise.{wanted_along, all_wanted_along, difference_along}
use Rattle.replies.specs.declared.Side.{Side}
use Rattle.replies.specs.Replies.{Reply}
use Rattle.replies.specs.Replies.{Table, Graph as Refusal, Cycle, Clash, NotBelow, NoWantedType}
use Rattle.replies.specs.Reply.{refusal, result_of, refusing}
use Rattle.subsume.specs.Promise.{rows_below}
use Rattle.calls.specs.Calls.{checked, rewriting, ordering, generalizing, unifying, differing}
use Rattle.pairs.specs.Pair.{read_both}
use Rattle.engine.specs.Rewriting.{rewritten}
use Rattle.orders.specs.Ordering.{compared, ordered}
use Rattle.engine.specs.Generalizing.{generalized}
use Rattle.engine.specs.Unifying.{combined_by, combined, unified_rows}
use Rattle.difference.specs.Difference.{over, wanted_at, all_wanted, difference_rows, differed, numbered, differed_rows}
use Rattle.demands.specs.Demand.{Given, common, remainder}
use Rattle.demands.specs.Unranged.{
  types_in,
  graph_of_types,
  plain_form,
  types_result,
  rewritten_types,
  rewriting_types,
  types_below,
  ordered_types,
  ordering_types,
  generalized_types,
  generalizing_types,
  unified_types,
  unifying_types,
  wanted_type_at,
  difference_types,
  differed_types,
  differing_types,
  WritesUnranged,
}
use Rattle.demands.proofs.Results.{Wrote, result_for, result-writes, seven-bits}
use Rattle.demands.proofs.Demanded.CommonPart.{accepts, common-part-exists}
use Rattle.demands.proofs.Demanded.Combination.{tells-either}
use Rattle.demands.proofs.Demanded.Difference.{not-wanted, not-below, differs, difference-told, remainder-result, remainder-restores}
use Rattle.demands.proofs.Demanded.Difference as Differed
use Rattle.demands.proofs.Demanded.Output.{of_one, of_two}

-- Written forms.

form-plain : {A : Type 0} (same : A → A → Bool) (g : Graph ℕ A) → canonical same (relabel plain g) ≡ plain_form (canonical same g)
form-plain same g = canonical-plain same g ∙ go (canonical same g)
  where
    go : (c : Canonical ℕ) → relabel_form plain c ≡ plain_form c
    go many_nodes = refl
    go many_links = refl
    go (written rows) = refl

-- a graph without ranges is written as over types alone
result-plain : {A : Type 0} (same : A → A → Bool) (g : Graph ℕ A) (out : List ℕ) →
    result_for same (relabel plain g) out ≡ types_result (canonical same g) out
result-plain same g out = ap (λ (c : Canonical Label). result_of (written_out c out)) (form-plain same g)

-- What a call does with rows without ranges is what it does with their types.

length-plain : (rows : List (Row ℕ)) → length (plain_rows rows) ≡ length rows
length-plain rows = length-map rows (λ r. (plain r.0, r.1))

rewritten-plain : (out : List ℕ) (rows : List (Row ℕ)) →
    result_for eqb (graph_of_rows (plain_rows rows)) out ≡ types_result (canonical eqb (graph_of_types rows)) out
rewritten-plain out rows = ap (λ (g : Graph Label ℕ). result_for eqb g out) (rows-plain rows) ∙ result-plain eqb (graph_of_types rows) out

-- rows of types, numbered as written
abbrev form : List (Row ℕ) → List (Row ℕ)
form s = numbered (canonical eqb (graph_of_types s))

numbered-plain : (s : List (Row ℕ)) → numbered (canonical eqb (graph_of_rows (plain_rows s))) ≡ plain_rows (form s)
numbered-plain s =
    ap (λ (g : Graph Label ℕ). numbered (canonical eqb g)) (rows-plain s) ∙
    ap numbered (form-plain eqb (graph_of_types s)) ∙
    go (canonical eqb (graph_of_types s))
  where
    go : (c : Canonical ℕ) → numbered (plain_form c) ≡ plain_rows (numbered c)
    go many_nodes = refl
    go many_links = refl
    go (written rows) = refl

module _ (n : ℕ) (t : List ℕ) where
  below_plain : (s g : List (Row ℕ)) → rows_below n t (plain_rows s) (plain_rows g) ≡ types_below n t s g
  below_plain s g =
      (λ i. subsumes (table_labels n t) eqb eqb (rows-plain s i) (rows-plain g i) (length-plain g i)) ∙
      subsumes-plain (type_labels n t) (graph_of_types s) (graph_of_types g) eqb eqb (length g)

  ordered-plain : (s g : List (Row ℕ)) → ordered n t (plain_rows s) (plain_rows g) ≡ ordered_types n t s g
  unfolding ordered
  ordered-plain s g = ap₂ compared (below_plain s g) (below_plain g s)

  common-plain : (g h : List (Row ℕ)) →
      common n t (plain_rows g) (plain_rows h) ≡ relabel plain (generalization (type_labels n t) (graph_of_types g) (graph_of_types h))
  common-plain g h =
      ap₂ (generalization (table_labels n t)) (rows-plain g) (rows-plain h) ∙ generalization-plain (type_labels n t) (graph_of_types g) (graph_of_types h)

  generalized-plain : (out : List ℕ) (g h : List (Row ℕ)) → generalized n t out (plain_rows g) (plain_rows h) ≡ generalized_types n t out g h
  unfolding generalized
  generalized-plain out g h =
      ap (λ (k : Graph Label (ℕ × ℕ)). result_for same_pair k out) (common-plain g h) ∙
      result-plain same_pair (generalization (type_labels n t) (graph_of_types g) (graph_of_types h)) out

  abbrev joint_types : List (Row ℕ) → List (Row ℕ) → Unified ℕ (ℕ ⊎ ℕ)
  joint_types g h = unification (type_labels n t) eqb eqb (graph_of_types g) (from 0 (length g)) (graph_of_types h) (from 0 (length h))

  abbrev joint_rows : List (Row Label) → List (Row Label) → Unified Label (ℕ ⊎ ℕ)
  joint_rows g h = unification (table_labels n t) eqb eqb (graph_of_rows g) (from 0 (length g)) (graph_of_rows h) (from 0 (length h))

  joint-plain : (g h : List (Row ℕ)) → joint_rows (plain_rows g) (plain_rows h) ≡ relabel_unified plain (joint_types g h)
  joint-plain g h =
      (λ i.
      unification (table_labels n t) eqb eqb (rows-plain g i) (from 0 (length-plain g i)) (rows-plain h i) (from 0 (length-plain h i))) ∙
      unification-plain (type_labels n t) (graph_of_types g) (graph_of_types h) eqb eqb (from 0 (length g)) (from 0 (length h))

  unified-plain : (out : List ℕ) (g h : List (Row ℕ)) → unified_rows n t out (plain_rows g) (plain_rows h) ≡ unified_types n t out g h
  unfolding unified_rows
  unified-plain out g h = ap (λ (o : Unified Label (ℕ ⊎ ℕ)). combined o out) (joint-plain g h) ∙ go (joint_types g h)
    where
      go : (o : Unified ℕ (ℕ ⊎ ℕ)) → combined (relabel_unified plain o) out ≡ combined_by (λ u old. types_result (canonical same_either u) old) o out
      go cycle = refl
      go clash = refl
      go (unified u) = result-plain same_either u out

  -- g is the rows of the general record, s those of the specific one.
  module _ (g s : List (Row ℕ)) where
    abbrev along : ℕ → ℕ
    along = over (plain_rows s) (plain_rows g)

    abbrev met_types : ℕ → ℕ
    met_types = meet_over (type_labels n t) eqb (graph_of_types g) (from 0 (length g)) along

    met-plain : (v : ℕ) →
        meet_over (table_labels n t) eqb (graph_of_rows (plain_rows g)) (from 0 (length (plain_rows g))) along v ≡ plain (met_types v)
    met-plain v =
        (λ i. meet_over (table_labels n t) eqb (rows-plain g i) (from 0 (length-plain g i)) along v) ∙
        meet_over-plain (type_labels n t) (graph_of_types s) (graph_of_types g) eqb eqb (from 0 (length s)) (from 0 (length g)) along v

    wanted-types : (v : ℕ) → wanted_at n t (plain_rows s) (plain_rows g) v ≡ map plain (wanted_type_at n t s g v)
    unfolding wanted_along
    wanted-types v =
        ap₂ (wanted_label n t) (ap (λ (k : Graph Label ℕ). k.label v) (rows-plain s)) (met-plain v) ∙
        wanted-plain n t ((graph_of_types s).label v) (met_types v)

    all-wanted-types : all_wanted n t (plain_rows s) (plain_rows g) ≡ every (length s) λ v. found (wanted_type_at n t s g v)
    unfolding all_wanted_along
    all-wanted-types =
        ap₂ every (length-plain s) (fun_ext λ (v : ℕ). ap found (wanted-types v) ∙ go (wanted_type_at n t s g v))
      where
        go : (o : Option ℕ) → found (map plain o) ≡ found o
        go none = refl
        go (some a) = refl

    difference-types : difference_rows by_number n t (plain_rows g) (plain_rows s) ≡ relabel plain (difference_types n t g s)
    unfolding difference_along
    difference-types =
        (λ i.
        difference (table_labels n t) eqb eqb by_number (rows-plain s i) (from 0 (length-plain s i)) (rows-plain g i) (from 0 (length-plain g i))
        along (fun_ext wants i)) ∙
        difference-plain (type_labels n t) (graph_of_types s) (graph_of_types g) eqb eqb (from 0 (length s)) (from 0 (length g)) along by_number
        (λ v. get_or (wanted_type_at n t s g v) 0)
      where
        go : (o : Option ℕ) → get_or (map plain o) no_label ≡ plain (get_or o 0)
        go none = refl
        go (some a) = refl

        wants : (v : ℕ) → get_or (wanted_at n t (plain_rows s) (plain_rows g) v) no_label ≡ plain (get_or (wanted_type_at n t s g v) 0)
        wants v = ap (λ (o : Option Label). get_or o no_label) (wanted-types v) ∙ go (wanted_type_at n t s g v)

    differed-types : (out : List ℕ) → differed by_number n t out (plain_rows g) (plain_rows s) ≡ differed_types n t out g s
    unfolding differed
    differed-types out =
        λ i.
        cond (below_plain s g i)
        (cond (all-wanted-types i) ((ap (λ (k : Graph Label ℕ). result_for eqb k out) difference-types ∙ result-plain eqb (difference_types n t g s) out) i)
        (refusing NoWantedType out))
        (refusing NotBelow out)

  differed-plain : (out : List ℕ) (g s : List (Row ℕ)) → differed_rows by_number n t out (plain_rows g) (plain_rows s) ≡ differed_types n t out g (form s)
  unfolding differed_rows
  differed-plain out g s = ap (differed by_number n t out (plain_rows g)) (numbered-plain s) ∙ differed-types g (form s) out

-- The calls.

module _ (n : ℕ) (t : List ℕ) where
  module _ (a : List ℕ) (first : unranged a ≡ true) where
    pub rewriting-unranged : (out : List ℕ) → rewriting n t a out ≡ rewriting_types n t a out
    unfolding rewriting rewriting_types
    rewriting-unranged out =
        ap (λ (o : Reading). checked (λ r. refusing r out) (opened n t) (rewritten o out)) (reading-unranged n a first) ∙
        ap (checked (λ r. refusing r out) (opened n t)) (go (reading_types n a) refl)
      where
        go : (o : Reading) → reading_types n a ≡ o → rewritten o out ≡ rewritten_types o out
        go (refused fault) e = refl
        go (accepted rows) e =
            ap (λ (rs : List (Row Label)). result_for eqb (graph_of_rows rs) out) (reading-plain n a rows e) ∙ rewritten-plain out (types_in rows)

  module _ (a b : List ℕ) (first : unranged a ≡ true) (second : unranged b ≡ true) where
    -- If a call does the same with rows without ranges and with their types, it gives the result of the call over types alone.
    as-types : {X : Type 0} (refuse : Reply → X) (next : List (Row Label) → List (Row Label) → X) (typed : List (Row ℕ) → List (Row ℕ) → X) →
        ((g h : List (Row ℕ)) → next (plain_rows g) (plain_rows h) ≡ typed g h) →
        checked refuse (opened n t) (read_both refuse (reading n a) (reading n b) next) ≡
        checked refuse (opened n t) (read_both refuse (reading_types n a) (reading_types n b) λ g h. typed (types_in g) (types_in h))
    as-types {X} refuse next typed same =
        ap₂ (λ (o i : Reading). checked refuse (opened n t) (read_both refuse o i next)) (reading-unranged n a first) (reading-unranged n b second) ∙
        ap (checked refuse (opened n t)) (go (reading_types n a) (reading_types n b) refl refl)
      where
        go : (o i : Reading) → reading_types n a ≡ o → reading_types n b ≡ i →
            read_both refuse o i next ≡ read_both refuse o i λ g h. typed (types_in g) (types_in h)
        go (refused fault) i d e = refl
        go (accepted g) (refused fault) d e = refl
        go (accepted g) (accepted h) d e = ap₂ next (reading-plain n a g d) (reading-plain n b h e) ∙ same (types_in g) (types_in h)

    pub ordering-unranged : ordering n t a b ≡ ordering_types n t a b
    unfolding ordering ordering_types
    ordering-unranged = as-types (λ r. r) (ordered n t) (ordered_types n t) (ordered-plain n t)

    module _ (out : List ℕ) where
      pub generalizing-unranged : generalizing n t a b out ≡ generalizing_types n t a b out
      unfolding generalizing generalizing_types
      generalizing-unranged = as-types (λ r. refusing r out) (generalized n t out) (generalized_types n t out) (generalized-plain n t out)

      pub unifying-unranged : unifying n t a b out ≡ unifying_types n t a b out
      unfolding unifying unifying_types
      unifying-unranged = as-types (λ r. refusing r out) (unified_rows n t out) (unified_types n t out) (unified-plain n t out)

      pub differing-unranged : differing n t a b out ≡ differing_types n t a b out
      unfolding differing differing_types
      differing-unranged =
          as-types (λ r. refusing r out) (differed_rows by_number n t out) (λ g s. differed_types n t out g (form s)) (differed-plain n t out)

-- What is written.

-- the rows of a record without ranges are those of its types
read_plain : (n : ℕ) (a : List ℕ) → unranged a ≡ true → (rows : List (Row Label)) → reading n a ≡ accepted rows → rows ≡ plain_rows (types_in rows)
read_plain n a plain-a rows e = reading-plain n a rows (sym (reading-unranged n a plain-a) ∙ e)

module _ (n : ℕ) (t out : List ℕ) where
  -- a graph without ranges is written without ranges
  plain-written : {C : Type 0} (same : C → C → Bool) → TellsApart same → (k : Graph Label C) → OfAnySize n t k →
      ((v : C) → Reached k v → (k.label v).type < 128) → (u : Graph ℕ C) → k ≡ relabel plain u → WritesUnranged (result_for same k out)
  plain-written same tells k size types u is l q = go (canonical same u) (sym wrote.fits ∙ ap (canonical same) is ∙ form-plain same u)
    where
      wrote : Wrote n t same k out l (result_for same k out).output
      wrote = (result-writes n t same tells k size types out).wrote l q

      go : (c : Canonical ℕ) → written wrote.form ≡ plain_form c → unranged (take l (result_for same k out).output) ≡ true
      go many_nodes e = let z : ◌≡◌ {A = ℕ} 0 1 = cc in absurd (omega arith)
      go many_links e = let z : ◌≡◌ {A = ℕ} 0 1 = cc in absurd (omega arith)
      go (written rows) e =
          let form-is : wrote.form ≡ plain_rows rows = written-injective e in
          let rules : Rules n (plain_rows rows) =
          subst (Rules n) form-is (accepted-rules n (take l (result_for same k out).output) wrote.form wrote.reads) in
          ap unranged (wrote.bytes ∙ ap encoded form-is) ∙ written-unranged rows rules.links rules.types rules.ordered

  refused-unranged : (r : Reply) (k : ℕ) → refusal r ≡ some k → WritesUnranged (refusing r out)
  refused-unranged r k e l q = let z : ◌≡◌ {A = ℕ} 0 1 = cc (e, ap refusal q) in absurd (omega arith)

  refused-table : (fault : TableFault) → WritesUnranged (refusing (Table fault) out)
  refused-table fault = refused-unranged (Table fault) (table_number fault) refl

  refused-graph : (fault : GraphFault) (side : Side) → WritesUnranged (refusing (Refusal fault side) out)
  refused-graph fault side = refused-unranged (Refusal fault side) (graph_number fault) refl

  pub rewritten-unranged : (a : List ℕ) → unranged a ≡ true → WritesUnranged (rewriting n t a out)
  rewritten-unranged a plain-a =
      of_one n out t WritesUnranged refused-table refused-graph a
      (λ rows e.
      plain-written eqb tells-eqb (graph_of_rows rows) (accepted-of-any-size n a rows e t) (accepted-types n a rows e) (graph_of_types (types_in rows))
      (ap graph_of_rows (read_plain n a plain-a rows e) ∙ rows-plain (types_in rows)))

  module _ (a b : List ℕ) (first : unranged a ≡ true) (second : unranged b ≡ true) where
    -- Over an accepted table the types of the graph have seven bits, so `plain-written` applies.
    graph-written : {g h : List (Row Label)} → Given n t a b g h → {C : Type 0} (same : C → C → Bool) → TellsApart same → (k : Graph Label C) →
        OfAnySize n t k → (u : Graph ℕ C) → k ≡ relabel plain u → WritesUnranged (result_for same k out)
    graph-written {g} {h} given same tells k size = plain-written same tells k size (seven-bits n t (accepts n t a b g h given) k size)

    pub generalized-unranged : WritesUnranged (generalizing n t a b out)
    unfolding generalizing generalized
    generalized-unranged =
        of_two n out t WritesUnranged refused-table refused-graph a b (generalized n t out)
        (λ g h given.
        graph-written given same_pair tells-pair (common n t g h) (common-part-exists n t a b g h given).of-any-size
        (generalization (type_labels n t) (graph_of_types (types_in g)) (graph_of_types (types_in h)))
        (ap₂ (common n t) (read_plain n a first g given.first) (read_plain n b second h given.second) ∙
        common-plain n t (types_in g) (types_in h)))

    -- What unification gives is a graph of any size over the table.
    joint-size : {g h : List (Row Label)} → Given n t a b g h → (u : Graph Label (ℕ ⊎ ℕ)) → joint_rows n t g h ≡ unified u → OfAnySize n t u
    joint-size {g} {h} given u e =
        (unification-combination n t (accepts n t a b g h given) eqb eqb tells-eqb tells-eqb (graph_of_rows g) (graph_of_rows h)
        (accepted-of-any-size n a g given.first t) (accepted-of-any-size n b h given.second t) u
        (ap₂ (λ (gs hs : List ℕ). unification (table_labels n t) eqb eqb (graph_of_rows g) gs (graph_of_rows h) hs)
        (accepted-nodes n a g given.first t) (accepted-nodes n b h given.second t) ∙ e)).0

    pub unified-unranged : WritesUnranged (unifying n t a b out)
    unfolding unifying unified_rows
    unified-unranged =
        of_two n out t WritesUnranged refused-table refused-graph a b (unified_rows n t out)
        (λ g h given.
        let joint : joint_rows n t g h ≡ relabel_unified plain (joint_types n t (types_in g) (types_in h)) =
        ap₂ (joint_rows n t) (read_plain n a first g given.first) (read_plain n b second h given.second) ∙
        joint-plain n t (types_in g) (types_in h) in
        subst (λ (o : Unified Label (ℕ ⊎ ℕ)). WritesUnranged (combined o out)) (sym joint) (go given (joint_types n t (types_in g) (types_in h)) joint))
      where
        go : {g h : List (Row Label)} → Given n t a b g h → (o : Unified ℕ (ℕ ⊎ ℕ)) → joint_rows n t g h ≡ relabel_unified plain o →
            WritesUnranged (combined (relabel_unified plain o) out)
        go given cycle e = refused-unranged Cycle 9 refl
        go given clash e = refused-unranged Clash 10 refl
        go given (unified u) e = graph-written given same_either tells-either (relabel plain u) (joint-size given (relabel plain u) e) u refl

    differed-plain-rows : (g s : List (Row Label)) → Given n t a b g s → WritesUnranged (differed_rows by_number n t out g s)
    differed-plain-rows g s given = go (difference-told n t a b g s given by-number-order parts)
      where
        parts : Differed.Parts by_number n t out g s (differed_rows by_number n t out g s)
        parts = record { is = refl }

        remainder-plain : remainder by_number n t g s ≡ relabel plain (difference_types n t (types_in g) (form (types_in s)))
        remainder-plain =
            ap₂ (remainder by_number n t) (read_plain n a first g given.first) (read_plain n b second s given.second) ∙
            ap (difference_rows by_number n t (plain_rows (types_in g))) (numbered-plain (types_in s)) ∙
            difference-types n t (types_in g) (form (types_in s))

        go : Differed.Told n t a b g s given by-number-order parts → WritesUnranged (differed_rows by_number n t out g s)
        go (not-wanted _ _ e) = subst WritesUnranged (sym e) (refused-unranged NoWantedType 13 refl)
        go (not-below e) = subst WritesUnranged (sym e) (refused-unranged NotBelow 12 refl)
        go (differs below wants) =
            subst WritesUnranged (sym (remainder-result n t a b g s given by-number-order parts below wants))
            (graph-written given eqb tells-eqb (remainder by_number n t g s) (remainder-restores n t a b g s given by-number-order below wants).of-any-size
            (difference_types n t (types_in g) (form (types_in s))) remainder-plain)

    pub differed-unranged : WritesUnranged (differing n t a b out)
    unfolding differing
    differed-unranged = of_two n out t WritesUnranged refused-table refused-graph a b (differed_rows by_number n t out) differed-plain-rows

-- Records that are read alike.

module _ (n : ℕ) (t a a' b b' : List ℕ) (first : reading n a ≡ reading n a') (second : reading n b ≡ reading n b') where
  alike : {X : Type 0} (refuse : Reply → X) (next : List (Row Label) → List (Row Label) → X) →
      checked refuse (opened n t) (read_both refuse (reading n a) (reading n b) next) ≡
      checked refuse (opened n t) (read_both refuse (reading n a') (reading n b') next)
  alike refuse next = ap₂ (λ (o i : Reading). checked refuse (opened n t) (read_both refuse o i next)) first second

  pub ordering-alike : ordering n t a b ≡ ordering n t a' b'
  unfolding ordering
  ordering-alike = alike (λ r. r) (ordered n t)

  module _ (out : List ℕ) where
    pub generalizing-alike : generalizing n t a b out ≡ generalizing n t a' b' out
    unfolding generalizing
    generalizing-alike = alike (λ r. refusing r out) (generalized n t out)

    pub unifying-alike : unifying n t a b out ≡ unifying n t a' b' out
    unfolding unifying
    unifying-alike = alike (λ r. refusing r out) (unified_rows n t out)

    pub differing-alike : differing n t a b out ≡ differing n t a' b' out
    unfolding differing
    differing-alike = alike (λ r. refusing r out) (differed_rows by_number n t out)

pub rewriting-alike : (n : ℕ) (t a a' : List ℕ) → reading n a ≡ reading n a' → (out : List ℕ) → rewriting n t a out ≡ rewriting n t a' out
unfolding rewriting
rewriting-alike n t a a' same out = ap (λ (o : Reading). checked (λ r. refusing r out) (opened n t) (rewritten o out)) same
