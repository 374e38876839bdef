-- What is gathered is the least graph of any size above all accepted additions.
use mathlib.Core.Path.{◌≡◌, refl, sym, ◌∙◌, ap, subst}
use mathlib.Core.Bool.{true}
use mathlib.Core.List.Memᴰ
use mathlib.Core.List.{List, [], ◌∷◌, ◌++◌, Memᴰ}
use mathlib.Core.Logic.{◌↔◌, ◌⊎◌, inl, inr, ⊎_elim}
use mathlib.Core.Option.{Option, none, some}
use Prim.Native.Nat.{ℕ}
use lib.ListN.{length, take, drop, take-append-drop}
use Rattle.graphs.specs.Graph.{Graph, Below, SameMeaning}
use Rattle.graphs.specs.Rows.{Row}
use Rattle.graphs.proofs.Below.{same_refl}
use Rattle.lattice.specs.Label.{Label}
use Rattle.lattice.specs.Table as table
use Rattle.std.specs.Prelude.{Ok}
use Rattle.acceptance.specs.Reply.{opened}
use Rattle.lattice.specs.Labels.{table_labels, OfAnySize}
use Rattle.lattice.proofs.AnySize.{below-transitive, below_both}
use Rattle.acceptance.proofs.Acceptance.{opened-accepted}
use Rattle.record.specs.Read.{Reading, refused, accepted, reading, graph_of_rows}
use Rattle.record.proofs.Theorems.{accepted-of-any-size}
use Rattle.record.proofs.Accepted.{accepted-injective}
use Rattle.replies.specs.Reply.{Result, length_of}
use Rattle.demands.specs.Demand.{WrittenRecord, CommonPart, Rewritten}
use Rattle.demands.proofs.Demands.{common-part, rewriting-means, written-one-form}
use Rattle.gathering.specs.Gathering.{two_bytes, state_of, joining, settled_by, adding}
use Rattle.gathering.proofs.Told.{none-some, length-told}
use Rattle.gathered.specs.Calls.{Call, add, order, finish, kept_where, additions, blank, taken_by, taken, instead, folded}
use Rattle.gathered.specs.Theorem.{bytes_of, Holds, AllBelow, LeastAbove}
use Rattle.gathered.proofs.Mixture.{adding-kept}
use Rattle.gathered.proofs.Records.{rewriting-refused, generalizing-refused, joining-leaves, joining-room}
use Rattle.gathered.proofs.Holding.{head-are, adding-is, adding-holds, adding-answer}

module _ (n : ℕ) (t : List ℕ) (opens : opened n t ≡ Ok tt) where
  ok : table.accepted n t ≡ true
  ok = opened-accepted n t (opened n t) refl opens

  sized : (p : List ℕ) (rows : List (Row Label)) → reading n p ≡ accepted rows → OfAnySize n t (graph_of_rows rows)
  sized p rows e = accepted-of-any-size n p rows e t

  all_cons : {D : Type 0} (m : Graph Label D) (p : List ℕ) (rows : List (Row Label)) (ps : List (List ℕ)) → reading n p ≡ accepted rows →
      Below (table_labels n t) (graph_of_rows rows) m → AllBelow n t ps m → AllBelow n t (p ∷ ps) m
  all_cons m p rows ps e b more x mem others d =
      ⊎_elim
      (λ same.
      let rows_same : rows ≡ others = accepted-injective (sym e ∙ ap (reading n) (sym same) ∙ d) in
      subst (λ (r : List (Row Label)). Below (table_labels n t) (graph_of_rows r) m) rows_same b)
      (λ inside. more x inside others d) (Memᴰ.cases_cons mem)

  abbrev AllRead : List (List ℕ) → Type 0
  AllRead ps = (p : List ℕ) → Memᴰ p ps → (rows : List (Row Label)) × (reading n p ≡ accepted rows)

  read-cons : (p : List ℕ) (rows : List (Row Label)) (ps : List (List ℕ)) → reading n p ≡ accepted rows → AllRead ps → AllRead (p ∷ ps)
  read-cons p rows ps e more x mem =
      ⊎_elim (λ same. (rows, ap (reading n) same ∙ e)) (λ inside. more x inside) (Memᴰ.cases_cons mem)

  all_tail : {D : Type 0} (m : Graph Label D) (p : List ℕ) (ps : List (List ℕ)) → AllBelow n t (p ∷ ps) m → AllBelow n t ps m
  all_tail m p ps all x mem = all x (Memᴰ.tail mem)

  all_head : {D : Type 0} (m : Graph Label D) (p : List ℕ) (ps : List (List ℕ)) (rows : List (Row Label)) → AllBelow n t (p ∷ ps) m →
      reading n p ≡ accepted rows → Below (table_labels n t) (graph_of_rows rows) m
  all_head m p ps rows all e = all p (Memᴰ.head refl) rows e

  -- A record is the least above itself alone.
  least-itself : (p : List ℕ) (rows : List (Row Label)) → reading n p ≡ accepted rows → LeastAbove n t (p ∷ []) p
  least-itself p rows e =
      let itself : Below (table_labels n t) (graph_of_rows rows) (graph_of_rows rows) =
      ((below_both n t ok (graph_of_rows rows) (graph_of_rows rows) (sized p rows e) (sized p rows e)).0 (same_refl (graph_of_rows rows))).0 in
      record {
        all-accepted = read-cons p rows [] e (λ x mem. absurd (Memᴰ.not-nil mem));
        form = rows;
        reads = e;
        of-any-size = sized p rows e;
        above = all_cons (graph_of_rows rows) p rows [] e itself (λ x mem. absurd (Memᴰ.not-nil mem));
        least = λ m size all. all_head m p [] rows all e;
      }

  -- What is least above the common part of two records, and above others, is least above both records and the others.
  least-common : (b part c q : List ℕ) (rows form : List (Row Label)) (more : List (List ℕ)) → reading n b ≡ accepted rows → reading n part ≡ accepted form →
      CommonPart n t b part rows form c → LeastAbove n t (c ∷ more) q → LeastAbove n t (part ∷ b ∷ more) q
  least-common b part c q rows form more e d common best =
      let whole : Graph Label ℕ = graph_of_rows best.form in
      let over : Below (table_labels n t) (graph_of_rows common.form) whole = all_head whole c more common.form best.above common.reads in
      record {
        all-accepted = read-cons part form (b ∷ more) d (read-cons b rows more e (λ x mem. best.all-accepted x (Memᴰ.tail mem)));
        form = best.form;
        reads = best.reads;
        of-any-size = best.of-any-size;
        above =
            all_cons whole part form (b ∷ more) d
            (below-transitive n t ok (graph_of_rows form) (graph_of_rows common.form) whole (sized part form d) common.least.of-any-size
            best.of-any-size common.least.right over)
            (all_cons whole b rows more e
            (below-transitive n t ok (graph_of_rows rows) (graph_of_rows common.form) whole (sized b rows e) common.least.of-any-size
            best.of-any-size common.least.left over)
            (all_tail whole c more best.above));
        least = λ m size all.
            best.least m size
            (all_cons m c common.form more common.reads
            (common.least.least m size (all_head m b more rows (all_tail m part (b ∷ more) all) e) (all_head m part (b ∷ more) form all d))
            (all_tail m b more (all_tail m part (b ∷ more) all)));
      }

  -- What is least above the written record of a program, and above others, is least above the program and the others.
  least-rewritten : (b c q : List ℕ) (rows : List (Row Label)) (more : List (List ℕ)) → reading n b ≡ accepted rows → Rewritten n t b rows c →
      LeastAbove n t (c ∷ more) q → LeastAbove n t (b ∷ more) q
  least-rewritten b c q rows more e again best =
      let whole : Graph Label ℕ = graph_of_rows best.form in
      let form : List (Row Label) = again.is-record.is-written.form in
      let d : reading n c ≡ accepted form = again.is-record.is-written.reads in
      let (there, back) = (below_both n t ok (graph_of_rows rows) (graph_of_rows form) (sized b rows e) (sized c form d)).0 again.is-record.means in
      record {
        all-accepted = read-cons b rows more e (λ x mem. best.all-accepted x (Memᴰ.tail mem));
        form = best.form;
        reads = best.reads;
        of-any-size = best.of-any-size;
        above =
            all_cons whole b rows more e
            (below-transitive n t ok (graph_of_rows rows) (graph_of_rows form) whole (sized b rows e) (sized c form d) best.of-any-size there
            (all_head whole c more form best.above d))
            (all_tail whole c more best.above);
        least = λ m size all.
            best.least m size
            (all_cons m c form more d
            (below-transitive n t ok (graph_of_rows form) (graph_of_rows rows) m (sized c form d) (sized b rows e) size back (all_head m b more rows all e))
            (all_tail m b more all));
      }

  -- Facts on an addition that is answered by a length.
  module _ (state : List ℕ) (o : Option (List ℕ)) (holds : Holds n t state o) (bytes : List ℕ) (l : ℕ)
      (e : length_of (adding state bytes).reply ≡ some l) where
    abbrev joined : Result
    joined = joining n t o bytes (bytes_of o ++ holds.rest)

    told : length_of joined.reply ≡ some l
    told = sym (ap length_of (adding-answer n t state o holds bytes)) ∙ e

    is-taken : taken (joining n t o bytes blank) ≡ some (take l joined.output)
    is-taken =
        sym (joining-room n t opens o holds.written bytes (bytes_of o ++ holds.rest) holds.room) ∙ ap (λ (m : Option ℕ). taken_by m joined) told

    next : Holds n t (adding state bytes).output (some (take l joined.output))
    next = subst (λ (x : Option (List ℕ)). Holds n t (adding state bytes).output (instead o x)) is-taken (adding-holds n t state o holds bytes)

    -- The addition writes its record over the first bytes of the room, and the other bytes stay.
    pub addition-state : (c : List ℕ) × (taken (joining n t o bytes blank) ≡ some c) ×
        ((adding state bytes).output ≡ state_of n t c (drop (length c) (bytes_of o ++ holds.rest)))
    unfolding state_of
    addition-state =
        let c : List ℕ = take l joined.output in
        let leaves = joining-leaves n t opens o bytes (bytes_of o ++ holds.rest) in
        let is-length = length-told joined.reply l told in
        let long : length c ≡ l = leaves.length-is l is-length in
        let output-is : joined.output ≡ c ++ drop l (bytes_of o ++ holds.rest) =
        sym (take-append-drop l joined.output) ∙ ap (λ (x : List ℕ). c ++ x) (leaves.others l is-length) in
        let written_is : (adding state bytes).output ≡ (n ∷ t) ++ (two_bytes l ++ joined.output) =
        ap (λ (y : Result). y.output) (adding-is n t state o holds bytes) ∙ ap (λ (m : Option ℕ). (settled_by state m joined).output) told ∙
        ap (λ (x : List ℕ). x ++ (two_bytes l ++ joined.output)) (head-are n t state o holds) in (
          c,
          is-taken,
          written_is ∙ ap (λ (x : List ℕ). (n ∷ t) ++ (two_bytes l ++ x)) output-is ∙
              ap (λ (k : ℕ). n ∷ (t ++ (two_bytes k ++ (c ++ drop k (bytes_of o ++ holds.rest))))) (sym long),
        )

    program : (rows : List (Row Label)) × (reading n bytes ≡ accepted rows)
    program = go (reading n bytes) refl o told
      where
        go : (r : Reading) → reading n bytes ≡ r → (p : Option (List ℕ)) → length_of (joining n t p bytes (bytes_of o ++ holds.rest)).reply ≡ some l →
            (rows : List (Row Label)) × (r ≡ accepted rows)
        go (accepted rows) d p h = (rows, refl)
        go (refused fault) d none h =
            none-some (sym (ap (λ (x : Result). length_of x.reply) (rewriting-refused n t opens bytes fault d (bytes_of o ++ holds.rest))) ∙ h)
        go (refused fault) d (some part) h =
            none-some (sym (ap (λ (x : Result). length_of x.reply) (generalizing-refused n t opens bytes part fault d (bytes_of o ++ holds.rest))) ∙ h)

  abbrev Gathered : Option (List ℕ) → List (List ℕ) → List (List ℕ) → Type 1
  Gathered o ps all = (q : List ℕ) × (folded n t o ps ≡ some q) × LeastAbove n t all q

  pub least-from : (cs : List Call) (state part : List ℕ) → Holds n t state (some part) →
      Gathered (some part) (additions state cs) (part ∷ additions state cs)
  unfolding additions folded
  least-from [] state part holds =
      (part, refl, least-itself part (holds.written part refl).form (holds.written part refl).reads)
  least-from (add bytes ∷ cs) state part holds =
      go (length_of (adding state bytes).reply) refl (least-from cs (adding state bytes).output)
    where
      go : (l : Option ℕ) → length_of (adding state bytes).reply ≡ l →
          ((c : List ℕ) → Holds n t (adding state bytes).output (some c) →
          Gathered (some c) (additions (adding state bytes).output cs) (c ∷ additions (adding state bytes).output cs)) →
          Gathered (some part) (kept_where l bytes (additions (adding state bytes).output cs))
          (part ∷ kept_where l bytes (additions (adding state bytes).output cs))
      go none e more = more part (subst (λ (s : List ℕ). Holds n t s (some part)) (sym (adding-kept state bytes e)) holds)
      go (some l) e more =
          let one : WrittenRecord n part = holds.written part refl in
          let (rows, reads) = program state (some part) holds bytes l e in
          let c : List ℕ = take l (joined state (some part) holds bytes l e).output in
          let (q, found, best) = more c (next state (some part) holds bytes l e) in
          let common : CommonPart n t bytes part rows one.form c =
          common-part n t bytes part rows one.form (record { opens = opens; first = reads; second = one.reads }) (part ++ holds.rest) l
          (length-told (joined state (some part) holds bytes l e).reply l (told state (some part) holds bytes l e)) in (
            q,
            ap (λ (x : Option (List ℕ)). folded n t (instead (some part) x) (additions (adding state bytes).output cs))
                (is-taken state (some part) holds bytes l e) ∙ found,
            least-common bytes part c q rows one.form (additions (adding state bytes).output cs) reads one.reads common best,
          )
  least-from (order bytes ∷ cs) state part holds = least-from cs state part holds
  least-from (finish out ∷ cs) state part holds = least-from cs state part holds

  -- From a state that holds nothing: either no addition is accepted, or what is gathered is the least graph above all accepted additions.
  pub least-after : (cs : List Call) (state : List ℕ) → Holds n t state none →
      (additions state cs ≡ []) ⊎ Gathered none (additions state cs) (additions state cs)
  unfolding additions folded
  least-after [] state holds = inl refl
  least-after (add bytes ∷ cs) state holds =
      go (length_of (adding state bytes).reply) refl (least-after cs (adding state bytes).output)
    where
      go : (l : Option ℕ) → length_of (adding state bytes).reply ≡ l →
          (Holds n t (adding state bytes).output none →
          (additions (adding state bytes).output cs ≡ []) ⊎
          Gathered none (additions (adding state bytes).output cs) (additions (adding state bytes).output cs)) →
          (kept_where l bytes (additions (adding state bytes).output cs) ≡ []) ⊎
          Gathered none (kept_where l bytes (additions (adding state bytes).output cs)) (kept_where l bytes (additions (adding state bytes).output cs))
      go none e more = more (subst (λ (s : List ℕ). Holds n t s none) (sym (adding-kept state bytes e)) holds)
      go (some l) e more =
          let (rows, reads) = program state none holds bytes l e in
          let c : List ℕ = take l (joined state none holds bytes l e).output in
          let (q, found, best) = least-from cs (adding state bytes).output c (next state none holds bytes l e) in
          let again : Rewritten n t bytes rows c =
          rewriting-means n t bytes rows opens reads holds.rest l
          (length-told (joined state none holds bytes l e).reply l (told state none holds bytes l e)) in
          inr (
            q,
            ap (λ (x : Option (List ℕ)). folded n t (instead none x) (additions (adding state bytes).output cs)) (is-taken state none holds bytes l e) ∙ found,
            least-rewritten bytes c q rows (additions (adding state bytes).output cs) reads again best,
          )
  least-after (order bytes ∷ cs) state holds = least-after cs state holds
  least-after (finish out ∷ cs) state holds = least-after cs state holds

  -- Two written records that are least above the same programs are equal.
  pub least-once : (ps qs : List (List ℕ)) (a b : List ℕ) → ((p : List ℕ) → Memᴰ p ps ↔ Memᴰ p qs) → WrittenRecord n a → WrittenRecord n b →
      LeastAbove n t ps a → LeastAbove n t qs b → a ≡ b
  least-once ps qs a b same one other x y =
      let there : Below (table_labels n t) (graph_of_rows x.form) (graph_of_rows y.form) =
      x.least (graph_of_rows y.form) y.of-any-size (λ p mem rows e. y.above p ((same p).0 mem) rows e) in
      let back : Below (table_labels n t) (graph_of_rows y.form) (graph_of_rows x.form) =
      y.least (graph_of_rows x.form) x.of-any-size (λ p mem rows e. x.above p ((same p).1 mem) rows e) in
      let means : SameMeaning (table_labels n t) (graph_of_rows x.form) (graph_of_rows y.form) =
      (below_both n t ok (graph_of_rows x.form) (graph_of_rows y.form) x.of-any-size y.of-any-size).1 (there, back) in
      (written-one-form n t a one b other).0
      (subst (λ (r : List (Row Label)). SameMeaning (table_labels n t) (graph_of_rows r) (graph_of_rows other.form))
      (accepted-injective (sym x.reads ∙ one.reads))
      (subst (λ (r : List (Row Label)). SameMeaning (table_labels n t) (graph_of_rows x.form) (graph_of_rows r))
      (accepted-injective (sym y.reads ∙ other.reads)) means))
