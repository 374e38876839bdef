-- The rows that the code makes are those of the difference as it is defined. The marks tell which links lead, and the code keeps a node exactly
-- where the definition keeps it, so the two graphs are alike. The reasons are those of the definition too.
use mathlib.Core.Path.{◌≡◌, refl, sym, ◌∙◌, ap, ap₂, subst}
use mathlib.Core.Bool.{Bool, true, false, cond}
use mathlib.Core.List.{List, [], Memᴰ}
use mathlib.Core.Logic.{◌↔◌}
use mathlib.Core.Option
use mathlib.Core.Option.{Option, none, some}
use Prim.Native.Nat.{ℕ, ◌*◌, ◌/◌, ◌%◌, ◌≤◌, ◌<◌}
use native.Mathlib.Decide.{dec_lt}
use native.Mathlib.Omega.{arith}
use lib.Dec.{eqb}
use lib.ListN.{length, get_or}
use Rattle.graphs.specs.Graph.{Graph, AnySize, Reached, follow}
use Rattle.graphs.specs.Rows.{from}
use Rattle.graphs.specs.Number.{canonical}
use Rattle.graphs.specs.Difference.{Link, StrictOrder, difference, bare, differ, lead, leaders, meet_over}
use Rattle.graphs.specs.Reasons.{reason_at, along_links, written_order}
use Rattle.graphs.proofs.Walk.{none-some, some-unique, reached-link}
use Rattle.graphs.proofs.Lists.{from_member, from-range, tells-eqb}
use Rattle.graphs.proofs.Search.{true-false}
use Rattle.graphs.proofs.Form.Bisimilar.{Alike, absent, present, Bisimilar}
use Rattle.graphs.proofs.Form.Invariant.{Pointwise, pointwise-listed, bisimilar-canonical, bisimilar-order}
use Rattle.graphs.proofs.Reasons.{along-same}
use Rattle.graphs.proofs.Unification.Beside.{Operands}
use Rattle.graphs.proofs.Difference.Induct.{children-first}
use Rattle.graphs.proofs.Difference.Laws.{Leader, Enters, Reason, at_root, two_groups, bare_group, own_label, kept_below, Idle}
use Rattle.graphs.proofs.Difference.Groups.{bare-enters, not-bare-enters}
use Rattle.graphs.proofs.Difference.Keeps.{keep, kept, leaders-listed, differ-two, differ-one, root_kept, keep-reason, keep-idle, kept-links}
use Rattle.lattice.specs.Table.{every, found}
use Rattle.lattice.specs.Label.{Label, no_label}
use Rattle.lattice.proofs.Every.{every-same}
use Rattle.lattice.proofs.Laws.{accepted-size}
use Rattle.lattice.proofs.Lawful.{known_more}
use Rattle.lattice.specs.Labels.{table_labels, wanted_label}
use Rattle.layout.specs.Layout.{scale, label_from, size, label_at, feature_at, target_at, rows_of, graph_in, Sound, Place, rows_end}
use Rattle.layout.proofs.Rows.{length-rows}
use Rattle.layout.proofs.Places.{label-at, link-at, link-place, link-known}
use Rattle.layout.proofs.Reaching.{reached-inside}
use Rattle.layout.proofs.Order.{place-before}
use Rattle.encode.specs.Marks.{marks_along}
use Rattle.encode.proofs.WrittenForm.{marks-tell}
use Rattle.visits.specs.Walks.{Reaches}
use Rattle.record.proofs.Words.{reaches-walk, reaches-inside}
use Rattle.cover.specs.Cover.{Lying}
use Rattle.groups.specs.Marks.{At, Marked}
use Rattle.groups.proofs.Leading.{at_one, one_at, at-link, link-stands, Says, follows-it, leads-covered, leads_bare, mark-says}
use Rattle.difference.specs.Promise.{wanted_along, difference_along, reasons_along, all_wanted_along}
use Rattle.wanting.specs.Asked.{Asked}
use Rattle.wanting.specs.Wanted.{wanted_at, Wants, WantsAll, met_from}
use Rattle.wanting.proofs.Asked.{over-inside}
use Rattle.keeping.specs.Keeping.{Cause, Leads, several, alone, Stays, Why, is_root, caused, untop, onward, Keeps, Markable}
use Rattle.keeping.specs.Thinning.{Kept}
use Rattle.reasons.specs.Explaining.{Made, Copied, Explains, reason_by}
use Rattle.difference.specs.Prepared.{Prepared}
use Rattle.difference.proofs.Labels.{wants-known, meet_where-same}
use Rattle.keeping.proofs.Thinning.{rows-sound, copied-feature, copied-target}
use Rattle.reasons.proofs.Explaining.{reason-one, reason-two, reason-three}

-- A node that links reach is the end of a path.
module _ {ws : List ℕ} (sound : Sound ws) where
  acyclic-words : (n : ℕ) (t : List ℕ) → AnySize (table_labels n t) (graph_in ws) → ((v : ℕ) → v < size ws → Reached (graph_in ws) v) →
      (v : ℕ) → Reaches ws v v → ⊥
  acyclic-words n t any reached v r =
      let (f, p, e) = reaches-walk sound r in
      any.acyclic v f p (reached v (reaches-inside sound r)) e

-- Both graphs.
module _ {n : ℕ} {t gw sw map : List ℕ} (asked : Asked n t gw sw map) where
  abbrev s : Graph Label ℕ
  s = graph_in sw

  abbrev g : Graph Label ℕ
  g = graph_in gw

  abbrev over : ℕ → ℕ
  over y = get_or map y 0

  abbrev s-sound : Sound sw
  s-sound = asked.lower.sound

  abbrev g-sound : Sound gw
  g-sound = asked.upper.sound

  operands : Operands eqb eqb s (from 0 (size sw)) g (from 0 (size gw))
  operands =
      record {
        tells-left = tells-eqb;
        tells-right = tells-eqb;
        lists-left = record {
          listed = λ v. (
            λ r. from_member 0 (size sw) v (omega arith) (omega (arith, reached-inside s-sound v r)),
            λ m. asked.lower-reached v (omega (arith, from-range 0 (size sw) v m)),
          );
          features = λ v w f r e. (link-known s-sound v f w (reached-inside s-sound v r) e).0;
        };
        lists-right = record {
          listed = λ v. (
            λ r. from_member 0 (size gw) v (omega arith) (omega (arith, reached-inside g-sound v r)),
            λ m. asked.upper-reached v (omega (arith, from-range 0 (size gw) v m)),
          );
          features = λ v w f r e. (link-known g-sound v f w (reached-inside g-sound v r) e).0;
        };
      }

  pub acyclic-lower : (v : ℕ) → Reaches sw v v → ⊥
  acyclic-lower = acyclic-words s-sound n t asked.any-size asked.lower-reached

  pub lying-words : Lying sw gw map
  lying-words =
      record { lower = asked.lower; upper = asked.upper; short = asked.short; mapped = over-inside asked; found = found }
    where
      found : (y i : ℕ) → Place gw y i → (j : ℕ) × Place sw (over y) j × (feature_at sw j ≡ feature_at gw i)
      found y i p =
          let (j, a, b, e, _) =
          link-place s-sound (over y) (feature_at gw i) (over (target_at gw i)) (over-inside asked y p.inside)
          (asked.lies.links y (target_at gw i) (feature_at gw i) (asked.upper-reached y p.inside)
          (link-at g-sound y i p.inside p.low p.high)) in
          (j, record { inside = over-inside asked y p.inside; low = a; high = b }, e)

  pub markable-words : {marks keep : List ℕ} → length marks ≡ length sw → length keep ≡ 255 → Markable sw marks keep
  markable-words a b =
      record { sound = s-sound; small = asked.lower.small; short = asked.short; marks-long = a; keep-long = b }

  -- The wanted label of the node v, with the nodes of g listed by number.
  abbrev want : ℕ → Label
  want v = Option.get_or (wanted_label n t (s.label v) (meet_over (table_labels n t) eqb g (from 0 (size gw)) over v)) no_label

  at_label : (v : ℕ) → v < size sw → wanted_at n t sw gw map v ≡
      wanted_label n t (s.label v) (meet_over (table_labels n t) eqb g (from 0 (size gw)) over v)
  unfolding meet_over met_from
  at_label v h =
      ap₂ (wanted_label n t) (sym (label-at sw v h))
      (meet_where-same (table_labels n t) (λ y. eqb (over y) v) (λ y. label_at gw y) g.label (from 0 (size gw))
      (λ y m. sym (label-at gw y (omega (arith, from-range 0 (size gw) y m)))))

  wants-labels : {labels : List ℕ} → Wants n t sw gw map (size sw) labels → (v : ℕ) → v < size sw → label_from labels (2 * v) ≡ want v
  wants-labels w v h = ap (λ o. Option.get_or o no_label) (sym (w.each v h) ∙ at_label v h)

  -- The code's answer is `all_wanted_along`, which takes the length of the list of rows as the number of nodes.
  pub answers-wanted : {answer : Bool} {labels : List ℕ} → WantsAll n t sw gw map answer labels →
      answer ≡ all_wanted_along n t (rows_of sw) (rows_of gw) (λ y. get_or map y 0)
  unfolding all_wanted_along wanted_along
  answers-wanted all =
      all.answers ∙
      every-same (λ v. found (wanted_at n t sw gw map v))
      (λ v. found (wanted_label n t (s.label v) (meet_over (table_labels n t) eqb g (from 0 (size gw)) over v))) (size sw)
      (λ v h. ap found (at_label v h)) ∙
      sym
      (ap₂ (λ (a b : ℕ). every a λ v. found (wanted_label n t (s.label v) (meet_over (table_labels n t) eqb g (from 0 b) over v)))
      (length-rows sw 0 (size sw)) (length-rows gw 0 (size gw)))

  abbrev any : AnySize (table_labels n t) s
  any = asked.any-size

  module _ {earlier : Link ℕ → Link ℕ → Bool} (strict : StrictOrder earlier) {marks labels keeps : List ℕ}
      (marked : Marked earlier sw gw map marks) (wants : Wants n t sw gw map (size sw) labels) (code : Keeps n t sw marks labels keeps) where
    abbrev first : ℕ → Link ℕ → Link ℕ
    first v l = lead eqb eqb s (from 0 (size sw)) g (from 0 (size gw)) over earlier v l

    abbrev is_kept : ℕ → Bool
    is_kept v = keep operands over any earlier want v

    abbrev says : (k : ℕ) (l : Link ℕ) → At sw k l → Type 0
    says k l at = Says n t lying-words operands asked.lies strict marked k l at

    read : (k : ℕ) (l : Link ℕ) (at : At sw k l) → says k l at
    read k l at = mark-says n t lying-words operands asked.lies strict marked k l at

    -- A link whose mark is not 0 leads its group.
    marked-leads : (k : ℕ) (l : Link ℕ) (at : At sw k l) → (get_or marks k 0 ≡ 0 → ⊥) → Leader s first (target_at sw k) l
    marked-leads k l at d = go (read k l at)
      where
        go : says k l at → Leader s first (target_at sw k) l
        go (follows-it e x) = absurd (d e)
        go (leads-covered e x z c) = x
        go (leads_bare e x c) = x

    -- A link that leads its group stands at a place whose mark is not 0.
    leads-marked : (v : ℕ) (l : Link ℕ) → Leader s first v l →
        (k : ℕ) × At sw k l × (target_at sw k ≡ v) × (get_or marks k 0 ≡ 0 → ⊥)
    leads-marked v l (i, e) =
        let (k, at, w) = link-stands s-sound l v (reached-inside s-sound l.0 i.0) i.1 in
        (k, at, w, go k at w (read k l at))
      where
        go : (k : ℕ) (at : At sw k l) → target_at sw k ≡ v → says k l at → get_or marks k 0 ≡ 0 → ⊥
        go k at w (follows-it q x) z = x (ap (λ u. first u l) w ∙ e)
        go k at w (leads-covered q x y c) z = omega (arith, q, z)
        go k at w (leads_bare q x c) z = omega (arith, q, z)

    bare-marked : (v : ℕ) (l : Link ℕ) → Leader s first v l → ((z : ℕ) → Enters {L = Label} g over z l → ⊥) →
        (k : ℕ) × At sw k l × (target_at sw k ≡ v) × (get_or marks k 0 ≡ 2)
    bare-marked v l (i, e) nothing =
        let (k, at, w) = link-stands s-sound l v (reached-inside s-sound l.0 i.0) i.1 in
        (k, at, w, go k at w (read k l at))
      where
        go : (k : ℕ) (at : At sw k l) → target_at sw k ≡ v → says k l at → get_or marks k 0 ≡ 2
        go k at w (follows-it q x) = absurd (x (ap (λ u. first u l) w ∙ e))
        go k at w (leads-covered q x y c) = absurd (nothing y c)
        go k at w (leads_bare q x c) = q

    -- At a place in the row of v stands a link that leaves v.
    at_row : (v k : ℕ) → Place sw v k → At sw k (v, feature_at sw k)
    at_row v k p = record { place = p; feature = refl }

    -- Kept nodes.

    Same : ℕ → Type 0
    Same v = (get_or keeps v 0 ≡ 1) ↔ (is_kept v ≡ true)

    idle-why : (v : ℕ) → Reached s v → ((f w : ℕ) → s.link v f ≡ some w → Same w) → is_kept v ≡ false →
        Idle (table_labels n t) s g over first is_kept want v → Why n t sw marks labels keeps v → ⊥
    unfolding Same
    idle-why v r later e idle (is_root q) = true-false (root_kept operands over any earlier want) (ap is_kept (sym q) ∙ e)
    idle-why v r later e idle (caused (several a b)) =
        let x : Link ℕ = (b.node, feature_at sw b.place) in
        let y : Link ℕ = (a.node, feature_at sw a.place) in
        let atx : At sw b.place x = at_row b.node b.place b.link in
        let aty : At sw a.place y = at_row a.node a.place a.link in
        let u = marked-leads b.place x atx b.leading in
        let w = marked-leads a.place y aty a.leading in
        let z : x ≡ y =
        idle.one_group x y (subst (λ m. Leader s first m x) b.enters u) (subst (λ m. Leader s first m y) a.enters w) in
        omega (arith, b.before, at_one s-sound b.place a.place y (subst (At sw b.place) z atx) aty)
    idle-why v r later e idle (caused (alone a m)) =
        go (a.node, feature_at sw a.place) (at_row a.node a.place a.link)
        (read a.place (a.node, feature_at sw a.place) (at_row a.node a.place a.link))
      where
        go : (x : Link ℕ) (at : At sw a.place x) → says a.place x at → ⊥
        go x at (follows-it q y) = omega (arith, q, m)
        go x at (leads-covered q y z c) = omega (arith, q, m)
        go x at (leads_bare q y c) = let (z, d) = idle.covered x (subst (λ u. Leader s first u x) a.enters y) in c z d
    idle-why v r later e idle (untop q) =
        true-false idle.no_label
        (ap ((table_labels n t).le (table_labels n t).top) (sym (wants-labels wants v (reached-inside s-sound v r))) ∙ q)
    idle-why v r later e idle (onward (k, low, high, x)) =
        let h = reached-inside s-sound v r in
        let at = at_row v k (record { inside = h; low = low; high = high }) in
        let f = feature_at sw k in
        let w = target_at sw k in
        true-false ((later f w (at-link s-sound k (v, f) at)).0 x.enters)
        (idle.none_below f w (marked-leads k (v, f) at x.leads))

    -- Two links that lead their groups are a cause to keep the node that they enter.
    two-cause : (v : ℕ) (l m : Link ℕ) → Leader s first v l → Leader s first v m → (l ≡ m → ⊥) → Cause sw marks (rows_end sw) v
    two-cause v l m a b apart =
        let (j, atj, p, x) = leads-marked v l a in
        let (i, ati, q, y) = leads-marked v m b in
        go j atj p x i ati q y (dec_lt j i) (dec_lt i j)
      where
        standing : {u l₀ : ℕ} {l : Link ℕ} (i : ℕ) → At sw i l → i < l₀ → (get_or marks i 0 ≡ 0 → ⊥) → target_at sw i ≡ u →
            Leads sw marks l₀ u
        standing {l = l} i at h x q = record { node = l.0; place = i; link = at.place; before = h; leading = x; enters = q }

        go : (j : ℕ) → At sw j l → target_at sw j ≡ v → (get_or marks j 0 ≡ 0 → ⊥) → (i : ℕ) → At sw i m → target_at sw i ≡ v →
            (get_or marks i 0 ≡ 0 → ⊥) → Dec (j < i) → Dec (i < j) → Cause sw marks (rows_end sw) v
        go j atj p x i ati q y (yes h) d =
            (several (standing i ati (place-before s-sound.shaped ati.place) y q) (standing j atj h x p))
        go j atj p x i ati q y (no h) (yes d) =
            (several (standing j atj (place-before s-sound.shaped atj.place) x p) (standing i ati d y q))
        go j atj p x i ati q y (no h) (no d) =
            let e : j ≡ i = omega arith in
            absurd (apart (at_same j l m atj (subst (λ k. At sw k m) (sym e) ati)))
          where
            at_same : (k : ℕ) (l m : Link ℕ) → At sw k l → At sw k m → l ≡ m
            at_same k l m c d = ap₂ {C = Link ℕ} (λ a b. (a, b)) (one_at s-sound k l m c d) (sym c.feature ∙ d.feature)

    reason-why : (v : ℕ) → Reached s v → ((f w : ℕ) → s.link v f ≡ some w → Same w) →
        Reason (table_labels n t) s g over first is_kept want v → Why n t sw marks labels keeps v
    unfolding Same
    reason-why v r later (at_root e) = is_root e
    reason-why v r later (two_groups l m a b apart) = caused (two-cause v l m a b apart)
    reason-why v r later (bare_group l a nothing) =
        let (k, at, p, m) = bare-marked v l a nothing in
        caused
        (alone
        (record {
          node = l.0;
          place = k;
          link = at.place;
          before = place-before s-sound.shaped at.place;
          leading = λ z. omega (arith, m, z);
          enters = p;
        })
        m)
    reason-why v r later (own_label e) =
        untop (ap ((table_labels n t).le (table_labels n t).top) (wants-labels wants v (reached-inside s-sound v r)) ∙ e)
    reason-why v r later (kept_below f w a e) =
        let (k, at, p, m) = leads-marked w (v, f) a in
        onward (
          k,
          at.place.low,
          at.place.high,
          record { leads = m; enters = ap (λ (x : ℕ). get_or keeps x 0) p ∙ (later f w a.0.1).1 e },
        )

    -- The code keeps a node exactly where the definition of the difference keeps it.
    kept_same : (v : ℕ) → Reached s v → Same v
    unfolding Same
    kept_same = children-first any Same next
      where
        next : (v : ℕ) → Reached s v → ((f w : ℕ) → s.link v f ≡ some w → Same w) → Same v
        next v r later = (
          λ e. there (is_kept v) refl e,
          λ e. code.found v h (reason-why v r later (keep-reason operands over any earlier want v r e)),
        )
          where
            h : v < size sw
            h = reached-inside s-sound v r

            there : (b : Bool) → is_kept v ≡ b → get_or keeps v 0 ≡ 1 → is_kept v ≡ true
            there true q e = q
            there false q e =
                absurd (idle-why v r later q (keep-idle operands over any earlier want v r q) (code.why v h e))

    -- Kept links.

    module _ {ws : List ℕ} (ready : Markable sw marks keeps) (few : n ≤ 64) (rows : Kept sw marks keeps labels ws) where
      sound' : Sound ws
      sound' = rows-sound ready (λ v h. known_more (omega arith) ((wants-known asked wants).known v h)) rows

      inside' : (v : ℕ) → v < size sw → v < size ws
      inside' v h = omega (arith, rows.1.sized)

      abbrev result : Graph Label ℕ
      result = graph_in ws

      abbrev kept_at : ℕ → ℕ → Option ℕ
      kept_at v f = kept operands over any earlier want v f

      forth : (v f w : ℕ) → Reached s v → result.link v f ≡ some w → kept_at v f ≡ some w
      unfolding Same
      forth v f w r e =
          let h = reached-inside s-sound v r in
          let (i, low, high, p, q) = link-place sound' v f w (inside' v h) e in
          let (k, place, stays, c) = rows.1.each v i h low high in
          let ef : feature_at sw k ≡ f = sym (copied-feature c) ∙ p in
          let ew : target_at sw k ≡ w = sym (copied-target c) ∙ q in
          let at : At sw k (v, f) = record { place = place; feature = ef } in
          let l : Leader s first w (v, f) = subst (λ u. Leader s first u (v, f)) ew (marked-leads k (v, f) at stays.leads) in
          (kept-links operands over any earlier want v f w r).1 (
            l,
            (kept_same w (reached-link s f r l.0.1)).0 (ap (λ (x : ℕ). get_or keeps x 0) (sym ew) ∙ stays.enters),
          )

      backward : (v f w : ℕ) → Reached s v → kept_at v f ≡ some w → result.link v f ≡ some w
      unfolding Same
      backward v f w r e =
          let h = reached-inside s-sound v r in
          let (l, d) = (kept-links operands over any earlier want v f w r).0 e in
          let (k, at, p, m) = leads-marked w (v, f) l in
          let stays : Stays sw marks keeps k =
          record { leads = m; enters = ap (λ (x : ℕ). get_or keeps x 0) p ∙ (kept_same w (reached-link s f r l.0.1)).1 d } in
          let (i, low, high, c) = rows.1.all v k h at.place stays in
          ap (result.link v) (sym (copied-feature c ∙ at.feature)) ∙ link-at sound' v i (inside' v h) low high ∙
          ap some (copied-target c ∙ p)

      alike : (v f : ℕ) → Reached s v → Alike (λ x y. Reached s x × (x ≡ y)) (kept_at v f) (result.link v f)
      alike v f r = go (kept_at v f) refl (result.link v f) refl
        where
          go : (o : Option ℕ) → kept_at v f ≡ o → (p : Option ℕ) → result.link v f ≡ p → Alike (λ x y. Reached s x × (x ≡ y)) o p
          go none e none d = absent
          go none e (some w) d = none-some (sym e ∙ forth v f w r d)
          go (some w) e none d = none-some (sym d ∙ backward v f w r e)
          go (some w) e (some x) d =
              let l = ((kept-links operands over any earlier want v f w r).0 e).0 in
              present (reached-link s f r l.0.1, some-unique (backward v f w r e) d)

      abbrev made : Graph Label ℕ
      made = difference (table_labels n t) eqb eqb earlier s (from 0 (size sw)) g (from 0 (size gw)) over want

      made_alike : Bisimilar (λ x y. Reached s x × (x ≡ y)) made result
      unfolding difference follow
      made_alike =
          record {
            root = (([], refl), refl);
            labels = λ v w x.
                let h = reached-inside s-sound v x.0 in
                sym (wants-labels wants v h) ∙ sym (label-at ws v (inside' v h) ∙ rows.1.labelled v h) ∙ ap result.label x.1;
            links = λ v w f x. subst (λ u. Alike (λ x y. Reached s x × (x ≡ y)) (kept_at v f) (result.link u f)) x.1 (alike v f x.0);
            forth = λ v v' w w' x y e. sym x.1 ∙ e ∙ y.1;
            back = λ v v' w w' x y e. x.1 ∙ e ∙ sym y.1;
          }

      links-alike : (v f : ℕ) → Reached s v → made.link v f ≡ result.link v f
      unfolding difference
      links-alike v f r = go (alike v f r)
        where
          go : {o p : Option ℕ} → Alike (λ x y. Reached s x × (x ≡ y)) o p → o ≡ p
          go absent = refl
          go (present x) = ap some x.1

      -- `made` is `difference_along`, which takes the lengths of the lists of rows as the numbers of nodes.
      named : difference_along earlier n t (rows_of sw) (rows_of gw) (λ y. get_or map y 0) ≡ made
      unfolding difference_along wanted_along
      named =
          ap₂ (λ (a b : ℕ). difference (table_labels n t) eqb eqb earlier s (from 0 a) g (from 0 b) over
          (λ v. Option.get_or (wanted_label n t (s.label v) (meet_over (table_labels n t) eqb g (from 0 b) over v)) no_label))
          (length-rows sw 0 (size sw)) (length-rows gw 0 (size gw))

      -- The rows are those of the difference.
      pub result-canonical : canonical eqb (difference_along earlier n t (rows_of sw) (rows_of gw) (λ y. get_or map y 0)) ≡ canonical eqb result
      result-canonical =
          ap (canonical eqb) named ∙
          bisimilar-canonical eqb eqb tells-eqb tells-eqb (λ x y. Reached s x × (x ≡ y)) made result made_alike

      -- Reasons.

      abbrev reason : Link ℕ → ℕ → ℕ
      reason l v = reason_at eqb eqb s (from 0 (size sw)) g (from 0 (size gw)) over earlier l v

      module _ {reasons : List ℕ} (explained : Explains sw marks ws reasons) where
        -- Two links that lead groups at v differ. Where a link with the mark 1 enters v, this holds exactly if v has a cause to be kept.
        abbrev apart : ℕ → Bool
        apart v = differ eqb eqb s (from 0 (size sw)) g (from 0 (size gw)) over (leaders eqb eqb s (from 0 (size sw)) g (from 0 (size gw)) over earlier v)

        listed : (v : ℕ) (l : Link ℕ) → Memᴰ l (leaders eqb eqb s (from 0 (size sw)) g (from 0 (size gw)) over earlier v) ↔ Leader s first v l
        listed v l = leaders-listed operands over any earlier want v l

        cause-apart : (k : ℕ) (l : Link ℕ) → At sw k l → Leader s first (target_at sw k) l → get_or marks k 0 ≡ 1 →
            Cause sw marks (rows_end sw) (target_at sw k) → apart (target_at sw k) ≡ false → ⊥
        cause-apart k l at lead mark cause e = go cause
          where
            same : (x y : Link ℕ) → Leader s first (target_at sw k) x → Leader s first (target_at sw k) y → x ≡ y
            same x y p q =
                differ-one operands over any earlier want _ e x y ((listed (target_at sw k) x).1 p) ((listed (target_at sw k) y).1 q)

            leader : {m : ℕ} (a : Leads sw marks m (target_at sw k)) → Leader s first (target_at sw k) (a.node, feature_at sw a.place)
            leader a =
                subst (λ v. Leader s first v (a.node, feature_at sw a.place)) a.enters
                (marked-leads a.place (a.node, feature_at sw a.place) (at_row a.node a.place a.link) a.leading)

            go : Cause sw marks (rows_end sw) (target_at sw k) → ⊥
            go (several a b) =
                let x : Link ℕ = (b.node, feature_at sw b.place) in
                let y : Link ℕ = (a.node, feature_at sw a.place) in
                let z : x ≡ y = same x y (leader b) (leader a) in
                omega (
                  arith,
                  b.before,
                  at_one s-sound b.place a.place y (subst (At sw b.place) z (at_row b.node b.place b.link))
                      (at_row a.node a.place a.link),
                )
            go (alone a m) =
                let x : Link ℕ = (a.node, feature_at sw a.place) in
                let z : x ≡ l = same x l (leader a) lead in
                let q = at_one s-sound a.place k l (subst (At sw a.place) z (at_row a.node a.place a.link)) at in
                one-two (sym (ap (λ (i : ℕ). get_or marks i 0) q ∙ mark) ∙ m)
              where
                one-two : ◌≡◌ {A = ℕ} 1 2 → ⊥
                one-two q = omega arith

        reason-by : (k : ℕ) (l : Link ℕ) (at : At sw k l) → (get_or marks k 0 ≡ 0 → ⊥) →
            reason_by sw marks explained.meeting k ≡ reason l (target_at sw k)
        unfolding reason_at
        reason-by k l at d = go (read k l at)
          where
            low : target_at sw k < 255
            low = omega (arith, s-sound.targets l.0 k at.place.inside at.place.low at.place.high, asked.lower.small)

            meets : (get_or explained.meeting (target_at sw k) 0 ≡ 1) ↔ Cause sw marks (rows_end sw) (target_at sw k)
            meets = explained.meets (target_at sw k) low

            is-bare : (b : Bool) → bare eqb eqb s (from 0 (size sw)) g (from 0 (size gw)) over l ≡ b →
                ((z : ℕ) → Enters {L = Label} g over z l → ⊥) → bare eqb eqb s (from 0 (size sw)) g (from 0 (size gw)) over l ≡ true
            is-bare true e nothing = e
            is-bare false e nothing = let (z, c) = not-bare-enters operands over l e in absurd (nothing z c)

            not-bare : (b : Bool) → bare eqb eqb s (from 0 (size sw)) g (from 0 (size gw)) over l ≡ b → (z : ℕ) →
                Enters {L = Label} g over z l → bare eqb eqb s (from 0 (size sw)) g (from 0 (size gw)) over l ≡ false
            not-bare false e z c = e
            not-bare true e z c = absurd (bare-enters operands over l e z c)

            covered : get_or marks k 0 ≡ 1 → Leader s first (target_at sw k) l → (b : Bool) → apart (target_at sw k) ≡ b →
                reason_by sw marks explained.meeting k ≡ cond (apart (target_at sw k)) 2 3
            covered mark lead true e =
                let (x, y, i, j, d) = differ-two operands over any earlier want _ e in
                reason-two (get_or marks k 0) (get_or explained.meeting (target_at sw k) 0) (λ q. omega (arith, mark, q))
                (meets.1 (two-cause (target_at sw k) x y ((listed (target_at sw k) x).0 i) ((listed (target_at sw k) y).0 j) d))
                ∙ sym (ap (λ (b : Bool). cond b 2 3) e)
            covered mark lead false e =
                reason-three (get_or marks k 0) (get_or explained.meeting (target_at sw k) 0) (λ q. omega (arith, mark, q))
                (λ q. cause-apart k l at lead mark (meets.0 q) e)
                ∙ sym (ap (λ (b : Bool). cond b 2 3) e)

            go : says k l at → reason_by sw marks explained.meeting k ≡
                cond (bare eqb eqb s (from 0 (size sw)) g (from 0 (size gw)) over l) 1 (cond (apart (target_at sw k)) 2 3)
            go (follows-it e x) = absurd (d e)
            go (leads-covered e x z c) =
                covered e x (apart (target_at sw k)) refl
                ∙ sym (ap (λ (b : Bool). cond b 1 (cond (apart (target_at sw k)) 2 3)) (not-bare _ refl z c))
            go (leads_bare e x c) =
                reason-one (get_or marks k 0) (get_or explained.meeting (target_at sw k) 0) e
                ∙ sym (ap (λ (b : Bool). cond b 1 (cond (apart (target_at sw k)) 2 3)) (is-bare _ refl c))

        reason-is : (v i : ℕ) → Place ws v i → get_or reasons i 0 ≡ reason (v, feature_at ws i) (target_at ws i)
        reason-is v i p =
            let (k, place, stays, c) = rows.1.each v i (omega (arith, p.inside, rows.1.sized)) p.low p.high in
            explained.each v i k p place c
            ∙ reason-by k (v, feature_at sw k) (at_row v k place) stays.leads
            ∙ ap (λ (w : ℕ). reason (v, w / scale) (w % scale)) (sym c)

        pub result-reasons : reasons_along earlier n t (rows_of sw) (rows_of gw) (λ y. get_or map y 0) ≡
            marks_along ws reasons (written_order eqb result)
        unfolding reasons_along difference_along wanted_along
        result-reasons =
            ap₂ (λ (a b : ℕ).
            along_links (difference (table_labels n t) eqb eqb earlier s (from 0 a) g (from 0 b) over
            (λ v. Option.get_or (wanted_label n t (s.label v) (meet_over (table_labels n t) eqb g (from 0 b) over v)) no_label))
            (reason_at eqb eqb s (from 0 a) g (from 0 b) over earlier)
            (written_order eqb (difference (table_labels n t) eqb eqb earlier s (from 0 a) g (from 0 b) over
            (λ v. Option.get_or (wanted_label n t (s.label v) (meet_over (table_labels n t) eqb g (from 0 b) over v)) no_label))))
            (length-rows sw 0 (size sw)) (length-rows gw 0 (size gw))
            ∙ along-same (Reached s) made result reason links-alike order
            ∙ marks-tell sound' reason reasons (omega (arith, rows.1.long, explained.long, asked.short)) reason-is (written_order eqb result)
            (λ v m. inside' v (reached-inside s-sound v (pointwise-listed order v m)))
          where
            order : Pointwise (λ x y. Reached s x × (x ≡ y)) (written_order eqb made) (written_order eqb result)
            order = bisimilar-order eqb eqb tells-eqb tells-eqb (λ x y. Reached s x × (x ≡ y)) made result made_alike

-- The rows that are made.
module _ {earlier : Link ℕ → Link ℕ → Bool} {n : ℕ} {t gw sw map marks labels words : List ℕ}
    (given : Prepared earlier n t gw sw map marks labels) (made : Made n t sw marks labels words) where
  few-types : n ≤ 64
  few-types = (accepted-size n t given.asked.ok).1

  made-markable : Markable sw marks made.keep
  made-markable = markable-words given.asked given.marked.stands.long made.kept.long

  pub made-sound : Sound words
  made-sound =
      rows-sound made-markable (λ v h. known_more (omega (arith, few-types)) ((wants-known given.asked given.wants).known v h)) made.rows

  pub made-canonical : canonical eqb (difference_along earlier n t (rows_of sw) (rows_of gw) (λ y. get_or map y 0)) ≡ canonical eqb (graph_in words)
  made-canonical =
      result-canonical given.asked given.strict given.marked given.wants made.kept made-markable few-types made.rows

  pub made-copied : Copied sw words
  made-copied =
      let (at, r) = made.rows in
      record {
        sound = made-sound;
        sized = r.sized;
        long = r.long;
        from-s = λ v i p.
            let (j, place, stays, e) = r.each v i (omega (arith, p.inside, r.sized)) p.low p.high in
            (j, place, e);
      }

  pub made-reasons : {reasons : List ℕ} → Explains sw marks words reasons →
      reasons_along earlier n t (rows_of sw) (rows_of gw) (λ y. get_or map y 0) ≡ marks_along words reasons (written_order eqb (graph_in words))
  made-reasons explained =
      result-reasons given.asked given.strict given.marked given.wants made.kept made-markable few-types made.rows explained
