-- Lemmas about laying links of g over links of s. A place of g lies over one place of s, and seeking the feature finds that place.
-- `Grouping` extends from one place of g to the next, and from one row to the next.
use mathlib.Core.Path.{◌≡◌, refl, sym, ◌∙◌, ap, subst}
use mathlib.Core.List.{List}
use mathlib.Core.Logic.{◌⊎◌, inl, inr}
use Prim.Native.Nat.{ℕ, ◌+◌, ◌≤◌, ◌<◌}
use native.Mathlib.Decide.{ℕ_discrete, dec_lt}
use native.Mathlib.Nat.{lt_trans}
use native.Mathlib.Omega.{arith}
use lib.ListN.{length, get_or, set, take, replicate, length-set, length-replicate, get_or-replicate}
use lib.Seq.{get_or-set_same, get_or-set_other, get_or-take, length-take-le}
use Rattle.layout.specs.Layout.{size, row_from, links_from, row_end, feature_at, target_at, Node, Place, rows_end}
use Rattle.layout.proofs.Order.{next_row, place-from, place-before, one-row, no_header, place-rises, one-feature}
use Rattle.subsume.specs.Following.{Sought}
use Rattle.classes.specs.Forest.{Forest, SameRoots, United, root_of}
use Rattle.classes.proofs.Roots.{separate-forest, fixed-root}
use Rattle.cover.specs.Cover.{Lying, Over, Covers, Tied, same, shared, back, next, Grouping, Unowned, Owns}

-- The loop stands at place k in the row of y, and at place j in the row of s that belongs to y. In that row, every place before j has a lesser
-- feature than place k.
pub record Covering (s g map : List ℕ) (y k j : ℕ) (owner parent : List ℕ) : Type 0 where
  pub lying : Lying s g map
  pub inside : y < size g
  pub grouping : Grouping s g map k owner parent
  pub low : links_from g y ≤ k
  pub high : k ≤ row_end g y
  pub s-low : links_from s (get_or map y 0) ≤ j
  pub s-high : j ≤ row_end s (get_or map y 0)
  pub before : k < row_end g y → (i : ℕ) → links_from s (get_or map y 0) ≤ i → i < j → feature_at s i < feature_at g k

-- The row of node y of g and the row of its node of s lie inside the words, and the two nodes have numbers below 255.
pub record RowsKnown (s g map : List ℕ) (y : ℕ) : Type 0 where
  pub node : Node g y
  pub small : y < 255
  pub under : Node s (get_or map y 0)
  pub under-small : get_or map y 0 < 255

module _ {s g map : List ℕ} (lying : Lying s g map) where
  pub rows-known : (y : ℕ) → y < size g → RowsKnown s g map y
  rows-known y h =
      record {
        node = lying.upper.sound.shaped.node y h;
        small = omega (arith, lying.upper.small);
        under = lying.lower.sound.shaped.node (get_or map y 0) (lying.mapped y h);
        under-small = omega (arith, lying.mapped y h, lying.lower.small);
      }

  over-one : {k i j : ℕ} → Over s g map k i → Over s g map k j → i ≡ j
  over-one {k} {i} {j} a b =
      let e : a.node ≡ b.node = one-row lying.upper.sound.shaped a.place b.place in
      one-feature lying.lower.sound.shaped a.under
      (subst (λ (y : ℕ). Place s (get_or map y 0) j) (sym e) b.under) (a.feature ∙ sym b.feature)

  over-in : {k j : ℕ} → Over s g map k j → k < rows_end g
  over-in o = place-before lying.upper.sound.shaped o.place

  over-within : {k j : ℕ} → Over s g map k j → j < length s
  over-within {k} {j} o =
      omega (arith, o.under.high, (lying.lower.sound.shaped.node (get_or map o.node 0) o.under.inside).ended)

  entered-low : {bound j z : ℕ} → Covers s g map bound j z → z < size g
  entered-low (i, h, o, e) =
      omega (
        arith,
        e,
        lying.upper.sound.targets o.node i o.place.inside o.place.low o.place.high,
      )

  pub owner-low : {bound : ℕ} {owner parent : List ℕ} → Grouping s g map bound owner parent → (j : ℕ) → j < length owner →
      (get_or owner j 0 ≡ 65535 → ⊥) → get_or owner j 0 < size g
  owner-low group j h d = entered-low (group.owned j h d)

  -- `Grouping` moves from place k to place l where no link stands between them.
  moved : {k l : ℕ} {owner parent : List ℕ} → Grouping s g map k owner parent → ((v i : ℕ) → Place g v i → i < l → i < k) →
      Grouping s g map l owner parent
  moved group none =
      record {
        owner-long = group.owner-long;
        forest = group.forest;
        owned = group.owned;
        covered = λ j z c. group.covered j z (c.0, none c.2.node c.0 c.2.place c.1, c.2, c.3);
        tied = group.tied;
      }

  -- At the start, no place has an owner and each node is a class of its own.
  pub grouping-start : {owner parent : List ℕ} → Unowned s owner → length parent ≡ 510 → ((x : ℕ) → x < size g → get_or parent x 0 ≡ x) →
      Grouping s g map (row_from g 0) owner parent
  grouping-start {owner} {parent} free parent-long apart =
      record {
        owner-long = free.long;
        forest = forest;
        owned = λ j h d. absurd (d (free.none j h));
        covered = λ j z c. absurd (omega (arith, place-from lying.upper.sound.shaped c.2.place, c.1));
        tied = λ x y h l e.
            let z : x ≡ y = sym (alone x h) ∙ e ∙ alone y l in
            rw z same;
      }
    where
      forest : Forest (size g) parent
      forest = separate-forest (omega (arith, lying.upper.small)) parent-long apart

      alone : (x : ℕ) → x < size g → root_of parent x ≡ x
      alone x h = fixed-root forest x (apart x h)

  -- One place more.

  module _ {k j : ℕ} {owner parent : List ℕ} (group : Grouping s g map k owner parent) (o : Over s g map k j) where
    enters : Covers s g map (rows_end g) j (target_at g k)
    enters = (k, over-in o, o, refl)

    grouping-new : get_or owner j 0 ≡ 65535 → Grouping s g map (k + 1) (set owner j (target_at g k)) parent
    grouping-new free =
        record {
          owner-long = length-set owner j (target_at g k) ∙ group.owner-long;
          forest = group.forest;
          owned = λ i h d. owned i h d (ℕ_discrete i j);
          covered = λ i z c. covered i z c (ℕ_discrete c.0 k);
          tied = group.tied;
        }
      where
        z₀ : ℕ
        z₀ = target_at g k

        new : List ℕ
        new = set owner j z₀

        here : get_or new j 0 ≡ z₀
        here = get_or-set_same owner j z₀ 0 (omega (arith, group.owner-long, over-within o))

        owned : (i : ℕ) → i < length new → (get_or new i 0 ≡ 65535 → ⊥) → Dec (i ≡ j) → Covers s g map (rows_end g) i (get_or new i 0)
        owned i h d (yes e) = rw (e, here) enters
        owned i h d (no n) =
            let same : get_or new i 0 ≡ get_or owner i 0 = get_or-set_other owner j i z₀ 0 n in
            rw same (group.owned i (omega (arith, length-set owner j z₀)) λ q. d (same ∙ q))

        covered : (i z : ℕ) (c : Covers s g map (k + 1) i z) → Dec (c.0 ≡ k) →
            (get_or new i 0 ≡ 65535 → ⊥) × (root_of parent (get_or new i 0) ≡ root_of parent z)
        covered i z (p, h, q, e) (yes r) =
            let at : Over s g map k i = rw (sym r) q in
            let same : i ≡ j = over-one at o in
            let value : get_or new i 0 ≡ z = ap (λ (x : ℕ). get_or new x 0) same ∙ here ∙ ap (λ (x : ℕ). target_at g x) (sym r) ∙ e in
            (λ x. omega (arith, sym value ∙ x, entered-low (p, h, q, e), lying.upper.small), ap (root_of parent) value)
        covered i z (p, h, q, e) (no r) =
            let old = group.covered i z (p, omega arith, q, e) in
            let same : get_or new i 0 ≡ get_or owner i 0 =
            get_or-set_other owner j i z₀ 0 (λ s. old.0 (ap (λ (x : ℕ). get_or owner x 0) s ∙ free)) in
            (λ x. old.0 (sym same ∙ x), ap (root_of parent) same ∙ old.1)

    grouping-united : {parent' : List ℕ} → (get_or owner j 0 ≡ 65535 → ⊥) → United (size g) parent (get_or owner j 0) (target_at g k) parent' →
        Grouping s g map (k + 1) owner parent'
    grouping-united {parent'} held u =
        record {
          owner-long = group.owner-long;
          forest = u.forest;
          owned = group.owned;
          covered = λ i z c. covered i z c (ℕ_discrete c.0 k);
          tied = λ x y h l e. tied x y h l (u.only x y h l e);
        }
      where
        first : Covers s g map (rows_end g) j (get_or owner j 0)
        first = group.owned j (omega (arith, over-within o, group.owner-long)) held

        covered : (i z : ℕ) (c : Covers s g map (k + 1) i z) → Dec (c.0 ≡ k) →
            (get_or owner i 0 ≡ 65535 → ⊥) × (root_of parent' (get_or owner i 0) ≡ root_of parent' z)
        covered i z (p, h, q, e) (yes r) =
            let at : Over s g map k i = rw (sym r) q in
            let same : i ≡ j = over-one at o in (
              λ x. held (ap (λ (y : ℕ). get_or owner y 0) (sym same) ∙ x),
              ap (λ (y : ℕ). root_of parent' (get_or owner y 0)) same ∙ u.merged ∙
                  ap (root_of parent') (ap (λ (y : ℕ). target_at g y) (sym r) ∙ e),
            )
        covered i z (p, h, q, e) (no r) =
            let old = group.covered i z (p, omega arith, q, e) in (
              old.0,
              u.kept (get_or owner i 0) z (entered-low (group.owned i (omega (arith, over-within q, group.owner-long)) old.0))
                  (entered-low (p, h, q, e)) old.1,
            )

        link : Tied s g map (get_or owner j 0) (target_at g k)
        link = shared j first enters

        tied : (x y : ℕ) → x < size g → y < size g →
            (root_of parent x ≡ root_of parent y) ⊎ ((root_of parent x ≡ root_of parent (get_or owner j 0)) × (root_of parent y ≡ root_of parent (target_at g k))) ⊎
            ((root_of parent x ≡ root_of parent (target_at g k)) × (root_of parent y ≡ root_of parent (get_or owner j 0))) →
            Tied s g map x y
        tied x y h l (inl e) = group.tied x y h l e
        tied x y h l (inr (inl (a, b))) =
            next (group.tied x (get_or owner j 0) h (entered-low first) a)
            (next link (back (group.tied y (target_at g k) l (entered-low enters) b)))
        tied x y h l (inr (inr (a, b))) =
            next (group.tied x (target_at g k) h (entered-low enters) a)
            (next (back link) (back (group.tied y (get_or owner j 0) l (entered-low first) b)))

    grouping-next : {owner' parent' : List ℕ} → Owns owner parent j (target_at g k) owner' parent' →
        Grouping s g map (k + 1) owner' parent'
    grouping-next {owner'} {parent'} w = go (ℕ_discrete (get_or owner j 0) 65535)
      where
        go : Dec (get_or owner j 0 ≡ 65535) → Grouping s g map (k + 1) owner' parent'
        go (yes e) = let (a, b) = w.first e in rw (a, b) (grouping-new e)
        go (no d) =
            let (a, b) = w.later d in
            rw a (grouping-united d (b (size g) group.forest (owner-low group j (omega (arith, over-within o, group.owner-long)) d) (entered-low enters)))

  -- The loop over a row of g.

  pub covering-start : {y : ℕ} {owner parent : List ℕ} → y < size g → Grouping s g map (row_from g y) owner parent →
      Covering s g map y (links_from g y) (links_from s (get_or map y 0)) owner parent
  covering-start {y} h group =
      record {
        lying = lying;
        inside = h;
        grouping = moved group (λ v i p below. no_header lying.upper.sound.shaped y h p below);
        low = omega arith;
        high = (rows-known y h).node.begun;
        s-low = omega arith;
        s-high = (rows-known y h).under.begun;
        before = λ _ i a b. absurd (omega arith);
      }

module _ {s g map : List ℕ} {y k j place : ℕ} {owner parent : List ℕ} (c : Covering s g map y k j owner parent)
    (more : k < row_end g y) (sought : Sought s j (row_end s (get_or map y 0)) (feature_at g k) place) where
  passed : (i : ℕ) → links_from s (get_or map y 0) ≤ i → i < place → feature_at s i < feature_at g k
  passed i low high = go (dec_lt i j)
    where
      go : Dec (i < j) → feature_at s i < feature_at g k
      go (yes h) = c.before more i low h
      go (no h) = sought.before i (omega arith) high

  here : Place g y k
  here = record { inside = c.inside; low = c.low; high = more }

  -- Place k lies over the place that is found.
  pub sought-over : Over s g map k place
  sought-over =
      let (p, at, e) = c.lying.found y k here in
      let same : place ≡ p = go p at e (dec_lt p place) (dec_lt place p) in
      record {
        node = y;
        place = here;
        under = subst (λ (i : ℕ). Place s (get_or map y 0) i) (sym same) at;
        feature = ap (feature_at s) same ∙ e;
      }
    where
      apart : {a b : ℕ} → a < b → a ≡ b → ⊥
      apart h z = omega arith

      above : {a b d : ℕ} → a < b → d ≤ a → b ≡ d → ⊥
      above h l z = omega arith

      go : (p : ℕ) → Place s (get_or map y 0) p → feature_at s p ≡ feature_at g k → Dec (p < place) → Dec (place < p) → place ≡ p
      go p at e (yes h) x = absurd (apart (passed p at.low h) e)
      go p at e (no h) (yes l) =
          let first : Place s (get_or map y 0) place =
          record { inside = at.inside; low = omega (arith, sought.low, c.s-low); high = omega (arith, at.high) } in
          absurd (above (place-rises c.lying.lower.sound.shaped first at l) (sought.found first.high) e)
      go p at e (no h) (no l) = omega arith

  pub place-within : place < length owner
  place-within = omega (arith, over-within c.lying sought-over, c.grouping.owner-long)

  pub target-low : target_at g k < size g
  target-low = entered-low c.lying (k, over-in c.lying sought-over, sought-over, refl)

  pub place-owner : (get_or owner place 0 ≡ 65535 → ⊥) → get_or owner place 0 < size g
  place-owner = owner-low c.lying c.grouping place place-within

  pub covering-next : {owner' parent' : List ℕ} → Owns owner parent place (target_at g k) owner' parent' →
      Covering s g map y (k + 1) place owner' parent'
  covering-next w =
      record {
        lying = c.lying;
        inside = c.inside;
        grouping = grouping-next c.lying c.grouping sought-over w;
        low = omega (arith, c.low);
        high = omega arith;
        s-low = omega (arith, sought.low, c.s-low);
        s-high = sought.high;
        before = λ h i a b. lt_trans (passed i a b) (c.lying.upper.sound.shaped.ascending y k c.inside c.low h);
      }

pub covering-done : {s g map : List ℕ} {y k j : ℕ} {owner parent : List ℕ} → Covering s g map y k j owner parent → row_end g y ≤ k →
    Grouping s g map (row_end g y) owner parent
covering-done {s} {g} {map} {y} {k} {j} {owner} {parent} c h =
    subst (λ (i : ℕ). Grouping s g map i owner parent) (omega (arith, c.high)) c.grouping

-- `Grouping` holds for a later forest with the same roots.
pub grouping-same : {s g map : List ℕ} {bound : ℕ} {owner parent later : List ℕ} → Lying s g map → Grouping s g map bound owner parent →
    SameRoots (size g) parent later → Grouping s g map bound owner later
grouping-same {s} {g} {map} {bound} {owner} {parent} {later} lying group roots =
    record {
      owner-long = group.owner-long;
      forest = roots.forest;
      owned = group.owned;
      covered = λ j z c.
          let (o, e) = group.covered j z c in (
            o,
            roots.same (get_or owner j 0)
                (owner-low lying group j (omega (arith, over-within lying c.2, group.owner-long)) o) ∙ e ∙
                sym (roots.same z (entered-low lying c)),
          );
      tied = λ x y h l e.
          group.tied x y h l (sym (roots.same x h) ∙ e ∙ roots.same y l);
    }

-- The end of a row is the beginning of the next.
pub grouping-row : {s g map : List ℕ} (y : ℕ) {owner parent : List ℕ} → Grouping s g map (row_end g y) owner parent →
    Grouping s g map (row_from g (y + 1)) owner parent
grouping-row {s} {g} {map} y {owner} {parent} c =
    subst (λ (i : ℕ). Grouping s g map i owner parent) (next_row g y (y + 1) (omega arith)) c

-- After the last row, `Grouping` holds for all places.
pub grouping-end : {s g map : List ℕ} (y : ℕ) {owner parent : List ℕ} → Grouping s g map (row_from g y) owner parent → y ≤ size g →
    size g ≤ y → Grouping s g map (rows_end g) owner parent
grouping-end {s} {g} {map} y {owner} {parent} c low high =
    subst (λ (i : ℕ). Grouping s g map (row_from g i) owner parent) (omega arith) c

-- In fresh words no place of s has an owner.
pub unowned-fresh : (m : ℕ) (s : List ℕ) → length s ≤ m → Unowned s (take (length s) (replicate m 65535))
unowned-fresh m s short =
    record {
      long = long;
      none = λ j l. get_or-take (length s) (replicate m 65535) j 0 (omega (arith, l, long)) ∙ get_or-replicate {A = ℕ} m j 65535 0 (omega (arith, l, long, short));
    }
  where
    long : length {A = ℕ} (take (length s) (replicate m 65535)) ≡ length s
    long = length-take-le (length s) (replicate m 65535) (omega (arith, length-replicate {A = ℕ} m 65535))
