-- This file is about the numbering: what a store keeps of the nodes seen, and what each turn of a visit's loop makes of the rest of the
-- targets.
use mathlib.Core.Path.{◌≡◌, refl, sym, ◌∙◌, ap, subst}
use mathlib.Core.Bool.{Bool, true, false, cond, ◌||◌}
use mathlib.Core.List.{List, [], ◌∷◌, map, reverse, reverse-reverse}
use mathlib.Core.Option.{Option, none, some, bind}
use Prim.Native.Nat.{ℕ, zero, suc, ◌+◌, ◌-◌, ◌%◌, ◌≤◌, ◌<◌}
use native.Mathlib.Nat.{le_refl}
use native.Mathlib.Decide.{ℕ_discrete}
use native.Mathlib.Numerals.{add-one}
use native.Mathlib.Omega.{arith}
use borrow.Author.Tests.{eqb-true, eqb-false, le-leb, lt-leb}
use lib.Dec.{eqb}
use lib.ListN.{length, get_or, set, take, length-set, length-reverse}
use lib.Seq.{slice, slice-cons, slice_empty, length-take-le, take-suc-set, take-set-le, get_or-set_same, get_or-set_other, get_or-take}
use Rattle.std.specs.Prelude.{Some, None, Option as Answer}
use Rattle.graphs.specs.Number.{member}
use Rattle.graphs.proofs.Lists.{reverse_snoc}
use Rattle.layout.specs.Layout.{scale, size, links_from, row_end, target_at, Sound}
use Rattle.layout.proofs.Numbering.{number-next}
use Rattle.visits.specs.Walks.{each_target, targets_at, visit_targets, Numbers}
use Rattle.visits.specs.Visiting.{seen_of, number_among, Marks, Visitable, below, Finds}

-- The nodes seen.

length_seen : (visited : List ℕ) (count : ℕ) → count ≤ length visited → length (seen_of visited count) ≡ count
length_seen visited count h = length-reverse (take count visited) ∙ length-take-le count visited h

seen_more : (visited : List ℕ) (v n : ℕ) → n < length visited → seen_of (set visited n v) (n + 1) ≡ v ∷ seen_of visited n
seen_more visited v n h =
    ap (λ (k : ℕ). seen_of (set visited n v) k) (add-one n) ∙ ap reverse (take-suc-set visited n v h) ∙ reverse_snoc (take n visited) v

seen-kept : (visited : List ℕ) (v n : ℕ) → seen_of (set visited n v) n ≡ seen_of visited n
seen-kept visited v n = ap reverse (take-set-le n visited n v (le_refl n))

number-fresh : (v : ℕ) (seen : List ℕ) → length seen ≤ 255 → number_among v seen ≡ 65535 → member eqb v seen ≡ false
unfolding number_among member
number-fresh v [] h e = refl
number-fresh v (w ∷ ws) h e = go (eqb v w) e (number-fresh v ws (omega arith))
  where
    go : (t : Bool) → cond t (length ws) (number_among v ws) ≡ 65535 → (number_among v ws ≡ 65535 → member eqb v ws ≡ false) →
        (t || member eqb v ws) ≡ false
    go true q later = absurd (omega arith)
    go false q later = later q

number-met : (v : ℕ) (seen : List ℕ) → (number_among v seen ≡ 65535 → ⊥) → member eqb v seen ≡ true
unfolding number_among member
number-met v [] h = absurd (h refl)
number-met v (w ∷ ws) h = go (eqb v w) h (number-met v ws)
  where
    go : (t : Bool) → (cond t (length ws) (number_among v ws) ≡ 65535 → ⊥) →
        ((number_among v ws ≡ 65535 → ⊥) → member eqb v ws ≡ true) → (t || member eqb v ws) ≡ true
    go true q later = refl
    go false q later = later q

-- v is given the next number
mark : (ws numbers visited : List ℕ) (v given : ℕ) → size ws ≤ 510 → Marks ws numbers visited given → v < size ws →
    get_or numbers v 0 ≡ 65535 → given < 255 → Marks ws (set numbers v given) (set visited given v) (given + 1)
unfolding number_among
mark ws numbers visited v given few m inside fresh room =
    record {
      numbers-long = length-set numbers v given ∙ m.numbers-long;
      visited-long = length-set visited given v ∙ m.visited-long;
      few = omega arith;
      numbered = λ w h. at w h (eqb w v) refl ∙ sym (ap (number_among w) (seen_more visited v given (omega (arith, m.visited-long))));
      placed = number-next numbers visited v given long wide (λ h. omega (arith, fresh)) m.placed;
    }
  where
    long : v < length numbers
    long = omega (arith, m.numbers-long)

    wide : given < length visited
    wide = omega (arith, m.visited-long)

    at : (w : ℕ) → w < size ws → (t : Bool) → eqb w v ≡ t →
        get_or (set numbers v given) w 0 ≡ cond t (length (seen_of visited given)) (number_among w (seen_of visited given))
    at w h true e =
        ap (λ (u : ℕ). get_or (set numbers v given) u 0) (eqb-true w v e) ∙ get_or-set_same numbers v given 0 long ∙
        sym (length_seen visited given (omega (arith, wide)))
    at w h false e = get_or-set_other numbers v w given 0 (eqb-false w v e) ∙ m.numbered w h

-- A visit of a node, by whether it was seen, and by the room and the depth that are left.

module _ (next : ℕ → List ℕ) where
  visit-known : (d w : ℕ) (seen : List ℕ) → member eqb w seen ≡ true → visit_targets next d w seen ≡ some seen
  unfolding visit_targets
  visit-known zero w seen e = rw e
  visit-known (suc d) w seen e = rw e

  visit-bottom : (w : ℕ) (seen : List ℕ) → member eqb w seen ≡ false → visit_targets next 0 w seen ≡ none
  unfolding visit_targets
  visit-bottom w seen e = rw e

  visit-crowded : (d w : ℕ) (seen : List ℕ) → member eqb w seen ≡ false → 255 ≤ length seen → visit_targets next d w seen ≡ none
  unfolding visit_targets
  visit-crowded zero w seen e h = rw e
  visit-crowded (suc d) w seen e h = rw (e, le-leb 255 (length seen) h)

  visit-fresh : (d w : ℕ) (seen : List ℕ) → member eqb w seen ≡ false → length seen < 255 → (d ≡ 0 → ⊥) →
      visit_targets next d w seen ≡ each_target (visit_targets next (d - 1)) (next w) (w ∷ seen)
  unfolding visit_targets
  visit-fresh zero w seen e h p = absurd (p refl)
  visit-fresh (suc d) w seen e h p =
      let q : suc d - 1 ≡ d = omega arith in
      rw (e, lt-leb 255 (length seen) h, q)

-- The loop over a node's targets.

-- the targets at the places from k to the end
abbrev targets_from : List ℕ → ℕ → ℕ → List ℕ
targets_from ws k end = map (λ w. w % scale) (slice k end ws)

-- The visit of v finds what following its targets from k on finds.
pub record Follows (ws : List ℕ) (v depth : ℕ) (found : Option (List ℕ)) (numbers visited : List ℕ) (count k : ℕ) : Type 0 where
  pub sound : Sound ws
  pub inside : v < size ws
  pub low : links_from ws v ≤ k
  pub reach : k ≤ row_end ws v
  pub marks : Marks ws numbers visited count
  pub whole : found ≡ each_target (visit_targets (targets_at ws) depth) (targets_from ws k (row_end ws v)) (seen_of visited count)

pub follow : {ws numbers visited : List ℕ} {v given : ℕ} (depth : ℕ) → Visitable ws numbers visited v given →
    Follows ws v depth (below ws depth v (seen_of (set visited given v) given)) (set numbers v given) (set visited given v) (given + 1)
    (links_from ws v)
unfolding targets_at
follow {ws} {numbers} {visited} {v} {given} depth r =
    record {
      sound = r.sound;
      inside = r.inside;
      low = omega arith;
      reach = (r.sound.shaped.node v r.inside).begun;
      marks = mark ws numbers visited v given r.sound.shaped.few r.marks r.inside r.fresh r.room;
      whole =
          rw (seen_more visited v given (omega (arith, r.marks.visited-long, r.room)), seen-kept visited v given)
          refl;
    }

-- the places that say where the row of a node lies
-- the same for arrays that are equal
pub follows-as : {ws numbers visited : List ℕ} {v depth count k : ℕ} {found : Option (List ℕ)}
    {numbers' visited' : List ℕ} {count' : ℕ} → numbers' ≡ numbers → visited' ≡ visited → count' ≡ count →
    Follows ws v depth found numbers visited count k →
    Follows ws v depth found numbers' visited' count' k
follows-as p q e f = rw (p, q, e) f

-- storing v behind the nodes seen keeps them, so what the visit of v finds can be said of the arrays at its entry
pub entered : {ws numbers visited : List ℕ} {v given : ℕ} → Visitable ws numbers visited v given →
    (depth : ℕ) (r : Answer ℕ) (numbers' visited' : List ℕ) →
    Finds ws (below ws depth v (seen_of (set visited given v) given)) r numbers' visited' →
    Finds ws (below ws depth v (seen_of visited given)) r numbers' visited'
entered {ws} {numbers} {visited} {v} {given} ready depth r numbers' visited' f =
    subst (λ (s : List ℕ). Finds ws (below ws depth v s) r numbers' visited') (seen-kept visited v given) f

none-some : {X : Type 0} {o : Option (List ℕ)} {s : List ℕ} → o ≡ none → o ≡ some s → X
none-some p q = let z : ◌≡◌ {A = ℕ} 0 1 = cc in absurd (omega arith)

some-none : {n : ℕ} → Some n ≡ None → ⊥
some-none e = let z : ◌≡◌ {A = ℕ} 0 1 = cc in omega arith

found_none : {ws : List ℕ} {found : Option (List ℕ)} (numbers visited : List ℕ) → length numbers ≡ 510 → length visited ≡ 255 →
    found ≡ none → Finds ws found None numbers visited
found_none numbers visited long wide e =
    record { numbers-long = long; visited-long = wide; full = λ _. refl; counted = λ seen q. none-some e q; marks = λ seen q. none-some e q }

module _ {ws numbers visited : List ℕ} {v depth count k : ℕ} {found : Option (List ℕ)}
    (f : Follows ws v depth found numbers visited count k) where
  -- after the last target
  pub found_all : row_end ws v ≤ k → Finds ws found (Some count) numbers visited
  unfolding each_target
  found_all h =
      record {
        numbers-long = f.marks.numbers-long;
        visited-long = f.marks.visited-long;
        full = λ e. none-some e all;
        counted = λ seen e. ap (λ (n : ℕ). Some n) (sym (size seen e));
        marks = λ seen e. rw (size seen e) (same seen e, f.marks);
      }
    where
      all : found ≡ some (seen_of visited count)
      all =
          let q : k ≡ row_end ws v = omega (arith, f.reach) in
          f.whole ∙ ap (λ (i : ℕ). each_target (visit_targets (targets_at ws) depth) (targets_from ws i (row_end ws v)) (seen_of visited count)) q ∙
          ap (λ (l : List ℕ). each_target (visit_targets (targets_at ws) depth) l (seen_of visited count)) (ap (map (λ w. w % scale)) (slice_empty (row_end ws v) ws))

      same : (seen : List ℕ) → found ≡ some seen → seen_of visited count ≡ seen
      same seen e = let q : some (seen_of visited count) ≡ some seen = sym all ∙ e in cc

      size : (seen : List ℕ) → found ≡ some seen → length seen ≡ count
      size seen e = ap length (sym (same seen e)) ∙ length_seen visited count (omega (arith, f.marks.few, f.marks.visited-long))

  -- at a target
  module _ (more : k < row_end ws v) where
    pub target-in : target_at ws k < size ws
    target-in = f.sound.targets v k f.inside f.low more

    seen-count : length (seen_of visited count) ≡ count
    seen-count = length_seen visited count (omega (arith, f.marks.few, f.marks.visited-long))

    here : found ≡ bind (visit_targets (targets_at ws) depth (target_at ws k) (seen_of visited count))
        (each_target (visit_targets (targets_at ws) depth) (targets_from ws (k + 1) (row_end ws v)))
    unfolding each_target
    here =
        rw (add-one k)
        (f.whole ∙ ap (λ (l : List ℕ). each_target (visit_targets (targets_at ws) depth) l (seen_of visited count))
        (ap (map (λ w. w % scale)) (slice-cons k (row_end ws v) ws 0 more (f.sound.shaped.node v f.inside).ended)))

    fails : visit_targets (targets_at ws) depth (target_at ws k) (seen_of visited count) ≡ none → found ≡ none
    unfolding bind
    fails e = here ∙ ap (λ (o : Option (List ℕ)). bind o (each_target (visit_targets (targets_at ws) depth) (targets_from ws (k + 1) (row_end ws v)))) e

    goes : (seen : List ℕ) → visit_targets (targets_at ws) depth (target_at ws k) (seen_of visited count) ≡ some seen →
        found ≡ each_target (visit_targets (targets_at ws) depth) (targets_from ws (k + 1) (row_end ws v)) seen
    unfolding bind
    goes seen e = here ∙ ap (λ (o : Option (List ℕ)). bind o (each_target (visit_targets (targets_at ws) depth) (targets_from ws (k + 1) (row_end ws v)))) e

    -- the target has a number
    pub follow-met : (get_or numbers (target_at ws k) 0 ≡ 65535 → ⊥) → Follows ws v depth found numbers visited count (k + 1)
    follow-met h =
        record {
          sound = f.sound;
          inside = f.inside;
          low = omega (arith, f.low);
          reach = omega arith;
          marks = f.marks;
          whole =
              goes (seen_of visited count) (visit-known (targets_at ws) depth (target_at ws k) (seen_of visited count)
              (number-met (target_at ws k) (seen_of visited count) λ e. h (f.marks.numbered (target_at ws k) target-in ∙ e)));
        }

    -- the target has none
    module _ (fresh : get_or numbers (target_at ws k) 0 ≡ 65535) where
      missed : member eqb (target_at ws k) (seen_of visited count) ≡ false
      missed =
          number-fresh (target_at ws k) (seen_of visited count) (omega (arith, seen-count, f.marks.few))
          (sym (f.marks.numbered (target_at ws k) target-in) ∙ fresh)

      pub found-crowded : 255 ≤ count → Finds ws found None numbers visited
      found-crowded h =
          found_none numbers visited f.marks.numbers-long f.marks.visited-long
          (fails (visit-crowded (targets_at ws) depth (target_at ws k) (seen_of visited count) missed (omega (arith, seen-count))))

      pub found-deep : depth ≡ 0 → Finds ws found None numbers visited
      found-deep e =
          found_none numbers visited f.marks.numbers-long f.marks.visited-long
          (fails (ap (λ (d : ℕ). visit_targets (targets_at ws) d (target_at ws k) (seen_of visited count)) e ∙
          visit-bottom (targets_at ws) (target_at ws k) (seen_of visited count) missed))

      pub ready : count < 255 → Visitable ws numbers visited (target_at ws k) count
      ready h = record { sound = f.sound; marks = f.marks; inside = target-in; fresh = fresh; room = h }

      -- and is visited
      module _ (room : count < 255) (deep : depth ≡ 0 → ⊥) {answer : Answer ℕ} {numbers' visited' : List ℕ}
          (g : Finds ws (below ws (depth - 1) (target_at ws k) (seen_of visited count)) answer numbers' visited') where
        through : visit_targets (targets_at ws) depth (target_at ws k) (seen_of visited count) ≡
            below ws (depth - 1) (target_at ws k) (seen_of visited count)
        through = visit-fresh (targets_at ws) depth (target_at ws k) (seen_of visited count) missed (omega (arith, seen-count)) deep

        Found : Option (List ℕ) → Type 0
        Found o = below ws (depth - 1) (target_at ws k) (seen_of visited count) ≡ o

        pub found-full : answer ≡ None → Finds ws found None numbers' visited'
        unfolding Found
        found-full h = at (below ws (depth - 1) (target_at ws k) (seen_of visited count)) refl
          where
            at : (o : Option (List ℕ)) → Found o → Finds ws found None numbers' visited'
            at none e = found_none numbers' visited' g.numbers-long g.visited-long (fails (through ∙ e))
            at (some seen) e = absurd (some-none (sym (g.counted seen e) ∙ h))

        pub follow-found : {r : ℕ} → answer ≡ Some r → Follows ws v depth found numbers' visited' r (k + 1)
        unfolding Found
        follow-found {r} h = at (below ws (depth - 1) (target_at ws k) (seen_of visited count)) refl
          where
            at : (o : Option (List ℕ)) → Found o → Follows ws v depth found numbers' visited' r (k + 1)
            at none e = absurd (some-none (sym h ∙ g.full e))
            at (some seen) e =
                let same : Some (length seen) ≡ Some r = sym (g.counted seen e) ∙ h in
                let sized : length seen ≡ r = cc in
                let marks : (seen_of visited' r ≡ seen) × Marks ws numbers' visited' r = rw sized at (g.marks seen e) in
                record {
                  sound = f.sound;
                  inside = f.inside;
                  low = omega (arith, f.low);
                  reach = omega arith;
                  marks = marks.1;
                  whole =
                      goes seen (through ∙ e) ∙
                      ap (each_target (visit_targets (targets_at ws) depth) (targets_from ws (k + 1) (row_end ws v))) (sym marks.0);
                }

-- The numbering of a whole graph.

-- one node more has its number taken away
pub clear-more : (numbers : List ℕ) (v : ℕ) → v < length numbers → ((w : ℕ) → w < v → get_or numbers w 0 ≡ 65535) →
    (w : ℕ) → w < v + 1 → get_or (set numbers v 65535) w 0 ≡ 65535
clear-more numbers v long done w h = at (ℕ_discrete w v)
  where
    at : Dec (w ≡ v) → get_or (set numbers v 65535) w 0 ≡ 65535
    at (yes e) = ap (λ (u : ℕ). get_or (set numbers v 65535) u 0) e ∙ get_or-set_same numbers v 65535 0 long
    at (no d) = get_or-set_other numbers v w 65535 0 d ∙ done w (omega arith)

-- no node is seen at the start
pub unmarked : (ws numbers visited : List ℕ) → length numbers ≡ 510 → length visited ≡ 255 →
    ((v : ℕ) → v < size ws → get_or numbers v 0 ≡ 65535) → Marks ws numbers visited 0
unfolding number_among
unmarked ws numbers visited long wide clear =
    record { numbers-long = long; visited-long = wide; few = omega arith; numbered = clear; placed = λ i h. absurd (omega arith) }

pub numbered : {r : Answer ℕ} (ws numbers visited visited₀ : List ℕ) →
    Finds ws (below ws 254 0 (seen_of visited₀ 0)) r numbers visited → Numbers ws r numbers visited
unfolding visit_targets member
numbered {r} ws numbers visited visited₀ f =
    record {
      full = λ e. f.full e;
      counted = λ seen e. f.counted seen e;
      by_number_lem = λ seen e i h. sym (same seen e i h);
      by-node = λ seen e i h.
          ap (λ (v : ℕ). get_or numbers v 0) (same seen e i h) ∙ (f.marks seen e).1.placed i h;
    }
  where
    same : (seen : List ℕ) → below ws 254 0 [] ≡ some seen → (i : ℕ) → i < length seen → get_or (reverse seen) i 0 ≡ get_or visited i 0
    same seen e i h =
        ap (λ (l : List ℕ). get_or (reverse l) i 0) (sym (f.marks seen e).0) ∙
        ap (λ (l : List ℕ). get_or l i 0) (reverse-reverse (take (length seen) visited)) ∙ get_or-take (length seen) visited i 0 h
