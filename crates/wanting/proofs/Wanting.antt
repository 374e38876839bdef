-- Lemmas about the wanted labels. The loop of `meet_over` meets the labels of g's nodes from the last to the first, and the loop of
-- `wanted_labels` searches once for each node of s.
use mathlib.Core.Path.{◌≡◌, refl, sym, ◌∙◌, ap, subst}
use mathlib.Core.Bool.{Bool, true, false, cond}
use mathlib.Core.List.{List, ◌++◌}
use mathlib.Core.Option
use mathlib.Core.Option.{Option, none, some, map-eq-some_iff}
use Prim.Native.Nat.{ℕ, zero, suc, ◌+◌, ◌-◌, ◌*◌, ◌≤◌, ◌<◌, min, max}
use native.Mathlib.Decide.{ℕ_discrete}
use native.Mathlib.Omega.{arith}
use borrow.Author.Tests.{eq-eqb, ne_eqb}
use lib.Dec.{eqb}
use Rattle.std.specs.Prelude.{Option as Answer, None, Some, is_some, unwrap_or}
use Rattle.wanting.specs.declared.Meet.{Meet}
use lib.Bits.{bit_and}
use lib.ListN.{length, get_or, set, length-set, replicate, take, drop, length-append, length-drop, length-replicate, get_or-replicate, get_or-append}
use Rattle.std.proofs.Common.{length-take-le}
use lib.Seq.{get_or-set_same, get_or-set_other}
use Rattle.graphs.specs.Rows.{from}
use Rattle.graphs.specs.Difference.{meet_where}
use Rattle.lattice.specs.Label.{Label, plain}
use Rattle.lattice.specs.Labels.{table_labels, Known, wanted_level, wanted_label}
use Rattle.lattice.specs.Table.{accepted, found, answer, wanted}
use Rattle.lattice.specs.Words.{Words}
use Rattle.lattice.proofs.Every.{every-all, every-fails, true-not-false}
use Rattle.lattice.proofs.Laws.{accepted-size, top-type, wanted-type}
use Rattle.lattice.proofs.Lawful.{label-parts, plain_known, meet-known}
use Rattle.lattice.proofs.Restoring.{meet-word}
use Rattle.layout.specs.Layout.{header, label_from, size, label_at, Shaped}
use Rattle.layout.specs.Builder.{put_label}
use Rattle.layout.proofs.Builder.{label_same, length-put, put-before, label-put}
use Rattle.wanting.specs.Asked.{Asked}
use Rattle.wanting.specs.Wanted.{LabelsOver, no_meet, meet_of, Met, MetBy, WantedLabelOver, wanted_at, Wants, WantsAll, met_from}

-- The meet of labels.

-- The meet from y on is the label of y, if y lies over v, met with the meet from the next node on.
met-cons : (n : ℕ) (t g map : List ℕ) (y c v : ℕ) → met_from n t g map y (suc c) v ≡
    cond (eqb (get_or map y 0) v) ((table_labels n t).meet (label_at g y) (met_from n t g map (suc y) c v)) (met_from n t g map (suc y) c v)
unfolding met_from meet_where from
met-cons n t g map y c v = refl

-- A meet of labels of the table is a label of the table.
met-known : (n : ℕ) (t g map : List ℕ) → accepted n t ≡ true → (y c v : ℕ) → ((x : ℕ) → x < y + c → Known n (label_at g x)) →
    Known n (met_from n t g map y c v)
unfolding met_from meet_where from
met-known n t g map ok y zero v known = plain_known n (n - 1) (top-type n t ok)
met-known n t g map ok y (suc c) v known =
    go (eqb (get_or map y 0) v) (met-known n t g map ok (suc y) c v (λ x l. known x (omega arith)))
  where
    go : (b : Bool) → Known n (met_from n t g map (suc y) c v) →
        Known n (cond b ((table_labels n t).meet (label_at g y) (met_from n t g map (suc y) c v)) (met_from n t g map (suc y) c v))
    go true later = meet-known n t ok (label_at g y) (met_from n t g map (suc y) c v) (known y (omega arith)) later
    go false later = later

-- a label met with a meet, as the code holds both
abbrev meet_with : List ℕ → Label → Meet → Meet
meet_with ws a m =
    record { word = bit_and (get_or ws a.type 0) m.word; lowest = max a.lowest m.lowest; highest = min a.highest m.highest }

-- The array has the meet over each node, taken over the nodes of g after y.
module _ (n : ℕ) (t ws : List ℕ) (nodes : ℕ) (g map : List ℕ) (y c : ℕ) where
  abbrev rest : ℕ → Label
  rest v = met_from n t g map (suc y) c v

  -- The label of y enters the meet at the node of s that y lies over.
  met-more : (met : List Meet) →
      ((v : ℕ) → meet_of ws ((table_labels n t).meet (label_at g y) (rest v)) ≡ meet_with ws (label_at g y) (meet_of ws (rest v))) →
      get_or map y 0 < length met → get_or map y 0 < nodes → Met n t ws nodes g map (suc y) c met →
      Met n t ws nodes g map y (suc c) (set met (get_or map y 0) (meet_with ws (label_at g y) (get_or met (get_or map y 0) no_meet)))
  met-more met law room inside before v l = go (ℕ_discrete v u) ∙ ap (meet_of ws) (sym (met-cons n t g map y c v))
    where
      u : ℕ
      u = get_or map y 0

      a : Label
      a = label_at g y

      new : Meet
      new = meet_with ws a (get_or met u no_meet)

      go : Dec (v ≡ u) → get_or (set met u new) v no_meet ≡ meet_of ws (cond (eqb u v) ((table_labels n t).meet a (rest v)) (rest v))
      go (yes e) =
          ap (λ (i : ℕ). get_or (set met u new) i no_meet) e ∙ get_or-set_same met u new no_meet room ∙
          ap (meet_with ws a) (before u inside ∙ ap (λ (i : ℕ). meet_of ws (rest i)) (sym e)) ∙ sym (law v) ∙
          ap (λ (b : Bool). meet_of ws (cond b ((table_labels n t).meet a (rest v)) (rest v))) (sym (eq-eqb u v (sym e)))
      go (no d) =
          get_or-set_other met u v new no_meet d ∙ before v l ∙
          ap (λ (b : Bool). meet_of ws (cond b ((table_labels n t).meet a (rest v)) (rest v))) (sym (ne_eqb u v (λ e. d (sym e))))

-- The array holds the meet over each node of s, taken over the nodes of g from y on, for every accepted table with these words.
pub record Meeting (n : ℕ) (ws : List ℕ) (nodes : ℕ) (g map : List ℕ) (y : ℕ) (met : List Meet) : Type 0 where
  pub labelled : LabelsOver n nodes g map
  pub left : y ≤ size g
  pub long : length met ≡ 255
  pub each : (t : List ℕ) → accepted n t ≡ true → Words n t false ws → Met n t ws nodes g map y (size g - y) met

-- The bounds that a turn of the loop needs at node y of g and at its node of s.
pub record Turn (n : ℕ) (g map : List ℕ) (y : ℕ) : Type 0 where
  pub few : n ≤ 64
  pub small : y < 255
  pub inside : y < size g
  pub stored : get_or map y 0 < 255
  pub known : Known n (label_at g y)

module _ {n : ℕ} {ws : List ℕ} {nodes : ℕ} {g map : List ℕ} where
  pub met_start : {met : List Meet} → LabelsOver n nodes g map → length met ≡ 255 →
      ((v : ℕ) → v < nodes → get_or met v no_meet ≡ meet_of ws (plain (n - 1))) → Meeting n ws nodes g map (size g) met
  unfolding met_from meet_where from
  met_start labelled long top =
      let z : size g - size g ≡ 0 = omega arith in
      record {
        labelled = labelled;
        left = omega arith;
        long = long;
        each = λ t ok words. rw z top;
      }

  -- The places of the nodes hold top.
  pub met-filled : (met : List Meet) {first : List Meet} → LabelsOver n nodes g map → length met ≡ 255 →
      first ≡ replicate (length (take nodes met)) (meet_of ws (plain (n - 1))) → Meeting n ws nodes g map (size g) (first ++ drop nodes met)
  met-filled met {first} labelled long e =
      met_start labelled (length-append first (drop nodes met) ∙ omega (arith, filled, length-drop nodes met, labelled.small)) λ v h.
      get_or-append first (drop nodes met) no_meet v (omega (arith, filled)) ∙
      ap (λ (r : List Meet). get_or r v no_meet) e ∙
      get_or-replicate (length (take nodes met)) v (meet_of ws (plain (n - 1))) no_meet (omega (arith, taken))
    where
      taken : length (take nodes met) ≡ nodes
      taken = length-take-le nodes met (omega (arith, long, labelled.small))

      filled : length first ≡ nodes
      filled = ap length e ∙ length-replicate (length (take nodes met)) (meet_of ws (plain (n - 1))) ∙ taken

  module _ {y : ℕ} {met : List Meet} (m : Meeting n ws nodes g map y met) (h : 0 < y) where
    lower : y - 1 < size g
    lower = omega (arith, m.left)

    pub turn-known : Turn n g map (y - 1)
    turn-known =
        record {
          few = m.labelled.few;
          small = omega (arith, lower, m.labelled.upper-small);
          inside = lower;
          stored = omega (arith, m.labelled.mapped (y - 1) lower, m.labelled.small);
          known = m.labelled.known (y - 1) lower;
        }

    abbrev u : ℕ
    u = get_or map (y - 1) 0

    abbrev a : Label
    a = label_at g (y - 1)

    -- A turn of the loop goes from y to y - 1.
    pub met-down : Meeting n ws nodes g map (y - 1) (set met u (meet_with ws a (get_or met u no_meet)))
    met-down =
        record {
          labelled = m.labelled;
          left = omega (arith, m.left);
          long = length-set met u (meet_with ws a (get_or met u no_meet)) ∙ m.long;
          each = each;
        }
      where
        inside : u < nodes
        inside = m.labelled.mapped (y - 1) lower

        each : (t : List ℕ) → accepted n t ≡ true → Words n t false ws →
            Met n t ws nodes g map (y - 1) (size g - (y - 1)) (set met u (meet_with ws a (get_or met u no_meet)))
        each t ok words =
            let first : y ≡ suc (y - 1) = omega arith in
            let more : suc (size g - y) ≡ size g - (y - 1) = omega (arith, m.left) in
            subst (λ (c : ℕ). Met n t ws nodes g map (y - 1) c (set met u (meet_with ws a (get_or met u no_meet)))) more
            (met-more n t ws nodes g map (y - 1) (size g - y) met law (omega (arith, m.long, turn-known.stored)) inside
            (subst (λ (i : ℕ). Met n t ws nodes g map i (size g - y) met) first (m.each t ok words)))
          where
            behind : ℕ → Label
            behind v = met_from n t g map (suc (y - 1)) (size g - y) v

            with_word : ℕ → Label → Meet
            with_word w b = record { word = w; lowest = max a.lowest b.lowest; highest = min a.highest b.highest }

            law : (v : ℕ) → meet_of ws ((table_labels n t).meet a (behind v)) ≡ meet_with ws a (meet_of ws (behind v))
            law v =
                ap (λ (w : ℕ). with_word w (behind v))
                (sym (meet-word n t ws ok words a.type (behind v).type (m.labelled.known (y - 1) lower).type
                (met-known n t g map ok (suc (y - 1)) (size g - y) v (λ x l. m.labelled.known x (omega (arith, m.left)))).type))

    -- `met-down`, for an equal label and equal levels.
    pub met-down-as : {label : Label} {low high : ℕ} → label ≡ label_at g (y - 1) →
        low ≡ max label.lowest (get_or met (get_or map (y - 1) 0) no_meet).lowest →
        high ≡ min label.highest (get_or met (get_or map (y - 1) 0) no_meet).highest →
        Meeting n ws nodes g map (y - 1)
        (set met (get_or map (y - 1) 0)
        (record { word = bit_and (get_or ws label.type 0) (get_or met (get_or map (y - 1) 0) no_meet).word; lowest = low; highest = high }))
    met-down-as e p q = rw (p, q, e) met-down

  pub met-done : {y : ℕ} {met : List Meet} → Meeting n ws nodes g map y met → y ≤ 0 → MetBy n ws nodes g map met
  met-done {y} {met} m h t ok words =
      let e : y ≡ 0 = omega arith in
      let d : size g - y ≡ size g = omega arith in
      subst (λ (i : ℕ). Met n t ws nodes g map i (size g) met) e
      (subst (λ (c : ℕ). Met n t ws nodes g map y c met) d (m.each t ok words))

-- Wanted labels.

some-is-none : {A : Type 0} {x : A} → Some x ≡ None → ⊥
some-is-none e = true-not-false true refl (ap is_some e)

same-some : {x y : ℕ} → Some x ≡ Some y → x ≡ y
same-some {x} {y} e = ap (λ (o : Answer ℕ). unwrap_or o 0) e

answer-some : (x : Label) (o : Option Label) → Some x ≡ answer o → o ≡ some x
answer-some x none e = absurd (some-is-none e)
answer-some x (some y) e = ap (λ (r : Answer Label). some (unwrap_or r x)) (sym e)

answer-none : (o : Option Label) → None ≡ answer o → found o ≡ false
answer-none none e = refl
answer-none (some x) e = absurd (some-is-none (sym e))

-- The label with the type c and the wanted levels of p over q.
abbrev wanted_of : Label → Label → ℕ → Label
wanted_of p q c =
    record { type = c; lowest = wanted_level 0 p.lowest q.lowest; highest = wanted_level 255 p.highest q.highest }

-- The answer of the search for a wanted type, with the wanted levels, is the answer for the wanted label.
pub wanted-some : (n : ℕ) (t : List ℕ) (p q label : Label) → Some label.type ≡ answer (wanted n t p.type q.type) →
    label.lowest ≡ wanted_level 0 p.lowest q.lowest → label.highest ≡ wanted_level 255 p.highest q.highest →
    Some label ≡ answer (wanted_label n t p q)
unfolding wanted_label
wanted-some n t p q label e low high = go (wanted n t p.type q.type) e
  where
    go : (o : Option ℕ) → Some label.type ≡ answer o → Some label ≡ answer (Option.map (wanted_of p q) o)
    go none e = absurd (some-is-none e)
    go (some c) e = ap Some (label-parts (same-some e) low high)

pub wanted-none : (n : ℕ) (t : List ℕ) (p q : Label) → None ≡ answer (wanted n t p.type q.type) → None ≡ answer (wanted_label n t p q)
unfolding wanted_label
wanted-none n t p q e = go (wanted n t p.type q.type) e
  where
    go : (o : Option ℕ) → None ≡ answer o → None ≡ answer (Option.map (wanted_of p q) o)
    go none e = refl
    go (some c) e = absurd (some-is-none (sym e))

-- A wanted level is at most 255.
level-most : (widest p q : ℕ) → widest ≤ 255 → p ≤ 255 → wanted_level widest p q ≤ 255
level-most widest p q a b = go (eqb p q)
  where
    go : (b : Bool) → cond b widest p ≤ 255
    go true = a
    go false = b

-- a wanted label is a label of the table
pub wanted-known : (n : ℕ) (t : List ℕ) (p q c : Label) → Known n p → wanted_label n t p q ≡ some c → Known n c
unfolding wanted_label
wanted-known n t p q c k e =
    let (a, d, f) = (map-eq-some_iff (wanted_of p q) (wanted n t p.type q.type)).0 e in
    subst (Known n) f
    (record {
      type = wanted-type n t p.type q.type a d;
      lowest = level-most 0 p.lowest q.lowest (omega arith) k.lowest;
      highest = level-most 255 p.highest q.highest (omega arith) k.highest;
    })

-- The wanted labels of the nodes before k are stored, and the arrays hold the meets.
pub record Wanting (n : ℕ) (t ws s g map : List ℕ) (met : List Meet) (k : ℕ) (labels : List ℕ) : Type 0 where
  pub ok : accepted n t ≡ true
  pub words : Words n t false ws
  pub few : n ≤ 64
  pub shaped : Shaped s
  pub small : size s ≤ 255
  pub known : (v : ℕ) → v < size s → Known n (label_at s v)
  pub upper-known : (y : ℕ) → y < size g → Known n (label_at g y)
  pub met-each : Met n t ws (size s) g map 0 (size g) met
  pub left : k ≤ size s
  pub wants : Wants n t s g map k labels

module _ {n : ℕ} {t ws s g map : List ℕ} {met : List Meet} where
  pub wants-start : {labels : List ℕ} → Asked n t g s map → length labels ≡ 510 → Words n t false ws →
      Met n t ws (size s) g map 0 (size g) met → Wanting n t ws s g map met 0 labels
  wants-start asked long words each =
      record {
        ok = asked.ok;
        words = words;
        few = (accepted-size n t asked.ok).1;
        shaped = asked.lower.sound.shaped;
        small = asked.lower.small;
        known = asked.lower-typed;
        upper-known = asked.upper-typed;
        met-each = each;
        left = omega arith;
        wants = record { long = long; each = λ v h. absurd (omega arith) };
      }

  module _ {k : ℕ} {p : Label} {r : Answer Label} {labels : List ℕ} (w : Wanting n t ws s g map met k labels) (h : k < size s)
      (own : p ≡ label_at s k) (over : WantedLabelOver n ws p (get_or met k no_meet) r) where
    told : r ≡ answer (wanted_at n t s g map k)
    told =
        subst (λ (l : Label). WantedLabelOver n ws l (get_or met k no_meet) r) own over t w.ok
        w.words (met_from n t g map 0 (size g) k)
        (met-known n t g map w.ok 0 (size g) k (λ x l. w.upper-known x (omega arith)))
        (w.met-each k h)

    pub wants-next : {label : Label} {labels' : List ℕ} → r ≡ Some label → labels' ≡ put_label labels (2 * k) label →
        Wanting n t ws s g map met (k + 1) labels'
    wants-next {label} {labels'} there e =
        record {
          ok = w.ok;
          words = w.words;
          few = w.few;
          shaped = w.shaped;
          small = w.small;
          known = w.known;
          upper-known = w.upper-known;
          met-each = w.met-each;
          left = omega arith;
          wants = subst (Wants n t s g map (k + 1)) (sym e)
              (record { long = length-put labels (2 * k) label ∙ w.wants.long; each = λ v l. each v l (ℕ_discrete v k) });
        }
      where
        is : wanted_at n t s g map k ≡ some label
        is = answer-some _ _ (sym there ∙ told)

        here : label_from (put_label labels (2 * k) label) (2 * k) ≡ label
        here =
            label-put labels (2 * k) label (omega (arith, w.wants.long, w.small))
            (wanted-known n t (label_at s k) (met_from n t g map 0 (size g) k) label (w.known k h) is).highest

        each : (v : ℕ) → v < k + 1 → Dec (v ≡ k) → wanted_at n t s g map v ≡ some (label_from (put_label labels (2 * k) label) (2 * v))
        each v l (yes d) =
            ap (wanted_at n t s g map) d ∙ is ∙
            ap some (sym (ap (λ (i : ℕ). label_from (put_label labels (2 * k) label) (2 * i)) d ∙ here))
        each v l (no d) =
            w.wants.each v (omega arith) ∙
            ap some
            (sym (label_same labels (put_label labels (2 * k) label) (2 * v) (put-before labels (2 * k) label (2 * v) (2 * v + header) (omega arith))))

    -- If node k has no wanted label, the answer is false.
    pub wants-none : r ≡ None → (labels' : List ℕ) → WantsAll n t s g map false labels'
    wants-none missing labels' =
        record {
          answers = sym (every-fails (λ v. found (wanted_at n t s g map v)) (size s) k h (answer-none _ (sym missing ∙ told)));
          wants = λ q. let z : ◌≡◌ {A = ℕ} 0 1 = cc in absurd (omega arith);
        }

  pub wants-done : {k : ℕ} {labels : List ℕ} → Wanting n t ws s g map met k labels → size s ≤ k →
      WantsAll n t s g map true labels
  wants-done {k} {labels} w h =
      record {
        answers = sym (every-all (λ v. found (wanted_at n t s g map v)) (size s) λ v l. ap found (w.wants.each v (omega arith)));
        wants = λ q. record { long = w.wants.long; each = λ v l. w.wants.each v (omega arith) };
      }
