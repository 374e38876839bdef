-- The loop that builds the graph of the classes, each row after those before it.
use Rattle.std.proofs.Common.{◌≡◌, ℕ, suc, ◌+◌, ◌-◌, ◌*◌, ◌<◌, ◌≤◌, Bool, true, false, cond, eqb, List, length, get_or, set, sym, ap, ◌∙◌, subst, add-one, arith, length-set, eq-eqb}
use native.Mathlib.Decide.{dec_lt}
use Rattle.lattice.specs.Label.{Label}
use Rattle.lattice.specs.Labels.{Known}
use Rattle.layout.specs.Layout.{header, size, row_from, links_from, row_end, label_from, label_at, target_at}
use Rattle.layout.specs.Builder.{Built, Open, put_label}
use Rattle.layout.proofs.Builder.{label-put, label_same, length-put, put-before, built-kept, built-begin, row_closes}
use Rattle.classes.specs.Classes.{row_length, sum_to}
use Rattle.classes.proofs.Roots.{stored, unstored}
use Rattle.classes.proofs.Sums.{sum-prefix}
use Rattle.merging.specs.Lowered.{Below, label_of_class}
use Rattle.merging.specs.Rows.{Fillable, RowCopied, ClassRows, ClassGraph, class_word, end_of_row}

pub record Filling (nodes : ℕ) (class labels start end pool graph : List ℕ) (at x : ℕ) : Type 0 where
  pub given : Fillable nodes class start end pool (length graph)
  pub labelled : Below 128 labels
  pub most : x ≤ nodes
  pub long : length graph ≤ 65535
  pub sized : size graph ≡ nodes
  pub built : Built graph (nodes + 2) x at
  pub counted : at ≡ ((nodes + 2) + x * header) + sum_to x (row_length (λ y. get_or class y 0) start end)
  pub rows : ClassRows x class labels start end pool graph

-- The end of a node's row by its length.
row-end-is : (class start end : List ℕ) (x : ℕ) → get_or start x 0 ≤ get_or end x 0 →
    (get_or start x 0 + row_length (λ y. get_or class y 0) start end x ≡ end_of_row class start end x) × (end_of_row class start end x ≤ get_or end x 0)
row-end-is class start end x h = go (eqb (get_or class x 0) x)
  where
    go : (t : Bool) →
        (get_or start x 0 + cond t (get_or end x 0 - get_or start x 0) 0 ≡ cond t (get_or end x 0) (get_or start x 0)) ×
        (cond t (get_or end x 0) (get_or start x 0) ≤ get_or end x 0)
    go true = (omega arith, omega arith)
    go false = (omega arith, omega arith)

pub fill_start : {nodes : ℕ} {class start end pool : List ℕ} (graph : List ℕ) → Fillable nodes class start end pool (length graph) →
    {labels : List ℕ} → Below 128 labels → length graph ≤ 65535 → Filling nodes class labels start end pool (set (set graph 0 nodes) 1 (nodes + 2)) (nodes + 2) 0
unfolding sum_to
fill_start {nodes} {class} {start} {end} {pool} graph given labelled long =
    record {
      given = subst (Fillable nodes class start end pool) (sym long'') given;
      labelled = labelled;
      most = omega arith;
      long = omega (arith, long'');
      sized = unstored (set graph 0 nodes) 1 (nodes + 2) 0 (λ e. omega arith) ∙ stored graph 0 nodes (omega (arith, given.fits));
      built = built-begin (set graph 0 nodes) (nodes + 2) (omega arith) (omega (arith, long', given.fits));
      counted = omega arith;
      rows =
          record {
            lengths = λ y h. absurd (omega arith);
            labels-are = λ y h. absurd (omega arith);
            words_are = λ y i h. absurd (omega arith);
          };
    }
  where
    long' : length (set graph 0 nodes) ≡ length graph
    long' = length-set graph 0 nodes

    long'' : length (set (set graph 0 nodes) 1 (nodes + 2)) ≡ length graph
    long'' = length-set (set graph 0 nodes) 1 (nodes + 2) ∙ long'

module _ {nodes : ℕ} {class labels start end pool graph : List ℕ} {at x : ℕ} (s : Filling nodes class labels start end pool graph at x)
    (more : x < nodes) where
  abbrev row_size : ℕ
  row_size = row_length (λ y. get_or class y 0) start end x

  abbrev label : Label
  label = label_of_class labels (get_or class x 0)

  pub label-known : Known 128 (label_of_class labels (get_or class x 0))
  label-known = s.labelled (get_or class x 0) (s.given.classed x more)

  ends : (get_or start x 0 + row_size ≡ end_of_row class start end x) × (end_of_row class start end x ≤ get_or end x 0)
  ends = row-end-is class start end x (s.given.rising x more).0

  fits : at + header + row_size ≤ length graph
  unfolding sum_to
  fits =
      omega (
        arith,
        s.counted,
        sum-prefix nodes (suc x) (row_length (λ y. get_or class y 0) start end) more,
        s.given.fits,
      )

  pub fill-room : at + header ≤ length graph
  fill-room = omega (arith, fits)

  module _ {opened : List ℕ} (opens : opened ≡ put_label graph at label) where
    opened-long : length opened ≡ length graph
    opened-long = ap length opens ∙ length-put graph at label

    -- What copying the row asks for.
    pub fill-asks : ((get_or start x 0 ≤ end_of_row class start end x) × (end_of_row class start end x ≤ length pool) ×
        (at + header + end_of_row class start end x ≤ length opened + get_or start x 0) × (length opened ≤ 65535)) ×
        ((k : ℕ) → get_or start x 0 ≤ k → k < end_of_row class start end x → (target_at pool k < 510) × (get_or class (target_at pool k) 0 < 510))
    fill-asks = (
      (
        omega (arith, ends.0),
        omega (arith, ends.1, (s.given.rising x more).2),
        omega (arith, ends.0, fits, opened-long),
        omega (arith, opened-long, s.long),
      ),
      λ k low high. s.given.within x k more (low, omega (arith, ends.1)),
    )

  module _ {opened : List ℕ} (opens : opened ≡ put_label graph at label) {graph' : List ℕ} {next : ℕ}
      (copied : RowCopied class pool (get_or start x 0) (end_of_row class start end x) (at + header) opened graph' next) where
    length-is : next ≡ at + header + row_size
    length-is = omega (arith, copied.counted, ends.0)

    pub fill-bound : next ≤ length graph
    fill-bound = omega (arith, length-is, fits)

    long' : length graph' ≡ length graph
    long' = copied.long ∙ opened-long opens

    pub fill-place : x + 2 < length graph'
    fill-place = omega (arith, long', s.given.fits)

    pub fill-long : length (set graph' (x + 2) next) ≡ length graph
    fill-long = length-set graph' (x + 2) next ∙ long'

    kept : (k : ℕ) → k < at → get_or graph' k 0 ≡ get_or graph k 0
    kept k h =
        copied.kept k (omega arith) ∙ ap (λ (ws : List ℕ). get_or ws k 0) opens ∙ put-before graph at label k (k + 1) (omega arith) k (omega arith) (omega arith)

    low : x + 2 < at
    low = omega (arith, s.built.low)

    row_open : Open graph' (nodes + 2) x at next
    row_open =
        record {
          built = built-kept s.built graph' long' (λ k _ h. kept k (omega (arith, low)));
          headed = omega (arith, length-is);
          inside = omega (arith, fill-bound, long');
        }

    after : (k : ℕ) → (k ≡ x + 2 → ⊥) → get_or (set graph' (x + 2) next) k 0 ≡ get_or graph' k 0
    after k d = unstored graph' (x + 2) next k d

    still : (k : ℕ) → k < at → (k ≡ x + 2 → ⊥) → get_or (set graph' (x + 2) next) k 0 ≡ get_or graph k 0
    still k h d = after k d ∙ kept k h

    -- where rows begin and end
    from_old : (y : ℕ) → y < x → row_from (set graph' (x + 2) next) y ≡ row_from graph y
    from_old y h = still (y + 1) (omega (arith, low)) (λ e. omega arith)

    end-old : (y : ℕ) → y < x → row_end (set graph' (x + 2) next) y ≡ row_end graph y
    end-old y h = still (y + 2) (omega (arith, low)) (λ e. omega arith)

    from-new : row_from (set graph' (x + 2) next) x ≡ at
    from-new = still (x + 1) (omega (arith, low)) (λ e. omega arith) ∙ s.built.next

    end-new : row_end (set graph' (x + 2) next) x ≡ next
    end-new = stored graph' (x + 2) next (omega (arith, long', s.given.fits))

    own-end : get_or class x 0 ≡ x → end_of_row class start end x ≡ get_or end x 0
    own-end own = ap (λ (t : Bool). cond t (get_or end x 0) (get_or start x 0)) (eq-eqb (get_or class x 0) x own)

    rows' : ClassRows (x + 1) class labels start end pool (set graph' (x + 2) next)
    rows' =
        record {
          lengths = λ y h. lengths y h (dec_lt y x);
          labels-are = λ y h. labels-are y h (dec_lt y x);
          words_are = λ y i h own inside. words_are y i h own inside (dec_lt y x);
        }
      where
        lengths : (y : ℕ) → y < x + 1 → Dec (y < x) →
            row_end (set graph' (x + 2) next) y ≡ links_from (set graph' (x + 2) next) y + row_length (λ y. get_or class y 0) start end y
        lengths y h (yes l) = omega (arith, from_old y l, end-old y l, s.rows.lengths y l)
        lengths y h (no n) =
            let e : x ≡ y = omega arith in
            subst
            (λ (z : ℕ).
            row_end (set graph' (x + 2) next) z ≡ links_from (set graph' (x + 2) next) z + row_length (λ y. get_or class y 0) start end z)
            e (omega (arith, from-new, end-new, length-is))

        labels-are : (y : ℕ) → y < x + 1 → Dec (y < x) → label_at (set graph' (x + 2) next) y ≡ label_of_class labels (get_or class y 0)
        labels-are y h (yes l) =
            ap (label_from (set graph' (x + 2) next)) (from_old y l) ∙
            label_same graph (set graph' (x + 2) next) (row_from graph y)
            (λ k a b.
            still k (omega (arith, s.built.begun y l, s.built.ended y l)) (λ e. omega (arith, s.built.lower y l))) ∙
            s.rows.labels-are y l
        labels-are y h (no n) =
            let e : x ≡ y = omega arith in
            subst (λ (z : ℕ). label_at (set graph' (x + 2) next) z ≡ label_of_class labels (get_or class z 0)) e
            (ap (label_from (set graph' (x + 2) next)) from-new ∙
            label_same opened (set graph' (x + 2) next) at
            (λ k a b. after k (λ q. omega (arith, low)) ∙ copied.kept k b) ∙
            ap (λ (ws : List ℕ). label_from ws at) opens ∙ label-put graph at label fill-room label-known.highest)

        words_are : (y i : ℕ) → y < x + 1 → get_or class y 0 ≡ y → get_or start y 0 + i < get_or end y 0 → Dec (y < x) →
            get_or (set graph' (x + 2) next) (links_from (set graph' (x + 2) next) y + i) 0 ≡ class_word class (get_or pool (get_or start y 0 + i) 0)
        words_are y i h own inside (yes l) =
            let own-length = ap (λ (t : Bool). cond t (get_or end y 0 - get_or start y 0) 0) (eq-eqb (get_or class y 0) y own) in
            let high : links_from graph y + i < at = omega (arith, own-length, s.rows.lengths y l, s.built.ended y l) in
            ap (λ (z : ℕ). get_or (set graph' (x + 2) next) ((z + header) + i) 0) (from_old y l) ∙
            still (links_from graph y + i) high (λ e. omega (arith, s.built.lower y l)) ∙
            s.rows.words_are y i l own inside
        words_are y i h own inside (no n) =
            let e : y ≡ x = omega arith in
            let own' : get_or class x 0 ≡ x = subst (λ (z : ℕ). get_or class z 0 ≡ z) e own in
            let inside' : get_or start x 0 + i < get_or end x 0 = subst (λ (z : ℕ). get_or start z 0 + i < get_or end z 0) e inside in
            subst
            (λ (z : ℕ).
            get_or (set graph' (x + 2) next) (links_from (set graph' (x + 2) next) z + i) 0 ≡ class_word class (get_or pool (get_or start z 0 + i) 0))
            (sym e)
            (ap (λ (z : ℕ). get_or (set graph' (x + 2) next) ((z + header) + i) 0) from-new ∙
            after ((at + header) + i) (λ q. omega (arith, low)) ∙ copied.words_are i (omega (arith, own-end own')))

    pub fill_step : Filling nodes class labels start end pool (set graph' (x + 2) next) next (x + 1)
    unfolding sum_to
    fill_step =
        record {
          given = subst (Fillable nodes class start end pool) (sym fill-long) s.given;
          labelled = s.labelled;
          most = omega arith;
          long = omega (arith, fill-long, s.long);
          sized = still 0 (omega (arith, low)) (λ e. omega arith) ∙ s.sized;
          built = row_closes row_open (omega arith);
          counted = counted;
          rows = rows';
        }
      where
        counted : next ≡ ((nodes + 2) + (x + 1) * header) + sum_to (x + 1) (row_length (λ y. get_or class y 0) start end)
        counted =
            omega (
              arith,
              length-is,
              s.counted,
              ap (λ (z : ℕ). sum_to z (row_length (λ y. get_or class y 0) start end)) (add-one x),
            )

-- All rows are built.
pub fill_done : {nodes : ℕ} {class labels start end pool graph : List ℕ} {at x : ℕ} → Filling nodes class labels start end pool graph at x →
    nodes ≤ x → ClassGraph nodes class labels start end pool graph
fill_done {nodes} {class} {labels} {start} {end} {pool} {graph} {at} {x} s h =
    let e : x ≡ nodes = omega (arith, s.most) in
    record {
      sized = s.sized;
      begun = λ y i. s.built.lower y (omega arith);
      ended = λ y i. omega (arith, s.built.ended y (omega arith), s.built.high);
      rows = subst (λ (n : ℕ). ClassRows n class labels start end pool graph) e s.rows;
    }
