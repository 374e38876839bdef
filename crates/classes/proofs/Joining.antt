-- The classes while pairs of nodes wait to be joined. Nodes of one class, and nodes that wait as a pair, are the same by the relation of the
-- links. Every function that is constant on the classes and on the waiting pairs is constant on all that the classes' rows have yet to join
-- (`kept`). With no pair waiting, the root is such a function.
use mathlib.Core.Path.{◌≡◌, refl, sym, ◌∙◌, ap, ap₂, subst}
use mathlib.Core.Bool.{Bool, true, false, cond}
use mathlib.Core.List.{List}
use mathlib.Core.Logic.{◌⊎◌, inl, inr, ⊎_elim}
use Prim.Native.Nat.{ℕ, suc, ◌+◌, ◌-◌, ◌*◌, ◌≤◌, ◌<◌}
use native.Mathlib.Decide.{dec_lt, ℕ_discrete}
use native.Mathlib.Nat.{mul-suc, mul-le-mul_left}
use native.Mathlib.Omega.{arith}
use borrow.Author.Tests.{eq-eqb, ne_eqb}
use lib.Dec.{eqb}
use lib.ListN.{length, get_or, set, length-set}
use Rattle.classes.specs.Forest.{root_of, Forest, SameRoots}
use Rattle.layout.specs.Layout.{feature_at, target_at}
use Rattle.classes.specs.Merge.{Places, Span, Merged, left_at, right_at}
use Rattle.classes.specs.Classes.{sum_to, row_length, links_of, Roomy, At, Rows, Same, roots, itself, back, next, down, Closed}
use Rattle.classes.proofs.Roots.{
  stored,
  unstored,
  root-low,
  root-twice,
  fixed-root,
  joined,
  joined-here,
  joined-other,
  hung-forest,
  hung-roots,
  separate-forest,
}
use Rattle.classes.proofs.Sums.{sum_same, sum-most, sum_one, sum-two, sum-change, sum-changes}
use Rattle.classes.proofs.Merging.{feature-same, target-same, merged-known, merged-short}

-- 1 for a root, else 0.
abbrev own_root : List ℕ → ℕ → ℕ
own_root parent x = cond (eqb (root_of parent x) x) 1 0

-- the number of classes
pub root_count : ℕ → List ℕ → ℕ
root_count nodes parent = sum_to nodes (own_root parent)

-- The room for the joins that are left is enough for fewer classes, for the next join, and for the joins after that.

room-fewer : {classes less links used room : ℕ} → less ≤ classes → Roomy classes links used room → Roomy less links used room
room-fewer {classes} {less} h r =
    record {
      width = r.width;
      enough = r.enough;
      fits = omega (arith, r.fits, mul-le-mul_left {m = less - 1} {n = classes - 1} r.width (omega arith));
    }

-- One class less takes `width` places less.
width-once : (width classes : ℕ) → 2 ≤ classes → width * (classes - 1) ≡ width * ((classes - 1) - 1) + width
width-once width classes h =
    let e : classes - 1 ≡ suc ((classes - 1) - 1) = omega arith in ap (λ (n : ℕ). width * n) e ∙ mul-suc width ((classes - 1) - 1)

room_next : {classes links used room : ℕ} → 2 ≤ classes → Roomy classes links used room → (k : ℕ) → k < used + 64 → k < used + links →
    k < room
room_next {classes} two r k short few =
    ⊎_elim (λ (h : 64 ≤ r.width). omega (arith, r.fits, width-once r.width classes two))
    (λ h. omega (arith, r.fits, width-once r.width classes two)) r.enough

room_after : {classes left links used room at room' : ℕ} → left + 1 ≡ classes → 1 ≤ left → Roomy classes links used room →
    at ≤ used + 64 → at ≤ used + links → room' ≡ room → Roomy left links at room'
room_after {classes} {left} {links} {used} {room} {at} {room'} one some r short few same =
    record { width = r.width; enough = r.enough; fits = fits }
  where
    once : r.width * (classes - 1) ≡ r.width * (left - 1) + r.width
    once =
        let e : (classes - 1) - 1 ≡ left - 1 = omega arith in
        width-once r.width classes (omega arith) ∙ ap (λ (n : ℕ). r.width * n + r.width) e

    fits : at + r.width * (left - 1) ≤ room'
    fits =
        ⊎_elim (λ (h : 64 ≤ r.width). omega (arith, r.fits, once))
        (λ (h : links ≤ r.width). omega (arith, r.fits, once)) r.enough

-- What joining two classes asks for.
pub record Asks (start end pool waiting : List ℕ) (used count lo hi : ℕ) : Type 0 where
  pub lo-in : lo < 510
  pub hi-in : hi < 510
  pub lo-span : Span pool used (get_or start lo 0) (get_or end lo 0)
  pub hi-span : Span pool used (get_or start hi 0) (get_or end hi 0)
  pub bounded : used + 64 ≤ 37692
  pub fits : used ≤ length pool
  pub places : Places (length pool) used (get_or start lo 0) (get_or end lo 0) (get_or start hi 0) (get_or end hi 0)
  pub pairs : count + get_or end hi 0 ≤ length waiting + get_or start hi 0

-- What joining two classes leaves: their rows are merged, and the greater node gets the lesser one as its parent.
pub record Joins (lo hi : ℕ) (parent start end pool waiting : List ℕ) (used count : ℕ) (parent' start' end' pool' waiting' : List ℕ)
    (at top : ℕ) : Type 0 where
  pub merged : Merged (get_or start lo 0) (get_or end lo 0) (get_or start hi 0) (get_or end hi 0) pool waiting used count pool' waiting' at top
  pub parent_is : parent' ≡ set parent hi lo
  pub start_is : start' ≡ set start lo used
  pub end_is : end' ≡ set end lo at

-- A function that is constant on classes and on the pairs that wait.
pub record Respects (nodes : ℕ) (parent waiting : List ℕ) (count : ℕ) (h : ℕ → ℕ) : Type 0 where
  pub classes : (x : ℕ) → x < nodes → h (root_of parent x) ≡ h x
  pub pairs : (i : ℕ) → i < count → h (left_at waiting i) ≡ h (right_at waiting i)

module _ (nodes second : ℕ) (start₀ end₀ pool₀ : List ℕ) where
  pub record Joining (parent start end pool waiting : List ℕ) (used count : ℕ) : Type 0 where
    pub rows : Rows nodes start end pool used
    pub pool-long : length pool ≡ length pool₀
    pub forest : Forest nodes parent
    pub waiting-long : links_of nodes start₀ end₀ < length waiting
    -- a join takes at most 64 places and leaves one class less
    pub bounded : used + 64 * root_count nodes parent ≤ 5116 + 64 * nodes
    pub room : Roomy (root_count nodes parent) (links_of nodes start₀ end₀) used (length pool)
    -- a join adds no more pairs than the rows lose links
    pub linked : links_of nodes start₀ end₀ ≤ 4096
    pub few : sum_to nodes (row_length (root_of parent) start end) ≤ links_of nodes start₀ end₀
    pub short : sum_to nodes (row_length (root_of parent) start end) + count ≤ links_of nodes start₀ end₀ + 1
    pub left_in : (i : ℕ) → i < count → left_at waiting i < nodes
    pub right-in : (i : ℕ) → i < count → right_at waiting i < nodes
    pub related : (x : ℕ) → x < nodes → Same nodes second start₀ end₀ pool₀ x (root_of parent x)
    pub alike : (i : ℕ) → i < count → Same nodes second start₀ end₀ pool₀ (left_at waiting i) (right_at waiting i)
    pub source : (c k : ℕ) → c < nodes → At start end c k →
        (x : ℕ) × (j : ℕ) × (x < nodes) × At start₀ end₀ x j × Same nodes second start₀ end₀ pool₀ c x ×
        (get_or pool₀ j 0 ≡ get_or pool k 0)
    pub kept : (x j : ℕ) → x < nodes → At start₀ end₀ x j →
        (k : ℕ) × At start end (root_of parent x) k × (feature_at pool k ≡ feature_at pool₀ j) ×
        ((h : ℕ → ℕ) → Respects nodes parent waiting count h → h (target_at pool k) ≡ h (target_at pool₀ j))
    pub together : (h : ℕ → ℕ) → Respects nodes parent waiting count h → h 0 ≡ h second

-- At the start, every node is a class of its own, and the two roots wait.
pub join-start : {nodes second : ℕ} {start end pool : List ℕ} {links : ℕ} → Rows nodes start end pool links →
    second < nodes → links ≤ 5116 → links_of nodes start end ≤ 4096 → Roomy nodes (links_of nodes start end) links (length pool) →
    (parent waiting : List ℕ) → length parent ≡ 510 → ((x : ℕ) → x < nodes → get_or parent x 0 ≡ x) →
    links_of nodes start end < length waiting →
    Joining nodes second start end pool parent start end pool (set waiting 0 second) links 1
unfolding root_count
join-start {nodes} {second} {start} {end} {pool} {links} rows inside small few room parent waiting long own waiting-long =
    record {
      rows = rows;
      pool-long = refl;
      forest = forest;
      waiting-long = omega (arith, length-set waiting 0 second);
      bounded = omega (arith, most);
      room = room-fewer most room;
      linked = few;
      few = omega (arith, same-lengths);
      short = omega (arith, same-lengths);
      left_in = λ i h. omega (arith, left_is i h, rows.some);
      right-in = λ i h. omega (arith, right_is i h);
      related = λ x h. subst (Same nodes second start end pool x) (sym (root x h)) (itself h);
      alike = λ i h.
          subst (λ (y : ℕ). Same nodes second start end pool (left_at (set waiting 0 second) i) y) (sym (right_is i h))
          (subst (λ (y : ℕ). Same nodes second start end pool y second) (sym (left_is i h)) roots);
      source = λ c k h at. (c, k, h, at, itself h, refl);
      kept = λ x j h at. (j, subst (λ (y : ℕ). At start end y j) (sym (root x h)) at, refl, λ f r. refl);
      together = λ f r. ap f (sym (left_is 0 (omega arith))) ∙ r.pairs 0 (omega arith) ∙ ap f (right_is 0 (omega arith));
    }
  where
    forest : Forest nodes parent
    forest = separate-forest rows.few long own

    root : (x : ℕ) → x < nodes → root_of parent x ≡ x
    root x h = fixed-root forest x (own x h)

    at_most : (t : Bool) → cond t 1 0 ≤ 1
    at_most true = omega arith
    at_most false = omega arith

    most : root_count nodes parent ≤ nodes
    most = sum-most nodes (own_root parent) (λ x h. at_most (eqb (root_of parent x) x))

    alike : (x : ℕ) → x < nodes → row_length (root_of parent) start end x ≡ row_length (λ x. x) start end x
    alike x h = ap (λ (c : ℕ). cond (eqb c x) (get_or end x 0 - get_or start x 0) 0) (root x h)

    same-lengths : sum_to nodes (row_length (root_of parent) start end) ≡ sum_to nodes (row_length (λ x. x) start end)
    same-lengths = sum_same nodes (row_length (root_of parent) start end) (row_length (λ x. x) start end) alike

    pair_is : (i : ℕ) → i < 1 → get_or (set waiting 0 second) i 0 ≡ second
    pair_is i h =
        let e : i ≡ 0 = omega arith in
        ap (λ (n : ℕ). get_or (set waiting 0 second) n 0) e ∙ stored waiting 0 second (omega (arith, waiting-long))

    left_is : (i : ℕ) → i < 1 → left_at (set waiting 0 second) i ≡ 0
    left_is i h = omega (arith, pair_is i h, rows.few)

    right_is : (i : ℕ) → i < 1 → right_at (set waiting 0 second) i ≡ second
    right_is i h = omega (arith, pair_is i h, rows.few)

module _ {nodes second : ℕ} {start₀ end₀ pool₀ parent start end pool waiting : List ℕ} {used count : ℕ}
    (s : Joining nodes second start₀ end₀ pool₀ parent start end pool waiting used count) where
  abbrev Alike : ℕ → ℕ → Type 0
  Alike = Same nodes second start₀ end₀ pool₀

  root_in : (x : ℕ) → x < nodes → root_of parent x < nodes
  root_in x h = omega (arith, root-low s.forest x h)

  -- The state holds for another forest with the same roots.
  pub join-roots : {later : List ℕ} → SameRoots nodes parent later →
      Joining nodes second start₀ end₀ pool₀ later start end pool waiting used count
  unfolding root_count
  join-roots {later} r =
      record {
        rows = s.rows;
        pool-long = s.pool-long;
        forest = r.forest;
        waiting-long = s.waiting-long;
        bounded = omega (arith, s.bounded, same_count);
        room = room-fewer (omega (arith, same_count)) s.room;
        linked = s.linked;
        few = omega (arith, s.few, same-lengths);
        short = omega (arith, s.short, same-lengths);
        left_in = s.left_in;
        right-in = s.right-in;
        related = λ x h. subst (Alike x) (sym (r.same x h)) (s.related x h);
        alike = s.alike;
        source = s.source;
        kept = λ x j h at.
            let (k, row, e, joint) = s.kept x j h at in
            (k, subst (λ (y : ℕ). At start end y k) (sym (r.same x h)) row, e, λ f q. joint f (respects f q));
        together = λ f q. s.together f (respects f q);
      }
    where
      same_count : root_count nodes later ≡ root_count nodes parent
      same_count =
          sum_same nodes (own_root later) (own_root parent)
          (λ x h. ap {B = ℕ} (λ (c : ℕ). cond (eqb c x) 1 0) (r.same x h))

      same-lengths : sum_to nodes (row_length (root_of later) start end) ≡ sum_to nodes (row_length (root_of parent) start end)
      same-lengths =
          sum_same nodes (row_length (root_of later) start end) (row_length (root_of parent) start end)
          (λ x h. ap (λ (c : ℕ). cond (eqb c x) (get_or end x 0 - get_or start x 0) 0) (r.same x h))

      respects : (f : ℕ → ℕ) → Respects nodes later waiting count f → Respects nodes parent waiting count f
      respects f q =
          record { classes = λ x h. ap f (sym (r.same x h)) ∙ q.classes x h; pairs = q.pairs }

  -- The nodes of the last pair are in one class already.
  pub join-skip : 0 < count → root_of parent (left_at waiting (count - 1)) ≡ root_of parent (right_at waiting (count - 1)) →
      Joining nodes second start₀ end₀ pool₀ parent start end pool waiting used (count - 1)
  join-skip some e =
      record {
        rows = s.rows;
        pool-long = s.pool-long;
        forest = s.forest;
        waiting-long = s.waiting-long;
        bounded = s.bounded;
        room = s.room;
        linked = s.linked;
        few = s.few;
        short = omega (arith, s.short);
        left_in = λ i h. s.left_in i (omega arith);
        right-in = λ i h. s.right-in i (omega arith);
        related = s.related;
        alike = λ i h. s.alike i (omega arith);
        source = s.source;
        kept = λ x j h at. let (k, row, d, joint) = s.kept x j h at in (k, row, d, λ f q. joint f (respects f q));
        together = λ f q. s.together f (respects f q);
      }
    where
      respects : (f : ℕ → ℕ) → Respects nodes parent waiting (count - 1) f → Respects nodes parent waiting count f
      respects f q = record { classes = q.classes; pairs = λ i h. go i h (ℕ_discrete i (count - 1)) }
        where
          go : (i : ℕ) → i < count → Dec (i ≡ count - 1) → f (left_at waiting i) ≡ f (right_at waiting i)
          go i h (yes z) =
              subst (λ (n : ℕ). f (left_at waiting n) ≡ f (right_at waiting n)) (sym z)
              (sym (q.classes (left_at waiting (count - 1)) (s.left_in (count - 1) (omega arith))) ∙ ap f e ∙
              q.classes (right_at waiting (count - 1)) (s.right-in (count - 1) (omega arith)))
          go i h (no d) = q.pairs i (omega arith)

  -- The nodes of the last pair are in two classes, which lo and hi represent.
  module _ (some : 0 < count) (lo hi : ℕ) (less : lo < hi)
      (meets : ((lo ≡ root_of parent (left_at waiting (count - 1))) × (hi ≡ root_of parent (right_at waiting (count - 1)))) ⊎
      ((hi ≡ root_of parent (left_at waiting (count - 1))) × (lo ≡ root_of parent (right_at waiting (count - 1))))) where
    l-in : left_at waiting (count - 1) < nodes
    l-in = s.left_in (count - 1) (omega arith)

    r-in : right_at waiting (count - 1) < nodes
    r-in = s.right-in (count - 1) (omega arith)

    root-of : (c x : ℕ) → x < nodes → c ≡ root_of parent x → (c < nodes) × (root_of parent c ≡ c) × Alike x c
    root-of c x h e = (
      subst (λ (n : ℕ). n < nodes) (sym e) (root_in x h),
      subst (λ (n : ℕ). root_of parent n ≡ n) (sym e) (root-twice s.forest x h),
      subst (Alike x) (sym e) (s.related x h),
    )

    pair-alike : Alike (left_at waiting (count - 1)) (right_at waiting (count - 1))
    pair-alike = s.alike (count - 1) (omega arith)

    found : (lo < nodes) × (hi < nodes) × (root_of parent lo ≡ lo) × (root_of parent hi ≡ hi) × Alike lo hi
    found =
        ⊎_elim
        (λ (z : (lo ≡ root_of parent (left_at waiting (count - 1))) × (hi ≡ root_of parent (right_at waiting (count - 1)))).
        let (a, b, c) = root-of lo (left_at waiting (count - 1)) l-in z.0 in
        let (d, e, f) = root-of hi (right_at waiting (count - 1)) r-in z.1 in
        (a, d, b, e, next (back c) (next pair-alike f)))
        (λ (z : (hi ≡ root_of parent (left_at waiting (count - 1))) × (lo ≡ root_of parent (right_at waiting (count - 1)))).
        let (a, b, c) = root-of hi (left_at waiting (count - 1)) l-in z.0 in
        let (d, e, f) = root-of lo (right_at waiting (count - 1)) r-in z.1 in
        (d, a, e, b, next (back f) (next (back pair-alike) c)))
        meets

    lo-in : lo < nodes
    lo-in = found.0

    hi-in : hi < nodes
    hi-in = found.1

    lo-span : Span pool used (get_or start lo 0) (get_or end lo 0)
    lo-span = s.rows.span lo lo-in

    hi-span : Span pool used (get_or start hi 0) (get_or end hi 0)
    hi-span = s.rows.span hi hi-in

    own-one : (x : ℕ) → root_of parent x ≡ x → own_root parent x ≡ 1
    own-one x e = ap {B = ℕ} (λ (t : Bool). cond t 1 0) (eq-eqb (root_of parent x) x e)

    own-length : (x : ℕ) → root_of parent x ≡ x → row_length (root_of parent) start end x ≡ get_or end x 0 - get_or start x 0
    own-length x e = ap (λ (t : Bool). cond t (get_or end x 0 - get_or start x 0) 0) (eq-eqb (root_of parent x) x e)

    two : 2 ≤ root_count nodes parent
    unfolding root_count
    two = omega (arith, sum-two nodes lo hi (own_root parent) less hi-in, own-one lo found.2, own-one hi found.3)

    -- Both rows together have no more links than all nodes have.
    both-few : (get_or end lo 0 - get_or start lo 0) + (get_or end hi 0 - get_or start hi 0) ≤ links_of nodes start₀ end₀
    both-few =
        omega (
          arith,
          sum-two nodes lo hi (row_length (root_of parent) start end) less hi-in,
          own-length lo found.2,
          own-length hi found.3,
          s.few,
        )

    pub join-asks : Asks start end pool waiting used (count - 1) lo hi
    join-asks =
        record {
          lo-in = omega (arith, lo-in, s.rows.few);
          hi-in = omega (arith, hi-in, s.rows.few);
          lo-span = lo-span;
          hi-span = hi-span;
          bounded = omega (arith, two, s.bounded, s.rows.few);
          fits = omega (arith, s.room.fits);
          places = λ k short both.
              room_next two s.room k short (omega (arith, both-few, lo-span.rising, hi-span.rising));
          pairs =
              omega (
                arith,
                sum_one nodes hi (row_length (root_of parent) start end) hi-in,
                own-length hi found.3,
                s.short,
                s.waiting-long,
                hi-span.rising,
              );
        }

    module _ {pool' waiting' : List ℕ} {at top : ℕ}
        (m : Merged (get_or start lo 0) (get_or end lo 0) (get_or start hi 0) (get_or end hi 0) pool waiting used (count - 1)
        pool' waiting' at top) where
      forest' : Forest nodes (set parent hi lo)
      forest' = hung-forest s.forest lo hi less hi-in found.2 found.3

      root' : (x : ℕ) → x < nodes → root_of (set parent hi lo) x ≡ joined lo hi (root_of parent x)
      root' x h = hung-roots s.forest lo hi less hi-in found.2 found.3 x h

      root-hi : (x : ℕ) → x < nodes → root_of parent x ≡ hi → root_of (set parent hi lo) x ≡ lo
      root-hi x h e = root' x h ∙ joined-here lo hi (root_of parent x) e

      root-other : (x : ℕ) → x < nodes → (root_of parent x ≡ hi → ⊥) → root_of (set parent hi lo) x ≡ root_of parent x
      root-other x h d = root' x h ∙ joined-other lo hi (root_of parent x) d

      start-lo : get_or (set start lo used) lo 0 ≡ used
      start-lo = stored start lo used (omega (arith, s.rows.start-long, s.rows.few, lo-in))

      end-lo : get_or (set end lo at) lo 0 ≡ at
      end-lo = stored end lo at (omega (arith, s.rows.end-long, s.rows.few, lo-in))

      start-other : (x : ℕ) → (x ≡ lo → ⊥) → get_or (set start lo used) x 0 ≡ get_or start x 0
      start-other x d = unstored start lo used x d

      end-other : (x : ℕ) → (x ≡ lo → ⊥) → get_or (set end lo at) x 0 ≡ get_or end x 0
      end-other x d = unstored end lo at x d

      -- The places of the merged row, and those of another row.
      at-lo : (k : ℕ) → used ≤ k → k < at → At (set start lo used) (set end lo at) lo k
      at-lo k low high = (omega (arith, start-lo), omega (arith, end-lo))

      of-lo : (x k : ℕ) → x ≡ lo → At (set start lo used) (set end lo at) x k → (used ≤ k) × (k < at)
      of-lo x k e h =
          let place : At (set start lo used) (set end lo at) lo k = subst (λ (y : ℕ). At (set start lo used) (set end lo at) y k) e h in
          (omega (arith, start-lo, place.0), omega (arith, end-lo, place.1))

      at_other : (x k : ℕ) → (x ≡ lo → ⊥) → At start end x k → At (set start lo used) (set end lo at) x k
      at_other x k d h = (omega (arith, start-other x d, h.0), omega (arith, end-other x d, h.1))

      of_other : (x k : ℕ) → (x ≡ lo → ⊥) → At (set start lo used) (set end lo at) x k → At start end x k
      of_other x k d h = (omega (arith, start-other x d, h.0), omega (arith, end-other x d, h.1))

      old : (x k : ℕ) → x < nodes → At start end x k → k < used
      old x k h at = omega (arith, (s.rows.span x h).before, at.1)

      -- where a merged link comes from
      origin : (k : ℕ) → used ≤ k → k < at →
          (c : ℕ) × (p : ℕ) × (c < nodes) × Alike lo c × At start end c p × (get_or pool' k 0 ≡ get_or pool p 0)
      origin k low high =
          let (p, side, same) = m.source k low high in
          ⊎_elim
          (λ (z : (get_or start lo 0 ≤ p) × (p < get_or end lo 0)). (lo, p, lo-in, itself lo-in, (z.0, z.1), same))
          (λ (z : (get_or start hi 0 ≤ p) × (p < get_or end hi 0)). (hi, p, hi-in, found.4, (z.0, z.1), same)) side

      rows' : Rows nodes (set start lo used) (set end lo at) pool' at
      rows' =
          record {
            some = s.rows.some;
            few = s.rows.few;
            start-long = length-set start lo used ∙ s.rows.start-long;
            end-long = length-set end lo at ∙ s.rows.end-long;
            span = λ x h. span x h (ℕ_discrete x lo);
            within = λ x k h place. within x k h place (ℕ_discrete x lo);
          }
        where
          span : (x : ℕ) → x < nodes → Dec (x ≡ lo) → Span pool' at (get_or (set start lo used) x 0) (get_or (set end lo at) x 0)
          span x h (yes e) =
              subst (λ (y : ℕ). Span pool' at (get_or (set start lo used) y 0) (get_or (set end lo at) y 0)) (sym e)
              (subst (λ (y : ℕ). Span pool' at y (get_or (set end lo at) lo 0)) (sym start-lo)
              (subst (λ (y : ℕ). Span pool' at used y) (sym end-lo)
              (record {
                rising = m.rises;
                before = omega arith;
                known = merged-known m lo-span hi-span;
                ascending = m.ascending;
              })))
          span x h (no d) =
              subst (λ (y : ℕ). Span pool' at y (get_or (set end lo at) x 0)) (sym (start-other x d))
              (subst (λ (y : ℕ). Span pool' at (get_or start x 0) y) (sym (end-other x d))
              (record {
                rising = (s.rows.span x h).rising;
                before = omega (arith, (s.rows.span x h).before, m.rises);
                known = λ k low high.
                    omega (arith, feature-same (m.pool-kept k (old x k h (low, high))), (s.rows.span x h).known k low high);
                ascending = λ k low high.
                    omega (
                      arith,
                      feature-same (m.pool-kept k (old x k h (low, omega arith))),
                      feature-same (m.pool-kept (suc k) (old x (suc k) h (omega arith, high))),
                      (s.rows.span x h).ascending k low high,
                    );
              }))

          within : (x k : ℕ) → x < nodes → At (set start lo used) (set end lo at) x k → Dec (x ≡ lo) → target_at pool' k < nodes
          within x k h place (yes e) =
              let (low, high) = of-lo x k e place in
              let (c, p, inside, _, row, d) = origin k low high in
              omega (arith, target-same d, s.rows.within c p inside row)
          within x k h place (no d) =
              let row = of_other x k d place in
              omega (arith, target-same (m.pool-kept k (old x k h row)), s.rows.within x k h row)

      -- The classes that are left.
      own_same : (x : ℕ) → x < nodes → (x ≡ hi → ⊥) → eqb (root_of parent x) x ≡ eqb (root_of (set parent hi lo) x) x
      own_same x h d = go (ℕ_discrete (root_of parent x) hi)
        where
          go : Dec (root_of parent x ≡ hi) → eqb (root_of parent x) x ≡ eqb (root_of (set parent hi lo) x) x
          go (yes e) =
              ne_eqb (root_of parent x) x (λ z. d (sym z ∙ e)) ∙
              sym
              (ne_eqb (root_of (set parent hi lo) x) x
              (λ z. omega (arith, e, ap (root_of parent) (sym (root-hi x h e) ∙ z), found.2)))
          go (no n) = sym (ap (λ (c : ℕ). eqb c x) (root-other x h n))

      own-hi : eqb (root_of (set parent hi lo) hi) hi ≡ false
      own-hi = ne_eqb (root_of (set parent hi lo) hi) hi (λ z. omega (arith, root-hi hi hi-in found.3))

      own-lo : eqb (root_of (set parent hi lo) lo) lo ≡ true
      own-lo = sym (own_same lo lo-in (λ z. omega arith)) ∙ eq-eqb (root_of parent lo) lo found.2

      pub fewer : root_count nodes (set parent hi lo) + 1 ≡ root_count nodes parent
      unfolding root_count
      fewer =
          omega (
            arith,
            sum-change nodes hi (own_root parent) (own_root (set parent hi lo)) hi-in
                (λ x h d. ap {B = ℕ} (λ (t : Bool). cond t 1 0) (own_same x h d)),
            ap {B = ℕ} (λ (t : Bool). cond t 1 0) own-hi,
            own-one hi found.3,
          )

      lengths : sum_to nodes (row_length (root_of parent) start end) + (at - used) ≡
          sum_to nodes (row_length (root_of (set parent hi lo)) (set start lo used) (set end lo at)) +
          ((get_or end lo 0 - get_or start lo 0) + (get_or end hi 0 - get_or start hi 0))
      lengths =
          omega (
            arith,
            sum-changes nodes lo hi (row_length (root_of parent) start end)
                (row_length (root_of (set parent hi lo)) (set start lo used) (set end lo at)) less hi-in same,
            own-length lo found.2,
            own-length hi found.3,
            here,
            gone,
          )
        where
          same : (x : ℕ) → x < nodes → (x ≡ lo → ⊥) → (x ≡ hi → ⊥) →
              row_length (root_of parent) start end x ≡ row_length (root_of (set parent hi lo)) (set start lo used) (set end lo at) x
          same x h d e =
              ap (λ (t : Bool). cond t (get_or end x 0 - get_or start x 0) 0) (own_same x h e) ∙
              ap₂ (λ (p q : ℕ). cond (eqb (root_of (set parent hi lo) x) x) (q - p) 0) (sym (start-other x d)) (sym (end-other x d))

          here : row_length (root_of (set parent hi lo)) (set start lo used) (set end lo at) lo ≡ at - used
          here =
              ap (λ (t : Bool). cond t (get_or (set end lo at) lo 0 - get_or (set start lo used) lo 0) 0) own-lo ∙
              ap₂ (λ (p q : ℕ). q - p) start-lo end-lo

          gone : row_length (root_of (set parent hi lo)) (set start lo used) (set end lo at) hi ≡ 0
          gone = ap (λ (t : Bool). cond t (get_or (set end lo at) hi 0 - get_or (set start lo used) hi 0) 0) own-hi

      -- A function that respects the classes and pairs after the join respects those before it.
      respects : (f : ℕ → ℕ) → Respects nodes (set parent hi lo) waiting' top f → Respects nodes parent waiting count f
      respects f q = record { classes = λ x h. class x h (ℕ_discrete (root_of parent x) hi); pairs = λ i h. pair i h (ℕ_discrete i (count - 1)) }
        where
          ends : f lo ≡ f hi
          ends = ap f (sym (root-hi hi hi-in found.3)) ∙ q.classes hi hi-in

          class : (x : ℕ) → x < nodes → Dec (root_of parent x ≡ hi) → f (root_of parent x) ≡ f x
          class x h (yes e) = ap f e ∙ sym ends ∙ ap f (sym (root-hi x h e)) ∙ q.classes x h
          class x h (no d) = ap f (sym (root-other x h d)) ∙ q.classes x h

          root-value : (x : ℕ) → x < nodes → f (root_of parent x) ≡ f x
          root-value x h = class x h (ℕ_discrete (root_of parent x) hi)

          last : f (left_at waiting (count - 1)) ≡ f (right_at waiting (count - 1))
          last =
              ⊎_elim
              (λ (z : (lo ≡ root_of parent (left_at waiting (count - 1))) × (hi ≡ root_of parent (right_at waiting (count - 1)))).
              sym (ap f z.0 ∙ root-value (left_at waiting (count - 1)) l-in) ∙ ends ∙ ap f z.1 ∙
              root-value (right_at waiting (count - 1)) r-in)
              (λ (z : (hi ≡ root_of parent (left_at waiting (count - 1))) × (lo ≡ root_of parent (right_at waiting (count - 1)))).
              sym (ap f z.0 ∙ root-value (left_at waiting (count - 1)) l-in) ∙ sym ends ∙ ap f z.1 ∙
              root-value (right_at waiting (count - 1)) r-in)
              meets

          pair : (i : ℕ) → i < count → Dec (i ≡ count - 1) → f (left_at waiting i) ≡ f (right_at waiting i)
          pair i h (yes e) = subst (λ (n : ℕ). f (left_at waiting n) ≡ f (right_at waiting n)) (sym e) last
          pair i h (no d) =
              ap f (sym (feature-same (m.waiting_kept i (omega arith)))) ∙ q.pairs i (omega (arith, m.grows)) ∙ ap f (target-same (m.waiting_kept i (omega arith)))

      joined-state : Joining nodes second start₀ end₀ pool₀ (set parent hi lo) (set start lo used) (set end lo at)
          pool' waiting' at top
      joined-state =
          record {
            rows = rows';
            pool-long = m.pool-long ∙ s.pool-long;
            forest = forest';
            waiting-long = omega (arith, m.waiting-long, s.waiting-long);
            bounded = omega (arith, s.bounded, fewer, merged-short m lo-span hi-span);
            room = room';
            linked = s.linked;
            few = omega (arith, s.few, lengths, m.counted, m.grows, m.rises, lo-span.rising, hi-span.rising);
            short = omega (arith, s.short, lengths, m.counted, m.rises, lo-span.rising, hi-span.rising);
            left_in = λ i h. left_in i h (dec_lt i (count - 1));
            right-in = λ i h. right-in i h (dec_lt i (count - 1));
            related = λ x h. related x h (ℕ_discrete (root_of parent x) hi);
            alike = λ i h. alike i h (dec_lt i (count - 1));
            source = λ c k h place. source c k h place (ℕ_discrete c lo);
            kept = λ x j h place. kept x j h place (ℕ_discrete (root_of parent x) hi) (ℕ_discrete (root_of parent x) lo);
            together = λ f q. s.together f (respects f q);
          }
        where
          room' : Roomy (root_count nodes (set parent hi lo)) (links_of nodes start₀ end₀) at (length pool')
          room' =
              room_after fewer (omega (arith, two, fewer)) s.room (merged-short m lo-span hi-span)
              (omega (arith, both-few, m.counted, m.grows, lo-span.rising, hi-span.rising)) m.pool-long

          left_in : (i : ℕ) → i < top → Dec (i < count - 1) → left_at waiting' i < nodes
          left_in i h (yes e) = omega (arith, feature-same (m.waiting_kept i e), s.left_in i (omega arith))
          left_in i h (no n) =
              let (p, q, a, b, _, _, _, e, _) = m.pair i (omega arith) h in
              omega (arith, e, s.rows.within lo p lo-in (a, b))

          right-in : (i : ℕ) → i < top → Dec (i < count - 1) → right_at waiting' i < nodes
          right-in i h (yes e) = omega (arith, target-same (m.waiting_kept i e), s.right-in i (omega arith))
          right-in i h (no n) =
              let (p, q, _, _, a, b, _, _, e) = m.pair i (omega arith) h in
              omega (arith, e, s.rows.within hi q hi-in (a, b))

          related : (x : ℕ) → x < nodes → Dec (root_of parent x ≡ hi) → Alike x (root_of (set parent hi lo) x)
          related x h (yes e) =
              subst (Alike x) (sym (root-hi x h e)) (next (subst (Alike x) e (s.related x h)) (back found.4))
          related x h (no d) = subst (Alike x) (sym (root-other x h d)) (s.related x h)

          alike : (i : ℕ) → i < top → Dec (i < count - 1) → Alike (left_at waiting' i) (right_at waiting' i)
          alike i h (yes e) =
              subst (λ (y : ℕ). Alike y (right_at waiting' i)) (sym (feature-same (m.waiting_kept i e)))
              (subst (λ (y : ℕ). Alike (left_at waiting i) y) (sym (target-same (m.waiting_kept i e))) (s.alike i (omega arith)))
          alike i h (no n) =
              let (p, q, a, b, c, d, same, e1, e2) = m.pair i (omega arith) h in
              let (x, j, x-in, x-at, x-like, x-word) = s.source lo p lo-in (a, b) in
              let (y, k, y-in, y-at, y-like, y-word) = s.source hi q hi-in (c, d) in
              subst (λ (z : ℕ). Alike z (right_at waiting' i)) (target-same x-word ∙ sym e1)
              (subst (λ (z : ℕ). Alike (target_at pool₀ j) z) (target-same y-word ∙ sym e2)
              (down (next (back x-like) (next found.4 y-like)) x-in y-in x-at y-at (feature-same x-word ∙ same ∙ sym (feature-same y-word))))

          source : (c k : ℕ) → c < nodes → At (set start lo used) (set end lo at) c k → Dec (c ≡ lo) →
              (x : ℕ) × (j : ℕ) × (x < nodes) × At start₀ end₀ x j × Alike c x × (get_or pool₀ j 0 ≡ get_or pool' k 0)
          source c k h place (yes e) =
              let (low, high) = of-lo c k e place in
              let (d, p, d-in, like, row, same) = origin k low high in
              let (x, j, x-in, x-at, x-like, x-word) = s.source d p d-in row in
              (x, j, x-in, x-at, subst (λ (y : ℕ). Alike y x) (sym e) (next like x-like), x-word ∙ sym same)
          source c k h place (no d) =
              let row = of_other c k d place in
              let (x, j, x-in, x-at, x-like, x-word) = s.source c k h row in
              (x, j, x-in, x-at, x-like, x-word ∙ sym (m.pool-kept k (old c k h row)))

          kept : (x j : ℕ) → x < nodes → At start₀ end₀ x j → Dec (root_of parent x ≡ hi) → Dec (root_of parent x ≡ lo) →
              (k : ℕ) × At (set start lo used) (set end lo at) (root_of (set parent hi lo) x) k ×
              (feature_at pool' k ≡ feature_at pool₀ j) ×
              ((f : ℕ → ℕ) → Respects nodes (set parent hi lo) waiting' top f → f (target_at pool' k) ≡ f (target_at pool₀ j))
          kept x j h place (yes e) _ =
              let (k, row, feature, joint) = s.kept x j h place in
              let (low, high) = subst (λ (c : ℕ). At start end c k) e row in
              let (p, p-low, p-high, same, either) = m.second k low high in (
                p,
                subst (λ (c : ℕ). At (set start lo used) (set end lo at) c p) (sym (root-hi x h e)) (at-lo p p-low p-high),
                same ∙ feature,
                λ f q.
                    ⊎_elim (λ (z : target_at pool' p ≡ target_at pool k). ap f z)
                    (λ (z : (i : ℕ) × (count - 1 ≤ i) × (i < top) × (left_at waiting' i ≡ target_at pool' p) ×
                    (right_at waiting' i ≡ target_at pool k)).
                    ap f (sym z.3) ∙ q.pairs z.0 z.2 ∙ ap f z.4) either ∙
                    joint f (respects f q),
              )
          kept x j h place (no d) (yes e) =
              let (k, row, feature, joint) = s.kept x j h place in
              let (low, high) = subst (λ (c : ℕ). At start end c k) e row in
              let (p, p-low, p-high, same) = m.first k low high in (
                p,
                subst (λ (c : ℕ). At (set start lo used) (set end lo at) c p) (sym (root-other x h d ∙ e)) (at-lo p p-low p-high),
                feature-same same ∙ feature,
                λ f q. ap f (target-same same) ∙ joint f (respects f q),
              )
          kept x j h place (no d) (no n) =
              let (k, row, feature, joint) = s.kept x j h place in
              let before = old (root_of parent x) k (root_in x h) row in (
                k,
                subst (λ (c : ℕ). At (set start lo used) (set end lo at) c k) (sym (root-other x h d)) (at_other (root_of parent x) k n row),
                feature-same (m.pool-kept k before) ∙ feature,
                λ f q. ap f (target-same (m.pool-kept k before)) ∙ joint f (respects f q),
              )

    -- The two classes become one.
    pub join_step : {parent' start' end' pool' waiting' : List ℕ} {at top : ℕ} →
        Joins lo hi parent start end pool waiting used (count - 1) parent' start' end' pool' waiting' at top →
        Joining nodes second start₀ end₀ pool₀ parent' start' end' pool' waiting' at top
    join_step {parent'} {start'} {end'} {pool'} {waiting'} {at} {top} j =
        subst (λ (p : List ℕ). Joining nodes second start₀ end₀ pool₀ p start' end' pool' waiting' at top)
        (sym j.parent_is)
        (subst
        (λ (p : List ℕ). Joining nodes second start₀ end₀ pool₀ (set parent hi lo) p end' pool' waiting' at top)
        (sym j.start_is)
        (subst
        (λ (p : List ℕ).
        Joining nodes second start₀ end₀ pool₀ (set parent hi lo) (set start lo used) p pool' waiting' at top)
        (sym j.end_is) (joined-state j.merged)))

    pub join-fewer : {parent' start' end' pool' waiting' : List ℕ} {at top : ℕ} →
        Joins lo hi parent start end pool waiting used (count - 1) parent' start' end' pool' waiting' at top →
        4098 * root_count nodes parent' + top < 4098 * root_count nodes parent + count
    join-fewer {parent'} {top = top} j =
        omega (arith, fewer j.merged, ap (root_count nodes) j.parent_is, (joined-state j.merged).short, s.linked)

  -- No pair waits, and each node is right below its root.
  pub join-done : {links : ℕ} → Rows nodes start₀ end₀ pool₀ links → second < nodes → count ≡ 0 → {class : List ℕ} → length class ≡ 510 →
      ((x : ℕ) → x < nodes → get_or class x 0 ≡ root_of parent x) →
      Closed nodes second start₀ end₀ pool₀ class start end pool used
  unfolding root_count
  join-done rows₀ inside none {class} long is =
      record {
        class-long = long;
        lowest = λ x h. omega (arith, class-is x h, root-low s.forest x h);
        itself = λ x h.
            ap (λ (c : ℕ). get_or class c 0) (class-is x h) ∙ class-is (root_of parent x) (root_in x h) ∙
            root-twice s.forest x h ∙ sym (class-is x h);
        related = λ x h. subst (Alike x) (sym (class-is x h)) (s.related x h);
        together = class-is 0 s.rows.some ∙ s.together (root_of parent) settled ∙ sym (class-is second inside);
        rows = s.rows;
        bounded = omega (arith, s.bounded, s.rows.few, one);
        room = omega (arith, s.room.fits);
        short =
            omega (
              arith,
              s.few,
              sum_same nodes (row_length (λ x. get_or class x 0) start end) (row_length (root_of parent) start end)
                  (λ x h. ap (λ (c : ℕ). cond (eqb c x) (get_or end x 0 - get_or start x 0) 0) (class-is x h)),
            );
        source = s.source;
        kept = λ x j h place.
            let (k, row, feature, joint) = s.kept x j h place in (
              k,
              subst (λ (c : ℕ). At start end c k) (sym (class-is x h)) row,
              feature,
              class-is (target_at pool k) (s.rows.within (root_of parent x) k (root_in x h) row) ∙ joint (root_of parent) settled ∙
                  sym (class-is (target_at pool₀ j) (rows₀.within x j h place)),
            );
      }
    where
      class-is : (x : ℕ) → x < nodes → get_or class x 0 ≡ root_of parent x
      class-is x h = is x h

      settled : Respects nodes parent waiting count (root_of parent)
      settled = record { classes = λ x h. root-twice s.forest x h; pairs = λ i h. absurd (omega arith) }

      one : 1 ≤ root_count nodes parent
      one =
          omega (
            arith,
            sum_one nodes 0 (own_root parent) s.rows.some,
            ap {B = ℕ} (λ (t : Bool). cond t 1 0)
                (eq-eqb (root_of parent 0) 0 (omega (arith, root-low s.forest 0 s.rows.some))),
          )

-- One round: the roots x and y of the last pair are found, each on the way up through a forest with the same roots.
module _ {nodes second : ℕ} {start₀ end₀ pool₀ parent start end pool waiting : List ℕ} {used count : ℕ}
    (s : Joining nodes second start₀ end₀ pool₀ parent start end pool waiting used count) (some : 0 < count) where
  pub left-small : left_at waiting (count - 1) < nodes
  left-small = s.left_in (count - 1) (omega arith)

  pub right-small : right_at waiting (count - 1) < nodes
  right-small = s.right-in (count - 1) (omega arith)

  module _ {parent₁ parent₂ : List ℕ} {x y : ℕ} (x-is : x ≡ root_of parent (left_at waiting (count - 1)))
      (to-x : (n : ℕ) → Forest n parent → left_at waiting (count - 1) < n → SameRoots n parent parent₁)
      (y-is : y ≡ root_of parent₁ (right_at waiting (count - 1)))
      (to-y : (n : ℕ) → Forest n parent₁ → right_at waiting (count - 1) < n → SameRoots n parent₁ parent₂) where
    same₁ : SameRoots nodes parent parent₁
    same₁ = to-x nodes s.forest left-small

    same₂ : SameRoots nodes parent₁ parent₂
    same₂ = to-y nodes same₁.forest right-small

    state : Joining nodes second start₀ end₀ pool₀ parent₂ start end pool waiting used count
    state = join-roots (join-roots s same₁) same₂

    pub later : Forest nodes parent₂
    later = same₂.forest

    x-found : x ≡ root_of parent₂ (left_at waiting (count - 1))
    x-found = x-is ∙ sym (same₂.same (left_at waiting (count - 1)) left-small ∙ same₁.same (left_at waiting (count - 1)) left-small)

    y-found : y ≡ root_of parent₂ (right_at waiting (count - 1))
    y-found = y-is ∙ sym (same₂.same (right_at waiting (count - 1)) right-small)

    as_many : root_count nodes parent₂ ≡ root_count nodes parent
    unfolding root_count
    as_many =
        sum_same nodes (own_root parent₂) (own_root parent)
        (λ z h.
        ap {B = ℕ} (λ (c : ℕ). cond (eqb c z) 1 0) (same₂.same z h ∙ same₁.same z h))

    pub round-even : y ≤ x → x ≤ y →
        Joining nodes second start₀ end₀ pool₀ parent₂ start end pool waiting used (count - 1)
    round-even h k = let e : x ≡ y = omega arith in join-skip state some (sym x-found ∙ e ∙ y-found)

    pub round-even-less : 4098 * root_count nodes parent₂ + (count - 1) < 4098 * root_count nodes parent + count
    round-even-less = omega (arith, as_many)

    -- What a join of x to y, or of y to x, asks and leaves.
    pub record Round (lo hi : ℕ) : Type 0 where
      pub asks : Asks start end pool waiting used (count - 1) lo hi
      pub goes : {parent' start' end' pool' waiting' : List ℕ} {at top : ℕ} →
          Joins lo hi parent₂ start end pool waiting used (count - 1) parent' start' end' pool' waiting' at top →
          Joining nodes second start₀ end₀ pool₀ parent' start' end' pool' waiting' at top
      pub falls : {parent' start' end' pool' waiting' : List ℕ} {at top : ℕ} →
          Joins lo hi parent₂ start end pool waiting used (count - 1) parent' start' end' pool' waiting' at top →
          4098 * root_count nodes parent' + top < 4098 * root_count nodes parent + count

    round : (lo hi : ℕ) → lo < hi →
        ((lo ≡ root_of parent₂ (left_at waiting (count - 1))) × (hi ≡ root_of parent₂ (right_at waiting (count - 1)))) ⊎
        ((hi ≡ root_of parent₂ (left_at waiting (count - 1))) × (lo ≡ root_of parent₂ (right_at waiting (count - 1)))) → Round lo hi
    round lo hi less meets =
        record {
          asks = join-asks state some lo hi less meets;
          goes = join_step state some lo hi less meets;
          falls = λ j. omega (arith, join-fewer state some lo hi less meets j, as_many);
        }

    pub round_up : x < y → Round x y
    round_up less = round x y less (inl (x-found, y-found))

    pub round-down : y < x → Round y x
    round-down less = round y x less (inr (x-found, y-found))
