-- This file defines the labels of a table: its types, with the order, meets and joins of the table, n - 1 as top and 0 as the contradiction
-- (document 01, "Type table"), each with a range of levels (document 02, Paper 7). With these labels it says over paths what a graph of any
-- size over a table is, what bounds two such graphs have, what their combination is, and which labels their difference wants.
use Rattle.std.specs.Prelude.{ℕ, suc, ◌-◌, ◌<◌, ◌≤◌, min, max, ◌≡◌, Bool, true, cond, ◌&&◌, ◌||◌, List, ◌↔◌, leb, eqb}
use Rattle.std.proofs.Math.Option.{Option, some, map}
use Rattle.graphs.specs.Label.{Labels}
use Rattle.graphs.specs.Graph.{Graph, walk, Reached, Corefer, Below, AnySize}
use Rattle.graphs.specs.Unify.{Joined, UnderClass}
use Rattle.lattice.specs.Label.{Ranged, Label, plain}
use Rattle.lattice.specs.Table.{below, meet, join, cell, wanted}

-- the types of a table alone, without ranges
abbrev pub type_labels : ℕ → List ℕ → Labels
type_labels n t =
    record {
      L = ℕ;
      le = below t;
      meet = λ a b. cell (meet n t a b);
      join = λ a b. cell (join n t a b);
      top = n - 1;
      contradiction = λ a. eqb a 0;
    }

-- Types with ranges: "Below now also asks that the range lies inside; the common part takes the smallest range holding both, the
-- combination the overlap, and an empty overlap is a clash." Here a lowest level above the highest is a range like any other, so
-- each law can be shown for the type, the lowest level and the highest level apart.
module _ {T : Type 0} where
  -- the join of two types with ranges, by a join of types, with "the smallest range holding both"
  abbrev pub join_ranged : (T → T → T) → Ranged T → Ranged T → Ranged T
  join_ranged join x y =
      record {
        type = join x.type y.type;
        lowest = min x.lowest y.lowest;
        highest = max x.highest y.highest;
      }

  -- the meet of two types with ranges, by a meet of types, with "the overlap"
  abbrev pub meet_ranged : (T → T → T) → Ranged T → Ranged T → Ranged T
  meet_ranged meet x y =
      record {
        type = meet x.type y.type;
        lowest = max x.lowest y.lowest;
        highest = min x.highest y.highest;
      }

  -- whether a type with a range is a contradiction: the type is one, or the range is empty
  abbrev pub contradiction_ranged : (T → Bool) → Ranged T → Bool
  contradiction_ranged contradiction x = contradiction x.type || leb (suc x.highest) x.lowest

-- the types 𝓣 with ranges, as labels
abbrev pub with_ranges : Labels → Labels
with_ranges 𝓣 =
    record {
      L = Ranged 𝓣.L;
      le = λ x y. 𝓣.le x.type y.type && leb y.lowest x.lowest && leb x.highest y.highest;
      meet = meet_ranged 𝓣.meet;
      join = join_ranged 𝓣.join;
      top = plain 𝓣.top;
      contradiction = contradiction_ranged 𝓣.contradiction;
    }

-- the level l lies inside the range of x
abbrev pub LevelIn : {T : Type 0} → Ranged T → ℕ → Type 0
LevelIn x l = (x.lowest ≤ l) × (l ≤ x.highest)

-- some level lies inside the range of x
abbrev pub NonEmpty : {T : Type 0} → Ranged T → Type 0
NonEmpty x = x.lowest ≤ x.highest

-- "the range lies inside": every level inside x is inside y
abbrev pub RangeInside : {T : Type 0} → Ranged T → Ranged T → Type 0
RangeInside x y = (l : ℕ) → LevelIn x l → LevelIn y l

-- the labels of a table: its types with ranges
abbrev pub table_labels : ℕ → List ℕ → Labels
table_labels n t = with_ranges (type_labels n t)

-- a label of a table: one of its n types, and levels "0 to 255"
pub record Known (n : ℕ) (x : Label) : Type 0 where
  pub type : x.type < n
  pub lowest : x.lowest ≤ 255
  pub highest : x.highest ≤ 255

-- every node has a label of the table
abbrev pub Typed : {A : Type 0} → ℕ → Graph Label A → Type 0
Typed {A} n g = (v : A) → Reached g v → Known n (g.label v)

-- "A graph of any size keeps every rule of an accepted record but the counts of nodes and links". Among these rules is that no type
-- is "at least n".
pub record OfAnySize (n : ℕ) (t : List ℕ) {A : Type 0} (g : Graph Label A) : Type 0 where
  pub any-size : AnySize (table_labels n t) g
  pub typed : Typed n g

-- k is a graph of any size above both graphs, and below every graph of any size that lies above both.
pub record LeastOfAnySize (n : ℕ) (t : List ℕ) {A B C : Type 0} (g : Graph Label A) (h : Graph Label B) (k : Graph Label C) : Type 1 where
  pub of-any-size : OfAnySize n t k
  pub left : Below (table_labels n t) g k
  pub right : Below (table_labels n t) h k
  pub least : {D : Type 0} (m : Graph Label D) → OfAnySize n t m → Below (table_labels n t) g m → Below (table_labels n t) h m →
      Below (table_labels n t) k m

-- k is a graph of any size below both graphs, and above every graph of any size that lies below both.
pub record GreatestOfAnySize (n : ℕ) (t : List ℕ) {A B C : Type 0} (g : Graph Label A) (h : Graph Label B) (k : Graph Label C) : Type 1 where
  pub of-any-size : OfAnySize n t k
  pub left : Below (table_labels n t) k g
  pub right : Below (table_labels n t) k h
  pub greatest : {D : Type 0} (m : Graph Label D) → OfAnySize n t m → Below (table_labels n t) m g → Below (table_labels n t) m h →
      Below (table_labels n t) m k

module _ (n : ℕ) (t : List ℕ) {A B : Type 0} (g : Graph Label A) (h : Graph Label B) where
  -- "a class has the meet of all types in it", and the overlap of all ranges: a is the greatest of the table's labels below each.
  pub record LabelsMeet (p : List ℕ) (a : Label) : Type 0 where
    pub known : Known n a
    pub under : UnderClass (table_labels n t) g h p a
    pub greatest : (b : Label) → Known n b → UnderClass (table_labels n t) g h p b → (table_labels n t).le b a ≡ true

  -- The graph u is the combination of g and h: its paths, which of them share, and its labels are those of the classes.
  pub record IsCombination {C : Type 0} (u : Graph Label C) : Type 0 where
    pub corefers : (p q : List ℕ) → Corefer u p q ↔ Joined g h p q
    pub labels : (p : List ℕ) (x : C) → walk u p ≡ some x → LabelsMeet p (u.label x)

  -- "A clash is a class whose meet is type 0", "and an empty overlap is a clash".
  abbrev pub LabelClash : Type 0
  LabelClash = (p : List ℕ) × (a : Label) × Joined g h p p × LabelsMeet p a × ((table_labels n t).contradiction a ≡ true)

-- The wanted level, for the level p in s and the level q over it: the widest level where p is q, else p.
abbrev pub wanted_level : ℕ → ℕ → ℕ → ℕ
wanted_level widest p q = cond (eqb p q) widest p

-- The type c with the wanted range, "the widest whose overlap with the general side's .. equals that of s". The lowest and the highest
-- level are computed apart.
abbrev pub wanted_range : Label → Label → ℕ → Label
wanted_range p q c =
    record { type = c; lowest = wanted_level 0 p.lowest q.lowest; highest = wanted_level 255 p.highest q.highest }

-- The wanted label of a node, for its label p in s and the meet q of all g labels over it: the wanted type with the wanted range, or
-- none where there is no wanted type.
unfoldable pub wanted_label : ℕ → List ℕ → Label → Label → Option Label
wanted_label n t p q = map (wanted_range p q) (wanted n t p.type q.type)

module _ (n : ℕ) (t : List ℕ) {A B : Type 0} (s : Graph Label A) (g : Graph Label B) where
  -- The label a is below each label of g over the node v of s: "Each path of g leads to one node of s, so nodes and links of g lie over
  -- those of s".
  abbrev pub BelowOver : A → Label → Type 0
  BelowOver v a = (p : List ℕ) (y : B) → walk s p ≡ some v → walk g p ≡ some y → (table_labels n t).le a (g.label y) ≡ true

  -- "the meet of all g types over this node (top if none)", and the overlap of their ranges "(full where nothing of g lies over)":
  -- q is the greatest of the table's labels that are below each.
  pub record MeetOver (v : A) (q : Label) : Type 0 where
    pub known : Known n q
    pub under : BelowOver v q
    pub greatest : (b : Label) → Known n b → BelowOver v b → (table_labels n t).le b q ≡ true

  -- "The wanted type is the greatest type whose meet with the meet of all g types over this node (top if none) equals the type in s",
  -- and "The wanted range is the widest whose overlap with the general side's .. equals that of s": c is the wanted type of the node v
  -- with its wanted range.
  pub record WantedAt (v : A) (c : Label) : Type 0 where
    pub over : Label
    pub is-over : MeetOver v over
    pub known : Known n c
    pub restores : (table_labels n t).meet c over ≡ s.label v
    pub greatest : (d : Label) → Known n d → (table_labels n t).meet d over ≡ s.label v → (table_labels n t).le d c ≡ true
