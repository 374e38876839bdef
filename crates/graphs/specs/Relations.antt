-- This file defines the difference of g and s by relations over their paths and links (document 01, "Difference, for s below g"). Nodes and
-- labels may be of any type. `earlier` orders the links of s, and `Wants v` says that the wanted label of the node v of s is not top.
-- `Difference.antt` computes the same.
use Rattle.std.specs.Prelude.{◌≡◌, Bool, false, List, ℕ}
use Rattle.std.proofs.Math.Option.{some}
use Rattle.graphs.specs.Graph.{Graph, Reached, walk}
use Rattle.graphs.specs.Difference.{Link}

-- an "incoming link": l is a link of s that enters v
abbrev pub Into : {L A : Type 0} → Graph L A → A → Link A → Type 0
Into s v l = Reached s l.0 × (s.link l.0 l.1 ≡ some v)

module _ {L A B : Type 0} (s : Graph L A) (g : Graph L B) where
  -- "Each path of g leads to one node of s, so nodes and links of g lie over those of s": y lies over v when one path leads to y in g and
  -- to v in s.
  abbrev pub LiesOver : B → A → Type 0
  LiesOver y v = (p : List ℕ) × (walk g p ≡ some y) × (walk s p ≡ some v)

  -- A link of g that lies over l enters z. Such a link leaves a node over the one that l leaves, by the feature of l.
  abbrev pub LinkOver : B → Link A → Type 0
  LinkOver z l = (y : B) × LiesOver y l.0 × (g.link y l.1 ≡ some z)

  -- Something of g lies over the link l.
  abbrev pub SomethingOver : Link A → Type 0
  SomethingOver l = (z : B) × LinkOver z l

  -- l is a "link with nothing of g over it".
  abbrev pub NothingOver : Link A → Type 0
  NothingOver l = SomethingOver l → ⊥

  -- "two links of g that enter one node of g lie over them"
  abbrev pub Touch : Link A → Link A → Type 0
  Touch l m = (z : B) × LinkOver z l × LinkOver z m

  -- "At a node of s .., put two incoming links in one group when two links of g that enter one node of g lie over them; close this
  -- transitively." Each link is in its own group. "A link with nothing of g over it is a group alone."
  pub data Grouped (v : A) : Link A → Link A → Type 0 where
    itself : {l : Link A} → Into s v l → Grouped v l l
    touching : {l m : Link A} → Into s v l → Into s v m → Touch l m → Grouped v l m
    chain : {l m n : Link A} → Grouped v l m → Grouped v m n → Grouped v l n

  -- "two or more groups": two links enter v that are not in one group
  abbrev pub TwoGroups : A → Type 0
  TwoGroups v = (l : Link A) × (m : Link A) × Into s v l × Into s v m × (Grouped v l m → ⊥)

  module _ (earlier : Link A → Link A → Bool) where
    -- "the least link of each" group: l enters v, and no link of its group is earlier
    abbrev pub LeastOfGroup : A → Link A → Type 0
    LeastOfGroup v l = Into s v l × ((m : Link A) → Grouped v l m → earlier m l ≡ false)

    module _ (Wants : A → Type 0) where
      -- The nodes of s that are kept:
      pub data Kept : A → Type 0 where
        -- "The root is always kept."
        is_root : {v : A} → v ≡ s.root → Kept v
        -- "With two or more groups, the difference keeps the least link of each."
        many_groups : {v : A} → TwoGroups v → Kept v
        -- "With one group, it keeps the least link if nothing of g lies over that group": such a group is one link.
        nothing_over : {v : A} {l : Link A} → Into s v l → NothingOver l → Kept v
        -- "or the wanted type is not top"
        wants_label : {v : A} → Wants v → Kept v
        -- "or a link leaving this node is kept. Otherwise none."
        keeps_link : {v w : A} {f : ℕ} → LeastOfGroup w (v, f) → Kept w → Kept v

      -- the link of s from u by f, which enters v, is kept: it is the least of its group, and v is kept
      abbrev pub KeptLink : A → ℕ → A → Type 0
      KeptLink u f v = LeastOfGroup v (u, f) × Kept v
