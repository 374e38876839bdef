-- Paper 9: features belong to types. `list` is the list of types for features; a graph obeys it where every node may have its features.
use mathlib.Core.Path.{◌≡◌, refl}
use mathlib.Core.Bool.{true, false}
use mathlib.Core.List.{List}
use mathlib.Core.Logic.{◌↔◌}
use Prim.Native.Nat.{ℕ}
use lib.ListN.{take}
use Rattle.graphs.specs.Graph.{Graph}
use Rattle.graphs.specs.Rows.{Row}
use Rattle.graphs.specs.Generalize.{IsGeneralization}
use Rattle.lattice.specs.Label.{Label}
use Rattle.std.specs.Prelude.{Ok}
use Rattle.acceptance.specs.Reply.{opened}
use Rattle.lattice.specs.Labels.{table_labels, OfAnySize, LeastOfAnySize, GreatestOfAnySize, IsCombination}
use Rattle.acceptance.proofs.Acceptance.{opened-accepted}
use Rattle.record.specs.declared.GraphFault.TheVariants.{Inappropriate}
use Rattle.record.specs.Read.{reading, accepted, graph_of_rows}
use Rattle.record.specs.Appropriate.{list_accepted, appropriate, Appropriate}
use Rattle.record.proofs.Accepted.{accepted-rules}
use Rattle.record.proofs.Obeying as Obeying
use Rattle.replies.specs.declared.Side.TheVariants.{First, Second}
use Rattle.replies.specs.Replies.{Length, Graph as Refusal, TypeList}
use Rattle.calls.specs.Calls.{rewriting, generalizing, unifying, differing}
use Rattle.calls.specs.Appropriate.{rewriting_appropriate, generalizing_appropriate, unifying_appropriate}
use Rattle.demands.specs.Appropriate.{Passes, Breaks, Fits, Obeys}
use Rattle.demands.specs.Demand.{Given, Leaves}
use Rattle.demands.proofs.Demanded.Appropriate as Listing
use Rattle.demands.proofs.Demanded.Forbidden as Forbidden

-- Over paths, for every list: a common part or combination of graphs of any size that obey the list obeys the list.
module _ (n : ℕ) (t list : List ℕ) (opens : opened n t ≡ Ok tt) (listed : list_accepted n list ≡ true) {A B C : Type 0} (g : Graph Label A)
    (h : Graph Label B) (g-size : OfAnySize n t g) (h-size : OfAnySize n t h) (g-obeys : Appropriate t list g) (h-obeys : Appropriate t list h)
    (k : Graph Label C) where
  -- The common part over paths: "the paths in both, each with the join of its two types".
  pub common-paths-obey : IsGeneralization (table_labels n t) g h k → Appropriate t list k
  common-paths-obey = Obeying.common-obeys n t (opened-accepted n t (opened n t) refl opens) list listed g h g-size h-size g-obeys h-obeys k

  pub common-part-obeys : LeastOfAnySize n t g h k → Appropriate t list k
  common-part-obeys = Obeying.least-obeys n t (opened-accepted n t (opened n t) refl opens) list listed g h g-size h-size g-obeys h-obeys k

  -- The combination over paths: "a class has the meet of all types in it".
  pub combined-paths-obey : IsCombination n t g h k → Appropriate t list k
  combined-paths-obey = Obeying.combination-obeys n t (opened-accepted n t (opened n t) refl opens) list listed g h g-size h-size g-obeys h-obeys k

  pub combination-obeys : GreatestOfAnySize n t g h k → Appropriate t list k
  combination-obeys = Obeying.greatest-obeys n t (opened-accepted n t (opened n t) refl opens) list listed g h g-size h-size g-obeys h-obeys k

-- An accepted record passes the test of the list exactly where its graph obeys the list over paths, so 18 is given for no other graph.
pub obeys-over-paths : (n : ℕ) (t list bytes : List ℕ) (rows : List (Row Label)) → reading n bytes ≡ accepted rows →
    (appropriate t list rows ≡ true) ↔ Appropriate t list (graph_of_rows rows)
obeys-over-paths n t list bytes rows reads = Obeying.appropriate-exact n t list rows (accepted-rules n bytes rows reads)

module _ (n : ℕ) (t list out : List ℕ) where
  -- "which otherwise replies as the plain one": where neither 17 nor 18 is given, reply and output are those of the plain call.
  pub rewriting-otherwise : (a : List ℕ) → Passes (rewriting_appropriate n t list a out) →
      rewriting_appropriate n t list a out ≡ rewriting n t a out
  rewriting-otherwise = Listing.rewriting-kept n t list out

  pub generalizing-otherwise : (a b : List ℕ) → Passes (generalizing_appropriate n t list a b out) →
      generalizing_appropriate n t list a b out ≡ generalizing n t a b out
  generalizing-otherwise = Listing.generalizing-kept n t list out

  pub unifying-otherwise : (a b : List ℕ) → Passes (unifying_appropriate n t list a b out) →
      unifying_appropriate n t list a b out ≡ unifying n t a b out
  unifying-otherwise = Listing.unifying-kept n t list out

  -- 17 is given exactly where the table is accepted and the list is not.
  pub rewriting-list : (a : List ℕ) →
      ((rewriting_appropriate n t list a out).reply ≡ TypeList) ↔ ((opened n t ≡ Ok tt) × (list_accepted n list ≡ false))
  rewriting-list = Listing.rewriting-list n t list out

  pub generalizing-list : (a b : List ℕ) →
      ((generalizing_appropriate n t list a b out).reply ≡ TypeList) ↔ ((opened n t ≡ Ok tt) × (list_accepted n list ≡ false))
  generalizing-list = Listing.generalizing-list n t list out

  pub unifying-list : (a b : List ℕ) →
      ((unifying_appropriate n t list a b out).reply ≡ TypeList) ↔ ((opened n t ≡ Ok tt) × (list_accepted n list ≡ false))
  unifying-list = Listing.unifying-list n t list out

  -- "obey it too, and this must hold for every list": rewriting the written record with the same list gives that record again.
  pub rewriting-obeys : (a : List ℕ) (l : ℕ) → (rewriting_appropriate n t list a out).reply ≡ Length l →
      Obeys n t list (take l (rewriting_appropriate n t list a out).output)
  rewriting-obeys = Listing.rewriting-obeys n t list out

  pub generalizing-obeys : (a b : List ℕ) (l : ℕ) → (generalizing_appropriate n t list a b out).reply ≡ Length l →
      Obeys n t list (take l (generalizing_appropriate n t list a b out).output)
  generalizing-obeys = Listing.generalizing-obeys n t list out

  pub unifying-obeys : (a b : List ℕ) (l : ℕ) → (unifying_appropriate n t list a b out).reply ≡ Length l →
      Obeys n t list (take l (unifying_appropriate n t list a b out).output)
  unifying-obeys = Listing.unifying-obeys n t list out

module _ (n : ℕ) (t list out : List ℕ) where
  -- 18 is given exactly where the table and the list are accepted and the graph, accepted without the list, has a link that the list forbids.
  pub rewriting-forbidden : (a : List ℕ) → ((rewriting_appropriate n t list a out).reply ≡ Refusal Inappropriate First) ↔
      ((opened n t ≡ Ok tt) × (list_accepted n list ≡ true) × Breaks n t list a)
  rewriting-forbidden = Forbidden.rewriting-forbids n t list out

  -- 18 "tells which graph": it is given for the first graph before the second is looked at, and for the second where the first obeys the list.
  module _ (a b : List ℕ) where
    pub generalizing-forbidden-first : ((generalizing_appropriate n t list a b out).reply ≡ Refusal Inappropriate First) ↔
        ((opened n t ≡ Ok tt) × (list_accepted n list ≡ true) × Breaks n t list a)
    generalizing-forbidden-first = Forbidden.generalizing-forbids-first n t list out a b

    pub generalizing-forbidden-second : ((generalizing_appropriate n t list a b out).reply ≡ Refusal Inappropriate Second) ↔
        ((opened n t ≡ Ok tt) × (list_accepted n list ≡ true) × Fits n t list a × Breaks n t list b)
    generalizing-forbidden-second = Forbidden.generalizing-forbids-second n t list out a b

    pub unifying-forbidden-first : ((unifying_appropriate n t list a b out).reply ≡ Refusal Inappropriate First) ↔
        ((opened n t ≡ Ok tt) × (list_accepted n list ≡ true) × Breaks n t list a)
    unifying-forbidden-first = Forbidden.unifying-forbids-first n t list out a b

    pub unifying-forbidden-second : ((unifying_appropriate n t list a b out).reply ≡ Refusal Inappropriate Second) ↔
        ((opened n t ≡ Ok tt) × (list_accepted n list ≡ true) × Fits n t list a × Breaks n t list b)
    unifying-forbidden-second = Forbidden.unifying-forbids-second n t list out a b

-- Whatever is handed in, every refusal, also 17 and 18, leaves the output as it was. Beside a length, the first bytes are a written record, and
-- the other bytes are unchanged.
module _ (n : ℕ) (t list out : List ℕ) where
  pub rewriting-beside-leaves : (a : List ℕ) → Leaves n out (rewriting_appropriate n t list a out)
  rewriting-beside-leaves = Forbidden.rewriting-beside-leaves n t list out

  pub generalizing-beside-leaves : (a b : List ℕ) → Leaves n out (generalizing_appropriate n t list a b out)
  generalizing-beside-leaves = Forbidden.generalizing-beside-leaves n t list out

  pub unifying-beside-leaves : (a b : List ℕ) → Leaves n out (unifying_appropriate n t list a b out)
  unifying-beside-leaves = Forbidden.unifying-beside-leaves n t list out

-- "A difference need not obey it and is combined through the plain call, whose result then obeys": the difference of a and b, combined with a
-- from either side, gives what rewriting b with the list gives, wherever that rewriting gives neither 17 nor 18.
module _ (n : ℕ) (t a b : List ℕ) (g s : List (Row Label)) (given : Given n t a b g s) (list out room : List ℕ) (l : ℕ)
    (e : (differing n t a b out).reply ≡ Length l) (passes : Passes (rewriting_appropriate n t list b room)) where
  pub restored-obeys-first : unifying n t (take l (differing n t a b out).output) a room ≡ rewriting_appropriate n t list b room
  restored-obeys-first = Listing.restored-first n t a b g s given list out room l e passes

  pub restored-obeys-second : unifying n t a (take l (differing n t a b out).output) room ≡ rewriting_appropriate n t list b room
  restored-obeys-second = Listing.restored-second n t a b g s given list out room l e passes
