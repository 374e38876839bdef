-- The computed lead of a link is the least link of its group. The lead keeps the laws: links of g that enter one node lie over links
-- with one lead, a link and its lead are grouped, and a lead is a link of s that leads itself. The lead is the one link of its
-- group that no other comes before, however it is found (`lead-unique`).
use mathlib.Core.Path.{◌≡◌, refl, sym, subst}
use mathlib.Core.Bool.{Bool, true, false}
use mathlib.Core.List.{
  List,
  [],
  ◌∷◌,
  Memᴰ,
}
use mathlib.Core.Logic.{◌↔◌, ⊎_elim}
use native.Mathlib.Omega.{arith}
use lib.ListN.{length}
use Rattle.graphs.specs.Label.{Labels}
use Rattle.graphs.specs.Graph.{Graph}
use Rattle.graphs.specs.Map.{NodeMap}
use Rattle.graphs.specs.Difference.{Link, StrictOrder, incoming, touch, group_of, lead}
use Rattle.graphs.specs.Relations.{Into, LinkOver, Grouped, itself, touching, chain}
use Rattle.graphs.proofs.Walk.{some-unique}
use Rattle.graphs.proofs.Unification.Beside.{Operands}
use Rattle.graphs.proofs.Difference.Laws.{Leader, Enters}
use Rattle.graphs.proofs.Difference.Kept.{enters-into, grouped-into, grouped-flip, link-over, enters-at, enters-grouped}
use Rattle.graphs.proofs.Difference.Least.{earlier-one, least_of-listed, least_of-least, least_of-one}
use Rattle.graphs.proofs.Difference.Groups.{Closed, spread-closed, spread-keeps, spread-within, touch-enters, incoming-into}

module _ {𝓛 : Labels} {A B : Type 0} {sameA : A → A → Bool} {sameB : B → B → Bool} {s : Graph 𝓛.L A} {ss : List A}
    {g : Graph 𝓛.L B} {gs : List B} {over : B → A} (operands : Operands sameA sameB s ss g gs) (map : NodeMap 𝓛 s g over) where
  abbrev group : A → Link A → List (Link A)
  group v l = group_of sameA sameB s ss g gs over v l

  pub group-self : (v : A) (l : Link A) → Into s v l → Memᴰ l (group v l)
  unfolding group_of
  group-self v l i =
      let links = incoming sameA sameB s ss g gs over v in
      spread-keeps operands over links (length links) (l ∷ []) l
      ((incoming-into operands over v l).1 i) (mathlib.Core.List.Memᴰ.head refl)

  group-closed : (v : A) (l : Link A) → Closed operands over (incoming sameA sameB s ss g gs over v) (group v l)
  unfolding group_of
  group-closed v l =
      let links = incoming sameA sameB s ss g gs over v in
      spread-closed operands over links (length links) (l ∷ []) (omega arith)

  -- the computed group of a link holds what is grouped with it
  pub grouped-closed : (v : A) (l : Link A) {m n : Link A} → Grouped s g v m n → Memᴰ m (group v l) ↔ Memᴰ n (group v l)
  grouped-closed v l (itself _) = (λ i. i, λ i. i)
  grouped-closed v l (touching {l = m} {m = n} i j (z, a, b)) = (across m n j a b, across n m i b a)
    where
      across : (m n : Link A) → Into s v n → LinkOver s g z m → LinkOver s g z n → Memᴰ m (group v l) → Memᴰ n (group v l)
      across m n j a b i =
          group-closed v l m n i ((incoming-into operands over v n).1 j)
          ((touch-enters operands over m n).1 (z, (link-over map z m).0 a, (link-over map z n).0 b))
  grouped-closed v l (chain i j) =
      let e = grouped-closed v l i in
      let d = grouped-closed v l j in
      (λ t. d.0 (e.0 t), λ t. e.1 (d.1 t))

  pub group-grouped : (v : A) (l m : Link A) → Into s v l → Memᴰ m (group v l) → Grouped s g v l m
  unfolding group_of
  group-grouped v l m i j =
      let links = incoming sameA sameB s ss g gs over v in
      (spread-within operands over links (λ n. Into s v n × Grouped s g v l n) pass (length links) (l ∷ []) start m j).1
    where
      start : (n : Link A) → Memᴰ n (l ∷ []) → Into s v n × Grouped s g v l n
      start n k = subst (λ x. Into s v x × Grouped s g v l x) (sym (mathlib.Core.List.Memᴰ.eq_of_singleton k)) (i, itself i)

      pass : (x n : Link A) → Into s v x × Grouped s g v l x → touch sameA sameB s ss g gs over x n ≡ true →
          Into s v n × Grouped s g v l n
      pass x n (k, c) e =
          let (z, a, b) = (touch-enters operands over x n).0 e in
          let o : over z ≡ v = some-unique (enters-into map z x a).1 k.1 in
          (enters-at map v z n o b, chain c (enters-grouped map v z x n o a b))

  module _ (earlier : Link A → Link A → Bool) (order : StrictOrder earlier) where
    abbrev first : A → Link A → Link A
    first v l = lead sameA sameB s ss g gs over earlier v l

    -- links of one group have one lead
    pub lead-same : (v : A) (l m : Link A) → Into s v l → Grouped s g v l m → first v l ≡ first v m
    unfolding lead
    lead-same v l m i c =
        least_of-one earlier order l m (group v l) (group v m) (members l m i c) (members m l (grouped-into c).1 (grouped-flip c))
      where
        members : (l m : Link A) → Into s v l → Grouped s g v l m → (n : Link A) → Memᴰ n (l ∷ group v l) →
            Memᴰ n (m ∷ group v m)
        members l m i c n j =
            let k : Memᴰ n (group v l) =
            ⊎_elim (λ (e : n ≡ l). mathlib.Core.List.Memᴰ.cast e (group-self v l i)) (λ (k : Memᴰ n (group v l)). k)
            (mathlib.Core.List.Memᴰ.cases_cons j) in
            mathlib.Core.List.Memᴰ.tail
            ((grouped-closed v m (chain (grouped-flip c) (group-grouped v l n i k))).0 (group-self v m (grouped-into c).1))

    pub lead-grouped : (v : A) (l : Link A) → Into s v l → Grouped s g v l (first v l)
    unfolding lead
    lead-grouped v l i =
        ⊎_elim (λ (e : first v l ≡ l). subst (λ x. Grouped s g v l x) (sym e) (itself i))
        (λ (j : Memᴰ (first v l) (group v l)). group-grouped v l (first v l) i j)
        (mathlib.Core.List.Memᴰ.cases_cons (least_of-listed earlier order l (group v l)))

    pub lead-one : (z : B) (l m : Link A) → Enters g over z l → Enters g over z m → first (over z) l ≡ first (over z) m
    lead-one z l m a b = lead-same (over z) l m (enters-into map z l a) (enters-grouped map (over z) z l m refl a b)

    pub lead-leads : (v : A) (l : Link A) → Into s v l → Leader s first v (first v l)
    lead-leads v l i =
        let c = lead-grouped v l i in
        ((grouped-into c).1, sym (lead-same v l (first v l) i c))

    -- no link of its group comes before the lead
    pub lead-least : (v : A) (l m : Link A) → Into s v l → Grouped s g v l m → earlier m (first v l) ≡ false
    unfolding lead
    lead-least v l m i c =
        least_of-least earlier order l (group v l) m (mathlib.Core.List.Memᴰ.tail ((grouped-closed v l c).0 (group-self v l i)))

    -- the lead is the only link of its group that no link of the group comes before
    pub lead-unique : (v : A) (l k : Link A) → Into s v l → Grouped s g v l k →
        ((m : Link A) → Grouped s g v l m → earlier m k ≡ false) → k ≡ first v l
    lead-unique v l k i c least =
        earlier-one earlier order k (first v l) (lead-least v l k i c) (least (first v l) (lead-grouped v l i))
