-- The difference asks of the map only where the listed nodes of g lie: maps that agree on these nodes give one difference, if the wanted
-- labels are the same.
use mathlib.Core.Path.{◌≡◌, refl, ◌∙◌, ap, ap₂, fun_ext}
use mathlib.Core.Bool.{Bool, cond, not, ◌&&◌, ◌||◌}
use mathlib.Core.Option.{Option, none, some, bind}
use mathlib.Core.List.{List, [], ◌∷◌, Memᴰ}
use Prim.Native.Nat.{ℕ, zero, suc}
use lib.ListN.{length}
use Rattle.graphs.specs.Label.{Labels}
use Rattle.graphs.specs.Graph.{Graph}
use Rattle.graphs.specs.Rows.{features}
use Rattle.graphs.specs.Unify.{any_of, holds}
use Rattle.graphs.specs.Reasons.{reason_at}
use Rattle.graphs.specs.Difference.{
  Link,
  least_of,
  meet_where,
  select,
  same_link,
  differ,
  incoming,
  covers,
  bare,
  touch,
  spread,
  group_of,
  lead,
  leaders,
  kept_itself,
  keeps,
  kept_link,
  difference,
  meet_over,
}

any_of-agree : {X : Type 0} (xs : List X) {test other : X → Bool} → ((x : X) → Memᴰ x xs → test x ≡ other x) →
    any_of xs test ≡ any_of xs other
unfolding any_of
any_of-agree [] h = refl
any_of-agree (x ∷ xs) h = ap₂ ◌||◌ (h x (Memᴰ.head refl)) (any_of-agree xs (λ y m. h y (Memᴰ.tail m)))

select-agree : {X : Type 0} (xs : List X) {test other : X → Bool} → ((x : X) → test x ≡ other x) → select test xs ≡ select other xs
select-agree xs h = ap (λ t. select t xs) (fun_ext h)

holds_agree : {X : Type 0} (o : Option X) {test other : X → Bool} → ((x : X) → test x ≡ other x) → holds test o ≡ holds other o
holds_agree o h = ap (λ t. holds t o) (fun_ext h)

meet_where-agree : (𝓛 : Labels) {B : Type 0} (label : B → 𝓛.L) (ys : List B) {test other : B → Bool} →
    ((y : B) → Memᴰ y ys → test y ≡ other y) → meet_where 𝓛 test label ys ≡ meet_where 𝓛 other label ys
unfolding meet_where
meet_where-agree 𝓛 label [] h = refl
meet_where-agree 𝓛 label (y ∷ ys) h =
    ap₂ (λ (b : Bool) (m : 𝓛.L). cond b (𝓛.meet (label y) m) m) (h y (Memᴰ.head refl))
    (meet_where-agree 𝓛 label ys (λ x m. h x (Memᴰ.tail m)))

-- maps that agree give one meet of the labels over a node
pub meet_over-agree : (𝓛 : Labels) {A B : Type 0} (sameA : A → A → Bool) (g : Graph 𝓛.L B) (gs : List B) (over other : B → A) →
    ((y : B) → Memᴰ y gs → over y ≡ other y) → (v : A) → meet_over 𝓛 sameA g gs over v ≡ meet_over 𝓛 sameA g gs other v
unfolding meet_over
meet_over-agree 𝓛 sameA g gs over other agree v =
    meet_where-agree 𝓛 g.label gs (λ y m. ap (λ u. sameA u v) (agree y m))

module _ {L A B : Type 0} (sameA : A → A → Bool) (sameB : B → B → Bool) (s : Graph L A) (ss : List A) (g : Graph L B) (gs : List B)
    (over other : B → A) (agree : (y : B) → Memᴰ y gs → over y ≡ other y) where
  covers-agree : (z : B) (l : Link A) → covers sameA sameB s ss g gs over z l ≡ covers sameA sameB s ss g gs other z l
  unfolding covers
  covers-agree z l = any_of-agree gs (λ y m. ap (λ v. sameA v l.0 && holds (sameB z) (g.link y l.1)) (agree y m))

  bare-agree : (l : Link A) → bare sameA sameB s ss g gs over l ≡ bare sameA sameB s ss g gs other l
  unfolding bare
  bare-agree l = ap not (any_of-agree gs (λ z _. covers-agree z l))

  touch-agree : (l m : Link A) → touch sameA sameB s ss g gs over l m ≡ touch sameA sameB s ss g gs other l m
  unfolding touch
  touch-agree l m = any_of-agree gs (λ z _. ap₂ ◌&&◌ (covers-agree z l) (covers-agree z m))

  spread-agree : (k : ℕ) (links group : List (Link A)) →
      spread sameA sameB s ss g gs over k links group ≡ spread sameA sameB s ss g gs other k links group
  unfolding spread
  spread-agree zero links group = refl
  spread-agree (suc k) links group =
      ap (spread sameA sameB s ss g gs over k links)
      (select-agree links
      (λ m. any_of-agree group (λ l _. ap (λ b. same_link sameA sameB s ss g gs over l m || b) (touch-agree l m)))) ∙
      spread-agree k links (select (λ m. any_of group λ l. same_link sameA sameB s ss g gs other l m || touch sameA sameB s ss g gs other l m) links)

  group_of-agree : (v : A) (l : Link A) → group_of sameA sameB s ss g gs over v l ≡ group_of sameA sameB s ss g gs other v l
  unfolding group_of incoming
  group_of-agree v l =
      let links = incoming sameA sameB s ss g gs over v in
      spread-agree (length links) links (l ∷ [])

  module _ (earlier : Link A → Link A → Bool) where
    lead-agree : (v : A) (l : Link A) → lead sameA sameB s ss g gs over earlier v l ≡ lead sameA sameB s ss g gs other earlier v l
    unfolding lead
    lead-agree v l = ap (least_of earlier l) (group_of-agree v l)

    leaders-agree : (v : A) → leaders sameA sameB s ss g gs over earlier v ≡ leaders sameA sameB s ss g gs other earlier v
    unfolding leaders incoming
    leaders-agree v =
        select-agree (incoming sameA sameB s ss g gs over v)
        (λ l. ap (λ m. same_link sameA sameB s ss g gs over m l) (lead-agree v l))

    -- maps that agree give one reason for a link
    pub reason-agree : (l : Link A) (v : A) →
        reason_at sameA sameB s ss g gs over earlier l v ≡ reason_at sameA sameB s ss g gs other earlier l v
    unfolding reason_at differ
    reason-agree l v =
        ap₂ (λ (b : Bool) (ls : List (Link A)). cond b 1 (cond (differ sameA sameB s ss g gs over ls) 2 3)) (bare-agree l) (leaders-agree v)

    module _ (is_top : A → Bool) where
      kept_itself-agree : (v : A) →
          kept_itself sameA sameB s ss g gs over earlier is_top v ≡ kept_itself sameA sameB s ss g gs other earlier is_top v
      unfolding kept_itself differ
      kept_itself-agree v =
          ap₂
          (λ (ls : List (Link A)) (b : Bool). sameA v s.root || differ sameA sameB s ss g gs over ls || b || not (is_top v))
          (leaders-agree v)
          (ap (λ ls. any_of ls (bare sameA sameB s ss g gs over)) (leaders-agree v) ∙
          any_of-agree (leaders sameA sameB s ss g gs other earlier v) (λ l _. bare-agree l))

      keeps-agree : (k : ℕ) (v : A) →
          keeps sameA sameB s ss g gs over earlier is_top k v ≡ keeps sameA sameB s ss g gs other earlier is_top k v
      unfolding keeps
      keeps-agree zero v = kept_itself-agree v
      keeps-agree (suc k) v =
          ap₂ ◌||◌ (kept_itself-agree v)
          (any_of-agree features
          (λ f _. holds_agree (s.link v f)
          (λ w. ap₂ (λ m b. same_link sameA sameB s ss g gs over m (v, f) && b) (lead-agree w (v, f)) (keeps-agree k w))))

      kept_link-agree : (u : A) (f : ℕ) →
          kept_link sameA sameB s ss g gs over earlier is_top u f ≡ kept_link sameA sameB s ss g gs other earlier is_top u f
      unfolding kept_link
      kept_link-agree u f =
          ap (bind (s.link u f))
          (fun_ext
          (λ v. ap₂ (λ m b. cond (same_link sameA sameB s ss g gs over m (u, f) && b) (some v) none) (lead-agree v (u, f))
          (keeps-agree (length ss) v)))

-- maps that agree give one difference
pub difference-agree : (𝓛 : Labels) {A B : Type 0} (sameA : A → A → Bool) (sameB : B → B → Bool) (earlier : Link A → Link A → Bool)
    (s : Graph 𝓛.L A) (ss : List A) (g : Graph 𝓛.L B) (gs : List B) (over other : B → A) (wanted want : A → 𝓛.L) →
    ((y : B) → Memᴰ y gs → over y ≡ other y) → ((v : A) → wanted v ≡ want v) →
    difference 𝓛 sameA sameB earlier s ss g gs over wanted ≡ difference 𝓛 sameA sameB earlier s ss g gs other want
unfolding difference
difference-agree 𝓛 {A} sameA sameB earlier s ss g gs over other wanted want agree same =
    ap (λ w. difference 𝓛 sameA sameB earlier s ss g gs over w) (fun_ext same) ∙
    ap (λ (k : A → ℕ → Option A). record { root = s.root; label = want; link = k })
    (fun_ext λ u. fun_ext λ f. kept_link-agree sameA sameB s ss g gs over other agree earlier (λ v. 𝓛.le 𝓛.top (want v)) u f)
