-- The order of links that a call asks for is a strict total order. It is the same as the order by the ranks of features, then by places, so
-- marks by ranks are marks by that order.
use mathlib.Core.Path.{◌≡◌, refl, sym, ◌∙◌, ap, subst}
use mathlib.Core.Bool.{true}
use mathlib.Core.List.{List}
use mathlib.Core.Logic.{◌↔◌, inl, inr, ⊎_elim}
use Prim.Native.Nat.{ℕ, ◌<◌}
use native.Mathlib.Decide.{ℕ_discrete, dec_lt}
use native.Mathlib.Nat.{lt_irrefl, lt_trans}
use native.Mathlib.Omega.{arith}
use lib.ListN.{get_or}
use Rattle.graphs.specs.Difference.{Link, StrictOrder, place_in}
use Rattle.graphs.proofs.Difference.ByNumber.{Before, by_number_lem, by-number-order}
use Rattle.graphs.proofs.Difference.ByReading.{BeforeIn, by-reading, by-reading-order, one_place}
use Rattle.layout.specs.Layout.{feature_at, Shaped, Place}
use Rattle.layout.proofs.Order.{earlier-row, place-rises}
use Rattle.link_orders.specs.declared.LinkOrder.{LinkOrder}
use Rattle.link_orders.specs.declared.LinkOrder.TheVariants as link_order
use Rattle.groups.specs.Marks.{At, Earlier, rank_at, Sooner, Owned, Mark, follows, leads, bare, Marks}
use Rattle.link_orders.specs.LinkOrders.{earlier_by, rank_of, Ranks}

-- The order that a call asks for.

pub earlier-by-order : (order : LinkOrder) → StrictOrder (earlier_by order)
unfolding earlier_by
earlier-by-order link_order.ByNumber = by-number-order
earlier-by-order (link_order.ByList list) = by-reading-order list

-- The order of links by their places.

module _ {ws : List ℕ} (shaped : Shaped ws) {j k : ℕ} {l m : Link ℕ} (a : At ws j l) (b : At ws k m) where
  moved : l.0 ≡ m.0 → Place ws l.0 k
  moved e = subst (λ (u : ℕ). Place ws u k) (sym e) b.place

  -- The order of places is the order of links by parent number, then feature.
  at_before : Before l m → j < k
  at_before (inl h) =
      omega (arith, earlier-row shaped l.0 m.0 j h (omega (arith, b.place.inside)) a.place.high, b.place.low)
  at_before (inr (e, h)) = go (dec_lt j k) (ℕ_discrete j k)
    where
      less : feature_at ws j < feature_at ws k
      less = rw (a.feature, b.feature) h

      go : Dec (j < k) → Dec (j ≡ k) → j < k
      go (yes x) y = x
      go (no x) (yes y) = absurd (lt_irrefl (feature_at ws k) (subst (λ (i : ℕ). feature_at ws i < feature_at ws k) y less))
      go (no x) (no y) =
          absurd (lt_irrefl (feature_at ws j) (lt_trans less (place-rises shaped (moved e) a.place (omega arith))))

  before_at : j < k → Before l m
  before_at h = go (dec_lt l.0 m.0) (dec_lt m.0 l.0)
    where
      go : Dec (l.0 < m.0) → Dec (m.0 < l.0) → Before l m
      go (yes x) y = inl x
      go (no x) (yes y) =
          absurd (omega (
            arith,
            earlier-row shaped m.0 l.0 k y (omega (arith, a.place.inside)) b.place.high,
            a.place.low,
          ))
      go (no x) (no y) =
          let e : l.0 ≡ m.0 = omega arith in
          inr (e, rw (sym a.feature, sym b.feature) (place-rises shaped a.place (moved e) h))

  -- Links with one feature stand in the order of their parents.
  before_parent : l.1 ≡ m.1 → j < k → l.0 < m.0
  before_parent e h = ⊎_elim (λ (x : l.0 < m.0). x) (λ (x : (l.0 ≡ m.0) × (l.1 < m.1)). absurd (omega (arith, x.1))) (before_at h)

  module _ {order : LinkOrder} {rank : List ℕ} (ranks : Ranks order rank) where
    rank_left : rank_at ws rank j ≡ rank_of order l.1
    rank_left =
        ranks.each (feature_at ws j) (shaped.known l.0 j a.place.inside a.place.low a.place.high) ∙
        ap (rank_of order) a.feature

    rank_right : rank_at ws rank k ≡ rank_of order m.1
    rank_right =
        ranks.each (feature_at ws k) (shaped.known m.0 k b.place.inside b.place.low b.place.high) ∙
        ap (rank_of order) b.feature

    -- The order by ranks, then by places, is the order that a call asks for.
    pub sooner-earlier : Sooner ws rank j k ↔ (earlier_by order l m ≡ true)
    unfolding earlier_by
    sooner-earlier = go order rank_left rank_right
      where
        go : (o : LinkOrder) → rank_at ws rank j ≡ rank_of o l.1 → rank_at ws rank k ≡ rank_of o m.1 →
            Sooner ws rank j k ↔ (earlier_by o l m ≡ true)
        go link_order.ByNumber p q = (
          λ h. (by_number_lem l m).1 (before_at (earlier h)),
          λ e. inr (p ∙ sym q, at_before ((by_number_lem l m).0 e)),
        )
          where
            earlier : Sooner ws rank j k → j < k
            earlier (inl h) = absurd (omega arith)
            earlier (inr h) = h.1
        go (link_order.ByList list) p q = (λ h. (by-reading list l m).1 (there h), λ e. back ((by-reading list l m).0 e))
          where
            there : Sooner ws rank j k → BeforeIn list l m
            there (inl h) = inl (rw (sym p, sym q) h)
            there (inr (e, h)) =
                let same : l.1 ≡ m.1 = one_place list l.1 m.1 (sym p ∙ e ∙ q) in
                inr (same, before_parent same h)

            back : BeforeIn list l m → Sooner ws rank j k
            back (inl h) = inl (rw (p, q) h)
            back (inr (e, h)) = inr (p ∙ ap (place_in list) e ∙ sym q, at_before (inl h))

-- Marks by ranks are marks by the order that a call asks for.
pub marks-by-order : {s owner parent : List ℕ} {order : LinkOrder} {rank marks : List ℕ} → Owned s owner parent → Ranks order rank →
    Marks (Sooner s rank) s owner parent marks → Marks (Earlier (earlier_by order) s) s owner parent marks
marks-by-order {s} {owner} {parent} {order} {rank} {marks} o ranks m =
    record { long = m.long; each = λ v k p. go v k p (m.each v k p) }
  where
    at : {v k : ℕ} → Place s v k → At s k (v, feature_at s k)
    at p = record { place = p; feature = refl }

    go : (v k : ℕ) → Place s v k → Mark owner parent (Sooner s rank) k (get_or marks k 0) →
        Mark owner parent (Earlier (earlier_by order) s) k (get_or marks k 0)
    go v k p (follows e j h w t) =
        let (u, q) = o.linked j h t.left in
        follows e j h ((u, feature_at s j), (v, feature_at s k), at q, at p, (sooner-earlier o.shaped (at q) (at p) ranks).0 w) t
    go v k p (leads e h alone) =
        leads e h λ j l w t. alone j l ((sooner-earlier o.shaped w.2 w.3 ranks).1 w.4) t
    go v k p (bare e h) = bare e h
