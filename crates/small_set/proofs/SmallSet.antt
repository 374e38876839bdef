-- Document 01's small set, computed: "The small set is one table proved by one result about the definitions." Each result names the definitions
-- that its cases unfold.
use mathlib.Core.Path.{◌≡◌, refl, ap}
use mathlib.Core.Bool.{Bool, true, false, not, ◌&&◌, ◌||◌}
use mathlib.Core.List.{List, flat_map}
use mathlib.Core.Option.{bind, or_else}
use Prim.Native.Nat.{ℕ}
use lib.Dec.{eqb}
use lib.ListN.{length}
use Rattle.graphs.specs.Rows.{Row, from, target, links_of}
use Rattle.graphs.specs.Order.{all_of, within as walks, fits_at, subsumes}
use Rattle.graphs.specs.Number.{canonical, visit, each, member, index_of, out_degree, link_count, row_of}
use Rattle.graphs.specs.Generalize.{generalization_by}
use Rattle.graphs.specs.Unify.{
  unification_by,
  class_graph,
  class_name,
  has_cycle,
  has_clash,
  first_of,
  any_of,
  deep,
  merge,
  apart,
  unsettled,
  close,
  class_link,
  class_label,
}
use Rattle.lattice.specs.Label.{Label}
use Rattle.graphs.specs.Difference.{
  difference,
  kept_link,
  keeps,
  kept_itself,
  differ,
  lead,
  leaders,
  group_of,
  spread,
  touch,
  bare,
  covers,
  incoming,
  select,
  links_from,
  least_of,
  meet_over,
  meet_where,
  by_number,
  place_in,
  by_reading,
}
use Rattle.graphs.specs.Reasons.{reason_at, written_order, along_links}
use Rattle.graphs.specs.OfRows.{same_pair}
use Rattle.graphs.proofs.Search.{true-both}
use Rattle.acceptance.specs.declared.TableFault.TheVariants.{Bounds}
use Rattle.std.specs.Prelude.{Ok, Err}
use Rattle.lattice.specs.Table.{every, last, below, sized, confined, reflexive, antisymmetric, transitive, least, greatest, ordered, is_meet, is_join, meet, join, bounded, restores, is_wanted, wanted, implies, found, upto}
use Rattle.lattice.specs.Words.{word}
use Rattle.bounds.specs.Sets.{distributive, irreducible, set_of}
use Rattle.acceptance.specs.Reply.{opened}
use Rattle.lattice.specs.Labels.{table_labels, wanted_label}
use Rattle.lattice.proofs.Every.{implies-at, every-at, found_some}
use Rattle.acceptance.proofs.Acceptance.{opened-accepted}
use Rattle.lattice.proofs.Lawful.{inside}
use Rattle.decode.specs.Decode.{bit_of, label_length, label_of, take_links, take_row, take_rows, decoded}
use Rattle.encoder.specs.Encode.{bits_from, is_full, encoded_label, encoded_row, encoded_rows, encoded}
use Rattle.encode.specs.Encode.{fitted, written_out}
use Rattle.peeling.specs.Range.{label_in_range}
use Rattle.record.specs.Read.{in_range, cyclic, reaches_all, reading, accepted, graph_of_rows}
use Rattle.record.specs.Appropriate.{list_accepted, reading_appropriate, appropriate, row_appropriate}
use Rattle.record.proofs.Accepted.{accepted-rules}
use Rattle.record.proofs.Theorems.{accepted-of-any-size}
use Rattle.link_orders.specs.LinkOrders.{is_reading_order}
use Rattle.difference.specs.Promise.{wanted_along, all_wanted_along, difference_along, reasons_along}
use Rattle.calls.specs.Calls.{rewriting, generalizing, ordering, unifying, differing, differing_by}
use Rattle.engine.specs.Generalizing.{generalized}
use Rattle.orders.specs.Ordering.{ordered as comparing}
use Rattle.engine.specs.Unifying.{unified_rows}
use Rattle.calls.specs.Appropriate.{rewriting_appropriate, generalizing_appropriate}
use Rattle.difference.specs.Difference.{first_at, over, differed, differed_rows}
use Rattle.engine.specs.Differing.{reasons_of}
use Rattle.calls.specs.Explained.{explaining, explaining_by}
use Rattle.replies.specs.Replies.{NoWantedType}
use Rattle.listed.specs.Listing.{precedes, stated_rows, span, runs, listing, is_listed, first_after, following}
use Rattle.listing.specs.Call.{continued, counted as counting, stepped, stepping}
use Rattle.demands.proofs.Demanded.Wanted.{meet-known, label-below, type-exact}
use Rattle.demands.proofs.Requests.Paper06.{unwanted-exact, itself-lone-top}
use Rattle.small_set.specs.Cases.{three_middles, two_over_two, NeverUnwanted, ItselfTop, AllHold, none_left, ◌and◌, cases, SmallSet, FourAnswers, Reasons, ReadingOrders, AsSets, Chains}

all_hold : AllHold cases
unfolding
    bind or_else
    rewriting generalizing generalized unifying unified_rows differing differed_rows differed all_wanted_along difference_along wanted_along over first_at
    opened sized ordered confined reflexive antisymmetric transitive least greatest bounded meet is_meet join is_join every last below
    restores is_wanted wanted wanted_label
    reading decoded take_rows take_row label_length label_of take_links bit_of in_range label_in_range all_of cyclic any_of deep reaches_all
    canonical visit each member target from link_count out_degree row_of links_of index_of
    written_out fitted encoded encoded_rows encoded_row encoded_label is_full bits_from
    generalization_by same_pair
    unification_by class_graph class_name has_cycle has_clash first_of merge apart unsettled close class_link class_label
    subsumes walks fits_at flat_map
    difference differ kept_link keeps kept_itself lead leaders group_of spread touch bare covers incoming select links_from least_of
    meet_over meet_where by_number
    rewriting_appropriate generalizing_appropriate list_accepted reading_appropriate appropriate row_appropriate
all_hold =
    refl
    and refl
    and refl
    and refl
    and refl
    and refl
    and refl
    and refl
    and refl
    and refl
    and refl
    and refl
    and refl
    and refl
    and refl
    and refl
    and refl
    and refl
    and refl
    and refl
    and refl
    and refl
    and refl
    and refl
    and refl
    and refl
    and refl
    and refl
    and refl
    and refl
    and refl
    and refl
    and none_left

three-middles-opened : opened three_middles.count three_middles.table ≡ Ok tt
unfolding opened sized ordered confined reflexive antisymmetric transitive least greatest bounded meet is_meet join is_join every last below
three-middles-opened = refl

-- For every two types, the first below the second, there is a wanted type. Type 0 is left out, for no node has it.
three-middles-wanted : every 5 (λ p. every 5 λ q. implies (not (eqb p 0) && below three_middles.table p q)
    (found (wanted three_middles.count three_middles.table p q))) ≡ true
unfolding wanted is_wanted restores meet is_meet every last below
three-middles-wanted = refl

or-first : (b c : Bool) → b || c ≡ false → b ≡ false
or-first true c e = e
or-first false c e = refl

-- Over an accepted table whose types are so, 13 is given for no two accepted graphs.
no-unwanted : (n : ℕ) (t first second out : List ℕ) (g s : List (Row Label)) → opened n t ≡ Ok tt →
    every n (λ p. every n λ q. implies (not (eqb p 0) && below t p q) (found (wanted n t p q))) ≡ true →
    reading n first ≡ accepted g → reading n second ≡ accepted s → (differing n t first second out).reply ≡ NoWantedType → ⊥
unfolding wanted_along
no-unwanted n t first second out g s opens all e f told =
    let ok = opened-accepted n t (opened n t) refl opens in
    let general = accepted-rules n first g e in
    let specific = accepted-rules n second s f in
    let (lies, (v, r, nothing)) =
    (unwanted-exact n t first second g s (record { opens = opens; first = e; second = f }) out).0 told in
    let size = accepted-of-any-size n second s f t in
    let x : Label = (graph_of_rows s).label v in
    let y : Label = meet_over (table_labels n t) eqb (graph_of_rows g) (from 0 (length g)) (over s g) v in
    let p : ℕ = x.type in
    let q : ℕ = y.type in
    let nonzero : eqb p 0 ≡ false = or-first (eqb p 0) _ (size.any-size.consistent v r) in
    let (c, is) =
    found_some (wanted n t p q)
    (implies-at (not (eqb p 0) && below t p q) (found (wanted n t p q))
    (every-at _ n q (every-at _ n p all (size.typed v r).type) (meet-known n t ok g s general specific lies v).type)
    (true-both (not (eqb p 0)) (below t p q) (ap not nonzero) (inside n t x y (label-below n t ok g s general specific lies v)).type)) in
    nothing c ((type-exact n t ok g s general specific lies v c).0 is)

never-unwanted : NeverUnwanted three_middles
never-unwanted first second out g s =
    no-unwanted three_middles.count three_middles.table first second out g s three-middles-opened three-middles-wanted

itself-top : ItselfTop three_middles
itself-top bytes out s reads =
    itself-lone-top three_middles.count three_middles.table bytes s three-middles-opened reads out

pub small-set : SmallSet
small-set = record { all_hold = all_hold; never-unwanted = never-unwanted; itself-top = itself-top }

-- 13. "Types 1, 2 both under 3 and 4, which are unordered, and 5 top: 3."
pub two-over-two-opened : opened two_over_two.count two_over_two.table ≡ Err Bounds
unfolding opened sized ordered confined reflexive antisymmetric transitive least greatest bounded meet is_meet join is_join every last below
two-over-two-opened = refl

-- The order's four answers on P, Q, R, a and b, computed.
pub four-answers : FourAnswers
unfolding
    ordering comparing
    opened sized ordered confined reflexive antisymmetric transitive least greatest bounded meet is_meet join is_join every last below
    reading decoded take_rows take_row label_length label_of take_links bit_of in_range label_in_range all_of cyclic any_of deep reaches_all
    visit each member target from links_of bind or_else
    subsumes walks fits_at flat_map
four-answers =
    record { itself = refl; unshared = refl; shared = refl; typed = refl; untyped = refl; apart = refl }

-- The reasons of Paper 13, computed.
pub reasons : Reasons
unfolding
    bind or_else
    explaining reasons_of reasons_along reason_at along_links written_order
    differing differed_rows differed all_wanted_along difference_along wanted_along over first_at
    opened sized ordered confined reflexive antisymmetric transitive least greatest bounded meet is_meet join is_join every last below
    restores is_wanted wanted wanted_label
    reading decoded take_rows take_row label_length label_of take_links bit_of in_range label_in_range all_of cyclic any_of deep reaches_all
    canonical visit each member target from link_count out_degree row_of links_of index_of
    written_out fitted encoded encoded_rows encoded_row encoded_label is_full bits_from
    subsumes walks fits_at flat_map
    difference differ kept_link keeps kept_itself lead leaders group_of spread touch bare covers incoming select links_from least_of
    meet_over meet_where by_number
reasons = record { wanted = refl; shared = refl; rejoined = refl; added = refl; no_room = refl }

-- The cases of Paper 10, computed.
pub reading-orders : ReadingOrders
unfolding
    bind or_else
    differing_by explaining_by is_reading_order by_reading place_in
    reasons_of reasons_along reason_at along_links written_order
    differing differed_rows differed all_wanted_along difference_along wanted_along over first_at
    opened sized ordered confined reflexive antisymmetric transitive least greatest bounded meet is_meet join is_join every last below
    restores is_wanted wanted wanted_label
    reading decoded take_rows take_row label_length label_of take_links bit_of in_range label_in_range all_of cyclic any_of deep reaches_all
    canonical visit each member target from link_count out_degree row_of links_of index_of
    written_out fitted encoded encoded_rows encoded_row encoded_label is_full bits_from
    subsumes walks fits_at flat_map
    difference differ kept_link keeps kept_itself lead leaders group_of spread touch bare covers incoming select links_from least_of
    meet_over meet_where by_number
reading-orders =
    record { zero-first = refl; one-first = refl; feature-first = refl; parent-first = refl; explained = refl; twice = refl }

-- Types as sets, computed.
pub as-sets : AsSets
unfolding distributive irreducible set_of word upto meet is_meet join is_join every last below
as-sets =
    record {
      diamond-spreads = refl;
      rivals-do-not = refl;
      raised-rivals-do-not = refl;
      diamond-sets = refl;
      rival-sets = refl;
      raised-rival-sets = refl;
    }

-- The list over two types, computed.
pub chains : Chains
unfolding
    bind or_else
    stepping stepped counting continued is_listed following first_after precedes listing runs span stated_rows flat_map
    opened sized ordered confined reflexive antisymmetric transitive least greatest bounded meet is_meet join is_join every last below
    reading decoded take_rows take_row label_length label_of take_links bit_of in_range label_in_range all_of cyclic any_of deep reaches_all
    visit each member target from links_of
    fitted encoded encoded_rows encoded_row encoded_label is_full bits_from
chains =
    record {
      list = refl;
      more = refl;
      first = refl;
      second = refl;
      third = refl;
      end = refl;
      no-feature = refl;
      three-features = refl;
      other-feature = refl;
      spelled_out = refl;
    }
