-- The examples of `specs/Examples`, computed.
use mathlib.Core.Path.{◌≡◌, refl}
use mathlib.Core.List.{[], ◌∷◌, ◌++◌, flat_map}
use mathlib.Core.Option.{bind, or_else}
use lib.ListN.{replicate, drop}
use Rattle.graphs.specs.Rows.{from, target, links_of}
use Rattle.graphs.specs.Order.{all_of, within as walks, fits_at, subsumes}
use Rattle.graphs.specs.Number.{canonical, visit, each, member, index_of, out_degree, link_count, row_of}
use Rattle.graphs.specs.Generalize.{generalization_by}
use Rattle.graphs.specs.Unify.{unification_by, class_graph, class_name, has_cycle, has_clash, first_of, any_of, deep, merge, apart, unsettled, close, class_link, class_label}
use Rattle.graphs.specs.Difference.{difference, kept_link, keeps, kept_itself, differ, lead, leaders, group_of, spread, touch, bare, covers, incoming, select, links_from, least_of, meet_over, meet_where, by_number}
use Rattle.graphs.specs.OfRows.{same_pair}
use Rattle.lattice.specs.Table.{every, last, below, sized, confined, reflexive, antisymmetric, transitive, least, greatest, ordered, is_meet, is_join, meet, join, bounded, restores, is_wanted, wanted}
use Rattle.acceptance.specs.Reply.{opened}
use Rattle.lattice.specs.Labels.{wanted_label}
use Rattle.decode.specs.Decode.{bit_of, label_length, label_of, take_links, take_row, take_rows, decoded}
use Rattle.encoder.specs.Encode.{bits_from, is_full, encoded_label, encoded_row, encoded_rows, encoded}
use Rattle.encode.specs.Encode.{fitted, written_out}
use Rattle.peeling.specs.Range.{label_in_range}
use Rattle.record.specs.Read.{in_range, cyclic, reaches_all, reading}
use Rattle.record.specs.declared.GraphFault.TheVariants.{Malformed}
use Rattle.difference.specs.Promise.{wanted_along, all_wanted_along, difference_along}
use Rattle.difference.specs.Difference.{first_at, over, differed, differed_rows}
use Rattle.replies.specs.declared.Side.TheVariants.{First, Second}
use Rattle.replies.specs.Replies.{Length, Graph, NoRoom, WrongVersion, NoStoreRoom}
use Rattle.replies.specs.Reply.{resulting}
use Rattle.engine.specs.Generalizing.{generalized}
use Rattle.engine.specs.Unifying.{unified_rows}
use Rattle.calls.specs.Calls.{generalizing, unifying, differing}
use Rattle.versions.specs.State.{
  blank,
  common_part,
  combination,
  difference_of,
  two_bytes,
  map_of,
  measured,
  state_of,
  within,
  differences,
  stored,
  way_from,
  way,
  take_measured,
  starts_with,
  restored,
  unpacked,
  held,
}
use Rattle.store.specs.Calls.{putting, dropping, fetching}
use Rattle.store.specs.Examples.{diamond, P, R, fresh, one_version, two_versions}

module _ where
  pub examples :
      (putting 4 diamond fresh 1 R ≡ resulting (Length 37) (one_version ++ drop 37 fresh)) ×
      (putting 4 diamond (one_version ++ replicate 23 7) 0 P ≡ resulting (Length 59) (two_versions ++ (7 ∷ []))) ×
      -- "the used bytes are those of an empty store into which the remaining programs were put"
      (dropping 4 diamond (two_versions ++ (9 ∷ [])) 0 ≡ resulting (Length 37) (one_version ++ drop 37 (two_versions ++ (9 ∷ [])))) ×
      (dropping 4 diamond (one_version ++ replicate 23 7) 1 ≡ resulting (Length 2) (0 ∷ 0 ∷ drop 2 (one_version ++ replicate 23 7))) ×
      (fetching 4 diamond (two_versions ++ (9 ∷ [])) 1 (replicate 22 5) ≡ resulting (Length 21) (R ++ (5 ∷ []))) ×
      (fetching 4 diamond (two_versions ++ (9 ∷ [])) 1 (replicate 20 5) ≡ resulting NoRoom (replicate 20 5)) ×
      -- 20
      (fetching 4 diamond (two_versions ++ (9 ∷ [])) 2 [] ≡ resulting WrongVersion []) ×
      (putting 4 diamond two_versions 1 P ≡ resulting WrongVersion two_versions) ×
      (putting 4 diamond two_versions 16 P ≡ resulting WrongVersion two_versions) ×
      -- 21: a byte is missing
      (putting 4 diamond (one_version ++ replicate 21 7) 0 P ≡ resulting NoStoreRoom (one_version ++ replicate 21 7)) ×
      -- 4 of the first: no state; then of the second
      (putting 4 diamond (0 ∷ []) 0 P ≡ resulting (Graph Malformed First) (0 ∷ [])) ×
      (dropping 4 diamond (7 ∷ drop 1 two_versions) 1 ≡ resulting (Graph Malformed First) (7 ∷ drop 1 two_versions)) ×
      -- what stands behind a state is not looked at: version 1 is P here
      (dropping 4 diamond (2 ∷ drop 1 two_versions) 1 ≡ resulting (Length 2) (0 ∷ 0 ∷ drop 2 two_versions)) ×
      (putting 4 diamond fresh 0 [] ≡ resulting (Graph Malformed Second) fresh)
  unfolding
      bind or_else
      generalizing generalized unifying unified_rows differing differed_rows differed all_wanted_along difference_along wanted_along over first_at
      opened sized ordered confined reflexive antisymmetric transitive least greatest bounded meet is_meet join is_join every last below
      restores is_wanted wanted wanted_label
      reading decoded take_rows take_row label_length label_of take_links bit_of in_range label_in_range all_of cyclic any_of deep reaches_all
      canonical visit each member target from link_count out_degree row_of links_of index_of
      written_out fitted encoded encoded_rows encoded_row encoded_label is_full bits_from
      generalization_by same_pair
      unification_by class_graph class_name has_cycle has_clash first_of merge apart unsettled close class_link class_label
      subsumes walks fits_at flat_map
      difference differ kept_link keeps kept_itself lead leaders group_of spread touch bare covers incoming select links_from least_of
      meet_over meet_where by_number
      blank common_part combination difference_of two_bytes map_of measured state_of within differences stored way_from way take_measured starts_with
      restored unpacked held putting dropping fetching
  examples = (refl, refl, refl, refl, refl, refl, refl, refl, refl, refl, refl, refl, refl, refl)
